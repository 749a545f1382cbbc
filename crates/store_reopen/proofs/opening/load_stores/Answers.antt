use Rattle.std.proofs.Common.{◌≡◌, ◌+◌, List, length, refl, sym, ◌∙◌, ap, subst}
use Rattle.std.specs.Prelude.{All, slice_get}
use Rattle.std.proofs.lemmas.Result.{err_from_is_err_and}
use Rattle.disk_model.specs.Files.{Files}
use Rattle.gate_journal.specs.DiskShown.{shown_by}
use Rattle.partition_names.specs.declared.granularity.Granularity.{Granularity}
use Rattle.store_manifest.specs.Batches.{Configured}
use Rattle.store_manifest.specs.Manifest.{ManifestState}
use Rattle.pv_catalog.specs.declared.row.Row.{Row}
use Rattle.pv_catalog.specs.Rows.{IsCatalogue}
use Rattle.durable_write.proofs.Commits.{other_journal}
use Rattle.store_reopen.proofs.Having.{kept_reads, all_there_in, same_granularities, kept_then, kept_reading}
use Rattle.store_reopen.specs.Loading.{Manifest}
use Rattle.store_reopen.specs.Reopen.{stores_of, lists_of}
use Rattle.store_reopen.specs.Verdict.{AreSaid, IsThere, HasRow}
use Rattle.store_reopen.proofs.Verdicts.{are_said}
use Rattle.store_reopen.proofs.opening.load_stores.Goals as goal

-- the same of the rows and the manifests that a call is passed
said_as : (gs : List Granularity) (files : Files) (rows r₂ : List Row) (ms m₂ : List ManifestState) → r₂ ≡ rows → m₂ ≡ ms → AreSaid gs files rows (lists_of ms) → AreSaid gs files r₂ (lists_of m₂)
said_as gs files rows r₂ ms m₂ same_rows same_lists said = subst (λ (l : List ManifestState). AreSaid gs files r₂ (lists_of l)) (sym same_lists) (subst (λ (r : List Row). AreSaid gs files r (lists_of ms)) (sym same_rows) said)

pub load_catalogue-requires : goal.load_catalogue-requires
load_catalogue-requires g c = record { unopened = λ tells. (c.requires.unopened tells).0 }

pub load_manifests-requires : goal.load_manifests-requires
load_manifests-requires g c = record { unopened = λ tells i low. (c.load_catalogue.ensures.keeps tells (stores_of c.args.config.now)).none_opened (Manifest i) ((c.requires.unopened tells).1 i low) }

pub check_rows-requires : goal.check_rows-requires
check_rows-requires g c = record { three = ap length c.deref.ensures.value ∙ c.in_ok-manifests.ensures.loaded.three }

pub check_files-requires : goal.check_files-requires
check_files-requires g c = record {
  three = ap length c.deref-2.ensures.value ∙ c.in_ok-manifests.ensures.loaded.three;
  of_rows = λ i m here. c.in_ok-check_rows.ensures.of_rows i m (ap (λ (l : List ManifestState). slice_get l i) (c.deref.ensures.value ∙ sym c.deref-2.ensures.value) ∙ here);
}

pub returns-in_err-catalogue-clause-told : goal.returns-in_err-catalogue-clause-told
returns-in_err-catalogue-clause-told g c tells =
    let p = err_from_is_err_and c.from_residual.result c.from_residual.ensures.1 in
    rw (p.1, p.2) (c.in_err-catalogue.ensures.told tells (stores_of c.args.config.now))

pub returns-in_err-catalogue-clause-keeps : goal.returns-in_err-catalogue-clause-keeps
returns-in_err-catalogue-clause-keeps g c tells = c.load_catalogue.ensures.keeps tells (stores_of c.args.config.now)

pub returns-in_err-manifests-clause-told : goal.returns-in_err-manifests-clause-told
returns-in_err-manifests-clause-told g c tells =
    let p = err_from_is_err_and c.from_residual-in_err-manifests.result c.from_residual-in_err-manifests.ensures.1 in
    rw (p.1, p.2) (c.in_err-manifests.ensures.told tells (g.D.Disk.files c.args.disk.now) c.in_ok-catalogue.catalogue.rows (c.in_ok-catalogue.ensures.rows tells) (λ i n low own. c.load_catalogue.ensures.others tells n (λ too. other_journal (i + 1) n too own)))

pub returns-in_err-manifests-clause-keeps : goal.returns-in_err-manifests-clause-keeps
returns-in_err-manifests-clause-keeps g c tells = (kept_then (stores_of c.args.config.now) (shown_by g.D.Disk c.args.disk.now) (shown_by g.D.Disk c.load_catalogue.new.disk) (shown_by g.D.Disk c.load_manifests.new.disk) (c.load_catalogue.ensures.keeps tells (stores_of c.args.config.now)) (c.load_manifests.ensures.keeps tells))

pub returns-in_err-check_rows-clause-told : goal.returns-in_err-check_rows-clause-told
returns-in_err-check_rows-clause-told g c tells =
    let p = err_from_is_err_and c.from_residual-in_err-check_rows.result c.from_residual-in_err-check_rows.ensures.1 in
    rw (p.1, p.2) (c.in_err-check_rows.ensures.told (stores_of c.args.config.now) (g.D.Disk.files c.args.disk.now) refl (said_as (stores_of c.args.config.now) (g.D.Disk.files c.args.disk.now) c.in_ok-catalogue.catalogue.rows c.rows-rows.result.now c.in_ok-manifests.manifests.items c.deref.result.now c.rows-rows.ensures.value c.deref.ensures.value (are_said (stores_of c.args.config.now) (g.D.Disk.files c.load_catalogue.new.disk) (g.D.Disk.files c.args.disk.now) c.in_ok-catalogue.catalogue.rows c.in_ok-manifests.manifests.items refl c.in_ok-manifests.ensures.loaded.three (c.in_ok-catalogue.ensures.rows tells) (c.in_ok-manifests.ensures.loaded.said tells) c.in_ok-manifests.ensures.loaded.granularity (λ i n low own. c.load_catalogue.ensures.others tells n (λ too. other_journal (i + 1) n too own)))))

pub returns-in_err-check_rows-clause-keeps : goal.returns-in_err-check_rows-clause-keeps
returns-in_err-check_rows-clause-keeps g c tells = (kept_then (stores_of c.args.config.now) (shown_by g.D.Disk c.args.disk.now) (shown_by g.D.Disk c.load_catalogue.new.disk) (shown_by g.D.Disk c.load_manifests.new.disk) (c.load_catalogue.ensures.keeps tells (stores_of c.args.config.now)) (c.load_manifests.ensures.keeps tells))

pub returns-in_err-check_files-clause-told : goal.returns-in_err-check_files-clause-told
returns-in_err-check_files-clause-told g c tells =
    let p = err_from_is_err_and c.from_residual-in_err-check_files.result c.from_residual-in_err-check_files.ensures.1 in
    rw (p.1, p.2) (c.in_err-check_files.ensures.told tells (stores_of c.args.config.now) (g.D.Disk.files c.args.disk.now) refl (said_as (stores_of c.args.config.now) (g.D.Disk.files c.args.disk.now) c.in_ok-catalogue.catalogue.rows c.rows-rows.result.now c.in_ok-manifests.manifests.items c.deref-2.result.now c.rows-rows.ensures.value c.deref-2.ensures.value (are_said (stores_of c.args.config.now) (g.D.Disk.files c.load_catalogue.new.disk) (g.D.Disk.files c.args.disk.now) c.in_ok-catalogue.catalogue.rows c.in_ok-manifests.manifests.items refl c.in_ok-manifests.ensures.loaded.three (c.in_ok-catalogue.ensures.rows tells) (c.in_ok-manifests.ensures.loaded.said tells) c.in_ok-manifests.ensures.loaded.granularity (λ i n low own. c.load_catalogue.ensures.others tells n (λ too. other_journal (i + 1) n too own)))) (λ n other. (c.load_manifests.ensures.keeps tells).now.elsewhere n other ∙ (c.load_catalogue.ensures.keeps tells (stores_of c.args.config.now)).now.elsewhere n other))

pub returns-in_err-check_files-clause-keeps : goal.returns-in_err-check_files-clause-keeps
returns-in_err-check_files-clause-keeps g c tells = (kept_then (stores_of c.args.config.now) (shown_by g.D.Disk c.args.disk.now) (shown_by g.D.Disk c.load_manifests.new.disk) (shown_by g.D.Disk c.check_files.new.disk) (kept_then (stores_of c.args.config.now) (shown_by g.D.Disk c.args.disk.now) (shown_by g.D.Disk c.load_catalogue.new.disk) (shown_by g.D.Disk c.load_manifests.new.disk) (c.load_catalogue.ensures.keeps tells (stores_of c.args.config.now)) (c.load_manifests.ensures.keeps tells)) (kept_reading (stores_of c.args.config.now) (shown_by g.D.Disk c.load_manifests.new.disk) (shown_by g.D.Disk c.check_files.new.disk) (c.check_files.ensures.reads tells).same (c.check_files.ensures.reads tells).any_moment (c.check_files.ensures.reads tells).same_opened))

pub returns-clause-loaded : goal.returns-clause-loaded
returns-clause-loaded g c =
    let gs = stores_of c.args.config.now in
    let cat = c.in_ok-catalogue.ensures in
    let lists = c.in_ok-manifests.ensures.loaded in
    let mid = shown_by g.D.Disk c.load_manifests.new.disk in
    let new = shown_by g.D.Disk c.check_files.new.disk in
    let seen = g.D.Disk.files c.args.disk.now in
    let rows = c.in_ok-catalogue.catalogue.rows in
    let read = c.check_files.ensures in
    record {
      stored = λ tells.
          let one = c.in_ok-manifests.ensures.catalogue tells c.in_ok-catalogue.catalogue cat.journal.0 (cat.stored tells) in
          kept_reads IsCatalogue c.in_ok-catalogue.catalogue.journal mid new rows one (read.reads tells).same (read.reads tells).any_moment (read.reads tells).same_opened;
      kept = λ tells i m here. kept_reads (Configured m.granularity) m.journal mid new m.entries (lists.kept tells i m here) (read.reads tells).same (read.reads tells).any_moment (read.reads tells).same_opened;
      said = λ tells. are_said gs (g.D.Disk.files c.load_catalogue.new.disk) seen rows c.in_ok-manifests.manifests.items refl lists.three (cat.rows tells) (lists.said tells) lists.granularity (λ i n low own. c.load_catalogue.ensures.others tells n (λ too. other_journal (i + 1) n too own));
      there = λ tells i m here.
          let passed = ap (λ (l : List ManifestState). slice_get l i) c.deref-2.ensures.value ∙ here in
          let there = subst (λ (r : List Row). All (IsThere i (g.D.Disk.files c.load_manifests.new.disk) r) m.entries) c.rows-rows.ensures.value (c.in_ok-check_files.ensures.there tells i m passed) in
          all_there_in i (g.D.Disk.files c.load_manifests.new.disk) seen rows m.entries (λ n other. (c.load_manifests.ensures.keeps tells).now.elsewhere n other ∙ (c.load_catalogue.ensures.keeps tells gs).now.elsewhere n other) there;
      ready = record {
        sound = cat.journal.1;
        sound_lists = lists.sound;
        granularity = same_granularities gs c.in_ok-manifests.manifests.items lists.three lists.granularity;
        nested = lists.nested;
        rows = c.rows-rows.ensures.are;
        entries = lists.are;
        of_rows = λ i m here. subst (λ (r : List Row). All (HasRow r) m.entries) c.rows-rows.ensures.value (c.in_ok-check_rows.ensures.of_rows i m (ap (λ (l : List ManifestState). slice_get l i) c.deref.ensures.value ∙ here));
      };
      name = cat.journal.0;
      names = lists.names;
    }

pub returns-clause-keeps : goal.returns-clause-keeps
returns-clause-keeps g c tells = (kept_then (stores_of c.args.config.now) (shown_by g.D.Disk c.args.disk.now) (shown_by g.D.Disk c.load_manifests.new.disk) (shown_by g.D.Disk c.check_files.new.disk) (kept_then (stores_of c.args.config.now) (shown_by g.D.Disk c.args.disk.now) (shown_by g.D.Disk c.load_catalogue.new.disk) (shown_by g.D.Disk c.load_manifests.new.disk) (c.load_catalogue.ensures.keeps tells (stores_of c.args.config.now)) (c.load_manifests.ensures.keeps tells)) (kept_reading (stores_of c.args.config.now) (shown_by g.D.Disk c.load_manifests.new.disk) (shown_by g.D.Disk c.check_files.new.disk) (c.check_files.ensures.reads tells).same (c.check_files.ensures.reads tells).any_moment (c.check_files.ensures.reads tells).same_opened))
