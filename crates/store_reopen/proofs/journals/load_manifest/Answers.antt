use Rattle.std.proofs.Common.{◌+◌, ◌-◌, Err, Some, inl, sym, ◌∙◌, ap, subst, arith}
use Rattle.disk_model.specs.Files.{Name}
use Rattle.gate_journal.specs.DiskShown.{shown_by}
use Rattle.gate_journal.proofs.Keeping.{says_stays}
use Rattle.partition_names.specs.declared.granularity.Granularity.{Granularity}
use Rattle.store_manifest.specs.Batches.{Configured, IsBadBatch}
use Rattle.store_manifest.specs.Entries.{AreEntries}
use Rattle.store_manifest.specs.Manifest.{StaysOrBegins, Lists, manifest_name}
use Rattle.store_reopen.specs.OneJournal.{NoneOpened, IsGate}
use Rattle.store_reopen.proofs.Having.{catalogue_stays, bad_again, bad_in, no_bad_entries, here_at, kept_list, kept_then, list_again, manifest_stays}
use Rattle.store_reopen.specs.Reopen.{stores_of}
use Rattle.store_reopen.specs.Verdict.{manifest_bad}
use Rattle.store_reopen.proofs.Verdicts.{nested_next}
use Rattle.store_reopen.proofs.journals.load_manifest.Goals as goal

pub returns-in-Ok-clause-keeps : goal.returns-in-Ok-clause-keeps
returns-in-Ok-clause-keeps g c tells =
    kept_list (stores_of c.args.config.now) (shown_by g.D.Disk c.args.disk.now) (shown_by g.D.Disk c.load.new.disk) c.args.place c.granularity.result (here_at c.args.config.now c.args.place (c.args.place + 1 - 1) c.granularity.result c.requires.place (omega arith) c.granularity.ensures.value) (c.load.ensures.leaves tells)

pub returns-in-Err-Disk-clause-keeps : goal.returns-in-Err-Disk-clause-keeps
returns-in-Err-Disk-clause-keeps g c tells =
    kept_list (stores_of c.args.config.now) (shown_by g.D.Disk c.args.disk.now) (shown_by g.D.Disk c.load.new.disk) c.args.place c.granularity.result (here_at c.args.config.now c.args.place (c.args.place + 1 - 1) c.granularity.result c.requires.place (omega arith) c.granularity.ensures.value) (c.load.ensures.leaves tells)

pub returns-in-Err-BadJournal-clause-keeps : goal.returns-in-Err-BadJournal-clause-keeps
returns-in-Err-BadJournal-clause-keeps g c tells =
    kept_list (stores_of c.args.config.now) (shown_by g.D.Disk c.args.disk.now) (shown_by g.D.Disk c.load.new.disk) c.args.place c.granularity.result (here_at c.args.config.now c.args.place (c.args.place + 1 - 1) c.granularity.result c.requires.place (omega arith) c.granularity.ensures.value) (c.load.ensures.leaves tells)

pub returns-clause-keeps : goal.returns-clause-keeps
returns-clause-keeps g c tells =
    kept_list (stores_of c.args.config.now) (shown_by g.D.Disk c.args.disk.now) (shown_by g.D.Disk c.load.new.disk) c.args.place c.granularity.result (here_at c.args.config.now c.args.place (c.args.place + 1 - 1) c.granularity.result c.requires.place (omega arith) c.granularity.ensures.value) (c.load.ensures.leaves tells)

pub returns-in_err-file-in-Err-BadBatch-clause-keeps : goal.returns-in_err-file-in-Err-BadBatch-clause-keeps
returns-in_err-file-in-Err-BadBatch-clause-keeps g c tells =
    kept_then (stores_of c.args.config.now) _ _ _
    (kept_list (stores_of c.args.config.now) (shown_by g.D.Disk c.args.disk.now) (shown_by g.D.Disk c.load.new.disk) c.args.place c.granularity.result (here_at c.args.config.now c.args.place (c.args.place + 1 - 1) c.granularity.result c.requires.place (omega arith) c.granularity.ensures.value) (c.load.ensures.leaves tells))
    (list_again (stores_of c.args.config.now) (shown_by g.D.Disk c.load.new.disk) (shown_by g.D.Disk c.gate_of.new.disk) c.args.place c.granularity.result (here_at c.args.config.now c.args.place (c.args.place + 1 - 1) c.granularity.result c.requires.place (omega arith) c.granularity.ensures.value) c.in_ok-name.name c.in_ok-name.ensures (c.gate_of.ensures.leaves tells))

pub returns-in-Err-BadBatch-clause-keeps : goal.returns-in-Err-BadBatch-clause-keeps
returns-in-Err-BadBatch-clause-keeps g c tells =
    kept_then (stores_of c.args.config.now) _ _ _
    (kept_list (stores_of c.args.config.now) (shown_by g.D.Disk c.args.disk.now) (shown_by g.D.Disk c.load.new.disk) c.args.place c.granularity.result (here_at c.args.config.now c.args.place (c.args.place + 1 - 1) c.granularity.result c.requires.place (omega arith) c.granularity.ensures.value) (c.load.ensures.leaves tells))
    (list_again (stores_of c.args.config.now) (shown_by g.D.Disk c.load.new.disk) (shown_by g.D.Disk c.gate_of.new.disk) c.args.place c.granularity.result (here_at c.args.config.now c.args.place (c.args.place + 1 - 1) c.granularity.result c.requires.place (omega arith) c.granularity.ensures.value) c.in_ok-name.name c.in_ok-name.ensures (c.gate_of.ensures.leaves tells))

pub gate_of-requires : goal.gate_of-requires
gate_of-requires g c = record { unopened = λ tells. subst (λ (n : Name). NoneOpened n (g.D.Disk.opened c.load.new.disk)) (sym c.in_ok-name.ensures) (c.load.ensures.leaves tells).unopened }

pub returns-in-Err-BadJournal-clause-told : goal.returns-in-Err-BadJournal-clause-told
returns-in-Err-BadJournal-clause-told g c tells seen rows lists says earlier same =
    let broken = c.in-Err-BadJournal.ensures.refused.bad_journal tells c.in-Err-BadJournal.file c.in-Err-BadJournal.at (ap Err c.in-Err-BadJournal.field-0-is) in
    manifest_bad (record { rows = rows; rows_said = says; place = c.args.place; within = c.requires.place; lists = lists; earlier = earlier; bad = bad_in IsBadBatch (manifest_name (c.args.place + 1)) (g.D.Disk.files c.args.disk.now) seen c.in-Err-BadJournal.file c.in-Err-BadJournal.at (λ n own. sym (same n own)) (inl broken) })

pub returns-in-Err-BadBatch-clause-told : goal.returns-in-Err-BadBatch-clause-told
returns-in-Err-BadBatch-clause-told g c tells seen rows lists says earlier same =
    let bad = c.in-Err-BadBatch.ensures.refused.bad_batch tells c.in-Err-BadBatch.number (ap Err c.in-Err-BadBatch.field-0-is) in
    let file = c.in_ok-file-in-Err-BadBatch.file in
    let at = c.in_ok-file-in-Err-BadBatch.at in
    let gate = subst (λ (n : Name). IsGate n (g.D.Disk.files c.load.new.disk) c.in-Err-BadBatch.number file at) c.in_ok-name.ensures (c.in_ok-file-in-Err-BadBatch.ensures.gate tells) in
    let found = bad_again IsBadBatch no_bad_entries (manifest_name (c.args.place + 1)) (g.D.Disk.files c.args.disk.now) (g.D.Disk.files c.load.new.disk) _ bad.0 c.in-Err-BadBatch.number file at bad.1 bad.2 (c.load.ensures.leaves tells).reads.here gate in
    manifest_bad (record { rows = rows; rows_said = says; place = c.args.place; within = c.requires.place; lists = lists; earlier = earlier; bad = bad_in IsBadBatch (manifest_name (c.args.place + 1)) (g.D.Disk.files c.args.disk.now) seen file at (λ n own. sym (same n own)) found })

pub returns-clause-told : goal.returns-clause-told
returns-clause-told g c tells seen rows lists says earlier same =
    let d = c.in-Err-GranularityDiffers.ensures.refused.differs tells c.in-Err-GranularityDiffers.kept c.in-Err-GranularityDiffers.asked (ap Err c.in-Err-GranularityDiffers.field-0-is) in
    let here = (here_at c.args.config.now c.args.place (c.args.place + 1 - 1) c.granularity.result c.requires.place (omega arith) c.granularity.ensures.value) in
    record {
      rows = rows;
      rows_said = says;
      place = c.args.place;
      here = here ∙ ap (λ (h : Granularity). Some h) (sym d.0);
      lists = lists;
      earlier = earlier;
      entries = d.2;
      entries_said = says_stays (Configured c.in-Err-GranularityDiffers.kept) d.2 (manifest_name (c.args.place + 1)) (g.D.Disk.files c.args.disk.now) seen (λ n own. sym (same n own)) d.3;
      other = λ is. d.1 (is ∙ d.0);
    }

pub returns-in-Ok-clause-loaded : goal.returns-in-Ok-clause-loaded
returns-in-Ok-clause-loaded g c =
    let e = c.in-Ok.ensures.loaded in
    let here = here_at c.args.config.now c.args.place (c.args.place + 1 - 1) c.granularity.result c.requires.place (omega arith) c.granularity.ensures.value in
    record {
      kept = e.kept;
      said = λ tells. subst (λ (h : Granularity). Lists h c.in-Ok.manifest.entries (manifest_name (c.args.place + 1)) (g.D.Disk.files c.args.disk.now)) (sym e.manifest.1) (e.entries tells);
      name = e.manifest.0;
      sound = e.manifest.2;
      granularity = here ∙ ap (λ (h : Granularity). Some h) (sym e.manifest.1);
      nested = λ i few next. nested_next c.args.config.now i (c.args.place + 1 - 1) c.granularity.result c.granularity.ensures.good c.granularity.ensures.value few (next ∙ omega arith);
      are = subst (λ (h : Granularity). AreEntries h c.in-Ok.manifest.entries) (sym e.manifest.1) e.are;
    }

pub returns-in-Ok-clause-catalogue : goal.returns-in-Ok-clause-catalogue
returns-in-Ok-clause-catalogue g c tells catalogue named stored =
    catalogue_stays (c.args.place + 1) (StaysOrBegins c.granularity.result (manifest_name (c.args.place + 1))) catalogue.journal (shown_by g.D.Disk c.args.disk.now) (shown_by g.D.Disk c.load.new.disk)
    catalogue.rows named stored (c.load.ensures.leaves tells).reads.elsewhere (c.load.ensures.leaves tells).any_moment (c.load.ensures.leaves tells).opened

pub returns-in-Ok-clause-earlier : goal.returns-in-Ok-clause-earlier
returns-in-Ok-clause-earlier g c tells i m low named kept =
    manifest_stays (c.args.place + 1) (StaysOrBegins c.granularity.result (manifest_name (c.args.place + 1))) (i + 1) m (shown_by g.D.Disk c.args.disk.now) (shown_by g.D.Disk c.load.new.disk)
    named (λ is. absurd (omega (arith, is, low))) kept (c.load.ensures.leaves tells).reads.elsewhere (c.load.ensures.leaves tells).any_moment (c.load.ensures.leaves tells).opened
