use Rattle.std.proofs.Common.{◌≡◌, ◌<◌, ◌++◌, ◌+◌, ℕ, List, [], length, take, get_or, refl, sym, ◌∙◌, ap, subst, arith}
use Rattle.std.specs.Prelude.{All}
use Rattle.std.specs.List.{flat_map}
use Rattle.disk_model.proofs.Passing.{passes_none}
use Rattle.gate_journal.specs.DiskShown.{shown_by}
use Rattle.pv_catalog.specs.Catalogue.{CatalogueState}
use Rattle.pv_catalog.proofs.Lines.{line_low}
use Rattle.series_model.specs.declared.sample.Sample.{Sample}
use Rattle.store_manifest.specs.Manifest.{ManifestState}
use Rattle.store_manifest.specs.declared.entry.Entry.{Entry}
use Rattle.tier_store.specs.Change.{Has}
use Rattle.tier_store.specs.Counting.{behind}
use Rattle.tier_store.specs.Details.{IsTally}
use Rattle.tier_store.specs.Seen.{Seen}
use Rattle.tier_store.specs.Stores.{overs}
use Rattle.tier_store.specs.Tallying.{Adds, RiseFrom, end_of_files, entries_in, listed_count}
use Rattle.tier_store.proofs.Lines.{then_reads}
use Rattle.tier_store.proofs.ReadCalls.{has_read}
use Rattle.tier_store.proofs.Tallies.{ends_both, counts_more, listed_more, overs_more}
use Rattle.tier_store.proofs.Retirements.{same_seen}
use Rattle.tier_store.proofs.store.TierStore.tally_line.Goals as goal

pub loop-id-init : goal.loop-id-init
loop-id-init g c = record {
  tally = λ told held has stands. c.none-tally.ensures;
  listed = λ rise. c.none-tally.ensures.count;
  ends = c.none-tally.ensures.last;
  kept = λ held has. has;
  same = (refl, refl, refl, refl);
  reads = λ told. record { same = refl; same_opened = refl; any_moment = passes_none (λ a b. b ≡ a) _ (λ image left. refl) };
  faults = omega arith;
}

pub tally_row-requires-clause-row : goal.tally_row-requires-clause-row
tally_row-requires-clause-row g c =
    let ids = c.deref-id-items.result.now in
    let rows = c.args.self.now.catalogue.rows in
    let low : All (λ (k : ℕ). k < length rows) ids = subst (All (λ (k : ℕ). k < length rows)) (sym (c.deref-id-items.ensures.value ∙ c.in_ok-line.ensures)) (line_low rows c.args.row) in
    subst (λ (s : CatalogueState). get_or ids c.loop-id.id-index 0 < length s.rows) (sym c.loop-id.invariant.same.0) (low c.loop-id.id-index 0 c.loop-id-test.true)

pub tally_row-requires-clause-has : goal.tally_row-requires-clause-has
tally_row-requires-clause-has g c = (c.requires.has.0, c.loop-id.invariant.kept c.requires.has.0 c.requires.has.1)

pub loop-id-preserved : goal.loop-id-preserved
loop-id-preserved g c =
    let disk = g.D.Disk in
    let inv = c.loop-id.invariant in
    let says = c.in_ok-tally.ensures in
    let was = c.loop-id.self in
    let now = c.tally_row.new.self in
    let ids = c.deref-id-items.result.now in
    let ms = c.args.self.now.manifests.items in
    let i = c.loop-id.id-index in
    let row = get_or ids i 0 in
    let old = c.loop-id.tally in
    let new = c.in_ok-tally.tally in
    let lists : was.manifests.items ≡ ms = ap (λ m. m.items) inv.same.1 in
    let before = flat_map (λ (k : ℕ). entries_in k ms) (take i ids) in
    let own = entries_in row ms in
    let more : flat_map (λ (k : ℕ). entries_in k ms) (take (i + 1) ids) ≡ before ++ own = listed_more ms ids i c.loop-id-test.true in
    record {
      tally = λ told held has stands.
          subst (λ (l : List Sample). IsTally l new) (sym (overs_more held [] ids i c.loop-id-test.true)) (says.tally told held (overs held [] (take i ids)) (inv.kept held has) stands (inv.tally told held has stands));
      listed = subst (λ (es : List Entry). RiseFrom 0 es → new.count ≡ listed_count es) (sym more) (counts_more old new before own inv.listed inv.ends (subst (λ (l : List ManifestState). Adds old (entries_in row l) new) lists says.listed));
      ends = subst (λ (es : List Entry). behind new.last ≡ end_of_files 0 es) (sym more)
          (ends_both 0 (behind old.last) (behind new.last) before own inv.ends (subst (λ (l : List ManifestState). behind new.last ≡ end_of_files (behind old.last) (entries_in row l)) lists says.ends));
      kept = λ held has.
          subst (λ (s : Seen). Has disk.tells s held)
          (same_seen (shown_by disk) disk.faults was.catalogue now.catalogue was.manifests.items now.manifests.items now.disk now.disk says.same.0 (ap (λ m. m.items) says.same.1) refl)
          (has_read (shown_by disk) disk.faults disk.tells was.catalogue was.manifests.items was.disk now.disk says.reads held (inv.kept held has));
      same = (says.same.0 ∙ inv.same.0, says.same.1 ∙ inv.same.1, says.same.2 ∙ inv.same.2, says.same.3 ∙ inv.same.3);
      reads = λ told. then_reads _ _ _ (inv.reads told) (says.reads told);
      faults = omega (arith, inv.faults, says.faults);
    }
