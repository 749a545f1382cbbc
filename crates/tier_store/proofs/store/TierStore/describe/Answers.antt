use Rattle.std.proofs.Common.{◌≡◌, ◌<◌, List, Some, length, refl, sym, ◌∙◌, ap, subst, arith}
use Rattle.std.specs.Prelude.{slice_get}
use Rattle.std.proofs.lemmas.List.{length-map}
use Rattle.std.proofs.lemmas.Option.{slice_get-get_or}
use Rattle.pv_catalog.specs.Catalogue.{CatalogueState}
use Rattle.pv_catalog.specs.declared.row.Row.{Row}
use Rattle.series_model.specs.Series.{over}
use Rattle.series_model.specs.declared.sample.Sample.{Sample}
use Rattle.gate_journal.specs.DiskShown.{shown_by}
use Rattle.store_manifest.specs.Manifest.{ManifestState}
use Rattle.durable_write.specs.Held.{entry_of}
use Rattle.durable_write.specs.Plan.{of_row}
use Rattle.tier_store.specs.Details.{IsTally}
use Rattle.tier_store.specs.Pinning.{entries_of}
use Rattle.tier_store.specs.Seen.{seen_on}
use Rattle.tier_store.specs.Stores.{whole_in}
use Rattle.tier_store.proofs.Tallies.{ends_last, own_files}
use Rattle.tier_store.proofs.store.TierStore.describe.Goals as goal

pub returns-clause-described : goal.returns-clause-described
returns-clause-described g c held has =
    let self = c.args.self.now in
    let disk = g.D.Disk in
    let row = c.args.row in
    let at = seen_on (shown_by disk) disk.faults self.catalogue self.manifests.items self.disk in
    let same = c.in_ok-durable.ensures.same in
    let rows : c.rows.result.now ≡ self.catalogue.rows = c.rows.ensures.value ∙ ap (λ (s : CatalogueState). s.rows) same.0 in
    let low : row < length c.rows.result.now = subst (λ (rs : List Row). row < length rs) (sym rows) c.requires.row in
    let found = c.index-rows-row.result in
    let here : slice_get c.rows.result.now row ≡ Some found = slice_get-get_or c.rows.result.now row found low ∙ ap (λ (r : Row). Some r) (sym c.index-rows-row.is) in
    let lists = ap (λ m. m.items) same.1 in
    let tail : c.items.result.now ≡ c.args.tail.now = c.items.ensures in
    let t = c.in_ok-durable.durable in
    record {
      row = found;
      here = ap (λ (rs : List Row). slice_get rs row) (sym (rows ∙ has.known.rows)) ∙ here;
      known = (c.in_ok-clone.ensures.cases, c.in_ok-copied.ensures, refl);
      short = ap length (c.own_entries.ensures ∙ (ap (λ (ms : List ManifestState). entries_of row (slice_get ms 0)) (c.deref.ensures.value ∙ lists) ∙ own_files disk.tells at held has 0 row (omega arith))) ∙ length-map (of_row row held.short) entry_of;
      medium = ap length (c.own_entries-2.ensures ∙ (ap (λ (ms : List ManifestState). entries_of row (slice_get ms 1)) (c.deref-2.ensures.value ∙ lists) ∙ own_files disk.tells at held has 1 row (omega arith))) ∙ length-map (of_row row held.medium) entry_of;
      long = ap length (c.own_entries-3.ensures ∙ (ap (λ (ms : List ManifestState). entries_of row (slice_get ms 2)) (c.deref-3.ensures.value ∙ lists) ∙ own_files disk.tells at held has 2 row (omega arith))) ∙ length-map (of_row row held.long) entry_of;
      counted = λ told stands.
          let whole = whole_in row held in
          let tally = c.in_ok-durable.ensures.tally told held has stands in
          let all : IsTally (over whole c.args.tail.now) c.in-Some.accepted = subst (λ (l : List Sample). IsTally (over whole l) c.in-Some.accepted) tail (c.in-Some.ensures whole tally) in
          record {
            durable_is = tally.count;
            accepted_is = all.count;
            first = all.first;
            last = ends_last c.in-Some.accepted.last (over whole c.args.tail.now) all.last;
          };
    }
