use Rattle.std.proofs.Common.{◌≡◌, ◌<◌, ℕ, [], Some, length}
use Rattle.std.specs.List.{flat_map}
use Rattle.pv_catalog.specs.Lines.{line_known, lines}
use Rattle.tier_store.specs.Counting.{behind}
use Rattle.tier_store.specs.Tallying.{end_of_files, entries_in, entries_of_line}
use Rattle.tier_store.proofs.store.TierStore.last_of.Given as goal

abbrev pub invariant-loop-next : goal.invariant-loop-next
invariant-loop-next g l =
    let ms = l.fn.self.manifests.items in
    let rows = l.fn.self.catalogue.rows in
    record {
      within : (i : ℕ) → l.next ≡ Some i → i < length rows;
      left : end_of_files (behind l.last) (flat_map (λ (k : ℕ). entries_in k ms) (line_known (lines [] rows) l.next)) ≡ end_of_files 0 (entries_of_line l.fn.row rows ms);
    }

abbrev pub decreases-loop-next : goal.decreases-loop-next
decreases-loop-next g l = behind l.next
