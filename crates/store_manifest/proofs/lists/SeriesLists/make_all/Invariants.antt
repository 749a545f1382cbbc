use Rattle.std.proofs.Common.{◌≡◌, drop}
use Rattle.store_manifest.specs.Entries.{all_changed}
use Rattle.store_manifest.specs.Listing.{entries_of, AreLists, HasRoom}
use Rattle.store_manifest.proofs.lists.SeriesLists.make_all.Given as goal

abbrev pub invariant-loop-change : goal.invariant-loop-change
invariant-loop-change l = record {
  good : AreLists l.self.listed.entries;
  room : HasRoom l.self.listed.entries (drop l.change-index l.changes);
  entries : all_changed (entries_of l.self.listed.entries) (drop l.change-index l.changes) ≡ all_changed (entries_of l.fn.self.listed.entries) l.changes;
}
