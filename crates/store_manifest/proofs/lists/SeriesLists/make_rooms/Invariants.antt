use Rattle.std.proofs.Common.{◌≡◌, ℕ, take}
use Rattle.std.specs.BTreeMap.{get}
use Rattle.std.specs.Option.{unwrap_or}
use Rattle.std.specs.Ordering.{nat_cmp}
use Rattle.store_manifest.specs.Listing.{entries_of, sets_in, AreLists, HasRoom}
use Rattle.store_manifest.proofs.lists.SeriesLists.make_rooms.Given as goal

abbrev pub invariant-loop-change : goal.invariant-loop-change
invariant-loop-change l = record {
  good : AreLists l.self.listed.entries;
  entries : entries_of l.self.listed.entries ≡ entries_of l.fn.self.listed.entries;
  counted : (q : ℕ) → unwrap_or (get nat_cmp l.sets q) 0 ≡ sets_in q (take l.change-index l.changes);
  room : HasRoom l.self.listed.entries (take l.change-index l.changes);
}
