use Rattle.std.proofs.Common.{length, List, ◌↔◌}
use Rattle.store_manifest.specs.declared.entry.Entry.{Entry}
use Rattle.store_manifest.specs.Batches.{OnlySets}
use Rattle.store_manifest.specs.Listing.{entries_of, AreLists}
use Rattle.store_manifest.proofs.folding.make_sets.Given as goal

abbrev pub decreases-loop-rest : goal.decreases-loop-rest
decreases-loop-rest l = length l.rest

abbrev pub invariant-loop-rest : goal.invariant-loop-rest
invariant-loop-rest l = record {
  good : AreLists l.lists.listed.entries;
  says : (last : List Entry) → OnlySets l.g (entries_of l.lists.listed.entries) l.rest last ↔ OnlySets l.g (entries_of l.fn.lists.listed.entries) l.bytes last;
}
