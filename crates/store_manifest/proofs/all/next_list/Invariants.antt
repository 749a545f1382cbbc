use Rattle.std.proofs.Common.{◌≡◌, length}
use Rattle.std.specs.List.{flat_map}
use Rattle.store_manifest.specs.Listing.{own}
use Rattle.store_manifest.proofs.all.next_list.Given as goal

abbrev pub decreases-loop-list : goal.decreases-loop-list
decreases-loop-list l = length l.lists

abbrev pub invariant-loop-list : goal.invariant-loop-list
invariant-loop-list l = flat_map own l.lists ≡ flat_map own l.fn.lists
