-- What a call leaves to those who read pinned files, and to running moves.
use Rattle.std.specs.Prelude.{Bool}
use Rattle.tier_store.specs.Moving.{LeavesLater}
use Rattle.tier_store.specs.Pinned.{SeenAll, KeepsShown, LeavesFronts}
use Rattle.tier_store.specs.Revival.{KeepsWhole}

-- Whatever was shown of a file is shown still. Files that are listed or in limbo are so still, and begin as they did, at every moment of the call.
-- The names of stores 2 and 3 have what they had, and limbo of each store stays whole.
pub record Frame (tells : Bool) (old new : SeenAll) : Type 0 where
  pub shown : KeepsShown tells old new
  pub fronts : LeavesFronts tells old new
  pub leaves : LeavesLater tells old new
  pub whole : KeepsWhole tells old new
