-- Strays: files of stores 1 to 3 that no list, no limbo and no running move knows.
use Rattle.std.specs.FinMap.{FinMap}
use Rattle.std.specs.Ordering.{nat_cmp}
use Rattle.std.specs.Prelude.{◌≡◌, ◌⊎◌, ◌≤◌, Bool, List, Contains, IsErr, IsSome, IsTrue, Ok, OnOk, [], map}
use Rattle.disk_model.specs.Files.{Name, Files, Rose}
use Rattle.etl_mover.specs.Move.{Moving, part_file}
use Rattle.pins.specs.Pieces.{PinOf}
use Rattle.tier_store.specs.Limbo.{AreGone, IsListedName, IsSwept}
use Rattle.tier_store.specs.Pinned.{SeenAll}
use Rattle.tier_store.specs.Retiring.{names_in}
use Rattle.tier_store.specs.Seen.{IsSettled}
use Rattle.tier_store.specs.declared.removing.StoreSwept.{StoreSwept}
use Rattle.tier_store.specs.declared.retirement.RetireEnd.{RetireEnd}
use Rattle.tier_store.specs.declared.retirement.RetireEnd.TheVariants as ends

-- a store lists a file of this name, it is in limbo, or a running move has written it
abbrev pub IsKnownName : SeenAll → List Name → Name → Type 0
IsKnownName all written n = IsListedName all.stores n ⊎ (Contains (names_in all.limbo) n ⊎ Contains written n)

-- a file that none of them knows
pub record IsStray (all : SeenAll) (written : List Name) (n : Name) : Type 0 where
  pub numbered : 1 ≤ n.0
  pub file : IsSome (all.stores.files n)
  pub unknown : IsKnownName all written n → ⊥

-- Whatever is a stray afterwards was one before, with what moves had written then. What is said of files is said of a disk that tells them alone.
abbrev pub MakesNoStray : Bool → SeenAll → List Name → SeenAll → List Name → Type 0
MakesNoStray tells old written new rewritten = IsTrue tells → (n : Name) → IsStray new rewritten n → IsStray old written n

-- so it is of a call that has nothing to do with moves
abbrev pub LeavesNoStray : Bool → SeenAll → SeenAll → Type 0
LeavesNoStray tells old new = MakesNoStray tells old [] new []

-- and nothing stands in doubt then
abbrev pub LeavesTidy : Bool → SeenAll → SeenAll → Type 0
LeavesTidy tells old new = IsSettled new.stores × LeavesNoStray tells old new

-- MOVES

-- the files that a move is to list in the store to which it copies
abbrev pub targets : Moving → List Name
targets move = map (part_file move.destination move.name) move.pending

-- A step of copying writes none but files that the move is to list then, and what it was to list it is so still.
pub record WritesTargets (old new : Moving) (files later : Files) : Type 0 where
  pub others : (n : Name) → (Contains (targets new) n → ⊥) → later n ≡ files n
  pub still : (n : Name) → Contains (targets old) n → Contains (targets new) n

-- a retirement has removed what it was to remove
abbrev pub HasRemoved : RetireEnd → Type 0
HasRemoved (ends.Retired removed) = removed ≡ Ok tt
HasRemoved (ends.Again len copied) = Unit {0}

-- What an answer of a sweep says. Of the files in limbo at first those are counted that have left it and aren't listed. Where no removal failed, all that
-- were to go are gone, and no file is a stray that was none. Nothing stands in doubt, and the disk counted a fault where a removal failed.
pub record SweepsFiles (tells : Bool) (pins : FinMap nat_cmp PinOf) (copied : List Name) (old new : SeenAll) (swept : StoreSwept) : Type 0 where
  pub counted : IsSwept new.stores pins copied old.limbo new.limbo swept.files
  pub gone : IsTrue tells → OnOk swept.removed (AreGone new.stores pins copied old.limbo)
  pub cause : IsErr swept.removed → Rose old.stores.faults new.stores.faults
  pub settled : IsSettled new.stores
  pub tidy : swept.removed ≡ Ok tt → LeavesNoStray tells old new
