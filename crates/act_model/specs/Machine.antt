-- The state of an archive: its rows, the retired files that pins may still read, pins, running moves, and the change that a failed
-- write may have made. Rows are told by their numbers, and each row has all that is known of its variable. Everything that an act may
-- change stands here, and what the code keeps is told as one such state.
use Rattle.std.specs.FinMap.{FinMap}
use Rattle.std.specs.Ordering.{nat_cmp}
use Rattle.std.specs.Prelude.{ℕ, ◌+◌, ◌==◌, ◌&&◌, List, [], ◌∷◌, Bool, true, false, if◌then◌else◌, Option, Some, None}
use Rattle.pb_messages.specs.declared.about.About.{About}
use Rattle.pb_messages.specs.declared.about.State.{State}
use Rattle.pv_name.specs.Key.{key_of}
use Rattle.series_model.specs.declared.batch.RowSamples.{RowSamples}
use Rattle.series_model.specs.declared.sample.Sample.{Sample}
use Rattle.act_model.specs.Limbo.{RowFile}
use Rattle.act_model.specs.Rows.{RowState, Store, size_of}
use Rattle.act_model.specs.Rule.{Rule}

-- a pin: whose it is, and the files that it names, as they were when it was made
pub record PinState : Type 0 where
  pub owner : ℕ
  pub pieces : List RowFile

-- a move copies, then has copied, then has its copies listed
pub data Stage : Type 0 where
  Copies : Stage
  HasCopied : Stage
  HasPublished : Stage

-- A running move: of a row's samples in a store that are before `to`, which is the end of the last of its parts; and what it has copied.
pub record MoveState : Type 0 where
  pub store : Store
  pub row : ℕ
  pub parts : ℕ
  pub to : ℕ
  pub stage : Stage
  pub copied : List Sample

-- The one durable change that an act may make: a row is added, a row's state is set, a row's variable gets a new name, samples of tails are
-- appended to the short term, copied samples are listed in the next store, or what is before a moment leaves a store.
pub data Change : Type 0 where
  AddsRow : (name : List ℕ) → (about : About) → Change
  SetsState : (row : ℕ) → (state : State) → Change
  Renames : (row : ℕ) → (name : List ℕ) → Change
  Appends : (batch : List RowSamples) → Change
  Publishes : (row : ℕ) → (store : Store) → (copied : List Sample) → Change
  Unlists : (row : ℕ) → (store : Store) → (to : ℕ) → Change

-- The state. `doubt` is the change that a failed write may have made: until an act settles it the state has it as not made. `doors` is
-- how many doors are open to links, and `faults` the disk's count of faults.
pub record Machine : Type 0 where
  pub rule : Rule
  pub rows : List RowState
  pub limbo : List RowFile
  pub pins : FinMap nat_cmp PinState
  pub moves : FinMap nat_cmp MoveState
  pub doubt : Option Change
  pub doors : ℕ
  pub faults : ℕ
  -- whether the disk tells its files and they stand as they are listed. Where not, no samples are seen in stores, limbo and pieces
  pub told : Bool

-- two texts are the same
abbrev pub same_bytes : List ℕ → List ℕ → Bool
same_bytes [] [] = true
same_bytes [] (y ∷ ys) = false
same_bytes (x ∷ xs) [] = false
same_bytes (x ∷ xs) (y ∷ ys) = x == y && same_bytes xs ys

-- the number of the first row that passes
abbrev pub place : (RowState → Bool) → ℕ → List RowState → Option ℕ
place p i [] = None
place p i (row ∷ rows) = if p row then Some i else place p (i + 1) rows

-- the row of a name
abbrev pub find_row : Machine → List ℕ → Option ℕ
find_row m name = place (λ row. same_bytes row.name name) 0 m.rows

-- the row with the key of this name
abbrev pub with_key : Machine → List ℕ → Option ℕ
with_key m name = place (λ row. same_bytes (key_of row.name) (key_of name)) 0 m.rows

-- the bytes that the intake holds
abbrev pub held_bytes : List RowState → ℕ
held_bytes [] = 0
held_bytes (row ∷ rows) = size_of row.tail + held_bytes rows
