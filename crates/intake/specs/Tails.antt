-- What an intake holds: for each row, by its number, the samples that were accepted and that no store lists yet. A row that the intake
-- was never told of has none. What changes of it is said row by row.
use Rattle.std.specs.Prelude.{◌≡◌, ◌≢◌, ℕ, ◌+◌, ◌≤◌, ◌^◌, List, [], ◌∷◌, length, max, nat_le, Bool, true, false, if◌then◌else◌}
use Rattle.std.specs.List.{slice_index_or}
use Rattle.series_model.specs.Limits.{intake_room}
use Rattle.series_model.specs.declared.sample.Sample.{Sample}
use Rattle.series_model.specs.declared.batch.RowSamples.{RowSamples}

-- a row's samples, and for how many more it has memory
pub record TailState : Type 0 where
  pub samples : List Sample
  pub spare : ℕ

-- what is held of a row that the intake was never told of
abbrev pub no_tail : TailState
no_tail = record { samples = []; spare = 0 }

-- what is held of a row
abbrev pub tail_at : List TailState → ℕ → TailState
tail_at tails row = slice_index_or tails row no_tail

-- how many bytes the samples have, each line with its newline
abbrev pub size_of : List Sample → ℕ
size_of [] = 0
size_of (s ∷ rest) = length s.line + 1 + size_of rest

-- how many bytes all tails have
abbrev pub held_bytes : List TailState → ℕ
held_bytes [] = 0
held_bytes (tail ∷ tails) = size_of tail.samples + held_bytes tails

-- the bytes are counted, and are no more than there is room for; rows have numbers of 32 bits
pub record IsIntake (tails : List TailState) (held : ℕ) : Type 0 where
  pub bytes : held ≡ held_bytes tails
  pub most : held ≤ intake_room
  pub few : length tails ≤ 2 ^ 32

-- each row has the samples that it had
abbrev pub KeepsTails : List TailState → List TailState → Type 0
KeepsTails old new = (row : ℕ) → (tail_at new row).samples ≡ (tail_at old row).samples

-- no row's spare fell
abbrev pub KeepsSpares : List TailState → List TailState → Type 0
KeepsSpares old new = (row : ℕ) → (tail_at old row).spare ≤ (tail_at new row).spare

-- the row has these samples now, and each other row those that it had
pub record SetsTail (row : ℕ) (samples : List Sample) (old new : List TailState) : Type 0 where
  pub own : (tail_at new row).samples ≡ samples
  pub others : (other : ℕ) → other ≢ row → (tail_at new other).samples ≡ (tail_at old other).samples

abbrev pub is_empty : {A : Type 0} → List A → Bool
is_empty [] = true
is_empty (x ∷ xs) = false

-- the tails that hold something, from this row's number on, until they have `limit` bytes with those taken before
abbrev pub batch_from : ℕ → List TailState → ℕ → ℕ → List RowSamples
batch_from limit [] row taken = []
batch_from limit (tail ∷ tails) row taken =
    if nat_le limit taken
    then []
    else if is_empty tail.samples then batch_from limit tails (row + 1) taken else record { row = row; samples = tail.samples } ∷ batch_from limit tails (row + 1) (taken + size_of tail.samples)

-- whole tails in the order of rows, until they have `limit` bytes; with a limit of 0 one
abbrev pub batch_of : ℕ → List TailState → List RowSamples
batch_of limit tails = batch_from (max limit 1) tails 0 0
