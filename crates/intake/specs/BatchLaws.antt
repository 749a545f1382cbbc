-- What a batch takes of tails, in other words than its definition: the rows that hold something, in order, up to the one with which the
-- bytes are enough.
use Rattle.std.specs.Prelude.{◌≡◌, ℕ, ◌+◌, ◌<◌, ◌≤◌, List, [], ◌∷◌, ◌++◌, max, if◌then◌else◌}
use Rattle.series_model.specs.Archive.{IsPrefix}
use Rattle.series_model.specs.declared.batch.RowSamples.{RowSamples}
use Rattle.intake.specs.Tails.{TailState, is_empty, size_of, batch_of}

-- the rows from this number on that hold something, with their tails
abbrev pub held_rows : ℕ → List TailState → List RowSamples
held_rows row [] = []
held_rows row (tail ∷ tails) = if is_empty tail.samples then held_rows (row + 1) tails else record { row = row; samples = tail.samples } ∷ held_rows (row + 1) tails

-- how many bytes the rows' samples have
abbrev pub bytes_of : List RowSamples → ℕ
bytes_of [] = 0
bytes_of (part ∷ parts) = size_of part.samples + bytes_of parts

-- a batch begins with the first row that holds something, and leaves none out up to its last
abbrev pub TakesAFront : Type 0
TakesAFront = (limit : ℕ) (tails : List TailState) → IsPrefix (batch_of limit tails) (held_rows 0 tails)

-- where a batch leaves a row, it has the bytes that were asked for, and at least one
abbrev pub TakesEnough : Type 0
TakesEnough = (limit : ℕ) (tails : List TailState) (part : RowSamples) (rest : List RowSamples) → held_rows 0 tails ≡ batch_of limit tails ++ part ∷ rest → max limit 1 ≤ bytes_of (batch_of limit tails)

-- without its last row a batch has fewer bytes than that
abbrev pub TakesNoMore : Type 0
TakesNoMore = (limit : ℕ) (tails : List TailState) (front : List RowSamples) (last : RowSamples) → batch_of limit tails ≡ front ++ last ∷ [] → bytes_of front < max limit 1
