-- Moves by their numbers.
use Rattle.std.specs.Prelude.{◌≡◌, ◌==◌, ℕ, List, Option, Some, None, slice_get, if◌then◌else◌}
use Rattle.moves.specs.declared.table.Running.{Running}

-- what stands at a place, if the place is there
abbrev pub inner : {A : Type 0} → Option (Option A) → Option A
inner None = None
inner (Some o) = o

-- the move of this number
abbrev pub at : {M : Type 0} → List (Option (Running M)) → ℕ → Option (Running M)
at slots k = inner (slice_get slots k)

-- a move of this number and series runs
pub record IsOf {M : Type 0} (slots : List (Option (Running M))) (number series : ℕ) : Type 0 where
  pub running : Running M
  pub runs : at slots number ≡ Some running
  pub own : running.series ≡ series

-- the number that a series has, once that of a slot is told of its move's series
abbrev pub told : {M : Type 0} → Option (Running M) → ℕ → ℕ → Option ℕ → Option ℕ
told None number series before = before
told (Some running) number series before = if running.series == series then Some number else before
