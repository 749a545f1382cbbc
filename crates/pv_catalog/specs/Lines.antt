-- The line of a row: a variable that was renamed has a row for each of its names, each over the one before. By their numbers, first to last.
use Rattle.std.specs.Prelude.{ℕ, List, [], ◌∷◌, ◌++◌, length, get_or, Option, Some, None}
use Rattle.pv_catalog.specs.declared.row.Row.{Row}

-- the line of a base, nothing where there is none
abbrev pub line_known : List (List ℕ) → Option ℕ → List ℕ
line_known lines None = []
line_known lines (Some b) = get_or lines b []

-- row by row each number goes behind the line of the row's base, which is known already
abbrev pub lines : List (List ℕ) → List Row → List (List ℕ)
lines before [] = before
lines before (row ∷ rows) = lines (before ++ (line_known before row.base ++ length before ∷ []) ∷ []) rows

-- the numbers of the rows under this one and its own; none where there is no such row
abbrev pub line : List Row → ℕ → List ℕ
line rows i = get_or (lines [] rows) i []
