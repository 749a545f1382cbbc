-- Which series of a store moves next.
use Rattle.std.specs.Prelude.{◌≡◌, ◌⊎◌, ◌≤◌, ◌<◌, ◌==◌, ℕ, List, filter, Option, Some, None, IsSome}
use Rattle.store_manifest.specs.declared.entry.Entry.{Entry}
use Rattle.moves.specs.declared.parts.MoveRule.{MoveRule}
use Rattle.moves.specs.declared.series.ToMove.{ToMove}
use Rattle.moves.specs.declared.series.ToMove.TheVariants.{Begin, Running, Nothing}
use Rattle.moves.specs.Parts.{parts_of}

-- the entries of a series, oldest first
abbrev pub of_series : ℕ → List Entry → List Entry
of_series s entries = filter (λ e. e.series == s) entries

-- how many partitions of each series move, by what the source and the destination list
abbrev pub parts_in : MoveRule → List Entry → List Entry → ℕ → ℕ
parts_in rule source destination s = parts_of rule (of_series s source) (of_series s destination)

-- the series has no move to make, or one is running
abbrev pub IsPassed : (ℕ → ℕ) → (ℕ → Option ℕ) → ℕ → Type 0
IsPassed parts running s = (parts s ≡ 0) ⊎ IsSome (running s)

-- The series is the least that has a move to make and none running.
pub record IsFree (parts : ℕ → ℕ) (running : ℕ → Option ℕ) (count s : ℕ) : Type 0 where
  pub within : s < count
  pub some : 1 ≤ parts s
  pub none_runs : running s ≡ None
  pub least : (lower : ℕ) → lower < s → IsPassed parts running lower

-- Each series that has a move to make has one running, and that of the least such series has this number.
pub record AllRun (parts : ℕ → ℕ) (running : ℕ → Option ℕ) (count number : ℕ) : Type 0 where
  pub series : ℕ
  pub within : series < count
  pub some : 1 ≤ parts series
  pub runs : running series ≡ Some number
  pub least : (lower : ℕ) → lower < series → parts lower ≡ 0
  pub all : (s : ℕ) → s < count → IsPassed parts running s

-- What is to move of so many series: of each so many partitions are to move, and moves of these numbers run.
abbrev pub IsToMove : (ℕ → ℕ) → (ℕ → Option ℕ) → ℕ → ToMove → Type 0
IsToMove parts running count (Begin s n) = IsFree parts running count s × (n ≡ parts s)
IsToMove parts running count (Running number) = AllRun parts running count number
IsToMove parts running count Nothing = (s : ℕ) → s < count → parts s ≡ 0
