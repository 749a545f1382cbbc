-- One step of the search for the series that moves next.
use Rattle.std.specs.Prelude.{◌≡◌, ℕ, zero, suc, Option, Some, None}
use Rattle.std.specs.Option.{unwrap_or}
use Rattle.moves.specs.declared.series.ToMove.{ToMove}
use Rattle.moves.specs.declared.series.ToMove.TheVariants.{Running, Nothing}
use Rattle.moves.specs.declared.series.SearchStep.{SearchStep}
use Rattle.moves.specs.declared.series.SearchStep.TheVariants.{Free, On}

-- the search ends at a series with a move to make and none running, and else goes on with the number of the first that runs
abbrev pub search_step : ℕ → Option ℕ → Option ℕ → SearchStep
search_step zero number first = On first
search_step (suc n) None first = Free
search_step (suc n) (Some number) first = On (Some (unwrap_or first number))

abbrev pub IsSearchStep : ℕ → Option ℕ → Option ℕ → SearchStep → Type 0
IsSearchStep parts number first t = t ≡ search_step parts number first

-- what the search ends with that has met no series that is free
abbrev pub answer : Option ℕ → ToMove
answer None = Nothing
answer (Some number) = Running number
