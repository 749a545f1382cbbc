-- Lists of samples over one another.
use Rattle.std.specs.Prelude.{List, [], ◌∷◌}
use Rattle.series_model.specs.declared.sample.Sample.{Sample}
use Rattle.series_model.specs.Series.{over}

-- each list over those before it
abbrev pub over_each : List Sample → List (List Sample) → List Sample
over_each a [] = a
over_each a (xs ∷ lists) = over_each (over a xs) lists

-- the lists in order, each over those before it, and the tail over all
abbrev pub over_all : List (List Sample) → List Sample → List Sample
over_all lists tail = over (over_each [] lists) tail
