-- A move of the oldest partitions of a series from one store to the next, over lists of samples.
use Rattle.std.specs.Prelude.{◌≡◌, List, ◌++◌}
use Rattle.series_model.specs.declared.sample.Sample.{Sample}
use Rattle.series_model.specs.Series.{over, since, end_of, IsRising}

-- what the three stores hold of a series
abbrev pub whole : List Sample → List Sample → List Sample → List Sample
whole long medium short = over (over long medium) short

-- The move has copied the first of the parts' samples that are later than the destination's last; these are left.
pub record IsMoving (destination parts copied left : List Sample) : Type 0 where
  pub rising : IsRising parts
  pub split : since (end_of destination) parts ≡ copied ++ left
