-- What is counted of an answer.
use Rattle.std.specs.Prelude.{◌≡◌, ◌<◌, ◌-◌, ◌^◌, List, [], min, Option, Some, None, length, slice_get, option_map}
use Rattle.std.specs.Option.{ForSome}
use Rattle.series_model.specs.declared.sample.Sample.{Sample}
use Rattle.drill_feed.specs.declared.report.Tally.{Tally}

-- the number of the samples, as far as a u64 can tell it, and the moments of the first and the last
pub record IsTallyOf (xs : List Sample) (tally : Tally) : Type 0 where
  pub count : tally.count ≡ min (length xs) (2 ^ 64 - 1)
  pub first : option_map (λ s. s.t) (slice_get xs 0) ≡ Some tally.first
  pub last : option_map (λ s. s.t) (slice_get xs (length xs - 1)) ≡ Some tally.last

-- nothing is told of no samples
abbrev pub AreTallied : List Sample → Option Tally → Type 0
AreTallied xs None = xs ≡ []
AreTallied xs (Some tally) = IsTallyOf xs tally

-- the moments are before the year 2500, as those of events are
abbrev pub IsEarly : Option Tally → Type 0
IsEarly tally = ForSome tally (λ t. (t.first < 16725225600000000000) × (t.last < 16725225600000000000))
