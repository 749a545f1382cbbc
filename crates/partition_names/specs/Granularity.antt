-- The granularities, from the finest to the coarsest.
use Rattle.std.specs.Prelude.{ℕ, ◌≤◌, List, codes}
use Rattle.partition_names.specs.declared.granularity.Granularity.{Granularity}
use Rattle.partition_names.specs.declared.granularity.Granularity.TheVariants.{FiveMinutes, FifteenMinutes, ThirtyMinutes, Hour, Day, Month, Year}

-- a granularity's number
abbrev pub number_of : Granularity → ℕ
number_of FiveMinutes = 0
number_of FifteenMinutes = 1
number_of ThirtyMinutes = 2
number_of Hour = 3
number_of Day = 4
number_of Month = 5
number_of Year = 6

-- a granularity's name
abbrev pub text_of : Granularity → List ℕ
text_of FiveMinutes = codes "5MIN"
text_of FifteenMinutes = codes "15MIN"
text_of ThirtyMinutes = codes "30MIN"
text_of Hour = codes "HOUR"
text_of Day = codes "DAY"
text_of Month = codes "MONTH"
text_of Year = codes "YEAR"

-- the fine one is the coarse one or divides it: each divides the next
abbrev pub Holds : Granularity → Granularity → Type 0
Holds coarse fine = number_of fine ≤ number_of coarse
