-- The names of partitions.
use Rattle.std.specs.Prelude.{◌≡◌, ℕ, ◌+◌, ◌/◌, ◌%◌, ◌<◌, ◌≤◌, ◌⊎◌, List, [], ◌∷◌, ◌++◌, length, slice_index, slice_range}
use Rattle.arch_time.specs.Digits.{IsNumber}
use Rattle.partition_names.specs.declared.granularity.Granularity.{Granularity}
use Rattle.partition_names.specs.declared.granularity.Granularity.TheVariants.{FiveMinutes, FifteenMinutes, ThirtyMinutes, Hour, Day, Month, Year}
use Rattle.partition_names.specs.declared.unit.CivilMinute.{CivilMinute}

-- a number below 100 as two digits, and one below 10,000 as four
abbrev pub two_digits : ℕ → List ℕ
two_digits n = (48 + n / 10) ∷ (48 + n % 10) ∷ []

abbrev pub four_digits : ℕ → List ℕ
four_digits n = two_digits (n / 100) ++ two_digits (n % 100)

abbrev pub underscore : ℕ
underscore = 95

-- an underscore and two digits
abbrev pub part_text : ℕ → List ℕ
part_text n = underscore ∷ two_digits n

-- 2012, 2012_01, 2012_01_01, 2012_01_01_09 and 2012_01_01_09_30
abbrev pub year_name : CivilMinute → List ℕ
year_name at = four_digits at.year

abbrev pub month_name : CivilMinute → List ℕ
month_name at = year_name at ++ part_text at.month

abbrev pub day_name : CivilMinute → List ℕ
day_name at = month_name at ++ part_text at.day

abbrev pub hour_name : CivilMinute → List ℕ
hour_name at = day_name at ++ part_text at.hour

abbrev pub minute_name : CivilMinute → List ℕ
minute_name at = hour_name at ++ part_text at.minute

-- the name of the unit that begins at this minute
abbrev pub name_of : Granularity → CivilMinute → List ℕ
name_of FiveMinutes at = minute_name at
name_of FifteenMinutes at = minute_name at
name_of ThirtyMinutes at = minute_name at
name_of Hour at = hour_name at
name_of Day at = day_name at
name_of Month at = month_name at
name_of Year at = year_name at

-- how many bytes the names have
abbrev pub name_length : Granularity → ℕ
name_length FiveMinutes = 16
name_length FifteenMinutes = 16
name_length ThirtyMinutes = 16
name_length Hour = 13
name_length Day = 10
name_length Month = 7
name_length Year = 4

-- a name ends behind one of its parts
abbrev pub EndsAtPart : ℕ → Type 0
EndsAtPart n = (g : Granularity) × (n ≡ name_length g)

-- a part of a name at its place: an underscore and the digits of n; or n where the name has ended
abbrev pub IsPartAt : List ℕ → ℕ → ℕ → ℕ → Type 0
IsPartAt text at otherwise n =
    ((length text ≤ at) × (n ≡ otherwise))
    ⊎ ((at < length text) × (slice_index text at ≡ underscore) × IsNumber (slice_range text (at + 1) (at + 3)) n)

-- the text has the parts of this minute, as far as it goes, and the first of each from there on
pub record HasParts (text : List ℕ) (at : CivilMinute) : Type 0 where
  pub year : IsNumber (slice_range text 0 4) at.year
  pub month : IsPartAt text 4 1 at.month
  pub day : IsPartAt text 7 1 at.day
  pub hour : IsPartAt text 10 0 at.hour
  pub minute : IsPartAt text 13 0 at.minute
