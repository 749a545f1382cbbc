-- The units of the UTC calendar.
use Rattle.std.specs.Prelude.{◌≡◌, ℕ, ◌+◌, ◌-◌, ◌*◌, ◌%◌, ◌<◌, ◌≤◌}
use Rattle.std.specs.Int.{IsInRange}
use Rattle.arch_time.specs.Calendar.{days_in_year, days_in_month, day_number, unix_day, IsDate}
use Rattle.partition_names.specs.declared.granularity.Granularity.{Granularity}
use Rattle.partition_names.specs.declared.granularity.Granularity.TheVariants.{FiveMinutes, FifteenMinutes, ThirtyMinutes, Hour, Day, Month, Year}
use Rattle.partition_names.specs.declared.unit.CivilMinute.{CivilMinute}

-- the calendar and the clock have this minute
pub record IsMinute (at : CivilMinute) : Type 0 where
  pub date : IsDate at.year at.month at.day
  pub hour : at.hour < 24
  pub minute : at.minute < 60

-- a unit of the granularity begins at this minute
abbrev pub StartsUnit : Granularity → CivilMinute → Type 0
StartsUnit FiveMinutes at = at.minute % 5 ≡ 0
StartsUnit FifteenMinutes at = at.minute % 15 ≡ 0
StartsUnit ThirtyMinutes at = at.minute % 30 ≡ 0
StartsUnit Hour at = at.minute ≡ 0
StartsUnit Day at = (at.hour ≡ 0) × (at.minute ≡ 0)
StartsUnit Month at = (at.day ≡ 1) × (at.hour ≡ 0) × (at.minute ≡ 0)
StartsUnit Year at = (at.month ≡ 1) × (at.day ≡ 1) × (at.hour ≡ 0) × (at.minute ≡ 0)

-- how many seconds the unit lasts that begins at this minute
abbrev pub unit_seconds : Granularity → CivilMinute → ℕ
unit_seconds FiveMinutes at = 5 * 60
unit_seconds FifteenMinutes at = 15 * 60
unit_seconds ThirtyMinutes at = 30 * 60
unit_seconds Hour at = 3600
unit_seconds Day at = 86_400
unit_seconds Month at = days_in_month at.year at.month * 86_400
unit_seconds Year at = days_in_year at.year * 86_400

-- the first second of a minute, counted from the year 0
abbrev pub second_of : CivilMinute → ℕ
second_of at = day_number at.year at.month at.day * 86_400 + at.hour * 3600 + at.minute * 60

-- its moment, for the years from 1970 on
abbrev pub moment_of : CivilMinute → ℕ
moment_of at = (second_of at - unix_day * 86_400) * 1_000_000_000

-- a unit of the granularity begins at this minute, in the years 1991 to 2499
pub record IsUnitStart (g : Granularity) (at : CivilMinute) : Type 0 where
  pub exists : IsMinute at
  pub years : IsInRange 1991 2499 at.year
  pub starts : StartsUnit g at

-- the unit that begins at `from` holds the minute `at`
pub record IsUnitOf (g : Granularity) (at from : CivilMinute) : Type 0 where
  pub unit : IsUnitStart g from
  pub begun : second_of from ≤ second_of at
  pub going : second_of at + 60 ≤ second_of from + unit_seconds g from
