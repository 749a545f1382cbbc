-- The Gregorian calendar, for the years from 0 on.
use Rattle.std.specs.Prelude.{ℕ, zero, suc, ◌+◌, ◌-◌, ◌%◌, Bool, not, ◌&&◌, ◌||◌, ◌==◌, if◌then◌else◌}
use Rattle.std.specs.Int.{IsInRange}

-- a year is a leap year if 4 divides it, but of those that 100 divides only if 400 does
abbrev pub is_leap_year : ℕ → Bool
is_leap_year y = (y % 4 == 0) && (not (y % 100 == 0) || (y % 400 == 0))

-- a leap year has 366 days, another year 365
abbrev pub days_in_year : ℕ → ℕ
days_in_year y = if is_leap_year y then 366 else 365

-- February has 28 days, in a leap year 29; April, June, September and November have 30; the others 31
abbrev pub days_in_month : ℕ → ℕ → ℕ
days_in_month y m =
    if m == 2 then (if is_leap_year y then 29 else 28)
    else (if (m == 4) || (m == 6) || (m == 9) || (m == 11) then 30 else 31)

-- the days of all years before year y
unfoldable pub days_of_years : ℕ → ℕ
days_of_years zero = 0
days_of_years (suc y) = days_of_years y + days_in_year y

-- the days of the first n months of year y
unfoldable pub days_of_months : ℕ → ℕ → ℕ
days_of_months y zero = 0
days_of_months y (suc n) = days_of_months y n + days_in_month y (suc n)

-- the number of a day: how many days lie between 1 January of the year 0 and it
abbrev pub day_number : ℕ → ℕ → ℕ → ℕ
day_number y m d = days_of_years y + days_of_months y (m - 1) + (d - 1)

-- the calendar has this day
pub record IsDate (y m d : ℕ) : Type 0 where
  pub month : IsInRange 1 12 m
  pub day : IsInRange 1 (days_in_month y m) d

-- the number of 1970-01-01
abbrev pub unix_day : ℕ
unix_day = 719_528
