-- Moments: nanoseconds since 1970-01-01T00:00:00Z.
use Rattle.std.specs.Prelude.{ℕ, ◌+◌, ◌-◌, ◌*◌, ◌<◌, ℤ, pos, ◌≤ℤ◌, unsigned_abs}
use Rattle.arch_time.specs.Calendar.{days_in_year, days_of_years}

-- the moment of nanosecond n of second s of year y, for the years from 1970 on
abbrev pub moment : ℤ → ℕ → ℕ → ℕ
moment y s n =
    ((days_of_years (unsigned_abs y) - days_of_years 1970) * 86_400 + s) * 1_000_000_000 + n

-- the year has this second, and the second this nanosecond
pub record IsInYear (y : ℤ) (s n : ℕ) : Type 0 where
  pub second : s < days_in_year (unsigned_abs y) * 86_400
  pub nano : n < 1_000_000_000

-- the years that samples stand in
abbrev pub IsSampleYear : ℤ → Type 0
IsSampleYear y = (pos 1991 ≤ℤ y) × (y ≤ℤ pos 2499)

-- the years of all moments before 2500
abbrev pub IsMomentYear : ℤ → Type 0
IsMomentYear y = (pos 1970 ≤ℤ y) × (y ≤ℤ pos 2499)

-- 1991-01-01T00:00:00Z, the first moment at which a sample may stand
abbrev pub start : ℕ
start = 662_688_000 * 1_000_000_000

-- 2500-01-01T00:00:00Z, the first moment that is too late
abbrev pub end : ℕ
end = 16_725_225_600 * 1_000_000_000
