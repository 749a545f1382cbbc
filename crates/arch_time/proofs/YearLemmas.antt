-- Where years begin, in days and in moments.
use Rattle.std.proofs.Common.{◌≡◌, ℕ, ◌+◌, ◌-◌, ◌*◌, ◌<◌, ◌≤◌, suc, refl, sym, ap, ◌∙◌, arith, ℤ, pos, negsuc, unsigned_abs}
use Rattle.std.proofs.Math.Nat.{lt_of_not-le}
use Rattle.jiff_core.proofs.SignedLemmas.{signed_arith}
use Rattle.arch_time.specs.Calendar.{days_in_year, days_of_years, days_of_months, day_number, IsDate}
use Rattle.arch_time.specs.YearTime.{moment, IsInYear, IsSampleYear, IsMomentYear}
use Rattle.arch_time.proofs.CalendarLemmas.{year_bounds, later_year, years_mono, years_1970, years_2500, within_year, year_before, year_from}

-- the years of moments as natural numbers
natural_year : (y : ℤ) → IsMomentYear y → (1970 ≤ unsigned_abs y) × (unsigned_abs y ≤ 2499) × (y ≡ pos (unsigned_abs y))
natural_year (pos y) h = (omega (arith, signed_arith), omega (arith, signed_arith), refl)
natural_year (negsuc y) h = absurd (omega (arith, signed_arith))

pub sample_year : (y : ℤ) → IsSampleYear y → IsMomentYear y
sample_year y h = omega (arith, signed_arith)

-- the days of the years before one of these
pub start_days : (y : ℤ) → IsMomentYear y → (719_528 ≤ days_of_years (unsigned_abs y)) × (days_of_years (unsigned_abs y) + days_in_year (unsigned_abs y) ≤ 913_107)
start_days y h =
    let year = natural_year y h in
    (omega (arith, years_mono 1970 (unsigned_abs y) year.0, years_1970), omega (arith, later_year (unsigned_abs y) 2500 (omega arith), years_2500))

pub start_bounds : (y : ℤ) → IsSampleYear y → (days_in_year (unsigned_abs y) ≤ 366) × (moment y 0 0 ≤ 193_579 * 86_400 * 1_000_000_000)
start_bounds y h = ((year_bounds (unsigned_abs y)).1, omega (arith, start_days y (sample_year y h), years_1970))

-- the number of the first day of a year
pub new_year_number : (y : ℕ) → day_number y 1 1 ≡ days_of_years y
unfolding days_of_months
new_year_number y = omega arith

-- the year y holds the day that is q days after 1970-01-01
pub record HoldsDay (y q : ℕ) : Type 0 where
  pub first : 1970 ≤ y
  pub last : y ≤ 2499
  pub start : 719_528 ≤ days_of_years y
  pub from : days_of_years y ≤ q + 719_528
  pub before : q + 719_528 < days_of_years y + days_in_year y
  pub length : days_in_year y ≤ 366

-- as does the year of its date, before 2500
pub year_of_day : (y m d q : ℕ) → IsDate y m d → day_number y m d ≡ q + 719_528 → q < 193_579 → HoldsDay y q
year_of_day y m d q date e h =
    let year = within_year y m d date in
    let low : 1970 ≤ y = year_from y m d 1970 date (omega (arith, years_1970)) in
    record {
      first = low;
      last = omega (arith, year_before y m d 2500 date (omega (arith, years_2500)));
      start = omega (arith, years_mono 1970 y low, years_1970);
      from = omega arith;
      before = omega arith;
      length = (year_bounds y).1;
    }

-- a number of nanoseconds has one division into seconds and the rest
same_second : (d s n s₂ n₂ : ℕ) → n < 1_000_000_000 → n₂ < 1_000_000_000 → ((d - days_of_years 1970) * 86_400 + s) * 1_000_000_000 + n ≡ ((d - days_of_years 1970) * 86_400 + s₂) * 1_000_000_000 + n₂ → (s ≡ s₂) × (n ≡ n₂)
same_second d s n s₂ n₂ low low₂ e = (omega arith, omega arith)

-- a later year's moments come after all of an earlier one
later_moment : (y y₂ : ℤ) (s n s₂ n₂ : ℕ) → IsMomentYear y → IsMomentYear y₂ → IsInYear y s n → unsigned_abs y < unsigned_abs y₂ → moment y s n < moment y₂ s₂ n₂
later_moment y y₂ s n s₂ n₂ year year₂ at lt =
    omega (arith, later_year (unsigned_abs y) (unsigned_abs y₂) lt, start_days y year, start_days y₂ year₂, years_1970)

year_up : (y y₂ : ℤ) (s n s₂ n₂ : ℕ) → IsMomentYear y → IsMomentYear y₂ → IsInYear y s n → moment y s n ≡ moment y₂ s₂ n₂ → unsigned_abs y₂ ≤ unsigned_abs y
year_up y y₂ s n s₂ n₂ year year₂ at e =
    let earlier : suc (unsigned_abs y) ≤ unsigned_abs y₂ → ⊥ = λ lt. omega (arith, later_moment y y₂ s n s₂ n₂ year year₂ at lt) in
    let late : unsigned_abs y₂ < suc (unsigned_abs y) = lt_of_not-le earlier in
    omega arith

-- no two years' nanoseconds are one moment
pub same_year_time : (y y₂ : ℤ) (s n s₂ n₂ : ℕ) → IsMomentYear y → IsMomentYear y₂ → IsInYear y s n → IsInYear y₂ s₂ n₂ → moment y s n ≡ moment y₂ s₂ n₂ → (y ≡ y₂) × (s ≡ s₂) × (n ≡ n₂)
same_year_time y y₂ s n s₂ n₂ year year₂ at at₂ e =
    let abs : unsigned_abs y ≡ unsigned_abs y₂ = omega (arith, year_up y y₂ s n s₂ n₂ year year₂ at e, year_up y₂ y s₂ n₂ s n year₂ year at₂ (sym e)) in
    let same : y ≡ y₂ = (natural_year y year).2 ∙ ap (λ k. pos k) abs ∙ sym ((natural_year y₂ year₂).2) in
    let rest : (s ≡ s₂) × (n ≡ n₂) = same_second (days_of_years (unsigned_abs y₂)) s n s₂ n₂ at.nano at₂.nano (rw abs at e) in
    (same, rest.0, rest.1)
