-- The calendar's days are those of `jiff_core`, whose count begins 10,000 years earlier.
use Rattle.std.proofs.Common.{◌≡◌, ℕ, zero, suc, ◌+◌, ◌-◌, ◌<◌, ◌≤◌, refl, sym, ap, add-one, inl, inr, ◌∙◌, arith, ℤ, pos, negsuc, ◌+ℤ◌, ◌-ℤ◌, ◌≤ℤ◌}
use Rattle.std.proofs.lemmas.Int.{by_lt_z}
use Rattle.std.proofs.Math.Nat.{eq-or-lt_of_le, lt_of_not-le}
use Rattle.jiff_core.proofs.SignedLemmas.{signed_arith}
use Rattle.jiff_core.proofs.CalendarLemmas as jiff
use Rattle.jiff_core.proofs.DateLemmas as dates
use Rattle.jiff_core.specs.Calendar as theirs
use Rattle.jiff_core.specs.declared.civil.date.Date.{Date}
use Rattle.jiff_core.specs.Date.{epoch_day}
use Rattle.arch_time.specs.Calendar.{days_in_year, days_in_month, days_of_years, days_of_months, day_number, IsDate}

months_agree : (y n : ℕ) → theirs.days_of_months (pos y) n ≡ days_of_months y n
unfolding theirs.days_of_months days_of_months
months_agree y zero = refl
months_agree y (suc n) = ap (λ k. k + days_in_month y (suc n)) (months_agree y n)

cycles : theirs.days_of_years 10_000 ≡ 3_652_425
unfolding theirs.days_of_years
cycles = refl

signed_year : (y : ℕ) → pos (y + 10_000) -ℤ pos 10_000 ≡ pos y
signed_year y = omega (arith, signed_arith)

next_year : (n : ℕ) → theirs.days_of_years (suc n) ≡ theirs.days_of_years n + theirs.days_in_year (pos n -ℤ pos 10_000)
unfolding theirs.days_of_years
next_year n = refl

years_agree : (y : ℕ) → theirs.days_of_years (y + 10_000) ≡ days_of_years y + 3_652_425
unfolding days_of_years
years_agree zero = cycles
years_agree (suc y) =
    let moved : suc y + 10_000 ≡ suc (y + 10_000) = omega arith in
    let step : theirs.days_of_years (suc (y + 10_000)) ≡ theirs.days_of_years (y + 10_000) + days_in_year y =
    next_year (y + 10_000) ∙ ap (λ z. theirs.days_of_years (y + 10_000) + theirs.days_in_year z) (signed_year y) in
    rw moved (omega (arith, step, years_agree y))

-- the count of a day
pub jiff_count : (y m d : ℕ) → 1 ≤ d → theirs.day_count (pos y) m d ≡ day_number y m d + 3_652_425
unfolding theirs.day_count
jiff_count y m d h = omega (arith, years_agree y, months_agree y (m - 1))

first_day : theirs.day_count (pos 0) 1 1 ≡ 3_652_425
unfolding days_of_years days_of_months
first_day = jiff_count 0 1 1 (omega arith)

-- a number that is not negative is a natural one
natural : (z : ℤ) → pos 0 ≤ℤ z → (n : ℕ) × (z ≡ pos n)
natural (pos n) h = (n, refl)
natural (negsuc n) h = absurd (omega (arith, signed_arith))

-- a day that is not before 1 January of the year 0 has a year from 0 on
not_negative : (date : Date) → 3_652_425 ≤ theirs.day_count date.year date.month date.day → pos 0 ≤ℤ date.year
not_negative date h =
    by_lt_z date.year (pos 0)
    (λ early. absurd (omega (arith, first_day, jiff.day_count-lt_year date.year date.month date.day (pos 0) 1 1 (dates.civil date) (omega arith) early)))
    (λ le. le)

-- the days since -9999-01-01 are those of the number and of the years before 0
pub jiff_number : (date : Date) (y m d n : ℕ) → (date.year ≡ pos y) × (date.month ≡ m) × (date.day ≡ d) → epoch_day date +ℤ pos 4_371_587 ≡ pos n → n ≡ day_number y m d + 3_652_059
jiff_number date y m d n same e =
    let count : theirs.day_count date.year date.month date.day ≡ day_number y m d + 3_652_425 =
    rw (same.0, ← same.1, ← same.2) (jiff_count y date.month date.day date.day_in.0) in
    omega (arith, signed_arith, count, jiff.days_from_civil-day_count date.year date.month date.day)

-- the same the other way, from the number
pub jiff_date : (date : Date) (n : ℕ) → epoch_day date +ℤ pos 4_371_587 ≡ pos (n + 3_652_059) → (y : ℕ) × (date.year ≡ pos y) × (day_number y date.month date.day ≡ n) × (y ≤ 9999)
jiff_date date n e =
    let count : theirs.day_count date.year date.month date.day ≡ n + 3_652_425 =
    omega (arith, signed_arith, jiff.days_from_civil-day_count date.year date.month date.day) in
    let year = natural date.year (not_negative date (omega arith)) in
    let high : pos year.0 ≤ℤ pos 9999 = rw (← year.1) date.year_in.1 in
    (year.0, year.1, omega (arith, jiff_number date year.0 date.month date.day (n + 3_652_059) (year.1, refl, refl) e), omega (arith, signed_arith, high))

pub year_bounds : (y : ℕ) → (365 ≤ days_in_year y) × (days_in_year y ≤ 366)
year_bounds y = grind arith

-- a later year begins after the days of this one
pub later_year : (y z : ℕ) → y < z → days_of_years y + days_in_year y ≤ days_of_years z
unfolding days_of_years
later_year y zero h = absurd (omega arith)
later_year y (suc z) h =
    let last : y ≤ z = omega arith in
    elim (eq-or-lt_of_le last) [
      | inl same ↦ rw same (omega arith)
      | inr before ↦ omega (arith, later_year y z before)
    ]

pub years_mono : (y z : ℕ) → y ≤ z → days_of_years y ≤ days_of_years z
years_mono y z h =
    elim (eq-or-lt_of_le h) [
      | inl same ↦ rw same (omega arith)
      | inr before ↦ omega (arith, later_year y z before)
    ]

-- a date lies in its year
pub within_year : (y m d : ℕ) → IsDate y m d → (days_of_years y ≤ day_number y m d) × (day_number y m d < days_of_years y + days_in_year y)
within_year y m d date =
    (omega arith, omega (arith, jiff.day_of_year_before (pos y) m d 12 date.month.0 date.day.1 date.month.1, jiff.days_of_months_all (pos y), months_agree y (m - 1)))

-- a date before the days of the years before z has an earlier year, and one that isn't has z or a later one
pub year_before : (y m d z : ℕ) → IsDate y m d → day_number y m d < days_of_years z → y < z
year_before y m d z date h =
    lt_of_not-le (λ (le : z ≤ y). absurd (omega (arith, years_mono z y le, within_year y m d date)))

pub year_from : (y m d z : ℕ) → IsDate y m d → days_of_years z ≤ day_number y m d → z ≤ y
year_from y m d z date h =
    let earlier : suc y ≤ z → ⊥ = λ lt. omega (arith, later_year y z lt, within_year y m d date) in
    let late : z < suc y = lt_of_not-le earlier in
    omega arith

pub years_1970 : days_of_years 1970 ≡ 719_528
unfolding days_of_years
years_1970 = refl

pub years_1991 : days_of_years 1991 ≡ 727_198
unfolding days_of_years
years_1991 = refl

pub years_2500 : days_of_years 2500 ≡ 913_107
unfolding days_of_years
years_2500 = refl

-- a date of an earlier month of the year comes before each date of a later one
pub later_month : (y m d m₂ : ℕ) → 1 ≤ m → d ≤ days_in_month y m → m < m₂ → days_of_months y (m - 1) + d ≤ days_of_months y (m₂ - 1)
later_month y m d m₂ low last h =
    omega (arith, jiff.day_of_year_before (pos y) m d (m₂ - 1) low last (omega arith), months_agree y (m - 1), months_agree y (m₂ - 1))

month_from : (y m d m₂ d₂ : ℕ) → IsDate y m d → IsDate y m₂ d₂ → day_number y m d ≡ day_number y m₂ d₂ → m₂ ≤ m
month_from y m d m₂ d₂ date date₂ e =
    let earlier : suc m ≤ m₂ → ⊥ = λ lt. omega (arith, later_month y m d m₂ date.month.0 date.day.1 lt) in
    let late : m₂ < suc m = lt_of_not-le earlier in
    omega arith

same_month : (y m d m₂ d₂ : ℕ) → IsDate y m d → IsDate y m₂ d₂ → day_number y m d ≡ day_number y m₂ d₂ → (m ≡ m₂) × (d ≡ d₂)
same_month y m d m₂ d₂ date date₂ e =
    let same : m ≡ m₂ = omega (arith, month_from y m d m₂ d₂ date date₂ e, month_from y m₂ d₂ m d date₂ date (sym e)) in
    (same, omega (arith, rw (← same) at e))

-- no two dates have one number
pub same_date : (y m d y₂ m₂ d₂ : ℕ) → IsDate y m d → IsDate y₂ m₂ d₂ → day_number y m d ≡ day_number y₂ m₂ d₂ → (y ≡ y₂) × (m ≡ m₂) × (d ≡ d₂)
same_date y m d y₂ m₂ d₂ date date₂ e =
    let low = within_year y m d date in
    let low₂ = within_year y₂ m₂ d₂ date₂ in
    let same : y ≡ y₂ = omega (arith, year_from y m d y₂ date (omega arith), year_from y₂ m₂ d₂ y date₂ (omega arith)) in
    let rest = same_month y₂ m d m₂ d₂ (rw same at date) date₂ (rw same at e) in
    (same, rest.0, rest.1)

-- the day numbers of `jiff_core` count from 1970-01-01
pub jiff_day : (y m d : ℕ) → IsDate y m d → theirs.days_from_civil (pos y) m d ≡ pos (day_number y m d) -ℤ pos 719_528
jiff_day y m d date =
    omega (arith, signed_arith, jiff_count y m d date.day.0, jiff.days_from_civil-day_count (pos y) m d)

-- the days of the months up to one are those before it and its own
pub more_months : (y m : ℕ) → 1 ≤ m → days_of_months y m ≡ days_of_months y (m - 1) + days_in_month y m
unfolding days_of_months
more_months y zero h = absurd (omega arith)
more_months y (suc m) h = let back : suc m - 1 ≡ m = omega arith in rw back refl

pub all_months : (y : ℕ) → days_of_months y 12 ≡ days_in_year y
all_months y = omega (arith, jiff.days_of_months_all (pos y), months_agree y 12)

pub more_years : (y : ℕ) → days_of_years (y + 1) ≡ days_of_years y + days_in_year y
unfolding days_of_years
more_years y = rw add-one refl

pub month_bounds : (y m : ℕ) → (28 ≤ days_in_month y m) × (days_in_month y m ≤ 31)
month_bounds y m = grind arith
