-- The years of moments, and the numbers that code has of them.
use Rattle.std.proofs.Common.{◌≡◌, ℕ, ℤ, ◌<◌, ◌≤◌, inl, inr, pos, negsuc, unsigned_abs, arith, sym, subst, w32, to_z, of_z, FitsSigned, to_z-of_z}
use Rattle.std.proofs.lemmas.Bool.{cases_lt}
use Rattle.std.proofs.lemmas.Int.{ints}
use Rattle.arch_time.specs.YearTime.{moment, IsInYear, IsSampleYear, IsMomentYear, start, end}
use Rattle.arch_time.proofs.CalendarLemmas.{later_year, years_mono, years_1970, years_1991}
use Rattle.arch_time.proofs.YearLemmas.{start_days, sample_year}
use Rattle.pb_wire.specs.declared.payload.PayloadType.{PayloadType}
use Rattle.series_model.specs.declared.sample.Sample.{Sample}
use Rattle.act_model.specs.Event.{IsEvent}
use Rattle.retrieval_query.specs.Raw.{IsNearestYear, IsOfYear}

pub year_fits : (y : ℤ) → IsSampleYear y → FitsSigned w32 y
year_fits y h = omega (arith, ints)

pub year_back : (y : ℤ) → FitsSigned w32 y → to_z w32 (of_z w32 y) ≡ y
year_back y fits = to_z-of_z fits

pub sample_year_back : (y : ℤ) → IsSampleYear y → to_z w32 (of_z w32 y) ≡ y
sample_year_back y h = year_back y (year_fits y h)

late_year : (y : ℤ) → IsMomentYear y → 1991 ≤ unsigned_abs y → IsSampleYear y
late_year (pos y) h le = omega (arith, ints)
late_year (negsuc y) h le = absurd (omega (arith, ints))

early_moment : (y : ℤ) (s n : ℕ) → IsMomentYear y → IsInYear y s n → unsigned_abs y < 1991 → moment y s n < start
early_moment y s n h at early = omega (arith, later_year (unsigned_abs y) 1991 early, start_days y h, years_1970, years_1991)

-- the year of a moment from 1991 on
pub nearest_of : (y : ℤ) (s n t : ℕ) → IsMomentYear y → IsInYear y s n → moment y s n ≡ t → start ≤ t → IsNearestYear y t
nearest_of y s n t h at is from = elim (cases_lt (unsigned_abs y) 1991) [
  | inl early ↦ absurd (omega (arith, early_moment y s n h at early))
  | inr late ↦ record { sample_year = late_year y h late; nearest = inl (record { secs = s; nano = n; in_year = at; at = sym is }) }
]

-- the moments of the years that samples stand in
event_bounds : (y : ℤ) (s n : ℕ) → IsSampleYear y → IsInYear y s n → (start ≤ moment y s n) × (moment y s n < end)
event_bounds y s n h at =
    let days = start_days y (sample_year y h) in
    let first : 1991 ≤ unsigned_abs y = omega (arith, ints) in
    (omega (arith, years_mono 1991 (unsigned_abs y) first, years_1991, years_1970), omega (arith, days, years_1970, at.second, at.nano))

-- the nearest year of an event is its own
pub near_is_of : (ty : PayloadType) (s : Sample) (y : ℤ) → IsEvent ty s → IsNearestYear y s.t → IsOfYear y s
near_is_of ty s y e near = elim near.nearest [
  | inl m ↦ record { sample_year = near.sample_year; moment = m }
  | inr (inl early) ↦ absurd (let b = event_bounds e.year e.secs e.nano e.sample_year e.in_year in omega (arith, b.0, e.at, early.0))
  | inr (inr late) ↦ absurd (let b = event_bounds e.year e.secs e.nano e.sample_year e.in_year in omega (arith, b.1, e.at, late.0))
]

-- the year as code has it is the same one
pub nearest_back : (y : ℤ) (t : ℕ) → IsNearestYear y t → IsNearestYear (to_z w32 (of_z w32 y)) t
nearest_back y t near = let P : ℤ → Type 0 = λ z. IsNearestYear z t in subst P (sym (sample_year_back y near.sample_year)) near
