-- Units of the calendar in days and seconds.
use Rattle.std.proofs.Common.{◌≡◌, inl, inr, ℕ, zero, ◌+◌, suc, ◌-◌, ◌*◌, ◌/◌, ◌%◌, ◌<◌, ◌≤◌, refl, sym, ◌∙◌, arith}
use Rattle.std.specs.Int.{IsInRange}
use Rattle.arch_time.specs.Calendar.{days_in_year, days_in_month, day_number, IsDate}
use Rattle.partition_names.specs.declared.granularity.Granularity.TheVariants.{FiveMinutes, FifteenMinutes, ThirtyMinutes, Hour, Day, Month, Year}
use Rattle.partition_names.specs.declared.granularity.Granularity.{Granularity}
use Rattle.partition_names.specs.Granularity.{number_of, Holds}
use Rattle.partition_names.specs.declared.unit.CivilMinute.{CivilMinute}
use Rattle.partition_names.proofs.NameLemmas.{same_minute}
use Rattle.std.proofs.Math.Nat.{eq-or-lt_of_le, lt_of_not-le}
use Rattle.partition_names.specs.Unit.{IsMinute, StartsUnit, IsUnitStart, IsUnitOf, unit_seconds, second_of}
use Rattle.arch_time.proofs.CalendarLemmas.{within_year, later_year, later_month, all_months, month_bounds, year_bounds, same_date, years_mono, year_from, year_before, years_1991, years_2500}
use Rattle.arch_time.proofs.YearLemmas.{new_year_number}

-- the days of the years 1991 to 2499
pub day_span : (y m d : ℕ) → IsDate y m d → IsInRange 1991 2499 y → (727_198 ≤ day_number y m d) × (day_number y m d < 913_107)
day_span y m d date years =
    let year = within_year y m d date in
    (omega (arith, years_mono 1991 y years.0, years_1991), omega (arith, later_year y 2500 (omega arith), years_2500))

-- and back
pub years_of_day : (y m d : ℕ) → IsDate y m d → 727_198 ≤ day_number y m d → day_number y m d < 913_107 → IsInRange 1991 2499 y
years_of_day y m d date low high =
    (year_from y m d 1991 date (omega (arith, years_1991)), omega (arith, year_before y m d 2500 date (omega (arith, years_2500))))

-- a date lies between the ends of its year
pub in_year : (y m d : ℕ) → IsDate y m d → (day_number y 1 1 ≤ day_number y m d) × (day_number y m d < day_number y 1 1 + days_in_year y)
in_year y m d date = let year = within_year y m d date in let first = new_year_number y in (omega arith, omega arith)

-- the year holds each of its minutes
pub year_unit : (at : CivilMinute) → IsMinute at → IsInRange 1991 2499 at.year → IsUnitOf Year at (record { year = at.year; month = 1; day = 1; hour = 0; minute = 0 })
year_unit at exists years =
    let year = in_year at.year at.month at.day exists.date in
    let hour = exists.hour in
    let minute = exists.minute in
    record {
      unit = record {
        exists = record { date = record { month = (omega arith, omega arith); day = (omega arith, omega arith) }; hour = omega arith; minute = omega arith };
        years = years;
        starts = (refl, refl, refl, refl);
      };
      begun = omega arith;
      going = omega arith;
    }

-- a unit up to a day ends in its day
pub ends_in_day : (g : Granularity) (at : CivilMinute) → number_of g ≤ 4 → IsMinute at → StartsUnit g at → at.hour * 3600 + at.minute * 60 + unit_seconds g at ≤ 86_400
ends_in_day FiveMinutes at short exists starts = omega (arith, exists.hour, exists.minute, starts)
ends_in_day FifteenMinutes at short exists starts = omega (arith, exists.hour, exists.minute, starts)
ends_in_day ThirtyMinutes at short exists starts = omega (arith, exists.hour, exists.minute, starts)
ends_in_day Hour at short exists starts = omega (arith, exists.hour, starts)
ends_in_day Day at short exists starts = omega (arith, starts)
ends_in_day Month at short exists starts = absurd (omega (arith, short))
ends_in_day Year at short exists starts = absurd (omega (arith, short))

-- a unit up to an hour ends in its hour
ends_in_hour : (g : Granularity) (at : CivilMinute) → number_of g ≤ 3 → IsMinute at → StartsUnit g at → at.minute * 60 + unit_seconds g at ≤ 3600
ends_in_hour FiveMinutes at short exists starts = omega (arith, exists.minute, starts)
ends_in_hour FifteenMinutes at short exists starts = omega (arith, exists.minute, starts)
ends_in_hour ThirtyMinutes at short exists starts = omega (arith, exists.minute, starts)
ends_in_hour Hour at short exists starts = omega (arith, starts)
ends_in_hour Day at short exists starts = absurd (omega (arith, short))
ends_in_hour Month at short exists starts = absurd (omega (arith, short))
ends_in_hour Year at short exists starts = absurd (omega (arith, short))

-- the minute at which the unit begins that holds a minute
abbrev pub first_of : Granularity → CivilMinute → CivilMinute
first_of FiveMinutes at = record { year = at.year; month = at.month; day = at.day; hour = at.hour; minute = at.minute - at.minute % 5 }
first_of FifteenMinutes at = record { year = at.year; month = at.month; day = at.day; hour = at.hour; minute = at.minute - at.minute % 15 }
first_of ThirtyMinutes at = record { year = at.year; month = at.month; day = at.day; hour = at.hour; minute = at.minute - at.minute % 30 }
first_of Hour at = record { year = at.year; month = at.month; day = at.day; hour = at.hour; minute = 0 }
first_of Day at = record { year = at.year; month = at.month; day = at.day; hour = 0; minute = 0 }
first_of Month at = record { year = at.year; month = at.month; day = 1; hour = 0; minute = 0 }
first_of Year at = record { year = at.year; month = 1; day = 1; hour = 0; minute = 0 }

-- one unit lies in another
pub record LiesIn (coarse fine : Granularity) (from at : CivilMinute) : Type 0 where
  pub unit : IsUnitStart coarse from
  pub begun : second_of from ≤ second_of at
  pub ended : second_of at + unit_seconds fine at ≤ second_of from + unit_seconds coarse from

-- each unit ends in its year, and up to a month in its month
pub first_day : (at : CivilMinute) → at.month ≡ 1 → at.day ≡ 1 → day_number at.year at.month at.day ≡ day_number at.year 1 1
first_day at month day = rw (month, day) refl

day_in_year : (g : Granularity) (at : CivilMinute) → number_of g ≤ 4 → IsUnitStart g at → second_of at + unit_seconds g at ≤ (day_number at.year 1 1 + days_in_year at.year) * 86_400
day_in_year g at short unit =
    omega (arith, ends_in_day g at short unit.exists unit.starts, in_year at.year at.month at.day unit.exists.date)

ends_in_year : (g : Granularity) (at : CivilMinute) → IsUnitStart g at → second_of at + unit_seconds g at ≤ (day_number at.year 1 1 + days_in_year at.year) * 86_400
ends_in_year FiveMinutes at unit = day_in_year FiveMinutes at (omega arith) unit
ends_in_year FifteenMinutes at unit = day_in_year FifteenMinutes at (omega arith) unit
ends_in_year ThirtyMinutes at unit = day_in_year ThirtyMinutes at (omega arith) unit
ends_in_year Hour at unit = day_in_year Hour at (omega arith) unit
ends_in_year Day at unit = day_in_year Day at (omega arith) unit
ends_in_year Month at unit =
    let month = unit.exists.date.month in
    let later = later_month at.year at.month (days_in_month at.year at.month) 13 month.0 (omega arith) (omega arith) in
    omega (arith, unit.starts, later, all_months at.year, new_year_number at.year)
ends_in_year Year at unit = omega (arith, unit.starts, first_day at unit.starts.0 unit.starts.1)

day_in_month : (g : Granularity) (at : CivilMinute) → number_of g ≤ 4 → IsUnitStart g at → second_of at + unit_seconds g at ≤ (day_number at.year at.month 1 + days_in_month at.year at.month) * 86_400
day_in_month g at short unit =
    omega (arith, ends_in_day g at short unit.exists unit.starts, unit.exists.date.day)

ends_in_month : (g : Granularity) (at : CivilMinute) → number_of g ≤ 5 → IsUnitStart g at → second_of at + unit_seconds g at ≤ (day_number at.year at.month 1 + days_in_month at.year at.month) * 86_400
ends_in_month FiveMinutes at short unit = day_in_month FiveMinutes at (omega arith) unit
ends_in_month FifteenMinutes at short unit = day_in_month FifteenMinutes at (omega arith) unit
ends_in_month ThirtyMinutes at short unit = day_in_month ThirtyMinutes at (omega arith) unit
ends_in_month Hour at short unit = day_in_month Hour at (omega arith) unit
ends_in_month Day at short unit = day_in_month Day at (omega arith) unit
ends_in_month Month at short unit = omega (arith, unit.starts)
ends_in_month Year at short unit = absurd (omega (arith, short))

-- a unit lies in the one of each coarser granularity that holds its first minute
pub lies_in : (coarse fine : Granularity) (at : CivilMinute) → Holds coarse fine → IsUnitStart fine at → LiesIn coarse fine (first_of coarse at) at
lies_in Year fine at h unit = record {
  unit = record {
    exists = record { date = record { month = (omega arith, omega arith); day = (omega arith, omega arith) }; hour = omega arith; minute = omega arith };
    years = unit.years;
    starts = (refl, refl, refl, refl);
  };
  begun = omega (arith, in_year at.year at.month at.day unit.exists.date);
  ended = omega (arith, ends_in_year fine at unit);
}
lies_in Month fine at h unit = record {
  unit = record {
    exists = record { date = record { month = unit.exists.date.month; day = (omega arith, omega (arith, month_bounds at.year at.month)) }; hour = omega arith; minute = omega arith };
    years = unit.years;
    starts = (refl, refl, refl);
  };
  begun = omega arith;
  ended = omega (arith, ends_in_month fine at h unit);
}
lies_in Day fine at h unit = record {
  unit = record {
    exists = record { date = unit.exists.date; hour = omega arith; minute = omega arith };
    years = unit.years;
    starts = (refl, refl);
  };
  begun = omega arith;
  ended = omega (arith, ends_in_day fine at h unit.exists unit.starts);
}
lies_in Hour fine at h unit = record {
  unit = record { exists = record { date = unit.exists.date; hour = unit.exists.hour; minute = omega arith }; years = unit.years; starts = refl };
  begun = omega arith;
  ended = omega (arith, ends_in_hour fine at h unit.exists unit.starts);
}
lies_in ThirtyMinutes FiveMinutes at h unit = record {
  unit = record { exists = record { date = unit.exists.date; hour = unit.exists.hour; minute = omega (arith, unit.exists.minute) }; years = unit.years; starts = omega arith };
  begun = omega arith;
  ended = omega (arith, unit.starts, unit.exists.minute);
}
lies_in ThirtyMinutes FifteenMinutes at h unit = record {
  unit = record { exists = record { date = unit.exists.date; hour = unit.exists.hour; minute = omega (arith, unit.exists.minute) }; years = unit.years; starts = omega arith };
  begun = omega arith;
  ended = omega (arith, unit.starts, unit.exists.minute);
}
lies_in ThirtyMinutes ThirtyMinutes at h unit = record {
  unit = record { exists = record { date = unit.exists.date; hour = unit.exists.hour; minute = omega (arith, unit.exists.minute) }; years = unit.years; starts = omega arith };
  begun = omega arith;
  ended = omega (arith, unit.starts, unit.exists.minute);
}
lies_in FifteenMinutes FiveMinutes at h unit = record {
  unit = record { exists = record { date = unit.exists.date; hour = unit.exists.hour; minute = omega (arith, unit.exists.minute) }; years = unit.years; starts = omega arith };
  begun = omega arith;
  ended = omega (arith, unit.starts, unit.exists.minute);
}
lies_in FifteenMinutes FifteenMinutes at h unit = record {
  unit = record { exists = record { date = unit.exists.date; hour = unit.exists.hour; minute = omega (arith, unit.exists.minute) }; years = unit.years; starts = omega arith };
  begun = omega arith;
  ended = omega (arith, unit.starts, unit.exists.minute);
}
lies_in FiveMinutes FiveMinutes at h unit = record {
  unit = record { exists = record { date = unit.exists.date; hour = unit.exists.hour; minute = omega (arith, unit.exists.minute) }; years = unit.years; starts = omega arith };
  begun = omega arith;
  ended = omega (arith, unit.starts, unit.exists.minute);
}
lies_in ThirtyMinutes Hour at h unit = absurd (omega (arith, h))
lies_in ThirtyMinutes Day at h unit = absurd (omega (arith, h))
lies_in ThirtyMinutes Month at h unit = absurd (omega (arith, h))
lies_in ThirtyMinutes Year at h unit = absurd (omega (arith, h))
lies_in FifteenMinutes ThirtyMinutes at h unit = absurd (omega (arith, h))
lies_in FifteenMinutes Hour at h unit = absurd (omega (arith, h))
lies_in FifteenMinutes Day at h unit = absurd (omega (arith, h))
lies_in FifteenMinutes Month at h unit = absurd (omega (arith, h))
lies_in FifteenMinutes Year at h unit = absurd (omega (arith, h))
lies_in FiveMinutes FifteenMinutes at h unit = absurd (omega (arith, h))
lies_in FiveMinutes ThirtyMinutes at h unit = absurd (omega (arith, h))
lies_in FiveMinutes Hour at h unit = absurd (omega (arith, h))
lies_in FiveMinutes Day at h unit = absurd (omega (arith, h))
lies_in FiveMinutes Month at h unit = absurd (omega (arith, h))
lies_in FiveMinutes Year at h unit = absurd (omega (arith, h))

-- two units of one granularity that hold one second are one unit
same_day : (a b : CivilMinute) (s : ℕ) → IsMinute a → IsMinute b → day_number a.year a.month a.day ≡ s / 86_400 → day_number b.year b.month b.day ≡ s / 86_400 → (a.year ≡ b.year) × (a.month ≡ b.month) × (a.day ≡ b.day)
same_day a b s exists exists₂ e e₂ = same_date a.year a.month a.day b.year b.month b.day exists.date exists₂.date (e ∙ sym e₂)

-- the unit holds the second
pub record HoldsSecond (g : Granularity) (at : CivilMinute) (s : ℕ) : Type 0 where
  pub unit : IsUnitStart g at
  pub begun : second_of at ≤ s
  pub going : s < second_of at + unit_seconds g at

day_held : (g : Granularity) (at : CivilMinute) (s : ℕ) → number_of g ≤ 4 → HoldsSecond g at s → day_number at.year at.month at.day ≡ s / 86_400
day_held g at s short h =
    let begun = h.begun in
    let going = h.going in
    omega (arith, ends_in_day g at short h.unit.exists h.unit.starts)

year_held : (a b : CivilMinute) (s : ℕ) → HoldsSecond Year a s → HoldsSecond Year b s → a.year ≤ b.year
year_held a b s h k =
    let first = first_day a h.unit.starts.0 h.unit.starts.1 in
    let first₂ = first_day b k.unit.starts.0 k.unit.starts.1 in
    let later : suc b.year ≤ a.year → ⊥ =
    λ lt. omega (arith, later_year b.year a.year lt, new_year_number a.year, new_year_number b.year, h.begun, k.going) in
    let early : a.year < suc b.year = lt_of_not-le later in
    omega arith

-- the day of the month that holds the second
month_day : (at : CivilMinute) (s : ℕ) → HoldsSecond Month at s → (d : ℕ) × IsDate at.year at.month d × (day_number at.year at.month d ≡ s / 86_400)
month_day at s h =
    let begun = h.begun in
    let going = h.going in
    let starts = h.unit.starts in
    let d = s / 86_400 - day_number at.year at.month at.day + 1 in
    (d, record { month = h.unit.exists.date.month; day = (omega arith, omega arith) }, omega arith)

pub same_unit : (g : Granularity) (a b : CivilMinute) (s : ℕ) → HoldsSecond g a s → HoldsSecond g b s → a ≡ b
same_unit Year a b s h k =
    let year : a.year ≡ b.year = omega (arith, year_held a b s h k, year_held b a s k h) in
    same_minute a b year (h.unit.starts.0 ∙ sym k.unit.starts.0) (h.unit.starts.1 ∙ sym k.unit.starts.1) (h.unit.starts.2 ∙ sym k.unit.starts.2) (h.unit.starts.3 ∙ sym k.unit.starts.3)
same_unit Month a b s h k =
    let p = month_day a s h in
    let q = month_day b s k in
    let date = same_date a.year a.month p.0 b.year b.month q.0 p.1 q.1 (p.2 ∙ sym q.2) in
    same_minute a b date.0 date.1 (h.unit.starts.0 ∙ sym k.unit.starts.0) (h.unit.starts.1 ∙ sym k.unit.starts.1) (h.unit.starts.2 ∙ sym k.unit.starts.2)
same_unit Day a b s h k =
    let day : number_of Day ≤ 4 = omega arith in
    let date = same_day a b s h.unit.exists k.unit.exists (day_held Day a s day h) (day_held Day b s day k) in
    same_minute a b date.0 date.1 date.2 (h.unit.starts.0 ∙ sym k.unit.starts.0) (h.unit.starts.1 ∙ sym k.unit.starts.1)
same_unit Hour a b s h k =
    let day : number_of Hour ≤ 4 = omega arith in
    let date = same_day a b s h.unit.exists k.unit.exists (day_held Hour a s day h) (day_held Hour b s day k) in
    let hour : a.hour ≡ b.hour = omega (arith, h.begun, h.going, k.begun, k.going, day_held Hour a s day h, day_held Hour b s day k, h.unit.starts, k.unit.starts) in
    same_minute a b date.0 date.1 date.2 hour (h.unit.starts ∙ sym k.unit.starts)
same_unit ThirtyMinutes a b s h k =
    let day : number_of ThirtyMinutes ≤ 4 = omega arith in
    let e = day_held ThirtyMinutes a s day h in
    let e₂ = day_held ThirtyMinutes b s day k in
    let date = same_day a b s h.unit.exists k.unit.exists e e₂ in
    let hour : a.hour ≡ b.hour = omega (arith, e, e₂, h.begun, h.going, k.begun, k.going, h.unit.exists.minute, k.unit.exists.minute, h.unit.starts, k.unit.starts) in
    let minute : a.minute ≡ b.minute = omega (arith, e, e₂, hour, h.begun, h.going, k.begun, k.going, h.unit.starts, k.unit.starts) in
    same_minute a b date.0 date.1 date.2 hour minute
same_unit FifteenMinutes a b s h k =
    let day : number_of FifteenMinutes ≤ 4 = omega arith in
    let e = day_held FifteenMinutes a s day h in
    let e₂ = day_held FifteenMinutes b s day k in
    let date = same_day a b s h.unit.exists k.unit.exists e e₂ in
    let hour : a.hour ≡ b.hour = omega (arith, e, e₂, h.begun, h.going, k.begun, k.going, h.unit.exists.minute, k.unit.exists.minute, h.unit.starts, k.unit.starts) in
    let minute : a.minute ≡ b.minute = omega (arith, e, e₂, hour, h.begun, h.going, k.begun, k.going, h.unit.starts, k.unit.starts) in
    same_minute a b date.0 date.1 date.2 hour minute
same_unit FiveMinutes a b s h k =
    let day : number_of FiveMinutes ≤ 4 = omega arith in
    let e = day_held FiveMinutes a s day h in
    let e₂ = day_held FiveMinutes b s day k in
    let date = same_day a b s h.unit.exists k.unit.exists e e₂ in
    let hour : a.hour ≡ b.hour = omega (arith, e, e₂, h.begun, h.going, k.begun, k.going, h.unit.exists.minute, k.unit.exists.minute, h.unit.starts, k.unit.starts) in
    let minute : a.minute ≡ b.minute = omega (arith, e, e₂, hour, h.begun, h.going, k.begun, k.going, h.unit.starts, k.unit.starts) in
    same_minute a b date.0 date.1 date.2 hour minute

-- each unit ends before 2500
pub before_2500 : (g : Granularity) (at : CivilMinute) → IsUnitStart g at → second_of at + unit_seconds g at ≤ 913_107 * 86_400
before_2500 g at unit =
    omega (arith, ends_in_year g at unit, later_year at.year 2500 (omega (arith, unit.years)), new_year_number at.year, years_2500)

-- units of a granularity last at least so long, and less than those of the next one
least : ℕ → ℕ
least zero = 300
least (suc zero) = 900
least (suc (suc zero)) = 1800
least (suc (suc (suc zero))) = 3600
least (suc (suc (suc (suc zero)))) = 86_400
least (suc (suc (suc (suc (suc zero))))) = 28 * 86_400
least (suc (suc (suc (suc (suc (suc n)))))) = (365 + 2 * n) * 86_400

at_least : (g : Granularity) (at : CivilMinute) → least (number_of g) ≤ unit_seconds g at
unfolding least
at_least FiveMinutes at = omega arith
at_least FifteenMinutes at = omega arith
at_least ThirtyMinutes at = omega arith
at_least Hour at = omega arith
at_least Day at = omega arith
at_least Month at = omega (arith, month_bounds at.year at.month)
at_least Year at = omega (arith, year_bounds at.year)

less_than_next : (g : Granularity) (at : CivilMinute) → unit_seconds g at < least (suc (number_of g))
unfolding least
less_than_next FiveMinutes at = omega arith
less_than_next FifteenMinutes at = omega arith
less_than_next ThirtyMinutes at = omega arith
less_than_next Hour at = omega arith
less_than_next Day at = omega arith
less_than_next Month at = omega (arith, month_bounds at.year at.month)
less_than_next Year at = omega (arith, year_bounds at.year)

least_more : (n : ℕ) → least n ≤ least (suc n)
unfolding least
least_more zero = omega arith
least_more (suc zero) = omega arith
least_more (suc (suc zero)) = omega arith
least_more (suc (suc (suc zero))) = omega arith
least_more (suc (suc (suc (suc zero)))) = omega arith
least_more (suc (suc (suc (suc (suc zero))))) = omega arith
least_more (suc (suc (suc (suc (suc (suc n)))))) = omega arith

least_mono : (m n : ℕ) → m ≤ n → least m ≤ least n
least_mono m zero h = let same : m ≡ 0 = omega arith in rw same (omega arith)
least_mono m (suc n) h =
    elim (eq-or-lt_of_le h) [
      | inl same ↦ rw same (omega arith)
      | inr before ↦ omega (arith, least_mono m n (omega arith), least_more n)
    ]

pub lasts : (g : Granularity) (at : CivilMinute) → 0 < unit_seconds g at
unfolding least
lasts g at = omega (arith, at_least g at, least_mono 0 (number_of g) (omega arith))

-- a unit of a coarser granularity lasts longer
pub longer : (coarse fine : Granularity) (at from : CivilMinute) → number_of coarse < number_of fine → unit_seconds coarse at < unit_seconds fine from
longer coarse fine at from h =
    omega (arith, less_than_next coarse at, least_mono (suc (number_of coarse)) (number_of fine) h, at_least fine from)
