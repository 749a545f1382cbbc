-- What is counted of events.
use Rattle.std.proofs.Common.{ℕ, ℤ, ◌+◌, ◌<◌, ◌≤◌, pos, negsuc, arith, sym, subst}
use Rattle.std.proofs.lemmas.Int.{ints}
use Rattle.arch_time.specs.Calendar.{days_in_year, days_of_years}
use Rattle.arch_time.specs.YearTime.{IsInYear, IsSampleYear, moment}
use Rattle.arch_time.proofs.CalendarLemmas.{later_year, years_1970, years_2500, years_mono}
use Rattle.pb_wire.specs.declared.payload.PayloadType.{PayloadType}
use Rattle.series_model.specs.declared.sample.Sample.{Sample}
use Rattle.act_model.specs.Event.{IsEvent}

moment_early : (y : ℤ) (s n : ℕ) → IsSampleYear y → IsInYear y s n → moment y s n < 16725225600000000000
moment_early (pos y) s n year within =
    let low : y < 2500 = omega (arith, ints, year.1) in
    let from : days_of_years 1970 ≤ days_of_years y = years_mono 1970 y (omega (arith, ints, year.0)) in
    let days : days_of_years y + days_in_year y ≤ days_of_years 2500 = later_year y 2500 low in
    omega (arith, from, days, years_1970, years_2500, within.second, within.nano)
moment_early (negsuc y) s n year within = absurd (omega (arith, ints, year.0))

-- an event's moment is before the year 2500
pub event_early : (ty : PayloadType) (s : Sample) → IsEvent ty s → s.t < 16725225600000000000
event_early ty s is = subst (λ (t : ℕ). t < 16725225600000000000) (sym is.at) (moment_early is.year is.secs is.nano is.sample_year is.in_year)
