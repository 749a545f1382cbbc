use Rattle.std.proofs.Common.{arith, FitsSigned, w16, to_z-of_z, pos}
use Rattle.jiff_core.proofs.SignedLemmas.{signed_arith}
use Rattle.arch_time.proofs.CalendarLemmas.{jiff_date}
use Rattle.arch_time.proofs.calendar.CivilDate.of_number.Goals as goal

pub overflow_cast-result : goal.overflow_cast-result
overflow_cast-result c =
    let date = jiff_date c.from_days_since_min-date.result c.args.number c.from_days_since_min-date.ensures in
    let fits : FitsSigned w16 (pos date.0) = omega (arith, signed_arith, date.3) in
    rw (date.1, to_z-of_z fits) (tt, omega (arith, date.3))

pub returns : goal.returns
returns c =
    let date = jiff_date c.from_days_since_min-date.result c.args.number c.from_days_since_min-date.ensures in
    let fits : FitsSigned w16 (pos date.0) = omega (arith, signed_arith, date.3) in
    rw (date.1, to_z-of_z fits) date.2
