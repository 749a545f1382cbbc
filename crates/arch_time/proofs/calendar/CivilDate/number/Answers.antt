use Rattle.std.proofs.Common.{arith}
use Rattle.arch_time.proofs.CalendarLemmas.{jiff_number}
use Rattle.arch_time.proofs.calendar.CivilDate.number.Goals as goal

pub overflow_sub-result : goal.overflow_sub-result
overflow_sub-result c = omega (arith, jiff_number c.to_jiff.result c.args.self.year c.args.self.month c.args.self.day c.days_since_min.result c.to_jiff.ensures c.days_since_min.ensures.value)

pub returns-clause-value : goal.returns-clause-value
returns-clause-value c = omega (arith, jiff_number c.to_jiff.result c.args.self.year c.args.self.month c.args.self.day c.days_since_min.result c.to_jiff.ensures c.days_since_min.ensures.value)
