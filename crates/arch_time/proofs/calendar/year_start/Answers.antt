use Rattle.std.proofs.Common.{arith}
use Rattle.arch_time.proofs.YearLemmas.{new_year_number}
use Rattle.arch_time.proofs.calendar.year_start.Goals as goal

pub returns-clause-value : goal.returns-clause-value
returns-clause-value c = omega (arith, new_year_number c.args.year)
