use Rattle.std.proofs.Common.{arith}
use Rattle.arch_time.proofs.CalendarLemmas.{years_1970, years_1991, years_2500}
use Rattle.arch_time.proofs.laws.year_ends.Goals as goal

pub returns-clause-epoch : goal.returns-clause-epoch
returns-clause-epoch c = omega arith

pub returns-clause-first : goal.returns-clause-first
returns-clause-first c = omega (arith, years_1970, years_1991)

pub returns-clause-end : goal.returns-clause-end
returns-clause-end c = omega (arith, years_1970, years_2500)
