use Rattle.std.proofs.Common.{arith}
use Rattle.partition_names.proofs.UnitLemmas.{day_span}
use Rattle.partition_names.proofs.unit.moment.Goals as goal

pub overflow_sub-days : goal.overflow_sub-days
overflow_sub-days c = omega (arith, day_span c.args.at.year c.args.at.month c.args.at.day c.requires.exists.date c.requires.years)

pub overflow_mul-result-4 : goal.overflow_mul-result-4
overflow_mul-result-4 c = omega (arith, c.requires.exists.hour, c.requires.exists.minute, day_span c.args.at.year c.args.at.month c.args.at.day c.requires.exists.date c.requires.years)

pub returns-clause-value : goal.returns-clause-value
returns-clause-value c = omega (arith, day_span c.args.at.year c.args.at.month c.args.at.day c.requires.exists.date c.requires.years)

pub returns-clause-bound : goal.returns-clause-bound
returns-clause-bound c = omega (arith, c.requires.exists.hour, c.requires.exists.minute, day_span c.args.at.year c.args.at.month c.args.at.day c.requires.exists.date c.requires.years)
