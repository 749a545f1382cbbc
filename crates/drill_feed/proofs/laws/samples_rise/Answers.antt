use Rattle.std.proofs.Common.{arith}
use Rattle.drill_feed.proofs.Moments.{moment_is, samples_rising, samples_within}
use Rattle.drill_feed.proofs.laws.samples_rise.Goals as goal

pub returns-clause-start : goal.returns-clause-start
returns-clause-start c = omega (arith, moment_is 0)

pub returns-clause-rising : goal.returns-clause-rising
returns-clause-rising c = samples_rising

pub returns-clause-within : goal.returns-clause-within
returns-clause-within c = samples_within
