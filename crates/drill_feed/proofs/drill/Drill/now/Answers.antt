use Rattle.std.proofs.Common.{◌+◌, ◌*◌, arith}
use Rattle.drill_feed.proofs.Moments.{moment_is}
use Rattle.drill_feed.proofs.drill.Drill.now.Goals as goal

pub returns : goal.returns
returns c = omega (arith, moment_is (3600 * (c.args.self.hours + 1)))
