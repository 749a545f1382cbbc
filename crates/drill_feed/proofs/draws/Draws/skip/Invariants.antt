use Rattle.std.proofs.Common.{◌≡◌}
use Rattle.drill_feed.specs.Workload.{drawn}
use Rattle.drill_feed.proofs.draws.Draws.skip.Given as goal

abbrev pub invariant-loop-made : goal.invariant-loop-made
invariant-loop-made l = l.self.last ≡ drawn l.fn.self.last l.made
