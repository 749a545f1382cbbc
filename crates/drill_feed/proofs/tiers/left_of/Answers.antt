use Rattle.std.proofs.Common.{◌+◌, ◌-◌, ℕ, ap, arith, ◌∙◌}
use Rattle.drill_feed.proofs.Moves.{one_move}
use Rattle.drill_feed.proofs.tiers.left_of.Goals as goal

pub loop-left-preserved : goal.loop-left-preserved
loop-left-preserved c =
    let was = c.loop-left.invariant in
    record {
      moves = (was.moves.0 + 1, ap (λ (n : ℕ). c.loop-left.left - n) c.min-left.ensures ∙ one_move c.args.hold c.args.gather c.args.ripe c.loop-left.left was.moves.0 c.requires.hold c.loop-left-test.true was.moves.1);
      bound = omega (arith, was.bound);
    }
