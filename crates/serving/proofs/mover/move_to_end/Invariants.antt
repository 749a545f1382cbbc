use Rattle.act_model.specs.Machine.{Machine}
use Rattle.serving.specs.Moves.{MoveRoundAt}
use Rattle.serving.specs.Timed.{AreRoundsAt, DoesAt}
use Rattle.serving.proofs.mover.move_to_end.Given as goal

abbrev pub invariant-loop : goal.invariant-loop
invariant-loop g l =
    (goal.iterator-loop g).can_next l.iterator' × (goal.iterator-loop g).is_finite l.iterator'
    × ((m : Machine) × g.A.Actor.stands l.actor m)
    × DoesAt g.A.Actor l.fn.actor (g.C.Clock.coming l.fn.clock) (AreRoundsAt MoveRoundAt) l.actor (g.C.Clock.coming l.clock)
