use Rattle.act_model.specs.Machine.{Machine}
use Rattle.serving.specs.Does.{Does}
use Rattle.serving.proofs.Moving.{MovesTo}
use Rattle.serving.proofs.moves.move_store.Given as goal

abbrev pub invariant-loop : goal.invariant-loop
invariant-loop g l =
    (goal.iterator-loop g).can_next l.iterator' × (goal.iterator-loop g).is_finite l.iterator'
    × ((m : Machine) × g.A.Actor.stands l.actor m)
    × Does g.A.Actor l.fn.actor (MovesTo l.store l.now l.retired) l.actor
