use Rattle.act_model.specs.Machine.{Machine}
use Rattle.serving.specs.Does.{Does}
use Rattle.serving.proofs.Joins.{TicksTo}
use Rattle.serving.proofs.flusher.tick_all.Given as goal

abbrev pub invariant-loop-row : goal.invariant-loop-row
invariant-loop-row g l =
    ((m : Machine) × g.A.Actor.stands l.actor m)
    × Does g.A.Actor l.fn.actor (TicksTo l.now l.row) l.actor
