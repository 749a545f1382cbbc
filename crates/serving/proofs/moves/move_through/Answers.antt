use Rattle.std.proofs.Common.{subst, ap, ◌∙◌}
use Rattle.std.specs.Prelude.{None, Some, Ok, Err}
use Rattle.serving.specs.Does.{Does}
use Rattle.serving.specs.Moves.{AreStepsOn, StepsSo, MovesSo}
use Rattle.serving.proofs.Joins.{join}
use Rattle.serving.proofs.Moving.{step_on, step_ends, step_stops}
use Rattle.serving.proofs.moves.move_through.Goals as goal

pub loop-preserved : goal.loop-preserved
loop-preserved g c = (
  tt,
  tt,
  c.step_move.ensures.stands,
  join g.A.Actor g.met.A.Actor.joined g.met.A.Actor.number_stays (AreStepsOn c.args.m) (StepsSo c.args.m (Ok None)) (AreStepsOn c.args.m) (step_on c.args.m) c.args.actor.now c.loop.actor c.step_move.new.actor c.loop.invariant.3
      (subst (λ e. Does g.A.Actor c.loop.actor (StepsSo c.args.m e) c.step_move.new.actor) (c.in-Ok-None.is ∙ ap Ok c.in-Ok-None.field-0-is) c.step_move.ensures.steps),
)

pub returns-in-Ok-Some-clause-moves : goal.returns-in-Ok-Some-clause-moves
returns-in-Ok-Some-clause-moves g c =
    join g.A.Actor g.met.A.Actor.joined g.met.A.Actor.number_stays (AreStepsOn c.args.m) (StepsSo c.args.m (Ok (Some c.in-Ok-Some.parts))) (MovesSo c.args.m (Ok c.in-Ok-Some.parts)) (step_ends c.args.m c.in-Ok-Some.parts) c.args.actor.now c.loop.actor c.step_move.new.actor c.loop.invariant.3
    (subst (λ e. Does g.A.Actor c.loop.actor (StepsSo c.args.m e) c.step_move.new.actor) (c.in-Ok-Some.is ∙ ap Ok c.in-Ok-Some.field-0-is) c.step_move.ensures.steps)

pub returns-in-Err-clause-moves : goal.returns-in-Err-clause-moves
returns-in-Err-clause-moves g c =
    join g.A.Actor g.met.A.Actor.joined g.met.A.Actor.number_stays (AreStepsOn c.args.m) (StepsSo c.args.m (Err c.in-Err.err)) (MovesSo c.args.m (Err c.in-Err.err)) (step_stops c.args.m c.in-Err.err) c.args.actor.now c.loop.actor c.step_move.new.actor c.loop.invariant.3
    (subst (λ e. Does g.A.Actor c.loop.actor (StepsSo c.args.m e) c.step_move.new.actor) c.in-Err.is c.step_move.ensures.steps)
