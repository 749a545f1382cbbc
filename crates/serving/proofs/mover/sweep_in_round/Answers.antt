use Rattle.std.proofs.Common.{subst, sym, ap, ◌∙◌}
use Rattle.std.specs.Prelude.{Ok, Err, None, IfOk, OnErr}
use Rattle.serving.specs.Does.{Does, AreNone}
use Rattle.serving.specs.Moves.{IsSwept, SweepsSo}
use Rattle.serving.proofs.Joins.{does_as}
use Rattle.serving.proofs.Moving.{sweep_met, spent_met}
use Rattle.serving.proofs.mover.sweep_in_round.Goals as goal

pub returns-in-Ok-clause-sweeps : goal.returns-in-Ok-clause-sweeps
returns-in-Ok-clause-sweeps g c =
    let A = g.A.Actor in
    does_as A (IsSwept (Ok tt)) (SweepsSo None) (λ ds p. p) c.args.actor.now c.sweep.new.actor
    (subst (λ e. Does A c.args.actor.now (IsSwept e) c.sweep.new.actor) c.in-Ok.is c.sweep.ensures.sweeps)

pub returns-in-Err-clause-sweeps : goal.returns-in-Err-clause-sweeps
returns-in-Err-clause-sweeps g c =
    let A = g.A.Actor in
    subst (λ r. IfOk r (λ end. Does A c.args.actor.now (SweepsSo end) c.sweep.new.actor)) (sym c.end_met.ensures)
    (sweep_met A c.args.actor.now c.sweep.new.actor c.in-Err.err
    (subst (λ e. Does A c.args.actor.now (IsSwept e) c.sweep.new.actor) c.in-Err.is c.sweep.ensures.sweeps))

pub returns-in-Err-clause-spent : goal.returns-in-Err-clause-spent
returns-in-Err-clause-spent g c =
    let A = g.A.Actor in
    subst (λ r. OnErr r (Does A c.args.actor.now AreNone c.sweep.new.actor × g.A.Actor.is_spent c.sweep.new.actor)) (sym c.end_met.ensures)
    (spent_met A c.args.actor.now c.sweep.new.actor g.A.Actor.is_spent (IsSwept (Err c.in-Err.err)) AreNone c.in-Err.err (λ is. c.sweep.ensures.spent (c.in-Err.is ∙ ap Err is))
    (λ is ds p. subst (λ e. IsSwept (Err e) ds) is p)
    (subst (λ e. Does A c.args.actor.now (IsSwept e) c.sweep.new.actor) c.in-Err.is c.sweep.ensures.sweeps))
