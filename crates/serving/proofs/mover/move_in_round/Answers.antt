use Rattle.std.proofs.Common.{subst, sym, ap, ◌∙◌}
use Rattle.std.specs.Prelude.{Ok, Err, Some, None, IfOk, OnErr}
use Rattle.serving.specs.declared.ends.MoverEnd.TheVariants.{Rests}
use Rattle.serving.specs.Does.{Does}
use Rattle.serving.specs.Moves.{AreSoFar, StoreMovesSo, StoreSo}
use Rattle.serving.proofs.Joins.{does_as}
use Rattle.serving.proofs.Moving.{rests_so, waits_so, store_met, spent_met}
use Rattle.serving.proofs.mover.move_in_round.Goals as goal

pub returns-then-moved-eq0-clause-moves : goal.returns-then-moved-eq0-clause-moves
returns-then-moved-eq0-clause-moves g c =
    let A = g.A.Actor in
    does_as A (StoreMovesSo c.args.store c.args.now (Ok c.in-Ok.moved)) (StoreSo c.args.store c.args.now (Some Rests)) (λ ds p. rests_so c.args.store c.args.now c.in-Ok.moved ds c.if-moved-eq0.true p) c.args.actor.now c.move_store.new.actor
    (subst (λ e. Does A c.args.actor.now (StoreMovesSo c.args.store c.args.now e) c.move_store.new.actor) c.in-Ok.is c.move_store.ensures.moves)

pub returns-in-Ok-clause-moves : goal.returns-in-Ok-clause-moves
returns-in-Ok-clause-moves g c =
    let A = g.A.Actor in
    does_as A (StoreMovesSo c.args.store c.args.now (Ok c.in-Ok.moved)) (StoreSo c.args.store c.args.now None) (λ ds p. waits_so c.args.store c.args.now c.in-Ok.moved ds c.if-moved-eq0.false p) c.args.actor.now c.move_store.new.actor
    (subst (λ e. Does A c.args.actor.now (StoreMovesSo c.args.store c.args.now e) c.move_store.new.actor) c.in-Ok.is c.move_store.ensures.moves)

pub returns-in-Err-clause-moves : goal.returns-in-Err-clause-moves
returns-in-Err-clause-moves g c =
    let A = g.A.Actor in
    subst (λ r. IfOk r (λ end. Does A c.args.actor.now (StoreSo c.args.store c.args.now end) c.move_store.new.actor)) (sym c.end_met.ensures)
    (store_met A c.args.actor.now c.move_store.new.actor c.in-Err.err c.args.store c.args.now
    (subst (λ e. Does A c.args.actor.now (StoreMovesSo c.args.store c.args.now e) c.move_store.new.actor) c.in-Err.is c.move_store.ensures.moves))

pub returns-in-Err-clause-spent : goal.returns-in-Err-clause-spent
returns-in-Err-clause-spent g c =
    let A = g.A.Actor in
    subst (λ r. OnErr r (Does A c.args.actor.now (AreSoFar c.args.store c.args.now) c.move_store.new.actor × g.A.Actor.is_spent c.move_store.new.actor)) (sym c.end_met.ensures)
    (spent_met A c.args.actor.now c.move_store.new.actor g.A.Actor.is_spent (StoreMovesSo c.args.store c.args.now (Err c.in-Err.err)) (AreSoFar c.args.store c.args.now) c.in-Err.err (λ is. c.move_store.ensures.spent (c.in-Err.is ∙ ap Err is))
    (λ is ds p. subst (λ e. StoreMovesSo c.args.store c.args.now (Err e) ds) is p)
    (subst (λ e. Does A c.args.actor.now (StoreMovesSo c.args.store c.args.now e) c.move_store.new.actor) c.in-Err.is c.move_store.ensures.moves))
