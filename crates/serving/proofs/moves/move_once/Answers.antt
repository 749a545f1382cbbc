use Rattle.std.proofs.Common.{subst, ap, ◌∙◌}
use Rattle.std.specs.Prelude.{Ok, Err}
use Rattle.serving.specs.declared.moves.BegunMove.TheVariants as begun
use Rattle.serving.specs.declared.moves.OneMove.TheVariants as one
use Rattle.serving.specs.Does.{Does}
use Rattle.serving.specs.Moves.{BeginsSo, MovesSo, OneMoveSo}
use Rattle.serving.proofs.Joins.{join, does_as}
use Rattle.serving.proofs.Moving.{once_over, once_stops, none_to_make, begin_stops}
use Rattle.serving.proofs.moves.move_once.Goals as goal

pub returns-in-Ok-clause-moves : goal.returns-in-Ok-clause-moves
returns-in-Ok-clause-moves g c =
    let A = g.A.Actor in
    let m = c.in-Ok-Moves.m in
    let store = c.args.store in
    let now = c.args.now in
    join A g.met.A.Actor.joined g.met.A.Actor.number_stays (BeginsSo store now (Ok (begun.Moves m))) (MovesSo m (Ok c.in-Ok.parts)) (OneMoveSo store now (Ok (one.Over c.in-Ok.parts))) (once_over store now m c.in-Ok.parts) c.args.actor.now c.begin_move.new.actor c.move_through.new.actor
    (subst (λ e. Does A c.args.actor.now (BeginsSo store now e) c.begin_move.new.actor) (c.in-Ok-Moves.is ∙ ap Ok c.in-Ok-Moves.field-0-is) c.begin_move.ensures.begins)
    (subst (λ e. Does A c.begin_move.new.actor (MovesSo m e) c.move_through.new.actor) c.in-Ok.is c.move_through.ensures.moves)

pub returns-in-Err-move_through-clause-moves : goal.returns-in-Err-move_through-clause-moves
returns-in-Err-move_through-clause-moves g c =
    let A = g.A.Actor in
    let m = c.in-Ok-Moves.m in
    let store = c.args.store in
    let now = c.args.now in
    let why = c.in-Err-move_through.err in
    join A g.met.A.Actor.joined g.met.A.Actor.number_stays (BeginsSo store now (Ok (begun.Moves m))) (MovesSo m (Err why)) (OneMoveSo store now (Err why)) (once_stops why store now m) c.args.actor.now c.begin_move.new.actor c.move_through.new.actor
    (subst (λ e. Does A c.args.actor.now (BeginsSo store now e) c.begin_move.new.actor) (c.in-Ok-Moves.is ∙ ap Ok c.in-Ok-Moves.field-0-is) c.begin_move.ensures.begins)
    (subst (λ e. Does A c.begin_move.new.actor (MovesSo m e) c.move_through.new.actor) c.in-Err-move_through.is c.move_through.ensures.moves)

pub returns-in-Ok-Nothing-clause-moves : goal.returns-in-Ok-Nothing-clause-moves
returns-in-Ok-Nothing-clause-moves g c =
    let A = g.A.Actor in
    let doors = c.in-Ok-Nothing.doors in
    let store = c.args.store in
    let now = c.args.now in
    does_as A (BeginsSo store now (Ok (begun.Nothing doors))) (OneMoveSo store now (Ok (one.Nothing doors))) (none_to_make store now doors) c.args.actor.now c.begin_move.new.actor
    (subst (λ e. Does A c.args.actor.now (BeginsSo store now e) c.begin_move.new.actor) (c.in-Ok-Nothing.is ∙ ap Ok c.in-Ok-Nothing.field-0-is) c.begin_move.ensures.begins)

pub returns-in-Err-clause-moves : goal.returns-in-Err-clause-moves
returns-in-Err-clause-moves g c =
    let A = g.A.Actor in
    let why = c.in-Err.err in
    let store = c.args.store in
    let now = c.args.now in
    does_as A (BeginsSo store now (Err why)) (OneMoveSo store now (Err why)) (begin_stops why store now) c.args.actor.now c.begin_move.new.actor
    (subst (λ e. Does A c.args.actor.now (BeginsSo store now e) c.begin_move.new.actor) c.in-Err.is c.begin_move.ensures.begins)
