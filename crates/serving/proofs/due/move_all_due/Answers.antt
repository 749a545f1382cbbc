use Rattle.std.proofs.Common.{subst}
use Rattle.std.specs.Prelude.{Ok, Err}
use Rattle.serving.specs.Does.{Does}
use Rattle.serving.specs.Moves.{StoreMovesSo, IsSwept}
use Rattle.serving.specs.Due.{MovesDue}
use Rattle.serving.proofs.Joins.{join, does_as}
use Rattle.serving.proofs.Dues.{BothMoved, both_moved, short_stops, medium_stops, sweep_stops, all_moved}
use Rattle.serving.proofs.due.move_all_due.Goals as goal

pub returns-in-Err-clause-moves : goal.returns-in-Err-clause-moves
returns-in-Err-clause-moves g c =
    let A = g.A.Actor in
    let why = c.in-Err.err in
    let now = c.args.now in
    does_as A (StoreMovesSo 1 now (Err why)) (MovesDue now (Err why)) (short_stops why now) c.args.actor.now c.move_store.new.actor
    (subst (λ e. Does A c.args.actor.now (StoreMovesSo 1 now e) c.move_store.new.actor) c.in-Err.is c.move_store.ensures.moves)

pub returns-in-Err-move_store-clause-moves : goal.returns-in-Err-move_store-clause-moves
returns-in-Err-move_store-clause-moves g c =
    let A = g.A.Actor in
    let why = c.in-Err-move_store.err in
    let now = c.args.now in
    let short = c.in-Ok.short in
    join A g.met.A.Actor.joined g.met.A.Actor.number_stays (StoreMovesSo 1 now (Ok short)) (StoreMovesSo 2 now (Err why)) (MovesDue now (Err why)) (medium_stops why now short) c.args.actor.now c.move_store.new.actor c.move_store-2.new.actor
    (subst (λ e. Does A c.args.actor.now (StoreMovesSo 1 now e) c.move_store.new.actor) c.in-Ok.is c.move_store.ensures.moves)
    (subst (λ e. Does A c.move_store.new.actor (StoreMovesSo 2 now e) c.move_store-2.new.actor) c.in-Err-move_store.is c.move_store-2.ensures.moves)

pub returns-in-Ok-sweep-clause-moves : goal.returns-in-Ok-sweep-clause-moves
returns-in-Ok-sweep-clause-moves g c =
    let A = g.A.Actor in
    let j = g.met.A.Actor.joined in
    let n = g.met.A.Actor.number_stays in
    let now = c.args.now in
    let short = c.in-Ok.short in
    let medium = c.in-Ok-move_store.medium in
    join A j n (BothMoved now short medium) (IsSwept (Ok tt)) (MovesDue now (Ok (record { short = short.retired; medium = medium.retired }))) (all_moved now short medium) c.args.actor.now c.move_store-2.new.actor c.sweep.new.actor
    (join A j n (StoreMovesSo 1 now (Ok short)) (StoreMovesSo 2 now (Ok medium)) (BothMoved now short medium) (both_moved now short medium) c.args.actor.now c.move_store.new.actor c.move_store-2.new.actor
    (subst (λ e. Does A c.args.actor.now (StoreMovesSo 1 now e) c.move_store.new.actor) c.in-Ok.is c.move_store.ensures.moves)
    (subst (λ e. Does A c.move_store.new.actor (StoreMovesSo 2 now e) c.move_store-2.new.actor) c.in-Ok-move_store.is c.move_store-2.ensures.moves))
    (subst (λ e. Does A c.move_store-2.new.actor (IsSwept e) c.sweep.new.actor) c.in-Ok-sweep.is c.sweep.ensures.sweeps)

pub returns-in-Err-sweep-clause-moves : goal.returns-in-Err-sweep-clause-moves
returns-in-Err-sweep-clause-moves g c =
    let A = g.A.Actor in
    let j = g.met.A.Actor.joined in
    let n = g.met.A.Actor.number_stays in
    let now = c.args.now in
    let why = c.in-Err-sweep.err in
    let short = c.in-Ok.short in
    let medium = c.in-Ok-move_store.medium in
    join A j n (BothMoved now short medium) (IsSwept (Err why)) (MovesDue now (Err why)) (sweep_stops why now short medium) c.args.actor.now c.move_store-2.new.actor c.sweep.new.actor
    (join A j n (StoreMovesSo 1 now (Ok short)) (StoreMovesSo 2 now (Ok medium)) (BothMoved now short medium) (both_moved now short medium) c.args.actor.now c.move_store.new.actor c.move_store-2.new.actor
    (subst (λ e. Does A c.args.actor.now (StoreMovesSo 1 now e) c.move_store.new.actor) c.in-Ok.is c.move_store.ensures.moves)
    (subst (λ e. Does A c.move_store.new.actor (StoreMovesSo 2 now e) c.move_store-2.new.actor) c.in-Ok-move_store.is c.move_store-2.ensures.moves))
    (subst (λ e. Does A c.move_store-2.new.actor (IsSwept e) c.sweep.new.actor) c.in-Err-sweep.is c.sweep.ensures.sweeps)
