use Rattle.std.proofs.Common.{subst, ap, sym, ◌∙◌, ◌+◌, ◌-◌, ◌^◌, min}
use Rattle.std.specs.Prelude.{Ok, Err}
use Rattle.serving.specs.declared.moves.OneMove.TheVariants as one
use Rattle.serving.specs.Does.{Does}
use Rattle.serving.specs.Moves.{OneMoveSo, StoreMovesSo}
use Rattle.serving.proofs.Joins.{join, does_none}
use Rattle.serving.proofs.Moving.{MovesTo, none_yet, store_more, store_ends, store_stops}
use Rattle.serving.proofs.moves.move_store.Goals as goal

pub loop-init : goal.loop-init
loop-init g c = (tt, tt, c.requires.stands, does_none g.A.Actor g.met.A.Actor.nothing (MovesTo c.args.store c.args.now 0) (none_yet c.args.store c.args.now) c.args.actor.now)

pub loop-preserved : goal.loop-preserved
loop-preserved g c =
    let A = g.A.Actor in
    let store = c.args.store in
    let now = c.args.now in
    let parts = c.in-Ok-Over.parts in
    let retired = c.loop.retired in (
      tt,
      tt,
      c.move_once.ensures.stands,
      subst (λ r. Does A c.args.actor.now (MovesTo store now r) c.move_once.new.actor) (sym c.saturating_add-retired.ensures)
          (join A g.met.A.Actor.joined g.met.A.Actor.number_stays (MovesTo store now retired) (OneMoveSo store now (Ok (one.Over parts))) (MovesTo store now (min (retired + parts) (2 ^ 64 - 1))) (store_more store now retired parts) c.args.actor.now c.loop.actor c.move_once.new.actor c.loop.invariant.3
          (subst (λ e. Does A c.loop.actor (OneMoveSo store now e) c.move_once.new.actor) (c.in-Ok-Over.is ∙ ap Ok c.in-Ok-Over.field-0-is) c.move_once.ensures.moves)),
    )

pub returns-in-Ok-Nothing-clause-moves : goal.returns-in-Ok-Nothing-clause-moves
returns-in-Ok-Nothing-clause-moves g c =
    let A = g.A.Actor in
    let store = c.args.store in
    let now = c.args.now in
    let doors = c.in-Ok-Nothing.doors in
    let retired = c.loop.retired in
    join A g.met.A.Actor.joined g.met.A.Actor.number_stays (MovesTo store now retired) (OneMoveSo store now (Ok (one.Nothing doors))) (StoreMovesSo store now (Ok (record { retired = retired; doors = doors }))) (store_ends store now retired doors) c.args.actor.now c.loop.actor c.move_once.new.actor c.loop.invariant.3
    (subst (λ e. Does A c.loop.actor (OneMoveSo store now e) c.move_once.new.actor) (c.in-Ok-Nothing.is ∙ ap Ok c.in-Ok-Nothing.field-0-is) c.move_once.ensures.moves)

pub returns-in-Err-clause-moves : goal.returns-in-Err-clause-moves
returns-in-Err-clause-moves g c =
    let A = g.A.Actor in
    let store = c.args.store in
    let now = c.args.now in
    let why = c.in-Err.err in
    let retired = c.loop.retired in
    join A g.met.A.Actor.joined g.met.A.Actor.number_stays (MovesTo store now retired) (OneMoveSo store now (Err why)) (StoreMovesSo store now (Err why)) (store_stops why store now retired) c.args.actor.now c.loop.actor c.move_once.new.actor c.loop.invariant.3
    (subst (λ e. Does A c.loop.actor (OneMoveSo store now e) c.move_once.new.actor) c.in-Err.is c.move_once.ensures.moves)
