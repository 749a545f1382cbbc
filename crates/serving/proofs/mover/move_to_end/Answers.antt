use Rattle.std.proofs.Common.{[], ◌∷◌, subst}
use Rattle.edge_io.proofs.Clocks.{gives_on}
use Rattle.serving.specs.Does.{Does}
use Rattle.serving.specs.Moves.{IsMoverRoundSo, LastMovesAt, MoveRoundAt, MovesCutAt}
use Rattle.serving.proofs.Joins.{no_rounds, round_last, round_more}
use Rattle.serving.proofs.mover.move_to_end.Goals as goal

pub loop-init : goal.loop-init
loop-init g c = (tt, tt, c.requires.stands, no_rounds g.A.Actor g.met.A.Actor.nothing MoveRoundAt c.args.actor.now (g.C.Clock.coming c.args.clock.now))

pub loop-preserved : goal.loop-preserved
loop-preserved g c =
    let coming = g.C.Clock.coming in (
      tt,
      tt,
      c.move_round.ensures.stands,
      round_more g.A.Actor g.met.A.Actor.joined g.met.A.Actor.number_stays MoveRoundAt c.args.actor.now c.loop.actor c.move_round.new.actor (coming c.args.clock.now) (coming c.loop.clock) (coming c.rest.new.self) c.now-now.result
          c.loop.invariant.3 (gives_on (coming c.loop.clock) (coming c.now-now.new.self) (coming c.rest.new.self) (c.now-now.result ∷ []) [] c.now-now.ensures.gives c.rest.ensures.gives)
          (subst (λ e. Does g.A.Actor c.loop.actor (IsMoverRoundSo c.now-now.result e) c.move_round.new.actor) c.in-Ok-None.field-0-is c.in-Ok-None.ensures.round),
    )

pub returns-in-Ok-Some-clause-moves : goal.returns-in-Ok-Some-clause-moves
returns-in-Ok-Some-clause-moves g c =
    let coming = g.C.Clock.coming in
    round_last g.A.Actor g.met.A.Actor.joined g.met.A.Actor.number_stays MoveRoundAt (LastMovesAt c.in-Ok-Some.end) c.args.actor.now c.loop.actor c.move_round.new.actor (coming c.args.clock.now) (coming c.loop.clock) (coming c.now-now.new.self) c.now-now.result
    c.loop.invariant.3 c.now-now.ensures.gives
    (subst (λ e. Does g.A.Actor c.loop.actor (IsMoverRoundSo c.now-now.result e) c.move_round.new.actor) c.in-Ok-Some.field-0-is c.in-Ok-Some.ensures.round)

pub returns-in-Err-clause-moves : goal.returns-in-Err-clause-moves
returns-in-Err-clause-moves g c =
    let coming = g.C.Clock.coming in
    round_last g.A.Actor g.met.A.Actor.joined g.met.A.Actor.number_stays MoveRoundAt MovesCutAt c.args.actor.now c.loop.actor c.move_round.new.actor (coming c.args.clock.now) (coming c.loop.clock) (coming c.now-now.new.self) c.now-now.result
    c.loop.invariant.3 c.now-now.ensures.gives c.in-Err.ensures.spent.0

pub returns-in-Err-clause-spent : goal.returns-in-Err-clause-spent
returns-in-Err-clause-spent g c err = c.in-Err.ensures.spent.1
