use Rattle.std.proofs.Common.{[], ◌∷◌, subst}
use Rattle.edge_io.proofs.Clocks.{gives_on}
use Rattle.serving.specs.Does.{Does}
use Rattle.serving.specs.Flushes.{FlushCutAt, FlushRoundAt, IsRoundSo, LastFlushAt}
use Rattle.serving.proofs.Joins.{no_rounds, round_last, round_more}
use Rattle.serving.proofs.flusher.flush_to_end.Goals as goal

pub loop-init : goal.loop-init
loop-init g c = (tt, tt, c.requires.stands, no_rounds g.A.Actor g.met.A.Actor.nothing FlushRoundAt c.args.actor.now (g.C.Clock.coming c.args.clock.now))

pub loop-preserved : goal.loop-preserved
loop-preserved g c =
    let coming = g.C.Clock.coming in (
      tt,
      tt,
      c.flush_round.ensures.stands,
      round_more g.A.Actor g.met.A.Actor.joined g.met.A.Actor.number_stays FlushRoundAt c.args.actor.now c.loop.actor c.flush_round.new.actor (coming c.args.clock.now) (coming c.loop.clock) (coming c.rest.new.self) c.now-now.result
          c.loop.invariant.3 (gives_on (coming c.loop.clock) (coming c.now-now.new.self) (coming c.rest.new.self) (c.now-now.result ∷ []) [] c.now-now.ensures.gives c.rest.ensures.gives)
          (subst (λ e. Does g.A.Actor c.loop.actor (IsRoundSo c.now-now.result e) c.flush_round.new.actor) c.in-Ok-None.field-0-is c.in-Ok-None.ensures.round),
    )

pub returns-in-Ok-Some-clause-flushes : goal.returns-in-Ok-Some-clause-flushes
returns-in-Ok-Some-clause-flushes g c =
    let coming = g.C.Clock.coming in
    round_last g.A.Actor g.met.A.Actor.joined g.met.A.Actor.number_stays FlushRoundAt (LastFlushAt c.in-Ok-Some.end) c.args.actor.now c.loop.actor c.flush_round.new.actor (coming c.args.clock.now) (coming c.loop.clock) (coming c.now-now.new.self) c.now-now.result
    c.loop.invariant.3 c.now-now.ensures.gives
    (subst (λ e. Does g.A.Actor c.loop.actor (IsRoundSo c.now-now.result e) c.flush_round.new.actor) c.in-Ok-Some.field-0-is c.in-Ok-Some.ensures.round)

pub returns-in-Err-clause-flushes : goal.returns-in-Err-clause-flushes
returns-in-Err-clause-flushes g c =
    let coming = g.C.Clock.coming in
    round_last g.A.Actor g.met.A.Actor.joined g.met.A.Actor.number_stays FlushRoundAt FlushCutAt c.args.actor.now c.loop.actor c.flush_round.new.actor (coming c.args.clock.now) (coming c.loop.clock) (coming c.now-now.new.self) c.now-now.result
    c.loop.invariant.3 c.now-now.ensures.gives c.in-Err.ensures.spent.0

pub returns-in-Err-clause-spent : goal.returns-in-Err-clause-spent
returns-in-Err-clause-spent g c err = c.in-Err.ensures.spent.1
