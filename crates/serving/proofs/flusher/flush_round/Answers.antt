use Rattle.std.proofs.Common.{true, subst}
use Rattle.serving.specs.Rounds.{AreTicks}
use Rattle.serving.specs.Does.{Does, AreNone, AsksDoors}
use Rattle.serving.specs.Flushes.{TicksAll, FlushesAll, FlushCutAt, FlushRoundAt, IsRoundSo}
use Rattle.serving.proofs.Joins.{cut_at_doors, cut_at_flush, cut_at_ticks, does_as, join, join_none, TicksAfter, ticks_after, round_goes, round_ends}
use Rattle.serving.proofs.flusher.flush_round.Goals as goal

pub returns-in-Err-clause-spent : goal.returns-in-Err-clause-spent
returns-in-Err-clause-spent g c = (does_as g.A.Actor AreNone (FlushCutAt c.args.now) (cut_at_doors c.args.now) c.args.actor.now c.are_doors_shut.new.actor c.in-Err.ensures.spent.0, c.in-Err.ensures.spent.1)

pub returns-in-Err-tick_all-clause-spent : goal.returns-in-Err-tick_all-clause-spent
returns-in-Err-tick_all-clause-spent g c = (
  join g.A.Actor g.met.A.Actor.joined g.met.A.Actor.number_stays (AsksDoors c.in-Ok.shut) (AreTicks c.args.now 0) (FlushCutAt c.args.now) (cut_at_ticks c.args.now c.in-Ok.shut)
      c.args.actor.now c.are_doors_shut.new.actor c.tick_all.new.actor c.in-Ok.ensures.asks c.in-Err-tick_all.ensures.spent.0,
  c.in-Err-tick_all.ensures.spent.1,
)

pub returns-then-shut-clause-round : goal.returns-then-shut-clause-round
returns-then-shut-clause-round g c =
    let A = g.A.Actor in
    let j = g.met.A.Actor.joined in
    let n = g.met.A.Actor.number_stays in
    let begun = join A j n (AsksDoors c.in-Ok.shut) (TicksAll c.args.now) (TicksAfter c.args.now c.in-Ok.shut) (ticks_after c.args.now c.in-Ok.shut) c.args.actor.now c.are_doors_shut.new.actor c.tick_all.new.actor c.in-Ok.ensures.asks c.in-Ok-tick_all.ensures.ticks in
    join A j n (TicksAfter c.args.now true) (FlushesAll c.in-Ok-flush_all.end) (IsRoundSo c.args.now c.in-Ok-flush_all.end) (round_ends c.args.now c.in-Ok-flush_all.end) c.args.actor.now c.tick_all.new.actor c.flush_all.new.actor
    (subst (λ b. Does A c.args.actor.now (TicksAfter c.args.now b) c.tick_all.new.actor) c.if-shut.true begun) c.in-Ok-flush_all.ensures.flushes

pub returns-in-Ok-flush_all-clause-round : goal.returns-in-Ok-flush_all-clause-round
returns-in-Ok-flush_all-clause-round g c =
    let A = g.A.Actor in
    let j = g.met.A.Actor.joined in
    let n = g.met.A.Actor.number_stays in
    let begun = join A j n (AsksDoors c.in-Ok.shut) (TicksAll c.args.now) (TicksAfter c.args.now c.in-Ok.shut) (ticks_after c.args.now c.in-Ok.shut) c.args.actor.now c.are_doors_shut.new.actor c.tick_all.new.actor c.in-Ok.ensures.asks c.in-Ok-tick_all.ensures.ticks in
    join A j n (TicksAfter c.args.now c.in-Ok.shut) (FlushesAll c.in-Ok-flush_all.end) (FlushRoundAt c.args.now) (round_goes c.args.now c.in-Ok.shut c.in-Ok-flush_all.end) c.args.actor.now c.tick_all.new.actor c.flush_all.new.actor
    begun c.in-Ok-flush_all.ensures.flushes

pub returns-in-Err-flush_all-clause-spent : goal.returns-in-Err-flush_all-clause-spent
returns-in-Err-flush_all-clause-spent g c =
    let A = g.A.Actor in
    let j = g.met.A.Actor.joined in
    let n = g.met.A.Actor.number_stays in (
      does_as A (TicksAfter c.args.now c.in-Ok.shut) (FlushCutAt c.args.now) (cut_at_flush c.args.now c.in-Ok.shut) c.args.actor.now c.flush_all.new.actor
          (join_none A j n (TicksAfter c.args.now c.in-Ok.shut) c.args.actor.now c.tick_all.new.actor c.flush_all.new.actor
          (join A j n (AsksDoors c.in-Ok.shut) (TicksAll c.args.now) (TicksAfter c.args.now c.in-Ok.shut) (ticks_after c.args.now c.in-Ok.shut) c.args.actor.now c.are_doors_shut.new.actor c.tick_all.new.actor c.in-Ok.ensures.asks c.in-Ok-tick_all.ensures.ticks)
          c.in-Err-flush_all.ensures.spent.0),
      c.in-Err-flush_all.ensures.spent.1,
    )
