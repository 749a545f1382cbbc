use Rattle.std.proofs.Common.{◌+◌, true, false, subst}
use Rattle.serving.specs.Rounds.{AreTicks}
use Rattle.serving.specs.Does.{Does}
use Rattle.serving.specs.Flushes.{TicksRow, TicksAll}
use Rattle.serving.proofs.Joins.{does_as, join, join_none, TicksTo, tick_goes, tick_ends}
use Rattle.serving.proofs.flusher.tick_all.Goals as goal

pub returns-in-Ok-true-clause-ticks : goal.returns-in-Ok-true-clause-ticks
returns-in-Ok-true-clause-ticks g c =
    join g.A.Actor g.met.A.Actor.joined g.met.A.Actor.number_stays (TicksTo c.args.now c.loop-row.row) (TicksRow c.args.now c.loop-row.row true) (TicksAll c.args.now) (tick_ends c.args.now c.loop-row.row)
    c.args.actor.now c.loop-row.actor c.tick_row.new.actor c.loop-row.invariant.1
    (subst (λ b. Does g.A.Actor c.loop-row.actor (TicksRow c.args.now c.loop-row.row b) c.tick_row.new.actor) c.in-Ok-true.field-0-test c.in-Ok-true.ensures.ticks)

pub returns-in-Err-clause-spent : goal.returns-in-Err-clause-spent
returns-in-Err-clause-spent g c =
    let A = g.A.Actor in (
      does_as A (TicksTo c.args.now c.loop-row.row) (AreTicks c.args.now 0) (λ ds p. p.0) c.args.actor.now c.tick_row.new.actor
          (join_none A g.met.A.Actor.joined g.met.A.Actor.number_stays (TicksTo c.args.now c.loop-row.row) c.args.actor.now c.loop-row.actor c.tick_row.new.actor c.loop-row.invariant.1 c.in-Err.ensures.spent.0),
      c.in-Err.ensures.spent.1,
    )

pub loop-row-preserved : goal.loop-row-preserved
loop-row-preserved g c = (
  c.tick_row.ensures.stands,
  join g.A.Actor g.met.A.Actor.joined g.met.A.Actor.number_stays (TicksTo c.args.now c.loop-row.row) (TicksRow c.args.now c.loop-row.row false) (TicksTo c.args.now (c.loop-row.row + 1)) (tick_goes c.args.now c.loop-row.row)
      c.args.actor.now c.loop-row.actor c.tick_row.new.actor c.loop-row.invariant.1
      (subst (λ b. Does g.A.Actor c.loop-row.actor (TicksRow c.args.now c.loop-row.row b) c.tick_row.new.actor) c.in-Ok-false.field-0-test c.in-Ok-false.ensures.ticks),
)
