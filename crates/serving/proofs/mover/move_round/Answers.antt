use Rattle.std.proofs.Common.{subst, sym}
use Rattle.serving.specs.Does.{Does, AreNone, AsksDoors}
use Rattle.serving.specs.Moves.{AreSoFar, StoreSo, SweepsSo, end_of_round, IsMoverRoundSo, MovesCutAt}
use Rattle.serving.proofs.Joins.{does_as, join, join_none}
use Rattle.serving.proofs.Moving.{ShortAfter, short_after, BothAfter, both_after, cut_at_doors, cut_at_sweep, cut_in_medium, cut_in_short, round_so}
use Rattle.serving.proofs.mover.move_round.Goals as goal

pub returns-in-Err-clause-spent : goal.returns-in-Err-clause-spent
returns-in-Err-clause-spent g c = (does_as g.A.Actor AreNone (MovesCutAt c.args.now) (cut_at_doors c.args.now) c.args.actor.now c.are_doors_shut.new.actor c.in-Err.ensures.spent.0, c.in-Err.ensures.spent.1)

pub returns-in-Err-move_in_round-clause-spent : goal.returns-in-Err-move_in_round-clause-spent
returns-in-Err-move_in_round-clause-spent g c = (
  join g.A.Actor g.met.A.Actor.joined g.met.A.Actor.number_stays (AsksDoors c.in-Ok.shut) (AreSoFar 1 c.args.now) (MovesCutAt c.args.now) (cut_in_short c.args.now c.in-Ok.shut)
      c.args.actor.now c.are_doors_shut.new.actor c.move_in_round.new.actor c.in-Ok.ensures.asks c.in-Err-move_in_round.ensures.spent.0,
  c.in-Err-move_in_round.ensures.spent.1,
)

pub returns-in-Err-move_in_round-2-clause-spent : goal.returns-in-Err-move_in_round-2-clause-spent
returns-in-Err-move_in_round-2-clause-spent g c =
    let A = g.A.Actor in
    let j = g.met.A.Actor.joined in
    let n = g.met.A.Actor.number_stays in
    let now = c.args.now in
    let shut = c.in-Ok.shut in
    let short = c.in-Ok-move_in_round.short in (
      join A j n (ShortAfter now shut short) (AreSoFar 2 now) (MovesCutAt now) (cut_in_medium now shut short) c.args.actor.now c.move_in_round.new.actor c.move_in_round-2.new.actor
          (join A j n (AsksDoors shut) (StoreSo 1 now short) (ShortAfter now shut short) (short_after now shut short) c.args.actor.now c.are_doors_shut.new.actor c.move_in_round.new.actor c.in-Ok.ensures.asks c.in-Ok-move_in_round.ensures.moves)
          c.in-Err-move_in_round-2.ensures.spent.0,
      c.in-Err-move_in_round-2.ensures.spent.1,
    )

pub returns-in-Ok-sweep_in_round-clause-round : goal.returns-in-Ok-sweep_in_round-clause-round
returns-in-Ok-sweep_in_round-clause-round g c =
    let A = g.A.Actor in
    let j = g.met.A.Actor.joined in
    let n = g.met.A.Actor.number_stays in
    let now = c.args.now in
    let shut = c.in-Ok.shut in
    let short = c.in-Ok-move_in_round.short in
    let medium = c.in-Ok-move_in_round-2.medium in
    let swept = c.in-Ok-sweep_in_round.swept in
    let one = join A j n (AsksDoors shut) (StoreSo 1 now short) (ShortAfter now shut short) (short_after now shut short) c.args.actor.now c.are_doors_shut.new.actor c.move_in_round.new.actor c.in-Ok.ensures.asks c.in-Ok-move_in_round.ensures.moves in
    let both = join A j n (ShortAfter now shut short) (StoreSo 2 now medium) (BothAfter now shut short medium) (both_after now shut short medium) c.args.actor.now c.move_in_round.new.actor c.move_in_round-2.new.actor one c.in-Ok-move_in_round-2.ensures.moves in
    subst (λ e. Does A c.args.actor.now (IsMoverRoundSo now e) c.sweep_in_round.new.actor) (sym c.round_end.ensures)
    (join A j n (BothAfter now shut short medium) (SweepsSo swept) (IsMoverRoundSo now (end_of_round shut short medium swept)) (round_so now shut short medium swept) c.args.actor.now c.move_in_round-2.new.actor c.sweep_in_round.new.actor both c.in-Ok-sweep_in_round.ensures.sweeps)

pub returns-in-Err-sweep_in_round-clause-spent : goal.returns-in-Err-sweep_in_round-clause-spent
returns-in-Err-sweep_in_round-clause-spent g c =
    let A = g.A.Actor in
    let j = g.met.A.Actor.joined in
    let n = g.met.A.Actor.number_stays in
    let now = c.args.now in
    let shut = c.in-Ok.shut in
    let short = c.in-Ok-move_in_round.short in
    let medium = c.in-Ok-move_in_round-2.medium in
    let one = join A j n (AsksDoors shut) (StoreSo 1 now short) (ShortAfter now shut short) (short_after now shut short) c.args.actor.now c.are_doors_shut.new.actor c.move_in_round.new.actor c.in-Ok.ensures.asks c.in-Ok-move_in_round.ensures.moves in (
      does_as A (BothAfter now shut short medium) (MovesCutAt now) (cut_at_sweep now shut short medium) c.args.actor.now c.sweep_in_round.new.actor
          (join_none A j n (BothAfter now shut short medium) c.args.actor.now c.move_in_round-2.new.actor c.sweep_in_round.new.actor
          (join A j n (ShortAfter now shut short) (StoreSo 2 now medium) (BothAfter now shut short medium) (both_after now shut short medium) c.args.actor.now c.move_in_round.new.actor c.move_in_round-2.new.actor one c.in-Ok-move_in_round-2.ensures.moves)
          c.in-Err-sweep_in_round.ensures.spent.0),
      c.in-Err-sweep_in_round.ensures.spent.1,
    )
