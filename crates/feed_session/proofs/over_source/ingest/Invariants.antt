use Rattle.std.proofs.Common.{◌≡◌, ◌+◌, ◌^◌, ◌≤◌, None}
use Rattle.std.specs.Prelude.{true}
use Rattle.act_model.specs.Machine.{Machine}
use Rattle.pb_lines.specs.Reader.{to_come, work_left}
use Rattle.feed_session.specs.Asking.{total}
use Rattle.feed_session.proofs.Going.{Progress}
use Rattle.feed_session.proofs.over_source.ingest.Given as goal

abbrev pub invariant-items : goal.invariant-items
invariant-items g l = record {
  going : l.reader.refused ≡ None;
  read_faults : g.S.Source.read_faults l.fn.source ≤ g.S.Source.read_faults l.source;
  stands : (m : Machine) × g.A.Actor.stands l.actor m;
  few : total l.tally + work_left l.reader ≤ 2 ^ 42;
  progress : Progress g.A.Actor.number g.A.Actor.between true l.initial.reader l.reader (g.S.Source.left l.fn.source) (to_come l.reader (g.S.Source.left l.source)) (g.C.Clock.coming l.fn.clock) (g.C.Clock.coming l.clock) l.fn.actor l.actor l.tally;
}

abbrev pub decreases-items : goal.decreases-items
decreases-items g l = work_left l.reader
