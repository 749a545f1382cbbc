use Rattle.std.proofs.Common.{◌≡◌, ◌+◌, ◌^◌, ◌≤◌, None}
use Rattle.act_model.specs.Machine.{Machine}
use Rattle.pb_lines.specs.Reader.{to_come, work_left}
use Rattle.feed_session.specs.Asking.{total}
use Rattle.feed_session.proofs.Telling.{Telling}
use Rattle.feed_session.proofs.over_link.feed_chunks.Given as goal

abbrev pub invariant-items : goal.invariant-items
invariant-items g l = record {
  going : l.reader.refused ≡ None;
  read_faults : g.L.Source.read_faults l.fn.link ≤ g.L.Source.read_faults l.link;
  write_faults : g.L.Sink.write_faults l.fn.link ≤ g.L.Sink.write_faults l.link;
  stands : (m : Machine) × g.A.Actor.stands l.actor m;
  few : total l.tally + work_left l.reader ≤ 2 ^ 42;
  telling : Telling g.A.Actor.number g.A.Actor.between l.initial.reader l.reader (g.L.Source.left l.fn.link) (to_come l.reader (g.L.Source.left l.link)) (g.C.Clock.coming l.fn.clock) (g.C.Clock.coming l.clock) l.fn.actor l.actor l.tally l.begun (g.L.Sink.written l.fn.link) (g.L.Sink.written l.link);
}

abbrev pub decreases-items : goal.decreases-items
decreases-items g l = work_left l.reader
