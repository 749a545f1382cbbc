use Rattle.std.proofs.Common.{◌≤◌, ◌-◌, length, drop}
use Rattle.http_front.specs.Sends.{Sends}
use Rattle.http_front.proofs.coding.send.Given as goal

abbrev pub invariant-loop-from : goal.invariant-loop-from
invariant-loop-from g l = record {
  within : l.from ≤ length l.bytes;
  sent : Sends (g.K.Sink.written l.initial.link) (g.K.Sink.written l.link) (drop l.initial.from l.bytes) (drop l.from l.bytes);
  faults : g.K.Sink.write_faults l.initial.link ≤ g.K.Sink.write_faults l.link;
}

abbrev pub decreases-loop-from : goal.decreases-loop-from
decreases-loop-from g l = length l.bytes - l.from
