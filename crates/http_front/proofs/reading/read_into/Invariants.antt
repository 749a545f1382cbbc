use Rattle.std.proofs.Common.{◌≡◌, ◌-◌, ◌<◌, ◌≤◌, length, take}
use Rattle.std.specs.Io.KnownBytes.{Consumes}
use Rattle.http_front.specs.Reading.{Waits}
use Rattle.http_front.proofs.reading.read_into.Given as goal

abbrev pub invariant-reads : goal.invariant-reads
invariant-reads g l = record {
  size : length l.bytes ≡ 16384;
  within : l.len < 16384;
  waits : Waits (take l.len l.bytes);
  taken : Consumes (g.S.Source.left l.initial.source) (g.S.Source.left l.source) (take l.len l.bytes);
  faults : g.S.Source.read_faults l.initial.source ≤ g.S.Source.read_faults l.source;
  beside : g.S.Source.beside l.source ≡ g.S.Source.beside l.initial.source;
}

abbrev pub decreases-reads : goal.decreases-reads
decreases-reads g l = 16384 - l.len
