use Rattle.std.proofs.Common.{◌≤◌, ◌-◌, IsTrue}
use Rattle.gate_journal.specs.DiskShown.{shown_by, ReadsDisk}
use Rattle.etl_mover.proofs.reading.read_lines.Given as goal

abbrev pub invariant-loop-bytes : goal.invariant-loop-bytes
invariant-loop-bytes g l = record {
  some : 1 ≤ l.want;
  within : l.want ≤ l.rest;
  reads : IsTrue g.D.Disk.tells → ReadsDisk (shown_by g.D.Disk l.fn.disk) (shown_by g.D.Disk l.disk);
  faults : g.D.Disk.faults l.fn.disk ≤ g.D.Disk.faults l.disk;
}

abbrev pub decreases-loop-bytes : goal.decreases-loop-bytes
decreases-loop-bytes g l = l.rest - l.want
