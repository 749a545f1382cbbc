use Rattle.std.proofs.Common.{◌≤◌, IsTrue, All, length, take}
use Rattle.gate_journal.specs.DiskShown.{ReadsDisk, shown_by}
use Rattle.store_reopen.specs.Verdict.{IsThere}
use Rattle.store_reopen.proofs.files.check_store.Given as goal

abbrev pub invariant-loop-entry : goal.invariant-loop-entry
invariant-loop-entry g l = record {
  there : IsTrue g.D.Disk.tells → All (IsThere l.place (g.D.Disk.files l.fn.disk) l.rows) (take (length l.yielded) l.manifest.entries);
  reads : IsTrue g.D.Disk.tells → ReadsDisk (shown_by g.D.Disk l.fn.disk) (shown_by g.D.Disk l.disk);
  faults : g.D.Disk.faults l.fn.disk ≤ g.D.Disk.faults l.disk;
}
