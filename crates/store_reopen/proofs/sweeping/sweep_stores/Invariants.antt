use Rattle.std.proofs.Common.{◌≤◌, IsTrue}
use Rattle.store_reopen.specs.Strays.{AreGone, IsStrayBelow, Removes}
use Rattle.store_reopen.proofs.sweeping.sweep_stores.Given as goal

abbrev pub invariant-loop-place : goal.invariant-loop-place
invariant-loop-place g l = record {
  few : l.place ≤ 3;
  removes : IsTrue g.D.Disk.tells → Removes g.D.Disk (IsStrayBelow l.place l.catalogue.rows l.manifests) l.fn.disk l.disk;
  gone : IsTrue g.D.Disk.tells → AreGone (IsStrayBelow l.place l.catalogue.rows l.manifests) (g.D.Disk.files l.fn.disk) (g.D.Disk.files l.disk) (g.D.Disk.past l.disk);
  faults : g.D.Disk.faults l.fn.disk ≤ g.D.Disk.faults l.disk;
}
