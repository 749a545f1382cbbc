use Rattle.std.proofs.Common.{◌≤◌, take}
use Rattle.std.specs.Prelude.{IsErr, IsTrue, OnOk}
use Rattle.disk_model.specs.Files.{Rose}
use Rattle.disk_model.specs.Past.{Only}
use Rattle.tier_store.specs.Counting.{OnlyReadsDisk}
use Rattle.tier_store.specs.Limbo.{AreFree}
use Rattle.tier_store.proofs.removing.sync_unneeded.Given as goal

-- of the files so far each that isn't needed is synced, or a failure is told
abbrev pub invariant-loop-file : goal.invariant-loop-file
invariant-loop-file g l = record {
  durable : IsTrue g.D.Disk.tells → OnOk l.done (AreFree l.pinned l.copied (λ n. Only (g.D.Disk.past l.disk) n (g.D.Disk.files l.fn.disk n)) (take l.file-index l.files));
  reads : OnlyReadsDisk g.D.Disk l.fn.disk l.disk;
  faults : g.D.Disk.faults l.fn.disk ≤ g.D.Disk.faults l.disk;
  cause : IsErr l.done → Rose (g.D.Disk.faults l.fn.disk) (g.D.Disk.faults l.disk);
}
