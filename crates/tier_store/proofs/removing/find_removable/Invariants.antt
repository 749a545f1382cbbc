use Rattle.std.proofs.Common.{◌≤◌, take}
use Rattle.std.specs.Prelude.{IsTrue}
use Rattle.gate_journal.specs.DiskShown.{shown_by, ReadsDisk}
use Rattle.store_manifest.specs.Entries.{InOrder}
use Rattle.tier_store.specs.Limbo.{AreRemovable, IsLeftOver}
use Rattle.tier_store.specs.Seen.{AtEach}
use Rattle.tier_store.proofs.removing.find_removable.Given as goal

-- the names are those of the files so far
abbrev pub invariant-loop-file : goal.invariant-loop-file
invariant-loop-file g l = record {
  found : IsTrue g.D.Disk.tells → AtEach l.manifests (λ i m. InOrder m.entries) → AreRemovable (IsLeftOver l.manifests l.pinned l.copied) (take l.file-index l.files) (g.D.Disk.files l.fn.disk) l.names.items;
  reads : IsTrue g.D.Disk.tells → ReadsDisk (shown_by g.D.Disk l.fn.disk) (shown_by g.D.Disk l.disk);
  faults : g.D.Disk.faults l.fn.disk ≤ g.D.Disk.faults l.disk;
}
