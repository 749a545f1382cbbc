use Rattle.std.proofs.Common.{◌≡◌, ◌≤◌, ◌+◌, ℕ, IsTrue, All, take}
use Rattle.disk_model.specs.Files.{Name}
use Rattle.store_reopen.specs.Strays.{IsGoneIf, IsStrayOf, Removes}
use Rattle.store_reopen.proofs.sweeping.remove_strays.Given as goal

abbrev pub invariant-loop-name : goal.invariant-loop-name
invariant-loop-name g l = record {
  removes : IsTrue g.D.Disk.tells → (place : ℕ) → All (λ (n : Name). n.0 ≡ place + 1) l.names
      → Removes g.D.Disk (IsStrayOf place l.manifest.granularity l.catalogue.rows l.manifest.entries) l.fn.disk l.disk;
  gone : IsTrue g.D.Disk.tells → (place : ℕ) → All (λ (n : Name). n.0 ≡ place + 1) l.names
      → All (IsGoneIf (IsStrayOf place l.manifest.granularity l.catalogue.rows l.manifest.entries) (g.D.Disk.files l.disk) (g.D.Disk.past l.disk)) (take l.name-index l.names);
  faults : g.D.Disk.faults l.fn.disk ≤ g.D.Disk.faults l.disk;
}
