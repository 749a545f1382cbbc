use Rattle.std.proofs.Common.{◌≡◌, ◌≤◌, ◌<◌, ℕ, IsTrue, All, Some}
use Rattle.std.specs.Prelude.{slice_get}
use Rattle.gate_journal.specs.DiskShown.{ReadsDisk, shown_by}
use Rattle.store_manifest.specs.Manifest.{ManifestState}
use Rattle.store_reopen.specs.Verdict.{IsThere}
use Rattle.store_reopen.proofs.files.check_files.Given as goal

abbrev pub invariant-loop-place : goal.invariant-loop-place
invariant-loop-place g l = record {
  few : l.place ≤ 3;
  there : IsTrue g.D.Disk.tells → (k : ℕ) (m : ManifestState) → k < l.place → slice_get l.manifests k ≡ Some m → All (IsThere k (g.D.Disk.files l.fn.disk) l.rows) m.entries;
  reads : IsTrue g.D.Disk.tells → ReadsDisk (shown_by g.D.Disk l.fn.disk) (shown_by g.D.Disk l.disk);
  faults : g.D.Disk.faults l.fn.disk ≤ g.D.Disk.faults l.disk;
}
