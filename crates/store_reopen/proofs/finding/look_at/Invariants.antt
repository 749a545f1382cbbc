use Rattle.std.proofs.Common.{◌≡◌, ◌+◌, List, IsTrue, All, Some}
use Rattle.std.specs.Prelude.{slice_get}
use Rattle.disk_model.specs.Files.{Name}
use Rattle.found_files.specs.Reading.{OnlyReads}
use Rattle.store_manifest.specs.Manifest.{ManifestState}
use Rattle.store_reopen.specs.Finding.{IsOfPlace}
use Rattle.store_reopen.proofs.TakenFiles.{FoundSo}
use Rattle.store_reopen.proofs.finding.look_at.Given as goal

abbrev pub invariant-loop-file : goal.invariant-loop-file
invariant-loop-file g l = record {
  found : IsTrue g.D.Disk.tells → All (λ (n : Name). n.0 ≡ l.place + 1) l.names
      → FoundSo l.manifest.granularity (g.D.Disk.files l.fn.disk) ((l.place + 1, l.catalogue.rows), l.manifest.entries) l.place l.names l.file-index l.fn.unlisted.items l.unlisted.items;
  shape : (ms : List ManifestState) → slice_get ms l.place ≡ Some l.manifest → All (IsOfPlace ms) l.fn.unlisted.items → All (IsOfPlace ms) l.unlisted.items;
  read : OnlyReads g.D.Disk l.fn.disk l.disk;
}
