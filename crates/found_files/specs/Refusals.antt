-- Reads of one file through a disk's calls, and what the disk answered where it refused one.
use Rattle.std.specs.Prelude.{◌≡◌, ◌⊎◌, ℕ, Option, None, Some}
use Rattle.disk_model.specs.Files.{Rose}
use Rattle.disk_model.specs.declared.disk.Disk.{Ghosts}
use Rattle.disk_model.specs.declared.disk.DiskErr.{DiskErr}
use Rattle.disk_model.specs.declared.disk.DiskErr.TheVariants.{Fault}
use Rattle.found_files.specs.Reading.{OnlyReads}

-- The disk was only read. Its last refusal is kept, and all are counted: where none is kept none came; a fault comes only where the disk's count rose.
pub record ReadsOn {D R : Type 0} (disk : Ghosts D R) (old : D) (before : Option DiskErr) (counted : ℕ) (new : D) (refused : Option DiskErr) (counts : ℕ) : Type 0 where
  pub read : OnlyReads disk old new
  pub none : refused ≡ None → (before ≡ None) × (counts ≡ counted)
  pub cause : refused ≡ Some Fault → (before ≡ Some Fault) ⊎ Rose (disk.faults old) (disk.faults new)
