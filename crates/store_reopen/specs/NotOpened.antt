-- What a refusal tells.
use Rattle.std.specs.Prelude.{ℕ, IsTrue, List}
use Rattle.partition_names.specs.declared.granularity.Granularity.{Granularity}
use Rattle.disk_model.specs.Files.{Files, Rose}
use Rattle.disk_model.specs.declared.disk.Disk.{Ghosts}
use Rattle.pv_catalog.specs.declared.row.Row.{Row}
use Rattle.store_manifest.specs.declared.entry.Entry.{Entry}
use Rattle.store_reopen.specs.declared.error.NotOpened.{NotOpened}
use Rattle.store_reopen.specs.declared.error.NotOpened.TheVariants.{Disk, Damaged, GranularityDiffers}
use Rattle.store_reopen.specs.declared.error.ReopenErr.{ReopenErr}
use Rattle.store_reopen.specs.declared.error.ReopenErr.TheVariants as reopening
use Rattle.store_reopen.specs.Verdict.{IsDamaged, Differs, IsFirstShort}

-- what it tells of the image is so
abbrev pub IsTold : List Granularity → Files → NotOpened → Type 0
IsTold gs files (Disk e) = Unit {0}
IsTold gs files (Damaged name at) = IsDamaged gs files name at
IsTold gs files (GranularityDiffers kept asked) = Differs gs files kept asked

-- the cause with which a disk comes back is so: its count of faults rose, or what is told of the image, which is that of a disk that tells
-- its files
abbrev pub IsCauseOf : {D R : Type 0} → Ghosts D R → List Granularity → D → ReopenErr D R → Type 0
IsCauseOf {D} {R} disk gs old (reopening.DiskFault d) = Rose (disk.faults old) (disk.faults d)
IsCauseOf {D} {R} disk gs old (reopening.Damaged d name at) = IsTrue disk.tells → IsDamaged gs (disk.files old) name at
IsCauseOf {D} {R} disk gs old (reopening.GranularityDiffers d kept asked) = IsTrue disk.tells → Differs gs (disk.files old) kept asked
IsCauseOf {D} {R} disk gs old (reopening.Memory d) = Unit {0}

-- what it tells is the first of these entries' files that is absent or short
abbrev pub IsToldShort : ℕ → Files → List Row → List Entry → NotOpened → Type 0
IsToldShort i files rows entries (Disk e) = Unit {0}
IsToldShort i files rows entries (Damaged name at) = IsFirstShort i files rows entries name at
IsToldShort i files rows entries (GranularityDiffers kept asked) = ⊥
