-- What a check has told so far, where it stopped, and what it leaves.
use Rattle.std.specs.Prelude.{◌≡◌, ◌⊎◌, ◌≤◌, ℕ, Bool, List, Option, Result, Ok, Err, IfErr, IsTrue}
use Rattle.edge_io.specs.Stream.{Rose, AppendsFront}
use Rattle.disk_model.specs.Files.{Files}
use Rattle.disk_model.specs.declared.disk.Disk.{Ghosts}
use Rattle.disk_model.specs.declared.disk.DiskErr.{DiskErr}
use Rattle.disk_model.specs.declared.disk.DiskErr.TheVariants as disk_err
use Rattle.pins.specs.declared.choosing.Listed.{Listed}
use Rattle.pv_catalog.specs.declared.row.Row.{Row}
use Rattle.durable_write.specs.Ends.{End, Done, Failed, Spent}
use Rattle.tier_store.specs.Seen.{Seen}
use Rattle.tier_store.specs.declared.store.TierStore.{TierStore}
use Rattle.edge_io.specs.declared.buffer.PutErr.{PutErr}
use Rattle.edge_io.specs.declared.buffer.PutErr.TheVariants as put
use Rattle.edge_io.specs.Sent.{Sends}
use Rattle.store_reports.specs.Check.{Inspects, InspectsSome}
use Rattle.store_reports.specs.Keeping.{KeepsStores}
use Rattle.store_reports.specs.declared.report.Damage.{Damage}
use Rattle.store_reports.specs.declared.inspection.CheckErr.{CheckErr}
use Rattle.store_reports.specs.declared.inspection.CheckErr.TheVariants.{SinkFault, DiskFault, ReadFault, OutOfMemory}

-- These files are told, each in its line. A front of the lines went out, and these bytes of them are gathered.
abbrev pub AreTold : Bool → List Row → Files → List Listed → Option (List ℕ) → Option (List ℕ) → List ℕ → Option Damage → Type 0
AreTold tells rows files listed a b left first = Inspects tells rows files listed first (λ text. Sends a b text left)

-- what becomes of the lines where a check stops: after a failed write a front of them went out, else what didn't go out is gathered
abbrev pub Remains : {R : Type 0} → CheckErr R → Option (List ℕ) → Option (List ℕ) → List ℕ → List ℕ → Type 0
Remains {R} SinkFault a b left text = AppendsFront a b text
Remains {R} _ a b left text = Sends a b text left

-- all of these files are told, or a check stopped among them
abbrev pub Tells : {X R : Type 0} → Bool → List Row → Files → List Listed → Option (List ℕ) → Option (List ℕ) → List ℕ → Option Damage → Result X (CheckErr R) → Type 0
Tells {X} {R} tells rows files listed a b left first (Ok done) = AreTold tells rows files listed a b left first
Tells {X} {R} tells rows files listed a b left first (Err e) = InspectsSome tells rows files listed (Remains e a b left)

-- the stores have these rows, and the disk these files where it tells them
pub record Shows (tells : Bool) (s : Seen) (shown_rows : List Row) (shown_files : Files) : Type 0 where
  pub rows : s.catalogue.rows ≡ shown_rows
  pub files : IsTrue tells → s.files ≡ shown_files

-- what a check came to, as a call of the disk
abbrev pub end_of_err : {R : Type 0} → CheckErr R → End (Unit {0}) ⊥
end_of_err {R} DiskFault = Failed
end_of_err {R} _ = Spent

abbrev pub end_of : {X R : Type 0} → Result X (CheckErr R) → End (Unit {0}) ⊥
end_of {X} {R} (Ok x) = Done tt
end_of {X} {R} (Err e) = end_of_err e

-- the sink or the file counted the fault for which a check stopped
abbrev pub IsCounted : {R : Type 0} → (R → ℕ) → ℕ → ℕ → CheckErr R → Type 0
IsCounted {R} faults before now SinkFault = Rose before now
IsCounted {R} faults before now (ReadFault file) = 1 ≤ faults file
IsCounted {R} faults before now _ = Unit {0}

-- a check ended as it did before what was gathered was written, or that failed
abbrev pub EndsAs : {X Y R : Type 0} → ℕ → ℕ → Result X (CheckErr R) → Result Y (CheckErr R) → Type 0
EndsAs {X} {Y} {R} before now (Ok x) (Ok y) = Unit {0}
EndsAs {X} {Y} {R} before now (Err e) (Ok y) = ⊥
EndsAs {X} {Y} {R} before now told (Err e) = (told ≡ Err e) ⊎ ((e ≡ SinkFault) × Rose before now)

-- The stores are as they were, and the sink's count never falls. The fault for which a check stopped is counted.
pub record Leaves {D R X : Type 0} (disk : Ghosts D R) (old new : TierStore D R) (faults : R → ℕ) (writes_before writes_now : ℕ) (r : Result X (CheckErr R)) : Type 0 where
  pub stores : KeepsStores disk old new (end_of r)
  pub writes : writes_before ≤ writes_now
  pub cause : IfErr r (IsCounted faults writes_before writes_now)

-- why a check stops where the disk fails, or a line isn't taken
abbrev pub err_of_disk : {R : Type 0} → DiskErr → CheckErr R
err_of_disk {R} disk_err.Fault = DiskFault
err_of_disk {R} disk_err.Memory = OutOfMemory

abbrev pub err_of_put : {R : Type 0} → PutErr → CheckErr R
err_of_put {R} put.SinkFault = SinkFault
err_of_put {R} put.Memory = OutOfMemory
