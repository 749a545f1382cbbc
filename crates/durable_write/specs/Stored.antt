-- What an image holds as a whole, and what the store keeps true between its calls.
use Rattle.std.specs.Prelude.{◌≡◌, ◌⊎◌, ◌≤◌, ℕ, true, false, List, map, length, All, Some, slice_get}
use Rattle.pv_name.specs.Key.{key_of}
use Rattle.partition_names.specs.declared.granularity.Granularity.{Granularity}
use Rattle.disk_model.specs.Files.{Name, Files, HasFile}
use Rattle.disk_model.specs.Past.{MayLeave}
use Rattle.gate_journal.specs.Journal.{JournalState}
use Rattle.gate_journal.specs.Kept.{Says, IsKept, IsUnsure}
use Rattle.gate_journal.specs.DiskShown.{DiskShown}
use Rattle.pv_catalog.specs.declared.row.Row.{Row}
use Rattle.pv_catalog.specs.Rows.{IsCatalogue}
use Rattle.pv_catalog.specs.Catalogue.{catalogue_name}
use Rattle.store_manifest.specs.Batches.{Configured, Folds}
use Rattle.store_manifest.specs.Manifest.{manifest_name}
use Rattle.durable_write.specs.Flush.{PlacesRise}
use Rattle.durable_write.specs.Held.{Filed, Held, AreFiled, AreIn, entry_of, file_of, shelf_of}

-- The image's catalogue has these rows, and its manifest of this granularity lists just these files. Where it stands, each is one of
-- its row, and the image has it at least as long as it is listed.
pub record Holds (g : Granularity) (image : Files) (held : Held) : Type 0 where
  pub rows : Says IsCatalogue held.rows catalogue_name image
  pub lists : Says (Folds g) (map entry_of held.files) (manifest_name held.store) image
  pub filed : AreFiled g held
  pub files : AreIn held image

-- whatever it held, the image holds what was before a change, or what is after it
abbrev pub HoldsEither : Granularity → Held → Held → Files → Files → Type 0
HoldsEither g before after old new = Holds g new before ⊎ Holds g new after

-- no two rows have one key
abbrev pub KeysDiffer : List Row → Type 0
KeysDiffer rows = (i j : ℕ) (a b : Row) → slice_get rows i ≡ Some a → slice_get rows j ≡ Some b → key_of a.name ≡ key_of b.name → i ≡ j

-- each listed file is there, and at least as long as it is listed
abbrev pub AreLong : Held → Files → Type 0
AreLong held files = All (λ (f : Filed). HasFile files (file_of (shelf_of held) f.entry) (λ b. f.entry.len ≤ length b)) held.files

-- none was opened beyond its listed length
abbrev pub AreUnopened : Held → (Name → ℕ) → Type 0
AreUnopened held opened = All (λ (f : Filed). opened (file_of (shelf_of held) f.entry) ≤ f.entry.len) held.files

-- The listed files are long enough, and none was opened too far. Where they stand, each image that a crash now may leave has them.
pub record AreSafe (held : Held) (disk : DiskShown) : Type 0 where
  pub long : AreLong held disk.files
  pub unopened : AreUnopened held disk.opened
  pub left : (image : Files) → MayLeave disk.past image → AreIn held image

-- what is known of rows and files apart from any disk
pub record AreHeld (g : Granularity) (held : Held) : Type 0 where
  pub keys : KeysDiffer held.rows
  pub filed : AreFiled g held
  pub apart : PlacesRise held.files

-- the catalogue is settled: it has these rows, and all of it is on the disk
pub record CatalogueStored (catalogue : JournalState) (disk : DiskShown) (rows : List Row) : Type 0 where
  pub named : catalogue.name ≡ catalogue_name
  pub sound : catalogue.sound ≡ true
  pub kept : IsKept IsCatalogue catalogue disk rows

-- one store is settled: its manifest lists these files, which are safe, and all of it is on the disk
pub record TierStored (g : Granularity) (manifest : JournalState) (disk : DiskShown) (held : Held) : Type 0 where
  pub named : manifest.name ≡ manifest_name held.store
  pub sound : manifest.sound ≡ true
  pub kept : IsKept (Configured g) manifest disk (map entry_of held.files)
  pub valid : AreHeld g held
  pub safe : AreSafe held disk

-- Between calls: all that a crash now may leave holds this.
pub record IsStored (g : Granularity) (catalogue manifest : JournalState) (disk : DiskShown) (held : Held) : Type 0 where
  pub rows : CatalogueStored catalogue disk held.rows
  pub tier : TierStored g manifest disk held

-- a commit of the catalogue failed: it has the rows from before, or those after the change
pub record CatalogueUnsure (catalogue : JournalState) (disk : DiskShown) (before after : List Row) : Type 0 where
  pub named : catalogue.name ≡ catalogue_name
  pub unsound : catalogue.sound ≡ false
  pub unsure : IsUnsure IsCatalogue catalogue disk before after

-- a commit of a manifest failed: it lists the files from before or those after the change, which are all safe
pub record TierUnsure (g : Granularity) (manifest : JournalState) (disk : DiskShown) (before after : Held) : Type 0 where
  pub named : manifest.name ≡ manifest_name before.store
  pub unsound : manifest.sound ≡ false
  pub unsure : IsUnsure (Configured g) manifest disk (map entry_of before.files) (map entry_of after.files)
  pub valid : AreHeld g before
  pub valid_after : AreHeld g after
  pub safe : AreSafe before disk
  pub safe_after : AreSafe after disk

-- the rows are in doubt: the store is settled under those from before and under those after the change
pub record RowsInDoubt (g : Granularity) (catalogue manifest : JournalState) (disk : DiskShown) (before after : Held) : Type 0 where
  pub rows : CatalogueUnsure catalogue disk before.rows after.rows
  pub tier : TierStored g manifest disk before
  pub tier_after : TierStored g manifest disk after
  pub same : after.files ≡ before.files

-- the lists are in doubt, under the same rows
pub record ListsInDoubt (g : Granularity) (catalogue manifest : JournalState) (disk : DiskShown) (before after : Held) : Type 0 where
  pub rows : CatalogueStored catalogue disk before.rows
  pub tier : TierUnsure g manifest disk before after
  pub same : shelf_of after ≡ shelf_of before

-- After a commit that failed: it is in doubt whether the change was made, of the rows or of the lists, and both are safe.
pub record IsInDoubt (g : Granularity) (catalogue manifest : JournalState) (disk : DiskShown) (before after : Held) : Type 0 where
  pub doubt : RowsInDoubt g catalogue manifest disk before after ⊎ ListsInDoubt g catalogue manifest disk before after
  pub stand : after.stands ≡ before.stands
