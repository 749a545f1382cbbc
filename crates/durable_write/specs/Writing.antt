-- What the writing of files keeps.
use Rattle.std.specs.Prelude.{◌≡◌, ◌≢◌, ◌≤◌, ℕ, List, All, map, length, Some, IsTrue}
use Rattle.partition_names.specs.declared.granularity.Granularity.{Granularity}
use Rattle.disk_model.specs.Files.{Name, Files, HasFile}
use Rattle.disk_model.specs.Past.{Past, Passes, Only}
use Rattle.gate_journal.specs.Journal.{JournalState}
use Rattle.gate_journal.specs.DiskShown.{DiskShown}
use Rattle.store_manifest.specs.Manifest.{ManifestState}
use Rattle.store_manifest.specs.declared.entry.Change.{Change}
use Rattle.store_manifest.specs.declared.entry.Change.TheVariants.{Set}
use Rattle.durable_write.specs.declared.file_write.FileWrite.{FileWrite}
use Rattle.durable_write.specs.Held.{Filed, Held, AreIn, Listing, KeepsListed, bytes_of, file_of, entry_of, listing_of, shelf_of, Shelf}
use Rattle.durable_write.specs.Stored.{AreHeld, AreLong, AreSafe, IsStored, IsInDoubt}

-- The other stores are as they were, and files that were there still are. Whatever the listed files have, they have the same up to
-- their listed lengths.
pub record Behind (held : Held) (old new : Files) : Type 0 where
  pub elsewhere : (n : Name) → n.0 ≢ held.store → new n ≡ old n
  pub stays : AreIn held old → AreIn held new
  pub listed : KeepsListed (listing_of held) old new

-- Files were written behind what is held, and nothing but that, at any moment too; and its files are as long as they are listed.
pub record WritesBehind (held : Held) (old new : DiskShown) : Type 0 where
  pub any_moment : Passes (Behind held) old.past new.past
  pub behind : Behind held old.files new.files
  pub still : AreLong held new.files

-- reads give the listed bytes as they did, and so does whatever a crash leaves at each moment
pub record LeavesListed (listing : Listing) (files later : Files) (old new : Past) : Type 0 where
  pub now : KeepsListed listing files later
  pub any_moment : Passes (KeepsListed listing) old new

-- what is held is of this store and these rows, and its files are safe on the disk
pub record IsSafe (g : Granularity) (shelf : Shelf) (disk : DiskShown) (held : Held) : Type 0 where
  pub of_rows : shelf_of held ≡ shelf
  pub valid : AreHeld g held
  pub safe : AreSafe held disk

-- A file is written as it is to be listed: it is long enough and wasn't opened too far, and where what is held stands, it has just
-- its bytes. What a crash leaves of them isn't said.
pub record IsWritten (held : Held) (files : Files) (opened : Name → ℕ) (f : Filed) : Type 0 where
  pub long : HasFile files (file_of (shelf_of held) f.entry) (λ b. f.entry.len ≤ length b)
  pub unopened : opened (file_of (shelf_of held) f.entry) ≤ f.entry.len
  pub just : IsTrue held.stands → files (file_of (shelf_of held) f.entry) ≡ Some (bytes_of f)

-- a crash now leaves the write's file just as it is
abbrev pub IsSynced : Shelf → Files → Past → FileWrite → Type 0
IsSynced shelf files past p = Only past (file_of shelf p.entry) (files (file_of shelf p.entry))

-- the name is that of none of the writes' files
abbrev pub IsOfNone : Shelf → List FileWrite → Name → Type 0
IsOfNone shelf writes n = All (λ (p : FileWrite). n ≢ file_of shelf p.entry) writes

-- the change that lists a write's file
abbrev pub set_of : FileWrite → Change
set_of p = Set p.entry

-- Between calls: the store's rows and its manifest's entries are those of what is stored.
pub record IsStoredAs (catalogue : JournalState) (manifest : ManifestState) (shelf : Shelf) (disk : DiskShown) (held : Held) : Type 0 where
  pub stored : IsStored manifest.granularity catalogue manifest.journal disk held
  pub of_rows : shelf_of held ≡ shelf
  pub entries : manifest.entries ≡ map entry_of held.files

-- After a commit of the manifest that failed: it is in doubt whether the change was made, and the manifest knows the entries from before and after.
pub record IsDoubtedAs (catalogue : JournalState) (manifest : ManifestState) (shelf : Shelf) (disk : DiskShown) (before after : Held) : Type 0 where
  pub in_doubt : IsInDoubt manifest.granularity catalogue manifest.journal disk before after
  pub of_rows : (shelf_of before ≡ shelf) × (shelf_of after ≡ shelf)
  pub entries : (manifest.entries ≡ map entry_of before.files) × (manifest.next ≡ map entry_of after.files)
