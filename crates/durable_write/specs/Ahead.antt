-- What was written ahead of what is listed: bytes behind the listed lengths, and files that aren't listed yet.
use Rattle.std.specs.Prelude.{◌≡◌, ◌≤◌, ℕ, List, [], ◌∷◌, length, map, take, All, Contains, IsTrue}
use Rattle.gate_journal.specs.Journal.{JournalState}
use Rattle.gate_journal.specs.DiskShown.{DiskShown}
use Rattle.store_manifest.specs.Manifest.{ManifestState}
use Rattle.store_manifest.specs.declared.entry.Change.{Change}
use Rattle.store_manifest.specs.declared.entry.Change.TheVariants.{Drop}
use Rattle.store_manifest.specs.Entries.{all_changed, without}
use Rattle.durable_write.specs.Held.{Filed, Held, file_of, bytes_of, entry_of, filed_at, shelf_of, Shelf}
use Rattle.durable_write.specs.Stored.{AreHeld, AreSafe}
use Rattle.durable_write.specs.Writing.{IsSafe, IsStoredAs}

-- one of the files goes on from the listed one: it has its name, and begins with its bytes where those stand
pub record IsLed (held : Held) (ahead : List Filed) (h : Filed) : Type 0 where
  pub file : Filed
  pub within : Contains ahead file
  pub name : file_of (shelf_of held) file.entry ≡ file_of (shelf_of held) h.entry
  pub longer : h.entry.len ≤ file.entry.len
  pub front : IsTrue held.stands → (length (bytes_of h) ≤ length (bytes_of file)) × (take (length (bytes_of h)) (bytes_of file) ≡ bytes_of h)

-- the same rows, and each listed file goes on, or is as it was
pub record Leads (held ahead : Held) : Type 0 where
  pub same_shelf : shelf_of ahead ≡ shelf_of held
  pub same_stands : ahead.stands ≡ held.stands
  pub each : All (IsLed held ahead.files) held.files

-- A move has come so far: the store has what it had, and what is to be listed is written and safe.
pub record HasCopied (catalogue : JournalState) (m : ManifestState) (shelf : Shelf) (disk : DiskShown) (held ahead : Held) : Type 0 where
  pub stored : IsStoredAs catalogue m shelf disk held
  pub leads : Leads held ahead
  pub safe : IsSafe m.granularity shelf disk ahead

-- These changes of what is stored list the files of what is next, which are all safe on the disk: those that a flush wrote or a move copied,
-- or what is left without the parts that a move retires.
pub record CanRelist (catalogue : JournalState) (m : ManifestState) (shelf : Shelf) (disk : DiskShown) (held next : Held) (changes : List Change) : Type 0 where
  pub stored : IsStoredAs catalogue m shelf disk held
  pub same_shelf : shelf_of next ≡ shelf_of held
  pub same_stands : next.stands ≡ held.stands
  pub valid : AreHeld m.granularity next
  pub safe : AreSafe next disk
  pub lists : all_changed m.entries changes ≡ map entry_of next.files

-- the change that drops a file
abbrev pub drop_of : Filed → Change
drop_of f = Drop f.entry.series f.entry.part.start

-- the files without these, one after another
abbrev pub without_all : List Filed → List Filed → List Filed
without_all files [] = files
without_all files (f ∷ fs) = without_all (without filed_at (filed_at f) files) fs
