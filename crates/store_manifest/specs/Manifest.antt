-- What contracts see of a manifest, and how its files and what a crash may leave of them agree with that.
use Rattle.std.specs.Prelude.{◌≡◌, ◌≢◌, ◌⊎◌, ◌≤◌, ◌<◌, ◌*◌, ℕ, ◌+◌, true, false, List, [], ◌∷◌, ◌++◌, codes, max, Result, Err, OnOk, OnErr, IsErrOf, IsTrue}
use Rattle.disk_model.specs.Files.{Name, Files, Rose}
use Rattle.disk_model.specs.Past.{Passes}
use Rattle.disk_model.specs.declared.disk.Disk.{Ghosts}
use Rattle.disk_model.specs.declared.disk.DiskErr.{DiskErr}
use Rattle.disk_model.specs.declared.disk.DiskErr.TheVariants.{Fault, Memory}
use Rattle.gate_journal.specs.Batches.{greatest_batch}
use Rattle.gate_journal.specs.Generations.{AtOwn, HasBatchesOf, IsBadOf, IsOwn, KeepsBatches}
use Rattle.gate_journal.specs.Commits.{Commits}
use Rattle.gate_journal.specs.Journal.{JournalState}
use Rattle.gate_journal.specs.Kept as journal
use Rattle.gate_journal.specs.DiskShown.{DiskShown, shown_by}
use Rattle.partition_names.specs.declared.granularity.Granularity.{Granularity}
use Rattle.store_manifest.specs.declared.entry.Entry.{Entry}
use Rattle.store_manifest.specs.declared.error.ManifestErr.{ManifestErr}
use Rattle.store_manifest.specs.declared.error.ManifestErr.TheVariants.{Disk, BadJournal, BadBatch, GranularityDiffers}
use Rattle.store_manifest.specs.Batches.{Configured, Folds, IsBadBatch}
use Rattle.store_manifest.specs.Entries.{AreEntries}

-- the name of a store's manifest: in store 0, `manifest` and the store's digit
abbrev pub manifest_name : ℕ → Name
manifest_name store = (0, codes "manifest" ++ (48 + store) ∷ [])

-- an image whose manifest of this granularity and name lists these entries
abbrev pub Lists : Granularity → List Entry → Name → Files → Type 0
Lists g entries name image = journal.Says (Folds g) entries name image

-- it holds the batches that it held, or it held none and lists nothing still
abbrev pub StaysOrBegins : Granularity → Name → Files → Files → Type 0
StaysOrBegins g name old new = KeepsBatches name old new ⊎ (HasBatchesOf name old [] × Lists g [] name new)

-- its journal, its granularity, its entries, and those that the last commit was to make
pub record ManifestState : Type 0 where
  pub journal : JournalState
  pub granularity : Granularity
  pub entries : List Entry
  pub next : List Entry

-- Between calls: the manifest's batches list its entries, and all of its files is on the disk.
abbrev pub IsKept : ManifestState → DiskShown → Type 0
IsKept m disk = journal.IsKept (Configured m.granularity) m.journal disk m.entries

-- After a commit that failed: the batches list the entries from before it or those that it was to make.
abbrev pub IsUnsure : ManifestState → DiskShown → Type 0
IsUnsure m disk = journal.IsUnsure (Configured m.granularity) m.journal disk m.entries m.next

-- A call that commits to a manifest: its entries go over to the next ones. Means tells what batches list.
abbrev pub CommitsEntries : (Granularity → List (List ℕ) → List Entry → Type 0) → List Entry → Result (Unit {0}) DiskErr → ManifestState → ManifestState → DiskShown → DiskShown → Type 0
CommitsEntries Means next result was now old new =
    Commits was.journal.name (journal.SaysEither (Means was.granularity) was.entries next was.journal.name) (OnOk result) (IsErrOf result Fault) (IsErrOf result Memory) (IsKept now new)
    (IsUnsure now new) (IsKept now new) old new

-- at how many bytes a journal is long for entries that a batch of this size lists
abbrev pub limit_of : ℕ → ℕ
limit_of size = max 1048576 (4 * size)

-- so many bytes up to and with the closed gate are many for these entries, and a batch that lists them isn't too large
abbrev pub IsLong : ℕ → ℕ → Type 0
IsLong len size = (limit_of size ≤ len) × (size ≤ greatest_batch)

-- COMMITS

-- What the manifest in memory is after a commit that was to list these entries: of the same journal and granularity. At Ok it lists them, and
-- after an error what it listed. After Fault it isn't sound, and knows both; otherwise it is sound.
pub record EndsEntries (was now : ManifestState) (after : List Entry) (result : Result (Unit {0}) DiskErr) : Type 0 where
  pub granularity : now.granularity ≡ was.granularity
  pub name : now.journal.name ≡ was.journal.name
  pub entries : OnOk result (now.entries ≡ after)
  pub sound : OnOk result (now.journal.sound ≡ true)
  pub unsound : IsErrOf result Fault → now.journal.sound ≡ false
  pub doubtful : IsErrOf result Fault → (now.entries ≡ was.entries) × (now.next ≡ after)
  pub memory : IsErrOf result Memory → (now.journal.sound ≡ true) × (now.entries ≡ was.entries)

-- Where the closed gate stands after changes of `added` bytes, where a batch that lists all entries has `size` bytes: the journal grew by them,
-- or was long and begins with that batch. So it doesn't grow for good.
pub record EndsGate (size added before after : ℕ) : Type 0 where
  pub begun : IsLong (before + 1) size → after ≡ (size + 5) + (5 + added)
  pub grown : (IsLong (before + 1) size → ⊥) → after ≡ before + (5 + added)
  pub short : size ≤ greatest_batch → after + 1 < limit_of size + added + 5

-- After a commit that failed it was found out which entries the journal lists, or that isn't known still. A crash at any moment leaves the ones or
-- the others, and names that aren't the manifest's stay as they are.
pub record ReviewsEntries {T : Type 0} (result : Result T DiskErr) (was now : ManifestState) (old new : DiskShown) : Type 0 where
  pub kept : OnOk result (IsKept now new)
  pub doubtful : OnErr result (IsUnsure now new)
  pub any_moment : Passes (AtOwn was.journal.name (journal.SaysEither (Configured was.granularity) was.entries was.next was.journal.name)) old.past new.past
  pub elsewhere : (n : Name) → (IsOwn was.journal.name n → ⊥) → new.files n ≡ old.files n
  pub opened : (n : Name) → (IsOwn was.journal.name n → ⊥) → new.opened n ≡ old.opened n

-- what the manifest in memory is then: at Ok sound, with the entries before or after the commit; after an error as it was
pub record EndsReview {T : Type 0} (result : Result T DiskErr) (was now : ManifestState) : Type 0 where
  pub granularity : now.granularity ≡ was.granularity
  pub name : now.journal.name ≡ was.journal.name
  pub entries : OnOk result ((now.entries ≡ was.entries) ⊎ (now.entries ≡ was.next))
  pub sound : OnOk result (now.journal.sound ≡ true)
  pub still : OnErr result ((now.journal.sound ≡ false) × (now.entries ≡ was.entries) × (now.next ≡ was.next))

-- LOADS

-- the manifest of this store and granularity was loaded, which a disk that tells its files holds, and whose image lists the same
pub record IsLoaded {D R : Type 0} (disk : Ghosts D R) (store : ℕ) (g : Granularity) (old : D) (m : ManifestState) (new : D) : Type 0 where
  pub kept : IsTrue disk.tells → IsKept m (shown_by disk new)
  pub entries : IsTrue disk.tells → Lists g m.entries (manifest_name store) (disk.files old)
  pub are : AreEntries g m.entries
  pub manifest : (m.journal.name ≡ manifest_name store) × (m.granularity ≡ g) × (m.journal.sound ≡ true)

-- Why it wasn't: a fault was counted, or what is told of a disk that tells its files is so. The files of the journal are bad at this place, or
-- are good and this batch of theirs isn't, or all are good and say another granularity.
pub record IsRefused {D R T : Type 0} (disk : Ghosts D R) (store : ℕ) (g : Granularity) (old new : D) (result : Result T ManifestErr) : Type 0 where
  pub cause : result ≡ Err (Disk Fault) → Rose (disk.faults old) (disk.faults new)
  pub bad_journal : IsTrue disk.tells → (file : Name) (at : ℕ) → result ≡ Err (BadJournal file at) → IsBadOf (manifest_name store) (disk.files old) file at
  pub bad_batch : IsTrue disk.tells → (number : ℕ) → result ≡ Err (BadBatch number) → (bs : List (List ℕ)) × HasBatchesOf (manifest_name store) (disk.files old) bs × IsBadBatch bs number
  pub differs : IsTrue disk.tells → (kept asked : Granularity) → result ≡ Err (GranularityDiffers kept asked) → (asked ≡ g) × (kept ≢ g) × (entries : List Entry) × journal.Says (Configured kept) entries (manifest_name store) (disk.files old)

-- What reads give of the manifest's files, and what a crash at any moment leaves of them, holds the batches that it held before, or it held
-- none and lists nothing still. Every other name has what it had, and none of the manifest's is opened.
pub record LeavesLoaded (g : Granularity) (name : Name) (old new : DiskShown) : Type 0 where
  pub reads : AtOwn name (StaysOrBegins g name) old.files new.files
  pub any_moment : Passes (AtOwn name (StaysOrBegins g name)) old.past new.past
  pub opened : (n : Name) → (IsOwn name n → ⊥) → new.opened n ≡ old.opened n
  pub unopened : (n : Name) → IsOwn name n → new.opened n ≡ 0
