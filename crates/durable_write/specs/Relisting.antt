-- What a call leaves that lists other files in one commit of a manifest, and what a flush does.
use Rattle.std.specs.Prelude.{◌≡◌, ◌≤◌, true, false, List, Result, OnOk, OnErr, IsErrOf}
use Rattle.disk_model.specs.Files.{Name}
use Rattle.disk_model.specs.Past.{Passes}
use Rattle.disk_model.specs.declared.disk.DiskErr.{DiskErr}
use Rattle.disk_model.specs.declared.disk.DiskErr.TheVariants.{Memory}
use Rattle.gate_journal.specs.Generations.{IsOwn, AtOwn}
use Rattle.gate_journal.specs.Journal.{JournalState}
use Rattle.gate_journal.specs.DiskShown.{DiskShown}
use Rattle.store_manifest.specs.declared.entry.Entry.{Entry}
use Rattle.store_manifest.specs.Manifest.{ManifestState}
use Rattle.durable_write.specs.declared.file_write.FileWrite.{FileWrite}
use Rattle.durable_write.specs.Flush.{with_files}
use Rattle.durable_write.specs.Held.{Filed, Held, Shelf, listing_of}
use Rattle.durable_write.specs.Stored.{AreLong, HoldsEither}
use Rattle.durable_write.specs.Three.{Anything, Beside}
use Rattle.durable_write.specs.Writing.{IsDoubtedAs, IsOfNone, IsStoredAs, LeavesListed}

-- A crash at any moment leaves what was held, or what is next. At Ok that is next is stored. After an error what was held still is, or, where
-- the manifest isn't sound, it is in doubt which of both is.
pub record Relists (catalogue : JournalState) (was now : ManifestState) (shelf : Shelf) (result : Result (Unit {0}) DiskErr) (old new : DiskShown) (held next : Held) : Type 0 where
  pub any_moment : Passes (HoldsEither was.granularity held next) old.past new.past
  pub made : OnOk result (IsStoredAs catalogue now shelf new next)
  pub unmade : OnErr result (now.journal.sound ≡ true → IsStoredAs catalogue now shelf new held)
  pub in_doubt : OnErr result (now.journal.sound ≡ false → IsDoubtedAs catalogue now shelf new held next)

-- What the manifest in memory is then: that of the same journal and granularity. At Ok it lists the entries after the commit, and is sound.
-- After an error it lists what it listed, and where it isn't sound it knows both. At want of memory it is sound.
pub record ManifestEnds (was now : ManifestState) (after : List Entry) (result : Result (Unit {0}) DiskErr) : Type 0 where
  pub granularity : now.granularity ≡ was.granularity
  pub name : now.journal.name ≡ was.journal.name
  pub entries : OnOk result (now.entries ≡ after)
  pub sound : OnOk result (now.journal.sound ≡ true)
  pub unchanged : OnErr result (now.entries ≡ was.entries)
  pub next : OnErr result (now.journal.sound ≡ false → now.next ≡ after)
  pub memory : IsErrOf result Memory → now.journal.sound ≡ true

-- Only files of the journal of this name are written, at any moment too, and no name is opened further.
pub record TouchesOwn (name : Name) (old new : DiskShown) : Type 0 where
  pub elsewhere : (n : Name) → (IsOwn name n → ⊥) → new.files n ≡ old.files n
  pub frame : Passes (AtOwn name Anything) old.past new.past
  pub opened : (n : Name) → (IsOwn name n → ⊥) → new.opened n ≡ old.opened n
  pub no_more : (n : Name) → new.opened n ≤ old.opened n

-- A flush lists the files that the writes make. Of what was ahead of what was held the bytes stay, at any moment, and each of its files is as
-- long as it was to be listed.
pub record FlushesFiles (catalogue : JournalState) (was now : ManifestState) (shelf : Shelf) (result : Result (Unit {0}) DiskErr) (old new : DiskShown) (held ahead : Held) (fs : List Filed) : Type 0 where
  pub lists : Relists catalogue was now shelf result old new held (with_files held fs)
  pub leaves : LeavesListed (listing_of ahead) old.files new.files old.past new.past
  pub long : AreLong ahead new.files

-- What stays, whatever is to be listed: the listed bytes, what is in other stores, and each file that is none of the writes'; but for the
-- manifest's own files. No name is opened further.
pub record StaysBeside (shelf : Shelf) (was : ManifestState) (writes : List FileWrite) (old new : DiskShown) : Type 0 where
  pub listed : LeavesListed (shelf, was.entries) old.files new.files old.past new.past
  pub elsewhere : Beside shelf.0 was.journal.name old.files new.files
  pub others : (n : Name) → IsOfNone shelf writes n → (IsOwn was.journal.name n → ⊥) → new.files n ≡ old.files n
  pub frame : Passes (Beside shelf.0 was.journal.name) old.past new.past
  pub no_more : (n : Name) → new.opened n ≤ old.opened n
