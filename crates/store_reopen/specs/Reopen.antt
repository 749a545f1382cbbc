-- Three stores that are opened again.
use Rattle.std.specs.Prelude.{◌≡◌, ◌≢◌, ◌⊎◌, ◌≤◌, ◌<◌, ◌+◌, ℕ, IsTrue, true, List, [], ◌∷◌, length, Option, None, Some, Result, Ok, Err, All, slice_get}
use Rattle.partition_names.specs.declared.granularity.Granularity.{Granularity}
use Rattle.disk_model.specs.Files.{Name, Files}
use Rattle.disk_model.specs.Past.{Past, MayLeave, Passes}
use Rattle.disk_model.specs.declared.disk.Disk.{Ghosts}
use Rattle.gate_journal.specs.Generations.{IsOwn}
use Rattle.gate_journal.specs.Kept.{Says}
use Rattle.gate_journal.specs.DiskShown.{shown_by}
use Rattle.store_manifest.specs.declared.entry.Entry.{Entry}
use Rattle.store_manifest.specs.Batches.{Folds}
use Rattle.store_manifest.specs.Entries.{AreEntries}
use Rattle.store_manifest.specs.Manifest.{IsKept, ManifestState, manifest_name}
use Rattle.pv_catalog.specs.declared.row.Row.{Row}
use Rattle.pv_catalog.specs.Catalogue.{CatalogueState, IsStored, catalogue_name}
use Rattle.pv_catalog.specs.Rows.{AreRows, IsCatalogue}
use Rattle.durable_write.specs.Held.{AreIn, file_of}
use Rattle.tier_store.specs.Beginning.{AllNested, AreNested}
use Rattle.tier_store.specs.Stores.{Stores, list_at, tier, with_list, with_rows}
use Rattle.tier_store.specs.Seen.{AtEach, Seen, granularities, seen_by}
use Rattle.tier_store.specs.Stored.{HoldsAll}
use Rattle.tier_store.specs.Change.{Has, IsEither}
use Rattle.tier_store.specs.declared.store.TierStore.{TierStore}
use Rattle.etl_rules.specs.Config.{ConfigState}
use Rattle.store_reopen.specs.OneJournal.{NoneOpened}
use Rattle.store_reopen.specs.declared.error.ReopenErr.{ReopenErr}
use Rattle.store_reopen.specs.declared.error.ReopenErr.TheVariants.{DiskFault, Damaged, GranularityDiffers, Memory}
use Rattle.store_reopen.specs.Leaving.{Leaves}
use Rattle.store_reopen.specs.Loading.{WhichJournal, KeepsJournal, granularity_at, name_of}
use Rattle.store_reopen.specs.Verdict.{AreSaid, Listings, HasRow, IsThere, IsWhole}
use Rattle.store_reopen.specs.Strays.{AreGone, IsStray, SweptStores, adoption_name}

-- the granularities of stores 1 to 3
abbrev pub stores_of : ConfigState → List Granularity
stores_of config = granularity_at config.granularity 0 ∷ granularity_at config.granularity 1 ∷ granularity_at config.granularity 2 ∷ []

abbrev pub entries_in : Option ManifestState → List Entry
entries_in None = []
entries_in (Some m) = m.entries

-- what the manifest at each place lists
abbrev pub lists_of : List ManifestState → Listings
lists_of manifests i = entries_in (slice_get manifests i)

-- the disk that is handed back with a cause
abbrev pub disk_in : {D R : Type 0} → ReopenErr D R → D
disk_in {D} {R} (DiskFault disk) = disk
disk_in {D} {R} (Damaged disk name at) = disk
disk_in {D} {R} (GranularityDiffers disk kept asked) = disk
disk_in {D} {R} (Memory disk) = disk

-- the disk of either answer
abbrev pub disk_of : {D R : Type 0} → Result (TierStore D R) (ReopenErr D R) → D
disk_of {D} {R} (Ok store) = store.disk
disk_of {D} {R} (Err e) = disk_in e

-- no file of any of the journals was opened, and no listed file beyond its listed length
pub record IsUnopened (files : Files) (opened : Name → ℕ) : Type 0 where
  pub catalogue : NoneOpened catalogue_name opened
  pub manifests : (i : ℕ) → i < 3 → NoneOpened (manifest_name (i + 1)) opened
  pub listed : (rows : List Row) → Says IsCatalogue rows catalogue_name files → (i : ℕ) → i < 3
      → (g : Granularity) (entries : List Entry) → Says (Folds g) entries (manifest_name (i + 1)) files → All (λ (e : Entry). opened (file_of (i + 1, rows) e) ≤ e.len) entries

-- the image has the listed files of all three stores, where they stand
abbrev pub AllIn : Stores → Files → Type 0
AllIn s image = (i : ℕ) → i < 3 → AreIn (tier i s) image

-- the rows change alone, or the list of one store does
abbrev pub ChangesOne : Stores → Stores → Type 0
ChangesOne before after = (after ≡ with_rows before after.rows) ⊎ ((i : ℕ) × (i < 3) × (after ≡ with_list i (list_at i after) before))

-- the image holds what was before a change, or what is after it
abbrev pub HoldsEither : List Granularity → Stores → Stores → Files → Type 0
HoldsEither gs before after image = HoldsAll gs image before ⊎ HoldsAll gs image after

-- Whatever a crash now may leave holds what was before a change of the rows or of one list, or what is after it, and has the listed
-- files of both: so a disk is handed back whose stores were in doubt, and so it is while the machine runs on after a program was killed.
pub record OpensEither (gs : List Granularity) (past : Past) (before after : Stores) : Type 0 where
  pub one_change : ChangesOne before after
  pub holds : (image : Files) → MayLeave past image → HoldsEither gs before after image
  pub files : (image : Files) → MayLeave past image → AllIn before image × AllIn after image

-- whatever a crash now may leave holds this
abbrev pub Opens : List Granularity → Past → Stores → Type 0
Opens gs past held = OpensEither gs past held held

-- an image still holds what it held
abbrev pub StillHolds : List Granularity → Files → Files → Type 0
StillHolds gs old new = (held : Stores) → HoldsAll gs old held → HoldsAll gs new held

-- every store of partition files is as it was, whatever is in its files
abbrev pub SameStores : Files → Files → Type 0
SameStores old new = (n : Name) → n.0 ≢ 0 → new n ≡ old n

-- the name is that of no journal's file
abbrev pub IsNoJournals : Name → Type 0
IsNoJournals n = (j : WhichJournal) → IsOwn (name_of j) n → ⊥

-- of all files those of journals alone may change
abbrev pub OnlyJournals : Files → Files → Type 0
OnlyJournals old new = (n : Name) → IsNoJournals n → new n ≡ old n

-- of all files those of journals and the file `adopt` alone may change
abbrev pub OnlySite : Files → Files → Type 0
OnlySite old new = (n : Name) → IsNoJournals n → n ≢ adoption_name → new n ≡ old n

-- none but these change, and none is opened further
abbrev pub ChangesSite : {D R : Type 0} → Ghosts D R → D → D → Type 0
ChangesSite {D} {R} disk old new = Leaves disk OnlySite old new

-- Of store 0 the file `adopt` is as it was, and so is every other one that is no journal's. Each journal holds the batches that it held, and none where
-- it held none; but a manifest without a batch may have got its first.
pub record KeepsSite (gs : List Granularity) (old new : Files) : Type 0 where
  pub adoption : new adoption_name ≡ old adoption_name
  pub others : (n : Name) → n.0 ≡ 0 → IsNoJournals n → new n ≡ old n
  pub journals : (j : WhichJournal) → KeepsJournal gs j old new

-- so reads give it, and so a crash leaves it at any moment
abbrev pub LeavesSite : {D R : Type 0} → Ghosts D R → List Granularity → D → D → Type 0
LeavesSite {D} {R} disk gs old new = KeepsSite gs (disk.files old) (disk.files new) × Passes (KeepsSite gs) (disk.past old) (disk.past new)

-- none but those of journals change, and none is opened further
abbrev pub ChangesJournals : {D R : Type 0} → Ghosts D R → D → D → Type 0
ChangesJournals {D} {R} disk old new = Leaves disk OnlyJournals old new

-- What opening makes of a disk that tells its files, whatever it answers: each image goes on to hold what it held, at each moment, and
-- the disk may be opened again. No store of partition files changes at any moment, also where it is damaged.
pub record Reopens {D R : Type 0} (disk : Ghosts D R) (gs : List Granularity) (old new : D) : Type 0 where
  pub any_moment : Passes (StillHolds gs) (disk.past old) (disk.past new)
  pub either : (before after : Stores) → OpensEither gs (disk.past old) before after → Passes (λ a b. HoldsEither gs before after b) (disk.past old) (disk.past new)
  pub opens : (before after : Stores) → OpensEither gs (disk.past old) before after → OpensEither gs (disk.past new) before after
  pub elsewhere : SameStores (disk.files old) (disk.files new)
  pub stores : Passes SameStores (disk.past old) (disk.past new)
  pub unopened : IsUnopened (disk.files new) (disk.opened new)

-- what reads gave is what was before a change, or what is after it; their image is whole, and from now on whatever a crash leaves holds that
pub record OpensRead (gs : List Granularity) (files : Files) (past : Past) (before after : Stores) : Type 0 where
  pub held : Stores
  pub either : IsEither before after held
  pub read : HoldsAll gs files held
  pub whole : IsWhole gs files
  pub opens : Opens gs past held

-- What an opening that sweeps makes of a disk that tells its files, whatever it answers: each image goes on to hold what it held, at each
-- moment, and the disk may be opened again: with what it might hold before, or with what reads gave alone, once they are swept by that.
-- Of the stores of partition files only strays go, at any moment, and none where the image isn't whole or an adoption isn't finished.
pub record Sweeps {D R : Type 0} (disk : Ghosts D R) (gs : List Granularity) (old new : D) : Type 0 where
  pub any_moment : Passes (StillHolds gs) (disk.past old) (disk.past new)
  pub either : (before after : Stores) → OpensEither gs (disk.past old) before after → Passes (λ a b. HoldsEither gs before after b) (disk.past old) (disk.past new)
  pub opens : (before after : Stores) → OpensEither gs (disk.past old) before after → OpensEither gs (disk.past new) before after ⊎ OpensRead gs (disk.files old) (disk.past new) before after
  pub elsewhere : SweptStores gs (disk.files old) (disk.files old) (disk.files new)
  pub stores : Passes (SweptStores gs (disk.files old)) (disk.past old) (disk.past new)
  pub unopened : IsUnopened (disk.files new) (disk.opened new)

-- after an opening that swept, where no adoption is unfinished, a file of stores 1 to 3 that is of a row and a partition is listed; and no crash brings back what went
abbrev pub IsSwept : List Granularity → Files → Files → Past → Type 0
IsSwept gs files later past = AreGone (IsStray gs files) files later past

-- what is seen of journals that were loaded of a disk
abbrev pub loaded : {D R : Type 0} → Ghosts D R → CatalogueState → List ManifestState → D → Seen
loaded {D} {R} disk catalogue manifests d = seen_by disk catalogue manifests d

-- what is seen of stores has what reads gave of the disk before, which is the one or the other
pub record HasRead {D R : Type 0} (disk : Ghosts D R) (gs : List Granularity) (old : D) (now : Seen) (before after : Stores) : Type 0 where
  pub held : Stores
  pub either : IsEither before after held
  pub read : HoldsAll gs (disk.files old) held
  pub has : Has disk.tells now held

-- the stores may be changed, and what their journals say fits together
pub record IsReady (gs : List Granularity) (catalogue : CatalogueState) (manifests : List ManifestState) : Type 0 where
  pub sound : catalogue.journal.sound ≡ true
  pub sound_lists : AtEach manifests (λ i m. m.journal.sound ≡ true)
  pub granularity : granularities manifests ≡ gs
  pub nested : AllNested gs
  pub rows : AreRows catalogue.rows
  pub entries : AtEach manifests (λ i m. AreEntries m.granularity m.entries)
  pub of_rows : AtEach manifests (λ i m. All (HasRow catalogue.rows) m.entries)

-- THE ANSWERS

-- A disk was opened, and this is seen of the stores then: they hold something, and what their journals say fits together. What reads gave
-- of a disk that tells its files is held from then on, if each image held that or one thing more; its image is whole, with these rows and lists.
pub record IsOpenedAs {D R : Type 0} (disk : Ghosts D R) (gs : List Granularity) (old : D) (now : Seen) : Type 0 where
  pub stands : IsTrue disk.tells → (before after : Stores) → OpensEither gs (disk.past old) before after → HasRead disk gs old now before after
  pub has : (held : Stores) × Has disk.tells now held
  pub said : IsTrue disk.tells → AreSaid gs (disk.files old) now.catalogue.rows (lists_of now.manifests)
  pub whole : IsTrue disk.tells → IsWhole gs (disk.files old)
  pub ready : IsReady gs now.catalogue now.manifests

-- The catalogue and the manifests of stores 1 to 3 were loaded of a disk, and fit together. Where it tells its files they are stored on
-- it, its image said the same, and each file that they list was there.
pub record AreLoaded {D R : Type 0} (disk : Ghosts D R) (gs : List Granularity) (old : D) (catalogue : CatalogueState) (manifests : List ManifestState) (new : D) : Type 0 where
  pub stored : IsTrue disk.tells → IsStored catalogue (shown_by disk new)
  pub kept : IsTrue disk.tells → AtEach manifests (λ i m. IsKept m (shown_by disk new))
  pub said : IsTrue disk.tells → AreSaid gs (disk.files old) catalogue.rows (lists_of manifests)
  pub there : IsTrue disk.tells → AtEach manifests (λ i m. All (IsThere i (disk.files old) catalogue.rows) m.entries)
  pub ready : IsReady gs catalogue manifests
  pub name : catalogue.journal.name ≡ catalogue_name
  pub names : AtEach manifests (λ i m. m.journal.name ≡ manifest_name (i + 1))

-- The manifests of stores 1 to 3 were loaded of a disk. Where it tells its files they are kept on it, and its image said the same.
pub record AreManifests {D R : Type 0} (disk : Ghosts D R) (gs : List Granularity) (old : D) (manifests : List ManifestState) (new : D) : Type 0 where
  pub kept : IsTrue disk.tells → AtEach manifests (λ i m. IsKept m (shown_by disk new))
  pub said : IsTrue disk.tells → AtEach manifests (λ i m. Says (Folds m.granularity) m.entries (manifest_name (i + 1)) (disk.files old))
  pub three : length manifests ≡ 3
  pub names : AtEach manifests (λ i m. m.journal.name ≡ manifest_name (i + 1))
  pub sound : AtEach manifests (λ i m. m.journal.sound ≡ true)
  pub granularity : AtEach manifests (λ i m. slice_get gs i ≡ Some m.granularity)
  pub nested : AllNested gs
  pub are : AtEach manifests (λ i m. AreEntries m.granularity m.entries)

-- So it is of the one at this place.
pub record IsManifest {D R : Type 0} (disk : Ghosts D R) (gs : List Granularity) (place : ℕ) (old : D) (manifest : ManifestState) (new : D) : Type 0 where
  pub kept : IsTrue disk.tells → IsKept manifest (shown_by disk new)
  pub said : IsTrue disk.tells → Says (Folds manifest.granularity) manifest.entries (manifest_name (place + 1)) (disk.files old)
  pub name : manifest.journal.name ≡ manifest_name (place + 1)
  pub sound : manifest.journal.sound ≡ true
  pub granularity : slice_get gs place ≡ Some manifest.granularity
  pub nested : (i : ℕ) → i < 2 → i + 1 ≡ place → AreNested i gs
  pub are : AreEntries manifest.granularity manifest.entries
