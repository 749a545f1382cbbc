-- What the loads of the four journals keep of a disk.
use Rattle.std.specs.Prelude.{◌≡◌, ◌≢◌, ◌+◌, ℕ, List, unwrap_or, slice_get}
use Rattle.partition_names.specs.declared.granularity.Granularity.{Granularity}
use Rattle.partition_names.specs.declared.granularity.Granularity.TheVariants.{Hour}
use Rattle.disk_model.specs.Files.{Name, Files}
use Rattle.disk_model.specs.Past.{Passes}
use Rattle.gate_journal.specs.Generations.{IsOwn, KeepsBatches}
use Rattle.gate_journal.specs.DiskShown.{DiskShown}
use Rattle.store_manifest.specs.declared.entry.Entry.{Entry}
use Rattle.store_manifest.specs.Batches.{Folds}
use Rattle.store_manifest.specs.Manifest.{StaysOrBegins, manifest_name}
use Rattle.pv_catalog.specs.declared.row.Row.{Row}
use Rattle.pv_catalog.specs.Catalogue.{catalogue_name}
use Rattle.pv_catalog.specs.Rows.{IsCatalogue}
use Rattle.store_reopen.specs.OneJournal.{NoneOpened}

-- the journals: the catalogue, and the manifest of the store at each place, which is its number less one
pub data WhichJournal : Type 0 where
  Catalogue : WhichJournal
  Manifest : ℕ → WhichJournal

abbrev pub name_of : WhichJournal → Name
name_of Catalogue = catalogue_name
name_of (Manifest i) = manifest_name (i + 1)

-- what a journal says: rows, or the entries of listed files
abbrev pub Value : WhichJournal → Type 0
Value Catalogue = List Row
Value (Manifest i) = List Entry

-- the granularity of the store at a place; where there is none, the answer is of no use
abbrev pub granularity_at : List Granularity → ℕ → Granularity
granularity_at gs i = unwrap_or (slice_get gs i) Hour

-- what its batches mean, where the manifests of the stores are of these granularities
abbrev pub Means : List Granularity → (j : WhichJournal) → List (List ℕ) → Value j → Type 0
Means gs Catalogue = IsCatalogue
Means gs (Manifest i) = Folds (granularity_at gs i)

-- A journal holds the batches that it held, and none where it held none. A manifest without a batch may have got its first: it lists nothing still.
abbrev pub KeepsJournal : List Granularity → WhichJournal → Files → Files → Type 0
KeepsJournal gs Catalogue old new = KeepsBatches catalogue_name old new
KeepsJournal gs (Manifest i) old new = StaysOrBegins (granularity_at gs i) (manifest_name (i + 1)) old new

-- so it is of each journal of an image, and every file that is none of theirs is as it was
pub record StillSay (gs : List Granularity) (old new : Files) : Type 0 where
  pub journals : (j : WhichJournal) → KeepsJournal gs j old new
  pub elsewhere : (n : Name) → n.0 ≢ 0 → new n ≡ old n
  pub others : (n : Name) → ((j : WhichJournal) → IsOwn (name_of j) n → ⊥) → new n ≡ old n

-- Whatever a crash leaves, the journals say what they said, and reads give so too. Every file that is none of theirs is as it was.
pub record KeepsSaid (gs : List Granularity) (old new : DiskShown) : Type 0 where
  pub passes : Passes (StillSay gs) old.past new.past
  pub now : StillSay gs old.files new.files
  pub same_opened : (n : Name) → n.0 ≢ 0 → new.opened n ≡ old.opened n
  pub none_opened : (j : WhichJournal) → NoneOpened (name_of j) old.opened → NoneOpened (name_of j) new.opened
