-- Files of rows and partitions that no manifest lists, and what a sweep of them leaves.
use Rattle.std.specs.Prelude.{◌≡◌, ◌≢◌, ◌⊎◌, ◌<◌, ◌+◌, ℕ, List, [], Contains, IsSome, Some, None, codes, slice_get}
use Rattle.disk_model.specs.Files.{Name, Files}
use Rattle.disk_model.specs.Past.{Past, Only}
use Rattle.disk_model.specs.declared.disk.Disk.{Ghosts}
use Rattle.partition_names.specs.declared.granularity.Granularity.{Granularity}
use Rattle.partition_names.specs.declared.part.Part.{Part}
use Rattle.partition_names.specs.Part.{IsPart}
use Rattle.partition_names.specs.Path.{path_of}
use Rattle.store_manifest.specs.declared.entry.Entry.{Entry}
use Rattle.store_manifest.specs.Manifest.{ManifestState}
use Rattle.pv_catalog.specs.declared.row.Row.{Row}
use Rattle.durable_write.specs.Held.{file_of}
use Rattle.tier_store.specs.Pinned.{SeenAll}
use Rattle.tier_store.specs.Strays.{IsStray as IsStrayOfStores}
use Rattle.store_reopen.specs.Leaving.{Leaves}
use Rattle.store_reopen.specs.Verdict.{IsWhole}

-- WHICH FILES

-- the file `adopt` of store 0, which is there while an adoption isn't finished
abbrev pub adoption_name : Name
adoption_name = (0, codes "adopt")

-- this is the path of the file of a row and of one of the granularity's partitions
pub record IsFileOf (g : Granularity) (rows : List Row) (path : List ℕ) (series : ℕ) (part : Part) : Type 0 where
  pub row : Row
  pub stands : slice_get rows series ≡ Some row
  pub unit : IsPart g part
  pub named : path_of row.name part.name ≡ path

-- A stray of the store at a place: it is named as the file of a row and of a partition of the store, and it isn't listed.
pub record IsStrayOf (place : ℕ) (g : Granularity) (rows : List Row) (entries : List Entry) (n : Name) : Type 0 where
  pub store : n.0 ≡ place + 1
  pub series : ℕ
  pub part : Part
  pub file : IsFileOf g rows n.1 series part
  pub unlisted : (e : Entry) → Contains entries e → file_of (place + 1, rows) e ≡ n → ⊥

-- it is one of a store before this place
pub record IsStrayBelow (count : ℕ) (rows : List Row) (manifests : List ManifestState) (n : Name) : Type 0 where
  pub place : ℕ
  pub low : place < count
  pub manifest : ManifestState
  pub here : slice_get manifests place ≡ Some manifest
  pub stray : IsStrayOf place manifest.granularity rows manifest.entries n

-- It is one by what the journals of a whole image say. While an adoption isn't finished no file is: what isn't listed may be listed yet.
pub record IsStray (gs : List Granularity) (files : Files) (n : Name) : Type 0 where
  pub whole : IsWhole gs files
  pub finished : files adoption_name ≡ None
  pub place : ℕ
  pub granularity : Granularity
  pub here : slice_get gs place ≡ Some granularity
  pub stray : IsStrayOf place granularity whole.rows (whole.lists place) n

-- No file of the stores that is named as the file of a row and of a partition is a stray of theirs: one that no list and no limbo knows. Acts
-- go on from there, and make none.
abbrev pub HaveNoStray : SeenAll → Type 0
HaveNoStray all =
    (place : ℕ) (manifest : ManifestState) (n : Name) (series : ℕ) (part : Part) → slice_get all.stores.manifests place ≡ Some manifest → n.0 ≡ place + 1 → IsFileOf manifest.granularity all.stores.catalogue.rows n.1 series part
    → IsStrayOfStores all [] n → ⊥

-- WHAT IS LEFT

-- each name has what it had, or is one of these and has no file any more
abbrev pub OnlyGo : (Name → Type 0) → Files → Files → Type 0
OnlyGo Goes old new = (n : Name) → (new n ≡ old n) ⊎ (Goes n × (new n ≡ None))

-- only these went
abbrev pub Removes : {D R : Type 0} → Ghosts D R → (Name → Type 0) → D → D → Type 0
Removes {D} {R} disk Goes old new = Leaves disk (OnlyGo Goes) old new

-- no file has the name, and no crash brings one back
abbrev pub IsGone : Files → Past → Name → Type 0
IsGone files past n = (files n ≡ None) × Only past n None

abbrev pub IsGoneIf : (Name → Type 0) → Files → Past → Name → Type 0
IsGoneIf Goes files past n = Goes n → IsGone files past n

-- these have no file, and no crash brings one back that was there
abbrev pub AreGone : (Name → Type 0) → Files → Files → Past → Type 0
AreGone Goes files later past = (n : Name) → Goes n → (later n ≡ None) × (IsSome (files n) → Only past n None)

-- the strays of an image may have gone; every other file of stores 1 to 3 is as it was
abbrev pub SweptStores : List Granularity → Files → Files → Files → Type 0
SweptStores gs image old new = (n : Name) → n.0 ≢ 0 → (new n ≡ old n) ⊎ (IsStray gs image n × (new n ≡ None))
