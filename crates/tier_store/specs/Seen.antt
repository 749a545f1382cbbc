-- What contracts see of the stores: their memory and their disk.
use Rattle.std.specs.Prelude.{◌≡◌, ℕ, List, Some, slice_get, true, map}
use Rattle.disk_model.specs.Files.{Name, Files}
use Rattle.disk_model.specs.Past.{Past}
use Rattle.disk_model.specs.declared.disk.Disk.{Ghosts}
use Rattle.gate_journal.specs.DiskShown.{DiskShown, shown_by}
use Rattle.partition_names.specs.declared.granularity.Granularity.{Granularity}
use Rattle.pv_catalog.specs.Catalogue.{CatalogueState}
use Rattle.store_manifest.specs.Manifest.{ManifestState}
use Rattle.tier_store.specs.declared.store.TierStore.{TierStore}

-- the rows and the lists of files in memory, what reads give, how far each name was opened, what crashes leave, and the count of faults
pub record Seen : Type 1 where
  pub catalogue : CatalogueState
  pub manifests : List ManifestState
  pub files : Files
  pub opened : Name → ℕ
  pub past : Past
  pub faults : ℕ

-- what the disk shows of it
abbrev pub on_disk : Seen → DiskShown
on_disk at = record { files = at.files; opened = at.opened; past = at.past }

-- the memory beside a disk, by what a disk tells
abbrev pub seen_on : {D : Type 0} → (D → DiskShown) → (D → ℕ) → CatalogueState → List ManifestState → D → Seen
seen_on {D} shows faults catalogue manifests d = record { catalogue = catalogue; manifests = manifests; files = (shows d).files; opened = (shows d).opened; past = (shows d).past; faults = faults d }

-- the same by the members of the disk's type
abbrev pub seen_by : {D R : Type 0} → Ghosts D R → CatalogueState → List ManifestState → D → Seen
seen_by {D} {R} disk = seen_on (shown_by disk) disk.faults

-- stores
abbrev pub seen : {D R : Type 0} → Ghosts D R → TierStore D R → Seen
seen {D} {R} disk store = seen_by disk store.catalogue store.manifests.items store.disk

-- all is as it was but the disk
abbrev pub SameMemory : {D R : Type 0} → TierStore D R → TierStore D R → Type 0
SameMemory {D} {R} old new = (new.catalogue ≡ old.catalogue) × (new.manifests ≡ old.manifests) × (new.pinned ≡ old.pinned) × (new.limbo ≡ old.limbo)

-- all is as it was but the disk and the lists
abbrev pub SameButLists : {D R : Type 0} → TierStore D R → TierStore D R → Type 0
SameButLists {D} {R} old new = (new.catalogue ≡ old.catalogue) × (new.pinned ≡ old.pinned) × (new.limbo ≡ old.limbo)

-- this is true of each place and its manifest
abbrev pub AtEach : List ManifestState → (ℕ → ManifestState → Type 0) → Type 0
AtEach manifests P = (i : ℕ) (m : ManifestState) → slice_get manifests i ≡ Some m → P i m

-- no change stands in doubt
pub record IsSettled (at : Seen) : Type 0 where
  pub catalogue : at.catalogue.journal.sound ≡ true
  pub manifests : AtEach at.manifests (λ i m. m.journal.sound ≡ true)

-- how long the partitions of each store are
abbrev pub granularities : List ManifestState → List Granularity
granularities manifests = map (λ (m : ManifestState). m.granularity) manifests
