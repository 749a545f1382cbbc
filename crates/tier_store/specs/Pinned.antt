-- What is pinned stays: files that are listed to their pinned lengths, whatever stands in doubt, or are in limbo, and begin with the pinned
-- bytes.
use Rattle.std.specs.FinMap.{FinMap, get}
use Rattle.std.specs.Ordering.{nat_cmp}
use Rattle.std.specs.Prelude.{◌≡◌, ◌≢◌, ◌⊎◌, ◌≤◌, ◌+◌, ℕ, Bool, List, All, Contains, length, IsTrue, Some, slice_get, false}
use Rattle.disk_model.specs.Files.{Name}
use Rattle.disk_model.specs.Past.{Passes}
use Rattle.disk_model.specs.declared.disk.Disk.{Ghosts}
use Rattle.pins.specs.Pieces.{PinOf}
use Rattle.pins.specs.declared.piece.PinnedFile.{PinnedFile}
use Rattle.pv_catalog.specs.Catalogue.{CatalogueState}
use Rattle.store_files.specs.Fronts.{Begins, Keeps}
use Rattle.store_manifest.specs.Manifest.{ManifestState}
use Rattle.store_manifest.specs.declared.entry.Entry.{Entry}
use Rattle.durable_write.specs.Held.{Listing, IsListedTo, file_of}
use Rattle.tier_store.specs.Seen.{Seen, AtEach, seen, seen_by}
use Rattle.tier_store.specs.declared.limbo.Retired.{Retired}
use Rattle.tier_store.specs.declared.store.TierStore.{TierStore}

-- all that contracts see: the stores, and the files in limbo
pub record SeenAll : Type 1 where
  pub stores : Seen
  pub limbo : List Retired

abbrev pub beside : Seen → List Retired → SeenAll
beside at limbo = record { stores = at; limbo = limbo }

abbrev pub seen_all_by : {D R : Type 0} → Ghosts D R → CatalogueState → List ManifestState → List Retired → D → SeenAll
seen_all_by {D} {R} disk catalogue manifests limbo d = beside (seen_by disk catalogue manifests d) limbo

abbrev pub seen_all : {D R : Type 0} → Ghosts D R → TierStore D R → SeenAll
seen_all {D} {R} disk store = beside (seen disk store) store.limbo.items

-- no file in limbo is of this store
abbrev pub NoneOf : ℕ → List Retired → Type 0
NoneOf store limbo = All (λ (r : Retired). r.name.0 ≢ store) limbo

-- entries that the memory may list at a place
abbrev pub listing_at : Seen → ℕ → List Entry → Listing
listing_at at place entries = ((place + 1, at.catalogue.rows), entries)

-- The memory lists a file of this name to this length at least; where a change of that list stands in doubt, or one of the rows that files
-- are named by, so does what is after it.
pub record IsHeldTo (at : Seen) (name : Name) (len : ℕ) : Type 0 where
  pub place : ℕ
  pub manifest : ManifestState
  pub here : slice_get at.manifests place ≡ Some manifest
  pub listed : IsListedTo (listing_at at place manifest.entries) name len
  pub in_doubt : manifest.journal.sound ≡ false → IsListedTo (listing_at at place manifest.next) name len
  pub rows_in_doubt : at.catalogue.journal.sound ≡ false → IsListedTo ((place + 1, at.catalogue.next), manifest.entries) name len

-- where these entries list the name, they do so to this length at least
abbrev pub NoneShorter : Listing → Name → ℕ → Type 0
NoneShorter listing name len = All (λ (e : Entry). file_of listing.0 e ≡ name → len ≤ e.len) listing.1

-- where the memory lists the name, it does so to this length at least, and so does what is after a change that stands in doubt
pub record IsNoShorter (at : Seen) (name : Name) (len : ℕ) : Type 0 where
  pub listed : AtEach at.manifests (λ k m. NoneShorter (listing_at at k m.entries) name len)
  pub in_doubt : AtEach at.manifests (λ k m. m.journal.sound ≡ false → NoneShorter (listing_at at k m.next) name len)
  pub rows_in_doubt : at.catalogue.journal.sound ≡ false → AtEach at.manifests (λ k m. NoneShorter ((k + 1, at.catalogue.next), m.entries) name len)

-- A file of stores 1 to 3 in limbo has the name, and at least this length. Its retirement may stand in doubt, or it may be listed again: then
-- no shorter.
pub record IsRetiredTo (all : SeenAll) (name : Name) (len : ℕ) : Type 0 where
  pub file : Retired
  pub within : Contains all.limbo file
  pub named : file.name ≡ name
  pub longer : len ≤ file.entry.len
  pub numbered : 1 ≤ name.0
  pub no_shorter : IsNoShorter all.stores name len

-- the file is listed so far, or in limbo
abbrev pub IsThereTo : SeenAll → Name → ℕ → Type 0
IsThereTo all name len = IsHeldTo all.stores name len ⊎ IsRetiredTo all name len

-- So many bytes of the file, at least one, are listed or in limbo, and it begins with them. What is said of bytes is said of a disk that
-- tells them alone.
pub record Shows (tells : Bool) (all : SeenAll) (name : Name) (bytes : List ℕ) : Type 0 where
  pub held : IsThereTo all name (length bytes)
  pub some : 1 ≤ length bytes
  pub front : IsTrue tells → Begins bytes (all.stores.files name)

-- whatever is listed or in limbo, and shown, is so still
abbrev pub KeepsShown : Bool → SeenAll → SeenAll → Type 0
KeepsShown tells old new = (name : Name) (bytes : List ℕ) → Shows tells old name bytes → Shows tells new name bytes

-- the bytes of all files that are listed or in limbo are what they were
abbrev pub KeepsFronts : SeenAll → SeenAll → Type 0
KeepsFronts old new = (name : Name) (len : ℕ) → IsThereTo old name len → Keeps len (old.stores.files name) (new.stores.files name)

-- What a call leaves of the files that are listed or in limbo, whatever is in them: they are so still, to the same lengths, and reads give what
-- they gave of them so far. Whatever a crash at any moment of the call leaves of those of one store is what a crash before it might have left.
pub record LeavesFronts (tells : Bool) (old new : SeenAll) : Type 0 where
  pub there : (name : Name) (len : ℕ) → IsThereTo old name len → IsThereTo new name len
  pub now : IsTrue tells → KeepsFronts old new
  pub any_moment : IsTrue tells → (store : ℕ) → 1 ≤ store → Passes (λ a b. (name : Name) (len : ℕ) → name.0 ≡ store → IsThereTo old name len → Keeps len (a name) (b name)) old.stores.past new.stores.past

-- bytes that a piece may have: as many as were pinned, which are shown
pub record IsShown (tells : Bool) (all : SeenAll) (piece : PinnedFile) : Type 0 where
  pub bytes : List ℕ
  pub len : length bytes ≡ piece.len
  pub shown : Shows tells all piece.name bytes

-- each piece of each pin is shown
abbrev pub PinsStand : Bool → SeenAll → FinMap nat_cmp PinOf → Type 0
PinsStand tells all pins = (n i : ℕ) (pin : PinOf) (piece : PinnedFile) → get pins n ≡ Some pin → slice_get pin.pieces i ≡ Some piece → IsShown tells all piece
