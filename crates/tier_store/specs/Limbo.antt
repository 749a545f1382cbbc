-- Files in limbo, and which of them a sweep removes.
use Rattle.std.specs.FinMap.{FinMap, get}
use Rattle.std.specs.Ordering.{nat_cmp}
use Rattle.std.specs.List.{AllPairs}
use Rattle.std.specs.Prelude.{◌≡◌, ◌≢◌, ◌⊎◌, ◌≤◌, ◌+◌, ℕ, Bool, List, [], ◌∷◌, All, Contains, IsSome, IsTrue, length, map, None, Some, slice_get}
use Rattle.disk_model.specs.Files.{Name, Files}
use Rattle.disk_model.specs.Past.{Passes, Only}
use Rattle.gate_journal.specs.DiskShown.{DiskShown}
use Rattle.partition_names.specs.declared.granularity.Granularity.{Granularity}
use Rattle.partition_names.specs.Part.{IsPart}
use Rattle.pins.specs.Pieces.{PinOf}
use Rattle.pins.specs.Pieces.{file_of as piece_file}
use Rattle.pv_catalog.specs.declared.row.Row.{Row}
use Rattle.store_manifest.specs.Manifest.{ManifestState}
use Rattle.store_manifest.specs.declared.entry.Entry.{Entry}
use Rattle.durable_write.specs.Held.{file_of}
use Rattle.tier_store.specs.Change.{StoreCall}
use Rattle.tier_store.specs.Pinned.{SeenAll, Shows}
use Rattle.tier_store.specs.Seen.{Seen, granularities}
use Rattle.tier_store.specs.declared.limbo.Retired.{Retired}

-- a file in limbo is named as its store's file of its row and partition is
pub record IsOfPlace (at : Seen) (r : Retired) : Type 0 where
  pub place : ℕ
  pub granularity : Granularity
  pub here : slice_get (granularities at.manifests) place ≡ Some granularity
  pub row : Row
  pub stands : slice_get at.catalogue.rows r.entry.series ≡ Some row
  pub part : IsPart granularity r.entry.part
  pub named : file_of (place + 1, at.catalogue.rows) r.entry ≡ r.name

-- no two files have one name
abbrev pub NamesDiffer : List Retired → Type 0
NamesDiffer = AllPairs (λ (a b : Retired). a.name ≢ b.name)

-- each file in limbo is its store's of its row and partition, and stands there once
abbrev pub LimboStands : Seen → List Retired → Type 0
LimboStands at limbo = All (IsOfPlace at) limbo × NamesDiffer limbo

-- a store lists a file of this name
pub record IsListedName (at : Seen) (name : Name) : Type 0 where
  pub place : ℕ
  pub manifest : ManifestState
  pub here : slice_get at.manifests place ≡ Some manifest
  pub entry : Entry
  pub within : Contains manifest.entries entry
  pub named : file_of (place + 1, at.catalogue.rows) entry ≡ name

-- the manifest of a file's store lists one of its row and partition
pub record ListsPlace (manifests : List ManifestState) (r : Retired) : Type 0 where
  pub place : ℕ
  pub manifest : ManifestState
  pub store : r.name.0 ≡ place + 1
  pub here : slice_get manifests place ≡ Some manifest
  pub entry : Entry
  pub within : Contains manifest.entries entry
  pub series : entry.series ≡ r.entry.series
  pub start : entry.part.start ≡ r.entry.part.start

-- a pin names the file
pub record IsPinnedFile (pins : FinMap nat_cmp PinOf) (name : Name) : Type 0 where
  pub number : ℕ
  pub pin : PinOf
  pub stands : get pins number ≡ Some pin
  pub names : Contains (map piece_file pin.pieces) name

-- a pin names the file, or it is one of those that running moves have copied into
abbrev pub IsNeeded : FinMap nat_cmp PinOf → List Name → Name → Type 0
IsNeeded pins copied name = IsPinnedFile pins name ⊎ Contains copied name

-- one that is neither listed nor needed
abbrev pub IsUnneeded : Seen → FinMap nat_cmp PinOf → List Name → Name → Type 0
IsUnneeded at pins copied name = (IsListedName at name → ⊥) × (IsNeeded pins copied name → ⊥)

-- one that is listed or needed
abbrev pub IsKeptName : Seen → FinMap nat_cmp PinOf → List Name → Name → Type 0
IsKeptName at pins copied name = IsListedName at name ⊎ IsNeeded pins copied name

-- of the files those of which the first is true stay, in their order; of those that go the other is true
abbrev pub Stay : (Retired → Type 0) → (Retired → Type 0) → List Retired → List Retired → Type 0
Stay P Q [] left = left ≡ []
Stay P Q (r ∷ rs) left = ((rest : List Retired) × P r × (left ≡ r ∷ rest) × Stay P Q rs rest) ⊎ (Q r × Stay P Q rs left)

-- those stay that no store lists
abbrev pub StayUnlisted : Seen → List Retired → List Retired → Type 0
StayUnlisted at = Stay (λ r. IsListedName at r.name → ⊥) (λ r. IsListedName at r.name)

-- those stay that are needed
abbrev pub StayNeeded : FinMap nat_cmp PinOf → List Name → List Retired → List Retired → Type 0
StayNeeded pins copied = Stay (λ r. IsNeeded pins copied r.name) (λ r. IsNeeded pins copied r.name → ⊥)

-- A sweep takes so many files from limbo: those that are neither listed again nor needed. Those that are listed again leave it uncounted.
pub record IsSwept (at : Seen) (pins : FinMap nat_cmp PinOf) (copied : List Name) (limbo left : List Retired) (files : ℕ) : Type 0 where
  pub retired : List Retired
  pub unlisted : StayUnlisted at limbo retired
  pub needed : StayNeeded pins copied retired left
  pub count : files + length left ≡ length retired

-- each file of limbo that left it is listed
abbrev pub LeaveListed : Seen → List Retired → List Retired → Type 0
LeaveListed at = Stay (λ r. Unit {0}) (λ r. IsListedName at r.name)

-- what is in limbo of these, and isn't listed or needed, is no file any more, and no crash brings it back
abbrev pub AreGone : Seen → FinMap nat_cmp PinOf → List Name → List Retired → Type 0
AreGone at pins copied limbo = All (λ (r : Retired). IsUnneeded at pins copied r.name → Only at.past r.name None) limbo

-- whatever isn't in limbo, and what is listed or needed, has what it had
abbrev pub SparesKept : Seen → FinMap nat_cmp PinOf → List Name → List Retired → Files → Files → Type 0
SparesKept at pins copied limbo old new = (n : Name) → ((r : Retired) → Contains limbo r → r.name ≡ n → IsKeptName at pins copied n) → new n ≡ old n

-- Whatever is listed or needed in the end, and was shown, is shown still; and all names but those of other files in limbo have what they had, as
-- reads give them and as a crash at any moment leaves them.
pub record LeavesKept (tells : Bool) (pins : FinMap nat_cmp PinOf) (copied : List Name) (old new : SeenAll) : Type 0 where
  pub shown : (name : Name) (bytes : List ℕ) → IsKeptName new.stores pins copied name → Shows tells old name bytes → Shows tells new name bytes
  pub files : IsTrue tells → SparesKept new.stores pins copied old.limbo old.stores.files new.stores.files
  pub any_moment : IsTrue tells → Passes (SparesKept new.stores pins copied old.limbo) old.stores.past new.stores.past

-- THE REMOVAL

-- Just the names of those of the files that go and that are there, each once.
pub record AreRemovable (Goes : Retired → Type 0) (limbo : List Retired) (files : Files) (names : List Name) : Type 0 where
  pub once : AllPairs (λ (a b : Name). a ≢ b) names
  pub there : All (λ (n : Name). IsSome (files n)) names
  pub own : All (λ (n : Name). (r : Retired) × Contains limbo r × (r.name ≡ n) × Goes r) names
  pub each : All (λ (r : Retired). Goes r → Contains names r.name ⊎ (files r.name ≡ None)) limbo

-- nothing needs the file
abbrev pub IsUseless : FinMap nat_cmp PinOf → List Name → Retired → Type 0
IsUseless pins copied r = IsNeeded pins copied r.name → ⊥

-- no store lists a file of its row and partition, and nothing needs it
abbrev pub IsLeftOver : List ManifestState → FinMap nat_cmp PinOf → List Name → Retired → Type 0
IsLeftOver manifests pins copied r = (ListsPlace manifests r → ⊥) × IsUseless pins copied r

-- every other name is as it was
abbrev pub Elsewhere : Name → Files → Files → Type 0
Elsewhere name old new = (n : Name) → n ≢ name → new n ≡ old n

-- whatever isn't among the files, and what a pin names or a move has copied into, has what it had
abbrev pub Spares : FinMap nat_cmp PinOf → List Name → List Retired → Files → Files → Type 0
Spares pins copied limbo old new = (n : Name) → ((r : Retired) → Contains limbo r → r.name ≡ n → IsNeeded pins copied n) → new n ≡ old n

-- Reads and a crash at any moment spare all others and those that are needed, and no name is opened further.
pub record Removes (pins : FinMap nat_cmp PinOf) (copied : List Name) (limbo : List Retired) (old new : DiskShown) : Type 0 where
  pub any_moment : Passes (Spares pins copied limbo) old.past new.past
  pub spares : Spares pins copied limbo old.files new.files
  pub fewer : (n : Name) → new.opened n ≤ old.opened n

-- all but these names has what it had
abbrev pub SparesNames : List Name → Files → Files → Type 0
SparesNames names old new = (n : Name) → (Contains names n → ⊥) → new n ≡ old n

-- Reads and a crash at any moment spare all but these names, and no name is opened further.
pub record RemovesNames (names : List Name) (old new : DiskShown) : Type 0 where
  pub any_moment : Passes (SparesNames names) old.past new.past
  pub spares : SparesNames names old.files new.files
  pub fewer : (n : Name) → new.opened n ≤ old.opened n

-- of the files this is true of the name of each that isn't needed
abbrev pub AreFree : FinMap nat_cmp PinOf → List Name → (Name → Type 0) → List Retired → Type 0
AreFree pins copied P limbo = All (λ (r : Retired). (IsNeeded pins copied r.name → ⊥) → P r.name) limbo

-- the stores stay as they are
abbrev pub staying : {A : Type 0} → StoreCall A ⊥
staying {A} = record { by = λ old new. new ≡ old; says = λ a old new. Unit {0}; refuses = λ e rows. ⊥ }
