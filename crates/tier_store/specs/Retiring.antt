-- How the oldest files of a row leave a store's list.
use Rattle.std.specs.FinMap.{FinMap}
use Rattle.std.specs.Ordering.{nat_cmp}
use Rattle.std.specs.Prelude.{◌≡◌, ◌⊎◌, ◌<◌, ◌≤◌, ◌+◌, ◌++◌, ◌==◌, ℕ, Bool, List, [], Contains, IsTrue, OnOk, Result, filter, length, map, take, None, Some, slice_get}
use Rattle.disk_model.specs.Files.{Name}
use Rattle.disk_model.specs.Past.{Only}
use Rattle.disk_model.specs.declared.disk.DiskErr.{DiskErr}
use Rattle.disk_model.specs.declared.disk.DiskErr.TheVariants.{Fault}
use Rattle.pins.specs.Pieces.{PinOf}
use Rattle.store_manifest.specs.declared.entry.Change.{Change}
use Rattle.store_manifest.specs.declared.entry.Change.TheVariants.{Drop}
use Rattle.store_manifest.specs.declared.entry.Entry.{Entry}
use Rattle.store_manifest.specs.Manifest.{ManifestState}
use Rattle.durable_write.specs.Ahead.{without_all}
use Rattle.durable_write.specs.Held.{Filed, Shelf, entry_of, file_of}
use Rattle.durable_write.specs.Plan.{of_row}
use Rattle.tier_store.specs.Change.{StoreCall, Doubts, Has}
use Rattle.tier_store.specs.Limbo.{Stay, LeaveListed, IsListedName, IsPinnedFile, IsKeptName, AreFree}
use Rattle.tier_store.specs.Pinned.{SeenAll, Shows}
use Rattle.tier_store.specs.Seen.{Seen}
use Rattle.tier_store.specs.Stores.{Stores, list_at, with_list}
use Rattle.tier_store.specs.declared.limbo.Retired.{Retired}
use Rattle.tier_store.specs.declared.retirement.RetireEnd.{RetireEnd}
use Rattle.tier_store.specs.declared.retirement.RetireEnd.TheVariants as ends

-- THE FILES

-- so many of a row's files at a place, the oldest
abbrev pub oldest : ℕ → ℕ → ℕ → Stores → List Filed
oldest i row n s = take n (of_row row (list_at i s))

-- the same stores without them
abbrev pub without_oldest : ℕ → ℕ → ℕ → Stores → Stores
without_oldest i row n s = with_list i (without_all (list_at i s) (oldest i row n s)) s

-- none of these names is that of one of them
abbrev pub AreApart : ℕ → ℕ → ℕ → Stores → List Name → Type 0
AreApart i row n s names = (f : Filed) → Contains (oldest i row n s) f → Contains names (file_of (i + 1, s.rows) f.entry) → ⊥

-- their entries, as a manifest lists them
abbrev pub oldest_entries : ℕ → ℕ → List Entry → List Entry
oldest_entries row n entries = take n (filter (λ (e : Entry). e.series == row) entries)

abbrev pub drop_entry : Entry → Change
drop_entry e = Drop e.series e.part.start

-- a listed file as one to be retired
abbrev pub retired_of : Shelf → Entry → Retired
retired_of shelf e = record { name = file_of shelf e; entry = e }

-- LENGTHS

-- a file is no longer than it was published
abbrev pub HasNotGrown : List ℕ → List Entry → ℕ → Type 0
HasNotGrown published now k = (p : ℕ) (e : Entry) → slice_get published k ≡ Some p → slice_get now k ≡ Some e → e.len ≤ p

-- the first file that is longer than it was published, with both lengths
pub record HasGrown (published : List ℕ) (now : List Entry) (len copied : ℕ) : Type 0 where
  pub place : ℕ
  pub entry : Entry
  pub in_published : slice_get published place ≡ Some copied
  pub in_now : slice_get now place ≡ Some entry
  pub listed : entry.len ≡ len
  pub longer : copied < len
  pub first : (k : ℕ) → k < place → HasNotGrown published now k

-- LIMBO

-- a file of this name leaves
abbrev pub Leaves : List Retired → Name → Type 0
Leaves leaving name = (file : Retired) × Contains leaving file × (file.name ≡ name)

-- one that leaves, and that no pin names
pub record IsFree (pins : FinMap nat_cmp PinOf) (leaving : List Retired) (name : Name) : Type 0 where
  pub leaves : Leaves leaving name
  pub free : IsPinnedFile pins name → ⊥

-- one that doesn't leave, or that a pin names
abbrev pub Stays : FinMap nat_cmp PinOf → List Retired → Name → Type 0
Stays pins leaving name = (Leaves leaving name → ⊥) ⊎ IsPinnedFile pins name

-- What was in limbo and isn't listed stays, and the files that leave come behind it, of which none was there.
pub record Enter (at : Seen) (old new leaving : List Retired) : Type 0 where
  pub kept : List Retired
  pub stay : Stay (λ r. Unit {0}) (λ r. IsListedName at r.name ⊎ Leaves leaving r.name) old kept
  pub apart : (r : Retired) → Contains kept r → Leaves leaving r.name → ⊥
  pub are : new ≡ kept ++ leaving

-- Of the files that leave just those stay that a pin names. Where their removal didn't fail, the others are no files any more, and no crash brings
-- them back.
pub record Remain (tells : Bool) (at : Seen) (pins : FinMap nat_cmp PinOf) (old new : List Retired) (removed : Result (Unit {0}) DiskErr) (leaving : List Retired) : Type 0 where
  pub both : List Retired
  pub enter : Enter at old both leaving
  pub stay : Stay (λ r. Stays pins leaving r.name) (λ r. IsFree pins leaving r.name) both new
  pub gone : IsTrue tells → OnOk removed (AreFree pins [] (λ n. Only at.past n None) leaving)

-- the names of files in limbo
abbrev pub names_in : List Retired → List Name
names_in limbo = map (λ (r : Retired). r.name) limbo

-- whatever is listed then, in limbo or named by a pin, and was shown, is shown still
abbrev pub ShowsKept : Bool → FinMap nat_cmp PinOf → SeenAll → SeenAll → Type 0
ShowsKept tells pins old new = (name : Name) (bytes : List ℕ) → IsKeptName new.stores pins (names_in new.limbo) name → Shows tells old name bytes → Shows tells new name bytes

-- AFTER AN ERROR

-- the oldest files of a row that a place lists, as ones to be retired
pub record AreOldest (at : Seen) (i row n : ℕ) (files : List Retired) : Type 0 where
  pub manifest : ManifestState
  pub here : slice_get at.manifests i ≡ Some manifest
  pub are : files ≡ map (retired_of (i + 1, at.catalogue.rows)) (oldest_entries row n manifest.entries)

-- they have come to limbo, behind what was there and isn't listed
abbrev pub HandedOver : Seen → ℕ → ℕ → ℕ → List Retired → List Retired → Type 0
HandedOver at i row n old new = (leaving : List Retired) × AreOldest at i row n leaving × Enter at old new leaving

-- they have, or limbo is as it was but for files that are listed
abbrev pub StayOrEnter : Seen → ℕ → ℕ → ℕ → List Retired → List Retired → Type 0
StayOrEnter at i row n old new = LeaveListed at old new ⊎ HandedOver at i row n old new

-- THE CALL

-- the oldest files of a row, as many as were published, are listed no more, and none of them had grown
pub record Retires (i row : ℕ) (published : List ℕ) (old new : Stores) : Type 0 where
  pub none_grown : (k : ℕ) → HasNotGrown published (map entry_of (oldest i row (length published) old)) k
  pub same : new ≡ without_oldest i row (length published) old

-- the oldest files of a row leave a list, and limbo is then so by the files that leave
pub record Leave (i row : ℕ) (published : List ℕ) (Limbo : List Retired → Type 0) (old new : Stores) : Type 0 where
  pub retires : Retires i row published old new
  pub limbo : Limbo (map (λ (f : Filed). retired_of (i + 1, old.rows) f.entry) (oldest i row (length published) old))

-- what an answer says: the files are listed no more, or one has grown, and all is as it was
abbrev pub SaysRetired : ℕ → ℕ → List ℕ → (Result (Unit {0}) DiskErr → List Retired → Type 0) → RetireEnd → Stores → Stores → Type 0
SaysRetired i row published Limbo (ends.Retired removed) old new = Leave i row published (Limbo removed) old new
SaysRetired i row published Limbo (ends.Again len copied) old new = (new ≡ old) × HasGrown published (map entry_of (oldest i row (length published) old)) len copied

-- The oldest files of a row leave a list, or all is as it was.
abbrev pub retiring : ℕ → ℕ → List ℕ → (Result (Unit {0}) DiskErr → List Retired → Type 0) → StoreCall RetireEnd ⊥
retiring i row published Limbo = record { by = λ old new. (new ≡ old) ⊎ Retires i row published old new; says = SaysRetired i row published Limbo; refuses = λ e rows. ⊥ }

-- After a fault all is as it was, or it isn't known whether the files are listed still.
abbrev pub FailsRetired : ℕ → ℕ → List ℕ → Bool → Seen → Stores → Type 0
FailsRetired i row published tells new held = Has tells new held ⊎ ((made : Stores) × Retires i row published held made × Doubts tells new held made)

-- After an error the files have come to limbo, or that is as it was but for files that are listed. After a fault they have, and all is as it was,
-- or it isn't known whether they are listed still.
pub record FailsToRetire (i row : ℕ) (published : List ℕ) (tells : Bool) (old new : SeenAll) (e : DiskErr) : Type 0 where
  pub failed : StayOrEnter new.stores i row (length published) old.limbo new.limbo
  pub handed : e ≡ Fault → HandedOver new.stores i row (length published) old.limbo new.limbo
  pub doubted : (held : Stores) → Has tells old.stores held → e ≡ Fault → FailsRetired i row published tells new.stores held

-- the commit alone
abbrev pub dropping : {A : Type 0} → ℕ → ℕ → ℕ → StoreCall A ⊥
dropping {A} i row n = record { by = λ old new. new ≡ without_oldest i row n old; says = λ a old new. Unit {0}; refuses = λ e rows. ⊥ }
