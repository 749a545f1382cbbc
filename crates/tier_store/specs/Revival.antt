-- A flush into partitions of files in limbo. Such a file is revived: it goes on behind its old length and is listed again.
use Rattle.std.specs.Prelude.{◌≡◌, ◌⊎◌, ◌<◌, ◌+◌, ◌&&◌, ℕ, Bool, List, [], ◌∷◌, map, length, drop, nat_eq, nat_le, nat_lt, if◌then◌else◌, All, Contains, IsTrue, None, Some, slice_get}
use Rattle.series_model.specs.declared.batch.RowSamples.{RowSamples}
use Rattle.series_model.specs.declared.sample.Sample.{Sample}
use Rattle.store_manifest.specs.declared.entry.Entry.{Entry}
use Rattle.store_manifest.specs.Entries.{place}
use Rattle.store_manifest.specs.Manifest.{ManifestState}
use Rattle.durable_write.specs.Flush.{PlacesRise, file_at, put_all, with_batch}
use Rattle.durable_write.specs.Held.{Filed, Held, AreFiled, count_of, entry_of}
use Rattle.durable_write.specs.Revival.{AreUnlisted}
use Rattle.durable_write.specs.Revival as one_store
use Rattle.durable_write.specs.Stored.{AreSafe}
use Rattle.tier_store.specs.Change.{StoreCall}
use Rattle.tier_store.specs.Limbo.{ListsPlace}
use Rattle.tier_store.specs.Pinned.{SeenAll, IsHeldTo}
use Rattle.tier_store.specs.Seen.{Seen, on_disk}
use Rattle.tier_store.specs.Stores.{Stores, tier, with_list}
use Rattle.tier_store.specs.declared.limbo.Retired.{Retired}

-- WHAT IS IN LIMBO

-- the file is of this store, and the store lists none of its row and partition
abbrev pub IsUnlistedOf : List ManifestState → ℕ → Retired → Type 0
IsUnlistedOf manifests store r = (r.name.0 ≡ store) × (ListsPlace manifests r → ⊥)

-- an entry is that of such a file in limbo
pub record IsOfUnlisted (manifests : List ManifestState) (store : ℕ) (limbo : List Retired) (entry : Entry) : Type 0 where
  pub file : Retired
  pub within : Contains limbo file
  pub unlisted : IsUnlistedOf manifests store file
  pub is : file.entry ≡ entry

-- just the entries of such files
pub record AreUnlistedIn (manifests : List ManifestState) (store : ℕ) (limbo : List Retired) (entries : List Entry) : Type 0 where
  pub from : All (IsOfUnlisted manifests store limbo) entries
  pub every : (r : Retired) → Contains limbo r → IsUnlistedOf manifests store r → Contains entries r.entry

-- a file in limbo of the store at a place has this entry
pub record IsOfLimbo (i : ℕ) (limbo : List Retired) (entry : Entry) : Type 0 where
  pub file : Retired
  pub within : Contains limbo file
  pub store : file.name.0 ≡ i + 1
  pub is : file.entry ≡ entry

-- the store at a place with these files alone
abbrev pub store_with : ℕ → Seen → Bool → List Filed → Held
store_with i at stands files = record { store = i + 1; rows = at.catalogue.rows; files = files; stands = stands }

-- the file is one of these, if it is of that store; or the store lists it, and so does what is after a change that stands in doubt
abbrev pub IsAmong : ℕ → Seen → List Filed → Retired → Type 0
IsAmong i at files r = r.name.0 ≡ i + 1 → IsHeldTo at r.name 0 ⊎ Contains (map entry_of files) r.entry

-- These are the files in limbo of the store at a place that it doesn't list, or may not list once a doubt is settled: they are as safe on the
-- disk as listed files are, and no two of them are of one row and partition.
pub record AreWhole (i : ℕ) (tells : Bool) (at : Seen) (limbo : List Retired) (stands : Bool) (files : List Filed) : Type 0 where
  pub each : All (IsAmong i at files) limbo
  pub from : All (λ (f : Filed). IsOfLimbo i limbo f.entry) files
  pub rise : PlacesRise files
  pub filed : (m : ManifestState) → slice_get at.manifests i ≡ Some m → AreFiled m.granularity (store_with i at stands files)
  pub safe : IsTrue tells → AreSafe (store_with i at stands files) (on_disk at)

-- limbo of each store stays whole: of whatever files it was, it is so of some still
abbrev pub KeepsWhole : Bool → SeenAll → SeenAll → Type 0
KeepsWhole tells old new = (i : ℕ) (stands : Bool) (files : List Filed) → i < 3 → AreWhole i tells old.stores old.limbo stands files → (left : List Filed) × AreWhole i tells new.stores new.limbo stands left

-- So does limbo of stores that stand as these do: files that come to it stand no further than they did where they were listed.
abbrev pub KeepsWholeOf : Bool → SeenAll → SeenAll → Stores → Type 0
KeepsWholeOf tells old new held = (i : ℕ) (files : List Filed) → i < 3 → AreWhole i tells old.stores old.limbo held.stands files → (left : List Filed) × AreWhole i tells new.stores new.limbo held.stands left

-- THE FLUSH

-- Of these files just those that are in limbo of store 1, which doesn't list them.
pub record AreInLimbo (limbo : List Retired) (files : List Filed) (held : Stores) (back : List Filed) : Type 0 where
  pub known : All (Contains files) back
  pub unlisted : AreUnlisted held.short back
  pub from : All (λ (f : Filed). IsOfLimbo 0 limbo f.entry) back
  pub every : (r : Retired) → Contains limbo r → r.name.0 ≡ 1 → file_at (place r.entry) held.short ≡ None → Contains (map entry_of back) r.entry

-- Store 1 has all of the batch too, flushed as if its files in limbo were listed, and stores 2 and 3 stay.
pub record FlushesOver (limbo : List Retired) (files : List Filed) (batch : List RowSamples) (old new : Stores) : Type 0 where
  pub back : List Filed
  pub in_limbo : AreInLimbo limbo files old back
  pub same : new ≡ with_list 0 new.short old
  pub flushed : one_store.FlushesOver (tier 0 old) back batch (tier 0 new)

-- so many samples more are held, of what is listed and what is in limbo
pub record CountsOver (limbo : List Retired) (files : List Filed) (batch : List RowSamples) (n : ℕ) (old new : Stores) : Type 0 where
  pub over : FlushesOver limbo files batch old new
  pub count : count_of (put_all (put_all old.short over.back) over.flushed.written) ≡ count_of (put_all old.short over.back) + n

abbrev pub flushing_over : List Retired → List Filed → List RowSamples → StoreCall ℕ ⊥
flushing_over limbo files batch = record {
  by = FlushesOver limbo files batch;
  says = λ n old new. IsTrue old.stands → CountsOver limbo files batch n old new;
  refuses = λ e rows. ⊥;
}

-- THE SAMPLES OF A ROW

-- the samples of the file of the row in whose partition the moment lies
abbrev pub samples_at : List Filed → ℕ → ℕ → List Sample
samples_at [] row t = []
samples_at (f ∷ files) row t = if nat_eq f.entry.series row && (nat_le f.entry.part.start t && nat_lt t f.entry.part.end) then f.samples else samples_at files row t

-- what comes back before samples: those of the file in limbo in whose partition the first of them lies
abbrev pub revived : List Filed → ℕ → List Sample → List Sample
revived limbo row [] = []
revived limbo row (s ∷ samples) = samples_at limbo row s.t

-- what a batch has over a row's own samples
abbrev pub fresh : ℕ → List Sample → List RowSamples → List Sample
fresh row own batch = drop (length own) (with_batch row own batch)
