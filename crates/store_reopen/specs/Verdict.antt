-- What opening finds of an image: it is whole, or this is the first that is wrong, or a store is of another granularity.
use Rattle.std.specs.Prelude.{◌≡◌, ◌≢◌, ◌≤◌, ◌<◌, ◌+◌, ℕ, List, ◌∷◌, ◌++◌, length, None, Some, All, Contains, slice_get}
use Rattle.partition_names.specs.declared.granularity.Granularity.{Granularity}
use Rattle.disk_model.specs.Files.{Name, Content, Files, HasFile}
use Rattle.gate_journal.specs.Kept.{Says}
use Rattle.store_manifest.specs.declared.entry.Entry.{Entry}
use Rattle.store_manifest.specs.Batches as manifest
use Rattle.store_manifest.specs.Manifest.{manifest_name}
use Rattle.pv_catalog.specs.declared.row.Row.{Row}
use Rattle.pv_catalog.specs.Catalogue.{catalogue_name}
use Rattle.pv_catalog.specs.Rows as catalogue
use Rattle.durable_write.specs.Held.{file_of}
use Rattle.store_reopen.specs.OneJournal.{IsBadCatalogue, IsBadManifest}

-- A store's place is its number less one. There are as many stores as there are granularities.

-- WHAT JOURNALS SAY

-- the entries of the store at each place
abbrev pub Listings : Type 0
Listings = ℕ → List Entry

-- the manifests of the places below this one are of their granularities and list these entries
abbrev pub AreSaidBelow : ℕ → List Granularity → Files → Listings → Type 0
AreSaidBelow n gs files lists = (i : ℕ) (g : Granularity) → i < n → slice_get gs i ≡ Some g → Says (manifest.Folds g) (lists i) (manifest_name (i + 1)) files

-- the catalogue has these rows, and each manifest, of its granularity, lists these entries
pub record AreSaid (gs : List Granularity) (files : Files) (rows : List Row) (lists : Listings) : Type 0 where
  pub rows_said : Says catalogue.IsCatalogue rows catalogue_name files
  pub lists_said : (i : ℕ) (g : Granularity) → slice_get gs i ≡ Some g → Says (manifest.Folds g) (lists i) (manifest_name (i + 1)) files

-- THE LISTED FILES

-- the entry is of one of the rows
abbrev pub HasRow : List Row → Entry → Type 0
HasRow rows e = e.series < length rows

-- below this place each entry is of one of the rows
abbrev pub AreOfRows : ℕ → List Row → Listings → Type 0
AreOfRows n rows lists = (i : ℕ) → i < n → All (HasRow rows) (lists i)

-- the file of an entry of this place is there, and at least as long as it is listed
abbrev pub IsThere : ℕ → Files → List Row → Entry → Type 0
IsThere i files rows e = HasFile files (file_of (i + 1, rows) e) (λ b. e.len ≤ length b)

-- below this place each listed file is there, and long enough
abbrev pub AreThere : ℕ → Files → List Row → Listings → Type 0
AreThere n files rows lists = (i : ℕ) → i < n → All (IsThere i files rows) (lists i)

-- no file, told at 0; or one that is shorter than this, told at its end
abbrev pub EndsEarly : ℕ → ℕ → Content → Type 0
EndsEarly len at None = at ≡ 0
EndsEarly len at (Some bytes) = (at ≡ length bytes) × (at < len)

-- of the entries of this place the first whose file is absent or short is that of this name, and it ends at this place of its own
pub record IsFirstShort (i : ℕ) (files : Files) (rows : List Row) (entries : List Entry) (name : Name) (at : ℕ) : Type 0 where
  pub before : List Entry
  pub entry : Entry
  pub behind : List Entry
  pub split : entries ≡ before ++ entry ∷ behind
  pub there : All (IsThere i files rows) before
  pub named : name ≡ file_of (i + 1, rows) entry
  pub short : EndsEarly entry.len at (files name)

-- THE VERDICT

-- nothing is wrong
pub record IsWhole (gs : List Granularity) (files : Files) : Type 0 where
  pub rows : List Row
  pub lists : Listings
  pub said : AreSaid gs files rows lists
  pub of_rows : AreOfRows (length gs) rows lists
  pub there : AreThere (length gs) files rows lists

-- The catalogue and the manifests before this one are good, and it is good and of another granularity than the one asked for.
pub record Differs (gs : List Granularity) (files : Files) (kept asked : Granularity) : Type 0 where
  pub rows : List Row
  pub rows_said : Says catalogue.IsCatalogue rows catalogue_name files
  pub place : ℕ
  pub here : slice_get gs place ≡ Some asked
  pub lists : Listings
  pub earlier : AreSaidBelow place gs files lists
  pub entries : List Entry
  pub entries_said : Says (manifest.Configured kept) entries (manifest_name (place + 1)) files
  pub other : kept ≢ asked

-- the catalogue and the manifests before this one are good, and it is bad
pub record ManifestIsBad (gs : List Granularity) (files : Files) (name : Name) (at : ℕ) : Type 0 where
  pub rows : List Row
  pub rows_said : Says catalogue.IsCatalogue rows catalogue_name files
  pub place : ℕ
  pub within : place < length gs
  pub lists : Listings
  pub earlier : AreSaidBelow place gs files lists
  pub bad : IsBadManifest (manifest_name (place + 1)) files name at

-- the journals are good, and this manifest is the first with an entry of no row; that is told at 0
pub record HasStranger (gs : List Granularity) (files : Files) (name : Name) (at : ℕ) : Type 0 where
  pub rows : List Row
  pub lists : Listings
  pub said : AreSaid gs files rows lists
  pub place : ℕ
  pub within : place < length gs
  pub earlier : AreOfRows place rows lists
  pub stranger : Entry
  pub listed : Contains (lists place) stranger
  pub of_none : length rows ≤ stranger.series
  pub named : name ≡ manifest_name (place + 1)
  pub from : at ≡ 0

-- the journals are good, each entry is of a row, and this is the first listed file that is absent or short
pub record HasShortFile (gs : List Granularity) (files : Files) (name : Name) (at : ℕ) : Type 0 where
  pub rows : List Row
  pub lists : Listings
  pub said : AreSaid gs files rows lists
  pub of_rows : AreOfRows (length gs) rows lists
  pub place : ℕ
  pub within : place < length gs
  pub earlier : AreThere place files rows lists
  pub first : IsFirstShort place files rows (lists place) name at

-- this is the first that is wrong: the name of a file, and a place in it
pub data IsDamaged (gs : List Granularity) (files : Files) (name : Name) (at : ℕ) : Type 0 where
  catalogue_bad : IsBadCatalogue files name at → IsDamaged gs files name at
  manifest_bad : ManifestIsBad gs files name at → IsDamaged gs files name at
  stranger : HasStranger gs files name at → IsDamaged gs files name at
  file_short : HasShortFile gs files name at → IsDamaged gs files name at
