-- Running moves over the three stores: what one has written to the next store and not listed yet, and what a call leaves of that.
use Rattle.std.specs.Prelude.{◌≡◌, ◌≢◌, ◌⊎◌, ◌≤◌, ◌+◌, ℕ, Bool, List, ◌++◌, All, Contains, IsTrue, length, map, None, Some, slice_get}
use Rattle.disk_model.specs.Files.{Name}
use Rattle.disk_model.specs.Past.{Passes}
use Rattle.etl_mover.specs.Move.{Moving, IsMove, StillLists}
use Rattle.partition_names.specs.declared.granularity.Granularity.{Granularity}
use Rattle.partition_names.specs.declared.part.Part.{Part}
use Rattle.pv_catalog.specs.Rows.{KeepsRows}
use Rattle.pv_catalog.specs.declared.row.Row.{Row}
use Rattle.store_manifest.specs.Manifest.{ManifestState}
use Rattle.durable_write.specs.Flush.{PlacesRise, file_at, put_all}
use Rattle.durable_write.specs.Held.{Filed, Held, Shelf, AreFiled, entry_of, file_of, filed_at}
use Rattle.durable_write.specs.Plan.{IsLastOf, of_row}
use Rattle.durable_write.specs.Stored.{AreSafe}
use Rattle.tier_store.specs.Change.{StoreCall, Has, Doubts}
use Rattle.tier_store.specs.Pinned.{SeenAll}
use Rattle.tier_store.specs.Seen.{Seen, granularities, on_disk}
use Rattle.tier_store.specs.Stores.{Stores, list_at, with_list}
use Rattle.tier_store.specs.declared.limbo.Retired.{Retired}

-- FILES THAT MAY BE LISTED

-- the store at a place, with these files alone
abbrev pub of_files : ℕ → Stores → List Filed → Held
of_files i s files = record { store = i + 1; rows = s.rows; files = files; stands = s.stands }

-- none of the files is shorter than what is listed in its place
abbrev pub NoneShortened : List Filed → List Filed → Type 0
NoneShortened listed files = (h f : Filed) → Contains listed h → Contains files f → filed_at h ≡ filed_at f → h.entry.len ≤ f.entry.len

-- or, where nothing is listed in its place, than what is in limbo under its name
abbrev pub NoneRetiredShortened : Shelf → List Retired → List Filed → List Filed → Type 0
NoneRetiredShortened shelf limbo listed files = (r : Retired) (f : Filed) → Contains limbo r → Contains files f → r.name ≡ file_of shelf f.entry → file_at (filed_at f) listed ≡ None → r.entry.len ≤ f.entry.len

-- Files that may be listed at a place, each in the place of what is listed there or beside it. They are in order, each is one of its row and
-- partition, and they are safe on the disk. What is listed of one goes on in it, and where nothing is, what is in limbo.
pub record MayBeListed (i : ℕ) (tells : Bool) (all : SeenAll) (held : Stores) (files : List Filed) : Type 0 where
  pub rise : PlacesRise files
  pub filed : (g : Granularity) → slice_get (granularities all.stores.manifests) i ≡ Some g → AreFiled g (of_files i held files)
  pub safe : IsTrue tells → AreSafe (of_files i held files) (on_disk all.stores)
  pub longer : NoneShortened (list_at i held) files
  pub longer_retired : NoneRetiredShortened (i + 1, held.rows) all.limbo (list_at i held) files

-- THE MOVE

-- the files are those of a manifest that lists the parts still
abbrev pub ListsParts : List Filed → Moving → Type 0
ListsParts files move = (m : ManifestState) → m.entries ≡ map entry_of files → StillLists move m

-- A move to the store at a place runs beside these stores. Its source, the store before that, lists the parts still, and the row has its name. While
-- parts are left to copy it knows what the destination lists last of the row. What it is to list is that of these files.
pub record RunsBeside (i : ℕ) (tells : Bool) (all : SeenAll) (move : Moving) (files : List Filed) (held : Stores) : Type 0 where
  pub from : ℕ
  pub next : i ≡ from + 1
  pub fine : Granularity
  pub from_fine : slice_get (granularities all.stores.manifests) from ≡ Some fine
  pub to_coarse : slice_get (granularities all.stores.manifests) i ≡ Some move.granularity
  pub running : IsMove fine move
  pub numbers : IsTrue tells → (move.source ≡ i) × (move.destination ≡ i + 1)
  pub row : Row
  pub stands : slice_get held.rows move.series ≡ Some row
  pub name : row.name ≡ move.name
  pub parts : ListsParts (list_at from held) move
  pub last : move.at ≢ length move.parts → IsLastOf (map entry_of (list_at i held)) move.series move.listed
  pub pending : move.pending ≡ map entry_of files
  pub ahead : MayBeListed i tells all held files

-- WHAT A CALL LEAVES

-- where the files are
abbrev pub names_of : Shelf → List Filed → List Name
names_of shelf files = map (λ (f : Filed). file_of shelf f.entry) files

-- These names have what they had, as reads give them and as a crash at any moment leaves them. None of them was opened further, or has come to limbo.
pub record LeavesNames (names : List Name) (tells : Bool) (old new : SeenAll) : Type 0 where
  pub files : IsTrue tells → (n : Name) → Contains names n → new.stores.files n ≡ old.stores.files n
  pub fewer : IsTrue tells → (n : Name) → Contains names n → new.stores.opened n ≤ old.stores.opened n
  pub any_moment : IsTrue tells → Passes (λ a b. (n : Name) → Contains names n → b n ≡ a n) old.stores.past new.stores.past
  pub limbo : (r : Retired) → Contains names r.name → Contains new.limbo r → Contains old.limbo r

-- so it does with all names of the stores that moves copy to, the second and the third
abbrev pub LeavesLater : Bool → SeenAll → SeenAll → Type 0
LeavesLater tells old new = (names : List Name) → All (λ (n : Name). 2 ≤ n.0) names → LeavesNames names tells old new

-- or with all names that files of the three stores have
abbrev pub LeavesFiles : Bool → SeenAll → SeenAll → Type 0
LeavesFiles tells old new = (names : List Name) → All (λ (n : Name). 1 ≤ n.0) names → LeavesNames names tells old new

-- what is held, or what is before a change in doubt or after it
abbrev pub MayHold : Bool → Seen → Stores → Type 0
MayHold tells at held = Has tells at held ⊎ ((other : Stores) × (Doubts tells at held other ⊎ Doubts tells at other held))

-- each move that ran beside what may be held does so still
abbrev pub KeepsBeside : Bool → SeenAll → SeenAll → Type 0
KeepsBeside tells old new = (held : Stores) → MayHold tells old.stores held → (i : ℕ) (move : Moving) (files : List Filed) → RunsBeside i tells old move files held → RunsBeside i tells new move files held

-- the partitions that files are of
abbrev pub parts_in : ℕ → List Filed → List Part
parts_in row files = map (λ (f : Filed). f.entry.part) (of_row row files)

-- Beside a move to the store at a place: rows go on, what that store lists of the move's row stays, and what the store before it lists of the row
-- are the same partitions, or further ones behind them.
pub record GoesBeside (i row : ℕ) (held made : Stores) : Type 0 where
  pub rows : KeepsRows held.rows made.rows
  pub stands : made.stands ≡ held.stands
  pub listed : of_row row (list_at i made) ≡ of_row row (list_at i held)
  pub parts : (from : ℕ) → i ≡ from + 1 → (more : List Part) × (parts_in row (list_at from made) ≡ parts_in row (list_at from held) ++ more)

-- THE PUBLICATION

-- a store lists these files too, each in the place of what was listed there or beside it, and all else stays
abbrev pub ListsAlso : ℕ → List Filed → Stores → Stores → Type 0
ListsAlso i files old new = new ≡ with_list i (put_all (list_at i old) files) old

abbrev pub publishing : ℕ → List Filed → StoreCall (Unit {0}) ⊥
publishing i files = record { by = ListsAlso i files; says = λ a old new. Unit {0}; refuses = λ e rows. ⊥ }
