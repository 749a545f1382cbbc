-- The files that the stores have in limbo, beside those of the machine.
--
-- Where the machine is told, its limbo is just what the stores have in limbo and don't list. A file that a store lists counts for nothing:
-- its retirement stands in doubt, or it is listed again.
--
-- Where the machine isn't told, its rows show no samples, and its limbo has no file. So it can take every step: a retirement must keep those
-- pieces of pins alone that have samples in a list, of which there are none then, and of a sweep the number of files isn't told.
use Rattle.std.specs.List.{AllByRecursion}
use Rattle.std.specs.Prelude.{◌≡◌, ◌≢◌, ℕ, List, [], ◌∷◌, Bool, true, false, Contains, Some, slice_get}
use Rattle.disk_model.specs.Files.{Name}
use Rattle.partition_names.specs.declared.granularity.Granularity.{Granularity}
use Rattle.store_manifest.specs.declared.entry.Entry.{Entry}
use Rattle.durable_write.specs.Held.{Filed, IsFiled}
use Rattle.tier_store.specs.Limbo.{LimboStands, IsListedName}
use Rattle.tier_store.specs.Pinned.{SeenAll, Shows}
use Rattle.tier_store.specs.Seen.{granularities}
use Rattle.tier_store.specs.declared.limbo.Retired.{Retired}
use Rattle.act_model.specs.Limbo.{RowFile}
use Rattle.act_model.specs.OpenPiece.{bytes_of, name_of}
use Rattle.act_model.specs.Rows.{RowState, Store, tier}
use Rattle.act_model.specs.Rule.{index_of}

-- a file of the machine as a store lists it
abbrev pub filed_of : Entry → RowFile → Filed
filed_of e f = record { entry = e; head = f.head; samples = f.samples }

-- a file that a store lists of a row, as one of the machine
abbrev pub row_file : ℕ → Store → Filed → RowFile
row_file i store f = record { row = i; store = store; part = f.entry.part; head = f.head; samples = f.samples }

-- A retired file is a file of the machine: it has the name and the partition of that, it was listed with just its header and its samples, and
-- it shows these.
pub record IsRetiredOf (tells : Bool) (all : SeenAll) (rows : List RowState) (f : RowFile) (file : Retired) : Type 0 where
  pub row : RowState
  pub here : slice_get rows f.row ≡ Some row
  pub named : file.name ≡ name_of row f
  pub series : file.entry.series ≡ f.row
  pub part : file.entry.part ≡ f.part
  pub unit : Granularity
  pub of_store : slice_get (granularities all.stores.manifests) (index_of f.store) ≡ Some unit
  pub filed : IsFiled unit all.stores.catalogue.rows (filed_of file.entry f)
  pub shows : Shows tells all file.name (bytes_of f)

-- a file of the machine has its retired file
pub record HasRetired (tells : Bool) (all : SeenAll) (rows : List RowState) (f : RowFile) : Type 0 where
  pub file : Retired
  pub within : Contains all.limbo file
  pub is : IsRetiredOf tells all rows f file

-- a retired file is one of these files of the machine
pub record IsOneOf (tells : Bool) (all : SeenAll) (rows : List RowState) (files : List RowFile) (file : Retired) : Type 0 where
  pub f : RowFile
  pub within : Contains files f
  pub is : IsRetiredOf tells all rows f file

-- each of these files of the machine has its retired file, and each retired file that no store lists is one of them
pub record AreRetired (tells : Bool) (all : SeenAll) (rows : List RowState) (files : List RowFile) : Type 0 where
  pub each : (f : RowFile) → Contains files f → HasRetired tells all rows f
  pub others : (file : Retired) → Contains all.limbo file → (IsListedName all.stores file.name → ⊥) → IsOneOf tells all rows files file

-- the stores list none of these files
abbrev pub AreUnlisted : SeenAll → List RowState → List RowFile → Type 0
AreUnlisted all rows files = (f : RowFile) (row : RowState) → Contains files f → slice_get rows f.row ≡ Some row → IsListedName all.stores (name_of row f) → ⊥

-- no two of these have one name
abbrev pub NamesDiffer : {A : Type 0} → (A → Name) → List A → Type 0
NamesDiffer {A} name [] = Unit {0}
NamesDiffer {A} name (x ∷ xs) = AllByRecursion (λ (y : A). name y ≢ name x) xs × NamesDiffer name xs

-- no store lists a sample of any row
abbrev pub AreBare : List RowState → Type 0
AreBare rows = (i : ℕ) (row : RowState) (store : Store) → slice_get rows i ≡ Some row → tier row store ≡ []

-- The stores' limbo is the machine's.
pub record IsLimboOf (tells : Bool) (all : SeenAll) (told : Bool) (rows : List RowState) (limbo : List RowFile) : Type 0 where
  pub stands : LimboStands all.stores all.limbo
  pub differ : NamesDiffer (λ (file : Retired). file.name) all.limbo
  pub retired : told ≡ true → AreRetired tells all rows limbo
  pub unlisted : told ≡ true → AreUnlisted all rows limbo
  pub none : told ≡ false → limbo ≡ []
  pub bare : told ≡ false → AreBare rows
