-- A move between its calls, and how what it has written stands ahead of what its destination lists.
use Rattle.std.specs.Prelude.{◌≡◌, ◌⊎◌, ◌≤◌, ◌+◌, ◌==◌, ℕ, List, [], ◌∷◌, ◌++◌, All, Option, Some, length, map, filter, take, slice_get, IfSome}
use Rattle.series_model.specs.Limits.{most_parts}
use Rattle.disk_model.specs.Files.{Name}
use Rattle.partition_names.specs.declared.granularity.Granularity.{Granularity}
use Rattle.partition_names.specs.Granularity.{Holds}
use Rattle.partition_names.specs.Part.{IsPart, HoldsMoment}
use Rattle.partition_names.specs.Path.{path_of}
use Rattle.store_manifest.specs.declared.entry.Entry.{Entry}
use Rattle.store_manifest.specs.declared.entry.Change.{Change}
use Rattle.store_manifest.specs.declared.entry.Change.TheVariants.{Set}
use Rattle.store_manifest.specs.Entries.{InOrder}
use Rattle.store_manifest.specs.Manifest.{ManifestState, manifest_name}
use Rattle.pv_catalog.specs.declared.row.Row.{Row}
use Rattle.durable_write.specs.Held.{Filed, Held, Shelf, entry_of}
use Rattle.durable_write.specs.Flush.{with_files}
use Rattle.durable_write.specs.Plan.{IsLastOf}
use Rattle.etl_mover.specs.declared.moving.Stage.{Stage}
use Rattle.etl_mover.specs.declared.moving.Stage.TheVariants.{Copying}

-- WHAT A MOVE KNOWS

-- The stores from which and to which it moves, the granularity of the destination, the series and its name, the last entry that the
-- destination lists of it, the entries of the parts in the source with the lengths up to which they are copied once they are, how
-- many parts are copied, the entries that the destination is to list, how far it has come, and the parts' files.
pub record Moving : Type 0 where
  pub source : ℕ
  pub destination : ℕ
  pub granularity : Granularity
  pub series : ℕ
  pub name : List ℕ
  pub listed : Option Entry
  pub parts : List Entry
  pub at : ℕ
  pub pending : List Entry
  pub stage : Stage
  pub files : List Name

-- where a part's file is in the source
abbrev pub part_file : ℕ → List ℕ → Entry → Name
part_file store name e = (store, path_of name e.part.name)

-- the entries of a series, oldest first
abbrev pub of_series : ℕ → List Entry → List Entry
of_series series entries = filter (λ e. e.series == series) entries

-- a move of the first n partitions of the series of this number and name begins: nothing is copied yet
pub record HasBegun (source destination : ManifestState) (number : ℕ) (text : List ℕ) (n : ℕ) (move : Moving) : Type 0 where
  pub from : (store : ℕ) → store ≤ 9 → source.journal.name ≡ manifest_name store → move.source ≡ store
  pub to : (store : ℕ) → store ≤ 9 → destination.journal.name ≡ manifest_name store → move.destination ≡ store
  pub granularity : move.granularity ≡ destination.granularity
  pub series : move.series ≡ number
  pub name : move.name ≡ text
  pub listed : IsLastOf destination.entries number move.listed
  pub parts : move.parts ≡ take n (of_series number source.entries)
  pub at : move.at ≡ 0
  pub pending : move.pending ≡ []
  pub stage : move.stage ≡ Copying
  pub files : move.files ≡ map (part_file move.source text) move.parts

-- WHAT STAYS TRUE OF IT

-- the last entry that is to be listed is of the partition that holds the part that is copied next
pub record OfNext (move : Moving) : Type 0 where
  pub rest : List Entry
  pub entry : Entry
  pub part : Entry
  pub are : move.pending ≡ rest ++ entry ∷ []
  pub next : slice_get move.parts move.at ≡ Some part
  pub holds : HoldsMoment entry.part part.part.start

-- No more entries are to be listed than parts are copied, but for that of the part that is copied next.
abbrev pub FewPending : Moving → Type 0
FewPending move = (length move.pending ≤ move.at) ⊎ ((length move.pending ≡ move.at + 1) × OfNext move)

-- Its parts are partitions of the source in order, each within one of the destination, and what is to be listed is of the destination's.
pub record IsMove (fine : Granularity) (move : Moving) : Type 0 where
  pub nested : Holds move.granularity fine
  pub parts : All (λ (e : Entry). IsPart fine e.part × (e.series ≡ move.series)) move.parts
  pub in_order : InOrder move.parts
  pub few : length move.parts ≤ most_parts
  pub at : move.at ≤ length move.parts
  pub pending : All (λ (e : Entry). IsPart move.granularity e.part × (e.series ≡ move.series)) move.pending
  pub most : FewPending move
  pub listed : IfSome move.listed (λ (e : Entry). IsPart move.granularity e.part × (e.series ≡ move.series))
  pub files : move.files ≡ map (part_file move.source move.name) move.parts

-- What is to be listed stands ahead of what the destination lists: the files of the pending entries are put among its own.
pub record IsAhead (move : Moving) (held ahead : Held) : Type 0 where
  pub files : List Filed
  pub are : ahead ≡ with_files held files
  pub pending : move.pending ≡ map entry_of files

-- THE PUBLICATION

-- all parts are copied
pub record IsCopied (move : Moving) : Type 0 where
  pub stage : move.stage ≡ Copying
  pub all : move.at ≡ length move.parts

abbrev pub set_entry : Entry → Change
set_entry e = Set e

-- WHAT THE SOURCE LISTS

-- the source still lists the parts as its oldest of the series, each as long as it was copied or longer
pub record StillLists (move : Moving) (source : ManifestState) : Type 0 where
  pub now : List Entry
  pub others : List Entry
  pub entries : of_series move.series source.entries ≡ now ++ others
  pub parts : map (λ (e : Entry). e.part) now ≡ map (λ (e : Entry). e.part) move.parts

-- the move's row has its name
pub record IsOfRow (move : Moving) (shelf : Shelf) : Type 0 where
  pub row : Row
  pub stands : slice_get shelf.1 move.series ≡ Some row
  pub name : row.name ≡ move.name
  pub store : move.source ≡ shelf.0
