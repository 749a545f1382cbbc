-- Which move of a row's oldest files to the next store is to be made, and how it begins.
use Rattle.std.specs.Prelude.{◌≡◌, ◌<◌, ◌+◌, ℕ, List, map, length, Option, Some, slice_get, Bool, IsTrue}
use Rattle.etl_mover.specs.Move.{Moving, HasBegun, IsMove, StillLists, IsOfRow}
use Rattle.etl_mover.specs.Step.{IsToRow}
use Rattle.moves.specs.Series.{IsToMove, parts_in}
use Rattle.moves.specs.declared.parts.MoveRule.{MoveRule}
use Rattle.moves.specs.declared.series.ToMove.{ToMove}
use Rattle.moves.specs.declared.series.ToMove.TheVariants as chosen
use Rattle.partition_names.specs.declared.granularity.Granularity.{Granularity}
use Rattle.partition_names.specs.Granularity.{Holds}
use Rattle.pv_catalog.specs.declared.row.Row.{Row}
use Rattle.store_manifest.specs.Entries.{AreEntries}
use Rattle.store_manifest.specs.Manifest.{ManifestState}
use Rattle.durable_write.specs.Held.{entry_of, shelf_of}
use Rattle.tier_store.specs.Stores.{Stores, list_at, tier}
use Rattle.tier_store.specs.declared.moving.StoreMove.{StoreMove}
use Rattle.tier_store.specs.declared.moving.StoreMove.TheVariants.{Begun, Running, Nothing}

-- each partition of the store at a place lies in one of the next store's
abbrev pub AreNested : ℕ → List Granularity → Type 0
AreNested i gs = (fine coarse : Granularity) → slice_get gs i ≡ Some fine → slice_get gs (i + 1) ≡ Some coarse → Holds coarse fine

-- and those of the first two stores do so
abbrev pub AllNested : List Granularity → Type 0
AllNested gs = (i : ℕ) → i < 2 → AreNested i gs

-- how many partitions of each row are to move from the store at a place to the next
abbrev pub parts_at : MoveRule → ℕ → Stores → ℕ → ℕ
parts_at rule i held = parts_in rule (map entry_of (list_at i held)) (map entry_of (list_at (i + 1) held))

-- this is the choice by what is held, where moves of these numbers run
abbrev pub IsChoice : MoveRule → ℕ → (ℕ → Option ℕ) → Stores → ToMove → Type 0
IsChoice rule i running held choice = IsToMove (parts_at rule i held) running (length held.rows) choice

-- A move of the n oldest files of a row begins, by what the manifests of two stores list.
pub record BeginsRow (rows : List Row) (source destination : ManifestState) (row n : ℕ) (move : Moving) : Type 0 where
  pub own : Row
  pub here : slice_get rows row ≡ Some own
  pub begun : HasBegun source destination row own.name n move
  pub goes_on : Holds destination.granularity source.granularity → AreEntries source.granularity source.entries → AreEntries destination.granularity destination.entries → IsMove source.granularity move
  pub lists : StillLists move source

-- the move that is to be made by what the two manifests list begins, or none is to be made now
abbrev pub IsBegun : MoveRule → (ℕ → Option ℕ) → List Row → ManifestState → ManifestState → StoreMove → Type 0
IsBegun rule running rows source destination (Begun row n move) = IsToMove (parts_in rule source.entries destination.entries) running (length rows) (chosen.Begin row n) × BeginsRow rows source destination row n move
IsBegun rule running rows source destination (Running number) = IsToMove (parts_in rule source.entries destination.entries) running (length rows) (chosen.Running number)
IsBegun rule running rows source destination Nothing = IsToMove (parts_in rule source.entries destination.entries) running (length rows) chosen.Nothing

-- A move of the n oldest files of a row begins, from the store at a place to the next. Where a disk tells its files, both stores have their numbers.
pub record BeginsMove (tells : Bool) (i : ℕ) (manifests : List ManifestState) (held : Stores) (row n : ℕ) (move : Moving) : Type 0 where
  pub source : ManifestState
  pub destination : ManifestState
  pub from : slice_get manifests i ≡ Some source
  pub to : slice_get manifests (i + 1) ≡ Some destination
  pub own : Row
  pub here : slice_get held.rows row ≡ Some own
  pub begun : HasBegun source destination row own.name n move
  pub goes_on : IsMove source.granularity move
  pub lists : StillLists move source
  pub leaves : IsTrue tells → IsOfRow move (shelf_of (tier i held))
  pub enters : IsTrue tells → IsToRow move (shelf_of (tier (i + 1) held))

-- What one is answered who asks for a move: the one that is to be made by what is held begins, or none is to be made now.
abbrev pub SaysBegun : Bool → ℕ → MoveRule → (ℕ → Option ℕ) → List ManifestState → StoreMove → Stores → Type 0
SaysBegun tells i rule running manifests (Begun row n move) held = IsChoice rule i running held (chosen.Begin row n) × BeginsMove tells i manifests held row n move
SaysBegun tells i rule running manifests (Running number) held = IsChoice rule i running held (chosen.Running number)
SaysBegun tells i rule running manifests Nothing held = IsChoice rule i running held chosen.Nothing
