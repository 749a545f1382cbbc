-- What contracts see of an archive: its stores with their disk, their limbo and their pins, its intake, what it keeps of each row, the change that stands
-- in doubt, how many doors are open, its settings, and the moves that run.
use Rattle.std.specs.FinMap.{FinMap}
use Rattle.std.specs.Ordering.{nat_cmp}
use Rattle.std.specs.Prelude.{ℕ, List, Option}
use Rattle.disk_model.specs.declared.disk.Disk.{Ghosts}
use Rattle.intake.specs.Tails.{TailState}
use Rattle.etl_rules.specs.Config.{ConfigState}
use Rattle.pins.specs.Pieces.{PinOf}
use Rattle.etl_mover.specs.Move.{Moving}
use Rattle.moves.specs.declared.table.Running.{Running}
use Rattle.tier_store.specs.Seen.{Seen, seen}
use Rattle.tier_store.specs.declared.limbo.Retired.{Retired}
use Rattle.intake_half.specs.declared.memory.RowMemory.{RowMemory}
use Rattle.archive_core.specs.declared.memory.Doubt.{Doubt}
use Rattle.archive_core.specs.declared.archive.Archive.{Archive}
use Rattle.archive_core.specs.declared.archive.StoreHalf.{StoreHalf}

pub record Parts : Type 1 where
  pub at : Seen
  pub limbo : List Retired
  pub pinned : FinMap nat_cmp PinOf
  pub tails : List TailState
  pub kept : List RowMemory
  pub doubt : Option Doubt
  pub doors : ℕ
  pub config : ConfigState
  pub slots : List (Option (Running Moving))

-- What an archive has in memory beside its stores: what is kept of each row, the tails, and how many doors are open.
pub record InMemory : Type 0 where
  pub kept : List RowMemory
  pub tails : List TailState
  pub doors : ℕ

-- a store's half beside this memory, by the members of its disk's type
abbrev pub parts_beside : {D R : Type 0} → Ghosts D R → StoreHalf D R → InMemory → Parts
parts_beside {D} {R} disk half memory = record { at = seen disk half.store; limbo = half.store.limbo.items; pinned = half.store.pinned; tails = memory.tails; kept = memory.kept; doubt = half.doubt; doors = memory.doors; config = half.config; slots = half.moves.slots.items }

-- an archive's memory
abbrev pub memory_in : {D R : Type 0} → Archive D R → InMemory
memory_in {D} {R} archive = record { kept = archive.rows.items; tails = archive.intake; doors = archive.doors }

-- an archive: its store's half beside its memory
abbrev pub parts : {D R : Type 0} → Ghosts D R → Archive D R → Parts
parts {D} {R} disk archive = parts_beside disk archive.half (memory_in archive)
