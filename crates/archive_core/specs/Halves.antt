-- The store's half of an archive by itself. It has no memory of rows, and stands for a store's half of two histories. What stands in for memory
-- then is what the machine of that half has of it: the samples in doubt are its tails, and nothing is held for a tick.
use Rattle.std.specs.Prelude.{◌++◌, ℕ, List, [], ◌∷◌, map, Bool, Option, Some, None, slice_get}
use Rattle.disk_model.specs.declared.disk.Disk.{Ghosts}
use Rattle.intake.specs.Tails.{TailState}
use Rattle.act_model.specs.Machine.{Machine, Change, AddsRow, SetsState, Renames, Appends, Publishes, Unlists}
use Rattle.act_model.specs.Rows.{RowState}
use Rattle.two_histories.specs.ArchiveStore as halves
use Rattle.intake_half.specs.Memory.{fresh_memory, renamed_memory}
use Rattle.intake_half.specs.declared.memory.RowMemory.{RowMemory}
use Rattle.archive_core.specs.Parts.{InMemory, Parts, parts_beside}
use Rattle.archive_core.specs.Stands.{Stands}
use Rattle.archive_core.specs.declared.archive.StoreHalf.{StoreHalf}

-- THE MEMORY THAT STANDS IN

-- what is kept of a row of which nothing is held
abbrev pub row_memory : RowState → RowMemory
row_memory row = renamed_memory row.about row.next

abbrev pub tail_state : RowState → TailState
tail_state row = record { samples = row.tail; spare = 0 }

-- what is kept of the row that a doubted change adds: it is there already
abbrev pub doubted_memory : List RowState → Option Change → List RowMemory
doubted_memory rows None = []
doubted_memory rows (Some (AddsRow name about)) = fresh_memory about ∷ []
doubted_memory rows (Some (SetsState i state)) = []
doubted_memory rows (Some (Renames i name)) = of (slice_get rows i)
  where
    of : Option RowState → List RowMemory
    of None = []
    of (Some row) = row_memory row ∷ []
doubted_memory rows (Some (Appends batch)) = []
doubted_memory rows (Some (Publishes i place copied)) = []
doubted_memory rows (Some (Unlists i place to)) = []

-- the memory of a machine of whose rows nothing is held for a tick
abbrev pub memory_of : Machine → InMemory
memory_of m = record { kept = map row_memory m.rows ++ doubted_memory m.rows m.doubt; tails = map tail_state m.rows; doors = m.doors }

-- other memory beside the same stores
abbrev pub with_memory : InMemory → Parts → Parts
with_memory memory p = record p { kept = memory.kept; tails = memory.tails; doors = memory.doors }

-- WHAT THE HALF STANDS FOR

-- the half stands for this one, however many doors are open
abbrev pub StandsFor : {D R : Type 0} → Bool → Ghosts D R → StoreHalf D R → halves.StoreHalf → Type 0
StandsFor {D} {R} tells disk half h = (doors : ℕ) → Stands tells (parts_beside disk half (memory_of (halves.machine_of doors h))) (halves.machine_of doors h)
