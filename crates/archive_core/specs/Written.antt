-- The names of the files that running moves have written to and not listed yet.
use Rattle.std.specs.Prelude.{◌≡◌, ◌+◌, ◌<◌, ◌≤◌, ℕ, List, [], All, Contains, Option, None, Some, length, map}
use Rattle.disk_model.specs.Files.{Name}
use Rattle.pv_catalog.specs.declared.row.Row.{Row}
use Rattle.etl_mover.specs.Move.{Moving}
use Rattle.moves.specs.Table.{at}
use Rattle.moves.specs.declared.table.Running.{Running}
use Rattle.store_manifest.specs.declared.entry.Entry.{Entry}
use Rattle.durable_write.specs.Held.{file_of}

-- where the next store has what a move is to list there by this entry
abbrev pub written_name : List Row → Running Moving → Entry → Name
written_name rows running e = file_of (running.store + 1, rows) e

-- what it is to list there is of rows that stand, in a store that has a next one
pub record IsListable (rows : List Row) (running : Running Moving) : Type 0 where
  pub store : running.store ≤ 2
  pub series : All (λ (e : Entry). e.series < length rows) running.moving.pending

-- the names of what the move at a place of the table is to list
abbrev pub names_of_slot : List Row → Option (Running Moving) → List Name
names_of_slot rows None = []
names_of_slot rows (Some running) = map (written_name rows running) running.moving.pending

-- a running move is to list a file of this name
pub record IsWritten (rows : List Row) (slots : List (Option (Running Moving))) (name : Name) : Type 0 where
  pub number : ℕ
  pub running : Running Moving
  pub runs : at slots number ≡ Some running
  pub entry : Entry
  pub within : Contains running.moving.pending entry
  pub named : written_name rows running entry ≡ name

-- just these are the names of all that running moves are to list
pub record AreWritten (rows : List Row) (slots : List (Option (Running Moving))) (names : List Name) : Type 0 where
  pub each : (n : ℕ) (running : Running Moving) → at slots n ≡ Some running → All (λ (e : Entry). Contains names (written_name rows running e)) running.moving.pending
  pub just : All (IsWritten rows slots) names
