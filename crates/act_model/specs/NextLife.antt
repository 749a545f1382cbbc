-- The archive that is opened on what a crash left: the rows with what their stores list, each over its base. All of that is accepted, and
-- there is nothing else: no tail, no pin, no move, no doubt.
use Rattle.std.specs.Prelude.{ℕ, List, [], map, Bool, None}
use Rattle.std.specs.FinMap.{empty}
use Rattle.series_model.specs.Sampling.{first_cell}
use Rattle.series_model.specs.Series.{end_of}
use Rattle.act_model.specs.Changes.{each}
use Rattle.act_model.specs.Rows.{RowState, durable}
use Rattle.act_model.specs.Whole.{whole}
use Rattle.act_model.specs.Rule.{Rule}
use Rattle.act_model.specs.Machine.{Machine}
use Rattle.act_model.specs.Crash.{DurableRow}

-- a row as it is listed, before it is known where the whole of it ends
abbrev pub listed_row : DurableRow → RowState
listed_row d = record { name = d.name; about = d.about; state = d.state; base = d.base; next = 0; tail = []; cell = first_cell; short = d.short; medium = d.medium; long = d.long }

-- admission takes what is later than the whole of the row
abbrev pub with_next : List RowState → ℕ → RowState → RowState
with_next rows i row = record row { next = end_of (whole durable rows i) }

-- the rows as they are opened
abbrev pub opened_rows : List DurableRow → List RowState
opened_rows rows = each (with_next (map listed_row rows)) 0 (map listed_row rows)

-- the state as it is opened, with its doors and its disk's count of faults
abbrev pub opened : Rule → Bool → ℕ → ℕ → List DurableRow → Machine
opened rule told doors faults rows = record { rule = rule; rows = opened_rows rows; limbo = []; pins = empty; moves = empty; doubt = None; doors = doors; faults = faults; told = told }
