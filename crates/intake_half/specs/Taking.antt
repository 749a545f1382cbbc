-- What a take makes of tails and slots.
use Rattle.std.specs.Prelude.{ℕ, List, [], ◌∷◌, Option, Some, None, if◌then◌else◌, nat_lt, slice_index, slice_set}
use Rattle.two_histories.specs.ArchiveStore.{RegisteredRow}
use Rattle.intake_half.specs.Known.{slot_at}
use Rattle.intake_half.specs.Memory.{cleared, renamed_memory}
use Rattle.intake_half.specs.declared.known.KnownRow.{KnownRow}

-- where a row ends, 0 of a row that is not named
abbrev pub end_in : List ℕ → ℕ → ℕ
end_in ends row = slice_index ends row

-- a change that is later than the known one
abbrev pub taken_over : RegisteredRow → KnownRow → KnownRow
taken_over told row =
    if nat_lt row.changed told.changed then record row { state = told.state; changed = told.changed; memory = cleared row.memory } else row

-- a row that is told, which takes samples from `next` on where it isn't known yet
abbrev pub told_slot : RegisteredRow → ℕ → Option KnownRow → KnownRow
told_slot told next None =
    record {
      name = told.name;
      about = told.about;
      state = told.state;
      base = told.base;
      changed = told.changed;
      memory = renamed_memory told.about next;
    }
told_slot told next (Some row) = taken_over told row

-- from which moment on a row takes samples, 0 where it isn't known
abbrev pub next_of_slot : Option KnownRow → ℕ
next_of_slot None = 0
next_of_slot (Some row) = row.memory.next

-- that of the row that a variable had before, if it had one
abbrev pub next_in : List (Option KnownRow) → Option ℕ → ℕ
next_in slots None = 0
next_in slots (Some base) = next_of_slot (slot_at slots base)

-- the slots once a row is told
abbrev pub told_in : RegisteredRow → List (Option KnownRow) → List (Option KnownRow)
told_in told slots = slice_set slots told.row (Some (told_slot told (next_in slots told.base) (slot_at slots told.row)))

-- and once all are
abbrev pub all_told : List RegisteredRow → List (Option KnownRow) → List (Option KnownRow)
all_told [] slots = slots
all_told (told ∷ rows) slots = all_told rows (told_in told slots)
