-- Rename: a variable gets a new name and keeps its past. It goes on in a new row, which is paused; its old row is the base of that one, is
-- retired, and keeps its samples for good. Only a paused variable all of whose samples are durable gets a new name, and only one that is
-- free as for Register.
use Rattle.std.specs.Prelude.{◌≡◌, ℕ, ◌-◌, List, length, if◌then◌else◌, Option, Some, None, slice_get}
use Rattle.act_model.specs.Details.{last_time}
use Rattle.act_model.specs.Machine.{Machine, Change, Renames, find_row}
use Rattle.act_model.specs.Outcome.{Acts, all_go, Makes}
use Rattle.act_model.specs.Register.{register_refused}
use Rattle.act_model.specs.Reply.{Reply}
use Rattle.act_model.specs.Rows.{RowState, durable, is_empty, is_paused}
use Rattle.act_model.specs.Whole.{whole}
use Rattle.act_model.specs.declared.acts.Answer.TheVariants.{NoSuchVariable, RenameNotPaused, NotDurable, Renamed}

-- The number of a row's last change that this act itself made: 0 where it made none, and 1 where it settled a doubt that changed the row. A
-- row that was paused before and isn't once the doubt is settled was changed so.
abbrev pub changed_within : List ℕ → Machine → ℕ
changed_within name old = by_name (find_row old name)
  where
    by_row : Option RowState → ℕ
    by_row (Some row) = if is_paused row.state then 1 else 0
    by_row None = 0

    by_name : Option ℕ → ℕ
    by_name (Some i) = by_row (slice_get old.rows i)
    by_name None = 0

-- the moment of the last durable sample of the variable; `found` is what the stores say where the disk doesn't tell its files
abbrev pub last_durable : Option ℕ → Machine → ℕ → Option ℕ
last_durable found m i = if m.told then last_time (whole durable m.rows i) else found

-- Why the variable gets no new name, in this order: no row has its name; its row isn't paused; the new name gets no row; or it has a tail,
-- samples that are accepted and not durable yet.
abbrev pub rename_refused : ℕ → Option ℕ → List ℕ → List ℕ → Machine → Option Reply
rename_refused changed found name newname m = by_name (find_row m name)
  where
    by_tail : ℕ → RowState → Option Reply
    by_tail i row = if is_empty row.tail then None else Some (NotDurable (row.next - 1) (last_durable found m i))

    by_newname : ℕ → RowState → Option Reply → Option Reply
    by_newname i row (Some reply) = Some reply
    by_newname i row None = by_tail i row

    by_row : ℕ → Option RowState → Option Reply
    by_row i (Some row) = if is_paused row.state then by_newname i row (register_refused newname m) else Some (RenameNotPaused row.state changed 0)
    by_row i None = Some NoSuchVariable

    by_name : Option ℕ → Option Reply
    by_name (Some i) = by_row i (slice_get m.rows i)
    by_name None = Some NoSuchVariable

-- the change, where there is a row
abbrev pub renames_of : List ℕ → Option ℕ → Option Change
renames_of newname (Some i) = Some (Renames i newname)
renames_of newname None = None

-- the variable has its new row, which is told by its number
abbrev pub IsRenamed : List ℕ → List ℕ → Machine → Reply → Machine → Type 0
IsRenamed name newname mid answer new = (answer ≡ Renamed (length mid.rows)) × ((i : ℕ) × (find_row mid name ≡ Some i) × Makes (Renames i newname) mid new)

abbrev pub RenameStep : List ℕ → List ℕ → Machine → Reply → Machine → Type 0
RenameStep name newname old answer new =
    (found : Option ℕ)
    × Acts (rename_refused (changed_within name old) found name newname) (IsRenamed name newname) (λ m. renames_of newname (find_row m name)) all_go old answer new
