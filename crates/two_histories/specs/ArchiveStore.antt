-- The store's half of an archive: what stands in files, pins, moves, and a doubt. It is the machine without what the intake holds, and
-- an act on it is the machine's over the samples that the act carries.
use Rattle.std.specs.FinMap.{FinMap}
use Rattle.std.specs.Ordering.{nat_cmp}
use Rattle.std.specs.Prelude.{ℕ, ◌+◌, List, [], ◌∷◌, Bool, true, false, Option, Some, None, if◌then◌else◌, slice_get, nat_lt}
use Rattle.pb_messages.specs.declared.about.About.{About}
use Rattle.pb_messages.specs.declared.about.State.{State}
use Rattle.pb_messages.specs.declared.about.State.TheVariants.{Running, Paused, Retired}
use Rattle.series_model.specs.declared.sample.Sample.{Sample}
use Rattle.series_model.specs.Sampling.{first_cell}
use Rattle.series_model.specs.Series.{over, end_of}
use Rattle.act_model.specs.Changes.{each, of_row}
use Rattle.act_model.specs.Limbo.{RowFile}
use Rattle.act_model.specs.Machine.{Machine, PinState, MoveState, Change, AddsRow, SetsState, Renames, Appends, Publishes, Unlists}
use Rattle.act_model.specs.Rows.{RowState, accepted}
use Rattle.act_model.specs.Rule.{Rule}
use Rattle.act_model.specs.Whole.{whole}
use Rattle.two_histories.specs.Store.{Lists}

-- A row as the store has it. `changed` is its change number: the length of the store's history with the row's last change in it, which is
-- that it was registered, paused, resumed or retired, or came as a variable's row of a new name; and 0 of a row as the archive was opened.
pub record StoreRow : Type 0 where
  pub name : List ℕ
  pub about : About
  pub state : State
  pub base : Option ℕ
  pub short : List Sample
  pub medium : List Sample
  pub long : List Sample
  pub changed : ℕ

pub record StoreHalf : Type 0 where
  pub rule : Rule
  pub rows : List StoreRow
  pub limbo : List RowFile
  pub pins : FinMap nat_cmp PinState
  pub moves : FinMap nat_cmp MoveState
  pub doubt : Option Change
  pub faults : ℕ
  pub told : Bool

-- what is durable of a row
abbrev pub durable_of : StoreRow → List Sample
durable_of row = over (over row.long row.medium) row.short

-- what is durable of the row with this number
abbrev pub durable_at : List StoreRow → ℕ → List Sample
durable_at rows i = of (slice_get rows i)
  where
    of : Option StoreRow → List Sample
    of None = []
    of (Some row) = durable_of row

-- THE HALF AS A MACHINE

-- the row as the machine has it beside a tail, before it is known where the whole of it ends
abbrev pub row_with : List Sample → StoreRow → RowState
row_with tail row =
    record {
      name = row.name;
      about = row.about;
      state = row.state;
      base = row.base;
      next = 0;
      tail = tail;
      cell = first_cell;
      short = row.short;
      medium = row.medium;
      long = row.long;
    }

-- the rows from a number on, each beside its tail
abbrev pub rows_with : Lists → ℕ → List StoreRow → List RowState
rows_with tails i [] = []
rows_with tails i (row ∷ rows) = row_with (tails i) row ∷ rows_with tails (i + 1) rows

-- admission takes what is later than the whole of the row
abbrev pub with_end : List RowState → ℕ → RowState → RowState
with_end rows i row = record row { next = end_of (whole accepted rows i) }

abbrev pub with_ends : List RowState → List RowState
with_ends rows = each (with_end rows) 0 rows

-- the half as a machine beside these tails and so many open doors
abbrev pub machine_with : Lists → ℕ → StoreHalf → Machine
machine_with tails doors m =
    record {
      rule = m.rule;
      rows = with_ends (rows_with tails 0 m.rows);
      limbo = m.limbo;
      pins = m.pins;
      moves = m.moves;
      doubt = m.doubt;
      doors = doors;
      faults = m.faults;
      told = m.told;
    }

-- the samples that a change appends
abbrev pub appended : Change → Lists
appended (AddsRow name about) i = []
appended (SetsState k state) i = []
appended (Renames k name) i = []
appended (Appends batch) i = of_row i batch
appended (Publishes k store copied) i = []
appended (Unlists k store to) i = []

-- the samples in doubt
abbrev pub doubted : Option Change → Lists
doubted None i = []
doubted (Some change) i = appended change i

-- the half as a machine whose tails are the samples in doubt: until a doubt is settled the machine has them as not yet durable
abbrev pub machine_of : ℕ → StoreHalf → Machine
machine_of doors m = machine_with (doubted m.doubt) doors m

-- THE HALF THAT A MACHINE LEAVES

abbrev pub same_state : State → State → Bool
same_state Running Running = true
same_state Paused Paused = true
same_state Retired Retired = true
same_state a b = false

-- the change number of a row that was so, where an entry with which the history has the length n left it in this state
abbrev pub changed_at : ℕ → Option StoreRow → State → ℕ
changed_at n None state = n
changed_at n (Some row) state = if same_state row.state state then row.changed else n

abbrev pub left_row : ℕ → Option StoreRow → RowState → StoreRow
left_row n old row =
    record {
      name = row.name;
      about = row.about;
      state = row.state;
      base = row.base;
      short = row.short;
      medium = row.medium;
      long = row.long;
      changed = changed_at n old row.state;
    }

-- the rows from a number on
abbrev pub left_rows : ℕ → List StoreRow → ℕ → List RowState → List StoreRow
left_rows n olds i [] = []
left_rows n olds i (row ∷ rows) = left_row n (slice_get olds i) row ∷ left_rows n olds (i + 1) rows

-- the half that is left of a machine
abbrev pub store_of : ℕ → StoreHalf → Machine → StoreHalf
store_of n old m =
    record {
      rule = m.rule;
      rows = left_rows n old.rows 0 m.rows;
      limbo = m.limbo;
      pins = m.pins;
      moves = m.moves;
      doubt = m.doubt;
      faults = m.faults;
      told = m.told;
    }

-- WHAT IS TOLD OF ROWS

-- a row as it is registered
pub record RegisteredRow : Type 0 where
  pub row : ℕ
  pub name : List ℕ
  pub about : About
  pub state : State
  pub base : Option ℕ
  pub changed : ℕ

abbrev pub registered : ℕ → StoreRow → RegisteredRow
registered i row = record { row = i; name = row.name; about = row.about; state = row.state; base = row.base; changed = row.changed }

-- the rows from a number on whose change number is greater
abbrev pub changed_since : ℕ → ℕ → List StoreRow → List RegisteredRow
changed_since upto i [] = []
changed_since upto i (row ∷ rows) =
    if nat_lt upto row.changed then registered i row ∷ changed_since upto (i + 1) rows else changed_since upto (i + 1) rows
