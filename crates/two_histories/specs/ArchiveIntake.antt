-- The intake's half of an archive: the rows that it knows, what it accepted of them that it has not let go, and the doors. It is the
-- machine without files, and an offer or a tick on it is the machine's.
use Rattle.std.specs.FinMap.{empty}
use Rattle.std.specs.Prelude.{◌≡◌, ℕ, ◌+◌, ◌==◌, List, [], ◌∷◌, map, max, false, Option, Some, None, if◌then◌else◌, nat_le, nat_lt, slice_get}
use Rattle.pb_messages.specs.declared.about.About.{About}
use Rattle.pb_messages.specs.declared.about.State.{State}
use Rattle.series_model.specs.declared.batch.RowSamples.{RowSamples}
use Rattle.series_model.specs.declared.sample.Sample.{Sample}
use Rattle.series_model.specs.Sampling.{Cell, first_cell}
use Rattle.series_model.specs.Series.{since}
use Rattle.act_model.specs.Machine.{Machine, same_bytes}
use Rattle.act_model.specs.Rows.{RowState, is_empty, size_of}
use Rattle.act_model.specs.Rule.{Rule}
use Rattle.two_histories.specs.ArchiveStore.{RegisteredRow}

-- A row that the intake knows, by its number in the store: with the change number that it knows, `next`, the first moment later than all that
-- was accepted of the variable under each of its names, the tail, and what a sampled row holds.
pub record IntakeRow : Type 0 where
  pub row : ℕ
  pub name : List ℕ
  pub about : About
  pub state : State
  pub base : Option ℕ
  pub changed : ℕ
  pub next : ℕ
  pub tail : List Sample
  pub cell : Cell

-- The rows in the order of their numbers; `upto`, the greatest length of the store's history that a flush told it; and the open doors.
pub record IntakeHalf : Type 0 where
  pub rows : List IntakeRow
  pub upto : ℕ
  pub doors : ℕ

-- the row with this number
abbrev pub known_at : List IntakeRow → ℕ → Option IntakeRow
known_at [] i = None
known_at (row ∷ rows) i = if row.row == i then Some row else known_at rows i

-- the row with this name
abbrev pub known_as : List IntakeRow → List ℕ → Option IntakeRow
known_as [] name = None
known_as (row ∷ rows) name = if same_bytes row.name name then Some row else known_as rows name

-- the tail of the row with this number, which is empty of a row that it doesn't know
abbrev pub tail_at : List IntakeRow → ℕ → List Sample
tail_at rows i = of (known_at rows i)
  where
    of : Option IntakeRow → List Sample
    of None = []
    of (Some row) = row.tail

-- THE HALF AS A MACHINE

-- an offer or a tick looks at no base: what it has to know of one is in `next`
abbrev pub as_row : IntakeRow → RowState
as_row row =
    record {
      name = row.name;
      about = row.about;
      state = row.state;
      base = None;
      next = row.next;
      tail = row.tail;
      cell = row.cell;
      short = [];
      medium = [];
      long = [];
    }

-- no rule of stores
abbrev pub no_rule : Rule
no_rule = record { granularity = []; hold = []; gather = []; header = λ message. None }

-- the half as a machine without files
abbrev pub machine_of : IntakeHalf → Machine
machine_of m =
    record {
      rule = no_rule;
      rows = map as_row m.rows;
      limbo = [];
      pins = empty;
      moves = empty;
      doubt = None;
      doors = m.doors;
      faults = 0;
      told = false;
    }

-- where a number stands among those of the rows
abbrev pub position : ℕ → List IntakeRow → Option ℕ
position i [] = None
position i (row ∷ rows) = if row.row == i then Some 0 else elim (position i rows) [ None ↦ None | Some n ↦ Some (n + 1) ]

-- THE HALF THAT A MACHINE LEAVES

abbrev pub kept_row : IntakeRow → RowState → IntakeRow
kept_row old row = record old { next = row.next; tail = row.tail; cell = row.cell }

abbrev pub kept_rows : List IntakeRow → List RowState → List IntakeRow
kept_rows [] rows = []
kept_rows (old ∷ olds) [] = []
kept_rows (old ∷ olds) (row ∷ rows) = kept_row old row ∷ kept_rows olds rows

abbrev pub intake_of : IntakeHalf → Machine → IntakeHalf
intake_of old m = record old { rows = kept_rows old.rows m.rows; doors = m.doors }

-- WHAT A LOOK FINDS

-- whole tails in the order of rows, at least one where any is held, until they have limit bytes
abbrev pub batch_from : ℕ → List IntakeRow → ℕ → List RowSamples
batch_from limit [] taken = []
batch_from limit (row ∷ rows) taken =
    if nat_le limit taken
    then []
    else if is_empty row.tail
    then batch_from limit rows taken
    else record { row = row.row; samples = row.tail } ∷ batch_from limit rows (taken + size_of row.tail)

abbrev pub batch_of : ℕ → IntakeHalf → List RowSamples
batch_of limit m = batch_from limit m.rows 0

-- how many bytes the samples of a batch have
abbrev pub bytes_in : List RowSamples → ℕ
bytes_in [] = 0
bytes_in (p ∷ batch) = size_of p.samples + bytes_in batch

-- one row as a Look tells it, or that no row has the name
pub record RowLook : Type 0 where
  pub name : List ℕ
  pub tail : List Sample
  pub known : Option RegisteredRow

abbrev pub look_at : List ℕ → Option IntakeRow → RowLook
look_at name None = record { name = name; tail = []; known = None }
look_at name (Some row) =
    record {
      name = name;
      tail = row.tail;
      known = Some (record { row = row.row; name = row.name; about = row.about; state = row.state; base = row.base; changed = row.changed });
    }

-- WHAT A TAKE LETS GO AND TAKES OVER

-- samples not later than the store's last leave the tail
abbrev pub trimmed : (ℕ → ℕ) → IntakeRow → IntakeRow
trimmed ends row = record row { tail = since (ends row.row) row.tail }

-- where the samples end that were accepted under earlier names
abbrev pub next_of : List IntakeRow → Option ℕ → ℕ
next_of rows None = 0
next_of rows (Some b) = of (known_at rows b)
  where
    of : Option IntakeRow → ℕ
    of None = 0
    of (Some row) = row.next

-- a row that the intake doesn't know yet: nothing of it is accepted or held
abbrev pub first_known : List IntakeRow → RegisteredRow → IntakeRow
first_known known r =
    record {
      row = r.row;
      name = r.name;
      about = r.about;
      state = r.state;
      base = r.base;
      changed = r.changed;
      next = next_of known r.base;
      tail = [];
      cell = first_cell;
    }

-- a change that is later than the known one sets the row's state, and clears what is held of it
abbrev pub taken_over : RegisteredRow → IntakeRow → IntakeRow
taken_over r row =
    let later = nat_lt row.changed r.changed in
    record row {
      state = if later then r.state else row.state;
      changed = max row.changed r.changed;
      cell = if later then first_cell else row.cell;
    }

-- a row that is told goes to its place, as this one where it isn't known yet
abbrev pub with_row : RegisteredRow → IntakeRow → List IntakeRow → List IntakeRow
with_row r new [] = new ∷ []
with_row r new (row ∷ rows) =
    if row.row == r.row
    then taken_over r row ∷ rows
    else if nat_lt r.row row.row then new ∷ (row ∷ rows) else row ∷ with_row r new rows

abbrev pub with_rows : List RegisteredRow → List IntakeRow → List IntakeRow
with_rows [] known = known
with_rows (r ∷ rows) known = with_rows rows (with_row r (first_known known r) known)

abbrev pub taken : (ℕ → ℕ) → List RegisteredRow → IntakeHalf → IntakeHalf
taken ends rows m = record m { rows = with_rows rows (map (trimmed ends) m.rows) }

-- no two rows have one name, of those that are known and those that are told
pub record NamesAgree (known : List IntakeRow) (rows : List RegisteredRow) : Type 0 where
  pub known_ones : (i j : ℕ) (row : IntakeRow) (told : RegisteredRow) → known_at known i ≡ Some row → slice_get rows j ≡ Some told → row.name ≡ told.name → i ≡ told.row
  pub told_ones : (i j : ℕ) (one other : RegisteredRow) → slice_get rows i ≡ Some one → slice_get rows j ≡ Some other → one.name ≡ other.name → one.row ≡ other.row
