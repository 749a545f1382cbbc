-- Two histories of the halves of one archive.
use Rattle.std.specs.List.{AllByRecursion}
use Rattle.std.specs.Prelude.{◌≡◌, ◌⊎◌, ℕ, ◌+◌, List, [], ◌∷◌, ◌++◌, length, map, drop, Some, None, slice_get}
use Rattle.closed_pairs.specs.Pairs.{Has, IsHalfLegal, IsClosed}
use Rattle.series_model.specs.Archive.{IsPrefix}
use Rattle.series_model.specs.Series.{end_of}
use Rattle.act_model.specs.Machine.{Machine}
use Rattle.act_model.specs.Rows.{RowState}
use Rattle.act_model.specs.Sound.{IsSound}
use Rattle.two_histories.specs.Histories.{left_by}
use Rattle.two_histories.specs.Store.{Lists}
use Rattle.two_histories.specs.ArchiveStore.{StoreHalf, StoreRow, RegisteredRow, registered, durable_at, store_of}
use Rattle.two_histories.specs.ArchiveIntake.{IntakeHalf, IntakeRow, tail_at}
use Rattle.two_histories.specs.StoreStep.{StorePart, StoreEntry, StoreStep, Does, BeginsMove, Flushes, PinsAt, DescribesAt, RenamesAt, Stored}
use Rattle.two_histories.specs.IntakeStep.{IntakePart, IntakeEntry, IntakeStep, Offers, Ticks, LooksForDoors, LooksForBatch}
use Rattle.two_histories.specs.IntakeStep.{LooksAt, Takes, TakesFlush, SawDoors, SawBatch, SawRow}

-- THE BEGINNING

-- nothing
abbrev pub no_store : Machine → StoreHalf
no_store m = record { rule = m.rule; rows = []; limbo = []; pins = m.pins; moves = m.moves; doubt = None; faults = 0; told = m.told }

-- the store of an archive that is opened or split: no change has a number yet
abbrev pub store_first : Machine → StoreHalf
store_first m = store_of 0 (no_store m) m

-- the intake's row of a row
abbrev pub first_row : ℕ → RowState → IntakeRow
first_row i row =
    record {
      row = i;
      name = row.name;
      about = row.about;
      state = row.state;
      base = row.base;
      changed = 0;
      next = row.next;
      tail = row.tail;
      cell = row.cell;
    }

abbrev pub first_rows : ℕ → List RowState → List IntakeRow
first_rows i [] = []
first_rows i (row ∷ rows) = first_row i row ∷ first_rows (i + 1) rows

-- and its intake: it knows every row
abbrev pub intake_first : Machine → IntakeHalf
intake_first m = record { rows = first_rows 0 m.rows; upto = 0; doors = m.doors }

-- a row of the intake, whatever change of it is known
abbrev pub unnumbered : IntakeRow → IntakeRow
unnumbered row = record row { changed = 0 }

-- The half is a state's intake, whatever changes of rows it knows.
pub record IsIntakeOf (m : Machine) (half : IntakeHalf) : Type 0 where
  pub rows : map unnumbered half.rows ≡ first_rows 0 m.rows
  pub doors : half.doors ≡ m.doors

-- The two halves of one sound state of the machine.
pub record BeginTogether (s0 : StoreHalf) (i0 : IntakeHalf) : Type 0 where
  pub state : Machine
  pub sound : IsSound state
  pub store : s0 ≡ store_first state
  pub intake : i0 ≡ intake_first state

-- WHAT ALLOWS A PART

-- a Look answered these doors
abbrev pub SawTheseDoors : ℕ → List IntakeEntry → Type 0
SawTheseDoors doors known = Has (λ e. (e.part ≡ LooksForDoors) × (e.answer ≡ SawDoors doors)) known

-- a store part carries what a Look answered
abbrev pub StoreAllowed : StorePart → List IntakeEntry → Type 0
StoreAllowed (Does act) known = Unit {0}
StoreAllowed (BeginsMove store now doors) known = SawTheseDoors doors known
StoreAllowed (Flushes batch upto left doors) known =
    (limit : ℕ) × Has (λ e. (e.part ≡ LooksForBatch limit) × (e.answer ≡ SawBatch doors batch left upto)) known
StoreAllowed (PinsAt query look) known = (doors : ℕ) × Has (λ e. (e.part ≡ LooksAt look.name) × (e.answer ≡ SawRow doors look)) known
StoreAllowed (DescribesAt look) known = (doors : ℕ) × Has (λ e. (e.part ≡ LooksAt look.name) × (e.answer ≡ SawRow doors look)) known
StoreAllowed (RenamesAt newname look) known = (doors : ℕ) × Has (λ e. (e.part ≡ LooksAt look.name) × (e.answer ≡ SawRow doors look)) known

-- it is so after some beginning of the history
abbrev pub Once : (StoreHalf → Type 0) → StoreHalf → List StoreEntry → Type 0
Once Is s0 s = (front : List StoreEntry) × IsPrefix front s × Is (left_by s0 front)

-- a row was so in a half
abbrev pub WasRegistered : RegisteredRow → StoreHalf → Type 0
WasRegistered r m = (row : StoreRow) × (slice_get m.rows r.row ≡ Some row) × (registered r.row row ≡ r)

-- each end and each row that is named is one of the store's history
pub record AreNamed (s0 : StoreHalf) (ends : ℕ → ℕ) (rows : List RegisteredRow) (known : List StoreEntry) : Type 0 where
  pub each_end : (i : ℕ) → (ends i ≡ 0) ⊎ Once (λ m. ends i ≡ end_of (durable_at m.rows i)) s0 known
  pub each_row : AllByRecursion (λ r. Once (WasRegistered r) s0 known) rows

-- the entry with which the store's history has this length is a flush that told these
pub record ToldBy (len : ℕ) (ends : ℕ → ℕ) (rows : List RegisteredRow) (known : List StoreEntry) : Type 0 where
  pub one : Has (λ e. (reply : _) × (e.answer ≡ Stored reply ends rows len)) known
  pub len_is : length one.front + 1 ≡ len

abbrev pub IntakeAllowed : StoreHalf → IntakePart → List StoreEntry → Type 0
IntakeAllowed s0 (Offers act) known = Unit {0}
IntakeAllowed s0 (Ticks row now) known = Unit {0}
IntakeAllowed s0 LooksForDoors known = Unit {0}
IntakeAllowed s0 (LooksForBatch limit) known = Unit {0}
IntakeAllowed s0 (LooksAt name) known = Unit {0}
IntakeAllowed s0 (Takes ends rows) known = AreNamed s0 ends rows known
IntakeAllowed s0 (TakesFlush len ends rows) known = ToldBy len ends rows known

-- CLOSED LEGAL PAIRS

abbrev pub StoreFits : StoreHalf → List StoreEntry → StoreEntry → List IntakeEntry → Type 0
StoreFits s0 front e known = StoreStep e.who (length front + 1) (left_by s0 front) e.part e.answer e.after × StoreAllowed e.part known

abbrev pub IntakeFits : StoreHalf → IntakeHalf → List IntakeEntry → IntakeEntry → List StoreEntry → Type 0
IntakeFits s0 i0 front e known = IntakeStep e.who (left_by i0 front) e.part e.answer e.after × IntakeAllowed s0 e.part known

abbrev pub store_knows : StoreEntry → ℕ
store_knows e = e.other

abbrev pub intake_knows : IntakeEntry → ℕ
intake_knows e = e.other

pub record IsPair (s0 : StoreHalf) (i0 : IntakeHalf) (s : List StoreEntry) (i : List IntakeEntry) : Type 0 where
  pub begins : BeginTogether s0 i0
  pub store : IsHalfLegal store_knows (StoreFits s0) s i
  pub intake : IsHalfLegal intake_knows (IntakeFits s0 i0) i s
  pub closed : IsClosed store_knows intake_knows s i

-- WHAT IS ACCEPTED

-- what is accepted as the archive is opened
abbrev pub first_accepted : StoreHalf → IntakeHalf → Lists
first_accepted s0 i0 i = durable_at s0.rows i ++ tail_at i0.rows i

-- what an offer or a tick adds to a row: what its tail has more
abbrev pub added : IntakePart → IntakeHalf → IntakeHalf → Lists
added (Offers act) old new i = drop (length (tail_at old.rows i)) (tail_at new.rows i)
added (Ticks row now) old new i = drop (length (tail_at old.rows i)) (tail_at new.rows i)
added LooksForDoors old new i = []
added (LooksForBatch limit) old new i = []
added (LooksAt name) old new i = []
added (Takes ends rows) old new i = []
added (TakesFlush len ends rows) old new i = []

-- what was accepted with a history that goes on from this half
abbrev pub accepted_by : Lists → IntakeHalf → List IntakeEntry → Lists
accepted_by lists m [] i = lists i
accepted_by lists m (e ∷ h) i = accepted_by (λ r. lists r ++ added e.part m e.after r) e.after h i
