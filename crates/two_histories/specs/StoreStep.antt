-- The store's parts of acts, and its steps. An act that carries no samples is the machine's. A flush, a pin, the details of a variable and
-- its new name carry what a Look of the intake answered, and are the machine's over that.
use Rattle.std.specs.Prelude.{◌≡◌, ℕ, ◌-◌, ◌&&◌, List, [], ◌∷◌, ◌++◌, length, Bool, true, false, Option, Some, None, if◌then◌else◌, nat_le, slice_get}
use Rattle.series_model.specs.declared.batch.RowSamples.{RowSamples}
use Rattle.series_model.specs.declared.sample.Query.{Query}
use Rattle.series_model.specs.declared.sample.Sample.{Sample}
use Rattle.pb_messages.specs.declared.about.State.{State}
use Rattle.series_model.specs.Series.{since, end_of}
use Rattle.act_model.specs.declared.acts.Act.{Act}
use Rattle.act_model.specs.declared.acts.Act.TheVariants.{Register, Pause, Resume, Rename, Offer, Tick, Flush, MoveBegin, MoveStep}
use Rattle.act_model.specs.declared.acts.Act.TheVariants.{Sweep, Pin, OpenPiece, Unpin, Names, Details, Doors, DoorDone}
use Rattle.act_model.specs.declared.acts.Answer.TheVariants.{Flushed, NoSuchVariable, RenameNotPaused, NotDurable, Renamed}
use Rattle.act_model.specs.Changes.{each, of_row}
use Rattle.act_model.specs.Details.{details_refused, Describes}
use Rattle.act_model.specs.Flush.{count_in}
use Rattle.act_model.specs.Machine.{Machine, Change, Renames, Appends, find_row}
use Rattle.act_model.specs.Outcome.{Acts, all_go, Makes}
use Rattle.act_model.specs.Pin.{MakesPin}
use Rattle.act_model.specs.Register.{register_refused}
use Rattle.act_model.specs.Rename.{last_durable, renames_of}
use Rattle.act_model.specs.Reply.{Reply}
use Rattle.act_model.specs.Rows.{RowState, accepted, durable, is_empty, is_paused}
use Rattle.act_model.specs.Step.{Step, MayAsk}
use Rattle.act_model.specs.Whole.{whole}
use Rattle.two_histories.specs.ArchiveIntake.{RowLook}
use Rattle.two_histories.specs.ArchiveStore.{StoreHalf, StoreRow, RegisteredRow, changed_at, machine_of, store_of, changed_since, with_ends}
use Rattle.two_histories.specs.Histories.{HalfEntry}

-- What is asked of the store. A flush carries the batch, the number, the bytes left out and the doors that a Look told, and a beginning
-- of a move its doors; a pin, details and a new name carry a Look at one row.
pub data StorePart : Type 0 where
  Does : (act : Act) → StorePart
  BeginsMove : (store now doors : ℕ) → StorePart
  Flushes : (batch : List RowSamples) → (upto left doors : ℕ) → StorePart
  PinsAt : (query : Query) → (look : RowLook) → StorePart
  DescribesAt : (look : RowLook) → StorePart
  RenamesAt : (newname : List ℕ) → (look : RowLook) → StorePart

-- A flush that is done also tells the end of each row, the rows whose change number is greater than the number that its Look told, and the
-- length of the store's history with this entry in it.
pub data StoreAnswer : Type 0 where
  Replies : (reply : Reply) → StoreAnswer
  Stored : (reply : Reply) → (ends : ℕ → ℕ) → (rows : List RegisteredRow) → (len : ℕ) → StoreAnswer

abbrev pub StoreEntry : Type 0
StoreEntry = HalfEntry StorePart StoreAnswer StoreHalf

-- the acts that carry nothing of the intake and touch no tail
abbrev pub IsOfStore : Act → Type 0
IsOfStore (Register name about) = Unit {0}
IsOfStore (Pause name) = Unit {0}
IsOfStore (Resume name) = Unit {0}
IsOfStore (Rename name newname) = ⊥
IsOfStore (Offer name ty t line now) = ⊥
IsOfStore (Tick row now) = ⊥
IsOfStore (Flush limit) = ⊥
IsOfStore (MoveBegin store now) = ⊥
IsOfStore (MoveStep n) = Unit {0}
IsOfStore Sweep = Unit {0}
IsOfStore (Pin name query) = ⊥
IsOfStore (OpenPiece pin i) = Unit {0}
IsOfStore (Unpin pin) = Unit {0}
IsOfStore (Names from most) = Unit {0}
IsOfStore (Details name) = ⊥
IsOfStore Doors = ⊥
IsOfStore DoorDone = ⊥

-- SAMPLES THAT AN ACT CARRIES

-- these samples as a part of a batch, which has no part without samples
abbrev pub part_with : ℕ → List Sample → List RowSamples
part_with row [] = []
part_with row (s ∷ samples) = record { row = row; samples = s ∷ samples } ∷ []

-- of a batch the samples that are later than each row's last
abbrev pub later_than : (ℕ → ℕ) → List RowSamples → List RowSamples
later_than ends [] = []
later_than ends (p ∷ batch) = part_with p.row (since (ends p.row) p.samples) ++ later_than ends batch

-- where each row's durable samples end
abbrev pub ends_in : List RowState → ℕ → ℕ
ends_in rows i = of (slice_get rows i)
  where
    of : Option RowState → ℕ
    of None = 0
    of (Some row) = end_of (durable row)

-- where rows end: as their samples tell, or where files aren't told as these numbers do
abbrev pub ends_by : Bool → (ℕ → ℕ) → List RowState → ℕ → ℕ
ends_by true kept rows = ends_in rows
ends_by false kept rows = kept

-- what a flush of a batch appends, where rows end so
abbrev pub appends_from : (List RowState → ℕ → ℕ) → List RowSamples → Machine → Change
appends_from ends batch m = Appends (later_than (ends m.rows) batch)

abbrev pub appends : List RowSamples → Machine → Change
appends batch m = appends_from ends_in batch m

-- the rows with a batch's samples as tails
abbrev pub tailed : List RowSamples → List RowState → List RowState
tailed batch rows = each (λ i row. record row { tail = of_row i batch }) 0 rows

-- the machine whose tails are the batch's samples that are later than each row's last
abbrev pub with_batch_from : (List RowState → ℕ → ℕ) → List RowSamples → Machine → Machine
with_batch_from ends batch m = record m { rows = with_ends (tailed (later_than (ends m.rows) batch) m.rows) }

abbrev pub with_batch : List RowSamples → Machine → Machine
with_batch batch m = with_batch_from ends_in batch m

-- these samples are appended, as the machine flushes tails, and their number is told
abbrev pub FlushesFrom : (List RowState → ℕ → ℕ) → List RowSamples → ℕ → ℕ → Machine → Reply → Machine → Type 0
FlushesFrom ends batch left doors mid reply new =
    ((samples : ℕ) × (mid.told ≡ true → samples ≡ count_in (later_than (ends mid.rows) batch)) × (reply ≡ Flushed samples left doors))
    × Makes (appends_from ends batch mid) (with_batch_from ends batch mid) new

abbrev pub FlushesBatch : List RowSamples → ℕ → ℕ → Machine → Reply → Machine → Type 0
FlushesBatch batch left doors = FlushesFrom ends_in batch left doors

-- The rows, where the row with this name has as its tail what is later of a Look's than its last, and no other has any.
abbrev pub tail_rows_from : (List RowState → ℕ → ℕ) → RowLook → Machine → List RowState
tail_rows_from ends look m = by_row (find_row m look.name)
  where
    by_row : Option ℕ → List RowState
    by_row None = m.rows
    by_row (Some i) = (with_batch_from ends (part_with i look.tail) m).rows

abbrev pub tail_of_from : (List RowState → ℕ → ℕ) → RowLook → Machine → Machine
tail_of_from ends look m = record m { rows = tail_rows_from ends look m }

abbrev pub tail_rows : RowLook → Machine → List RowState
tail_rows look m = tail_rows_from ends_in look m

abbrev pub tail_of : RowLook → Machine → Machine
tail_of look m = tail_of_from ends_in look m

-- a part over the row's tail, which it doesn't change
abbrev pub OverTailFrom : (List RowState → ℕ → ℕ) → RowLook → (Machine → Reply → Machine → Type 0) → Machine → Reply → Machine → Type 0
OverTailFrom ends look Runs mid reply new = (end : Machine) × Runs (tail_of_from ends look mid) reply end × (new ≡ record end { rows = mid.rows })

abbrev pub OverTail : RowLook → (Machine → Reply → Machine → Type 0) → Machine → Reply → Machine → Type 0
OverTail look = OverTailFrom ends_in look

-- A NEW NAME

-- the change number that a Look told, 0 where the intake didn't know the row
abbrev pub seen_by : RowLook → ℕ
seen_by look = of look.known
  where
    of : Option RegisteredRow → ℕ
    of None = 0
    of (Some r) = r.changed

-- the change number of the row with this number in this state, by an entry with which the history has the length n
abbrev pub number_by : ℕ → List StoreRow → ℕ → State → ℕ
number_by n rows i state = changed_at n (slice_get rows i) state

-- Why the variable gets no new name: as the machine refuses it, but also where its row has changed since the Look, and by the Look's tail:
-- the intake keeps no sample more of a row that it knows as paused, until it is told of a later change.
abbrev pub rename_refused_from : (List RowState → ℕ → ℕ) → (ℕ → State → ℕ) → Option ℕ → List ℕ → RowLook → Machine → Option Reply
rename_refused_from ends number found newname look m = by_name (find_row m look.name)
  where
    by_tail : ℕ → RowState → Option Reply
    by_tail i row =
        if is_empty (since (ends m.rows i) look.tail)
        then None
        else Some (NotDurable (end_of (whole accepted (tail_rows_from ends look m) i) - 1) (last_durable found m i))

    by_newname : ℕ → RowState → Option Reply → Option Reply
    by_newname i row (Some reply) = Some reply
    by_newname i row None = by_tail i row

    by_row : ℕ → Option RowState → Option Reply
    by_row i (Some row) =
        if is_paused row.state && nat_le (number i row.state) (seen_by look)
        then by_newname i row (register_refused newname m)
        else Some (RenameNotPaused row.state (number i row.state) (seen_by look))
    by_row i None = Some NoSuchVariable

    by_name : Option ℕ → Option Reply
    by_name (Some i) = by_row i (slice_get m.rows i)
    by_name None = Some NoSuchVariable

abbrev pub rename_refused_at : (ℕ → State → ℕ) → Option ℕ → List ℕ → RowLook → Machine → Option Reply
rename_refused_at number = rename_refused_from ends_in number

-- The variable has its new row, which is told by its number, as the machine makes it where no row has a tail: the samples of a doubt that was
-- settled as not made are in no row's tail here, but in the intake.
abbrev pub HasNewName : List ℕ → RowLook → Machine → Reply → Machine → Type 0
HasNewName newname look mid reply new =
    (reply ≡ Renamed (length mid.rows)) × ((i : ℕ) × (find_row mid look.name ≡ Some i) × Makes (Renames i newname) (with_batch [] mid) new)

-- as the machine's Rename, with these refusals
abbrev pub RenamesFrom : (List RowState → ℕ → ℕ) → (ℕ → State → ℕ) → List ℕ → RowLook → Machine → Reply → Machine → Type 0
RenamesFrom ends number newname look old reply new =
    (found : Option ℕ)
    × Acts (rename_refused_from ends number found newname look) (HasNewName newname look) (λ m. renames_of newname (find_row m look.name)) all_go old reply new

-- STEPS

-- How a part leads from one machine to another, asked under this number, where rows end so and a row in a state has this change number.
abbrev pub PartRunsFrom : (List RowState → ℕ → ℕ) → ℕ → (ℕ → State → ℕ) → StorePart → Machine → Reply → Machine → Type 0
PartRunsFrom ends who number (Does act) = Step who act
PartRunsFrom ends who number (BeginsMove store now doors) = Step who (MoveBegin store now)
PartRunsFrom ends who number (Flushes batch upto left doors) = Acts (λ m. None) (FlushesFrom ends batch left doors) (λ m. Some (appends_from ends batch m)) all_go
PartRunsFrom ends who number (PinsAt query look) = Acts (details_refused look.name) (OverTailFrom ends look (MakesPin who look.name query)) (λ m. None) all_go
PartRunsFrom ends who number (DescribesAt look) = Acts (details_refused look.name) (OverTailFrom ends look (Describes look.name)) (λ m. None) all_go
PartRunsFrom ends who number (RenamesAt newname look) = RenamesFrom ends number newname look

-- where rows end as their samples tell
abbrev pub PartRuns : ℕ → (ℕ → State → ℕ) → StorePart → Machine → Reply → Machine → Type 0
PartRuns who number part = PartRunsFrom ends_in who number part

-- the open doors that a part tells
abbrev pub doors_of : StorePart → ℕ
doors_of (Does act) = 0
doors_of (BeginsMove store now doors) = doors
doors_of (Flushes batch upto left doors) = doors
doors_of (PinsAt query look) = 0
doors_of (DescribesAt look) = 0
doors_of (RenamesAt newname look) = 0

-- what may be asked of the store
abbrev pub MayAskStore : StorePart → Type 0
MayAskStore (Does act) = IsOfStore act × MayAsk act
MayAskStore (BeginsMove store now doors) = MayAsk (MoveBegin store now)
MayAskStore (Flushes batch upto left doors) = Unit {0}
MayAskStore (PinsAt query look) = Unit {0}
MayAskStore (DescribesAt look) = Unit {0}
MayAskStore (RenamesAt newname look) = Unit {0}

-- the answer with which the history has the length n, rows end so and the half is so
abbrev pub answer_of : StorePart → ℕ → (ℕ → ℕ) → StoreHalf → Reply → StoreAnswer
answer_of (Flushes batch upto left doors) n ends new (Flushed samples bytes doors_left) = Stored (Flushed samples bytes doors_left) ends (changed_since upto 0 new.rows) n
answer_of part n ends new reply = Replies reply

-- A step of the store, with which its history has the length n. Where files aren't told, it goes by ends of its own: `cut` is what a batch is cut
-- by, and `ends` what is told.
pub record StoreStep (who n : ℕ) (old : StoreHalf) (part : StorePart) (answer : StoreAnswer) (new : StoreHalf) : Type 0 where
  pub asked : MayAskStore part
  pub reply : Reply
  pub after : Machine
  pub cut : ℕ → ℕ
  pub ends : ℕ → ℕ
  pub runs : PartRunsFrom (ends_by old.told cut) who (number_by n old.rows) part (machine_of (doors_of part) old) reply after
  pub left : new ≡ store_of n old after
  pub answered : answer ≡ answer_of part n (ends_by old.told ends after.rows) new reply
