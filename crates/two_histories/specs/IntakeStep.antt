-- The intake's parts of acts, and its steps. An offer, a tick and what is asked of doors are the machine's. A Look changes nothing, and a
-- Take lets go what is durable and takes over rows.
use Rattle.std.specs.Prelude.{◌≡◌, ℕ, ◌-◌, ◌≤◌, List, [], max, Some, None}
use Rattle.series_model.specs.declared.batch.RowSamples.{RowSamples}
use Rattle.act_model.specs.declared.acts.Act.TheVariants.{Offer, Tick, Doors, DoorDone}
use Rattle.act_model.specs.declared.acts.Act.{Act}
use Rattle.act_model.specs.declared.acts.Answer.TheVariants.{NoRow, Memory}
use Rattle.act_model.specs.Machine.{Machine, held_bytes}
use Rattle.act_model.specs.Reply.{Reply}
use Rattle.act_model.specs.Step.{Step, MayAsk}
use Rattle.two_histories.specs.ArchiveIntake.{IntakeHalf, RowLook, machine_of, position, intake_of, batch_of, bytes_in, known_as, look_at, taken}
use Rattle.two_histories.specs.ArchiveStore.{RegisteredRow}
use Rattle.two_histories.specs.Histories.{HalfEntry}

-- Offers carries an Offer, Doors or DoorDone of the machine. A Look asks for the doors, for a batch too, or for one row. A Take names
-- where rows end and rows that changed, and that of a flush its length too.
pub data IntakePart : Type 0 where
  Offers : (act : Act) → IntakePart
  Ticks : (row now : ℕ) → IntakePart
  LooksForDoors : IntakePart
  LooksForBatch : (limit : ℕ) → IntakePart
  LooksAt : (name : List ℕ) → IntakePart
  Takes : (ends : ℕ → ℕ) → (rows : List RegisteredRow) → IntakePart
  TakesFlush : (len : ℕ) → (ends : ℕ → ℕ) → (rows : List RegisteredRow) → IntakePart

pub data IntakeAnswer : Type 0 where
  Replies : (reply : Reply) → IntakeAnswer
  SawDoors : (doors : ℕ) → IntakeAnswer
  SawBatch : (doors : ℕ) → (batch : List RowSamples) → (left upto : ℕ) → IntakeAnswer
  SawRow : (doors : ℕ) → (look : RowLook) → IntakeAnswer
  Took : IntakeAnswer

-- the rows that a part tells
abbrev pub told_rows : IntakePart → List RegisteredRow
told_rows (Offers act) = []
told_rows (Ticks row now) = []
told_rows LooksForDoors = []
told_rows (LooksForBatch limit) = []
told_rows (LooksAt name) = []
told_rows (Takes ends rows) = rows
told_rows (TakesFlush len ends rows) = rows

abbrev pub IntakeEntry : Type 0
IntakeEntry = HalfEntry IntakePart IntakeAnswer IntakeHalf

-- the machine's acts on the intake, but ticks
abbrev pub IsOfIntake : Act → Type 0
IsOfIntake (Offer name ty t line now) = Unit {0}
IsOfIntake Doors = Unit {0}
IsOfIntake DoorDone = Unit {0}
IsOfIntake act = ⊥

-- the parts that take memory of their own
abbrev pub TakesMemory : IntakePart → Type 0
TakesMemory (Offers act) = ⊥
TakesMemory (Ticks row now) = ⊥
TakesMemory LooksForDoors = ⊥
TakesMemory (LooksForBatch limit) = Unit {0}
TakesMemory (LooksAt name) = Unit {0}
TakesMemory (Takes ends rows) = Unit {0}
TakesMemory (TakesFlush len ends rows) = Unit {0}

-- One step, asked under this number. A tick is of the row with the number, wherever that stands.
pub data IntakeStep (who : ℕ) : IntakeHalf → IntakePart → IntakeAnswer → IntakeHalf → Type 0 where
  offers : {old : IntakeHalf} (after : Machine) (act : Act) (reply : Reply) → IsOfIntake act → MayAsk act → Step who act (machine_of old) reply after
      → IntakeStep who old (Offers act) (Replies reply) (intake_of old after)
  ticks : {old : IntakeHalf} (after : Machine) (row now i : ℕ) (reply : Reply) → position row old.rows ≡ Some i
      → Step who (Tick i now) (machine_of old) reply after → IntakeStep who old (Ticks row now) (Replies reply) (intake_of old after)
  no_row : {old : IntakeHalf} (row now : ℕ) → position row old.rows ≡ None → IntakeStep who old (Ticks row now) (Replies NoRow) old
  sees_doors : {old : IntakeHalf} → IntakeStep who old LooksForDoors (SawDoors old.doors) old
  sees_batch : {old : IntakeHalf} (limit : ℕ) → 1 ≤ limit
      → IntakeStep who old (LooksForBatch limit)
      (SawBatch old.doors (batch_of limit old) (held_bytes (machine_of old).rows - bytes_in (batch_of limit old)) old.upto) old
  sees_row : {old : IntakeHalf} (name : List ℕ) → IntakeStep who old (LooksAt name) (SawRow old.doors (look_at name (known_as old.rows name))) old
  takes : {old : IntakeHalf} (ends : ℕ → ℕ) (rows : List RegisteredRow) → IntakeStep who old (Takes ends rows) Took (taken ends rows old)
  takes_flush : {old : IntakeHalf} (len : ℕ) (ends : ℕ → ℕ) (rows : List RegisteredRow)
      → IntakeStep who old (TakesFlush len ends rows) Took (record (taken ends rows old) { upto = max old.upto len })
  lacks_memory : {old : IntakeHalf} (part : IntakePart) → TakesMemory part → IntakeStep who old part (Replies Memory) old
