-- The rows that the half keeps: each in the slot of its number, its tail in the intake under that number, and its number under its name.
use Rattle.std.specs.Prelude.{◌≡◌, ◌⊎◌, ◌≤◌, ◌<◌, ◌+◌, ◌^◌, true, false, ℕ, List, [], ◌∷◌, length, Option, Some, None, Vec, slice_get}
use Rattle.std.specs.declared.alloc.Global.{Global}
use Rattle.std.specs.HashMap.{get_by}
use Rattle.std.specs.Str.{bytes_eq}
use Rattle.act_model.specs.Offer.{offered}
use Rattle.act_model.specs.Rows.{is_running, number_of as number_of_type, period_of}
use Rattle.act_model.specs.Tick.{ticked}
use Rattle.act_model.specs.declared.acts.Answer.TheVariants as reply
use Rattle.act_model.specs.declared.answers.Offered.{Offered}
use Rattle.act_model.specs.declared.answers.Offered.TheVariants as offer
use Rattle.act_model.specs.declared.answers.Ticked.{Ticked}
use Rattle.act_model.specs.declared.answers.Ticked.TheVariants as answer
use Rattle.intake.specs.Row.{SampledRow}
use Rattle.intake.specs.Tails.{TailState, tail_at}
use Rattle.pb_wire.specs.declared.payload.PayloadType.{PayloadType}
use Rattle.series_model.specs.Admission.{refused_by_row}
use Rattle.series_model.specs.declared.admission.Reason.{Reason}
use Rattle.series_model.specs.declared.admission.Standing.{Standing}
use Rattle.series_model.specs.declared.sample.Sample.{Sample}
use Rattle.two_histories.specs.ArchiveIntake.{IntakeHalf, IntakeRow, machine_of, position}
use Rattle.intake_half.specs.Memory.{cell_in, period_in}
use Rattle.intake_half.specs.Trying.{IsOffered, IsTickedDue}
use Rattle.intake_half.specs.declared.known.KnownRow.{KnownRow}
use Rattle.intake_half.specs.declared.memory.RowMemory.{RowMemory}
use Rattle.intake_half.specs.declared.names.Names.{Names}

-- NAMES

-- the number that is told for a name
abbrev pub number_of : Names → List ℕ → Option ℕ
number_of names name = get_by (λ (k : Vec ℕ Global). bytes_eq name k.items) names.numbers

-- SLOTS

abbrev pub slot_in : Option (Option KnownRow) → Option KnownRow
slot_in None = None
slot_in (Some slot) = slot

-- what is kept of the row with this number
abbrev pub slot_at : List (Option KnownRow) → ℕ → Option KnownRow
slot_at slots i = slot_in (slice_get slots i)

-- the row with this number has this name
pub record HasName (slots : List (Option KnownRow)) (i : ℕ) (name : List ℕ) : Type 0 where
  pub row : KnownRow
  pub here : slot_at slots i ≡ Some row
  pub is : row.name ≡ name

-- the row that is kept so
abbrev pub seen : List TailState → ℕ → KnownRow → IntakeRow
seen tails i row =
    record {
      row = i;
      name = row.name;
      about = row.about;
      state = row.state;
      base = row.base;
      changed = row.changed;
      next = row.memory.next;
      tail = (tail_at tails i).samples;
      cell = cell_in row.memory.scan;
    }

-- the rows that are kept so, from a number on
abbrev pub seen_from : List TailState → ℕ → List (Option KnownRow) → List IntakeRow
seen_from tails i [] = []
seen_from tails i (None ∷ slots) = seen_from tails (i + 1) slots
seen_from tails i (Some row ∷ slots) = seen tails i row ∷ seen_from tails (i + 1) slots

-- A row is found by its name, is sampled as it was registered, and holds no sample of the last moment.
pub record IsKept (names : Names) (i : ℕ) (row : KnownRow) : Type 0 where
  pub named : number_of names row.name ≡ Some i
  pub period : period_in row.memory.scan ≡ period_of row.about.method
  pub held : (sampled : SampledRow) (s : Sample) → row.memory.scan ≡ Some sampled → sampled.cell.held ≡ Some s → s.t < 18446744073709551615

-- each row is so, and of no other number is anything held
pub record AreKept (slots : List (Option KnownRow)) (tails : List TailState) (names : Names) : Type 0 where
  pub each : (i : ℕ) (row : KnownRow) → slot_at slots i ≡ Some row → IsKept names i row
  pub others : (i : ℕ) → slot_at slots i ≡ None → (tail_at tails i).samples ≡ []
  pub few : length slots ≤ 2 ^ 32

-- AN OFFER OR A TICK OF A ROW

-- with this memory
abbrev pub with_memory : KnownRow → RowMemory → KnownRow
with_memory row memory = record row { memory = memory }

-- what admission looks at
abbrev pub standing_of : KnownRow → Standing
standing_of row = record { is_running = is_running row.state; ty = number_of_type row.about.ty; next = row.memory.next }

-- So an offer to a row ends, over these tails: by one of the first three reasons, or as it is tried.
abbrev pub OffersBy : Option Reason → List TailState → KnownRow → ℕ → Sample → ℕ → Offered → List TailState → KnownRow → Type 0
OffersBy (Some reason) old row i s now told new kept = (told ≡ offer.Dropped reason) × (new ≡ old) × (kept ≡ row)
OffersBy None old row i s now told new kept = (memory : RowMemory) × IsOffered old row.memory i s now told new memory × (kept ≡ with_memory row memory)

abbrev pub OffersTo : List TailState → KnownRow → ℕ → PayloadType → Sample → ℕ → Offered → List TailState → KnownRow → Type 0
OffersTo old row i ty s now told new kept = OffersBy (refused_by_row (Some (standing_of row)) (number_of_type ty)) old row i s now told new kept

-- So a tick of a row ends, over these tails.
pub record TicksTo (old : List TailState) (row : KnownRow) (i now : ℕ) (told : Ticked) (new : List TailState) (kept : KnownRow) : Type 0 where
  pub memory : RowMemory
  pub is : kept ≡ with_memory row memory
  pub none : (row.memory.scan ≡ None) ⊎ (is_running row.state ≡ false) → (told ≡ answer.TickNone) × (new ≡ old) × (memory ≡ row.memory)
  pub early : (sampled : SampledRow) → row.memory.scan ≡ Some sampled → is_running row.state ≡ true → now < sampled.cell.due → (told ≡ answer.NotDue sampled.cell.due) × (new ≡ old) × (memory ≡ row.memory)
  pub due : (sampled : SampledRow) → row.memory.scan ≡ Some sampled → is_running row.state ≡ true → sampled.cell.due ≤ now → IsTickedDue old row.memory sampled i now told new memory

-- WHAT MEMORY IS WANTED FOR

-- the sample would be kept
abbrev pub WouldKeep : List ℕ → PayloadType → Sample → ℕ → IntakeHalf → Type 0
WouldKeep name ty s now half = (offered (machine_of half) name ty s now).answer ≡ reply.Kept

-- the sample that the row with this number holds would be kept
pub record WouldTick (row now : ℕ) (half : IntakeHalf) : Type 0 where
  pub place : ℕ
  pub here : position row half.rows ≡ Some place
  pub t : ℕ
  pub keeps : (ticked (machine_of half) place now).answer ≡ reply.TickKept t
