-- What holds of every closed legal pair of an archive whose disk tells its files.
use Rattle.std.specs.Prelude.{◌≡◌, ℕ, ◌<◌, true, List, [], ◌∷◌, ◌++◌, length, take, Contains, Option, Some, None, slice_get}
use Rattle.pb_wire.specs.declared.payload.PayloadType.{PayloadType}
use Rattle.series_model.specs.declared.batch.RowSamples.{RowSamples}
use Rattle.series_model.specs.declared.sample.Sample.{Sample}
use Rattle.series_model.specs.Archive.{IsPrefix}
use Rattle.act_model.specs.Machine.{Machine}
use Rattle.act_model.specs.Reply.{Reply}
use Rattle.act_model.specs.Sound.{IsSound}
use Rattle.act_model.specs.Step.{Step}
use Rattle.act_model.specs.declared.acts.Act.{Act}
use Rattle.act_model.specs.declared.acts.Act.TheVariants.{Offer, Tick}
use Rattle.act_model.specs.declared.acts.Answer.TheVariants.{Kept}
use Rattle.two_histories.specs.Histories.{left_by}
use Rattle.two_histories.specs.Laws.{AreOne}
use Rattle.two_histories.specs.ArchiveStore.{StoreHalf, StoreRow, RegisteredRow, durable_at, machine_of}
use Rattle.two_histories.specs.ArchiveIntake.{IntakeHalf, IntakeRow, NamesAgree, known_at, tail_at}
use Rattle.two_histories.specs.StoreStep.{StoreEntry, Flushes, Stored}
use Rattle.two_histories.specs.IntakeStep.{IntakeEntry, IntakePart, IntakeStep, Offers, Ticks, LooksForDoors, LooksForBatch, LooksAt, Takes}
use Rattle.two_histories.specs.IntakeStep.{TakesFlush, Replies, SawBatch, told_rows}
use Rattle.two_histories.specs.ArchiveHistories.{IntakeAllowed, IsIntakeOf, IsPair, store_first, first_accepted, accepted_by}

-- the machine's act that a part of the intake is
abbrev pub act_of : IntakePart → Option Act
act_of (Offers act) = Some act
act_of (Ticks row now) = Some (Tick row now)
act_of LooksForDoors = None
act_of (LooksForBatch limit) = None
act_of (LooksAt name) = None
act_of (Takes ends rows) = None
act_of (TakesFlush len ends rows) = None

-- The act is a step of the machine that leads to a state of this intake, and of the same store.
pub record StepsTo (who : ℕ) (act : Act) (m : Machine) (reply : Reply) (new : IntakeHalf) : Type 0 where
  pub after : Machine
  pub step : Step who act m reply after
  pub intake : IsIntakeOf after new
  pub store : store_first after ≡ store_first m

-- an act on the intake of a state is the machine's
abbrev pub IntakeActsAlone : Type 0
IntakeActsAlone = (who : ℕ) (m : Machine) (old new : IntakeHalf) (part : IntakePart) (act : Act) (reply : Reply) → IsIntakeOf m old → act_of part ≡ Some act
    → IntakeStep who old part (Replies reply) new → StepsTo who act m reply new

-- the store is a sound machine wherever its history stops, with the samples in doubt as its tails
abbrev pub StoreStaysSound : Type 0
StoreStaysSound = (s0 : StoreHalf) (i0 : IntakeHalf) (s : List StoreEntry) (i : List IntakeEntry) → IsPair s0 i0 s i → s0.told ≡ true
    → IsSound (machine_of 0 (left_by s0 s))

-- every flushed sample was accepted, and everything trimmed is durable
abbrev pub NothingIsLost : Type 0
NothingIsLost = (s0 : StoreHalf) (i0 : IntakeHalf) (s : List StoreEntry) (i : List IntakeEntry) → IsPair s0 i0 s i → s0.told ≡ true
    → (r : ℕ) → AreOne (durable_at (left_by s0 s).rows r) (accepted_by (first_accepted s0 i0) i0 i r) (tail_at (left_by i0 i).rows r)

-- a sample that is offered and kept is accepted of the row of its name
abbrev pub KeptIsAccepted : Type 0
KeptIsAccepted = (s0 : StoreHalf) (i0 : IntakeHalf) (s : List StoreEntry) (i : List IntakeEntry) → IsPair s0 i0 s i → s0.told ≡ true
    → (ahead behind : List IntakeEntry) (e : IntakeEntry) → i ≡ ahead ++ e ∷ behind
    → (name : List ℕ) (ty : PayloadType) (x : Sample) (now : ℕ) → e.part ≡ Offers (Offer name ty x.t x.line now) → e.answer ≡ Replies Kept
    → (r : ℕ) × (row : IntakeRow) × (known_at (left_by i0 ahead).rows r ≡ Some row) × (row.name ≡ name)
    × (accepted_by (first_accepted s0 i0) i0 (ahead ++ e ∷ []) r ≡ accepted_by (first_accepted s0 i0) i0 ahead r ++ x ∷ [])

-- no two rows have one name, of those that the intake knows and those that a part tells it which the store's history so far allows
abbrev pub NamesStayApart : Type 0
NamesStayApart = (s0 : StoreHalf) (i0 : IntakeHalf) (s : List StoreEntry) (i : List IntakeEntry) → IsPair s0 i0 s i → s0.told ≡ true
    → (part : IntakePart) (n : ℕ) → IntakeAllowed s0 part (take n s) → NamesAgree (left_by i0 i).rows (told_rows part)

-- all that was accepted of a row that is a base is durable: its variable goes on under another name
abbrev pub BasesAreDurable : Type 0
BasesAreDurable = (s0 : StoreHalf) (i0 : IntakeHalf) (s : List StoreEntry) (i : List IntakeEntry) → IsPair s0 i0 s i → s0.told ≡ true
    → (k : ℕ) (row : StoreRow) (b : ℕ) → slice_get (left_by s0 s).rows k ≡ Some row → row.base ≡ Some b
    → accepted_by (first_accepted s0 i0) i0 i b ≡ durable_at (left_by s0 s).rows b

-- A flush that is done of all that a Look found, behind these entries of the intake.
pub record FlushesAll (s : List StoreEntry) (i : List IntakeEntry) (ahead : List IntakeEntry) (e : StoreEntry) : Type 0 where
  pub front : List StoreEntry
  pub back : List StoreEntry
  pub is : s ≡ front ++ e ∷ back
  pub look : IntakeEntry
  pub behind : List IntakeEntry
  pub looks : i ≡ ahead ++ look ∷ behind
  pub known : length ahead < e.other
  pub doors : ℕ
  pub upto : ℕ
  pub batch : List RowSamples
  pub saw : look.answer ≡ SawBatch doors batch 0 upto
  pub part : e.part ≡ Flushes batch upto 0 doors
  pub reply : Reply
  pub ends : ℕ → ℕ
  pub rows : List RegisteredRow
  pub len : ℕ
  pub done : e.answer ≡ Stored reply ends rows len

-- behind it, what is durable begins with what was accepted at the Look
abbrev pub ReportedIsDurable : Type 0
ReportedIsDurable = (s0 : StoreHalf) (i0 : IntakeHalf) (s : List StoreEntry) (i : List IntakeEntry) → IsPair s0 i0 s i → s0.told ≡ true
    → (ahead : List IntakeEntry) (e : StoreEntry) → FlushesAll s i ahead e
    → (r : ℕ) → IsPrefix (accepted_by (first_accepted s0 i0) i0 ahead r) (durable_at e.after.rows r)

-- so a sample that was kept before the Look is durable from then on, in the row of its name
abbrev pub KeptIsDurable : Type 0
KeptIsDurable = (s0 : StoreHalf) (i0 : IntakeHalf) (s : List StoreEntry) (i : List IntakeEntry) → IsPair s0 i0 s i → s0.told ≡ true
    → (ahead : List IntakeEntry) (e : StoreEntry) → FlushesAll s i ahead e → (early late : List IntakeEntry) (kept : IntakeEntry) → ahead ≡ early ++ kept ∷ late
    → (name : List ℕ) (ty : PayloadType) (x : Sample) (now : ℕ) → kept.part ≡ Offers (Offer name ty x.t x.line now) → kept.answer ≡ Replies Kept
    → (r : ℕ) × (row : IntakeRow) × (known_at (left_by i0 early).rows r ≡ Some row) × (row.name ≡ name)
    × Contains (durable_at e.after.rows r) x × Contains (durable_at (left_by s0 s).rows r) x
