-- What holds of every closed legal pair.
use Rattle.std.specs.Prelude.{◌≡◌, ◌⊎◌, ℕ, ◌≤◌, ◌<◌, List, [], ◌∷◌, ◌++◌, length, take, Contains, Option, Some, None}
use Rattle.series_model.specs.declared.sample.Sample.{Sample}
use Rattle.series_model.specs.Series.{over, end_of, since}
use Rattle.series_model.specs.Archive.{IsPrefix}
use Rattle.two_histories.specs.Histories.{left_by}
use Rattle.two_histories.specs.Store.{Lists, Numbers, StoreHalf, StoreEntry, Flushed, Pin, Pinned, Flush}
use Rattle.two_histories.specs.Intake.{IntakeHalf, IntakeEntry, Looked, LookedAt, LookAt, Offer, Kept}
use Rattle.two_histories.specs.TwoHistories.{BeginTogether, IsPair, Once}

-- the list ends with this one
abbrev pub IsSuffix : {A : Type 0} → List A → List A → Type 0
IsSuffix {A} end xs = (front : List A) × (xs ≡ front ++ end)

-- every flushed sample was accepted, and everything trimmed is durable
pub record AreOne (durable accepted tail : List Sample) : Type 0 where
  pub flushed : IsPrefix durable accepted
  pub suffix : IsSuffix tail accepted
  pub later : (s : Sample) → Contains accepted s → end_of durable ≤ s.t → Contains tail s
  pub joined : over durable tail ≡ accepted

abbrev pub NothingIsLost : Type 0
NothingIsLost = (s0 : StoreHalf) (i0 : IntakeHalf) (s : List StoreEntry) (i : List IntakeEntry) → IsPair s0 i0 s i
    → (r : ℕ) → AreOne ((left_by s0 s).durable r) ((left_by i0 i).accepted r) ((left_by i0 i).tail r)

-- after a flush of all that a Look found, what is durable begins with what was accepted at the Look
abbrev pub ReportedIsDurable : Type 0
ReportedIsDurable = (s0 : StoreHalf) (i0 : IntakeHalf) (s : List StoreEntry) (i : List IntakeEntry) → IsPair s0 i0 s i
    → (front back : List StoreEntry) (e : StoreEntry) → s ≡ front ++ e ∷ back
    → (ahead behind : List IntakeEntry) (look : IntakeEntry) → i ≡ ahead ++ look ∷ behind → length ahead < e.other
    → (batch : Lists) (upto : ℕ) → look.answer ≡ Looked batch 0 upto → e.part ≡ Flush batch upto
    → (ends : ℕ → ℕ) (rows : Numbers) (len : ℕ) → e.answer ≡ Flushed ends rows len
    → (r : ℕ) → IsPrefix ((left_by i0 ahead).accepted r) (e.after.durable r)

-- a sample that was kept before the Look is durable after the flush, and stays so
abbrev pub KeptIsDurable : Type 0
KeptIsDurable = (s0 : StoreHalf) (i0 : IntakeHalf) (s : List StoreEntry) (i : List IntakeEntry) → IsPair s0 i0 s i
    → (front back : List StoreEntry) (e : StoreEntry) → s ≡ front ++ e ∷ back
    → (ahead behind : List IntakeEntry) (look : IntakeEntry) → i ≡ ahead ++ look ∷ behind → length ahead < e.other
    → (batch : Lists) (upto : ℕ) → look.answer ≡ Looked batch 0 upto → e.part ≡ Flush batch upto
    → (ends : ℕ → ℕ) (rows : Numbers) (len : ℕ) → e.answer ≡ Flushed ends rows len
    → (early late : List IntakeEntry) (kept : IntakeEntry) (row : ℕ) (sample : Sample) → ahead ≡ early ++ kept ∷ late
    → kept.part ≡ Offer row sample → kept.answer ≡ Kept
    → Contains (e.after.durable row) sample × Contains ((left_by s0 s).durable row) sample

-- what a pin shows is what was durable at it or accepted at its Look, whichever is longer, and it is a prefix of what is accepted
pub record IsSuchPrefix (shown durable looked accepted : List Sample) : Type 0 where
  pub durable_in : IsPrefix durable shown
  pub looked_in : IsPrefix looked shown
  pub longer : (shown ≡ durable) ⊎ (shown ≡ looked)
  pub shown_in : IsPrefix shown accepted

abbrev pub PinShowsPrefix : Type 0
PinShowsPrefix = (s0 : StoreHalf) (i0 : IntakeHalf) (s : List StoreEntry) (i : List IntakeEntry) → IsPair s0 i0 s i
    → (front back : List StoreEntry) (e : StoreEntry) → s ≡ front ++ e ∷ back
    → (ahead behind : List IntakeEntry) (look : IntakeEntry) → i ≡ ahead ++ look ∷ behind → length ahead < e.other
    → (row : ℕ) (tail : List Sample) (number : Option ℕ) → look.part ≡ LookAt row → look.answer ≡ LookedAt tail number → e.part ≡ Pin row tail
    → (shown : List Sample) → e.answer ≡ Pinned shown
    → IsSuchPrefix shown (e.after.durable row) ((left_by i0 ahead).accepted row) ((left_by i0 i).accepted row)

-- What the intake knows of rows: each number was so once in the store history. Of each row as it was when that history had the length
-- `upto`, it knows no smaller number. A row that it doesn't know has no samples.
pub record KnowsRows (s0 : StoreHalf) (s : List StoreEntry) (m : IntakeHalf) (durable : Lists) : Type 0 where
  pub once : (r n : ℕ) → m.known r ≡ Some n → Once (λ x. x.changed r ≡ Some n) s0 s
  pub upto_in : m.upto ≤ length s
  pub up_to : (r n : ℕ) → (left_by s0 (take m.upto s)).changed r ≡ Some n → (k : ℕ) × (m.known r ≡ Some k) × (n ≤ k)
  pub empty : (r : ℕ) → m.known r ≡ None → (m.accepted r ≡ []) × (durable r ≡ [])

abbrev pub RowsAreKnown : Type 0
RowsAreKnown = (s0 : StoreHalf) (i0 : IntakeHalf) (s : List StoreEntry) (i : List IntakeEntry) → IsPair s0 i0 s i
    → KnowsRows s0 s (left_by i0 i) (left_by s0 s).durable

-- numbers as of an opened archive
abbrev pub at_zero : Option ℕ → Option ℕ
at_zero None = None
at_zero (Some n) = Some 0

-- the halves of the one archive that a pair leaves: tails keep what is later than all that is durable, and all rows are known
abbrev pub store_again : StoreHalf → StoreHalf
store_again m = record m { changed = λ r. at_zero (m.changed r) }

abbrev pub intake_again : StoreHalf → IntakeHalf → IntakeHalf
intake_again m x = record { accepted = x.accepted; tail = λ r. since (end_of (m.durable r)) (x.tail r); known = λ r. at_zero (m.changed r); upto = 0 }

-- what a pair leaves may be joined, and split again
abbrev pub MayBeginAgain : Type 0
MayBeginAgain = (s0 : StoreHalf) (i0 : IntakeHalf) (s : List StoreEntry) (i : List IntakeEntry) → IsPair s0 i0 s i
    → BeginTogether (store_again (left_by s0 s)) (intake_again (left_by s0 s) (left_by i0 i))
