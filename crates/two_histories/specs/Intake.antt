-- The intake half. What is held, dues and doors don't stand here: they change no list.
use Rattle.std.specs.Prelude.{◌≡◌, ◌⊎◌, ℕ, ◌≤◌, List, [], ◌∷◌, ◌++◌, max, Option, Some, None, ◌==◌, nat_lt, if◌then◌else◌}
use Rattle.series_model.specs.declared.sample.Sample.{Sample}
use Rattle.series_model.specs.Series.{end_of, since}
use Rattle.two_histories.specs.Histories.{HalfEntry}
use Rattle.two_histories.specs.Store.{Lists, Numbers}

-- what is accepted of each row, the tail that is left of it, the change numbers known, and the greatest store length that a flush told
pub record IntakeHalf : Type 0 where
  pub accepted : Lists
  pub tail : Lists
  pub known : Numbers
  pub upto : ℕ

-- Offer is an offer or a tick that may keep a sample. A Take names ends and rows, and that of a Flush its length too.
pub data IntakePart : Type 0 where
  Offer : (row : ℕ) → (sample : Sample) → IntakePart
  Look : IntakePart
  LookAt : (row : ℕ) → IntakePart
  Take : (ends : ℕ → ℕ) → (rows : Numbers) → IntakePart
  TakeFlush : (len : ℕ) → (ends : ℕ → ℕ) → (rows : Numbers) → IntakePart

pub data IntakeAnswer : Type 0 where
  Kept : IntakeAnswer
  Looked : (batch : Lists) → (left : ℕ) → (upto : ℕ) → IntakeAnswer
  LookedAt : (tail : List Sample) → (number : Option ℕ) → IntakeAnswer
  Taken : IntakeAnswer
  Refused : IntakeAnswer

abbrev pub IntakeEntry : Type 0
IntakeEntry = HalfEntry IntakePart IntakeAnswer IntakeHalf

-- the row's list has the sample at its end
abbrev pub with_more : ℕ → Sample → Lists → Lists
with_more row s lists r = if r == row then lists r ++ s ∷ [] else lists r

-- the greater number
abbrev pub later : Option ℕ → Option ℕ → Option ℕ
later None known = known
later (Some n) None = Some n
later (Some n) (Some k) = if nat_lt k n then Some n else Some k

-- what is durable leaves the tails, and rows are known as they are named
abbrev pub taken : (ℕ → ℕ) → Numbers → IntakeHalf → IntakeHalf
taken ends rows m = record m { tail = λ r. since (ends r) (m.tail r); known = λ r. later (rows r) (m.known r) }

-- one step
pub data IntakeStep : IntakeHalf → IntakePart → IntakeAnswer → IntakeHalf → Type 0 where
  refuses : {old : IntakeHalf} {part : IntakePart} → IntakeStep old part Refused old
  keeps : {old : IntakeHalf} (row number : ℕ) (s : Sample) → old.known row ≡ Some number → end_of (old.accepted row) ≤ s.t
      → IntakeStep old (Offer row s) Kept (record old { accepted = with_more row s old.accepted; tail = with_more row s old.tail })
  looks : {old : IntakeHalf} (batch : Lists) (left : ℕ) → ((r : ℕ) → (batch r ≡ old.tail r) ⊎ (batch r ≡ [])) → (left ≡ 0 → (r : ℕ) → batch r ≡ old.tail r)
      → IntakeStep old Look (Looked batch left old.upto) old
  looks_at : {old : IntakeHalf} (row : ℕ) → IntakeStep old (LookAt row) (LookedAt (old.tail row) (old.known row)) old
  takes : {old : IntakeHalf} (ends : ℕ → ℕ) (rows : Numbers) → IntakeStep old (Take ends rows) Taken (taken ends rows old)
  takes_flush : {old : IntakeHalf} (len : ℕ) (ends : ℕ → ℕ) (rows : Numbers)
      → IntakeStep old (TakeFlush len ends rows) Taken (record (taken ends rows old) { upto = max old.upto len })
