-- What came of the text of a merge's answer: how far the merge went, and how much of the text an output was given.
use Rattle.std.specs.Prelude.{◌≡◌, ◌≢◌, ◌⊎◌, ℕ, Bool, IsTrue, List, length, None, Some, Result, Ok, Err}
use Rattle.disk_model.specs.Files.{Name}
use Rattle.pb_wire.specs.declared.payload.PayloadType.{PayloadType}
use Rattle.series_model.specs.declared.sample.Sample.{Sample}
use Rattle.series_model.specs.Series.{IsRising}
use Rattle.act_model.specs.Event.{AreEvents}
use Rattle.act_model.specs.Out.{Subject}
use Rattle.act_model.specs.declared.out.OutErr.{OutErr}
use Rattle.act_model.specs.declared.out.OutErr.TheVariants as out_err
use Rattle.stream_merge.specs.declared.pieces.Merged.{Merged}
use Rattle.stream_merge.specs.declared.pieces.Merged.TheVariants as merged
use Rattle.stream_merge.specs.Pieces.{NamedBytes, Failure, Faulted, OutOfActs, OutOfMemory}
use Rattle.stream_merge.specs.Reading.{IsDamaged}
use Rattle.stream_merge.specs.Reads.{AnswersRead}
use Rattle.series_model.specs.declared.sample.Query.{Query}
use Rattle.retrieval_query.specs.declared.retrieved.Retrieved.{Retrieved}
use Rattle.retrieval_query.specs.declared.retrieved.Retrieved.TheVariants.{Finished, NoSuchVariable, ReadFault, Damaged, SinkFault, Spent, Memory}

-- an output's error is told as the retrieval's
abbrev pub retrieved_by : {R : Type 0} → OutErr → Retrieved R
retrieved_by {R} out_err.SinkFault = SinkFault
retrieved_by {R} out_err.Memory = Memory

-- so is a merge's
abbrev pub IsToldAs : {R : Type 0} → Merged R → Retrieved R → Type 0
IsToldAs {R} (merged.Line t) r = ⊥
IsToldAs {R} merged.End r = ⊥
IsToldAs {R} (merged.ReadFault failed) r = r ≡ ReadFault failed
IsToldAs {R} (merged.Damaged name at) r = r ≡ Damaged name at
IsToldAs {R} merged.Spent r = r ≡ Spent
IsToldAs {R} merged.Memory r = r ≡ Memory

-- PIECES

-- some pieces were opened, with no failure
abbrev pub OpensSome : {P : Type 0} → (P → List NamedBytes → P → Type 0) → P → P → Type 0
OpensSome opened old new = (pieces : List NamedBytes) × opened old pieces new

-- some pieces were opened, one of which is damaged
pub record FindsDamage {P : Type 0} (tells : Bool) (opened : P → List NamedBytes → P → Type 0) (ty : PayloadType) (old : P) (name : Name) (at : ℕ) (new : P) : Type 0 where
  pub pieces : List NamedBytes
  pub were : opened old pieces new
  pub damaged : IsTrue tells → IsDamaged ty pieces name at

-- why the giving stopped
abbrev pub StopsBy : {P R : Type 0} → Bool → (R → ℕ) → (P → List NamedBytes → P → Type 0) → (P → Failure → P → Type 0) → PayloadType → P → Retrieved R → P → Type 0
StopsBy tells faults opened failed ty old (Finished count) new = ⊥
StopsBy tells faults opened failed ty old NoSuchVariable new = ⊥
StopsBy tells faults opened failed ty old (ReadFault None) new = failed old Faulted new
StopsBy tells faults opened failed ty old (ReadFault (Some r)) new = OpensSome opened old new × (faults r ≢ 0)
StopsBy tells faults opened failed ty old (Damaged name at) new = FindsDamage tells opened ty old name at new
StopsBy tells faults opened failed ty old SinkFault new = OpensSome opened old new
StopsBy tells faults opened failed ty old Spent new = failed old OutOfActs new
StopsBy tells faults opened failed ty old Memory new = OpensSome opened old new ⊎ failed old OutOfMemory new

-- what became of the pieces
abbrev pub GivesBy : {P R : Type 0} → Bool → (R → ℕ) → (P → List NamedBytes → P → Type 0) → (P → Failure → P → Type 0) → PayloadType → P → Result ℕ (Retrieved R) → P → Type 0
GivesBy tells faults opened failed ty old (Ok count) new = OpensSome opened old new
GivesBy tells faults opened failed ty old (Err stop) new = StopsBy tells faults opened failed ty old stop new

-- THE TEXT

-- an output was given these samples, or it was broken off
abbrev pub Gives : {O R : Type 0} → (O → Subject → List Sample → O → Type 0) → (O → Subject → List Sample → O → Type 0) → O → Subject → List Sample → Result ℕ (Retrieved R) → O → Type 0
Gives gave broke old subject xs (Ok count) new = gave old subject xs new × (count ≡ length xs)
Gives gave broke old subject xs (Err stop) new = broke old subject xs new

-- so it was with some events that rise
pub record GivesSome {O R : Type 0} (gave broke : O → Subject → List Sample → O → Type 0) (old : O) (subject : Subject) (result : Result ℕ (Retrieved R)) (new : O) : Type 0 where
  pub given : List Sample
  pub events : AreEvents subject.about.ty given
  pub rising : IsRising given
  pub gives : Gives gave broke old subject given result new

-- An output was given the answer over what was read of the pieces that were opened, and of the tail, and so many pieces are left: of each piece
-- all from where its reading began, with none left, or as much as there is up to a sample behind the interval.
pub record GivesRead {P O : Type 0} (opened : P → List NamedBytes → P → Type 0) (gave : O → Subject → List Sample → O → Type 0) (query : Query) (left : ℕ) (tail : List Sample) (old : O) (subject : Subject) (first : P) (count : ℕ) (last : P) (new : O) : Type 0 where
  pub pieces : List NamedBytes
  pub were : opened first pieces last
  pub given : List Sample
  pub events : AreEvents subject.about.ty given
  pub number : count ≡ length given
  pub answers : AnswersRead subject.about.ty query pieces left tail given
  pub has : gave old subject given new

-- so it is where the answer came to its end
abbrev pub GivesReadAt : {P O R : Type 0} → (P → List NamedBytes → P → Type 0) → (O → Subject → List Sample → O → Type 0) → Query → ℕ → List Sample → O → Subject → P → Result ℕ (Retrieved R) → P → O → Type 0
GivesReadAt opened gave query left tail old subject first (Ok count) last new = GivesRead opened gave query left tail old subject first count last new
GivesReadAt opened gave query left tail old subject first (Err stop) last new = Unit {0}
