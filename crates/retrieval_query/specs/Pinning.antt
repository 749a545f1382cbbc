-- A variable is pinned by one act. What comes of the pin: its pieces are read, it is given up, and the answer is written.
use Rattle.std.specs.Prelude.{◌≡◌, ◌⊎◌, ℕ, Bool, IsTrue, List, [], None}
use Rattle.series_model.specs.declared.sample.Query.{Query}
use Rattle.series_model.specs.declared.sample.Sample.{Sample}
use Rattle.series_model.specs.Series.{IsRising}
use Rattle.series_model.specs.Retrieval.{answer}
use Rattle.act_model.specs.declared.acts.Act.TheVariants.{Pin}
use Rattle.act_model.specs.declared.acts.Answer.TheVariants as answer
use Rattle.act_model.specs.Event.{AreEvents}
use Rattle.act_model.specs.History.{Entry, Done, Made, MadeOne}
use Rattle.act_model.specs.Machine.{Machine}
use Rattle.act_model.specs.Out.{Subject}
use Rattle.stream_merge.specs.Pieces.{NamedBytes}
use Rattle.stream_merge.specs.Reading.{AreSamplesOf, AreReadAs}
use Rattle.stream_merge.specs.Over.{over_all}
use Rattle.retrieval_query.specs.declared.variable.PinVariableErr.{PinVariableErr}
use Rattle.retrieval_query.specs.declared.variable.PinVariableErr.TheVariants as pin_err
use Rattle.retrieval_query.specs.declared.variable.PinnedVariable.{PinnedVariable}
use Rattle.retrieval_query.specs.declared.retrieved.Retrieved.{Retrieved}
use Rattle.retrieval_query.specs.declared.retrieved.Retrieved.TheVariants.{NoSuchVariable, ReadFault, Spent, Memory}
use Rattle.retrieval_query.specs.Openings.{Holds, LeftOf}
use Rattle.retrieval_query.specs.Retrieving.{ReadsPinned, Writes, WritesSome, given_up}

-- why no pin was made, by just which act
abbrev pub FailsToPin : {A : Type 0} → (A → ℕ) → (A → List Entry → A → Type 0) → (A → Type 0) → A → List ℕ → Query → PinVariableErr → A → Type 0
FailsToPin number between is_spent old name query pin_err.NoSuchVariable new = MadeOne number between old (Pin name query) answer.NoSuchVariable new
FailsToPin number between is_spent old name query pin_err.DiskFault new = MadeOne number between old (Pin name query) answer.DiskFault new
FailsToPin number between is_spent old name query pin_err.Spent new = Made number between old [] new × is_spent new
FailsToPin number between is_spent old name query pin_err.Memory new = Made number between old [] new ⊎ MadeOne number between old (Pin name query) answer.Memory new

-- a retrieval without a pin ends so
abbrev pub ended_by : {R : Type 0} → PinVariableErr → Retrieved R
ended_by {R} pin_err.NoSuchVariable = NoSuchVariable
ended_by {R} pin_err.DiskFault = ReadFault None
ended_by {R} pin_err.Spent = Spent
ended_by {R} pin_err.Memory = Memory

-- The actor holds the variable's pin, none of whose pieces was opened, and the tail's lines are of the variable's type.
pub record IsHeld {A : Type 0} (number : A → ℕ) (stands : A → Machine → Type 0) (now : A) (v : PinnedVariable) : Type 0 where
  pub holds : Holds number stands now v.pin 0 v.pieces
  pub events : AreSamplesOf v.about.ty v.tail

-- what an answer is of
abbrev pub subject_of : PinnedVariable → Query → Subject
subject_of v query = record { name = v.name; about = v.about; query = query }

-- what the pin's pieces and the tail give, where these are told
abbrev pub AreTold : {A : Type 0} → (A → ℕ) → (A → Machine → Type 0) → A → PinnedVariable → Query → List (List Sample) → Type 0
AreTold number stands old v query lists =
    (ps : List NamedBytes) × LeftOf number stands old v.pin 0 v.pieces ps × AreReadAs v.about.ty ps lists × IsRising v.tail × AreEvents v.about.ty (answer (over_all lists v.tail) query)

-- Just the acts were made that read the pin's pieces and give it up, and what was written is an answer: that over the pieces and the tail,
-- where these are told.
pub record AnswersPinned {A O R : Type 0} (number : A → ℕ) (between : A → List Entry → A → Type 0) (is_spent : A → Type 0) (stands : A → Machine → Type 0) (tells : Bool) (faults : R → ℕ) (finished broke : O → Subject → List Sample → O → Type 0) (rose : Type 0) (old : A) (v : PinnedVariable) (query : Query) (out : O) (result : Retrieved R) (new : A) (out_new : O) : Type 0 where
  pub reads : ReadsPinned number between is_spent tells faults v.about.ty old v.pin rose result new
  pub some : WritesSome finished broke out (subject_of v query) result out_new
  pub whole : IsTrue tells → (lists : List (List Sample)) → AreTold number stands old v query lists → Writes finished broke out (subject_of v query) (answer (over_all lists v.tail) query) result out_new

-- The pin was given up, unless no act was left for that; just this act was made.
pub record GivesUp {A : Type 0} (number : A → ℕ) (between : A → List Entry → A → Type 0) (is_spent : A → Type 0) (old : A) (pin : ℕ) (new : A) : Type 0 where
  pub unpin : List Done
  pub made : Made number between old unpin new
  pub is : (unpin ≡ given_up pin) ⊎ ((unpin ≡ []) × is_spent new)
