-- What a retrieval asks for and writes. It pins the variable; where a pin was made it opens some of its pieces and gives the pin up.
use Rattle.std.specs.Prelude.{◌≡◌, ◌≢◌, ◌⊎◌, ◌+◌, ℕ, Bool, IsTrue, List, [], ◌∷◌, ◌++◌, length, map, None, Some, Result, Ok, Err, slice_get}
use Rattle.pb_wire.specs.declared.payload.PayloadType.{PayloadType}
use Rattle.pb_messages.specs.declared.about.About.{About}
use Rattle.pb_messages.specs.declared.info.PayloadInfo.{PayloadInfo}
use Rattle.pb_messages.specs.Info.{info_of}
use Rattle.series_model.specs.declared.sample.Query.{Query}
use Rattle.series_model.specs.declared.sample.Sample.{Sample}
use Rattle.series_model.specs.Series.{IsRising}
use Rattle.series_model.specs.Retrieval.{answer}
use Rattle.act_model.specs.declared.acts.Act.TheVariants.{Pin, Unpin}
use Rattle.act_model.specs.declared.acts.Answer.TheVariants as answer
use Rattle.act_model.specs.Event.{AreEvents}
use Rattle.act_model.specs.History.{Entry, Done, Made, MadeOne, Runs, own}
use Rattle.act_model.specs.Machine.{Machine, find_row}
use Rattle.act_model.specs.Out.{Subject}
use Rattle.act_model.specs.Rows.{RowState, accepted}
use Rattle.act_model.specs.Rule.{Rule, Header}
use Rattle.act_model.specs.Whole.{whole}
use Rattle.stream_merge.specs.Pieces.{Faulted, OutOfMemory}
use Rattle.stream_merge.specs.Reading.{IsDamaged}
use Rattle.stream_merge.specs.Reads.{AnswersRead}
use Rattle.retrieval_query.specs.declared.retrieved.Retrieved.{Retrieved}
use Rattle.retrieval_query.specs.declared.retrieved.Retrieved.TheVariants.{Finished, NoSuchVariable, ReadFault, Damaged, SinkFault, Spent, Memory}
use Rattle.retrieval_query.specs.Openings.{PieceTold, openings, failing, named}

-- THE TEXT

-- at the end the whole text of these samples was written, and otherwise a front of it
abbrev pub Writes : {O R : Type 0} → (O → Subject → List Sample → O → Type 0) → (O → Subject → List Sample → O → Type 0) → O → Subject → List Sample → Retrieved R → O → Type 0
Writes finished broke old subject xs (Finished count) new = finished old subject xs new × (count ≡ length xs)
Writes finished broke old subject xs _ new = broke old subject xs new

-- so it is for some events that rise
pub record WritesSome {O R : Type 0} (finished broke : O → Subject → List Sample → O → Type 0) (old : O) (subject : Subject) (result : Retrieved R) (new : O) : Type 0 where
  pub given : List Sample
  pub events : AreEvents subject.about.ty given
  pub rising : IsRising given
  pub writes : Writes finished broke old subject given result new

-- GIVING UP THE PIN

abbrev pub given_up : ℕ → List Done
given_up pin = record { act = Unpin pin; answer = answer.Unpinned } ∷ []

-- how a retrieval ends that has given its answer, or stopped before
abbrev pub EndsAs : {R : Type 0} → ℕ → List Done → Type 0 → Result ℕ (Retrieved R) → Retrieved R → Type 0
EndsAs pin unpin rose (Err stop) result = result ≡ stop
EndsAs pin unpin rose (Ok count) result = ((unpin ≡ given_up pin) × ((result ≡ Finished count) ⊎ ((result ≡ SinkFault) × rose) ⊎ (result ≡ Memory))) ⊎ ((unpin ≡ []) × (result ≡ Spent))

-- The pin is given up, unless no act is left for that; just this act was made.
pub record EndsPinned {A R : Type 0} (number : A → ℕ) (between : A → List Entry → A → Type 0) (is_spent : A → Type 0) (old : A) (pin : ℕ) (rose : Type 0) (given : Result ℕ (Retrieved R)) (result : Retrieved R) (new : A) : Type 0 where
  pub unpin : List Done
  pub made : Made number between old unpin new
  pub is : (unpin ≡ given_up pin) ⊎ ((unpin ≡ []) × is_spent new)
  pub ends : EndsAs pin unpin rose given result

-- BEHIND THE PIN

-- why the retrieval ended so, by the act that failed, if one did
abbrev pub Ends : {R : Type 0} → Bool → (R → ℕ) → PayloadType → ℕ → List PieceTold → List Done → List Done → Type 0 → Type 0 → Retrieved R → Type 0
Ends tells faults ty pin told failed unpin spent rose (Finished count) = (failed ≡ []) × (unpin ≡ given_up pin)
Ends tells faults ty pin told failed unpin spent rose NoSuchVariable = ⊥
Ends tells faults ty pin told failed unpin spent rose (ReadFault None) = failed ≡ failing pin (length told) Faulted
Ends tells faults ty pin told failed unpin spent rose (ReadFault (Some r)) = (failed ≡ []) × (faults r ≢ 0)
Ends tells faults ty pin told failed unpin spent rose (Damaged name at) = (failed ≡ []) × (IsTrue tells → IsDamaged ty (map named told) name at)
Ends tells faults ty pin told failed unpin spent rose SinkFault = (failed ≡ []) × rose
Ends tells faults ty pin told failed unpin spent rose Spent = (failed ≡ []) × spent
Ends tells faults ty pin told failed unpin spent rose Memory = (failed ≡ []) ⊎ (failed ≡ failing pin (length told) OutOfMemory)

-- Just these acts were made behind the pin: pieces were opened from the first one on, an opening failed or none did, and the pin was given
-- up, unless no act was left for that.
pub record ReadsPinned {A R : Type 0} (number : A → ℕ) (between : A → List Entry → A → Type 0) (is_spent : A → Type 0) (tells : Bool) (faults : R → ℕ) (ty : PayloadType) (old : A) (pin : ℕ) (rose : Type 0) (result : Retrieved R) (new : A) : Type 0 where
  pub told : List PieceTold
  pub failed : List Done
  pub unpin : List Done
  pub stopped : A
  pub made : Made number between old (openings pin 0 told ++ failed) stopped
  pub unpinned : Made number between stopped unpin new
  pub is : (unpin ≡ given_up pin) ⊎ ((unpin ≡ []) × is_spent new)
  pub ends : Ends tells faults ty pin told failed unpin (is_spent stopped ⊎ is_spent new) rose result

-- THE WHOLE

-- No pin was made: why, and just which act.
abbrev pub Refuses : {A R : Type 0} → (A → ℕ) → (A → List Entry → A → Type 0) → (A → Type 0) → A → List ℕ → Query → Retrieved R → A → Type 0
Refuses number between is_spent old name query (Finished count) new = ⊥
Refuses number between is_spent old name query NoSuchVariable new = MadeOne number between old (Pin name query) answer.NoSuchVariable new
Refuses number between is_spent old name query (ReadFault None) new = MadeOne number between old (Pin name query) answer.DiskFault new
Refuses number between is_spent old name query (ReadFault (Some r)) new = ⊥
Refuses number between is_spent old name query (Damaged file at) new = ⊥
Refuses number between is_spent old name query SinkFault new = ⊥
Refuses number between is_spent old name query Spent new = Made number between old [] new × is_spent new
Refuses number between is_spent old name query Memory new = Made number between old [] new ⊎ MadeOne number between old (Pin name query) answer.Memory new

-- so it is, and the output is untouched
pub record NotPinned {A O R : Type 0} (number : A → ℕ) (between : A → List Entry → A → Type 0) (is_spent : A → Type 0) (old : A) (name : List ℕ) (query : Query) (out : O) (result : Retrieved R) (new : A) (out_new : O) : Type 0 where
  pub refuses : Refuses number between is_spent old name query result new
  pub untouched : out_new ≡ out

-- The pin was made, then its pieces were read and it was given up, by just these acts; and what was written.
pub record IsPinned {A O R : Type 0} (number : A → ℕ) (between : A → List Entry → A → Type 0) (is_spent : A → Type 0) (tells : Bool) (faults : R → ℕ) (finished broke : O → Subject → List Sample → O → Type 0) (rose : Type 0) (old : A) (name : List ℕ) (query : Query) (out : O) (result : Retrieved R) (new : A) (out_new : O) : Type 0 where
  pub pin : ℕ
  pub name_told : List ℕ
  pub about : About
  pub pieces : ℕ
  pub tail : List Sample
  pub pinned : A
  pub pins : MadeOne number between old (Pin name query) (answer.Pinned pin name_told about pieces tail) pinned
  pub reads : ReadsPinned number between is_spent tells faults about.ty pinned pin rose result new
  pub writes : WritesSome finished broke out (record { name = name_told; about = about; query = query }) result out_new

-- a message that the rule reads as a header is one (PB file format), of the same type and year
abbrev pub ReadsHeaders : Rule → Type 0
ReadsHeaders rule = (message : List ℕ) (header : Header) → rule.header message ≡ Some header → (info : PayloadInfo) × (info_of message ≡ Ok info) × (info.ty ≡ header.ty) × (info.year ≡ header.year)

-- From this state on the actor's first act was its pin. What was written is the answer over all that was accepted of the variable, under
-- each of its names, in the state that the pin led to; the text has the name that was asked for.
pub record WritesAnswer {A O R : Type 0} (number : A → ℕ) (between : A → List Entry → A → Type 0) (finished broke : O → Subject → List Sample → O → Type 0) (old : A) (m : Machine) (name : List ℕ) (query : Query) (out : O) (result : Retrieved R) (new : A) (out_new : O) : Type 0 where
  pub before_it : List Entry
  pub pin : Entry
  pub after_it : List Entry
  pub leads : between old (before_it ++ pin ∷ after_it) new
  pub first : own (number old) before_it ≡ []
  pub by : pin.who ≡ number old
  pub act : pin.act ≡ Pin name query
  pub pinned : Machine
  pub runs : Runs m (before_it ++ pin ∷ []) pinned
  pub i : ℕ
  pub row : RowState
  pub found : find_row pinned name ≡ Some i
  pub here : slice_get pinned.rows i ≡ Some row
  pub writes : Writes finished broke out (record { name = row.name; about = row.about; query = query }) (answer (whole accepted pinned.rows i) query) result out_new

-- WHAT WAS READ

-- These pieces of a pin that has so many were opened and then it was given up, by just these acts, and what was written is the answer over
-- what was read of them and of the tail, whatever they have: of each piece all from where its reading began, with none left, or as much as
-- there is up to a sample behind the interval.
pub record FinishesRead {A O : Type 0} (number : A → ℕ) (between : A → List Entry → A → Type 0) (finished : O → Subject → List Sample → O → Type 0) (old : A) (pin pieces : ℕ) (tail : List Sample) (subject : Subject) (out : O) (new : A) (out_new : O) : Type 0 where
  pub told : List PieceTold
  pub left : ℕ
  pub all : length told + left ≡ pieces
  pub stopped : A
  pub made : Made number between old (openings pin 0 told) stopped
  pub unpinned : Made number between stopped (given_up pin) new
  pub given : List Sample
  pub answers : AnswersRead subject.about.ty subject.query (map named told) left tail given
  pub writes : finished out subject given out_new

-- so it is where the whole text was written
abbrev pub ReadsToEnd : {A O R : Type 0} → (A → ℕ) → (A → List Entry → A → Type 0) → (O → Subject → List Sample → O → Type 0) → A → ℕ → ℕ → List Sample → Subject → O → Retrieved R → A → O → Type 0
ReadsToEnd number between finished old pin pieces tail subject out (Finished count) new out_new = FinishesRead number between finished old pin pieces tail subject out new out_new
ReadsToEnd number between finished old pin pieces tail subject out _ new out_new = Unit {0}

-- behind the act that made the pin
pub record RetrievesRead {A O : Type 0} (number : A → ℕ) (between : A → List Entry → A → Type 0) (finished : O → Subject → List Sample → O → Type 0) (old : A) (name : List ℕ) (query : Query) (out : O) (new : A) (out_new : O) : Type 0 where
  pub pin : ℕ
  pub name_told : List ℕ
  pub about : About
  pub pieces : ℕ
  pub tail : List Sample
  pub pinned : A
  pub pins : MadeOne number between old (Pin name query) (answer.Pinned pin name_told about pieces tail) pinned
  pub reads : FinishesRead number between finished pinned pin pieces tail (record { name = name_told; about = about; query = query }) out new out_new

abbrev pub RetrievesToEnd : {A O R : Type 0} → (A → ℕ) → (A → List Entry → A → Type 0) → (O → Subject → List Sample → O → Type 0) → A → List ℕ → Query → O → Retrieved R → A → O → Type 0
RetrievesToEnd number between finished old name query out (Finished count) new out_new = RetrievesRead number between finished old name query out new out_new
RetrievesToEnd number between finished old name query out _ new out_new = Unit {0}
