-- What a retrieval did behind its pin.
use Rattle.std.proofs.Common.{◌≡◌, ◌⊎◌, ℕ, inl, inr, Bool, List, [], ◌++◌, length, Some, None, Ok, Err, Result, refl, sym, ap, ◌∙◌, subst, append-nil, zero-add, arith}
use Rattle.std.specs.Prelude.{IsErrOf, map}
use Rattle.pb_wire.specs.declared.payload.PayloadType.{PayloadType}
use Rattle.act_model.specs.History.{Entry, Done, Made}
use Rattle.stream_merge.specs.Pieces.{NamedBytes, Failure, Faulted, OutOfActs, OutOfMemory}
use Rattle.stream_merge.specs.Reading.{IsDamaged}
use Rattle.retrieval_query.specs.declared.retrieved.Retrieved.{Retrieved}
use Rattle.retrieval_query.specs.declared.retrieved.Retrieved.TheVariants.{Finished, NoSuchVariable, ReadFault, Damaged, SinkFault, Spent, Memory}
use Rattle.retrieval_query.specs.Openings.{PieceTold, OpensLeaving, OpensOf, FailsOf, openings, failing, named}
use Rattle.series_model.specs.declared.sample.Sample.{Sample}
use Rattle.act_model.specs.Event.{AreEvents}
use Rattle.act_model.specs.Out.{Subject}
use Rattle.stream_merge.specs.Reads.{AnswersRead}
use Rattle.retrieval_query.specs.Giving.{Gives, GivesBy, GivesRead, GivesReadAt}
use Rattle.series_model.specs.declared.sample.Query.{Query}
use Rattle.pb_messages.specs.declared.about.About.{About}
use Rattle.act_model.specs.declared.acts.Act.TheVariants.{Pin}
use Rattle.act_model.specs.declared.acts.Answer.TheVariants as answer
use Rattle.act_model.specs.History.{MadeOne}
use Rattle.retrieval_query.specs.declared.variable.PinVariableErr.{PinVariableErr}
use Rattle.retrieval_query.specs.declared.variable.PinVariableErr.TheVariants as pin_err
use Rattle.retrieval_query.specs.Pinning.{ended_by}
use Rattle.retrieval_query.specs.Retrieving.{RetrievesToEnd, Ends, EndsAs, EndsPinned, FinishesRead, ReadsPinned, ReadsToEnd, Writes, given_up}

module _ {P R : Type 0} (tells : Bool) (faults : R → ℕ) (opened : P → List NamedBytes → P → Type 0) (failed : P → Failure → P → Type 0) (ty : PayloadType) (a b : P) where
  -- what follows of all that may have been opened
  pub of_gives : {X : Type 0} → ((ps : List NamedBytes) → opened a ps b → X) → ((why : Failure) → failed a why b → X) → (result : Result ℕ (Retrieved R)) → GivesBy tells faults opened failed ty a result b → X
  of_gives f g (Ok count) w = f w.0 w.1
  of_gives f g (Err (Finished count)) w = absurd w
  of_gives f g (Err NoSuchVariable) w = absurd w
  of_gives f g (Err (ReadFault None)) w = g Faulted w
  of_gives f g (Err (ReadFault (Some r))) w = f w.0.0 w.0.1
  of_gives f g (Err (Damaged name at)) w = f w.pieces w.were
  of_gives f g (Err SinkFault) w = f w.0 w.1
  of_gives f g (Err Spent) w = g OutOfActs w
  of_gives f g (Err Memory) (inl w) = f w.0 w.1
  of_gives f g (Err Memory) (inr w) = g OutOfMemory w

  -- the same, told of something else
  pub gives_as : {Q : Type 0} (opened₂ : Q → List NamedBytes → Q → Type 0) (failed₂ : Q → Failure → Q → Type 0) (c d : Q) → ((ps : List NamedBytes) → opened a ps b → opened₂ c ps d) → ((why : Failure) → failed a why b → failed₂ c why d)
      → (result : Result ℕ (Retrieved R)) → GivesBy tells faults opened failed ty a result b → GivesBy tells faults opened₂ failed₂ ty c result d
  gives_as opened₂ failed₂ c d f g (Ok count) w = (w.0, f w.0 w.1)
  gives_as opened₂ failed₂ c d f g (Err (Finished count)) w = absurd w
  gives_as opened₂ failed₂ c d f g (Err NoSuchVariable) w = absurd w
  gives_as opened₂ failed₂ c d f g (Err (ReadFault None)) w = g Faulted w
  gives_as opened₂ failed₂ c d f g (Err (ReadFault (Some r))) w = ((w.0.0, f w.0.0 w.0.1), w.1)
  gives_as opened₂ failed₂ c d f g (Err (Damaged name at)) w = record { pieces = w.pieces; were = f w.pieces w.were; damaged = w.damaged }
  gives_as opened₂ failed₂ c d f g (Err SinkFault) w = (w.0, f w.0 w.1)
  gives_as opened₂ failed₂ c d f g (Err Spent) w = g OutOfActs w
  gives_as opened₂ failed₂ c d f g (Err Memory) (inl w) = inl (w.0, f w.0 w.1)
  gives_as opened₂ failed₂ c d f g (Err Memory) (inr w) = inr (g OutOfMemory w)

module _ {A R : Type 0} (number : A → ℕ) (between : A → List Entry → A → Type 0) (is_spent : A → Type 0) (tells : Bool) (faults : R → ℕ) (ty : PayloadType) (old mid new : A) (pin left : ℕ) (rose rose_end : Type 0) (result : Retrieved R) (later : rose_end → rose) where
  abbrev EndsSo : List PieceTold → List Done → List Done → Type 0
  EndsSo told failed unpin = Ends tells faults ty pin told failed unpin (is_spent mid ⊎ is_spent new) rose result

  -- pieces were opened, and then the pin was given up
  well : (ps : List NamedBytes) → OpensOf number between pin 0 left old ps mid → (unpin : List Done) → Made number between mid unpin new → (unpin ≡ given_up pin) ⊎ ((unpin ≡ []) × is_spent new)
      → ((told : List PieceTold) → ps ≡ map named told → EndsSo told [] unpin) → ReadsPinned number between is_spent tells faults ty old pin rose result new
  well ps o unpin made is ends = record {
    told = o.3.told;
    failed = [];
    unpin = unpin;
    stopped = mid;
    made = subst (λ (l : List Done). Made number between old l mid) (sym (append-nil (openings pin 0 o.3.told))) o.3.made;
    unpinned = made;
    is = is;
    ends = ends o.3.told o.3.are;
  }

  -- an opening failed, and then it was
  badly : (why : Failure) → FailsOf number between is_spent pin 0 old why mid → (unpin : List Done) → Made number between mid unpin new → (unpin ≡ given_up pin) ⊎ ((unpin ≡ []) × is_spent new)
      → ((told : List PieceTold) → EndsSo told (failing pin (length told) why) unpin) → ReadsPinned number between is_spent tells faults ty old pin rose result new
  badly why w unpin made is ends = record {
    told = w.1.told;
    failed = failing pin (length w.1.told) why;
    unpin = unpin;
    stopped = mid;
    made = subst (λ (n : ℕ). Made number between old (openings pin 0 w.1.told ++ failing pin n why) mid) (zero-add (length w.1.told)) w.1.made;
    unpinned = made;
    is = is;
    ends = ends w.1.told;
  }

  nothing_given_up : {X : Type 0} (unpin : List Done) → unpin ≡ [] → (unpin ≡ given_up pin) ⊎ ((unpin ≡ []) × X) → X
  nothing_given_up unpin none (inl some) = absurd (let bad : [] ≡ given_up pin = sym none ∙ some in cc)
  nothing_given_up unpin none (inr spent) = spent.1

  pub reads : (given : Result ℕ (Retrieved R)) → GivesBy tells faults (OpensOf number between pin 0 left) (FailsOf number between is_spent pin 0) ty old given mid → (IsErrOf given SinkFault → rose) → EndsPinned number between is_spent mid pin rose_end given result new
      → ReadsPinned number between is_spent tells faults ty old pin rose result new
  reads (Ok count) w cause e = well w.0 w.1 e.unpin e.made e.is (λ told are. by_end told e.ends)
    where
      by_end : (told : List PieceTold) → EndsAs pin e.unpin rose_end (Ok count) result → Ends tells faults ty pin told [] e.unpin (is_spent mid ⊎ is_spent new) rose result
      by_end told (inl (up, inl is)) = subst (λ r. Ends tells faults ty pin told [] e.unpin (is_spent mid ⊎ is_spent new) rose r) (sym is) (refl, up)
      by_end told (inl (up, inr (inl (is, r)))) = subst (λ x. Ends tells faults ty pin told [] e.unpin (is_spent mid ⊎ is_spent new) rose x) (sym is) (refl, later r)
      by_end told (inl (up, inr (inr is))) = subst (λ r. Ends tells faults ty pin told [] e.unpin (is_spent mid ⊎ is_spent new) rose r) (sym is) (inl refl)
      by_end told (inr (none, is)) = subst (λ r. Ends tells faults ty pin told [] e.unpin (is_spent mid ⊎ is_spent new) rose r) (sym is) (refl, inr (nothing_given_up e.unpin none e.is))
  reads (Err (Finished count)) w cause e = absurd w
  reads (Err NoSuchVariable) w cause e = absurd w
  reads (Err (ReadFault None)) w cause e = badly Faulted w e.unpin e.made e.is (λ told. subst (λ r. Ends tells faults ty pin told (failing pin (length told) Faulted) e.unpin (is_spent mid ⊎ is_spent new) rose r) (sym e.ends) refl)
  reads (Err (ReadFault (Some x))) w cause e = well w.0.0 w.0.1 e.unpin e.made e.is (λ told are. subst (λ r. Ends tells faults ty pin told [] e.unpin (is_spent mid ⊎ is_spent new) rose r) (sym e.ends) (refl, w.1))
  reads (Err (Damaged name at)) w cause e = well w.pieces w.were e.unpin e.made e.is (λ told are. subst (λ r. Ends tells faults ty pin told [] e.unpin (is_spent mid ⊎ is_spent new) rose r) (sym e.ends) (refl, λ t. subst (λ l. IsDamaged ty l name at) are (w.damaged t)))
  reads (Err SinkFault) w cause e = well w.0 w.1 e.unpin e.made e.is (λ told are. subst (λ r. Ends tells faults ty pin told [] e.unpin (is_spent mid ⊎ is_spent new) rose r) (sym e.ends) (refl, cause refl))
  reads (Err Spent) w cause e = badly OutOfActs w e.unpin e.made e.is (λ told. subst (λ r. Ends tells faults ty pin told [] e.unpin (is_spent mid ⊎ is_spent new) rose r) (sym e.ends) (refl, inl w.1.spent))
  reads (Err Memory) (inl w) cause e = well w.0 w.1 e.unpin e.made e.is (λ told are. subst (λ r. Ends tells faults ty pin told [] e.unpin (is_spent mid ⊎ is_spent new) rose r) (sym e.ends) (inl refl))
  reads (Err Memory) (inr w) cause e = badly OutOfMemory w e.unpin e.made e.is (λ told. subst (λ r. Ends tells faults ty pin told (failing pin (length told) OutOfMemory) e.unpin (is_spent mid ⊎ is_spent new) rose r) (sym e.ends) (inr refl))

-- What was written to its end is the answer over what was read.
module _ {A O R : Type 0} (number : A → ℕ) (between : A → List Entry → A → Type 0) (is_spent : A → Type 0) (finished broke gave : O → Subject → List Sample → O → Type 0) (old mid new : A) (pin pieces left : ℕ) (rose : Type 0) (tail : List Sample) (subject : Subject) (before during after : O) where
  finishes : (count told : ℕ) → GivesRead (OpensLeaving number between pin 0 pieces left) gave subject.query left tail before subject old count mid during → EndsPinned {R = R} number between is_spent mid pin rose (Ok count) (Finished told) new
      → ((xs : List Sample) → AreEvents subject.about.ty xs → Gives {R = R} gave broke before subject xs (Ok count) during → Writes {R = R} finished broke before subject xs (Finished told) after) → FinishesRead number between finished old pin pieces tail subject before new after
  finishes count told r e writes =
      let opened = r.were.2 in
      record {
        told = opened.told;
        left = left;
        all = omega (arith, opened.all, opened.next_is);
        stopped = mid;
        made = opened.made;
        unpinned = subst (λ (l : List Done). Made number between mid l new) (up e.ends) e.made;
        given = r.given;
        answers = subst (λ (l : List NamedBytes). AnswersRead subject.about.ty subject.query l left tail r.given) opened.are r.answers;
        writes = (writes r.given r.events (r.has, r.number)).0;
      }
    where
      up : EndsAs {R = R} pin e.unpin rose (Ok count) (Finished told) → e.unpin ≡ given_up pin
      up (inl u) = u.0
      up (inr (none, is)) = absurd (cc)

  pub reads_to_end : (given : Result ℕ (Retrieved R)) (result : Retrieved R) → ((count : ℕ) → given ≡ Err (Finished count) → ⊥) → GivesReadAt (OpensLeaving number between pin 0 pieces left) gave subject.query left tail before subject old given mid during → EndsPinned number between is_spent mid pin rose given result new
      → ((xs : List Sample) → AreEvents subject.about.ty xs → Gives gave broke before subject xs given during → Writes finished broke before subject xs result after) → ReadsToEnd number between finished old pin pieces tail subject before result new after
  reads_to_end (Ok count) (Finished told) none r e writes = finishes count told r e writes
  reads_to_end (Err stop) (Finished told) none r e writes = absurd (none told (ap (λ (x : Retrieved R). Err x) (sym e.ends)))
  reads_to_end given NoSuchVariable none r e writes = tt
  reads_to_end given (ReadFault f) none r e writes = tt
  reads_to_end given (Damaged name at) none r e writes = tt
  reads_to_end given SinkFault none r e writes = tt
  reads_to_end given Spent none r e writes = tt
  reads_to_end given Memory none r e writes = tt

module _ {A O : Type 0} (number : A → ℕ) (between : A → List Entry → A → Type 0) (finished : O → Subject → List Sample → O → Type 0) (old : A) where
  pub read_behind : {R : Type 0} (pinned new : A) (name : List ℕ) (query : Query) (pin : ℕ) (name_told : List ℕ) (about : About) (pieces : ℕ) (tail : List Sample) (out out_new : O) (result : Retrieved R) → MadeOne number between old (Pin name query) (answer.Pinned pin name_told about pieces tail) pinned
      → ReadsToEnd number between finished pinned pin pieces tail (record { name = name_told; about = about; query = query }) out result new out_new → RetrievesToEnd number between finished old name query out result new out_new
  read_behind pinned new name query pin name_told about pieces tail out out_new (Finished count) pins reads = record { pin = pin; name_told = name_told; about = about; pieces = pieces; tail = tail; pinned = pinned; pins = pins; reads = reads }
  read_behind pinned new name query pin name_told about pieces tail out out_new NoSuchVariable pins reads = tt
  read_behind pinned new name query pin name_told about pieces tail out out_new (ReadFault f) pins reads = tt
  read_behind pinned new name query pin name_told about pieces tail out out_new (Damaged n at) pins reads = tt
  read_behind pinned new name query pin name_told about pieces tail out out_new SinkFault pins reads = tt
  read_behind pinned new name query pin name_told about pieces tail out out_new Spent pins reads = tt
  read_behind pinned new name query pin name_told about pieces tail out out_new Memory pins reads = tt

  -- no pin was made
  pub read_none : (R : Type 0) (new : A) (name : List ℕ) (query : Query) (out out_new : O) (why : PinVariableErr) → RetrievesToEnd {R = R} number between finished old name query out (ended_by why) new out_new
  read_none R new name query out out_new pin_err.NoSuchVariable = tt
  read_none R new name query out out_new pin_err.DiskFault = tt
  read_none R new name query out out_new pin_err.Spent = tt
  read_none R new name query out out_new pin_err.Memory = tt
