-- What was given to one output, told of another.
use Rattle.std.proofs.Common.{◌≡◌, ◌⊎◌, inl, inr, ℕ, Bool, List, Option, Some, None, Err, refl, sym, subst}
use Rattle.std.specs.Prelude.{IsErrOf}
use Rattle.edge_io.specs.Stream.{AppendsFront}
use Rattle.pb_wire.specs.declared.payload.PayloadType.{PayloadType}
use Rattle.series_model.specs.declared.sample.Query.{Query}
use Rattle.series_model.specs.declared.sample.Sample.{Sample}
use Rattle.series_model.specs.Retrieval.{answer}
use Rattle.act_model.specs.History.{Entry, Done}
use Rattle.act_model.specs.Machine.{Machine}
use Rattle.act_model.specs.Out.{Subject}
use Rattle.act_model.specs.declared.out.OutErr.{OutErr}
use Rattle.act_model.specs.declared.out.OutErr.TheVariants as out_err
use Rattle.stream_merge.specs.Over.{over_all}
use Rattle.retrieval_query.specs.declared.variable.PinnedVariable.{PinnedVariable}
use Rattle.retrieval_query.specs.declared.retrieved.Retrieved.{Retrieved}
use Rattle.retrieval_query.specs.declared.retrieved.Retrieved.TheVariants.{Finished, NoSuchVariable, ReadFault, Damaged, SinkFault, Spent, Memory}
use Rattle.retrieval_query.specs.Giving.{retrieved_by}
use Rattle.retrieval_query.specs.Openings.{PieceTold}
use Rattle.retrieval_query.specs.Pinning.{AnswersPinned, subject_of}
use Rattle.retrieval_query.specs.Retrieving.{Ends, Writes}
use Rattle.service.specs.Data.{Closes}

-- what follows of how an answer was written
pub of_writes : {O R X : Type 0} (finished broke : O → Subject → List Sample → O → Type 0) (old new : O) (subject : Subject) (xs : List Sample) (result : Retrieved R)
    → (finished old subject xs new → X) → (broke old subject xs new → X) → Writes finished broke old subject xs result new → X
of_writes finished broke old new subject xs (Finished count) f b w = f w.0
of_writes finished broke old new subject xs NoSuchVariable f b w = b w
of_writes finished broke old new subject xs (ReadFault failed) f b w = b w
of_writes finished broke old new subject xs (Damaged name at) f b w = b w
of_writes finished broke old new subject xs SinkFault f b w = b w
of_writes finished broke old new subject xs Spent f b w = b w
of_writes finished broke old new subject xs Memory f b w = b w

pub writes_as : {O P R : Type 0} (finished broke : O → Subject → List Sample → O → Type 0) (finished₂ broke₂ : P → Subject → List Sample → P → Type 0) (old new : O) (p q : P) (subject : Subject) (xs : List Sample) (result : Retrieved R)
    → (finished old subject xs new → finished₂ p subject xs q) → (broke old subject xs new → broke₂ p subject xs q) → Writes finished broke old subject xs result new → Writes finished₂ broke₂ p subject xs result q
writes_as finished broke finished₂ broke₂ old new p q subject xs (Finished count) f b w = (f w.0, w.1)
writes_as finished broke finished₂ broke₂ old new p q subject xs NoSuchVariable f b w = b w
writes_as finished broke finished₂ broke₂ old new p q subject xs (ReadFault failed) f b w = b w
writes_as finished broke finished₂ broke₂ old new p q subject xs (Damaged name at) f b w = b w
writes_as finished broke finished₂ broke₂ old new p q subject xs SinkFault f b w = b w
writes_as finished broke finished₂ broke₂ old new p q subject xs Spent f b w = b w
writes_as finished broke finished₂ broke₂ old new p q subject xs Memory f b w = b w

-- the same answer in another output
pub answers_as : {A O P R : Type 0} (number : A → ℕ) (between : A → List Entry → A → Type 0) (is_spent : A → Type 0) (stands : A → Machine → Type 0) (tells : Bool) (faults : R → ℕ)
    (finished broke : O → Subject → List Sample → O → Type 0) (finished₂ broke₂ : P → Subject → List Sample → P → Type 0) (rose : Type 0) (old new : A) (v : PinnedVariable) (query : Query) (out out_new : O) (p q : P) (result : Retrieved R)
    → ((xs : List Sample) → finished out (subject_of v query) xs out_new → finished₂ p (subject_of v query) xs q) → ((xs : List Sample) → broke out (subject_of v query) xs out_new → broke₂ p (subject_of v query) xs q)
    → AnswersPinned number between is_spent stands tells faults finished broke rose old v query out result new out_new → AnswersPinned number between is_spent stands tells faults finished₂ broke₂ rose old v query p result new q
answers_as number between is_spent stands tells faults finished broke finished₂ broke₂ rose old new v query out out_new p q result f b a = record {
  reads = a.reads;
  some = record {
    given = a.some.given;
    events = a.some.events;
    rising = a.some.rising;
    writes = writes_as finished broke finished₂ broke₂ out out_new p q (subject_of v query) a.some.given result (f a.some.given) (b a.some.given) a.some.writes;
  };
  whole = λ telling lists told.
      let xs = answer (over_all lists v.tail) query in
      writes_as finished broke finished₂ broke₂ out out_new p q (subject_of v query) xs result (f xs) (b xs) (a.whole telling lists told);
}

-- THE END OF A BODY

-- why a retrieval ended, where the end of its body failed or not
pub ends_closed : {R : Type 0} (tells : Bool) (faults : R → ℕ) (ty : PayloadType) (pin : ℕ) (told : List PieceTold) (failed unpin : List Done) (spent first last rose : Type 0) (given result : Retrieved R) (a b now : Option (List ℕ)) → (first → rose) → (last → rose)
    → Closes given last result a b now → Ends tells faults ty pin told failed unpin spent first given → Ends tells faults ty pin told failed unpin spent rose result
ends_closed tells faults ty pin told failed unpin spent first last rose (Finished count) result a b now f l (inl c) e = subst (λ r. Ends tells faults ty pin told failed unpin spent rose r) (sym c.0) e
ends_closed tells faults ty pin told failed unpin spent first last rose (Finished count) result a b now f l (inr c) e = subst (λ r. Ends tells faults ty pin told failed unpin spent rose r) (sym c.0) (e.0, l c.1)
ends_closed tells faults ty pin told failed unpin spent first last rose NoSuchVariable result a b now f l c e = absurd e
ends_closed tells faults ty pin told failed unpin spent first last rose (ReadFault None) result a b now f l c e = subst (λ r. Ends tells faults ty pin told failed unpin spent rose r) (sym c.0) e
ends_closed tells faults ty pin told failed unpin spent first last rose (ReadFault (Some r)) result a b now f l c e = subst (λ r. Ends tells faults ty pin told failed unpin spent rose r) (sym c.0) e
ends_closed tells faults ty pin told failed unpin spent first last rose (Damaged name at) result a b now f l c e = subst (λ r. Ends tells faults ty pin told failed unpin spent rose r) (sym c.0) e
ends_closed tells faults ty pin told failed unpin spent first last rose SinkFault result a b now f l c e = subst (λ r. Ends tells faults ty pin told failed unpin spent rose r) (sym c.0) (e.0, f e.1)
ends_closed tells faults ty pin told failed unpin spent first last rose Spent result a b now f l c e = subst (λ r. Ends tells faults ty pin told failed unpin spent rose r) (sym c.0) e
ends_closed tells faults ty pin told failed unpin spent first last rose Memory result a b now f l c e = subst (λ r. Ends tells faults ty pin told failed unpin spent rose r) (sym c.0) e

-- where it is another reason that a write failed
pub ends_as : {R : Type 0} (tells : Bool) (faults : R → ℕ) (ty : PayloadType) (pin : ℕ) (told : List PieceTold) (failed unpin : List Done) (spent rose more : Type 0) (result : Retrieved R) → (rose → more)
    → Ends tells faults ty pin told failed unpin spent rose result → Ends tells faults ty pin told failed unpin spent more result
ends_as tells faults ty pin told failed unpin spent rose more (Finished count) f e = e
ends_as tells faults ty pin told failed unpin spent rose more NoSuchVariable f e = e
ends_as tells faults ty pin told failed unpin spent rose more (ReadFault None) f e = e
ends_as tells faults ty pin told failed unpin spent rose more (ReadFault (Some r)) f e = e
ends_as tells faults ty pin told failed unpin spent rose more (Damaged name at) f e = e
ends_as tells faults ty pin told failed unpin spent rose more SinkFault f e = (e.0, f e.1)
ends_as tells faults ty pin told failed unpin spent rose more Spent f e = e
ends_as tells faults ty pin told failed unpin spent rose more Memory f e = e

pub answers_for : {A O R : Type 0} (number : A → ℕ) (between : A → List Entry → A → Type 0) (is_spent : A → Type 0) (stands : A → Machine → Type 0) (tells : Bool) (faults : R → ℕ) (finished broke : O → Subject → List Sample → O → Type 0) (rose more : Type 0) (old new : A) (v : PinnedVariable) (query : Query) (out out_new : O) (result : Retrieved R)
    → (rose → more) → AnswersPinned number between is_spent stands tells faults finished broke rose old v query out result new out_new → AnswersPinned number between is_spent stands tells faults finished broke more old v query out result new out_new
answers_for number between is_spent stands tells faults finished broke rose more old new v query out out_new result f a = record {
  reads = record {
    told = a.reads.told;
    failed = a.reads.failed;
    unpin = a.reads.unpin;
    stopped = a.reads.stopped;
    made = a.reads.made;
    unpinned = a.reads.unpinned;
    is = a.reads.is;
    ends = ends_as tells faults v.about.ty v.pin a.reads.told a.reads.failed a.reads.unpin (is_spent a.reads.stopped ⊎ is_spent new) rose more result f a.reads.ends;
  };
  some = a.some;
  whole = a.whole;
}

-- why a head was lost
pub lost_by : {R : Type 0} (err : OutErr) (rose : Type 0) (a b : Option (List ℕ)) (text : List ℕ) → (IsErrOf {T = Unit {0}} (Err err) out_err.SinkFault → rose) → (IsErrOf {T = Unit {0}} (Err err) out_err.Memory → b ≡ a) → AppendsFront a b text
    → ((retrieved_by {R = R} err ≡ SinkFault) × rose × AppendsFront a b text) ⊎ ((retrieved_by {R = R} err ≡ Memory) × (b ≡ a))
lost_by out_err.SinkFault rose a b text cause spent front = inl (refl, cause refl, front)
lost_by out_err.Memory rose a b text cause spent front = inr (refl, spent refl)
