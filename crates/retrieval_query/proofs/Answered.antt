-- What a retrieval comes to whose variable was pinned.
use Rattle.std.proofs.Common.{◌≡◌, inl, inr, ℕ, Bool, IsTrue, List, [], ◌++◌, Result, Ok, Err, true, refl}
use Rattle.std.specs.Prelude.{OnOk, OnErr}
use Rattle.series_model.specs.declared.sample.Query.{Query}
use Rattle.series_model.specs.declared.sample.Sample.{Sample}
use Rattle.act_model.specs.declared.acts.Act.TheVariants.{Pin, Unpin}
use Rattle.act_model.specs.declared.acts.Answer.TheVariants.{Pinned, Unpinned}
use Rattle.act_model.specs.declared.actor.Spent.{Spent}
use Rattle.act_model.specs.History.{Entry, Made, MadeOne, Goes}
use Rattle.act_model.specs.Machine.{Machine}
use Rattle.act_model.specs.Out.{Subject}
use Rattle.act_model.specs.Sound.{IsSound}
use Rattle.pb_wire.specs.declared.payload.PayloadType.{PayloadType}
use Rattle.retrieval_query.specs.declared.variable.PinVariableErr.{PinVariableErr}
use Rattle.retrieval_query.specs.declared.variable.PinVariableErr.TheVariants as pin_err
use Rattle.retrieval_query.specs.declared.variable.PinnedVariable.{PinnedVariable}
use Rattle.retrieval_query.specs.declared.retrieved.Retrieved.{Retrieved}
use Rattle.retrieval_query.specs.Pinning.{AnswersPinned, FailsToPin, GivesUp, ended_by}
use Rattle.retrieval_query.specs.Retrieving.{ReadsHeaders, ReadsPinned, Refuses, WritesAnswer, given_up}
use Rattle.retrieval_query.proofs.Whole.{writes_answer}

module _ {A : Type 0} (number : A → ℕ) (between : A → List Entry → A → Type 0) (is_spent : A → Type 0) where
  pub refuses_so : (R : Type 0) (old new : A) (name : List ℕ) (query : Query) (why : PinVariableErr) → FailsToPin number between is_spent old name query why new → Refuses {R = R} number between is_spent old name query (ended_by why) new
  refuses_so R old new name query pin_err.NoSuchVariable f = f
  refuses_so R old new name query pin_err.DiskFault f = f
  refuses_so R old new name query pin_err.Spent f = f
  refuses_so R old new name query pin_err.Memory f = f

  pub gives_up_so : (old new : A) (pin : ℕ) (result : Result Unit Spent) → OnOk result (MadeOne number between old (Unpin pin) Unpinned new) → OnErr result (Made number between old [] new × is_spent new) → GivesUp number between is_spent old pin new
  gives_up_so old new pin (Ok done) made spent = record { unpin = given_up pin; made = made; is = inl refl }
  gives_up_so old new pin (Err e) made spent = record { unpin = []; made = spent.0; is = inr (refl, spent.1) }

module _ {A : Type 0} (number : A → ℕ) (between : A → List Entry → A → Type 0) (stands : A → Machine → Type 0)
    (legal : (a b : A) (entries : List Entry) (m : Machine) → between a entries b → stands a m → Goes (stands b) m entries) where
  -- who has read a pin's pieces stands for a state still
  pub reads_stand : {R : Type 0} (is_spent : A → Type 0) (tells : Bool) (faults : R → ℕ) (ty : PayloadType) (rose : Type 0) (a b : A) (pin : ℕ) (result : Retrieved R) (m : Machine) → stands a m → ReadsPinned number between is_spent tells faults ty a pin rose result b → (n : Machine) × stands b n
  reads_stand is_spent tells faults ty rose a b pin result m is reads =
      let first = legal a reads.stopped reads.made.entries m reads.made.leads is in
      let goes = legal reads.stopped b reads.unpinned.entries first.after reads.unpinned.leads first.stands_for in
      (goes.after, goes.stands_for)

  module _ (sound : (a : A) (m : Machine) → stands a m → IsSound m)
      (joined : (a b c : A) (xs ys : List Entry) → between a xs b → between b ys c → between a (xs ++ ys) c) (number_stays : (a b : A) (entries : List Entry) → between a entries b → number b ≡ number a) where
    -- where files are told, the answer was over all that was accepted
    pub whole_answer : {O R : Type 0} (is_spent : A → Type 0) (tells : Bool) (faults : R → ℕ) (finished broke : O → Subject → List Sample → O → Type 0) (rose : Type 0) (a b c : A) (name : List ℕ) (query : Query) (v : PinnedVariable) (m : Machine) (out out_new : O) (result : Retrieved R)
        → MadeOne number between a (Pin name query) (Pinned v.pin v.name v.about v.pieces v.tail) b → stands a m → m.told ≡ true → ReadsHeaders m.rule → IsTrue tells
        → AnswersPinned number between is_spent stands tells faults finished broke rose b v query out result c out_new → WritesAnswer number between finished broke a m name query out result c out_new
    whole_answer is_spent tells faults finished broke rose a b c name query v m out out_new result made is told headers telling answers =
        let reads = answers.reads in
        let more = joined b reads.stopped c reads.made.entries reads.unpinned.entries reads.made.leads reads.unpinned.leads in
        writes_answer number between stands legal sound joined number_stays a b name query v.pin v.name v.about v.pieces v.tail made m is told headers
        finished broke out out_new result c (reads.made.entries ++ reads.unpinned.entries) more
        (λ ps lists left read rising events. answers.whole telling lists (ps, left, read, rising, events))
