-- The text of what an operator makes of an answer.
use Rattle.std.proofs.Common.{◌≡◌, List, [], ◌++◌, ℕ, Bool, Option, Some, refl, subst}
use Rattle.std.specs.Io.KnownBytes.{Appends}
use Rattle.edge_io.specs.Stream.{AppendsFront}
use Rattle.json_out.specs.Json.{json}
use Rattle.json_out.specs.Writing as json_text
use Rattle.series_model.specs.declared.sample.Sample.{Sample}
use Rattle.series_model.specs.declared.sample.Query.{Query}
use Rattle.act_model.specs.History.{Entry}
use Rattle.act_model.specs.Machine.{Machine}
use Rattle.act_model.specs.Out.{Subject}
use Rattle.retrieval_query.specs.declared.retrieved.Retrieved.{Retrieved}
use Rattle.retrieval_query.specs.declared.variable.PinnedVariable.{PinnedVariable}
use Rattle.retrieval_query.specs.Pinning.{AnswersPinned, subject_of}
use Rattle.retrieval_query.specs.Retrieving.{WritesSome}
use Rattle.retrieval_query.specs.Writing as raw_text
use Rattle.sample_bins.specs.declared.op.Op.{Op}
use Rattle.sample_bins.specs.Bins.{bins_of, binned_subject}
use Rattle.service.specs.Data.{BreaksText, FinishesText}
use Rattle.service.proofs.Answering.{answers_as, of_writes}
use Rattle.service.specs.declared.format.Format.TheVariants.{Raw, Json}

module _ (a b : Option (List ℕ)) (old new : List ℕ) (own op : Op) (subject : Subject) (xs : List Sample) (same : own ≡ op) (none : old ≡ []) where
  pub raw_finishes : raw_text.Finishes a b old new (binned_subject own subject) (bins_of own subject.query xs) → FinishesText (Raw (Some op)) a subject xs b
  raw_finishes w = subst (λ (o : Op). FinishesText (Raw (Some o)) a subject xs b) same (w.text, w.raw, subst (λ (l : List ℕ). Appends a b (l ++ w.text)) none w.all)

  pub raw_breaks : raw_text.Breaks a b old (binned_subject own subject) (bins_of own subject.query xs) → BreaksText (Raw (Some op)) a subject xs b
  raw_breaks w = subst (λ (o : Op). BreaksText (Raw (Some o)) a subject xs b) same (w.text, w.raw, subst (λ (l : List ℕ). AppendsFront a b (l ++ w.text)) none w.front)

  abbrev text : List ℕ
  text = json subject.name (binned_subject own subject).about (bins_of own subject.query xs)

  pub json_finishes : json_text.Finishes a b old new (binned_subject own subject) (bins_of own subject.query xs) → FinishesText (Json (Some op)) a subject xs b
  json_finishes w = subst (λ (o : Op). FinishesText (Json (Some o)) a subject xs b) same (text, refl, subst (λ (l : List ℕ). Appends a b (l ++ text)) none w.0)

  pub json_breaks : json_text.Breaks a b old (binned_subject own subject) (bins_of own subject.query xs) → BreaksText (Json (Some op)) a subject xs b
  json_breaks w = subst (λ (o : Op). BreaksText (Json (Some o)) a subject xs b) same (text, refl, subst (λ (l : List ℕ). AppendsFront a b (l ++ text)) none w)

-- what follows of some answer that was written
pub some_told : {O R X : Type 0} {finished broke : O → Subject → List Sample → O → Type 0} {old new : O} {subject : Subject} {result : Retrieved R}
    → WritesSome finished broke old subject result new → ((xs : List Sample) → finished old subject xs new → X) → ((xs : List Sample) → broke old subject xs new → X) → X
some_told {O} {R} {X} {finished} {broke} {old} {new} {subject} {result} some f b = of_writes finished broke old new subject some.given result (f some.given) (b some.given) some.writes

-- the same answer in another output
pub told_as : {A O P R : Type 0} {number : A → ℕ} {between : A → List Entry → A → Type 0} {is_spent : A → Type 0} {stands : A → Machine → Type 0} {tells : Bool} {faults : R → ℕ} {finished broke : O → Subject → List Sample → O → Type 0} {rose : Type 0} {old new : A} {v : PinnedVariable} {query : Query} {out out_new : O} {result : Retrieved R}
    (finished₂ broke₂ : P → Subject → List Sample → P → Type 0) (p q : P) → AnswersPinned number between is_spent stands tells faults finished broke rose old v query out result new out_new
    → ((xs : List Sample) → finished out (subject_of v query) xs out_new → finished₂ p (subject_of v query) xs q) → ((xs : List Sample) → broke out (subject_of v query) xs out_new → broke₂ p (subject_of v query) xs q)
    → AnswersPinned number between is_spent stands tells faults finished₂ broke₂ rose old v query p result new q
told_as {A} {O} {P} {R} {number} {between} {is_spent} {stands} {tells} {faults} {finished} {broke} {rose} {old} {new} {v} {query} {out} {out_new} {result} finished₂ broke₂ p q says f b =
    answers_as number between is_spent stands tells faults finished broke finished₂ broke₂ rose old new v query out out_new p q result f b says
