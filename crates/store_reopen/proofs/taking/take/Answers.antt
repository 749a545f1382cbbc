use Rattle.std.proofs.Common.{◌≡◌, ◌∷◌, ◌++◌, [], ℕ, List, Some, inl, inr, sym, ◌∙◌, ap, subst, arith}
use Rattle.std.specs.Prelude.{slice_get}
use Rattle.std.proofs.lemmas.Option.{same_Some}
use Rattle.found_files.specs.declared.finding.Candidate.{Candidate}
use Rattle.store_reopen.specs.Listing.{turns_of}
use Rattle.store_reopen.specs.Turns.{IsOfTurn}
use Rattle.store_reopen.specs.declared.finding.TakenFile.{TakenFile}
use Rattle.store_reopen.proofs.Stages.{one_taken, turn_read, turn_set}
use Rattle.store_reopen.proofs.taking.take.Goals as goal

pub returns-in_default-turn_of-clause-takes : goal.returns-in_default-turn_of-clause-takes
returns-in_default-turn_of-clause-takes c turn old new was now = record {
  takes = inr (
    (λ x some of.
        let same : c.in-Some.candidate ≡ x = same_Some c.in-Some.candidate x (sym c.in-Some.is ∙ some) in
        c.in_default-turn_of.not-Some turn (c.turn_of.ensures.only turn (subst (λ (y : Candidate). IsOfTurn c.args.manifests.now c.args.catalogue.now.rows turn c.args.one.place y) (sym same) of))),
    same_Some new old (sym now ∙ was),
  );
}

pub returns-clause-takes : goal.returns-clause-takes
returns-clause-takes c turn old new was now =
    let t : TakenFile = record { file = c.args.one.file; candidate = c.in-Some.candidate } in
    let mine = c.in-Some-turn_of.ensures.takes in
    elim (turn_set c.args.turns.now.items c.in-Some-turn_of.turn c.push.new.self turn old new was now) [
      | inl (at, is) ↦
          let read : c.index_mut.result.now.items ≡ old = turn_read c.args.turns.now.items c.in-Some-turn_of.turn c.index_mut.result.now old c.index_mut.ensures.value (subst (λ (n : ℕ). slice_get (turns_of c.args.turns.now.items) n ≡ Some old) at was) in
          record { takes = inl (c.in-Some.candidate, c.in-Some.is, subst (λ (n : ℕ). IsOfTurn c.args.manifests.now c.args.catalogue.now.rows n c.args.one.place c.in-Some.candidate) (sym at) mine.1, is ∙ c.in_ok-push.ensures.items ∙ ap (λ (l : List TakenFile). l ++ t ∷ []) read) }
      | inr (apart, is) ↦ record {
        takes = inr (
          (λ x some of.
              let same : c.in-Some.candidate ≡ x = same_Some c.in-Some.candidate x (sym c.in-Some.is ∙ some) in
              apart (sym (same_Some c.in-Some-turn_of.turn turn (sym c.in-Some-turn_of.is ∙ c.turn_of.ensures.only turn (subst (λ (y : Candidate). IsOfTurn c.args.manifests.now c.args.catalogue.now.rows turn c.args.one.place y) (sym same) of))))),
          is,
        );
      }
    ]

pub returns-clause-one_more : goal.returns-clause-one_more
returns-clause-one_more c =
    one_taken c.args.turns.now.items c.in-Some-turn_of.turn c.index_mut.result.now c.push.new.self (record { file = c.args.one.file; candidate = c.in-Some.candidate }) (omega (arith, c.in-Some-turn_of.ensures.takes.0, c.requires.count)) c.index_mut.ensures.value c.in_ok-push.ensures.items
