-- Of what is asked for, acts are made one after another.
use Rattle.std.proofs.Common.{◌≡◌, ◌∙◌, ap, sym, refl, subst, ◌+◌, List, [], ◌∷◌, ◌++◌, append_assoc, add-zero, zero-add}
use Rattle.std.specs.Prelude.{Bool}
use Rattle.std.specs.List.{count_by, sum_by}
use Rattle.std.proofs.lemmas.List.Sums.{sum_by-append}
use Rattle.act_model.specs.declared.acts.Act.{Act}
use Rattle.act_model.specs.Reply.{Reply}
use Rattle.act_model.specs.History.{Done}
use Rattle.feed_session.specs.Asks.{AreMade, FailsWith, NoneFails, asked_again}
use Rattle.feed_session.specs.Asking.{both, none, tally_of}
use Rattle.feed_session.specs.Session.{is_kept, is_held, is_dropped}
use Rattle.feed_session.specs.declared.tally.OfferCounts.{OfferCounts}

-- what is made of the rest, is made of all
pub made_on : (asked : List Act) (done : List Done) (left : List Act) (more : List Done) (rest : List Act) → AreMade asked done left → AreMade left more rest → AreMade asked (done ++ more) rest
made_on asked [] left more rest p q = rw (← p) q
made_on [] (d ∷ done) left more rest p q = absurd p
made_on (act ∷ asked) (d ∷ done) left more rest p q = (p.0, made_on (asked_again act d.answer ++ asked) done left more rest p.1 q)

-- and beside it stands what is to be asked later
pub made_beside : (asked : List Act) (done : List Done) (left later : List Act) → AreMade asked done left → AreMade (asked ++ later) done (left ++ later)
made_beside asked [] left later p = ap (λ (l : List Act). l ++ later) p
made_beside [] (d ∷ done) left later p = absurd p
made_beside (act ∷ asked) (d ∷ done) left later p =
    let rest = made_beside (asked_again act d.answer ++ asked) done left later p.1 in
    (p.0, subst (λ (l : List Act). AreMade l done (left ++ later)) (append_assoc (asked_again act d.answer) asked later) rest)

-- AS TOLD

pub none_fails_on : (done more : List Done) → NoneFails done → NoneFails more → NoneFails (done ++ more)
none_fails_on [] more p q = q
none_fails_on (d ∷ done) more p q = (p.0, none_fails_on done more p.1 q)

pub fails_on : (answer : Reply) (done more : List Done) → NoneFails done → FailsWith answer more → FailsWith answer (done ++ more)
fails_on answer done more p q = record {
  before = done ++ q.before;
  act = q.act;
  is = ap (λ (l : List Done). done ++ l) q.is ∙ sym (append_assoc done q.before (record { act = q.act; answer = answer } ∷ []));
  well = none_fails_on done q.before p q.well;
}

count_on : (p : Reply → Bool) (done more : List Done) → count_by (λ (d : Done). p d.answer) (done ++ more) ≡ count_by (λ (d : Done). p d.answer) done + count_by (λ (d : Done). p d.answer) more
count_on p done more = sum_by-append _ done more

pub tally_on : (done more : List Done) → tally_of (done ++ more) ≡ both (tally_of done) (tally_of more)
tally_on done more = rw (count_on is_kept done more, count_on is_held done more, count_on is_dropped done more) refl

pub both_none : (t : OfferCounts) → both t none ≡ t
both_none t = rw (add-zero t.kept, add-zero t.held, add-zero t.dropped) refl

pub none_both : (t : OfferCounts) → both none t ≡ t
none_both t = rw (zero-add t.kept, zero-add t.held, zero-add t.dropped) refl
