use Rattle.std.proofs.Common.{◌≡◌, ℕ, true, false, List, ◌∷◌, Some, ap, sym, ◌∙◌, subst, rules}
use Rattle.std.specs.Prelude.{bytes_eq}
use Rattle.form_urlencoded.specs.Parse.{raw_pairs_left}
use Rattle.http_front.specs.Query.{text_of, first_of}
use Rattle.http_front.proofs.QueryLemmas.{first_none, first_here, first_later}
use Rattle.http_front.proofs.query.value_of.Goals as goal

pub returns-then-eq : goal.returns-then-eq
returns-then-eq c =
    let name = c.args.name.now in
    let key = c.in-Some.key.now in
    let value = c.in-Some.value.now in
    let rest = raw_pairs_left c.next.new.self in
    let text : c.as_str.result.now ≡ text_of key = c.as_str.ensures.value ∙ c.in_ok-decode.ensures.value.2 in
    let same : bytes_eq c.as_str.result.now name ≡ true = search rules in
    let here : bytes_eq (text_of key) name ≡ true = subst (λ (v : List ℕ). bytes_eq v name ≡ true) text same in
    let pairs : raw_pairs_left c.loop-key.key-iterator ≡ (key, value) ∷ rest = c.in-Some.ensures.steps in
    ap Some c.in_ok-decode-2.ensures.value.2 ∙ sym (first_here name key value rest here) ∙ ap (first_of name) (sym pairs) ∙ c.loop-key.invariant.rest

pub loop-key-preserved : goal.loop-key-preserved
loop-key-preserved c =
    let name = c.args.name.now in
    let key = c.in-Some.key.now in
    let value = c.in-Some.value.now in
    let rest = raw_pairs_left c.next.new.self in
    let text : c.as_str.result.now ≡ text_of key = c.as_str.ensures.value ∙ c.in_ok-decode.ensures.value.2 in
    let other : bytes_eq c.as_str.result.now name ≡ false = search rules in
    let later : bytes_eq (text_of key) name ≡ false = subst (λ (v : List ℕ). bytes_eq v name ≡ false) text other in
    let pairs : raw_pairs_left c.loop-key.key-iterator ≡ (key, value) ∷ rest = c.in-Some.ensures.steps in
    record { next = tt; finite = tt; rest = sym (first_later name key value rest later) ∙ ap (first_of name) (sym pairs) ∙ c.loop-key.invariant.rest }

pub returns : goal.returns
returns c = sym (first_none c.args.name.now) ∙ ap (first_of c.args.name.now) (sym c.in-None.ensures.steps.0) ∙ c.loop-key.invariant.rest
