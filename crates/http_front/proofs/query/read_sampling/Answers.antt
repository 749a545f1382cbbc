use Rattle.std.proofs.Common.{◌≡◌, ℕ, List, refl, sym, ◌∙◌, subst, inl, inr, rules}
use Rattle.std.specs.Prelude.{codes}
use Rattle.http_front.specs.Period.{IsPeriod}
use Rattle.http_front.specs.Query.{method_word, period_word}
use Rattle.http_front.proofs.query.read_sampling.Goals as goal

pub returns : goal.returns
returns c =
    let query = c.args.query.now in
    let same : c.as_str-2.result.now ≡ codes "SCAN" = search rules in
    let scan : method_word query ≡ codes "SCAN" = sym c.in_ok-word.ensures ∙ sym c.as_str-2.ensures.value ∙ same in
    let words : c.as_bytes.result.now ≡ period_word query = c.as_bytes.ensures.value ∙ c.as_str-3.ensures.value ∙ c.in_ok-seconds.ensures in
    inr (inr scan, inl (refl, λ good. c.in-None.ensures.none (good scan).0 (subst (λ (v : List ℕ). IsPeriod v (good scan).0) (sym words) (good scan).1)))
