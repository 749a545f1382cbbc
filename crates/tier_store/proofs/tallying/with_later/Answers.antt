use Rattle.std.proofs.Common.{◌≤◌, ◌++◌, ◌∷◌, [], ℕ, List, Option, Some, sym, ◌∙◌, ap, subst, arith}
use Rattle.std.specs.Prelude.{unwrap_or}
use Rattle.series_model.specs.declared.sample.Sample.{Sample}
use Rattle.series_model.proofs.RisingLists.{since_all}
use Rattle.tier_store.specs.Counting.{behind}
use Rattle.tier_store.specs.Details.{IsTally}
use Rattle.tier_store.specs.declared.tallying.Tally.{Tally}
use Rattle.tier_store.proofs.Tallies.{tally_push}
use Rattle.tier_store.proofs.tallying.with_later.Goals as goal

pub returns : goal.returns
returns c samples was =
    let x = c.args.sample.now in
    let low : behind c.args.last ≤ x.t = c.is_later.ensures.later c.if-not-is_later.false in
    let made : Tally = record { count = c.in_ok-count.count; first = Some c.unwrap_or-first.result; last = Some x.t } in
    subst (λ (l : List Sample). IsTally (samples ++ l) made) (sym (since_all (behind c.args.last) x.t (x ∷ []) (omega arith, tt) low))
    (tally_push samples c.args.all x c.in_ok-count.count c.unwrap_or-first.result was c.in_ok-count.ensures.1
    (λ f some. c.unwrap_or-first.ensures ∙ ap (λ (o : Option ℕ). unwrap_or o x.t) some) (λ none. c.unwrap_or-first.ensures ∙ ap (λ (o : Option ℕ). unwrap_or o x.t) none))
