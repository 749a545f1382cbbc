use Rattle.std.proofs.Common.{◌≡◌, ℕ, List, Some, refl, sym, ap, ◌∙◌, inl}
use Rattle.std.specs.Prelude.{option_map}
use Rattle.std.specs.Cow.{cow_str_bytes}
use Rattle.http_front.specs.Param.{name_of}
use Rattle.http_front.specs.Query.{value_of}
use Rattle.http_front.proofs.QueryLemmas.{no_moment, no_ok}
use Rattle.http_front.proofs.query.read_moment.Goals as goal

pub returns-in-Ok : goal.returns-in-Ok
returns-in-Ok c =
    let text = c.as_bytes.result.now in
    let words : text ≡ cow_str_bytes c.in-Some.text = c.as_bytes.ensures.value ∙ c.as_str.ensures.value in
    let found : value_of (name_of c.args.which) c.args.query.now ≡ Some text = ap (λ (n : List ℕ). value_of n c.args.query.now) (sym c.name.ensures) ∙ sym c.in_ok-text.ensures ∙ ap (λ o. option_map cow_str_bytes o) c.in-Some.is ∙ ap Some (sym words) in
    (text, found, (c.in-Ok.ensures.exact c.in-Ok.moment).0 refl)

pub returns : goal.returns
returns c =
    let text = c.as_bytes.result.now in
    let words : text ≡ cow_str_bytes c.in-Some.text = c.as_bytes.ensures.value ∙ c.as_str.ensures.value in
    let found : value_of (name_of c.args.which) c.args.query.now ≡ Some text = ap (λ (n : List ℕ). value_of n c.args.query.now) (sym c.name.ensures) ∙ sym c.in_ok-text.ensures ∙ ap (λ o. option_map cow_str_bytes o) c.in-Some.is ∙ ap Some (sym words) in
    inl (refl, no_moment c.args.query.now c.args.which text c.requires found (λ t is. no_ok t c.in-Err.field-0 (sym ((c.in-Err.ensures.exact t).1 is))))
