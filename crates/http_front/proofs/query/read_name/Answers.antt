use Rattle.std.proofs.Common.{◌≡◌, ℕ, List, Some, refl, sym, ap, ◌∙◌, subst, inl}
use Rattle.std.specs.Prelude.{option_map}
use Rattle.std.specs.Cow.{cow_str_bytes}
use Rattle.pv_name.specs.Name.{IsName, IsRefusedAt}
use Rattle.http_front.specs.Param.{name_of}
use Rattle.http_front.specs.Query.{value_of}
use Rattle.http_front.proofs.QueryLemmas.{not_named}
use Rattle.http_front.proofs.query.read_name.Goals as goal

pub returns-in-Ok : goal.returns-in-Ok
returns-in-Ok c =
    let text = c.as_bytes.result.now in
    let words : text ≡ cow_str_bytes c.in-Some.text = c.as_bytes.ensures.value ∙ c.as_str.ensures.value in
    let found : value_of (name_of c.args.which) c.args.query.now ≡ Some text = ap (λ (n : List ℕ). value_of n c.args.query.now) (sym c.name.ensures) ∙ sym c.in_ok-text.ensures ∙ ap (λ o. option_map cow_str_bytes o) c.in-Some.is ∙ ap Some (sym words) in
    let ok = c.in-Ok.ensures.ok in
    (found ∙ ap Some (sym ok.0), subst IsName (sym ok.0) ok.1)

pub returns-in-Err-BadName : goal.returns-in-Err-BadName
returns-in-Err-BadName c =
    let text = c.as_bytes.result.now in
    let words : text ≡ cow_str_bytes c.in-Some.text = c.as_bytes.ensures.value ∙ c.as_str.ensures.value in
    let found : value_of (name_of c.args.which) c.args.query.now ≡ Some text = ap (λ (n : List ℕ). value_of n c.args.query.now) (sym c.name.ensures) ∙ sym c.in_ok-text.ensures ∙ ap (λ o. option_map cow_str_bytes o) c.in-Some.is ∙ ap Some (sym words) in
    let bad : IsRefusedAt text c.in-Err-BadName.field-0-0 = rw c.in-Err-BadName.field-0-is at c.in-Err-BadName.ensures.err in
    inl (refl, not_named c.args.query.now c.args.which text c.in-Err-BadName.field-0-0 c.requires found bad)
