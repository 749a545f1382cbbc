use Rattle.std.proofs.Common.{◌≡◌, Some, ◌∙◌, ap, sym}
use Rattle.std.specs.Option.{option_copied}
use Rattle.std.proofs.lemmas.Option.{same_Some}
use Rattle.intake.specs.Row.{SampledRow}
use Rattle.intake_half.proofs.trying.examine_held.Goals as goal

pub returns-clause-tried : goal.returns-clause-tried
returns-clause-tried c sampled is =
    let one : c.in_ok-as_ref.field-0.now ≡ sampled = same_Some c.in_ok-as_ref.field-0.now sampled (sym (ap option_copied (c.in_ok-as_ref.was {u = tt})) ∙ (c.as_ref.ensures.value ∙ is)) in
    let held : sampled.cell.held ≡ Some c.in_ok-sample.sample.now = sym (ap (λ (w : SampledRow). w.cell.held) one) ∙ (sym c.held.ensures ∙ ap option_copied (c.in_ok-sample.was {u = tt})) in
    (c.in_ok-sample.sample.now, held, c.examine.ensures.tried)
