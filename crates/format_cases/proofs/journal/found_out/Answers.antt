use Rattle.std.proofs.Common.{refl}
use Rattle.format_cases.proofs.Results.{either_if_ok}
use Rattle.format_cases.proofs.journal.found_out.Goals as goal

pub returns : goal.returns
returns c =
    let before = c.requires.1.0 in
    let after = c.requires.1.1 in
    let doubt = c.requires.1.2 in
    let reviews = c.review.ensures.reviews refl before after doubt in
    either_if_ok c.review.result _ _ _ _ (λ sound settled. (sound.0, (after, settled))) (λ sound settled. (sound.0, (before, settled))) c.review.ensures.sound reviews.made reviews.unmade
