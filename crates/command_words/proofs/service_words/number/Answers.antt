use Rattle.std.proofs.Common.{◌≡◌, ℕ, List, [], ◌∷◌, true, arith, refl, sym, ap, subst, ◌∙◌}
use Rattle.std.specs.Prelude.{not, nat_eq, decimal}
use Rattle.std.specs.Cmp.Lexicographic.{pointwise}
use Rattle.std.proofs.lemmas.Bool.{eq-eqb, false≢true}
use Rattle.std.proofs.lemmas.Fmt.{parse-decimal}
use Rattle.command_words.proofs.service_words.number.Goals as goal
use Rattle.command_words.proofs.service_words.number.Goals.{then-number-least-via-then-number-least, then-number-least-via-else-number-least+then-number-most, then-number-least-via-else-number-least+else-number-most+then-ne}

same_text : (text : List ℕ) → pointwise nat_eq text text ≡ true
same_text [] = refl
same_text (c ∷ text) = rw (eq-eqb c c refl) (same_text text)

pub returns-in_default-clause-none : goal.returns-in_default-clause-none
returns-in_default-clause-none c n is range =
    let read = parse-decimal 32 n c.args.word.now c.parse.result (omega (arith, range.1, c.ranges.most.fits)) (omega (arith, range.1, c.ranges.most.fits)) is c.parse.ensures.value.0 in
    let not_read = c.in_default.is in
    cc

pub returns-then-number-least-clause-none : goal.returns-then-number-least-clause-none
returns-then-number-least-clause-none c n is range =
    let read = parse-decimal 32 n c.args.word.now c.parse.result (omega (arith, range.1, c.ranges.most.fits)) (omega (arith, range.1, c.ranges.most.fits)) is c.parse.ensures.value.0 in
    let was = c.in-Ok.is in
    let same : c.in-Ok.number ≡ n = cc in
    elim c.then-number-least.branch [
      | then-number-least-via-then-number-least w ↦ omega (arith, same, range.0, w.if-number-least.true)
      | then-number-least-via-else-number-least+then-number-most w ↦ omega (arith, same, range.1, w.if-number-most.true)
      | then-number-least-via-else-number-least+else-number-most+then-ne w ↦ (
          let texts = w.format.ensures.text ∙ ap decimal same ∙ sym is in
          let equal = subst (λ text. pointwise nat_eq text c.args.word.now ≡ true) (sym texts) (same_text c.args.word.now) in
          false≢true (sym (sym w.if-ne.true ∙ w.ne.ensures ∙ ap not equal)))
    ]
