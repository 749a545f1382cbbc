use Rattle.std.proofs.Common.{◌≡◌, List, [], ◌∷◌, ◌++◌, arith, ap, ◌∙◌}
use Rattle.intake.specs.Tails.{TailState, no_tail, tail_at, held_bytes}
use Rattle.intake.proofs.TailLemmas.{tail_at-new, held_bytes-new}
use Rattle.intake.proofs.intake.add_rows.Goals as goal

pub loop-row-preserved : goal.loop-row-preserved
loop-row-preserved c =
    let tails = c.loop-row.tails.items in
    let items : c.push.new.self.items ≡ tails ++ no_tail ∷ [] = c.in_ok-push.ensures.items ∙ ap (λ (tail : TailState). tails ++ tail ∷ []) c.new.ensures in
    record {
      there = omega (arith, c.in_ok-push.ensures.len);
      more = omega arith;
      same = λ other. ap (λ (xs : List TailState). tail_at xs other) items ∙ (tail_at-new tails other ∙ c.loop-row.invariant.same other);
      held = ap held_bytes items ∙ (held_bytes-new tails ∙ c.loop-row.invariant.held);
      few = omega (arith, c.in_ok-push.ensures.len);
    }
