use Rattle.std.proofs.Common.{◌≡◌, ◌+◌, ◌∷◌, [], length, arith, ap, ◌∙◌}
use Rattle.intake.specs.Tails.{size_of}
use Rattle.intake.proofs.TailLemmas.{size_of-append}
use Rattle.intake.proofs.tail.Tail.push.Goals as goal

pub invariant_of-self-2 : goal.invariant_of-self-2
invariant_of-self-2 c =
    let one : size_of (c.args.sample ∷ []) ≡ length c.args.sample.line + 1 = omega arith in
    let more = ap size_of c.in_ok-push.ensures.items ∙ size_of-append c.self.inside.samples.items (c.args.sample ∷ []) in
    omega (arith, c.self.invariant, c.line_bytes-bytes.ensures)
