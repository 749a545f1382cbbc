use Rattle.std.proofs.Common.{◌<◌, ◌≤◌, ◌^◌, length, arith, sym, ap, ◌∙◌}
use Rattle.intake.specs.Tails.{size_of}
use Rattle.intake.proofs.TailLemmas.{intake_set}
use Rattle.intake.proofs.intake.Intake.reserve.Goals as goal

pub invariant_of-self-2 : goal.invariant_of-self-2
invariant_of-self-2 c =
    let tails = c.add_rows.new.tails in
    let within : c.args.row < length tails.items = omega (arith, tails.ok.0, c.in_ok-add_rows.ensures.there) in
    let few : length tails.items ≤ 2 ^ 32 = omega (arith, tails.ok.0, c.add_rows.ensures.few) in
    let same = ap size_of c.reserve.ensures.samples in
    intake_set tails.items c.args.row c.index_mut.result.now c.reserve.new.self c.self.inside.held c.self.inside.held few within c.index_mut.ensures.value (c.self.invariant.bytes ∙ sym c.add_rows.ensures.held) (omega arith) c.self.invariant.most
