use Rattle.std.proofs.Common.{◌<◌, length, arith}
use Rattle.intake.proofs.TailLemmas.{size_of-read-le, intake_set}
use Rattle.intake.proofs.intake.Intake.trim.Goals as goal

pub overflow_sub-self : goal.overflow_sub-self
overflow_sub-self c =
    let within : c.args.row < length c.self.inside.tails.items = omega (arith, c.self.inside.tails.ok.0) in
    let low = size_of-read-le c.self.inside.tails.items c.args.row c.index_mut.result.now within c.index_mut.ensures.value in
    omega (arith, c.self.invariant.bytes, c.trim-given_up.ensures.bytes)

pub invariant_of-self : goal.invariant_of-self
invariant_of-self c =
    let within : c.args.row < length c.self.inside.tails.items = omega (arith, c.self.inside.tails.ok.0) in
    let low = size_of-read-le c.self.inside.tails.items c.args.row c.index_mut.result.now within c.index_mut.ensures.value in
    intake_set c.self.inside.tails.items c.args.row c.index_mut.result.now c.trim-given_up.new.self c.self.inside.held _ c.self.invariant.few within c.index_mut.ensures.value c.self.invariant.bytes
    (omega (arith, c.self.invariant.bytes, c.trim-given_up.ensures.bytes))
    (omega (arith, c.self.invariant.most))
