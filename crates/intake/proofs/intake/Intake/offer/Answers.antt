use Rattle.std.proofs.Common.{◌≡◌, ◌<◌, ◌≤◌, ◌+◌, ◌^◌, [], ◌∷◌, length, arith, sym, ap, ◌∙◌}
use Rattle.intake.specs.Tails.{size_of}
use Rattle.intake.proofs.TailLemmas.{size_of-append, size_of-read-le, intake_set}
use Rattle.intake.proofs.intake.Intake.offer.Goals as goal

pub push-requires : goal.push-requires
push-requires c =
    let tails = c.add_rows.new.tails in
    let within : c.args.row < length tails.items = omega (arith, tails.ok.0, c.in_ok-add_rows.ensures.there) in
    let low = size_of-read-le tails.items c.args.row c.index_mut.result.now within c.index_mut.ensures.value in
    let line = ap length c.bytes.ensures in
    omega (arith, c.self.invariant.bytes, c.self.invariant.most, c.add_rows.ensures.held, c.if-bytes-self.false)

pub invariant_of-self-in_err-push : goal.invariant_of-self-in_err-push
invariant_of-self-in_err-push c =
    let tails = c.add_rows.new.tails in
    let within : c.args.row < length tails.items = omega (arith, tails.ok.0, c.in_ok-add_rows.ensures.there) in
    let few : length tails.items ≤ 2 ^ 32 = omega (arith, tails.ok.0, c.add_rows.ensures.few) in
    let same = ap size_of c.in_err-push.ensures.err in
    intake_set tails.items c.args.row c.index_mut.result.now c.push.new.self c.self.inside.held c.self.inside.held few within c.index_mut.ensures.value (c.self.invariant.bytes ∙ sym c.add_rows.ensures.held) (omega arith) c.self.invariant.most

pub invariant_of-self-2 : goal.invariant_of-self-2
invariant_of-self-2 c =
    let tails = c.add_rows.new.tails in
    let within : c.args.row < length tails.items = omega (arith, tails.ok.0, c.in_ok-add_rows.ensures.there) in
    let few : length tails.items ≤ 2 ^ 32 = omega (arith, tails.ok.0, c.add_rows.ensures.few) in
    let line = ap length c.bytes.ensures in
    let one : size_of (c.args.sample ∷ []) ≡ length c.args.sample.line + 1 = omega arith in
    let more = ap size_of c.in_ok-push.ensures.ok ∙ size_of-append c.index_mut.result.now.samples (c.args.sample ∷ []) in
    intake_set tails.items c.args.row c.index_mut.result.now c.push.new.self c.self.inside.held _ few within c.index_mut.ensures.value (c.self.invariant.bytes ∙ sym c.add_rows.ensures.held) (omega arith) (omega (arith, c.if-bytes-self.false, c.self.invariant.most))
