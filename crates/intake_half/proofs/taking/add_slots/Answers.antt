use Rattle.std.proofs.Common.{◌≡◌, List, [], ◌∷◌, ◌++◌, Option, None, length, arith, ap, ◌∙◌, length-append}
use Rattle.intake_half.specs.Known.{slot_at}
use Rattle.intake_half.specs.declared.known.KnownRow.{KnownRow}
use Rattle.intake_half.proofs.Telling.{slot_pushed}
use Rattle.intake_half.proofs.taking.add_slots.Goals as goal

pub loop-slot-preserved : goal.loop-slot-preserved
loop-slot-preserved c =
    let slots = c.loop-slot.slots.items in
    let items : c.push.new.self.items ≡ slots ++ None ∷ [] = c.in_ok-push.ensures.items in
    let long = ap length items ∙ length-append slots (None ∷ []) in
    record {
      there = omega (arith, long, c.loop-slot.invariant.there);
      more = omega arith;
      same = λ i. ap (λ (xs : List (Option KnownRow)). slot_at xs i) items ∙ (slot_pushed slots i ∙ c.loop-slot.invariant.same i);
      few = omega (arith, long, c.loop-slot.invariant.there);
    }
