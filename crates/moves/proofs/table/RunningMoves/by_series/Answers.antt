use Rattle.std.proofs.Common.{◌≡◌, ◌+◌, ap, sym, subst, arith, get_or, length, ◌<◌}
use Rattle.std.specs.BTreeMap.{get}
use Rattle.std.specs.Ordering.{nat_cmp}
use Rattle.moves.proofs.Telling.{Tells, tells_next, tells_all}
use Rattle.moves.proofs.table.RunningMoves.by_series.Goals as goal

pub loop-slot-preserved : goal.loop-slot-preserved
loop-slot-preserved g c =
    let slots = c.args.self.now.slots.items in
    let of_slots = c.as_slice-slot-items.ensures.value in
    let counted = c.loop-slot.invariant.counted in
    let step : c.in_ok-number.number ≡ c.loop-slot.number + 1 = (rw c.in_ok-number.ensures.ok_part at c.checked_add.ensures).1 in
    let within : c.loop-slot.number < length slots = subst (λ n. n < length slots) (sym counted) (subst (λ xs. c.loop-slot.slot-index < length xs) of_slots c.loop-slot-test.true) in
    let is = subst (λ n. c.slot-item.result ≡ get_or slots n c.slot-item.result) (sym counted) (subst (λ xs. c.slot-item.result ≡ get_or xs c.loop-slot.slot-index c.slot-item.result) of_slots c.slot-item.is) in
    let next = tells_next slots c.loop-slot.number c.slot-item.result (get nat_cmp c.loop-slot.by) (get nat_cmp c.tell.new.by) within is c.in_ok-tell.ensures c.loop-slot.invariant.told in
    record { counted = omega (arith, step, counted); told = subst (λ n. Tells slots n (get nat_cmp c.tell.new.by)) (sym step) next }

pub returns-clause-all : goal.returns-clause-all
returns-clause-all g c = tells_all c.args.self.now.slots.items c.loop-slot.number (get nat_cmp c.loop-slot.by) (omega (arith, c.loop-slot-test.false, c.loop-slot.auto.slot-index-end, ap length c.as_slice-slot-items.ensures.value, c.loop-slot.invariant.counted)) c.loop-slot.invariant.told
