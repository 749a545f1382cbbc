use Rattle.std.proofs.Common.{arith, ◌-◌, ◌*◌, ◌<◌, length, take, drop, length-take, length-drop}
use Rattle.arch_time.proofs.DigitLemmas.{scaled}
use Rattle.arch_time.proofs.iso.fraction.Goals as goal

below : (c : goal.After-pow) → c.in_ok-value.value * c.pow.result < 1_000_000_000
below c =
    rw c.pow.ensures
    (scaled c.in_ok-value.value (length (take (length c.args.text.now - 1) (drop 1 c.args.text.now))) c.in_ok-value.ensures.bound (simp (length-take, length-drop) (omega arith)))

pub overflow_mul-result : goal.overflow_mul-result
overflow_mul-result c = omega (arith, below c)

pub returns-clause-bound : goal.returns-clause-bound
returns-clause-bound c = below c
