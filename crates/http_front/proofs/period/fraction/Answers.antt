use Rattle.std.proofs.Common.{arith, ◌*◌, ◌<◌, length}
use Rattle.arch_time.proofs.DigitLemmas.{scaled}
use Rattle.http_front.proofs.period.fraction.Goals as goal

below : (c : goal.After-pow) → c.in_ok-value.value * c.pow.result < 1_000_000_000
below c = rw c.pow.ensures (scaled c.in_ok-value.value (length c.in-Some.digits.now) c.in_ok-value.ensures.bound (omega arith))

pub overflow_mul-result : goal.overflow_mul-result
overflow_mul-result c = omega (arith, below c)

pub returns-clause-bound : goal.returns-clause-bound
returns-clause-bound c = below c
