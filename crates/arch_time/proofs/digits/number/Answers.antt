use Rattle.std.proofs.Common.{arith}
use Rattle.arch_time.proofs.DigitLemmas.{eight_digits}
use Rattle.arch_time.proofs.digits.number.Goals as goal

pub overflow_mul-value : goal.overflow_mul-value
overflow_mul-value c = omega (arith, eight_digits c.loop-byte.value c.loop-byte.byte-index c.loop-byte.invariant.bound (omega arith))

pub overflow_add-value : goal.overflow_add-value
overflow_add-value c = omega (arith, eight_digits c.loop-byte.value c.loop-byte.byte-index c.loop-byte.invariant.bound (omega arith))
