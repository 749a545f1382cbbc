use Rattle.arch_time.proofs.DigitLemmas.{HasRead}
use Rattle.arch_time.proofs.digits.number.Given as goal

abbrev pub invariant-loop-byte : goal.invariant-loop-byte
invariant-loop-byte l = HasRead l.text l.byte-index l.value
