use Rattle.pb_wire.proofs.LengthLemmas.{Counts}
use Rattle.pb_wire.proofs.spelling.varint_len.Given as goal

abbrev pub invariant-loop-rest : goal.invariant-loop-rest
invariant-loop-rest l = Counts l.v l.len l.rest

abbrev pub decreases-loop-rest : goal.decreases-loop-rest
decreases-loop-rest l = l.rest
