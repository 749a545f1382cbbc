use Rattle.std.proofs.Common.{arith}
use Rattle.pb_wire.proofs.LengthLemmas.{count_starts, count_more, count_ends}
use Rattle.pb_wire.proofs.spelling.varint_len.Goals as goal

pub loop-rest-init : goal.loop-rest-init
loop-rest-init c = count_starts c.args.v (omega arith)

pub loop-rest-preserved : goal.loop-rest-preserved
loop-rest-preserved c = count_more c.args.v c.loop-rest.len c.loop-rest.rest (omega arith) c.loop-rest.invariant

pub returns-clause-len : goal.returns-clause-len
returns-clause-len c = count_ends c.args.v c.loop-rest.len c.loop-rest.rest (omega arith) c.loop-rest.invariant
