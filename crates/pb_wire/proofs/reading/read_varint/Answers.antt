use Rattle.pb_wire.proofs.ReadLemmas.{one_byte}
use Rattle.pb_wire.proofs.reading.read_varint.Goals as goal

pub returns-in-Some-clause-read : goal.returns-in-Some-clause-read
returns-in-Some-clause-read c = rw (c.in-Some.ensures.cases.0, c.from.ensures) (one_byte c.args.end c.in-Some.first.now c.in-Some.rest.now c.if-first-lt128.true)
