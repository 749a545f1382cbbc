use Rattle.std.proofs.Common.{◌-◌, arith}
use Rattle.pb_wire.proofs.ReadLemmas.{one_byte}
use Rattle.pb_wire.proofs.ShortLemmas.{short2, short3, short4, short5}
use Rattle.pb_wire.proofs.reading.read_short_varint.Goals as goal

pub returns-then-b0-lt128-clause-read : goal.returns-then-b0-lt128-clause-read
returns-then-b0-lt128-clause-read c = rw (c.in_ok-b0.ensures.cases.0, c.from.ensures) (one_byte c.args.end c.in_ok-b0.b0.now c.in_ok-b0.rest.now c.if-b0-lt128.true)

pub returns-then-b1-lt128-clause-read : goal.returns-then-b1-lt128-clause-read
returns-then-b1-lt128-clause-read c =
    let fits = rw (c.in_ok-b0.ensures.cases.0, c.in_ok-b1.ensures.cases.0) at c.type_inv.bytes in
    rw (c.in_ok-b0.ensures.cases.0, c.in_ok-b1.ensures.cases.0, c.from-low.ensures, c.from-then-b1-lt128.ensures) (short2 c.args.end c.in_ok-b0.b0.now c.in_ok-b1.b1.now c.in_ok-b1.rest.now fits (omega (arith, c.if-b0-lt128.false)) c.if-b1-lt128.true)

pub returns-then-b2-lt128-clause-read : goal.returns-then-b2-lt128-clause-read
returns-then-b2-lt128-clause-read c =
    let fits = rw (c.in_ok-b0.ensures.cases.0, c.in_ok-b1.ensures.cases.0, c.in_ok-b2.ensures.cases.0) at c.type_inv.bytes in
    rw (c.in_ok-b0.ensures.cases.0, c.in_ok-b1.ensures.cases.0, c.in_ok-b2.ensures.cases.0, c.from-low.ensures, c.from-2.ensures, c.from-then-b2-lt128.ensures) (short3 c.args.end c.in_ok-b0.b0.now c.in_ok-b1.b1.now c.in_ok-b2.b2.now c.in_ok-b2.rest.now fits (omega (arith, c.if-b0-lt128.false)) (omega (arith, c.if-b1-lt128.false)) c.if-b2-lt128.true)

pub returns-then-b3-lt128-clause-read : goal.returns-then-b3-lt128-clause-read
returns-then-b3-lt128-clause-read c =
    let fits = rw (c.in_ok-b0.ensures.cases.0, c.in_ok-b1.ensures.cases.0, c.in_ok-b2.ensures.cases.0, c.in_ok-b3.ensures.cases.0) at c.type_inv.bytes in
    rw (c.in_ok-b0.ensures.cases.0, c.in_ok-b1.ensures.cases.0, c.in_ok-b2.ensures.cases.0, c.in_ok-b3.ensures.cases.0, c.from-low.ensures, c.from-2.ensures, c.from-3.ensures, c.from-then-b3-lt128.ensures) (short4 c.args.end c.in_ok-b0.b0.now c.in_ok-b1.b1.now c.in_ok-b2.b2.now c.in_ok-b3.b3.now c.in_ok-b3.rest.now fits (omega (arith, c.if-b0-lt128.false)) (omega (arith, c.if-b1-lt128.false)) (omega (arith, c.if-b2-lt128.false)) c.if-b3-lt128.true)

pub returns-then-b4-lt128-clause-read : goal.returns-then-b4-lt128-clause-read
returns-then-b4-lt128-clause-read c =
    let fits = rw (c.in_ok-b0.ensures.cases.0, c.in_ok-b1.ensures.cases.0, c.in_ok-b2.ensures.cases.0, c.in_ok-b3.ensures.cases.0, c.in_ok-b4.ensures.cases.0) at c.type_inv.bytes in
    rw (c.in_ok-b0.ensures.cases.0, c.in_ok-b1.ensures.cases.0, c.in_ok-b2.ensures.cases.0, c.in_ok-b3.ensures.cases.0, c.in_ok-b4.ensures.cases.0, c.from-low.ensures, c.from-2.ensures, c.from-3.ensures, c.from-4.ensures, c.from-then-b4-lt128.ensures) (short5 c.args.end c.in_ok-b0.b0.now c.in_ok-b1.b1.now c.in_ok-b2.b2.now c.in_ok-b3.b3.now c.in_ok-b4.b4.now c.in_ok-b4.rest.now fits (omega (arith, c.if-b0-lt128.false)) (omega (arith, c.if-b1-lt128.false)) (omega (arith, c.if-b2-lt128.false)) (omega (arith, c.if-b3-lt128.false)) c.if-b4-lt128.true)
