use Rattle.std.proofs.Common.{◌-◌, ◌^◌, length, arith, rules, refl}
use Rattle.std.proofs.lemmas.List.{nil_from_length}
use Rattle.pb_wire.specs.Reading.{varint_at}
use Rattle.pb_wire.proofs.ReadLemmas.{starts, ends, too_long, last, goes_on, shift_is}
use Rattle.pb_wire.proofs.reading.read_long_varint.Goals as goal

pub loop-init : goal.loop-init
loop-init c = record { shift = refl; shorter = omega arith; read = starts c.args.end c.args.bytes.now }

pub returns-in_default-clause-read : goal.returns-in_default-clause-read
returns-in_default-clause-read c =
    let at = c.args.end - length c.args.bytes.now in
    let nothing = nil_from_length c.loop.rest.now (search rules) in
    ends at c.loop.counter c.loop.value (2 ^ c.loop.shift) (varint_at c.args.end c.args.bytes.now) (omega arith) (rw nothing at c.loop.invariant.read)

pub returns-then-first-lt128-clause-read : goal.returns-then-first-lt128-clause-read
returns-then-first-lt128-clause-read c =
    let at = c.args.end - length c.args.bytes.now in
    let so_far = rw c.in-Some.ensures.cases.0 at c.loop.invariant.read in
    let low = last at c.loop.counter c.loop.value (2 ^ c.loop.shift) c.in-Some.first.now c.in-Some.others.now (varint_at c.args.end c.args.bytes.now) (omega arith) c.if-first-lt128.true so_far in
    rw (c.wrapping_shl.ensures, c.from.ensures, shift_is c.loop.shift (omega arith)) low

pub loop-preserved : goal.loop-preserved
loop-preserved c =
    let at = c.args.end - length c.args.bytes.now in
    let so_far = rw c.in-Some.ensures.cases.0 at c.loop.invariant.read in
    let more = goes_on at c.loop.counter c.loop.value c.loop.shift c.in-Some.first.now c.in-Some.others.now (varint_at c.args.end c.args.bytes.now) (omega arith) c.if-first-lt128.false so_far in
    record { shift = omega arith; shorter = omega (arith, c.in-Some.ensures.cases.1, c.loop.invariant.shorter); read = rw (c.wrapping_shl-value.ensures, c.from-in-loop.ensures, shift_is c.loop.shift (omega arith)) more }

pub returns-clause-read : goal.returns-clause-read
returns-clause-read c =
    let at = c.args.end - length c.args.bytes.now in
    too_long at c.loop.counter c.loop.value (2 ^ c.loop.shift) c.loop.rest.now (varint_at c.args.end c.args.bytes.now) (omega arith) c.loop.invariant.read
