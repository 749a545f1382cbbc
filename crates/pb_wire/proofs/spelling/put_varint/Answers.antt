use Rattle.std.proofs.Common.{◌^◌, ◌<◌, arith, rules, refl}
use Rattle.std.proofs.lemmas.Grind.{common_steps}
use Rattle.pb_wire.specs.Spelling.{number_text}
use Rattle.pb_wire.proofs.Written.{starts, goes_on, ends, shrinks, at_nine}
use Rattle.pb_wire.proofs.spelling.put_varint.Goals as goal
use Rattle.pb_wire.proofs.spelling.put_varint.Goals.{then-loop-rest-test+else-len-lt9, else-loop-rest-test}

pub loop-rest-init : goal.loop-rest-init
loop-rest-init c = record { len = omega arith; room = refl; written = starts c.args.v; small = omega arith }

pub loop-rest-preserved : goal.loop-rest-preserved
loop-rest-preserved c =
    let l = c.loop-rest in
    record {
      len = omega arith;
      room = search rules;
      written = goes_on l.text (number_text c.args.v) l.len l.rest c.if-len-lt9.true l.invariant.room c.loop-rest-test.true l.invariant.written;
      small = shrinks l.rest l.len (2 ^ 64) l.invariant.small;
    }

pub returns-clause-ok : goal.returns-clause-ok
returns-clause-ok c =
    let l = c.loop-rest in
    let small : l.rest < 128 = elim c.loop-rest-test.branch [ then-loop-rest-test+else-len-lt9 w ↦ at_nine l.rest l.len (omega arith) l.invariant.small | else-loop-rest-test w ↦ omega arith ] in
    let whole = ends l.text (number_text c.args.v) l.len l.rest l.invariant.len l.invariant.room small l.invariant.written in
    grind (arith, common_steps)
