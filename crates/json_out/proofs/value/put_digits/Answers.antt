use Rattle.std.proofs.Common.{◌++◌, arith}
use Rattle.json_out.specs.Values.{hex_digits}
use Rattle.json_out.proofs.Texts.{digit_put, digits_done}
use Rattle.json_out.proofs.value.put_digits.Goals as goal

pub loop-place-preserved : goal.loop-place-preserved
loop-place-preserved c =
    digit_put c.loop-place.place c.args.bits c.hex_digit.result c.loop-place.out.items c.push.new.self.items (c.args.out.now.items ++ hex_digits c.args.digits c.args.bits) (omega arith) c.hex_digit.ensures c.in_ok-push.ensures.items c.loop-place.invariant

pub returns : goal.returns
returns c = digits_done c.loop-place.place c.args.bits c.loop-place.out.items (c.args.out.now.items ++ hex_digits c.args.digits c.args.bits) (omega arith) c.loop-place.invariant
