use Rattle.std.proofs.Common.{◌≡◌, ◌++◌}
use Rattle.json_out.specs.Values.{hex_digits}
use Rattle.json_out.proofs.value.put_digits.Given as goal

-- what is written, and then the digits that are left
abbrev pub invariant-loop-place : goal.invariant-loop-place
invariant-loop-place l = l.out.items ++ hex_digits l.place l.bits ≡ l.fn.out.items ++ hex_digits l.digits l.bits
