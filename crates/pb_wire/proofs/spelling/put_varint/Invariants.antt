use Rattle.std.proofs.Common.{◌≡◌, ◌≤◌, ◌<◌, ◌*◌, ◌-◌, ◌^◌, ◌++◌, length, take}
use Rattle.pb_wire.specs.Spelling.{number, number_text}
use Rattle.pb_wire.proofs.spelling.put_varint.Given as goal

abbrev pub invariant-loop-rest : goal.invariant-loop-rest
invariant-loop-rest l = record {
  len : l.len ≤ 9;
  room : length l.text ≡ 10;
  written : take l.len l.text ++ number (10 - l.len) l.rest ≡ number_text l.v;
  small : l.rest * 128 ^ l.len < 2 ^ 64;
}

abbrev pub decreases-loop-rest : goal.decreases-loop-rest
decreases-loop-rest l = l.rest
