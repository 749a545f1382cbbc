use Rattle.std.proofs.Common.{◌≡◌, ◌≤◌, ◌*◌, ◌-◌, ◌^◌, length}
use Rattle.pb_wire.specs.Reading.{number_at, varint_at}
use Rattle.pb_wire.proofs.ReadLemmas.{with_low}
use Rattle.pb_wire.proofs.reading.read_long_varint.Given as goal

abbrev pub invariant-loop : goal.invariant-loop
invariant-loop l = record {
  shift : l.shift ≡ 7 * l.counter;
  shorter : length l.rest ≤ length l.bytes;
  read : with_low l.value (2 ^ l.shift) (number_at (l.end - length l.bytes) (10 - l.counter) l.rest) ≡ varint_at l.end l.bytes;
}
