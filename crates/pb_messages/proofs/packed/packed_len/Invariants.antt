use Rattle.std.proofs.Common.{◌≡◌, ◌+◌, length, drop}
use Rattle.std.specs.List.{flat_map}
use Rattle.pb_messages.proofs.packed.packed_len.Given as goal

abbrev pub invariant-loop-number : goal.invariant-loop-number
invariant-loop-number g l = l.len + length (flat_map g.P.Packing.text (drop l.number-index l.numbers)) ≡ length (flat_map g.P.Packing.text l.numbers)
