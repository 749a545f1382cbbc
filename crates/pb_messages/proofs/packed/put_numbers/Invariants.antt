use Rattle.std.proofs.Common.{◌≡◌, ◌++◌, drop}
use Rattle.std.specs.List.{flat_map, AllByRecursion}
use Rattle.std.specs.Io.{StartsWith}
use Rattle.pb_messages.proofs.packed.put_numbers.Given as goal

abbrev pub invariant-loop-number : goal.invariant-loop-number
invariant-loop-number g l = record {
  grows : StartsWith l.out.items l.fn.out.items;
  written : l.out.items ++ flat_map g.P.Packing.text (drop l.number-index l.numbers) ≡ l.fn.out.items ++ flat_map g.P.Packing.text l.numbers;
  fits : AllByRecursion g.P.Packing.in_type (drop l.number-index l.numbers) → AllByRecursion g.P.Packing.in_type l.numbers;
}
