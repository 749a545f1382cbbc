use Rattle.std.proofs.Common.{◌≡◌, drop}
use Rattle.std.specs.BTreeMap.{keys}
use Rattle.pins.proofs.EntryLemmas.{Counts}
use Rattle.pins.proofs.table.free_number.Given as goal

-- the numbers below `free` are those that were looked at
abbrev pub invariant-loop-number : goal.invariant-loop-number
invariant-loop-number l = record {
  counts : Counts (keys l.pins) l.free;
  rest : drop l.free (keys l.pins) ≡ l.number-iterator;
}
