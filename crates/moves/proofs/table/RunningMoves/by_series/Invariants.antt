use Rattle.std.proofs.Common.{◌≡◌}
use Rattle.std.specs.BTreeMap.{get}
use Rattle.std.specs.Ordering.{nat_cmp}
use Rattle.moves.proofs.Telling.{Tells}
use Rattle.moves.proofs.table.RunningMoves.by_series.Given as goal

abbrev pub invariant-loop-slot : goal.invariant-loop-slot
invariant-loop-slot g l = record {
  counted : l.number ≡ l.slot-index;
  told : Tells l.self.slots.items l.number (get nat_cmp l.by);
}
