use Rattle.std.proofs.Common.{◌≡◌}
use Rattle.unit_cases.specs.Counting.{counts_acts}
use Rattle.turn_rooms.specs.Passes.{IsPassOf, standing}
use Rattle.unit_cases.proofs.rooms.work.Given as goal

abbrev pub invariant-loop-act : goal.invariant-loop-act
invariant-loop-act g l = record {
  rooms : IsPassOf counts_acts l.rooms l.pass;
  same : standing l.pass ≡ standing l.fn.pass;
}
