use Rattle.std.proofs.Common.{◌≡◌, length}
use Rattle.intake_half.specs.Taking.{all_told}
use Rattle.intake_half.proofs.taking.take_rows.Given as goal

-- the rows so far are taken over
abbrev pub invariant-loop-told : goal.invariant-loop-told
invariant-loop-told l = record {
  done : l.slots.items ≡ all_told l.yielded l.fn.slots.items;
  long : length l.slots.items ≡ length l.fn.slots.items;
}
