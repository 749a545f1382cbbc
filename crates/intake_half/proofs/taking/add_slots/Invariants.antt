use Rattle.std.proofs.Common.{◌≡◌, ℕ, ◌≤◌, ◌^◌, length}
use Rattle.intake_half.specs.Known.{slot_at}
use Rattle.intake_half.proofs.taking.add_slots.Given as goal

-- the rows so far have slots, and those that are new are empty
abbrev pub invariant-loop-slot : goal.invariant-loop-slot
invariant-loop-slot l = record {
  there : length l.slots.items ≡ l._slot;
  more : length l.fn.slots.items ≤ l._slot;
  same : (i : ℕ) → slot_at l.slots.items i ≡ slot_at l.fn.slots.items i;
  few : length l.slots.items ≤ 2 ^ 32;
}
