use Rattle.std.proofs.Common.{◌≡◌, ℕ, ◌<◌, ◌≤◌, ◌^◌, List, Some, length}
use Rattle.std.specs.Prelude.{slice_get}
use Rattle.two_histories.specs.ArchiveStore.{RegisteredRow}
use Rattle.intake_half.specs.Known.{number_of, slot_at}
use Rattle.intake_half.proofs.taking.make_room.Given as goal

-- the rows so far have slots and names, and all that was known stays
abbrev pub invariant-loop-told : goal.invariant-loop-told
invariant-loop-told l = record {
  there : (i : ℕ) (told : RegisteredRow) → i < l.told-index → slice_get l.rows i ≡ Some told → (told.row < length l.slots.items) × (number_of l.names told.name ≡ Some told.row);
  few : length l.slots.items ≤ 2 ^ 32;
  same : (i : ℕ) → slot_at l.slots.items i ≡ slot_at l.fn.slots.items i;
  names : (name : List ℕ) (number : ℕ) → number_of l.fn.names name ≡ Some number → ((i : ℕ) (told : RegisteredRow) → slice_get l.rows i ≡ Some told → name ≡ told.name → number ≡ told.row) → number_of l.names name ≡ Some number;
}
