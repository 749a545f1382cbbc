use Rattle.std.proofs.Common.{◌≡◌, ◌-◌, ◌<◌, ◌≤◌, ℕ, List, length, Some, IsTrue}
use Rattle.gate_journal.specs.Batches.{IsRead}
use Rattle.gate_journal.specs.DiskShown.{ReadsDisk, shown_by}
use Rattle.gate_journal.specs.Window.{IsPiece}
use Rattle.gate_journal.proofs.load_plain.walk.Given as goal

abbrev pub invariant-loop-window : goal.invariant-loop-window
invariant-loop-window g l = record {
  within : l.place < l.size;
  counted : l.number ≤ l.place;
  size : l.window.size ≡ l.size;
  piece : IsTrue g.D.Disk.tells → (b : List ℕ) → g.D.Disk.files l.fn.disk l.name ≡ Some b → IsPiece l.window b;
  took : (bs : List (List ℕ)) × g.F.BatchFold.took l.fold bs × (l.number ≡ length bs) × (IsTrue g.D.Disk.tells → (b : List ℕ) → g.D.Disk.files l.fn.disk l.name ≡ Some b → IsRead b l.place bs);
  reads : IsTrue g.D.Disk.tells → ReadsDisk (shown_by g.D.Disk l.fn.disk) (shown_by g.D.Disk l.disk);
  faults : g.D.Disk.faults l.fn.disk ≤ g.D.Disk.faults l.disk;
}

abbrev pub decreases-loop-window : goal.decreases-loop-window
decreases-loop-window g l = l.size - l.place
