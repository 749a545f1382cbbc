use Rattle.std.proofs.Common.{◌≡◌, ◌≤◌, ◌<◌, ℕ, None, get_or, length, take}
use Rattle.std.specs.Prelude.{All, IsErr, IsSome, IsTrue, OnOk}
use Rattle.disk_model.specs.Files.{Name, Rose}
use Rattle.gate_journal.specs.DiskShown.{shown_by}
use Rattle.tier_store.specs.Limbo.{RemovesNames}
use Rattle.tier_store.proofs.removing.remove_all.Given as goal

-- of the names so far each is gone, or a failure is told, and those behind them are there
abbrev pub invariant-loop-name : goal.invariant-loop-name
invariant-loop-name g l = record {
  removes : IsTrue g.D.Disk.tells → RemovesNames l.names (shown_by g.D.Disk l.fn.disk) (shown_by g.D.Disk l.disk);
  gone : IsTrue g.D.Disk.tells → OnOk l.done (All (λ (n : Name). g.D.Disk.files l.disk n ≡ None) (take l.name-index l.names));
  there : IsTrue g.D.Disk.tells → (k : ℕ) (d : Name) → l.name-index ≤ k → k < length l.names → IsSome (g.D.Disk.files l.disk (get_or l.names k d));
  faults : g.D.Disk.faults l.fn.disk ≤ g.D.Disk.faults l.disk;
  cause : IsErr l.done → Rose (g.D.Disk.faults l.fn.disk) (g.D.Disk.faults l.disk);
}
