use Rattle.std.proofs.Common.{◌≤◌, ◌-◌, ◌+◌, List, IsTrue}
use Rattle.series_model.specs.declared.sample.Sample.{Sample}
use Rattle.gate_journal.specs.DiskShown.{shown_by, ReadsDisk}
use Rattle.tier_store.specs.Counting.{HasLines}
use Rattle.tier_store.proofs.Lines.{IsBetween}
use Rattle.tier_store.proofs.counting.count_between.Given as goal

abbrev pub invariant-loop-at : goal.invariant-loop-at
invariant-loop-at g l = record {
  some : 1 ≤ l.want;
  few : l.count ≤ l.at;
  between : IsTrue g.D.Disk.tells → (samples : List Sample) → HasLines (g.D.Disk.files l.fn.disk) l.name l.from l.end l.ty l.year.year samples → IsBetween (g.D.Disk.files l.fn.disk) l.name l.from l.at l.end l.ty l.year.year (l.last + 1) samples l.count;
  reads : IsTrue g.D.Disk.tells → ReadsDisk (shown_by g.D.Disk l.fn.disk) (shown_by g.D.Disk l.disk);
  faults : g.D.Disk.faults l.fn.disk ≤ g.D.Disk.faults l.disk;
}

abbrev pub decreases-loop-at : goal.decreases-loop-at
decreases-loop-at g l = (l.end - l.at) + (l.end - l.want)
