use Rattle.std.proofs.Common.{◌≤◌, ◌-◌, ◌+◌, List, IsTrue}
use Rattle.disk_model.specs.Files.{HasFile}
use Rattle.gate_journal.specs.DiskShown.{shown_by, ReadsDisk}
use Rattle.series_model.specs.declared.sample.Sample.{Sample}
use Rattle.tier_store.specs.Counting.{HasLines, behind}
use Rattle.tier_store.specs.Finding.{AreLinesFrom}
use Rattle.tier_store.proofs.Lines.{IsBetween}
use Rattle.tier_store.proofs.finding.next_between.Given as goal

abbrev pub invariant-loop-at : goal.invariant-loop-at
invariant-loop-at g l = record {
  some : 1 ≤ l.want;
  low : l.from ≤ l.at;
  high : l.at ≤ l.end;
  between : IsTrue g.D.Disk.tells → (samples : List Sample) → HasLines (g.D.Disk.files l.fn.disk) l.name l.from l.end l.ty l.year.year samples → IsBetween (g.D.Disk.files l.fn.disk) l.name l.from l.at l.end l.ty l.year.year (behind l.last) samples 0;
  told : IsTrue g.D.Disk.tells → HasFile (g.D.Disk.files l.fn.disk) l.name (AreLinesFrom l.ty l.year.year l.from l.at);
  reads : IsTrue g.D.Disk.tells → ReadsDisk (shown_by g.D.Disk l.fn.disk) (shown_by g.D.Disk l.disk);
  faults : g.D.Disk.faults l.fn.disk ≤ g.D.Disk.faults l.disk;
}

abbrev pub decreases-loop-at : goal.decreases-loop-at
decreases-loop-at g l = (l.end - l.at) + (l.end - l.want)
