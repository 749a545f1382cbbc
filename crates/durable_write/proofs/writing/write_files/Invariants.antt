use Rattle.std.proofs.Common.{◌≡◌, ◌≢◌, ◌≤◌, List, take}
use Rattle.std.specs.Prelude.{All, IsTrue}
use Rattle.disk_model.specs.Files.{Name}
use Rattle.disk_model.specs.Past.{Passes}
use Rattle.gate_journal.specs.DiskShown.{shown_by}
use Rattle.partition_names.specs.declared.granularity.Granularity.{Granularity}
use Rattle.durable_write.specs.Held.{Filed, Held}
use Rattle.durable_write.specs.Flush.{MakesFiles}
use Rattle.durable_write.specs.Stored.{AreLong}
use Rattle.durable_write.specs.Writing.{Behind, IsOfNone, IsSafe, IsWritten}
use Rattle.durable_write.proofs.writing.write_files.Given as goal

abbrev pub invariant-loop-write : goal.invariant-loop-write
invariant-loop-write g l = record {
  crash : IsTrue g.D.Disk.tells → (gr : Granularity) (held : Held) (fs : List Filed) → IsSafe gr (l.fn.store, l.fn.rows) (shown_by g.D.Disk l.fn.disk) held → MakesFiles gr held l.writes fs → Passes (Behind held) (g.D.Disk.past l.fn.disk) (g.D.Disk.past l.disk);
  behind : IsTrue g.D.Disk.tells → (gr : Granularity) (held : Held) (fs : List Filed) → IsSafe gr (l.fn.store, l.fn.rows) (shown_by g.D.Disk l.fn.disk) held → MakesFiles gr held l.writes fs → Behind held (g.D.Disk.files l.fn.disk) (g.D.Disk.files l.disk);
  still : IsTrue g.D.Disk.tells → (gr : Granularity) (held : Held) (fs : List Filed) → IsSafe gr (l.fn.store, l.fn.rows) (shown_by g.D.Disk l.fn.disk) held → MakesFiles gr held l.writes fs → AreLong held (g.D.Disk.files l.disk);
  written : IsTrue g.D.Disk.tells → (gr : Granularity) (held : Held) (fs : List Filed) → IsSafe gr (l.fn.store, l.fn.rows) (shown_by g.D.Disk l.fn.disk) held → MakesFiles gr held l.writes fs → All (IsWritten held (g.D.Disk.files l.disk) (g.D.Disk.opened l.disk)) (take l.write-index fs);
  elsewhere : IsTrue g.D.Disk.tells → (n : Name) → n.0 ≢ l.fn.store → g.D.Disk.files l.disk n ≡ g.D.Disk.files l.fn.disk n;
  others : IsTrue g.D.Disk.tells → (n : Name) → IsOfNone (l.fn.store, l.fn.rows) l.writes n → g.D.Disk.files l.disk n ≡ g.D.Disk.files l.fn.disk n;
  no_more : IsTrue g.D.Disk.tells → (n : Name) → g.D.Disk.opened l.disk n ≤ g.D.Disk.opened l.fn.disk n;
  faults : g.D.Disk.faults l.fn.disk ≤ g.D.Disk.faults l.disk;
}
