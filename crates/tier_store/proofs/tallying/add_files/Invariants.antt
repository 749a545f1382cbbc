use Rattle.std.proofs.Common.{◌≡◌, ◌≤◌, ◌+◌, List, map, take, IsTrue}
use Rattle.std.specs.Prelude.{All}
use Rattle.std.specs.List.{flat_map}
use Rattle.partition_names.specs.declared.granularity.Granularity.{Granularity}
use Rattle.series_model.specs.Series.{over, IsRising}
use Rattle.series_model.specs.declared.sample.Sample.{Sample}
use Rattle.gate_journal.specs.DiskShown.{shown_by, ReadsDisk}
use Rattle.durable_write.specs.Held.{Filed, entry_of}
use Rattle.tier_store.specs.Counting.{behind}
use Rattle.tier_store.specs.Details.{IsTally, IsWhole}
use Rattle.tier_store.specs.Tallying.{RiseFrom, end_of_files, listed_count}
use Rattle.tier_store.proofs.tallying.add_files.Given as goal

abbrev pub invariant-loop-entry : goal.invariant-loop-entry
invariant-loop-entry g l = record {
  tally : IsTrue g.D.Disk.tells → (h : Granularity) (files : List Filed) (samples : List Sample) → l.entries ≡ map entry_of files → All (IsWhole h (l.store, l.rows) (g.D.Disk.files l.fn.disk)) files → IsRising (flat_map (λ (f : Filed). f.samples) files) → IsTally samples l.fn.tally
      → IsTally (over samples (flat_map (λ (f : Filed). f.samples) (take l.entry-index files))) l.tally;
  listed : RiseFrom (behind l.fn.tally.last) l.entries → (l.tally.count ≡ l.fn.tally.count + listed_count (take l.entry-index l.entries)) × (behind l.tally.last ≡ end_of_files (behind l.fn.tally.last) (take l.entry-index l.entries));
  ends : behind l.tally.last ≡ end_of_files (behind l.fn.tally.last) (take l.entry-index l.entries);
  reads : IsTrue g.D.Disk.tells → ReadsDisk (shown_by g.D.Disk l.fn.disk) (shown_by g.D.Disk l.disk);
  faults : g.D.Disk.faults l.fn.disk ≤ g.D.Disk.faults l.disk;
}
