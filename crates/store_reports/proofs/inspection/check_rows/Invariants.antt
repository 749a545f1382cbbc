use Rattle.std.proofs.Common.{ℕ, List, ◌++◌, Option, Ok}
use Rattle.disk_model.specs.Files.{Files}
use Rattle.pins.specs.Choosing.{listed}
use Rattle.pins.specs.declared.choosing.Listed.{Listed}
use Rattle.pv_catalog.specs.declared.row.Row.{Row}
use Rattle.tier_store.specs.Seen.{seen}
use Rattle.store_reports.specs.Listing.{entries_at}
use Rattle.store_reports.specs.Telling.{AreTold, Leaves, Shows}
use Rattle.store_reports.proofs.Telling.{below}
use Rattle.store_reports.proofs.inspection.check_rows.Given as goal

abbrev pub invariant-loop-row : goal.invariant-loop-row
invariant-loop-row g l = record {
  told : (rows : List Row) (files : Files) → Shows g.D.Disk.tells (seen g.D.Disk l.fn.store) rows files
      → (before : List Listed) (a : Option (List ℕ)) → AreTold g.D.Disk.tells rows files before a (g.K.Sink.written l.fn.sink) l.fn.report.buffer l.fn.report.first
      → AreTold g.D.Disk.tells rows files (before ++ listed l.number (below l.row (entries_at l.number l.fn.store.manifests.items))) a (g.K.Sink.written l.sink) l.report.buffer l.report.first;
  leaves : Leaves {X = Unit {0}} g.D.Disk l.fn.store l.store g.D.Reader.ReadAt.faults (g.K.Sink.write_faults l.fn.sink) (g.K.Sink.write_faults l.sink) (Ok tt);
}
