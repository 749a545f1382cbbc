use Rattle.std.proofs.Common.{◌≡◌, ◌≤◌, []}
use Rattle.edge_io.specs.Sent.{Sends}
use Rattle.durable_write.specs.Ends.{Done}
use Rattle.tier_store.specs.Seen.{seen}
use Rattle.store_reports.specs.Keeping.{KeepsStores}
use Rattle.store_reports.specs.Status.{RowLines}
use Rattle.store_reports.proofs.summary.write_rows.Given as goal

abbrev pub invariant-loop-row : goal.invariant-loop-row
invariant-loop-row g l = record {
  told : l.fn.buffer ≡ [] → RowLines g.D.Disk.tells (seen g.D.Disk l.fn.store) l.row (λ text. Sends (g.K.Sink.written l.fn.sink) (g.K.Sink.written l.sink) text l.buffer);
  stores : KeepsStores {A = Unit {0}} {E = ⊥} g.D.Disk l.fn.store l.store (Done tt);
  faults : g.K.Sink.write_faults l.fn.sink ≤ g.K.Sink.write_faults l.sink;
}
