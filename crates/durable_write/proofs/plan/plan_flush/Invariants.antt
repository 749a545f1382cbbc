use Rattle.std.proofs.Common.{◌≤◌, ◌<◌, ℕ, All, take, map, length, get_or, Bor}
use Rattle.series_model.specs.declared.batch.RowSamples.{RowSamples}
use Rattle.partition_names.specs.Part.{IsPart}
use Rattle.durable_write.specs.declared.file_write.FileWrite.{FileWrite}
use Rattle.std.specs.List.{sum_by}
use Rattle.durable_write.specs.Plan.{Plans}
use Rattle.durable_write.proofs.Batches.{samples_in}
use Rattle.durable_write.proofs.plan.plan_flush.Given as goal

abbrev pub invariant-loop-part : goal.invariant-loop-part
invariant-loop-part l = record {
  parts : All (λ (p : FileWrite). IsPart l.manifest.granularity p.entry.part) l.writes.items;
  few : length l.writes.items ≤ 21_913_098;
  rows : All (λ (p : FileWrite). p.entry.series < length l.rows) l.writes.items;
  before : (k : ℕ) (d : Bor RowSamples) → l.part-index ≤ k → k < length l.part-items → All (λ (p : FileWrite). p.entry.series ≤ (get_or l.part-items k d).now.row) l.writes.items;
  counted : l.count ≤ sum_by samples_in (take l.part-index (map (λ p. p.now) l.part-items));
  plans : Plans l.manifest.granularity l.rows l.manifest.entries l.limbo (take l.part-index (map (λ p. p.now) l.part-items)) l.count l.writes.items;
}
