use Rattle.std.proofs.Common.{◌≤◌, take}
use Rattle.durable_write.specs.Plan.{IsDraft, Adds}
use Rattle.durable_write.proofs.plan.add_samples.Given as goal

abbrev pub invariant-loop-sample : goal.invariant-loop-sample
invariant-loop-sample l = record {
  draft : IsDraft l.target.granularity l.target.series l.writes.items;
  counted : l.count ≤ l.sample-index;
  added : Adds l.target l.row (take l.sample-index l.samples) l.count l.initial.writes.items l.writes.items;
}
