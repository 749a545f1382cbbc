use Rattle.std.proofs.Common.{◌≡◌, take}
use Rattle.durable_write.specs.Plan.{last_with}
use Rattle.durable_write.proofs.plan.last_file.Given as goal

abbrev pub invariant-loop-entry : goal.invariant-loop-entry
invariant-loop-entry l = l.last ≡ last_with l.series l.initial.last (take l.entry-index l.limbo)
