use Rattle.std.proofs.Common.{◌≡◌, List, take}
use Rattle.series_model.specs.declared.batch.RowSamples.{RowSamples}
use Rattle.archive_core.specs.Flushing.{GivesUp}
use Rattle.archive_core.specs.Memory.{row_ends}
use Rattle.archive_core.proofs.flushing.give_up.Given as goal

-- the parts so far are given up
abbrev pub invariant-loop-end : goal.invariant-loop-end
invariant-loop-end l = (batch : List RowSamples) → row_ends batch ≡ l.ends → GivesUp (take l.end-index batch) l.initial.intake l.intake
