use Rattle.std.proofs.Common.{◌≡◌, take}
use Rattle.archive_core.specs.Memory.{row_ends}
use Rattle.archive_core.proofs.flushing.row_ends.Given as goal

abbrev pub invariant-loop-part : goal.invariant-loop-part
invariant-loop-part l = l.ends.items ≡ row_ends (take l.part-index l.batch)
