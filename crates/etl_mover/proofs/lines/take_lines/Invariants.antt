use Rattle.std.proofs.Common.{◌≤◌, ◌-◌, length}
use Rattle.etl_mover.proofs.Taking.{IsTaking}
use Rattle.etl_mover.proofs.lines.take_lines.Given as goal

abbrev pub invariant-loop-taken : goal.invariant-loop-taken
invariant-loop-taken l = record {
  taking : IsTaking l.ty l.year.year l.bytes l.entry l.taken.len l.taken.entry;
  within : l.taken.len ≤ length l.bytes;
}

abbrev pub decreases-loop-taken : goal.decreases-loop-taken
decreases-loop-taken l = length l.bytes - l.taken.len
