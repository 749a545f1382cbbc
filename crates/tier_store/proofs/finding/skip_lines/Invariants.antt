use Rattle.std.proofs.Common.{◌≤◌, ◌-◌, length}
use Rattle.tier_store.specs.Counting.{behind}
use Rattle.tier_store.proofs.Lines.{IsCounting}
use Rattle.tier_store.proofs.finding.skip_lines.Given as goal

abbrev pub invariant-loop-len : goal.invariant-loop-len
invariant-loop-len l = record { counting : IsCounting l.ty l.year.year l.bytes (behind l.last) l.len 0; within : l.len ≤ length l.bytes }

abbrev pub decreases-loop-len : goal.decreases-loop-len
decreases-loop-len l = length l.bytes - l.len
