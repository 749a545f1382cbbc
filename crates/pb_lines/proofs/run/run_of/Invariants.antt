use Rattle.std.proofs.Common.{◌≡◌, ◌+◌, ◌≤◌, length}
use Rattle.pb_lines.proofs.Running.{Running}
use Rattle.pb_lines.proofs.run.run_of.Given as goal

abbrev pub invariant-loop-end : goal.invariant-loop-end
invariant-loop-end l = record {
  running : Running l.ty l.year.year l.after l.to l.bytes l.rest l.run;
  looked : l.run.len + length l.rest ≡ length l.bytes;
  few : l.run.count ≤ l.run.len;
}

abbrev pub decreases-loop-end : goal.decreases-loop-end
decreases-loop-end l = length l.rest
