use Rattle.std.proofs.Common.{◌≡◌, ◌+◌, ◌*◌, ◌++◌, map}
use Rattle.std.specs.List.{range_with_len}
use Rattle.pb_lines.specs.File.{lines_of}
use Rattle.drill_feed.specs.Workload.{drawn, sample_at}
use Rattle.drill_feed.proofs.drill.Drill.put_samples.Given as goal

abbrev pub invariant-loop-minute : goal.invariant-loop-minute
invariant-loop-minute l = record {
  draws : l.draws.last ≡ drawn l.fn.self.hours (4 * l.minute + l.variable);
  written : l.out.items ≡ l.fn.out.items ++ lines_of (map (sample_at l.fn.self.hours l.variable) (range_with_len 0 l.minute));
}
