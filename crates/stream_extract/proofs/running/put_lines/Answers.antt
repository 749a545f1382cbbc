use Rattle.std.proofs.Common.{◌++◌}
use Rattle.stream_extract.proofs.Runs.{sends_none}
use Rattle.stream_extract.proofs.running.put_lines.Goals as goal

pub returns-in-Ok-clause-ok : goal.returns-in-Ok-clause-ok
returns-in-Ok-clause-ok g c = rw c.in-Ok.ensures.items (sends_none (g.K.Sink.written c.args.sink.now) (c.args.out.now.items ++ c.args.lines.now))
