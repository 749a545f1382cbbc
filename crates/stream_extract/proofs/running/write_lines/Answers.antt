use Rattle.stream_extract.proofs.Runs.{sends_all}
use Rattle.stream_extract.proofs.running.write_lines.Goals as goal

pub returns-clause-ok : goal.returns-clause-ok
returns-clause-ok g c = sends_all (g.K.Sink.written c.args.sink.now) (g.K.Sink.written c.write_two.new.sink) _ c.clear.new.self.items (rw c.deref.ensures.value at c.in_ok-write_two.ensures.all) c.clear.ensures.items
