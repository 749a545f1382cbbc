use Rattle.edge_io.proofs.Writes.{front_more}
use Rattle.edge_io.proofs.stream.write_two.Goals as goal

pub returns-clause-front : goal.returns-clause-front
returns-clause-front g c =
    let written = g.K.Sink.written in
    front_more (written c.args.sink.now) (written c.write_whole.new.sink) (written c.write_whole-2.new.sink) c.args.first.now c.args.second.now c.in_ok-write_whole.ensures.all c.write_whole-2.ensures.front
