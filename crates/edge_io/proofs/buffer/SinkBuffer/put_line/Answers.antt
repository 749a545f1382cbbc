use Rattle.std.proofs.Common.{◌∷◌, [], ◌++◌}
use Rattle.edge_io.proofs.Sending.{on_err, front_then, front_kept, sends_all}
use Rattle.edge_io.proofs.buffer.SinkBuffer.put_line.Goals as goal

pub returns-in_err-write_two-clause-front : goal.returns-in_err-write_two-clause-front
returns-in_err-write_two-clause-front g c =
    let written = g.K.Sink.written in
    on_err c.from_residual-in_err-write_two.result _ (front_then (written c.args.sink.now) (written c.finish.new.sink) (written c.write_two.new.sink) c.args.self.now (c.args.line.now ++ 10 ∷ []) c.in_ok-finish.ensures.ok c.write_two.ensures.front)

pub returns-then-line-ge-MOST-clause-ok : goal.returns-then-line-ge-MOST-clause-ok
returns-then-line-ge-MOST-clause-ok g c =
    let written = g.K.Sink.written in
    sends_all (written c.args.sink.now) (written c.finish.new.sink) (written c.write_two.new.sink) c.args.self.now (c.args.line.now ++ 10 ∷ []) c.finish.new.self c.in_ok-finish.ensures.ok c.finish.ensures.empty c.in_ok-write_two.ensures.all

pub returns-in_err-gather_line-clause-front : goal.returns-in_err-gather_line-clause-front
returns-in_err-gather_line-clause-front g c =
    let written = g.K.Sink.written in
    on_err c.from_residual-in_err-gather_line.result _ (front_kept (written c.args.sink.now) (written c.make_room.new.sink) c.args.self.now c.make_room.new.self (c.args.line.now ++ 10 ∷ []) c.in_ok-make_room.ensures.ok)
