use Rattle.std.proofs.Common.{◌≡◌, []}
use Rattle.edge_io.proofs.Sending.{on_err, front_of_piece, front_kept, sends_piece}
use Rattle.edge_io.proofs.buffer.SinkBuffer.put.Goals as goal

pub returns-in_err-write_whole-clause-front : goal.returns-in_err-write_whole-clause-front
returns-in_err-write_whole-clause-front g c =
    let empty : c.make_room.new.self ≡ [] = c.make_room.ensures.long c.if-piece-gt-MOST.true in
    on_err c.from_residual-in_err-write_whole.result _ (front_of_piece (g.K.Sink.written c.args.sink.now) (g.K.Sink.written c.make_room.new.sink) (g.K.Sink.written c.write_whole.new.sink) c.args.self.now c.make_room.new.self c.args.piece.now c.in_ok-make_room.ensures.ok empty c.write_whole.ensures.front)

pub returns-in_err-extend_from_slice-clause-front : goal.returns-in_err-extend_from_slice-clause-front
returns-in_err-extend_from_slice-clause-front g c =
    on_err c.from_residual-in_err-extend_from_slice.result _ (front_kept (g.K.Sink.written c.args.sink.now) (g.K.Sink.written c.make_room.new.sink) c.args.self.now c.make_room.new.self c.args.piece.now c.in_ok-make_room.ensures.ok)

pub returns-in_ok-write_whole-clause-ok : goal.returns-in_ok-write_whole-clause-ok
returns-in_ok-write_whole-clause-ok g c =
    let empty : c.make_room.new.self ≡ [] = c.make_room.ensures.long c.if-piece-gt-MOST.true in
    sends_piece (g.K.Sink.written c.args.sink.now) (g.K.Sink.written c.make_room.new.sink) (g.K.Sink.written c.write_whole.new.sink) c.args.self.now c.make_room.new.self c.args.piece.now c.in_ok-make_room.ensures.ok empty c.in_ok-write_whole.ensures.all
