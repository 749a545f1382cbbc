use Rattle.command_words.proofs.Fronts.{on_err}
use Rattle.command_words.proofs.Complaining.{front_written, rose_after}
use Rattle.command_words.proofs.complaint.write_pieces.Goals as goal

pub returns-in_err-write_whole-clause-front : goal.returns-in_err-write_whole-clause-front
returns-in_err-write_whole-clause-front g c =
    let written = g.E.Sink.written in
    on_err c.from_residual.result _ (front_written c.args.pieces.now c.loop-piece.piece-index _ (written c.args.sink.now) (written c.loop-piece.sink) (written c.write_whole.new.sink) c.loop-piece-test.true c.loop-piece.invariant.written c.write_whole.ensures.front)

pub returns-in_err-write_whole-clause-failed : goal.returns-in_err-write_whole-clause-failed
returns-in_err-write_whole-clause-failed g c =
    let faults = g.E.Sink.write_faults in
    on_err c.from_residual.result _ (rose_after (faults c.args.sink.now) (faults c.loop-piece.sink) (faults c.write_whole.new.sink) c.loop-piece.invariant.faults c.in_err-write_whole.ensures.failed)
