use Rattle.store_reports.proofs.Summing.{gathered_front}
use Rattle.store_reports.proofs.summary.stopped.Goals as goal

pub returns-in-Ok-clause-went : goal.returns-in-Ok-clause-went
returns-in-Ok-clause-went g c a text = gathered_front a (g.K.Sink.written c.args.sink.now) (g.K.Sink.written c.finish.new.sink) c.args.buffer.now c.args.err c.in_default.not-SinkFault c.finish.ensures.front text

pub returns-in-Err-clause-went : goal.returns-in-Err-clause-went
returns-in-Err-clause-went g c a text = gathered_front a (g.K.Sink.written c.args.sink.now) (g.K.Sink.written c.finish.new.sink) c.args.buffer.now c.args.err c.in_default.not-SinkFault c.finish.ensures.front text
