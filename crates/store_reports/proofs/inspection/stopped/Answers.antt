use Rattle.store_reports.proofs.Telling.{stopped_front}
use Rattle.store_reports.proofs.inspection.stopped.Goals as goal

pub returns-in-Ok-clause-went : goal.returns-in-Ok-clause-went
returns-in-Ok-clause-went g c tells rows files es a some = stopped_front tells rows files es a (g.K.Sink.written c.args.sink.now) (g.K.Sink.written c.finish.new.sink) c.args.buffer.now c.args.err c.in_default.not-SinkFault some c.finish.ensures.front

pub returns-in-Err-clause-went : goal.returns-in-Err-clause-went
returns-in-Err-clause-went g c tells rows files es a some = stopped_front tells rows files es a (g.K.Sink.written c.args.sink.now) (g.K.Sink.written c.finish.new.sink) c.args.buffer.now c.args.err c.in_default.not-SinkFault some c.finish.ensures.front
