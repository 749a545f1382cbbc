use Rattle.retrieval_query.proofs.Sending.{opens_none}
use Rattle.retrieval_query.proofs.head.HeaderLines.open.Goals as goal

pub returns-in_default-clause-front : goal.returns-in_default-clause-front
returns-in_default-clause-front g c subject is = opens_none (g.K.Sink.written c.args.sink.now) c.args.buffer.now subject c.args.self.now.last c.args.year
