use Rattle.std.proofs.Common.{subst}
use Rattle.edge_io.proofs.Sending.{front_out}
use Rattle.store_reports.specs.Status.{Gathers}
use Rattle.store_reports.proofs.summary.ended.Goals as goal

pub returns-in-Ok-clause-writes : goal.returns-in-Ok-clause-writes
returns-in-Ok-clause-writes g c a text gathers =
    let b = g.K.Sink.written c.args.sink.now in
    front_out a b (g.K.Sink.written c.finish.new.sink) text c.args.buffer (subst (λ t. Gathers a b c.args.buffer t text) c.in-Ok.is gathers) c.finish.ensures.front
