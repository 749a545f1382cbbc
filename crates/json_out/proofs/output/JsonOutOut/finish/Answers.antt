use Rattle.edge_io.proofs.Sending.{on_err}
use Rattle.json_out.proofs.Sending.{finished, end_broken, finish_broken}
use Rattle.json_out.proofs.output.JsonOutOut.finish.Goals as goal

pub returns-in_err-send-clause-broken : goal.returns-in_err-send-clause-broken
returns-in_err-send-clause-broken g c before subject xs h =
    let written = g.K.Sink.written in
    let self = c.args.self.now in
    on_err c.from_residual.result _ (h.0, end_broken (written before.sink.now) (written self.sink.now) (written c.send.new.sink) before.buffer self.buffer self.ty self.later subject xs h.1 c.in_err-send.ensures.front)

pub returns-in_default-clause-broken : goal.returns-in_default-clause-broken
returns-in_default-clause-broken g c before subject xs h =
    let written = g.K.Sink.written in
    let self = c.args.self.now in
    (h.0, finish_broken (written before.sink.now) (written self.sink.now) (written c.send.new.sink) (written c.finish.new.sink) before.buffer self.buffer c.send.new.buffer self.ty self.later subject xs h.1 c.in_ok-send.ensures.sent c.finish.ensures.front)

pub returns-clause-finished : goal.returns-clause-finished
returns-clause-finished g c before subject xs h =
    let written = g.K.Sink.written in
    let self = c.args.self.now in
    (h.0, (finished (written before.sink.now) (written self.sink.now) (written c.send.new.sink) (written c.finish.new.sink) before.buffer self.buffer c.send.new.buffer self.ty self.later subject xs h.1 c.in_ok-send.ensures.sent c.in-Ok.ensures.ok, c.finish.ensures.empty))
