use Rattle.edge_io.proofs.Sending.{on_err}
use Rattle.retrieval_query.proofs.Sending.{end_breaks, finish_breaks, finishes}
use Rattle.retrieval_query.proofs.raw.RawOutOut.finish.Goals as goal

pub returns-in_err-close-clause-broken : goal.returns-in_err-close-clause-broken
returns-in_err-close-clause-broken g c before subject xs h =
    let written = g.K.Sink.written in
    let self = c.args.self.now in
    let gives = h.1 in
    on_err c.from_residual.result _
    (h.0, end_breaks (written before.sink.now) (written self.sink.now) (written c.close.new.sink) before.buffer self.buffer subject xs gives.last gives.bytes gives.text gives.sent (c.in_err-close.ensures.front subject gives.last gives.has_head))

pub returns-in_default-clause-broken : goal.returns-in_default-clause-broken
returns-in_default-clause-broken g c before subject xs h =
    let written = g.K.Sink.written in
    let self = c.args.self.now in
    let gives = h.1 in
    (h.0, finish_breaks (written before.sink.now) (written self.sink.now) (written c.close.new.sink) (written c.finish.new.sink) before.buffer self.buffer c.close.new.buffer subject xs gives.last gives.bytes gives.text gives.sent (c.in_ok-close.ensures.closes subject gives.last gives.has_head) c.finish.ensures.front)

pub returns-clause-finished : goal.returns-clause-finished
returns-clause-finished g c before subject xs h =
    let written = g.K.Sink.written in
    let self = c.args.self.now in
    let gives = h.1 in
    (h.0, finishes (written before.sink.now) (written self.sink.now) (written c.close.new.sink) (written c.finish.new.sink) before.buffer self.buffer c.close.new.buffer c.finish.new.self subject xs gives.last gives.bytes gives.text gives.sent (c.in_ok-close.ensures.closes subject gives.last gives.has_head) c.in-Ok.ensures.ok c.finish.ensures.empty)
