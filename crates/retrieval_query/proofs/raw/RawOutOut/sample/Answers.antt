use Rattle.std.proofs.Common.{w32, to_z, of_z}
use Rattle.std.proofs.lemmas.Result.{on_ok_weaker, on_err_weaker}
use Rattle.edge_io.proofs.Sending.{on_err}
use Rattle.series_model.specs.declared.sample.Sample.{Sample}
use Rattle.retrieval_query.proofs.Years.{near_is_of, nearest_back}
use Rattle.retrieval_query.proofs.Sending.{here_is, some_here, opening_breaks, line_breaks, given}
use Rattle.retrieval_query.proofs.raw.RawOutOut.sample.Goals as goal

pub returns-in_err-open-clause-broken : goal.returns-in_err-open-clause-broken
returns-in_err-open-clause-broken g c before subject xs more events h =
    let written = g.K.Sink.written in
    let self = c.args.self.now in
    let s : Sample = record { t = c.args.t; line = c.args.line.now } in
    let head = c.in-Some.head in
    let gives = h.1 in
    let year = to_z w32 (of_z w32 c.nearest_year.result) in
    let here = some_here subject head gives.last (here_is subject self.head head gives.last c.in-Some.is gives.has_head) in
    let of_year = near_is_of c.requires.event.subject.about.ty s year c.requires.event.event (nearest_back c.nearest_year.result c.args.t c.nearest_year.ensures) in
    on_err c.from_residual.result _
    (h.0, opening_breaks subject xs s more year of_year events (written before.sink.now) (written self.sink.now) (written c.open.new.sink) before.buffer self.buffer gives.last head.last gives.bytes gives.text gives.sent here.1 (c.in_err-open.ensures.front subject here.0))

pub returns-clause-given : goal.returns-clause-given
returns-clause-given g c before subject xs h =
    let written = g.K.Sink.written in
    let self = c.args.self.now in
    let s : Sample = record { t = c.args.t; line = c.args.line.now } in
    let head = c.in-Some.head in
    let gives = h.1 in
    let year = to_z w32 (of_z w32 c.nearest_year.result) in
    let here = some_here subject head gives.last (here_is subject self.head head gives.last c.in-Some.is gives.has_head) in
    let of_year = near_is_of c.requires.event.subject.about.ty s year c.requires.event.event (nearest_back c.nearest_year.result c.args.t c.nearest_year.ensures) in
    on_ok_weaker c.put_line.result
    (λ line.
    (h.0, given (written before.sink.now) (written self.sink.now) (written c.open.new.sink) (written c.put_line.new.sink) before.buffer self.buffer c.open.new.buffer c.put_line.new.buffer c.open.new.self subject xs s year gives.last head.last gives.bytes gives.text gives.sent here.1 of_year (c.in_ok-open.ensures.opens subject here.0) line (c.in_ok-open.ensures.info subject here.0) c.in_ok-open.ensures.last))
    c.put_line.ensures.sent

pub returns-clause-broken : goal.returns-clause-broken
returns-clause-broken g c before subject xs more events h =
    let written = g.K.Sink.written in
    let self = c.args.self.now in
    let s : Sample = record { t = c.args.t; line = c.args.line.now } in
    let head = c.in-Some.head in
    let gives = h.1 in
    let year = to_z w32 (of_z w32 c.nearest_year.result) in
    let here = some_here subject head gives.last (here_is subject self.head head gives.last c.in-Some.is gives.has_head) in
    let of_year = near_is_of c.requires.event.subject.about.ty s year c.requires.event.event (nearest_back c.nearest_year.result c.args.t c.nearest_year.ensures) in
    on_err_weaker c.put_line.result
    (λ front.
    (h.0, line_breaks subject xs s more year of_year events (written before.sink.now) (written self.sink.now) (written c.open.new.sink) (written c.put_line.new.sink) before.buffer self.buffer c.open.new.buffer gives.last head.last gives.bytes gives.text gives.sent here.1 (c.in_ok-open.ensures.opens subject here.0) front))
    c.put_line.ensures.front
