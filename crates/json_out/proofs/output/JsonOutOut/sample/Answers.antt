use Rattle.std.proofs.Common.{[], ◌∷◌, ◌++◌, codes, if◌then◌else◌, refl}
use Rattle.edge_io.proofs.Sending.{on_err}
use Rattle.series_model.specs.declared.sample.Sample.{Sample}
use Rattle.json_out.specs.Json.{event_text}
use Rattle.json_out.specs.Fronts.{gives_breaks}
use Rattle.json_out.proofs.Sending.{put_alone, of_type, given, sample_broken}
use Rattle.json_out.proofs.output.JsonOutOut.sample.Goals as goal

pub returns-in_err-event-clause-broken : goal.returns-in_err-event-clause-broken
returns-in_err-event-clause-broken g c before subject xs more events h =
    let written = g.K.Sink.written in
    let self = c.args.self.now in
    let s : Sample = record { t = c.args.t; line = c.args.line.now } in
    on_err c.from_residual.result _ (h.0, gives_breaks (written before.sink.now) (written self.sink.now) before.buffer self.buffer self.ty self.later subject xs (s ∷ more) h.1)

pub returns-in_default-put_next-clause-broken : goal.returns-in_default-put_next-clause-broken
returns-in_default-put_next-clause-broken g c before subject xs more events h =
    let written = g.K.Sink.written in
    let self = c.args.self.now in
    let s : Sample = record { t = c.args.t; line = c.args.line.now } in
    (h.0, gives_breaks (written before.sink.now) (written self.sink.now) before.buffer self.buffer self.ty self.later subject xs (s ∷ more) h.1)

pub returns-in_err-send-clause-broken : goal.returns-in_err-send-clause-broken
returns-in_err-send-clause-broken g c before subject xs more events h =
    let written = g.K.Sink.written in
    let self = c.args.self.now in
    let s : Sample = record { t = c.args.t; line = c.args.line.now } in
    let event = c.in_ok-event.event in
    let text = (if self.later then codes "," else []) ++ event_text c.args.t event in
    let put = put_alone c.deref.result.now c.put_next.new.out.items c.clear.new.self.items text c.deref.ensures.value c.in-Ok.ensures c.clear.ensures.items in
    let is = of_type self.ty c.in-Some.ty subject.about.ty c.args.line.now event c.in-Some.is h.1.kind c.in_ok-event.ensures.ok in
    on_err c.from_residual-in_err-send.result _
    (h.0, sample_broken (written before.sink.now) (written self.sink.now) (written c.send.new.sink) before.buffer self.buffer c.deref.result.now self.ty self.later subject xs s more event h.1 is put c.in_err-send.ensures.front)

pub returns-clause-given : goal.returns-clause-given
returns-clause-given g c before subject xs h =
    let written = g.K.Sink.written in
    let self = c.args.self.now in
    let s : Sample = record { t = c.args.t; line = c.args.line.now } in
    let event = c.in_ok-event.event in
    let text = (if self.later then codes "," else []) ++ event_text c.args.t event in
    let put = put_alone c.deref.result.now c.put_next.new.out.items c.clear.new.self.items text c.deref.ensures.value c.in-Ok.ensures c.clear.ensures.items in
    let is = of_type self.ty c.in-Some.ty subject.about.ty c.args.line.now event c.in-Some.is h.1.kind c.in_ok-event.ensures.ok in
    (h.0, given (written before.sink.now) (written self.sink.now) (written c.send.new.sink) before.buffer self.buffer c.send.new.buffer c.deref.result.now self.ty self.ty self.later subject xs s event h.1 is put refl c.in_ok-send.ensures.sent)
