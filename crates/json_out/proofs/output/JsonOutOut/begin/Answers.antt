use Rattle.std.proofs.Common.{refl, ap, ◌∙◌}
use Rattle.edge_io.proofs.Sending.{on_err}
use Rattle.act_model.specs.Out.{Subject}
use Rattle.json_out.specs.Json.{head_text}
use Rattle.json_out.proofs.Sending.{put_alone, begin_broken}
use Rattle.json_out.proofs.output.JsonOutOut.begin.Goals as goal

pub returns-in_err-send-clause-broken : goal.returns-in_err-send-clause-broken
returns-in_err-send-clause-broken g c =
    let written = g.K.Sink.written in
    let self = c.args.self.now in
    let subject : Subject = record { name = c.args.name.now; about = c.args.about.now; query = c.args._query } in
    let head = head_text c.args.name.now c.items.result.now in
    let put = put_alone c.deref.result.now c.put_head.new.out.items c.clear.new.self.items head c.deref.ensures.value c.in-Ok.ensures c.clear.ensures.items in
    let is = put ∙ ap (head_text c.args.name.now) c.items.ensures in
    on_err c.from_residual.result _ (λ all events. (refl, begin_broken (written self.sink.now) (written c.send.new.sink) self.buffer c.deref.result.now subject all is c.in_err-send.ensures.front))
