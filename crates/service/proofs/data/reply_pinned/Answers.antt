use Rattle.std.proofs.Common.{inl, inr, ap}
use Rattle.edge_io.specs.Stream.{Rose}
use Rattle.retrieval_query.proofs.Given.{rose_since}
use Rattle.service.specs.Data.{BreaksBody, FinishesBody}
use Rattle.service.proofs.Answering.{answers_for, lost_by}
use Rattle.service.proofs.data.reply_pinned.Goals as goal

pub returns-in-Ok-clause-replies : goal.returns-in-Ok-clause-replies
returns-in-Ok-clause-replies g c =
    let A = g.A.Actor in
    let R = g.A.Reader.ReadAt in
    let written = g.K.Sink.written in
    let faults = g.K.Sink.write_faults in
    let mid = c.write_head.new.sink in
    let new = c.give_body.new.link in
    inr (
      written mid,
      rw c.is_json.ensures at c.in-Ok.ensures.all,
      answers_for A.number A.between A.is_spent A.stands R.tells R.faults (FinishesBody c.args.format c.args.version) (BreaksBody c.args.format c.args.version) (Rose (faults mid) (faults new)) (Rose (faults c.args.link.now) (faults new)) c.args.actor.now c.give_body.new.actor c.args.variable c.args.query (written mid) (written new) c.give_body.result
          (rose_since (faults c.args.link.now) (faults mid) (faults new) c.write_head.ensures.faults) c.give_body.ensures.answers,
    )

pub returns-in-Err-clause-replies : goal.returns-in-Err-clause-replies
returns-in-Err-clause-replies g c =
    let written = g.K.Sink.written in
    inl (record {
      gives_up = c.give_up_pin.ensures.gives_up;
      why = rw c.from.ensures (lost_by c.in-Err.err _ (written c.args.link.now) (written c.write_head.new.sink) _ c.in-Err.ensures.cause (λ spent. ap written (c.in-Err.ensures.memory spent)) (rw c.is_json.ensures at c.in-Err.ensures.front));
    })
