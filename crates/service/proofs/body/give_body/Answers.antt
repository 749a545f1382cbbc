use Rattle.std.proofs.Common.{rules}
use Rattle.edge_io.specs.Stream.{Rose}
use Rattle.retrieval_query.specs.Pinning.{AnswersPinned}
use Rattle.service.specs.Data.{BreaksBody, FinishesBody}
use Rattle.service.proofs.Bodies.{answers_body}
use Rattle.retrieval_query.proofs.Given.{rose_since, rose_until}
use Rattle.service.proofs.body.give_body.Goals as goal

pub give_in_chunks-given-requires-clause-told : goal.give_in_chunks-given-requires-clause-told
give_in_chunks-given-requires-clause-told g c = (_, c.new-body.ensures.written)

pub returns-clause-answers : goal.returns-clause-answers
returns-clause-answers g c =
    let A = g.A.Actor in
    let R = g.A.Reader.ReadAt in
    let written = g.K.Sink.written in
    let faults = g.K.Sink.write_faults in
    let first = c.new-body.result.link.now in
    let mid = c.give_in_chunks-given.new.body.link.now in
    let last = c.end_body-end.new.body.link.now in
    let start = c.args.link.now in
    let done : AnswersPinned A.number A.between A.is_spent A.stands R.tells R.faults (FinishesBody c.args.format c.args.version) (BreaksBody c.args.format c.args.version) (Rose (faults start) (faults last)) c.args.actor.now c.args.variable c.args.query (written start) c.end_body-end.result c.give_in_chunks-given.new.actor (written last) =
    rw (← c.new-body.ensures.link)
    (answers_body c.args.format c.args.version _ (written first) (written last) _ _ _ (rw (← c.new-body.ensures.link) at c.new-body.ensures.written) c.has_front.ensures
    A.number A.between A.is_spent A.stands R.tells R.faults (Rose (faults first) (faults mid)) (Rose (faults mid) (faults last)) (Rose (faults first) (faults last)) c.args.actor.now c.give_in_chunks-given.new.actor c.args.variable c.args.query c.give_in_chunks-given.result c.end_body-end.result
    (rose_until (faults first) (faults mid) (faults last) c.end_body-end.ensures.faults) (rose_since (faults first) (faults mid) (faults last) c.give_in_chunks-given.ensures.faults) c.end_body-end.ensures.closes c.give_in_chunks-given.ensures.answers) in
    search (rules, done)
