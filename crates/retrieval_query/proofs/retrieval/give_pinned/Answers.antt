use Rattle.std.proofs.Common.{◌≡◌, List}
use Rattle.stream_merge.specs.Pieces.{NamedBytes, Failure}
use Rattle.retrieval_query.specs.declared.pinned.PinPieces.{PinPieces}
use Rattle.retrieval_query.specs.Openings.{HasOpened, FailsToOpen, OpensLeaving, OpensOf, FailsOf}
use Rattle.retrieval_query.proofs.Behind.{gives_as, of_gives}
use Rattle.act_model.specs.Out.{Subject}
use Rattle.retrieval_query.proofs.Given.{read_as}
use Rattle.retrieval_query.proofs.retrieval.give_pinned.Goals as goal

pub returns-clause-same_reference : goal.returns-clause-same_reference
returns-clause-same_reference g c =
    let A = g.A.Actor in
    let opened : PinPieces g.row.A.Denot → List NamedBytes → PinPieces g.row.A.Denot → Type 0 = λ o ps n. (n.actor.ghost_name ≡ o.actor.ghost_name) × HasOpened A.number A.between o.actor.now o.pin o.next o.left ps n.actor.now n.pin n.next n.left in
    let failed : PinPieces g.row.A.Denot → Failure → PinPieces g.row.A.Denot → Type 0 = λ o why n. (n.actor.ghost_name ≡ o.actor.ghost_name) × FailsToOpen A.number A.between A.is_spent o.actor.now o.pin o.next why n.actor.now n.pin in
    of_gives g.A.Reader.ReadAt.tells g.A.Reader.ReadAt.faults opened failed c.args.about.now.ty c.args.pieces.now c.give_answer.new.pieces (λ ps o. o.0) (λ why f. f.0) c.give_answer.result c.give_answer.ensures.gives

pub returns-clause-gives : goal.returns-clause-gives
returns-clause-gives g c =
    let A = g.A.Actor in
    let p = c.args.pieces.now in
    let q = c.give_answer.new.pieces in
    let opened : PinPieces g.row.A.Denot → List NamedBytes → PinPieces g.row.A.Denot → Type 0 = λ o ps n. (n.actor.ghost_name ≡ o.actor.ghost_name) × HasOpened A.number A.between o.actor.now o.pin o.next o.left ps n.actor.now n.pin n.next n.left in
    let failed : PinPieces g.row.A.Denot → Failure → PinPieces g.row.A.Denot → Type 0 = λ o why n. (n.actor.ghost_name ≡ o.actor.ghost_name) × FailsToOpen A.number A.between A.is_spent o.actor.now o.pin o.next why n.actor.now n.pin in
    gives_as g.A.Reader.ReadAt.tells g.A.Reader.ReadAt.faults opened failed c.args.about.now.ty p q (OpensOf A.number A.between p.pin p.next p.left) (FailsOf A.number A.between A.is_spent p.pin p.next) p.actor.now q.actor.now
    (λ ps o. (q.pin, q.next, q.left, o.1)) (λ why f. (q.pin, f.1)) c.give_answer.result c.give_answer.ensures.gives

pub returns-clause-reads : goal.returns-clause-reads
returns-clause-reads g c tells query first =
    let A = g.A.Actor in
    let p = c.args.pieces.now in
    let q = c.give_answer.new.pieces in
    let subject : Subject = record { name = c.args.name.now; about = c.args.about.now; query = c.args.query } in
    let opened : PinPieces g.row.A.Denot → List NamedBytes → PinPieces g.row.A.Denot → Type 0 = λ o ps n. (n.actor.ghost_name ≡ o.actor.ghost_name) × HasOpened A.number A.between o.actor.now o.pin o.next o.left ps n.actor.now n.pin n.next n.left in
    read_as opened (OpensLeaving A.number A.between p.pin p.next p.left q.left) g.O.Out.gave c.args.query q.left c.args.merge.source.tail.items c.args.out.now subject p q p.actor.now q.actor.now c.give_answer.new.out (λ ps o. (q.pin, q.next, o.1)) c.give_answer.result (c.give_answer.ensures.reads tells query first)
