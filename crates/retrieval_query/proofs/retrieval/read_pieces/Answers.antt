use Rattle.std.proofs.Common.{◌+◌, ◌++◌, List, length, subst, rules}
use Rattle.disk_model.specs.Files.{Rose}
use Rattle.retrieval_query.specs.Held.{holds_on, openings_others, failing_others, both_others}
use Rattle.retrieval_query.specs.Openings.{Holds, OpensLeaving, OpensOf, FailsOf, openings, failing}
use Rattle.retrieval_query.specs.Retrieving.{ReadsPinned, ReadsToEnd}
use Rattle.act_model.specs.Out.{Subject}
use Rattle.series_model.specs.declared.sample.Sample.{Sample}
use Rattle.retrieval_query.specs.Giving.{GivesReadAt}
use Rattle.retrieval_query.proofs.Behind.{of_gives, reads, reads_to_end}
use Rattle.retrieval_query.proofs.Given.{rose_since, rose_until}
use Rattle.retrieval_query.proofs.retrieval.read_pieces.Goals as goal

pub end_pinned-requires-clause-holds : goal.end_pinned-requires-clause-holds
end_pinned-requires-clause-holds g c =
    let A = g.A.Actor in
    let old = c.args.actor.now in
    let mid = c.give_pinned-given.new.pieces.actor.now in
    let pin = c.args.pin in
    let left = c.args.pieces in
    let held : Holds A.number A.stands mid pin 0 left =
    of_gives g.A.Reader.ReadAt.tells g.A.Reader.ReadAt.faults (OpensOf A.number A.between pin 0 left) (FailsOf A.number A.between A.is_spent pin 0) c.args.about.now.ty old mid
    (λ ps o. holds_on A.number A.between A.stands g.met.A.Actor.legal g.met.A.Actor.sound g.met.A.Actor.number_stays old mid pin 0 left (openings pin 0 o.3.told) (openings_others pin pin 0 o.3.told) c.requires.holds o.3.made)
    (λ why f. holds_on A.number A.between A.stands g.met.A.Actor.legal g.met.A.Actor.sound g.met.A.Actor.number_stays old mid pin 0 left (openings pin 0 f.1.told ++ failing pin (0 + length f.1.told) why) (both_others pin (openings pin 0 f.1.told) (failing pin _ why) (openings_others pin pin 0 f.1.told) (failing_others pin pin _ why)) c.requires.holds f.1.made)
    c.give_pinned-given.result c.give_pinned-given.ensures.gives in
    (0, left, held)

pub returns-clause-reads : goal.returns-clause-reads
returns-clause-reads g c =
    let A = g.A.Actor in
    let R = g.A.Reader.ReadAt in
    let out = g.O.Out.faults c.args.out.now in
    let given = g.O.Out.faults c.give_pinned-given.new.out in
    let end = g.O.Out.faults c.end_pinned.new.out in
    let done : ReadsPinned A.number A.between A.is_spent R.tells R.faults c.args.about.now.ty c.args.actor.now c.args.pin (Rose out end) c.end_pinned.result c.end_pinned.new.actor =
    reads A.number A.between A.is_spent R.tells R.faults c.args.about.now.ty c.args.actor.now c.give_pinned-given.new.pieces.actor.now c.end_pinned.new.actor c.args.pin c.args.pieces (Rose out end) (Rose given end) c.end_pinned.result (rose_since out given end c.give_pinned-given.ensures.faults)
    c.give_pinned-given.result c.give_pinned-given.ensures.gives (λ is. rose_until out given end c.end_pinned.ensures.faults (c.give_pinned-given.ensures.cause is)) c.end_pinned.ensures.ends in
    search (rules, done)

pub returns-clause-read : goal.returns-clause-read
returns-clause-read g c tells =
    let A = g.A.Actor in
    let O = g.O.Out in
    let subject : Subject = record { name = c.args.name.now; about = c.args.about.now; query = c.args.query } in
    let mid = c.give_pinned-given.new.pieces.actor.now in
    let left = c.give_pinned-given.new.pieces.left in
    let over = c.new-merge.ensures.over in
    let first = c.give_pinned-given.ensures.reads tells over.0 (c.new-merge.ensures.nothing c.args.pieces) in
    let T : List Sample → Type 0 = λ l. GivesReadAt (OpensLeaving A.number A.between c.args.pin 0 c.args.pieces left) O.gave c.args.query left l c.args.out.now subject c.args.actor.now c.give_pinned-given.result mid c.give_pinned-given.new.out in
    let done : ReadsToEnd A.number A.between O.finished c.args.actor.now c.args.pin c.args.pieces c.args.tail subject c.args.out.now c.end_pinned.result c.end_pinned.new.actor c.end_pinned.new.out =
    reads_to_end A.number A.between A.is_spent O.finished O.broke O.gave c.args.actor.now mid c.end_pinned.new.actor c.args.pin c.args.pieces left _ c.args.tail subject c.args.out.now c.give_pinned-given.new.out c.end_pinned.new.out c.give_pinned-given.result c.end_pinned.result (λ count is. rw is at c.give_pinned-given.ensures.gives) (subst T over.1 first) c.end_pinned.ensures.ends (c.end_pinned.ensures.writes c.args.out.now subject) in
    search (rules, done)
