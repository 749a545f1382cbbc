use Rattle.retrieval_query.proofs.Answered.{reads_stand}
use Rattle.retrieval_query.proofs.retrieval.read_pinned.Goals as goal

pub returns-clause-stands : goal.returns-clause-stands
returns-clause-stands g c =
    let A = g.A.Actor in
    let R = g.A.Reader.ReadAt in
    let h = c.requires.held.holds in
    reads_stand A.number A.between A.stands g.met.A.Actor.legal A.is_spent R.tells R.faults _ _ c.args.actor.now c.read_pieces.new.actor _ c.read_pieces.result h.m h.stands_for c.read_pieces.ensures.reads
