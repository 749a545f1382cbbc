use Rattle.std.proofs.Common.{◌≡◌, ◌≤◌, [], IsTrue, None}
use Rattle.stream_merge.specs.Merging.{IsGoing, line_from, remaining}
use Rattle.stream_merge.specs.Source.{GoesOn}
use Rattle.stream_merge.specs.Reads.{GivesMore, HasGiven}
use Rattle.retrieval_query.proofs.Given.{Giving}
use Rattle.retrieval_query.proofs.give.give_answer.Given as goal

-- some samples were given, and the merge goes on from the piece that is open
abbrev pub invariant-lines : goal.invariant-lines
invariant-lines g l = record {
  going : IsGoing g.P.Reader.ReadAt.tells g.P.Reader.ReadAt.bytes l.merge;
  ty : l.merge.source.ty ≡ l.fn.about.ty;
  may : g.P.Pieces.may_open l.pieces;
  faults : g.O.Out.faults l.fn.out ≤ g.O.Out.faults l.out;
  goes : GoesOn g.P.Reader.ReadAt.tells g.P.Reader.ReadAt.bytes g.P.Pieces.opened l.fn.pieces None l.pieces l.merge.source.piece;
  giving : Giving g.P.Reader.ReadAt.tells g.P.Reader.ReadAt.bytes g.P.Pieces.left g.O.Out.gave l.fn.about.ty l.fn.pieces l.fn.merge l.fn.out (record { name = l.fn.name; about = l.fn.about; query = l.fn.query }) l.count (line_from l.merge) l.pieces l.merge l.out;
  same : (l.merge.query ≡ l.fn.merge.query) × (l.merge.source.tail ≡ l.fn.merge.source.tail);
  reads : IsTrue g.P.Reader.ReadAt.tells → HasGiven g.P.Reader.ReadAt.bytes l.fn.merge (g.P.Pieces.count l.fn.pieces) [] [] → GivesMore g.P.Reader.ReadAt.bytes g.P.Pieces.opened l.fn.pieces [] l.pieces (g.P.Pieces.count l.pieces) l.merge giving.given;
}

abbrev pub decreases-lines : goal.decreases-lines
decreases-lines g l = remaining (g.P.Pieces.count l.pieces) l.merge
