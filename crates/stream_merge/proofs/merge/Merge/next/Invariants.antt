use Rattle.std.proofs.Common.{◌≡◌, ◌+◌, ◌≤◌, ◌<◌, ◌⊎◌, ◌++◌, List, IsTrue}
use Rattle.series_model.specs.declared.sample.Sample.{Sample}
use Rattle.stream_merge.specs.Pieces.{NamedBytes}
use Rattle.stream_merge.specs.Source.{Passes, GoesOn, Grew, open_pieces, unread}
use Rattle.stream_merge.specs.Merging.{IsGoing, IsEarly, Rest, line_from, remaining}
use Rattle.stream_merge.specs.Beginning.{early_count}
use Rattle.stream_merge.specs.Reads.{HasGiven, GivesMore}
use Rattle.stream_merge.proofs.Giving.{GivesOn}
use Rattle.stream_merge.proofs.merge.Merge.next.Given as goal

abbrev pub invariant-samples : goal.invariant-samples
invariant-samples g l =
    let R = g.R.ReadAt in
    let P = g.P.Pieces in
    record {
      going : IsGoing R.tells R.bytes l.self;
      early : IsEarly l.self.kept l.self.query.from;
      same : (l.self.query ≡ l.fn.self.query) × (l.self.source.ty ≡ l.fn.self.source.ty);
      tail : l.self.source.tail ≡ l.fn.self.source.tail;
      lines : IsTrue R.tells → (ps : List NamedBytes) (xs : List Sample) → P.left l.fn.pieces ps → (r : Rest R.bytes l.fn.self ps xs) → GivesOn R.bytes (P.left l.pieces) ps (l.fn.steps + early_count l.fn.self.query.from r.comes.here) l.self xs l.steps;
      reads : IsTrue R.tells → (ps : List NamedBytes) (given : List Sample) → HasGiven R.bytes l.fn.self (P.count l.fn.pieces) ps given → GivesMore R.bytes P.opened l.fn.pieces ps l.pieces (P.count l.pieces) l.self given;
      opens : IsTrue R.tells → (ps : List NamedBytes) → P.left l.fn.pieces ps → Passes R.bytes (P.left l.pieces) (open_pieces R.bytes l.fn.self.source.piece ++ ps) l.self.source.piece;
      since : (P.count l.pieces < P.count l.fn.pieces) ⊎ Grew R.faults l.fn.self.source.piece l.self.source.piece;
      faults : P.faults l.fn.pieces ≤ P.faults l.pieces;
      count : P.count l.pieces ≤ P.count l.fn.pieces;
      went : GoesOn R.tells R.bytes P.opened l.fn.pieces l.fn.self.source.piece l.pieces l.self.source.piece;
      low : line_from l.fn.self ≤ line_from l.self;
      smaller : remaining (P.count l.pieces) l.self ≤ remaining (P.count l.fn.pieces) l.fn.self;
    }

abbrev pub decreases-samples : goal.decreases-samples
decreases-samples g l = unread (g.P.Pieces.count l.pieces) l.self.source
