use Rattle.std.proofs.Common.{◌≡◌, ◌+◌, ◌≤◌, ◌<◌, ◌⊎◌, ◌++◌, List, IsTrue}
use Rattle.series_model.specs.declared.sample.Sample.{Sample}
use Rattle.pb_file.specs.Walk.{behind}
use Rattle.stream_merge.specs.Pieces.{NamedBytes}
use Rattle.stream_merge.specs.Source.{IsReady, Coming, Passes, GoesOn, open_pieces, unread}
use Rattle.stream_merge.specs.Beginning.{early_count, IsPlaced}
use Rattle.stream_merge.specs.Reads.{HasRead, ReadsOn}
use Rattle.stream_merge.proofs.Coming.{Proceeds}
use Rattle.stream_merge.proofs.source.SampleSource.pull.Given as goal

abbrev pub invariant-pieces : goal.invariant-pieces
invariant-pieces g l =
    let R = g.R.ReadAt in
    let P = g.P.Pieces in
    record {
      ready : IsReady R.tells R.bytes l.self.ty l.self.piece;
      same : (l.self.ty ≡ l.initial.self.ty) × (l.self.tail ≡ l.initial.self.tail) × (l.self.at ≡ l.initial.self.at);
      lines : IsTrue R.tells → (ps : List NamedBytes) (xs : List Sample) → P.left l.initial.pieces ps → (c : Coming R.bytes l.initial.self ps xs) → IsPlaced (behind l.last) l.query.from c.here
          → Proceeds R.bytes (P.left l.pieces) (behind l.last) l.query ps xs (l.initial.steps + early_count l.query.from c.here) l.self l.steps;
      reads : IsTrue R.tells → (ps : List NamedBytes) (read : List Sample) → HasRead R.bytes l.initial.self (P.count l.initial.pieces) ps read → ReadsOn R.bytes P.opened l.initial.pieces ps l.pieces (P.count l.pieces) l.self read;
      opens : IsTrue R.tells → (ps : List NamedBytes) → P.left l.initial.pieces ps → Passes R.bytes (P.left l.pieces) (open_pieces R.bytes l.initial.self.piece ++ ps) l.self.piece;
      since : (P.count l.pieces < P.count l.initial.pieces) ⊎ (l.self.piece ≡ l.initial.self.piece);
      faults : P.faults l.initial.pieces ≤ P.faults l.pieces;
      count : P.count l.pieces ≤ P.count l.initial.pieces;
      may : P.may_open l.pieces;
      went : GoesOn R.tells R.bytes P.opened l.initial.pieces l.initial.self.piece l.pieces l.self.piece;
      smaller : unread (P.count l.pieces) l.self ≤ unread (P.count l.initial.pieces) l.initial.self;
    }

abbrev pub decreases-pieces : goal.decreases-pieces
decreases-pieces g l = g.P.Pieces.count l.pieces
