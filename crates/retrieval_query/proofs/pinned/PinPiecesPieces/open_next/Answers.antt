use Rattle.std.proofs.Common.{refl, subst, arith, [], ◌∷◌, ◌+◌, ◌-◌, List}
use Rattle.act_model.specs.declared.acts.Act.TheVariants.{OpenPiece}
use Rattle.act_model.specs.declared.acts.Answer.TheVariants.{NoPin, NotYours, NoPiece, DiskFault, Memory}
use Rattle.act_model.specs.Reply.{OpenedFile}
use Rattle.stream_merge.specs.Pieces.{NamedBytes}
use Rattle.retrieval_query.specs.Openings.{LeftOf}
use Rattle.retrieval_query.proofs.Steps.{opens_some, opens_fresh}
use Rattle.retrieval_query.proofs.Left.{left_none, left_on, left_opened}
use Rattle.retrieval_query.proofs.pinned.PinPiecesPieces.open_next.Goals as goal

pub returns-then-self-eq0-clause-opens : goal.returns-then-self-eq0-clause-opens
returns-then-self-eq0-clause-opens g c tells ps left =
    let A = g.A.Actor in
    let p = c.args.self.now in
    let none = left_none A.number A.between A.stands g.met.A.Actor.legal g.met.A.Actor.sound g.met.A.Actor.number_stays p.actor.now p.pin p.next p.left ps c.if-self-eq0.true left in
    (none, subst (λ (l : List NamedBytes). LeftOf A.number A.stands p.actor.now p.pin p.next p.left l) none left)

pub unreachable-requires : goal.unreachable-requires
unreachable-requires g c =
    let A = g.A.Actor in
    let p = c.args.self.now in
    let made = rw c.in-Ok-NoPin.field-0-is at c.in-Ok-NoPin.ensures.asked.done in
    opens_some A.number A.between A.stands g.met.A.Actor.legal g.met.A.Actor.sound p.actor.now c.ask_open_piece.new.actor p.pin p.next p.left NoPin c.requires.may c.if-self-eq0.false made tt

pub unreachable-requires-in-Ok-NotYours : goal.unreachable-requires-in-Ok-NotYours
unreachable-requires-in-Ok-NotYours g c =
    let A = g.A.Actor in
    let p = c.args.self.now in
    let made = rw c.in-Ok-NotYours.field-0-is at c.in-Ok-NotYours.ensures.asked.done in
    opens_some A.number A.between A.stands g.met.A.Actor.legal g.met.A.Actor.sound p.actor.now c.ask_open_piece.new.actor p.pin p.next p.left (NotYours c.in-Ok-NotYours.field-0-0) c.requires.may c.if-self-eq0.false made tt

pub unreachable-requires-in-Ok-NoPiece : goal.unreachable-requires-in-Ok-NoPiece
unreachable-requires-in-Ok-NoPiece g c =
    let A = g.A.Actor in
    let p = c.args.self.now in
    let made = rw c.in-Ok-NoPiece.field-0-is at c.in-Ok-NoPiece.ensures.asked.done in
    opens_some A.number A.between A.stands g.met.A.Actor.legal g.met.A.Actor.sound p.actor.now c.ask_open_piece.new.actor p.pin p.next p.left (NoPiece c.in-Ok-NoPiece.field-0-0) c.requires.may c.if-self-eq0.false made tt

pub returns-in-Ok-Piece-clause-opens : goal.returns-in-Ok-Piece-clause-opens
returns-in-Ok-Piece-clause-opens g c tells ps left =
    let A = g.A.Actor in
    let R = g.A.Reader.ReadAt in
    let p = c.args.self.now in
    let w = c.in-Ok-Piece in
    let made = rw w.field-0-is at w.ensures.asked.done in
    let reader : OpenedFile = record { tells = R.tells; bytes = R.bytes w.reader; faults = R.faults w.reader } in
    let o = left_opened A.number A.between A.stands g.met.A.Actor.legal g.met.A.Actor.sound g.met.A.Actor.number_stays p.actor.now c.ask_open_piece.new.actor p.pin p.next p.left (p.next + 1) (p.left - 1) ps reader w.name w.head_len w.len left made refl (omega (arith, c.if-self-eq0.false)) in
    record { rest = o.0; first = o.1; head = o.2; others = o.3 }

pub returns-in-Ok-Piece-clause-bytes : goal.returns-in-Ok-Piece-clause-bytes
returns-in-Ok-Piece-clause-bytes g c tells =
    let A = g.A.Actor in
    let R = g.A.Reader.ReadAt in
    let p = c.args.self.now in
    let w = c.in-Ok-Piece in
    let made = rw w.field-0-is at w.ensures.asked.done in
    let reader : OpenedFile = record { tells = R.tells; bytes = R.bytes w.reader; faults = R.faults w.reader } in
    (opens_fresh A.number A.between A.stands g.met.A.Actor.legal g.met.A.Actor.sound p.actor.now c.ask_open_piece.new.actor p.pin p.next p.left reader w.name w.head_len w.len c.requires.may made).1 tells

pub returns-in-Ok-Piece-clause-fresh : goal.returns-in-Ok-Piece-clause-fresh
returns-in-Ok-Piece-clause-fresh g c =
    let A = g.A.Actor in
    let R = g.A.Reader.ReadAt in
    let p = c.args.self.now in
    let w = c.in-Ok-Piece in
    let made = rw w.field-0-is at w.ensures.asked.done in
    let reader : OpenedFile = record { tells = R.tells; bytes = R.bytes w.reader; faults = R.faults w.reader } in
    (opens_fresh A.number A.between A.stands g.met.A.Actor.legal g.met.A.Actor.sound p.actor.now c.ask_open_piece.new.actor p.pin p.next p.left reader w.name w.head_len w.len c.requires.may made).0

pub returns-in-Ok-Piece-clause-leads : goal.returns-in-Ok-Piece-clause-leads
returns-in-Ok-Piece-clause-leads g c =
    let R = g.A.Reader.ReadAt in
    let w = c.in-Ok-Piece in
    let made = rw w.field-0-is at w.ensures.asked.done in (
      refl,
      record {
        told = record { reader = record { tells = R.tells; bytes = R.bytes w.reader; faults = R.faults w.reader }; name = w.name; head_len = w.head_len; len = w.len } ∷ [];
        pin_is = refl;
        next_is = refl;
        all = omega (arith, c.if-self-eq0.false);
        made = made;
        are = refl;
      },
    )

pub returns-in-Ok-DiskFault-clause-opens : goal.returns-in-Ok-DiskFault-clause-opens
returns-in-Ok-DiskFault-clause-opens g c tells ps left =
    let A = g.A.Actor in
    let p = c.args.self.now in
    let made = rw c.in-Ok-DiskFault.field-0-is at c.in-Ok-DiskFault.ensures.asked.done in
    left_on A.number A.between A.stands g.met.A.Actor.legal g.met.A.Actor.sound g.met.A.Actor.number_stays p.actor.now c.ask_open_piece.new.actor p.pin p.next p.left (record { act = OpenPiece p.pin p.next; answer = DiskFault } ∷ []) ps (λ is. cc, tt) left made

pub returns-in-Ok-Memory-clause-opens : goal.returns-in-Ok-Memory-clause-opens
returns-in-Ok-Memory-clause-opens g c tells ps left =
    let A = g.A.Actor in
    let p = c.args.self.now in
    let made = rw c.in-Ok-Memory.field-0-is at c.in-Ok-Memory.ensures.asked.done in
    left_on A.number A.between A.stands g.met.A.Actor.legal g.met.A.Actor.sound g.met.A.Actor.number_stays p.actor.now c.ask_open_piece.new.actor p.pin p.next p.left (record { act = OpenPiece p.pin p.next; answer = Memory } ∷ []) ps (λ is. cc, tt) left made

pub returns-in-Err-clause-opens : goal.returns-in-Err-clause-opens
returns-in-Err-clause-opens g c tells ps left =
    let A = g.A.Actor in
    let p = c.args.self.now in
    left_on A.number A.between A.stands g.met.A.Actor.legal g.met.A.Actor.sound g.met.A.Actor.number_stays p.actor.now c.ask_open_piece.new.actor p.pin p.next p.left [] ps tt left c.in-Err.ensures.asked.spent.0
