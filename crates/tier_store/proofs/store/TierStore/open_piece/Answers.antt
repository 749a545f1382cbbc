use Rattle.std.proofs.Common.{ap, sym, ◌∙◌, subst}
use Rattle.tier_store.specs.Opening.{IsOpened, answer_of}
use Rattle.tier_store.proofs.Retirements.{same_shown}
use Rattle.tier_store.proofs.store.TierStore.open_piece.Goals as goal

pub returns-clause-refused : goal.returns-clause-refused
returns-clause-refused g c e is = let read = c.read_piece.ensures.refused e is in (c.told.ensures ∙ ap answer_of read.0, read.1)

pub returns-clause-piece : goal.returns-clause-piece
returns-clause-piece g c p piece granted here = subst (IsOpened g.D.Disk.tells g.D.Reader.ReadAt.tells g.D.Reader.ReadAt.bytes g.D.Reader.ReadAt.faults _ piece) (sym c.told.ensures) (c.read_piece.ensures.piece p piece granted here)

pub returns-clause-shown : goal.returns-clause-shown
returns-clause-shown g c = let same = c.read_piece.ensures.same in same_shown g.D.Disk.tells _ _ same.0 (ap (λ v. v.items) same.1) (ap (λ v. v.items) same.3) c.read_piece.ensures.reads.files

pub returns-clause-beside : goal.returns-clause-beside
returns-clause-beside g c = c.read_piece.ensures.beside

pub returns-clause-whole : goal.returns-clause-whole
returns-clause-whole g c stand = c.read_piece.ensures.whole stand
