use Rattle.pins.proofs.PinLemmas.{agree_empty}
use Rattle.pins.proofs.pieces.PinnedPieces.new.Goals as goal

pub invariant_of-result : goal.invariant_of-result
invariant_of-result c n = rw (c.new.ensures, c.new-2.ensures.empty) (agree_empty n)
