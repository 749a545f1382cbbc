use Rattle.std.proofs.Common.{◌≡◌, take}
use Rattle.std.specs.Prelude.{map}
use Rattle.pins.specs.Pieces.{file_of}
use Rattle.pins.proofs.piece.files_of.Given as goal

-- the names so far are copied
abbrev pub invariant-loop-piece : goal.invariant-loop-piece
invariant-loop-piece l = l.files.items ≡ map file_of (take l.piece-index l.pieces)
