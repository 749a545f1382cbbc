use Rattle.std.proofs.Common.{◌≡◌, take}
use Rattle.std.specs.Prelude.{filter, map}
use Rattle.tier_store.specs.Pinning.{has_bytes, piece_of}
use Rattle.tier_store.proofs.pinning.pieces_of.Given as goal

-- the files so far are pinned
abbrev pub invariant-loop-file : goal.invariant-loop-file
invariant-loop-file l = l.pieces.items ≡ map (piece_of l.rows) (filter has_bytes (take l.file-index l.files))
