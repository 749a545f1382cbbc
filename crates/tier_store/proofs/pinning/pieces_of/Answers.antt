use Rattle.tier_store.proofs.PinnedFiles.{pieces_more}
use Rattle.tier_store.proofs.pinning.pieces_of.Goals as goal

pub loop-file-preserved : goal.loop-file-preserved
loop-file-preserved c =
    pieces_more c.args.rows.now c.args.files.now c.loop-file.file-index c.file-item.result c.loop-file.pieces.items c.add_piece.new.pieces.items c.loop-file-test.true c.file-item.is c.loop-file.invariant c.in_ok-add_piece.ensures.none c.in_ok-add_piece.ensures.some
