use Rattle.std.proofs.Common.{sym}
use Rattle.etl_mover.proofs.Written.{still_ahead, still_holds, copied_more}
use Rattle.etl_mover.proofs.Steps.{ahead_on, leaves_here, still_lists, writes_here}
use Rattle.etl_mover.proofs.laws.a_copy_goes_ahead.Goals as goal

pub returns-clause-stays : goal.returns-clause-stays
returns-clause-stays g c old new catalogue m shelf held ahead at f has placed leaves =
    let call = leaves_here shelf _ f.entry at _ _ (sym has.safe.of_rows) leaves in
    (still_ahead catalogue m shelf _ _ held ahead at f has placed call, still_holds catalogue m shelf _ _ held ahead at f has placed call)

pub returns-clause-copied : goal.returns-clause-copied
returns-clause-copied g c old new catalogue m shelf held ahead at bytes f tells has becomes leaves wrote =
    copied_more catalogue m shelf _ _ held ahead at f has becomes.placed (leaves_here shelf _ f.entry at _ _ (sym has.safe.of_rows) leaves) bytes becomes
    (writes_here shelf _ f.entry at bytes _ _ (sym has.safe.of_rows) wrote) (g.met.D.Disk.seen old tells)

pub returns-clause-pending : goal.returns-clause-pending
returns-clause-pending g c fine move new held ahead f is at own sets = ahead_on move new held ahead f (λ k d lt. (is.pending k d lt).1) at own sets

pub returns-clause-listed : goal.returns-clause-listed
returns-clause-listed g c move new revived len m goes lists = still_lists move new revived len m goes lists
