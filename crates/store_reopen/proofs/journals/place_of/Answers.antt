use Rattle.std.proofs.Common.{arith}
use Rattle.store_reopen.proofs.Having.{gates_more}
use Rattle.store_reopen.proofs.journals.place_of.Goals as goal

pub loop-i-preserved : goal.loop-i-preserved
loop-i-preserved c =
    let more = gates_more c.args.batches.now c.loop-i.i c.batch.result.now c.batch.ensures in
    let sum = (rw c.in_ok-place.ensures.ok_part at c.checked_add.ensures).1 in
    omega (arith, more, sum, c.loop-i.invariant)
