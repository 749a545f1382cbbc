use Rattle.std.proofs.Common.{take}
use Rattle.store_reopen.specs.Turns.{Adds}
use Rattle.store_reopen.proofs.counting.add.Given as goal

abbrev pub invariant-loop-one : goal.invariant-loop-one
invariant-loop-one l = Adds l.fn.told (take l.one-index l.taken) l.told
