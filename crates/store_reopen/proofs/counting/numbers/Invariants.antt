use Rattle.std.proofs.Common.{take}
use Rattle.store_reopen.specs.Listing.{turns_of}
use Rattle.store_reopen.specs.Turns.{Adds, all_taken}
use Rattle.store_reopen.proofs.counting.numbers.Given as goal

abbrev pub invariant-loop-taken : goal.invariant-loop-taken
invariant-loop-taken l = Adds (record { files = 0; samples = 0; rows = l.rows; skipped = 0; cut = 0 }) (all_taken (turns_of (take l.taken-index l.turns))) l.told
