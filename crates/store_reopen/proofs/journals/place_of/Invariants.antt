use Rattle.std.proofs.Common.{◌≡◌, length, take}
use Rattle.gate_journal.specs.Batches.{open_gates}
use Rattle.store_reopen.proofs.journals.place_of.Given as goal

abbrev pub invariant-loop-i : goal.invariant-loop-i
invariant-loop-i l = l.place ≡ length (open_gates (take l.i l.batches))
