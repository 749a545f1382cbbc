use Rattle.std.proofs.Common.{◌≡◌, ◌+◌, drop}
use Rattle.two_histories.specs.ArchiveIntake.{bytes_in}
use Rattle.intake_half.proofs.looking.bytes_in.Given as goal

-- the bytes so far and those of the rest are all
abbrev pub invariant-loop-part : goal.invariant-loop-part
invariant-loop-part l = l.bytes + bytes_in (drop l.part-index l.batch) ≡ bytes_in l.batch
