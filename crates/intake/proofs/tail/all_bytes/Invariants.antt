use Rattle.std.proofs.Common.{◌≡◌, ◌+◌, drop}
use Rattle.intake.specs.Tails.{size_of}
use Rattle.intake.proofs.tail.all_bytes.Given as goal

-- the bytes so far and those of the rest are all
abbrev pub invariant-loop-sample : goal.invariant-loop-sample
invariant-loop-sample l = l.bytes + size_of (drop l.sample-index l.samples) ≡ size_of l.samples
