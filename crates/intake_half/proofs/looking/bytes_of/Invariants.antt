use Rattle.std.proofs.Common.{◌≡◌, ◌+◌, drop}
use Rattle.act_model.specs.Rows.{size_of}
use Rattle.intake_half.proofs.looking.bytes_of.Given as goal

-- the bytes so far and those of the rest are all
abbrev pub invariant-loop-sample : goal.invariant-loop-sample
invariant-loop-sample l = l.bytes + size_of (drop l.sample-index l.samples) ≡ size_of l.samples
