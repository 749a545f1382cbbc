use Rattle.std.proofs.Common.{◌≡◌, take}
use Rattle.series_model.proofs.batch.Batch.copied.Given as goal

abbrev pub invariant-loop-part : goal.invariant-loop-part
invariant-loop-part l = l.parts.items ≡ take l.part-index l.lent
