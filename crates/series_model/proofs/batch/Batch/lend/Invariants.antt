use Rattle.std.proofs.Common.{◌≡◌, take}
use Rattle.series_model.proofs.batch.Batch.lend.Given as goal

abbrev pub invariant-loop-part : goal.invariant-loop-part
invariant-loop-part l = l.lent.items ≡ take l.part-index l.parts
