use Rattle.std.proofs.Common.{◌≡◌, take, All}
use Rattle.store_manifest.specs.Batches.{batch_of}
use Rattle.store_manifest.specs.Numbers.{HasSizes}
use Rattle.store_manifest.proofs.writing.encode.Given as goal

abbrev pub invariant-loop-change : goal.invariant-loop-change
invariant-loop-change l = record {
  bytes : l.out.items ≡ batch_of (take l.change-index l.changes);
  sizes : All HasSizes (take l.change-index l.changes);
}
