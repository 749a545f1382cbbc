use Rattle.std.proofs.Common.{◌++◌, ap, ◌∙◌, subst}
use Rattle.std.proofs.lemmas.List.Elements.{All-more}
use Rattle.store_manifest.specs.declared.entry.Change.{Change}
use Rattle.store_manifest.specs.Batches.{encoded}
use Rattle.store_manifest.specs.Numbers.{HasSizes}
use Rattle.store_manifest.proofs.Written.{batch_more}
use Rattle.store_manifest.proofs.writing.encode.Goals as goal

pub loop-change-preserved : goal.loop-change-preserved
loop-change-preserved c = record {
  bytes = batch_more
      _
      _
      c.change-item.result
      _
      _
      c.loop-change-test.true
      c.loop-change.invariant.bytes
      (c.in_ok-put.ensures.bytes ∙ ap (λ (z : Change). c.loop-change.out.items ++ encoded z) c.change-item.is);
  sizes = All-more HasSizes _ _ c.change-item.result c.loop-change-test.true c.loop-change.invariant.sizes (subst HasSizes c.change-item.is c.in_ok-put.ensures.sizes);
}
