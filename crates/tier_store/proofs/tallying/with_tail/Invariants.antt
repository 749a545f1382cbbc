use Rattle.std.proofs.Common.{◌++◌, List, take}
use Rattle.series_model.specs.Series.{since}
use Rattle.series_model.specs.declared.sample.Sample.{Sample}
use Rattle.tier_store.specs.Counting.{behind}
use Rattle.tier_store.specs.Details.{IsTally}
use Rattle.tier_store.proofs.tallying.with_tail.Given as goal

abbrev pub invariant-loop-sample : goal.invariant-loop-sample
invariant-loop-sample l = (samples : List Sample) → IsTally samples l.durable → IsTally (samples ++ since (behind l.durable.last) (take l.sample-index l.tail)) l.all
