use Rattle.std.proofs.Common.{ltb, rules}
use Rattle.std.proofs.lemmas.List.Sorted.{IsPartitionPoint-from_clause}
use Rattle.store_manifest.proofs.Around.{parted}
use Rattle.store_manifest.proofs.series.front.Goals as goal

pub returns-clause-point : goal.returns-clause-point
returns-clause-point c series of =
    IsPartitionPoint-from_clause (λ e. ltb e.part.start c.args.start) _ _ c.partition_point.ensures.partitioned (parted series c.args.start c.args.entries.now of) (λ a r q k. search rules)
