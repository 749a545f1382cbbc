use Rattle.tier_store.proofs.Holding.{flush_adds}
use Rattle.tier_store.proofs.laws.a_flush_adds_the_batch.Goals as goal

pub returns : goal.returns
returns c = flush_adds
