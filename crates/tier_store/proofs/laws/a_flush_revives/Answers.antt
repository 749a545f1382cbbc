use Rattle.tier_store.specs.Seen.{seen_by}
use Rattle.tier_store.proofs.Revived.{flush_revives}
use Rattle.tier_store.proofs.laws.a_flush_revives.Goals as goal

pub returns : goal.returns
returns g c disk catalogue later ms ns = flush_revives g.D.Disk.tells (seen_by g.D.Disk catalogue ms disk) later ns
