use Rattle.tier_store.specs.Seen.{seen_by}
use Rattle.archive_core.proofs.Flushed.{goes_on_in_limbo}
use Rattle.archive_core.proofs.laws.a_flush_goes_on_in_limbo.Goals as goal

pub returns : goal.returns
returns g c disk catalogue later ms ns = goes_on_in_limbo g.D.Disk.tells (seen_by g.D.Disk catalogue ms disk) (g.met.D.Disk.seen disk) later ns
