use Rattle.tier_store.specs.Seen.{seen_by}
use Rattle.tier_store.proofs.Holding.{may_drop}
use Rattle.tier_store.proofs.laws.listed_files_may_be_dropped.Goals as goal

pub returns : goal.returns
returns g c disk catalogue ms held i m parts has here = may_drop g.D.Disk.tells (seen_by g.D.Disk catalogue ms disk) held i m parts has here
