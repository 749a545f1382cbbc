use Rattle.archive_core.specs.Parts.{parts}
use Rattle.archive_core.proofs.Acting.{chain_runs_on}
use Rattle.archive_core.proofs.laws.acts_lose_no_more.Goals as goal

pub returns : goal.returns
returns g c = λ old new entries m s chain. chain_runs_on g.D.Disk.tells (parts g.D.Disk) entries old new m s chain
