use Rattle.archive_core.specs.Parts.{parts}
use Rattle.archive_core.proofs.Acting.{room_runs_on}
use Rattle.archive_core.proofs.laws.turns_lose_no_more.Goals as goal

pub returns : goal.returns
returns g c = λ room acts m s legal. room_runs_on g.D.Disk.tells (parts g.D.Disk) g.D.Reader.ReadAt.tells g.D.Reader.ReadAt.bytes g.D.Reader.ReadAt.faults acts room m s legal
