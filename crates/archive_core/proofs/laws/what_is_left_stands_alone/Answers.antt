use Rattle.archive_core.specs.Parts.{parts_beside}
use Rattle.archive_core.proofs.Forgetting.{stands_left}
use Rattle.archive_core.proofs.laws.what_is_left_stands_alone.Goals as goal

pub returns : goal.returns
returns g c = λ half w n old after s doors. stands_left g.D.Disk.tells (parts_beside g.D.Disk half w) n old after doors s
