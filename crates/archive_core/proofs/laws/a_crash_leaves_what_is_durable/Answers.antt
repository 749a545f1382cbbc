use Rattle.archive_core.proofs.Acting.{crash_leaves}
use Rattle.archive_core.proofs.laws.a_crash_leaves_what_is_durable.Goals as goal

pub returns : goal.returns
returns g c = λ disk catalogue ms limbo pinned tails kept doubt doors config slots m image told s left. crash_leaves g.D.Disk.tells _ m image told s left
