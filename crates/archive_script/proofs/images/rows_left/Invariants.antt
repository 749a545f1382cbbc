use Rattle.std.proofs.Common.{true}
use Rattle.disk_model.specs.contracts.memory.MemDiskDisk.TheImpl.{ghosts}
use Rattle.act_model.specs.Machine.{Machine}
use Rattle.archive_core.specs.Parts.{parts}
use Rattle.archive_core.specs.Stands.{Stands}
use Rattle.archive_script.proofs.images.rows_left.Given as goal

abbrev pub invariant-loop-name : goal.invariant-loop-name
invariant-loop-name l = (m : Machine) × Stands true (parts ghosts l.owner.archive) m
