use Rattle.std.proofs.Common.{true}
use Rattle.disk_model.specs.contracts.memory.MemDiskDisk.TheImpl.{ghosts}
use Rattle.act_model.specs.Machine.{Machine}
use Rattle.archive_core.specs.Parts.{parts}
use Rattle.archive_core.specs.Stands.{Stands}
use Rattle.archive_script.proofs.running.asked.Given as goal

abbrev pub invariant-loop : goal.invariant-loop
invariant-loop l = (m : Machine) × Stands true (parts ghosts l.owner.archive) m
