use Rattle.std.proofs.Common.{true}
use Rattle.disk_model.specs.contracts.memory.MemDiskDisk.TheImpl.{ghosts}
use Rattle.act_model.specs.Machine.{Machine}
use Rattle.archive_core.specs.Parts.{parts}
use Rattle.archive_core.specs.Stands.{Stands}
use Rattle.archive_script.proofs.running.turns.Given as goal

abbrev pub invariant-loop-line : goal.invariant-loop-line
invariant-loop-line l = (m : Machine) × Stands true (parts ghosts l.owner.archive) m
