use Rattle.gate_journal.specs.DiskShown.{shown_by}
use Rattle.etl_mover.proofs.Steps.{begins_ahead, targets}
use Rattle.etl_mover.proofs.laws.a_move_finds_its_files.Goals as goal

pub returns-clause-begun : goal.returns-clause-begun
returns-clause-begun g c disk catalogue m shelf held move stored none = begins_ahead catalogue m shelf (shown_by g.D.Disk disk) held move stored none

pub returns-clause-targets : goal.returns-clause-targets
returns-clause-targets g c disk fine catalogue m shelf held ahead move revived is has at last row old = targets fine catalogue m shelf (shown_by g.D.Disk disk) held ahead move revived is has at last row old
