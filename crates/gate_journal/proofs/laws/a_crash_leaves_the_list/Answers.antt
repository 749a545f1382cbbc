use Rattle.gate_journal.specs.DiskShown.{shown_by}
use Rattle.gate_journal.proofs.Deciding.{open_left}
use Rattle.gate_journal.proofs.Holding.{holds_left}
use Rattle.gate_journal.proofs.laws.a_crash_leaves_the_list.Goals as goal

pub returns-clause-settled : goal.returns-clause-settled
returns-clause-settled g c disk image journal bs settled left = holds_left journal (shown_by g.D.Disk disk) bs settled image left

pub returns-clause-undecided : goal.returns-clause-undecided
returns-clause-undecided g c disk image journal before after doubt left = open_left journal (shown_by g.D.Disk disk) before after journal.pending doubt image left
