use Rattle.gate_journal.specs.DiskShown.{shown_by}
use Rattle.gate_journal.proofs.Unmoved.{settled_unmoved, undecided_unmoved}
use Rattle.gate_journal.proofs.laws.other_names_may_change.Goals as goal

pub returns-clause-settled : goal.returns-clause-settled
returns-clause-settled g c old new journal bs passes same fewer settled =
    settled_unmoved journal (shown_by g.D.Disk old) (shown_by g.D.Disk new) passes same fewer bs settled

pub returns-clause-undecided : goal.returns-clause-undecided
returns-clause-undecided g c old new journal before after passes same fewer doubt =
    undecided_unmoved journal (shown_by g.D.Disk old) (shown_by g.D.Disk new) passes same fewer before after doubt
