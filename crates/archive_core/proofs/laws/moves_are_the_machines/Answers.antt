use Rattle.archive_core.proofs.MoveChoice.{goes_on, number_is, parts_are}
use Rattle.archive_core.proofs.laws.moves_are_the_machines.Goals as goal

pub returns-clause-parts : goal.returns-clause-parts
returns-clause-parts c catalogue ms s m i row store have told here = parts_are catalogue ms s m have told i row here store

pub returns-clause-number : goal.returns-clause-number
returns-clause-number c catalogue ms s m i row store now have told here apart = number_is catalogue ms s m have told i row here store now apart

pub returns-clause-steps : goal.returns-clause-steps
returns-clause-steps c catalogue ms s m store now running choice have numbers apart is = goes_on catalogue ms s m have store now apart running numbers choice is
