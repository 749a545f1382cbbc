use Rattle.archive_core.proofs.MoveChoice.{publish_holds, retire_holds}
use Rattle.archive_core.proofs.laws.moves_change_the_machine.Goals as goal

pub returns-clause-publish : goal.returns-clause-publish
returns-clause-publish c = publish_holds

pub returns-clause-retire : goal.returns-clause-retire
returns-clause-retire c = retire_holds
