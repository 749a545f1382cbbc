use Rattle.archive_core.proofs.Windows.{register_holds, switch_holds, rename_holds, flush_holds}
use Rattle.archive_core.proofs.laws.changes_are_the_machines.Goals as goal

pub returns-clause-register : goal.returns-clause-register
returns-clause-register c = register_holds

pub returns-clause-switch : goal.returns-clause-switch
returns-clause-switch c = switch_holds

pub returns-clause-rename : goal.returns-clause-rename
returns-clause-rename c = rename_holds

pub returns-clause-flush : goal.returns-clause-flush
returns-clause-flush c = flush_holds
