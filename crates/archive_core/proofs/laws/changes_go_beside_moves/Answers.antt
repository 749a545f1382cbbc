use Rattle.archive_core.proofs.Flushed.{register_beside, switch_beside, rename_beside, flush_goes}
use Rattle.archive_core.proofs.laws.changes_go_beside_moves.Goals as goal

pub returns-clause-register : goal.returns-clause-register
returns-clause-register c = register_beside

pub returns-clause-switch : goal.returns-clause-switch
returns-clause-switch c = switch_beside

pub returns-clause-rename : goal.returns-clause-rename
returns-clause-rename c = rename_beside

pub returns-clause-flush : goal.returns-clause-flush
returns-clause-flush c = flush_goes
