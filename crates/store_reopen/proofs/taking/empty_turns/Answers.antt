use Rattle.store_reopen.proofs.Stages.{all_empty, none_taken}
use Rattle.store_reopen.proofs.taking.empty_turns.Goals as goal

pub returns-clause-empty : goal.returns-clause-empty
returns-clause-empty c = all_empty c.loop-turn.turns.items c.loop-turn.invariant.empty

pub returns-clause-none : goal.returns-clause-none
returns-clause-none c = none_taken c.loop-turn.turns.items c.loop-turn.invariant.empty
