use Rattle.act_model.proofs.Histories.{runs_append, steps_at, cut_at, mine-append}
use Rattle.act_model.proofs.laws.histories_are_steps.Goals as goal

pub returns-clause-join : goal.returns-clause-join
returns-clause-join c = λ xs ys old mid new p q. runs_append xs ys old mid new p q

pub returns-clause-steps : goal.returns-clause-steps
returns-clause-steps c = steps_at

pub returns-clause-own : goal.returns-clause-own
returns-clause-own c = λ who entries earlier later d is. cut_at who entries earlier later d is

pub returns-clause-own_join : goal.returns-clause-own_join
returns-clause-own_join c = mine-append
