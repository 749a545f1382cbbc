-- The laws as a contract.
use Rattle.two_histories.proofs.Law as law
use Rattle.two_histories.proofs.Examples as examples
use Rattle.two_histories.proofs.samples.two_histories.Goals as goal

pub returns-clause-nothing_is_lost : goal.returns-clause-nothing_is_lost
returns-clause-nothing_is_lost c = law.nothing_is_lost

pub returns-clause-reported_is_durable : goal.returns-clause-reported_is_durable
returns-clause-reported_is_durable c = law.reported_is_durable

pub returns-clause-kept_is_durable : goal.returns-clause-kept_is_durable
returns-clause-kept_is_durable c = law.kept_is_durable

pub returns-clause-pin_shows_prefix : goal.returns-clause-pin_shows_prefix
returns-clause-pin_shows_prefix c = law.pin_shows_prefix

pub returns-clause-flushes_twice : goal.returns-clause-flushes_twice
returns-clause-flushes_twice c = examples.flushes_twice

pub returns-clause-loses_one : goal.returns-clause-loses_one
returns-clause-loses_one c = examples.loses_one

pub returns-clause-rows_are_known : goal.returns-clause-rows_are_known
returns-clause-rows_are_known c = law.rows_are_known

pub returns-clause-may_begin_again : goal.returns-clause-may_begin_again
returns-clause-may_begin_again c = law.may_begin_again
