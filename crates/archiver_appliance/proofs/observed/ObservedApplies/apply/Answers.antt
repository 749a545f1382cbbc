use Rattle.archiver_appliance.proofs.observed.ObservedApplies.apply.Goals as goal

pub apply-answer-requires-clause-stands : goal.apply-answer-requires-clause-stands
apply-answer-requires-clause-stands g c = rw c.deref_mut.ensures.value c.requires.stands

pub returns-in-Dropped-clause-step : goal.returns-in-Dropped-clause-step
returns-in-Dropped-clause-step g c = rw (← c.deref_mut.ensures.value) c.apply-answer.ensures.step

pub returns-in-Damaged-clause-step : goal.returns-in-Damaged-clause-step
returns-in-Damaged-clause-step g c = rw (← c.deref_mut.ensures.value) c.apply-answer.ensures.step

pub returns-in_default : goal.returns-in_default
returns-in_default g c = record {
  step = rw (← c.deref_mut.ensures.value) c.apply-answer.ensures.step;
  leaves = rw (← c.deref_mut.ensures.value) c.apply-answer.ensures.leaves;
}
