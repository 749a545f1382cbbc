use Rattle.act_model.proofs.StepSound.{step_sound}
use Rattle.act_model.proofs.Histories.{runs_sound}
use Rattle.act_model.proofs.AnswerLaws.{step_answers}
use Rattle.act_model.proofs.laws.soundness_stays.Goals as goal

pub returns-clause-step : goal.returns-clause-step
returns-clause-step c = step_sound

pub returns-clause-run : goal.returns-clause-run
returns-clause-run c = runs_sound

pub returns-clause-answers : goal.returns-clause-answers
returns-clause-answers c = step_answers
