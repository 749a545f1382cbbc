use Rattle.pb_file.proofs.OneStep as steps
use Rattle.pb_file.proofs.laws.one_step.Goals as goal

pub returns : goal.returns
returns c = steps.one_step
