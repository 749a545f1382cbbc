use Rattle.act_model.proofs.ExampleLaws.{renamed_goes_on}
use Rattle.act_model.proofs.examples.a_renamed_variable_goes_on.Goals as goal

pub returns : goal.returns
returns c = renamed_goes_on
