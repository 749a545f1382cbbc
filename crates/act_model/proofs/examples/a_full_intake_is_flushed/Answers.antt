use Rattle.act_model.proofs.ExampleLaws.{full_intake}
use Rattle.act_model.proofs.examples.a_full_intake_is_flushed.Goals as goal

pub returns : goal.returns
returns c = full_intake
