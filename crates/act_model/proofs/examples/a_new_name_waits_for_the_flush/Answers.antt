use Rattle.act_model.proofs.ExampleLaws.{waits_for_the_flush}
use Rattle.act_model.proofs.examples.a_new_name_waits_for_the_flush.Goals as goal

pub returns : goal.returns
returns c = waits_for_the_flush
