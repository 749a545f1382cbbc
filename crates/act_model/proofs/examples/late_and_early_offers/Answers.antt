use Rattle.act_model.proofs.ExampleLaws.{late_and_early}
use Rattle.act_model.proofs.examples.late_and_early_offers.Goals as goal

pub returns : goal.returns
returns c = late_and_early
