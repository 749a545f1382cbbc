use Rattle.act_model.proofs.ExampleLaws.{owners}
use Rattle.act_model.proofs.examples.pins_are_their_owners.Goals as goal

pub returns : goal.returns
returns c = owners
