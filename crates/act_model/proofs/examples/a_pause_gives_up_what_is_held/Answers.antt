use Rattle.act_model.proofs.ExampleLaws.{pause_gives_up}
use Rattle.act_model.proofs.examples.a_pause_gives_up_what_is_held.Goals as goal

pub returns : goal.returns
returns c = pause_gives_up
