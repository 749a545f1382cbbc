use Rattle.archive_actors.specs.Steps.{SharedStands}
use Rattle.serving.proofs.Histories.{ends_in_turns}
use Rattle.serving.specs.Acting.{room_reply, room_steps}
use Rattle.serving.proofs.laws.the_end_of_a_service.Goals as goal

pub returns : goal.returns
returns g c =
    ends_in_turns (room_steps g.X.Applies g.X.Reader.ReadAt) (SharedStands g.X.Applies.stands) (room_reply g.X.Reader.ReadAt)
    (λ before after who n act answer step. step.0) (λ s m stood. g.X.Applies.sound s.archive m stood)
