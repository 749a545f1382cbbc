use Rattle.turn_rooms.proofs.TwinEnded.{spent_try, spent_turn}
use Rattle.turn_rooms.proofs.twin_laws.a_half_is_spent_exactly_after_all_its_acts.Goals as goal

pub returns : goal.returns
returns g c = record { tries = spent_try; turns = spent_turn }
