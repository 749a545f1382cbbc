use Rattle.turn_rooms.proofs.TwinEnded.{ended_meets, ended_through, ended_still, ended_store, ended_intake, ended_parts}
use Rattle.turn_rooms.proofs.twin_laws.a_twin_pass_knows_all_acts_of_those_that_ended_in_it.Goals as goal

pub returns : goal.returns
returns g c = record {
  meets = ended_meets g.S.Room.steps g.I.Room.steps g.I.Beside.together;
  through = ended_through g.S.Room.steps g.I.Room.steps g.I.Beside.together;
  still = ended_still g.S.Room.steps g.I.Room.steps g.I.Beside.together;
  store_turns = ended_store g.S.Room.steps g.I.Room.steps g.I.Beside.together;
  intake_turns = ended_intake g.S.Room.steps g.I.Room.steps g.I.Beside.together;
  parts = ended_parts g.S.Room.steps g.I.Room.steps g.I.Beside.together;
}
