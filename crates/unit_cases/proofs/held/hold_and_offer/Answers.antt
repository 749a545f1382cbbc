use Rattle.turn_rooms.proofs.TwinJoining.{same_back, meets_back}
use Rattle.unit_cases.specs.Halves.{vault_steps, tally_steps, begins, flush_allowed, take_allowed}
use Rattle.unit_cases.proofs.held.hold_and_offer.Goals as goal

pub returns : goal.returns
returns g c = let r = c.args.twin.now in let both = c.join-pass.ensures in let met = c.meet.ensures in (
  met.rooms,
  meets_back vault_steps tally_steps begins flush_allowed take_allowed r c.args.pass c.part.new.pass c.join-pass.result.0 c.meet.new.pass c.in-Ok.note c.join-pass.result.1.0 c.in-Ok.ensures.parts
      (same_back c.part.new.pass c.join-pass.result.0 both.first.1) (same_back c.in-Ok.note c.join-pass.result.1.0 both.second.1) met,
)
