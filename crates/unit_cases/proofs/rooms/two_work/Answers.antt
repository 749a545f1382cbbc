use Rattle.unit_cases.specs.Counting.{counts_acts}
use Rattle.turn_rooms.proofs.Joining.{same_back, meets_back}
use Rattle.unit_cases.proofs.rooms.two_work.Goals as goal

pub returns : goal.returns
returns g c = let r = c.args.rooms.now in let both = c.join-pass.ensures in let met = c.meet.ensures in (
  met.rooms,
  meets_back counts_acts r c.args.pass c.part.new.pass c.join-pass.result.0 c.meet.new.pass c.in-Ok.note c.join-pass.result.1 c.in-Ok.ensures.parts
      (same_back c.part.new.pass c.join-pass.result.0 both.first.1) (same_back c.in-Ok.note c.join-pass.result.1 both.second.1) met,
)
