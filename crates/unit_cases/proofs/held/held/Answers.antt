use Rattle.turn_rooms.proofs.TwinJoining.{last_back}
use Rattle.unit_cases.specs.Halves.{vault_steps, tally_steps, begins, flush_allowed, take_allowed}
use Rattle.unit_cases.proofs.held.held.Goals as goal

pub close-vault-requires-clause-last : goal.close-vault-requires-clause-last
close-vault-requires-clause-last g c = last_back vault_steps tally_steps begins flush_allowed take_allowed c.in-Ok.twin _ _ c.in-Ok.pass c.in-Some.pass c.in-Ok.ensures.ok c.in-Some.ensures.1
