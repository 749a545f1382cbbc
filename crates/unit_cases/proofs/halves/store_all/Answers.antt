use Rattle.std.proofs.Common.{[], refl}
use Rattle.unit_cases.proofs.halves.store_all.Goals as goal

pub store_turn-requires-clause-allowed : goal.store_turn-requires-clause-allowed
store_turn-requires-clause-allowed g c =
    let adds = c.in-Done.ensures.turns.1 in record { front = adds.before; entry = _; back = []; is = adds.ends; such = (refl, refl) }

pub intake_turn-requires-2-clause-allowed : goal.intake_turn-requires-2-clause-allowed
intake_turn-requires-2-clause-allowed g c =
    let adds = c.in-Done-store_turn.ensures.turns.1 in record { front = adds.before; entry = _; back = []; is = adds.ends; such = refl }
