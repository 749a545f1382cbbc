use Rattle.std.proofs.Common.{ap, sym, ◌∙◌}
use Rattle.std.specs.FinMap as map
use Rattle.pins.specs.Pinned.{dropped}
use Rattle.pins.proofs.EntryLemmas.{removed}
use Rattle.pins.proofs.PinLemmas.{agree_removed, granted_alike}
use Rattle.pins.proofs.pieces.PinnedPieces.drop_pin.Goals as goal

pub invariant_of-self-2 : goal.invariant_of-self-2
invariant_of-self-2 c n = rw (c.in_ok-drop_pin.ensures.after, removed c.self.inside.pieces c.remove.new.self c.args.pin c.remove.ensures.updates) (agree_removed c.self.inside.pins (map.from_entries c.self.inside.pieces.entries) c.args.pin c.self.invariant n)

pub returns-clause-found : goal.returns-clause-found
returns-clause-found c = rw (← c.self.view_is) (granted_alike c.args.owner _ (ap (dropped c.args.owner) (sym (c.self.invariant c.args.pin)) ∙ (sym c.drop_pin.ensures.answer ∙ c.in_ok-drop_pin.was)))

pub returns-clause-after : goal.returns-clause-after
returns-clause-after c = rw (← c.self.view_is) (removed c.self.inside.pieces c.remove.new.self c.args.pin c.remove.ensures.updates)
