use Rattle.std.proofs.Common.{ap, ◌∙◌}
use Rattle.std.specs.FinMap as map
use Rattle.pins.specs.Pinned.{PinnedNames}
use Rattle.pins.proofs.EntryLemmas.{inserted}
use Rattle.pins.proofs.table.Pins.pin.Goals as goal

pub returns-clause-free : goal.returns-clause-free
returns-clause-free c = rw (← c.self.view_is) c.in_ok-number.ensures.free

pub returns-clause-least : goal.returns-clause-least
returns-clause-least c = rw (← c.self.view_is) c.in_ok-number.ensures.least

pub returns-clause-pinned : goal.returns-clause-pinned
returns-clause-pinned c =
    rw (← c.self.view_is)
    (inserted c.self.inside.pins c.insert.new.self c.in_ok-number.number c.in_ok-pin.pin c.in_ok-insert.ensures.updates
    ∙ ap (λ (pin : PinnedNames). map.insert (map.from_entries c.self.inside.pins.entries) c.in_ok-number.number pin) c.in_ok-pin.ensures)
