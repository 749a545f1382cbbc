use Rattle.std.proofs.Common.{◌≡◌, Some, None, arith, sym, ◌∙◌}
use Rattle.std.specs.FinMap as map
use Rattle.pins.proofs.EntryLemmas.{get-tree, removed, dropped-none, dropped-other, dropped-own}
use Rattle.pins.proofs.table.Pins.drop_pin.Goals as goal

pub returns-in_default-clause-answer : goal.returns-in_default-clause-answer
returns-in_default-clause-answer c =
    let found : map.get c.args.self.now c.args.pin ≡ None = rw (← c.self.view_is) (get-tree c.self.inside.pins.entries c.args.pin ∙ sym c.in_default.ensures.value) in
    dropped-none c.args.owner _ found

pub returns-then-owner-clause-answer : goal.returns-then-owner-clause-answer
returns-then-owner-clause-answer c =
    let found : map.get c.args.self.now c.args.pin ≡ Some c.in-Some.found.now = rw (← c.self.view_is) (get-tree c.self.inside.pins.entries c.args.pin ∙ sym c.in-Some.ensures.value) in
    dropped-other c.args.owner _ _ c.in-Some.found.now found c.owner-then-owner.ensures (omega (arith, c.owner.ensures, c.owner-then-owner.ensures, c.if-owner.true))

pub returns-clause-answer : goal.returns-clause-answer
returns-clause-answer c =
    let found : map.get c.args.self.now c.args.pin ≡ Some c.in-Some.found.now = rw (← c.self.view_is) (get-tree c.self.inside.pins.entries c.args.pin ∙ sym c.in-Some.ensures.value) in
    dropped-own c.args.owner _ c.in-Some.found.now found (omega (arith, c.owner.ensures, c.if-owner.false))

pub returns-clause-after : goal.returns-clause-after
returns-clause-after c = rw (← c.self.view_is) (removed c.self.inside.pins c.remove.new.self c.args.pin c.remove.ensures.updates)
