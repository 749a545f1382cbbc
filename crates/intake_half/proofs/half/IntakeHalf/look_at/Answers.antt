use Rattle.std.proofs.Common.{Option, ◌≡◌, ap, subst, sym, ◌∙◌}
use Rattle.std.specs.Prelude.{IfOk}
use Rattle.two_histories.specs.ArchiveIntake.{IntakeRow, RowLook, look_at}
use Rattle.intake_half.proofs.Elements.{read_at}
use Rattle.intake_half.proofs.Seeing.{slot_within}
use Rattle.intake_half.proofs.Stepping.{has_in, look_found, none_by, not_found_in}
use Rattle.intake_half.proofs.half.IntakeHalf.look_at.Goals as goal

pub returns-in-None : goal.returns-in-None
returns-in-None c = rw (← c.self.view_is) (
    let none = not_found_in c.self.inside.slots.items c.self.inside.intake c.self.inside.names c.self.inside.upto c.self.inside.doors c.self.invariant c.deref.result.now c.bytes.result.now c.args.name c.find.result c.deref.ensures.value c.bytes.ensures c.find.ensures.only c.in-None.is in
    c.look_at_none.ensures ∙ ap (λ (o : Option IntakeRow). look_at c.args.name o) (sym (none_by c.self.inside.slots.items c.self.inside.intake c.self.inside.names c.self.inside.upto c.self.inside.doors c.self.invariant c.args.name none)))

pub returns-in-Some : goal.returns-in-Some
returns-in-Some c = rw (← c.self.view_is) (
    let has = has_in c.self.inside.slots.items c.self.inside.intake c.self.inside.names c.self.inside.upto c.self.inside.doors c.self.invariant c.deref.result.now c.bytes.result.now c.args.name c.in-Some.row c.deref.ensures.value c.bytes.ensures (c.in-Some.ensures {u = tt}).found in
    let low = slot_within c.self.inside.slots.items c.in-Some.row has.row has.here in
    let there = read_at c.self.inside.slots.items c.in-Some.row c.index-slot.result.now c.index-slot.ensures low in
    subst (λ (o : Option IntakeRow). IfOk c.look_in.result (λ (look : RowLook). look ≡ look_at c.args.name o)) (look_found c.self.inside.slots.items c.self.inside.intake c.self.inside.names c.self.inside.upto c.self.inside.doors c.self.invariant c.in-Some.row c.args.name c.index-slot.result.now has there) c.look_in.ensures)
