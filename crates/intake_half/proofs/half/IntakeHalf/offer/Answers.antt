use Rattle.std.proofs.Common.{refl, arith}
use Rattle.intake_half.proofs.Elements.{read_at}
use Rattle.intake_half.proofs.Ending.{event_time}
use Rattle.intake_half.proofs.Seeing.{slot_within}
use Rattle.intake_half.proofs.Stepping.{has_in, not_found_in, offer_none, offered_at}
use Rattle.intake_half.proofs.half.IntakeHalf.offer.Goals as goal

pub returns-in-None-clause-step : goal.returns-in-None-clause-step
returns-in-None-clause-step c = rw (← c.self.view_is) (λ who.
    let none = not_found_in c.self.inside.slots.items c.self.inside.intake c.self.inside.names c.self.inside.upto c.self.inside.doors c.self.invariant c.deref.result.now c.args.name.now c.args.name.now c.find.result c.deref.ensures.value refl c.find.ensures.only c.in-None.is in
    offer_none c.self.inside.slots.items c.self.inside.intake c.self.inside.names c.self.inside.upto c.self.inside.doors c.self.invariant c.args.name.now c.args.ty c.args.sample c.args.now who c.requires none)

pub index_mut-requires : goal.index_mut-requires
index_mut-requires c =
    let has = has_in c.self.inside.slots.items c.self.inside.intake c.self.inside.names c.self.inside.upto c.self.inside.doors c.self.invariant c.deref.result.now c.args.name.now c.args.name.now c.in-Some.row c.deref.ensures.value refl (c.in-Some.ensures {u = tt}).found in
    let low = slot_within c.self.inside.slots.items c.in-Some.row has.row has.here in
    omega (arith, low, c.self.inside.slots.ok.0)

pub offer_to-requires : goal.offer_to-requires
offer_to-requires c = event_time c.args.ty c.args.sample c.requires

pub invariant_of-self : goal.invariant_of-self
invariant_of-self c =
    let has = has_in c.self.inside.slots.items c.self.inside.intake c.self.inside.names c.self.inside.upto c.self.inside.doors c.self.invariant c.deref.result.now c.args.name.now c.args.name.now c.in-Some.row c.deref.ensures.value refl (c.in-Some.ensures {u = tt}).found in
    let low = slot_within c.self.inside.slots.items c.in-Some.row has.row has.here in
    let there = read_at c.self.inside.slots.items c.in-Some.row c.index_mut.result.now c.index_mut.ensures.value low in
    (offered_at c.self.inside.slots.items c.self.inside.intake c.self.inside.names c.self.inside.upto c.self.inside.doors c.self.invariant c.in-Some.row c.args.name.now c.args.ty c.args.sample c.args.now c.requires has c.index_mut.result.now there c.offer_to.result c.offer_to.new.intake c.offer_to.new.slot c.offer_to.ensures.some).kept

pub returns-in-Some-clause-step : goal.returns-in-Some-clause-step
returns-in-Some-clause-step c = rw (← c.self.view_is) (λ who.
    let has = has_in c.self.inside.slots.items c.self.inside.intake c.self.inside.names c.self.inside.upto c.self.inside.doors c.self.invariant c.deref.result.now c.args.name.now c.args.name.now c.in-Some.row c.deref.ensures.value refl (c.in-Some.ensures {u = tt}).found in
    let low = slot_within c.self.inside.slots.items c.in-Some.row has.row has.here in
    let there = read_at c.self.inside.slots.items c.in-Some.row c.index_mut.result.now c.index_mut.ensures.value low in
    (offered_at c.self.inside.slots.items c.self.inside.intake c.self.inside.names c.self.inside.upto c.self.inside.doors c.self.invariant c.in-Some.row c.args.name.now c.args.ty c.args.sample c.args.now c.requires has c.index_mut.result.now there c.offer_to.result c.offer_to.new.intake c.offer_to.new.slot c.offer_to.ensures.some).step who)

pub returns-in-Some-clause-wants : goal.returns-in-Some-clause-wants
returns-in-Some-clause-wants c = rw (← c.self.view_is) (
    let has = has_in c.self.inside.slots.items c.self.inside.intake c.self.inside.names c.self.inside.upto c.self.inside.doors c.self.invariant c.deref.result.now c.args.name.now c.args.name.now c.in-Some.row c.deref.ensures.value refl (c.in-Some.ensures {u = tt}).found in
    let low = slot_within c.self.inside.slots.items c.in-Some.row has.row has.here in
    let there = read_at c.self.inside.slots.items c.in-Some.row c.index_mut.result.now c.index_mut.ensures.value low in
    (offered_at c.self.inside.slots.items c.self.inside.intake c.self.inside.names c.self.inside.upto c.self.inside.doors c.self.invariant c.in-Some.row c.args.name.now c.args.ty c.args.sample c.args.now c.requires has c.index_mut.result.now there c.offer_to.result c.offer_to.new.intake c.offer_to.new.slot c.offer_to.ensures.some).wants)
