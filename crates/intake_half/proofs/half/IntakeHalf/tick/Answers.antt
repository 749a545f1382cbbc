use Rattle.std.proofs.Common.{◌∙◌, ap, arith}
use Rattle.intake_half.specs.Known.{slot_in}
use Rattle.intake_half.proofs.Elements.{read_at}
use Rattle.intake_half.proofs.Stepping.{tick_none, ticked_at}
use Rattle.intake_half.proofs.Telling.{no_slot}
use Rattle.intake_half.proofs.half.IntakeHalf.tick.Goals as goal

pub returns-then-at-len-clause-step : goal.returns-then-at-len-clause-step
returns-then-at-len-clause-step c = rw (← c.self.view_is) (λ who.
    let past = no_slot c.self.inside.slots.items c.args.row (omega (arith, c.self.inside.slots.ok.0, c.len.ensures)) in
    tick_none c.self.inside.slots.items c.self.inside.intake c.self.inside.names c.self.inside.upto c.self.inside.doors c.self.invariant c.args.row c.args.now who past)

pub tick_in-requires : goal.tick_in-requires
tick_in-requires c =
    let there = read_at c.self.inside.slots.items c.args.row c.index_mut.result.now c.index_mut.ensures.value (omega (arith, c.self.inside.slots.ok.0, c.len.ensures)) in
    λ known sampled s is. (c.self.invariant.each c.args.row known (ap slot_in there ∙ is)).held sampled s

pub invariant_of-self : goal.invariant_of-self
invariant_of-self c =
    let there = read_at c.self.inside.slots.items c.args.row c.index_mut.result.now c.index_mut.ensures.value (omega (arith, c.self.inside.slots.ok.0, c.len.ensures)) in
    (ticked_at c.self.inside.slots.items c.self.inside.intake c.self.inside.names c.self.inside.upto c.self.inside.doors c.self.invariant c.args.row c.args.now c.index_mut.result.now there c.tick_in.result c.tick_in.new.intake c.tick_in.new.slot c.tick_in.ensures.none c.tick_in.ensures.some).kept

pub returns-clause-step : goal.returns-clause-step
returns-clause-step c = rw (← c.self.view_is) (λ who.
    let there = read_at c.self.inside.slots.items c.args.row c.index_mut.result.now c.index_mut.ensures.value (omega (arith, c.self.inside.slots.ok.0, c.len.ensures)) in
    (ticked_at c.self.inside.slots.items c.self.inside.intake c.self.inside.names c.self.inside.upto c.self.inside.doors c.self.invariant c.args.row c.args.now c.index_mut.result.now there c.tick_in.result c.tick_in.new.intake c.tick_in.new.slot c.tick_in.ensures.none c.tick_in.ensures.some).step who)

pub returns-clause-wants : goal.returns-clause-wants
returns-clause-wants c = rw (← c.self.view_is) (
    let there = read_at c.self.inside.slots.items c.args.row c.index_mut.result.now c.index_mut.ensures.value (omega (arith, c.self.inside.slots.ok.0, c.len.ensures)) in
    (ticked_at c.self.inside.slots.items c.self.inside.intake c.self.inside.names c.self.inside.upto c.self.inside.doors c.self.invariant c.args.row c.args.now c.index_mut.result.now there c.tick_in.result c.tick_in.new.intake c.tick_in.new.slot c.tick_in.ensures.none c.tick_in.ensures.some).wants)
