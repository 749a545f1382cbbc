use Rattle.std.proofs.Common.{ℕ, ◌+◌, ◌≤◌, List, length, ap, ◌∙◌, refl, subst}
use Rattle.turn_rooms.specs.Histories.{most_numbers}
use Rattle.turn_rooms.specs.TwinPasses.{pass_standing}
use Rattle.turn_rooms.proofs.TwinJoining.{last_stays, stays_self, stays_trans, stays_parts}
use Rattle.turn_rooms.proofs.twins.Twin.part.Goals as goal

pub loop-init : goal.loop-init
loop-init g c = record { next = tt; ends = tt; stays = stays_self g.S.Room.steps g.I.Room.steps g.I.Beside.together g.I.Beside.store_allows g.I.Beside.intake_allows c.args.self.now c.args.pass.now c.requires; drained = refl }

pub returns-then-number-clause-stays : goal.returns-then-number-clause-stays
returns-then-number-clause-stays g c =
    stays_trans g.S.Room.steps g.I.Room.steps g.I.Beside.together g.I.Beside.store_allows g.I.Beside.intake_allows c.args.self.now c.args.pass.now c.loop.pass c.count-number.new.pass c.loop.invariant.stays c.count-number.ensures.stays

pub returns-then-number-clause-all_drawn : goal.returns-then-number-clause-all_drawn
returns-then-number-clause-all_drawn g c = c.count-number.ensures.all c.if-number.true ∙ ap (λ (n : ℕ). n + 1) c.loop.invariant.drained

pub returns-then-number-clause-numbers : goal.returns-then-number-clause-numbers
returns-then-number-clause-numbers g c = λ last.
    let had = c.loop.invariant in let did = c.count-number.ensures in
    subst (λ (xs : List ℕ). most_numbers ≤ length xs) had.stays.same_stands
    (subst (λ (n : ℕ). n ≤ length (pass_standing c.loop.pass).stands) c.if-number.true (did.numbers (last_stays g.S.Room.steps g.I.Room.steps g.I.Beside.together g.I.Beside.store_allows g.I.Beside.intake_allows c.args.self.now c.args.pass.now c.loop.pass last had.stays)))

pub returns-in-Some-draw-clause-parts : goal.returns-in-Some-draw-clause-parts
returns-in-Some-draw-clause-parts g c =
    let had = c.loop.invariant in let did = c.count-number.ensures in
    stays_parts g.S.Room.steps g.I.Room.steps g.I.Beside.together g.I.Beside.store_allows g.I.Beside.intake_allows c.args.self.now c.args.pass.now c.count-number.new.pass c.draw.new.pass c.in-Some-draw.note
    (stays_trans g.S.Room.steps g.I.Room.steps g.I.Beside.together g.I.Beside.store_allows g.I.Beside.intake_allows c.args.self.now c.args.pass.now c.loop.pass c.count-number.new.pass had.stays did.stays) (did.some_left c.if-number.false ∙ had.drained) c.in-Some-draw.ensures.parts

pub loop-preserved : goal.loop-preserved
loop-preserved g c =
    let had = c.loop.invariant in let did = c.count-number.ensures in let none = c.in_default.ensures in
    record {
      next = tt;
      ends = tt;
      stays = stays_trans g.S.Room.steps g.I.Room.steps g.I.Beside.together g.I.Beside.store_allows g.I.Beside.intake_allows c.args.self.now c.args.pass.now c.loop.pass c.draw.new.pass had.stays (stays_trans g.S.Room.steps g.I.Room.steps g.I.Beside.together g.I.Beside.store_allows g.I.Beside.intake_allows c.args.self.now c.loop.pass c.count-number.new.pass c.draw.new.pass did.stays none.parts);
      drained = none.drained ∙ (did.some_left c.if-number.false ∙ had.drained);
    }
