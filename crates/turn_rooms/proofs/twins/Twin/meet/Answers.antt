use Rattle.std.proofs.Common.{arith, refl, ap, sym, ◌∙◌}
use Rattle.turn_rooms.specs.TwinRules.{TwinSeated}
use Rattle.turn_rooms.specs.TwinPasses.{store_opened, intake_opened}
use Rattle.turn_rooms.proofs.Twinning.{store_learn_allows, settle_allows, join_allows}
use Rattle.turn_rooms.proofs.TwinJoining.{meets_done}
use Rattle.turn_rooms.proofs.twins.Twin.meet.Goals as goal

pub join_seat-requires : goal.join_seat-requires
join_seat-requires g c = let shape = c.args.self.now.shape in let is = c.requires.rooms in let note = c.requires.note in
    (is.belongs.table, note.belongs.table, note.hands, omega arith, join_allows g.S.Room.steps g.I.Room.steps g.I.Beside.store_allows g.I.Beside.intake_allows (store_opened c.args.self.now) (intake_opened c.args.self.now) _ _ _ _ is.belongs.joins note.belongs.joins note.store.idle note.intake.idle)

pub load-requires : goal.load-requires
load-requires g c = let shape = c.args.self.now.shape in let did = c.join_seat.ensures in let is = c.requires.rooms in
    (did.0 ∙ is.belongs.table, omega arith, store_learn_allows g.S.Room.steps g.I.Room.steps g.I.Beside.store_allows g.I.Beside.intake_allows (store_opened c.args.self.now) (intake_opened c.args.self.now) _ _ _ (ap (λ (m : TwinSeated g.S.Room.steps g.I.Room.steps g.I.Beside.store_allows g.I.Beside.intake_allows). m.0.store.holding) did.2 ∙ is.store.idle))

pub load-requires-2 : goal.load-requires-2
load-requires-2 g c = let shape = c.args.self.now.shape in let did = c.join_seat.ensures in let saw = c.load.ensures in let is = c.requires.rooms in (
  saw.0 ∙ (did.0 ∙ is.belongs.table),
  omega arith,
  settle_allows g.S.Room.steps g.I.Room.steps g.I.Beside.store_allows g.I.Beside.intake_allows (store_opened c.args.self.now) (intake_opened c.args.self.now) _ _ _ (ap (λ (m : TwinSeated g.S.Room.steps g.I.Room.steps g.I.Beside.store_allows g.I.Beside.intake_allows). m.0.intake.holding) saw.2.3 ∙ (ap (λ (m : TwinSeated g.S.Room.steps g.I.Room.steps g.I.Beside.store_allows g.I.Beside.intake_allows). m.0.intake.holding) did.2 ∙ is.intake.idle))
      (ap (λ (m : TwinSeated g.S.Room.steps g.I.Room.steps g.I.Beside.store_allows g.I.Beside.intake_allows). m.0.store.also) saw.2.3 ∙ sym (ap (λ (m : TwinSeated g.S.Room.steps g.I.Room.steps g.I.Beside.store_allows g.I.Beside.intake_allows). m.0.store.known) saw.2.3)),
)

pub returns : goal.returns
returns g c = let did = c.join_seat.ensures in let saw = c.load.ensures in let last = c.load-2.ensures in
    meets_done g.S.Room.steps g.I.Room.steps g.I.Beside.together g.I.Beside.store_allows g.I.Beside.intake_allows c.args.self.now c.args.pass.now _ c.args.note c.join_seat.new.seat.me c.load.new.seat.me saw.2.0 last.2.0 c.requires.rooms c.requires.note did.2 saw.2.1 saw.2.2 saw.2.3 last.2.1 last.2.2 last.2.3 last.2.4 last.2.5
    (last.0 ∙ (saw.0 ∙ did.0)) refl
