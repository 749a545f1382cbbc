use Rattle.std.proofs.Common.{arith, refl}
use Rattle.turn_rooms.proofs.Twinning.{count_allows}
use Rattle.turn_rooms.proofs.TwinJoining.{counts_done}
use Rattle.turn_rooms.proofs.twins.Twin.count.Goals as goal

pub load-requires : goal.load-requires
load-requires g c = let shape = c.args.self.now.shape in (c.requires.belongs.table, omega arith, count_allows g.S.Room.steps g.I.Room.steps g.I.Beside.store_allows g.I.Beside.intake_allows _ _ _ _ _)

pub returns : goal.returns
returns g c =
    let did = c.load.ensures in let t = counts_done g.S.Room.steps g.I.Room.steps g.I.Beside.together g.I.Beside.store_allows g.I.Beside.intake_allows c.args.self.now c.args.pass.now _ c.load.result c.requires did.2.0 did.0 refl did.2.1 in
    record { stays = t.0; all = t.1; some_left = t.2; numbers = t.3 }
