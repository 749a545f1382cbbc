use Rattle.std.proofs.Common.{ℕ, List, ap, sym, ◌∙◌}
use Rattle.act_model.specs.declared.acts.Act.TheVariants.{Register, Pause, Resume, Rename, Offer, Tick, Flush, MoveBegin, MoveStep, Sweep, Pin, OpenPiece, Unpin, Names, Details, Doors, DoorDone}
use Rattle.archive_core.specs.Parts.{parts}
use Rattle.archive_core.proofs.Acting.{acted_as}
use Rattle.archive_core.proofs.archive.Archive.act.Goals as goal

pub returns-in-Register : goal.returns-in-Register
returns-in-Register g c = acted_as g.D.Disk.tells c.args.who c.args.act (Register c.in-Register.name c.in-Register.about) (parts g.D.Disk c.args.self.now) _ _ c.in-Register.is (c.register.ensures c.args.who)

pub returns-in-Pause : goal.returns-in-Pause
returns-in-Pause g c = acted_as g.D.Disk.tells c.args.who c.args.act (Pause c.bytes.result.now) (parts g.D.Disk c.args.self.now) _ _ (c.in-Pause.is ∙ ap (λ (n : List ℕ). Pause n) (sym c.bytes.ensures)) (c.pause.ensures c.args.who)

pub returns-in-Resume : goal.returns-in-Resume
returns-in-Resume g c = acted_as g.D.Disk.tells c.args.who c.args.act (Resume c.bytes-in-Resume.result.now) (parts g.D.Disk c.args.self.now) _ _ (c.in-Resume.is ∙ ap (λ (n : List ℕ). Resume n) (sym c.bytes-in-Resume.ensures)) (c.resume.ensures c.args.who)

pub returns-in-Rename : goal.returns-in-Rename
returns-in-Rename g c = acted_as g.D.Disk.tells c.args.who c.args.act (Rename c.bytes-in-Rename.result.now c.in-Rename.newname) (parts g.D.Disk c.args.self.now) _ _ (c.in-Rename.is ∙ ap (λ (n : List ℕ). Rename n c.in-Rename.newname) (sym c.bytes-in-Rename.ensures)) (c.rename.ensures c.args.who)

pub returns-in-Offer : goal.returns-in-Offer
returns-in-Offer g c = acted_as g.D.Disk.tells c.args.who c.args.act (Offer c.bytes-in-Offer.result.now c.in-Offer.ty c.in-Offer.t c.in-Offer.line c.in-Offer.now) (parts g.D.Disk c.args.self.now) _ _ (c.in-Offer.is ∙ ap (λ (n : List ℕ). Offer n c.in-Offer.ty c.in-Offer.t c.in-Offer.line c.in-Offer.now) (sym c.bytes-in-Offer.ensures)) (c.offer.ensures.acted c.args.who)

pub returns-in-Tick : goal.returns-in-Tick
returns-in-Tick g c = acted_as g.D.Disk.tells c.args.who c.args.act (Tick c.in-Tick.row c.in-Tick.now) (parts g.D.Disk c.args.self.now) _ _ c.in-Tick.is (c.tick.ensures.acted c.args.who)

pub returns-in-Flush : goal.returns-in-Flush
returns-in-Flush g c = acted_as g.D.Disk.tells c.args.who c.args.act (Flush c.in-Flush.limit) (parts g.D.Disk c.args.self.now) _ _ c.in-Flush.is (c.flush.ensures c.args.who)

pub returns-in-MoveBegin : goal.returns-in-MoveBegin
returns-in-MoveBegin g c = acted_as g.D.Disk.tells c.args.who c.args.act (MoveBegin c.in-MoveBegin.store c.in-MoveBegin.now) (parts g.D.Disk c.args.self.now) _ _ c.in-MoveBegin.is (c.begin_move.ensures.acted c.args.who)

pub returns-in-MoveStep : goal.returns-in-MoveStep
returns-in-MoveStep g c = acted_as g.D.Disk.tells c.args.who c.args.act (MoveStep c.in-MoveStep.m) (parts g.D.Disk c.args.self.now) _ _ c.in-MoveStep.is (c.move_step.ensures c.args.who)

pub returns-in-Sweep : goal.returns-in-Sweep
returns-in-Sweep g c = acted_as g.D.Disk.tells c.args.who c.args.act (Sweep) (parts g.D.Disk c.args.self.now) _ _ c.in-Sweep.is (c.sweep.ensures c.args.who)

pub returns-in-Pin : goal.returns-in-Pin
returns-in-Pin g c = acted_as g.D.Disk.tells c.args.who c.args.act (Pin c.bytes-in-Pin.result.now c.in-Pin.query) (parts g.D.Disk c.args.self.now) _ _ (c.in-Pin.is ∙ ap (λ (n : List ℕ). Pin n c.in-Pin.query) (sym c.bytes-in-Pin.ensures)) c.pin.ensures.acted

pub returns-in-OpenPiece : goal.returns-in-OpenPiece
returns-in-OpenPiece g c = acted_as g.D.Disk.tells c.args.who c.args.act (OpenPiece c.in-OpenPiece.pin c.in-OpenPiece.i) (parts g.D.Disk c.args.self.now) _ _ c.in-OpenPiece.is c.open_piece.ensures.acted

pub returns-in-Unpin : goal.returns-in-Unpin
returns-in-Unpin g c = acted_as g.D.Disk.tells c.args.who c.args.act (Unpin c.in-Unpin.pin) (parts g.D.Disk c.args.self.now) _ _ c.in-Unpin.is c.unpin.ensures.acted

pub returns-in-Names : goal.returns-in-Names
returns-in-Names g c = acted_as g.D.Disk.tells c.args.who c.args.act (Names c.in-Names.from c.in-Names.most) (parts g.D.Disk c.args.self.now) _ _ c.in-Names.is (c.names.ensures c.args.who)

pub returns-in-Details : goal.returns-in-Details
returns-in-Details g c = acted_as g.D.Disk.tells c.args.who c.args.act (Details c.bytes-in-Details.result.now) (parts g.D.Disk c.args.self.now) _ _ (c.in-Details.is ∙ ap (λ (n : List ℕ). Details n) (sym c.bytes-in-Details.ensures)) (c.details.ensures.acted c.args.who)

pub returns-in-Doors : goal.returns-in-Doors
returns-in-Doors g c = acted_as g.D.Disk.tells c.args.who c.args.act (Doors) (parts g.D.Disk c.args.self.now) _ _ c.in-Doors.is (c.doors.ensures c.args.who)

pub returns-in-DoorDone : goal.returns-in-DoorDone
returns-in-DoorDone g c = acted_as g.D.Disk.tells c.args.who c.args.act (DoorDone) (parts g.D.Disk c.args.self.now) _ _ c.in-DoorDone.is (c.door_done.ensures.acted c.args.who)
