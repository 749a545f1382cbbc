use Rattle.std.proofs.Common.{refl}
use Rattle.act_model.specs.declared.acts.Act.TheVariants.{Register, Pause, Resume, Rename, Offer, MoveStep, OpenPiece, Names, Details}
use Rattle.unit_cases.proofs.OnBoards.{doors_told, flushed_none, no_move_begun, swept_none, wants}
use Rattle.unit_cases.proofs.board.BoardApplies.apply.Goals as goal

pub returns-in-Doors : goal.returns-in-Doors
returns-in-Doors c = rw c.in-Doors.is (record { step = doors_told c.args.who c.args.self.now; leaves = tt })

pub returns-in-DoorDone : goal.returns-in-DoorDone
returns-in-DoorDone c = rw c.in-DoorDone.is (record { step = c.door_done.ensures c.args.who; leaves = tt })

pub returns-in-Register : goal.returns-in-Register
returns-in-Register c = rw c.in-Register.is (record { step = wants c.args.who (Register c.in-Register.name c.in-Register.about) c.args.self.now refl; leaves = tt })

pub returns-in-Pause : goal.returns-in-Pause
returns-in-Pause c = rw c.in-Pause.is (record { step = wants c.args.who (Pause c.in-Pause.name) c.args.self.now refl; leaves = tt })

pub returns-in-Resume : goal.returns-in-Resume
returns-in-Resume c = rw c.in-Resume.is (record { step = wants c.args.who (Resume c.in-Resume.name) c.args.self.now refl; leaves = tt })

pub returns-in-Rename : goal.returns-in-Rename
returns-in-Rename c = rw c.in-Rename.is (record { step = wants c.args.who (Rename c.in-Rename.name c.in-Rename.newname) c.args.self.now refl; leaves = tt })

pub returns-in-Offer : goal.returns-in-Offer
returns-in-Offer c = rw c.in-Offer.is (record { step = wants c.args.who (Offer c.in-Offer.name c.in-Offer.ty c.in-Offer.t c.in-Offer.line c.in-Offer.now) c.args.self.now refl; leaves = tt })

pub returns-in-Tick : goal.returns-in-Tick
returns-in-Tick c = rw c.in-Tick.is (record { step = c.tick.ensures c.args.who c.in-Tick.now; leaves = tt })

pub returns-in-Flush : goal.returns-in-Flush
returns-in-Flush c = rw c.in-Flush.is (record { step = flushed_none c.args.who c.args.self.now c.in-Flush.limit (rw c.in-Flush.is at c.requires.may_ask); leaves = tt })

pub returns-in-MoveBegin : goal.returns-in-MoveBegin
returns-in-MoveBegin c = rw c.in-MoveBegin.is (record { step = no_move_begun c.args.who c.args.self.now c.in-MoveBegin.store c.in-MoveBegin.now; leaves = tt })

pub returns-in-MoveStep : goal.returns-in-MoveStep
returns-in-MoveStep c = rw c.in-MoveStep.is (record { step = wants c.args.who (MoveStep c.in-MoveStep.m) c.args.self.now refl; leaves = tt })

pub returns-in-Sweep : goal.returns-in-Sweep
returns-in-Sweep c = rw c.in-Sweep.is (record { step = swept_none c.args.who c.args.self.now; leaves = tt })

pub returns-in-OpenPiece : goal.returns-in-OpenPiece
returns-in-OpenPiece c = rw c.in-OpenPiece.is (record { step = wants c.args.who (OpenPiece c.in-OpenPiece.pin c.in-OpenPiece.i) c.args.self.now refl; leaves = tt })

pub returns-in-Names : goal.returns-in-Names
returns-in-Names c = rw c.in-Names.is (record { step = wants c.args.who (Names c.in-Names.from c.in-Names.most) c.args.self.now refl; leaves = tt })

pub returns : goal.returns
returns c = rw c.in-Details.is (record { step = wants c.args.who (Details c.in-Details.name) c.args.self.now refl; leaves = tt })

pub returns-in-Pin : goal.returns-in-Pin
returns-in-Pin c = rw c.in-Pin.is (record { step = c.pin.ensures; leaves = tt })

pub returns-in-Unpin : goal.returns-in-Unpin
returns-in-Unpin c = rw c.in-Unpin.is (record { step = c.unpin.ensures; leaves = tt })
