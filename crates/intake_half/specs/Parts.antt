-- The parts that may be asked of the half, as those of the intake's histories, and how each ends.
use Rattle.std.specs.Prelude.{◌≤◌}
use Rattle.act_model.specs.Asks.{offered_reply, ticked_reply}
use Rattle.act_model.specs.Event.{IsEvent}
use Rattle.act_model.specs.declared.acts.Act.TheVariants as act
use Rattle.act_model.specs.declared.acts.Answer.TheVariants as reply
use Rattle.two_histories.specs.ArchiveIntake.{IntakeHalf, NamesAgree}
use Rattle.two_histories.specs.IntakeStep as step
use Rattle.intake_half.specs.Taking.{end_in}
use Rattle.intake_half.specs.declared.parts.IntakeAnswer.{IntakeAnswer}
use Rattle.intake_half.specs.declared.parts.IntakeAnswer.TheVariants.{Offered, Ticked, DoorsLeft, SawDoors, SawBatch, SawRow, Took, Memory}
use Rattle.intake_half.specs.declared.parts.IntakePart.{IntakePart}
use Rattle.intake_half.specs.declared.parts.IntakePart.TheVariants.{Offer, Tick, Doors, DoorDone, LookForDoors, LookForBatch, LookAt, Take, TakeFlush}

abbrev pub part_of : IntakePart → step.IntakePart
part_of (Offer name ty t line now) = step.Offers (act.Offer name ty t line now)
part_of (Tick row now) = step.Ticks row now
part_of Doors = step.Offers act.Doors
part_of DoorDone = step.Offers act.DoorDone
part_of LookForDoors = step.LooksForDoors
part_of (LookForBatch limit) = step.LooksForBatch limit
part_of (LookAt name) = step.LooksAt name
part_of (Take ends rows) = step.Takes (end_in ends.items) rows.items
part_of (TakeFlush len ends rows) = step.TakesFlush len (end_in ends.items) rows.items

abbrev pub answer_of : IntakeAnswer → step.IntakeAnswer
answer_of (Offered told) = step.Replies (offered_reply told)
answer_of (Ticked told) = step.Replies (ticked_reply told)
answer_of (DoorsLeft doors) = step.Replies (reply.DoorsLeft doors)
answer_of (SawDoors doors) = step.SawDoors doors
answer_of (SawBatch look) = step.SawBatch look.doors look.batch look.left look.upto
answer_of (SawRow doors look) = step.SawRow doors look
answer_of Took = step.Took
answer_of Memory = step.Replies reply.Memory

-- what may be asked at all
abbrev pub MayBeAsked : IntakePart → Type 0
MayBeAsked (Offer name ty t line now) = IsEvent ty (record { t = t; line = line })
MayBeAsked (Tick row now) = Unit {0}
MayBeAsked Doors = Unit {0}
MayBeAsked DoorDone = Unit {0}
MayBeAsked LookForDoors = Unit {0}
MayBeAsked (LookForBatch limit) = 1 ≤ limit
MayBeAsked (LookAt name) = Unit {0}
MayBeAsked (Take ends rows) = Unit {0}
MayBeAsked (TakeFlush len ends rows) = Unit {0}

-- what a part needs of the half
abbrev pub FitsPart : IntakeHalf → IntakePart → Type 0
FitsPart half (Offer name ty t line now) = Unit {0}
FitsPart half (Tick row now) = Unit {0}
FitsPart half Doors = Unit {0}
FitsPart half DoorDone = Unit {0}
FitsPart half LookForDoors = Unit {0}
FitsPart half (LookForBatch limit) = Unit {0}
FitsPart half (LookAt name) = Unit {0}
FitsPart half (Take ends rows) = NamesAgree half.rows rows.items
FitsPart half (TakeFlush len ends rows) = NamesAgree half.rows rows.items
