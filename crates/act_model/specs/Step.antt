-- One step of an archive: each act with its own case. Beside it stand the change that an act may make, the refusals that come before it,
-- and what may be asked at all, since a crash within an act leaves what these say.
use Rattle.std.specs.Prelude.{ℕ, ◌≤◌, Option, Some, None, if◌then◌else◌, ◌==◌}
use Rattle.std.specs.FinMap.{get}
use Rattle.pb_messages.specs.declared.about.State.TheVariants.{Running, Paused}
use Rattle.act_model.specs.declared.acts.Act.{Act}
use Rattle.act_model.specs.declared.acts.Act.TheVariants.{Register, Pause, Resume, Rename, Offer, Tick, Flush, MoveBegin, MoveStep, Sweep, Pin, OpenPiece, Unpin, Names, Details, Doors, DoorDone}
use Rattle.act_model.specs.Reply.{Reply}
use Rattle.act_model.specs.Rows.{Store, Short, Medium}
use Rattle.act_model.specs.Machine.{Machine, Change, AddsRow, Appends, find_row}
use Rattle.act_model.specs.Register.{RegisterStep, register_refused}
use Rattle.act_model.specs.Pause.{PauseStep, sets_of, state_refused, not_running}
use Rattle.act_model.specs.Resume.{ResumeStep, not_paused}
use Rattle.act_model.specs.Rename.{RenameStep, rename_refused, renames_of}
use Rattle.act_model.specs.Offer.{OfferStep}
use Rattle.act_model.specs.Tick.{TickStep}
use Rattle.act_model.specs.Flush.{FlushStep, batch_of}
use Rattle.act_model.specs.Names.{NamesStep}
use Rattle.act_model.specs.Details.{DetailsStep, details_refused}
use Rattle.act_model.specs.Doors.{DoorsStep, DoorDoneStep}
use Rattle.act_model.specs.MoveBegin.{MoveBeginStep}
use Rattle.act_model.specs.MoveStep.{MoveStepStep, change_of, no_move}
use Rattle.act_model.specs.Sweep.{SweepStep}
use Rattle.act_model.specs.Pin.{PinStep}
use Rattle.act_model.specs.OpenPiece.{Opens}
use Rattle.act_model.specs.Unpin.{Unpins}
use Rattle.act_model.specs.Event.{IsEvent}

-- store 1 or store 2
abbrev pub store_of : ℕ → Store
store_of number = if number == 1 then Short else Medium

-- From the old state the act, asked under this number, may be answered so and lead to the new one.
abbrev pub Step : ℕ → Act → Machine → Reply → Machine → Type 0
Step who (Register name about) = RegisterStep name about
Step who (Pause name) = PauseStep name
Step who (Resume name) = ResumeStep name
Step who (Rename name newname) = RenameStep name newname
Step who (Offer name ty t line now) = OfferStep name ty (record { t = t; line = line }) now
Step who (Tick row now) = TickStep row now
Step who (Flush limit) = FlushStep limit
Step who (MoveBegin store now) = MoveBeginStep (store_of store) now
Step who (MoveStep m) = MoveStepStep m
Step who Sweep = SweepStep
Step who (Pin name query) = PinStep who name query
Step who (OpenPiece pin i) = Opens who pin i
Step who (Unpin pin) = Unpins who pin
Step who (Names from most) = NamesStep from most
Step who (Details name) = DetailsStep name
Step who Doors = DoorsStep
Step who DoorDone = DoorDoneStep

-- the one durable change that an act may make
abbrev pub change_by : Act → Machine → Option Change
change_by (Register name about) m = Some (AddsRow name about)
change_by (Pause name) m = sets_of Paused (find_row m name)
change_by (Resume name) m = sets_of Running (find_row m name)
change_by (Rename name newname) m = renames_of newname (find_row m name)
change_by (Offer name ty t line now) m = None
change_by (Tick row now) m = None
change_by (Flush limit) m = Some (Appends (batch_of limit m))
change_by (MoveBegin store now) m = None
change_by (MoveStep n) m = change_of m (get m.moves n)
change_by Sweep m = None
change_by (Pin name query) m = None
change_by (OpenPiece pin i) m = None
change_by (Unpin pin) m = None
change_by (Names from most) m = None
change_by (Details name) m = None
change_by Doors m = None
change_by DoorDone m = None

-- The refusals of an act that may make a change, tried before and after a doubt is settled. Whether one comes is what is looked at: of what
-- a Rename's refusals tell, the number and the moment that the state doesn't say are left out.
abbrev pub refuse_by : Act → Machine → Option Reply
refuse_by (Register name about) m = register_refused name m
refuse_by (Pause name) m = state_refused not_running name m
refuse_by (Resume name) m = state_refused not_paused name m
refuse_by (Rename name newname) m = rename_refused 0 None name newname m
refuse_by (Offer name ty t line now) m = None
refuse_by (Tick row now) m = None
refuse_by (Flush limit) m = None
refuse_by (MoveBegin store now) m = None
refuse_by (MoveStep n) m = no_move (get m.moves n)
refuse_by Sweep m = None
refuse_by (Pin name query) m = details_refused name m
refuse_by (OpenPiece pin i) m = None
refuse_by (Unpin pin) m = None
refuse_by (Names from most) m = None
refuse_by (Details name) m = details_refused name m
refuse_by Doors m = None
refuse_by DoorDone m = None

-- what may be asked at all
abbrev pub MayAsk : Act → Type 0
MayAsk (Register name about) = Unit {0}
MayAsk (Pause name) = Unit {0}
MayAsk (Resume name) = Unit {0}
MayAsk (Rename name newname) = Unit {0}
MayAsk (Offer name ty t line now) = IsEvent ty (record { t = t; line = line })
MayAsk (Tick row now) = Unit {0}
MayAsk (Flush limit) = 1 ≤ limit
MayAsk (MoveBegin store now) = (1 ≤ store) × (store ≤ 2)
MayAsk (MoveStep n) = Unit {0}
MayAsk Sweep = Unit {0}
MayAsk (Pin name query) = Unit {0}
MayAsk (OpenPiece pin i) = Unit {0}
MayAsk (Unpin pin) = Unit {0}
MayAsk (Names from most) = 1 ≤ most
MayAsk (Details name) = Unit {0}
MayAsk Doors = Unit {0}
MayAsk DoorDone = Unit {0}
