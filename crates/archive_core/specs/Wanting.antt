-- What is known where memory was wanting for an act: it is told for none that is refused, and for no sample but one that would be kept.
use Rattle.std.specs.FinMap.{get}
use Rattle.std.specs.Prelude.{◌≡◌, ℕ, List, Option, Some, None, slice_get}
use Rattle.pb_wire.specs.declared.payload.PayloadType.{PayloadType}
use Rattle.series_model.specs.declared.sample.Sample.{Sample}
use Rattle.act_model.specs.Changes.{Settles}
use Rattle.act_model.specs.Limbo.{RowFile}
use Rattle.act_model.specs.Machine.{Machine, PinState}
use Rattle.act_model.specs.Offer.{offered}
use Rattle.act_model.specs.Outcome.{Same}
use Rattle.act_model.specs.Reply.{Reply}
use Rattle.act_model.specs.Step.{refuse_by}
use Rattle.act_model.specs.Tick.{ticked}
use Rattle.act_model.specs.declared.acts.Act.{Act}
use Rattle.act_model.specs.declared.acts.Act.TheVariants.{Register, Pause, Resume, Rename, Offer, Tick, MoveStep, Pin, OpenPiece, Details}
use Rattle.act_model.specs.declared.acts.Answer.TheVariants as answer

-- Memory was wanting where no refusal stands before the act: none before a doubt was settled, and where it was settled, none behind that.
pub data NoneRefuses (refuse : Machine → Option Reply) : Machine → Machine → Type 0 where
  -- the doubt stays
  before_settling : {old new : Machine} → refuse old ≡ None → Same old new → NoneRefuses refuse old new
  -- it was settled
  behind_settling : {old mid new : Machine} → refuse old ≡ None → Settles old mid → refuse mid ≡ None → Same mid new → NoneRefuses refuse old new

-- an offer of this sample would keep it: it isn't dropped, it isn't held for a tick, and the intake has room for it
abbrev pub WouldKeep : List ℕ → PayloadType → Sample → ℕ → Machine → Machine → Type 0
WouldKeep name ty s now m n = (offered m name ty s now).answer ≡ answer.Kept

-- a tick of this row would keep what the row holds
abbrev pub WouldTick : ℕ → ℕ → Machine → Machine → Type 0
WouldTick row now m n = (t : ℕ) × ((ticked m row now).answer ≡ answer.TickKept t)

-- the pin is this actor's, and it has a piece of this number
pub record OwnsPiece (who pin i : ℕ) (m n : Machine) : Type 0 where
  pub state : PinState
  pub there : get m.pins pin ≡ Some state
  pub owner : state.owner ≡ who
  pub piece : RowFile
  pub here : slice_get state.pieces i ≡ Some piece

-- So it was wanting for an act of this number. Nothing refuses the others.
abbrev pub Wants : ℕ → Act → Machine → Machine → Type 0
Wants who (Register name about) m n = NoneRefuses (refuse_by (Register name about)) m n
Wants who (Pause name) m n = NoneRefuses (refuse_by (Pause name)) m n
Wants who (Resume name) m n = NoneRefuses (refuse_by (Resume name)) m n
Wants who (Rename name newname) m n = NoneRefuses (refuse_by (Rename name newname)) m n
Wants who (Offer name ty t line now) m n = WouldKeep name ty (record { t = t; line = line }) now m n
Wants who (Tick row now) m n = WouldTick row now m n
Wants who (MoveStep k) m n = NoneRefuses (refuse_by (MoveStep k)) m n
Wants who (Pin name query) m n = NoneRefuses (refuse_by (Pin name query)) m n
Wants who (OpenPiece pin i) m n = OwnsPiece who pin i m n
Wants who (Details name) m n = NoneRefuses (refuse_by (Details name)) m n
Wants who _ m n = Unit {0}

-- a step that tells want of memory for nothing else
abbrev pub WithWants : (Machine → Machine → Type 0) → (Machine → Reply → Machine → Type 0) → Machine → Reply → Machine → Type 0
WithWants Wanting Step m given n = Step m given n × (given ≡ answer.Memory → Wanting m n)
