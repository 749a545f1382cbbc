-- What the mover did, by how it ended. First moves of a store, which are made to their ends; then the rounds of the mover.
use Rattle.std.specs.Option.{option_or}
use Rattle.std.specs.Prelude.{◌≡◌, ◌≢◌, ℕ, ◌-◌, ◌^◌, List, [], ◌∷◌, ◌++◌, All, Bool, true, false, Option, Some, None, Result, Ok, Err, min}
use Rattle.std.specs.List.{sum_by}
use Rattle.act_model.specs.declared.acts.Act.TheVariants.{Doors, MoveBegin, MoveStep, Sweep}
use Rattle.act_model.specs.declared.acts.Answer.TheVariants as answer
use Rattle.act_model.specs.declared.actor.Spent.{Spent}
use Rattle.act_model.specs.Reply.{Reply}
use Rattle.act_model.specs.History.{Done}
use Rattle.serving.specs.declared.ends.MoverEnd.{MoverEnd}
use Rattle.serving.specs.declared.ends.MoverEnd.TheVariants.{Rests, MeetsFault, MeetsNoMemory}
use Rattle.serving.specs.Rounds.{IsFault, IsMemory, GoesOn, IsOver, IsMove, BeginsMove, AreMoves, EndsMoves, IsOfStore, EndsStore, IsMoveRound, EndsSo}
use Rattle.serving.specs.declared.moves.BegunMove.{BegunMove}
use Rattle.serving.specs.declared.moves.BegunMove.TheVariants as begun
use Rattle.serving.specs.declared.moves.MoveErr.{MoveErr}
use Rattle.serving.specs.declared.moves.MoveErr.TheVariants as err
use Rattle.serving.specs.declared.moves.OneMove.{OneMove}
use Rattle.serving.specs.declared.moves.OneMove.TheVariants as one
use Rattle.serving.specs.declared.moves.StoreMoved.{StoreMoved}
use Rattle.serving.specs.Does.{AreNone}
use Rattle.serving.specs.Timed.{RoundsAt}

-- PARTITIONS THAT WERE RETIRED

-- by an act that was answered so
abbrev pub parts_in : Reply → ℕ
parts_in (answer.Retired parts) = parts
parts_in other = 0

-- by all these acts
abbrev pub retired_by : List Done → ℕ
retired_by ds = sum_by (λ (d : Done). parts_in d.answer) ds

-- a number, as a u64 shows it
abbrev pub shown : ℕ → ℕ
shown n = min n (2 ^ 64 - 1)

-- MOVES OF A STORE

-- why moves stopped, by the last answer; there was none where no act was left
abbrev pub StoppedBy : MoveErr → Reply → Type 0
StoppedBy err.DiskFault reply = reply ≡ answer.DiskFault
StoppedBy (err.Damaged name at) reply = reply ≡ answer.Damaged name at
StoppedBy err.Spent reply = ⊥
StoppedBy err.Memory reply = reply ≡ answer.Memory

-- so it is, or where no act was left, as `SoFar` says
abbrev pub UnlessSpent : {X : Type 0} → (List Done → Type 0) → (Result X MoveErr → List Done → Type 0) → Result X MoveErr → List Done → Type 0
UnlessSpent SoFar Are (Err err.Spent) ds = SoFar ds
UnlessSpent SoFar Are result ds = Are result ds

-- a step after which its move goes on
abbrev pub IsStepOn : ℕ → Done → Type 0
IsStepOn m d = (d.act ≡ MoveStep m) × GoesOn d.answer

-- such steps
abbrev pub AreStepsOn : ℕ → List Done → Type 0
AreStepsOn m ds = All (IsStepOn m) ds

-- no move, or one that goes on
pub data IsBegun (store now : ℕ) : List Done → Type 0 where
  none_begun : IsBegun store now []
  one_begun : {steps : List Done} (first : Done) (m : ℕ) → BeginsMove store now m first → AreStepsOn m steps → IsBegun store now (first ∷ steps)

-- moves of a store, and what was begun behind them
pub record AreSoFar (store now : ℕ) (ds : List Done) : Type 0 where
  pub before : List Done
  pub rest : List Done
  pub is : ds ≡ before ++ rest
  pub moves : AreMoves store now before
  pub goes : IsBegun store now rest

-- the one act that begins a move, by its answer
abbrev pub BegunSo : ℕ → ℕ → Result BegunMove MoveErr → Done → Type 0
BegunSo store now (Ok (begun.Moves m)) d = BeginsMove store now m d
BegunSo store now (Ok (begun.Nothing doors)) d = (d.act ≡ MoveBegin store now) × (d.answer ≡ answer.Nothing doors)
BegunSo store now (Err why) d = (d.act ≡ MoveBegin store now) × StoppedBy why d.answer

abbrev pub BeginsSo : ℕ → ℕ → Result BegunMove MoveErr → List Done → Type 0
BeginsSo store now result ds = UnlessSpent AreNone (λ result ds. (d : Done) × (ds ≡ d ∷ []) × BegunSo store now result d) result ds

-- one step, and how many partitions the move retired, if it is over
abbrev pub SteppedSo : Result (Option ℕ) MoveErr → Reply → Type 0
SteppedSo (Ok None) reply = GoesOn reply
SteppedSo (Ok (Some parts)) reply = IsOver reply × (parts ≡ parts_in reply)
SteppedSo (Err why) reply = StoppedBy why reply

abbrev pub StepsSo : ℕ → Result (Option ℕ) MoveErr → List Done → Type 0
StepsSo m result ds = UnlessSpent AreNone (λ result ds. (d : Done) × (ds ≡ d ∷ []) × (d.act ≡ MoveStep m) × SteppedSo result d.answer) result ds

-- a move to its end, and how many partitions it retired
abbrev pub MovedSo : ℕ → Result ℕ MoveErr → List Done → Type 0
MovedSo m (Ok parts) ds = IsMove IsOver m ds × (parts ≡ retired_by ds)
MovedSo m (Err why) ds = IsMove (StoppedBy why) m ds

abbrev pub MovesSo : ℕ → Result ℕ MoveErr → List Done → Type 0
MovesSo m result ds = UnlessSpent (AreStepsOn m) (MovedSo m) result ds

-- a move of a store, from its begin to its end
pub record IsOneMove (store now : ℕ) (ds : List Done) : Type 0 where
  pub first : Done
  pub m : ℕ
  pub steps : List Done
  pub is : ds ≡ first ∷ steps
  pub begins : BeginsMove store now m first
  pub goes : IsMove IsOver m steps

-- one more move of a store, or none was to make
abbrev pub OnceSo : ℕ → ℕ → Result OneMove MoveErr → List Done → Type 0
OnceSo store now (Ok (one.Over parts)) ds = IsOneMove store now ds × (parts ≡ retired_by ds)
OnceSo store now (Ok (one.Nothing doors)) ds = ds ≡ record { act = MoveBegin store now; answer = answer.Nothing doors } ∷ []
OnceSo store now (Err why) ds = EndsMoves (StoppedBy why) store now ds

abbrev pub OneMoveSo : ℕ → ℕ → Result OneMove MoveErr → List Done → Type 0
OneMoveSo store now result ds = UnlessSpent (IsBegun store now) (OnceSo store now) result ds

-- All moves of a store, all begun at one moment, up to where it had none to make, or to the first act that stopped them.
abbrev pub StoreMovedSo : ℕ → ℕ → Result StoreMoved MoveErr → List Done → Type 0
StoreMovedSo store now (Ok moved) ds = IsOfStore (λ reply. reply ≡ answer.Nothing moved.doors) store now ds × (moved.retired ≡ shown (retired_by ds))
StoreMovedSo store now (Err why) ds = IsOfStore (StoppedBy why) store now ds

abbrev pub StoreMovesSo : ℕ → ℕ → Result StoreMoved MoveErr → List Done → Type 0
StoreMovesSo store now result ds = UnlessSpent (AreSoFar store now) (StoreMovedSo store now) result ds

-- the one Sweep
abbrev pub SweepSaid : Result (Unit {0}) MoveErr → Reply → Type 0
SweepSaid (Ok done) reply = (files : ℕ) × (reply ≡ answer.Swept files)
SweepSaid (Err why) reply = StoppedBy why reply

abbrev pub IsSwept : Result (Unit {0}) MoveErr → List Done → Type 0
IsSwept result ds = UnlessSpent AreNone (λ result ds. (d : Done) × (ds ≡ d ∷ []) × (d.act ≡ Sweep) × SweepSaid result d.answer) result ds

-- ROUNDS OF THE MOVER

-- how a round goes on where its moves stopped
abbrev pub end_met : MoveErr → Result (Option MoverEnd) Spent
end_met err.DiskFault = Ok (Some MeetsFault)
end_met (err.Damaged name at) = Ok (Some MeetsFault)
end_met err.Spent = Err (record {})
end_met err.Memory = Ok (Some MeetsNoMemory)

-- how a store's moves ended, by the last answer: nothing was to move while doors were left, or none were; a fault; want of memory
abbrev pub EndsStoreSo : Option MoverEnd → Reply → Type 0
EndsStoreSo None reply = (doors : ℕ) × (reply ≡ answer.Nothing doors) × (doors ≢ 0)
EndsStoreSo (Some Rests) reply = reply ≡ answer.Nothing 0
EndsStoreSo (Some MeetsFault) reply = IsFault reply
EndsStoreSo (Some MeetsNoMemory) reply = IsMemory reply

-- the moves of a store
abbrev pub StoreSo : ℕ → ℕ → Option MoverEnd → List Done → Type 0
StoreSo store now end ds = IsOfStore (EndsStoreSo end) store now ds

abbrev pub SweptSo : Option MoverEnd → Reply → Type 0
SweptSo None reply = (files : ℕ) × (reply ≡ answer.Swept files)
SweptSo (Some Rests) reply = ⊥
SweptSo (Some MeetsFault) reply = IsFault reply
SweptSo (Some MeetsNoMemory) reply = IsMemory reply

-- the one Sweep
abbrev pub SweepsSo : Option MoverEnd → List Done → Type 0
SweepsSo end ds = (d : Done) × (ds ≡ d ∷ []) × (d.act ≡ Sweep) × SweptSo end d.answer

abbrev pub fault_of : Option MoverEnd → Option MoverEnd
fault_of None = None
fault_of (Some Rests) = None
fault_of (Some MeetsFault) = Some MeetsFault
fault_of (Some MeetsNoMemory) = Some MeetsNoMemory

-- at a round that began with no doors, the first fault or want of memory is its end
abbrev pub met_in : Bool → Option MoverEnd → Option MoverEnd → Option MoverEnd → Option MoverEnd
met_in false short medium swept = None
met_in true short medium swept = option_or (fault_of short) (option_or (fault_of medium) swept)

-- how a round ended, if it is the last
abbrev pub end_of_round : Bool → Option MoverEnd → Option MoverEnd → Option MoverEnd → Option MoverEnd
end_of_round shut (Some Rests) (Some Rests) swept = Some Rests
end_of_round shut short medium swept = met_in shut short medium swept

-- a round, all at this moment
abbrev pub MoveRoundAt : ℕ → List Done → Type 0
MoveRoundAt now ds = (round : IsMoveRound ds) × (round.now ≡ now)

-- the last round, at this moment
abbrev pub LastMovesAt : MoverEnd → ℕ → List Done → Type 0
LastMovesAt end now ds = MoveRoundAt now ds × EndsSo end ds

-- a round, the last one where an end is told
abbrev pub IsMoverRoundSo : ℕ → Option MoverEnd → List Done → Type 0
IsMoverRoundSo now None ds = MoveRoundAt now ds
IsMoverRoundSo now (Some end) ds = LastMovesAt end now ds

-- a beginning of a round, behind which no act was left
pub data MovesCutAt (now : ℕ) : List Done → Type 0 where
  no_doors_asked : MovesCutAt now []
  short_begun : {short : List Done} (first : Done) → first.act ≡ Doors → AreSoFar 1 now short → MovesCutAt now (first ∷ short)
  medium_begun : {short medium : List Done} (first : Done) → first.act ≡ Doors → IsOfStore EndsStore 1 now short → AreSoFar 2 now medium → MovesCutAt now (first ∷ (short ++ medium))
  sweep_ahead : {short medium : List Done} (first : Done) → first.act ≡ Doors → IsOfStore EndsStore 1 now short → IsOfStore EndsStore 2 now medium → MovesCutAt now (first ∷ (short ++ medium))

-- The mover's rounds at these moments, of which the last ended so, or had no act left.
abbrev pub MovesTo : Result MoverEnd Spent → List ℕ → List Done → Type 0
MovesTo (Ok end) moments ds = RoundsAt MoveRoundAt (LastMovesAt end) moments ds
MovesTo (Err spent) moments ds = RoundsAt MoveRoundAt MovesCutAt moments ds
