-- What workers, the flusher and the mover do, each as the list of its own acts with their answers.
use Rattle.std.specs.Prelude.{◌≡◌, ◌⊎◌, ℕ, ◌+◌, ◌≤◌, List, [], ◌∷◌, ◌++◌, length, All, Contains}
use Rattle.series_model.specs.Limits.{intake_room, most_rows}
use Rattle.disk_model.specs.declared.name.FileName.{FileName}
use Rattle.act_model.specs.declared.acts.Act.{Act}
use Rattle.act_model.specs.declared.acts.Act.TheVariants.{Tick, Flush, MoveBegin, MoveStep, Sweep, Doors, DoorDone}
use Rattle.act_model.specs.declared.acts.Answer.TheVariants.{NoRow, Flushed, Begun, Busy, Nothing, NoMove, Damaged, Copying, Copied, Published, Retired, Again, DoorsLeft, DiskFault, Memory}
use Rattle.act_model.specs.Reply.{Reply}
use Rattle.act_model.specs.History.{Done}
use Rattle.act_model.specs.Roles.{is_of_link, AllAre}
use Rattle.serving.specs.declared.ends.FlushEnd.{FlushEnd}
use Rattle.serving.specs.declared.ends.FlushEnd.TheVariants.{LeavesNone, FailsToWrite, LacksMemory}
use Rattle.serving.specs.declared.ends.MoverEnd.{MoverEnd}
use Rattle.serving.specs.declared.ends.MoverEnd.TheVariants.{Rests, MeetsFault, MeetsNoMemory}

-- A WORKER

-- a worker's acts: those of its links, and then one DoorDone
pub record IsShift (ds : List Done) : Type 0 where
  pub links : List Done
  pub last : Done
  pub is : ds ≡ links ++ last ∷ []
  pub are : AllAre is_of_link links
  pub done : last.act ≡ DoorDone

-- ROUNDS

-- rounds of this kind, one after another
pub data AreRounds (Round : List Done → Type 0) : List Done → Type 0 where
  no_round : AreRounds Round []
  one_more : {before round : List Done} → AreRounds Round before → Round round → AreRounds Round (before ++ round)

-- THE FLUSHER

abbrev pub IsTick : ℕ → ℕ → Act → Type 0
IsTick now row act = act ≡ Tick row now

-- Ticks of the rows from this number on, all at one moment
abbrev pub AreTicks : ℕ → ℕ → List Done → Type 0
AreTicks now row [] = Unit {0}
AreTicks now row (d ∷ ds) = IsTick now row d.act × AreTicks now (row + 1) ds

-- the last one found no row
pub record EndsAtNoRow (ds : List Done) : Type 0 where
  pub rows : List Done
  pub last : Done
  pub is : ds ≡ rows ++ last ∷ []
  pub answered : last.answer ≡ NoRow

-- A round of the flusher: it asks for the doors, ticks each row at one moment, and then flushes all once. It ticks up to the number at which
-- there is no row, or as many as there can be rows.
pub record IsFlushRound (ds : List Done) : Type 0 where
  pub first : Done
  pub now : ℕ
  pub ticks : List Done
  pub flush : Done
  pub is : ds ≡ first ∷ (ticks ++ flush ∷ [])
  pub asks : first.act ≡ Doors
  pub are : AreTicks now 0 ticks
  pub all : EndsAtNoRow ticks ⊎ (most_rows ≤ length ticks)
  pub flushes : flush.act ≡ Flush intake_room

-- the flush of the last round was answered so
abbrev pub FlushedSo : FlushEnd → Reply → Type 0
FlushedSo LeavesNone reply = (samples : ℕ) × (doors : ℕ) × (reply ≡ Flushed samples 0 doors)
FlushedSo FailsToWrite reply = reply ≡ DiskFault
FlushedSo LacksMemory reply = reply ≡ Memory

-- The flusher's last round: no doors were left as it began.
pub record IsLastFlush (end : FlushEnd) (ds : List Done) : Type 0 where
  pub round : IsFlushRound ds
  pub shut : round.first.answer ≡ DoorsLeft 0
  pub answered : FlushedSo end round.flush.answer

pub record IsFlushing (end : FlushEnd) (ds : List Done) : Type 0 where
  pub before : List Done
  pub round : List Done
  pub is : ds ≡ before ++ round
  pub rounds : AreRounds IsFlushRound before
  pub last : IsLastFlush end round

-- THE MOVER

-- a fault was met: of the disk, or a file that is damaged
abbrev pub IsFault : Reply → Type 0
IsFault reply = (reply ≡ DiskFault) ⊎ ((name : FileName) × (at : ℕ) × (reply ≡ Damaged name at))

-- memory was wanting
abbrev pub IsMemory : Reply → Type 0
IsMemory reply = reply ≡ Memory

-- the move goes on
abbrev pub GoesOn : Reply → Type 0
GoesOn reply = (reply ≡ Copying) ⊎ (reply ≡ Copied) ⊎ (reply ≡ Published)

-- the move is over, with no fault
abbrev pub IsOver : Reply → Type 0
IsOver reply = (reply ≡ NoMove) ⊎ ((parts : ℕ) × (reply ≡ Retired parts)) ⊎ ((len : ℕ) × (copied : ℕ) × (reply ≡ Again len copied))

-- the steps of a move, the last of which is answered so
pub record IsMove (Such : Reply → Type 0) (m : ℕ) (ds : List Done) : Type 0 where
  pub front : List Done
  pub last : Done
  pub is : ds ≡ front ++ last ∷ []
  pub goes : All (λ d. (d.act ≡ MoveStep m) × GoesOn d.answer) front
  pub act : last.act ≡ MoveStep m
  pub such : Such last.answer

-- a move of a store begins, or the running one that is told
pub record BeginsMove (store now m : ℕ) (d : Done) : Type 0 where
  pub act : d.act ≡ MoveBegin store now
  pub answered : ((row : ℕ) × (parts : ℕ) × (d.answer ≡ Begun m row parts)) ⊎ (d.answer ≡ Busy m)

-- moves of a store, one after another, each to its end
pub data AreMoves (store now : ℕ) : List Done → Type 0 where
  no_move : AreMoves store now []
  one_more_move : {before steps : List Done} (first : Done) (m : ℕ) → AreMoves store now before → BeginsMove store now m first → IsMove IsOver m steps
      → AreMoves store now (before ++ first ∷ steps)

-- a fault or want of memory cuts a move short
abbrev pub CutsMove : (Reply → Type 0) → Reply → Type 0
CutsMove Such reply = Such reply × (IsFault reply ⊎ IsMemory reply)

-- the last act of a store's moves, which is answered so: it begins no move, or it is a step that cuts one short
pub data EndsMoves (Such : Reply → Type 0) (store now : ℕ) : List Done → Type 0 where
  at_its_begin : (last : Done) → last.act ≡ MoveBegin store now → Such last.answer → EndsMoves Such store now (last ∷ [])
  at_a_step : {steps : List Done} (first : Done) (m : ℕ) → BeginsMove store now m first → IsMove (CutsMove Such) m steps → EndsMoves Such store now (first ∷ steps)

-- the moves of a store, all begun at one moment, the last act of which is answered so
pub record IsOfStore (Such : Reply → Type 0) (store now : ℕ) (ds : List Done) : Type 0 where
  pub before : List Done
  pub end : List Done
  pub is : ds ≡ before ++ end
  pub moves : AreMoves store now before
  pub ends : EndsMoves Such store now end

-- the store had no move to make, at a time when so many doors were left; a fault was met; or memory was wanting
abbrev pub EndsStore : Reply → Type 0
EndsStore reply = ((doors : ℕ) × (reply ≡ Nothing doors)) ⊎ IsFault reply ⊎ IsMemory reply

-- A round of the mover: it asks for the doors, moves what is ripe in the short term and then in the medium term, all at one moment, and sweeps.
pub record IsMoveRound (ds : List Done) : Type 0 where
  pub first : Done
  pub now : ℕ
  pub short : List Done
  pub medium : List Done
  pub sweep : Done
  pub is : ds ≡ first ∷ (short ++ (medium ++ sweep ∷ []))
  pub asks : first.act ≡ Doors
  pub of_short : IsOfStore EndsStore 1 now short
  pub of_medium : IsOfStore EndsStore 2 now medium
  pub sweeps : sweep.act ≡ Sweep

-- the store had no move to make, and no doors were left
abbrev pub HasNothing : ℕ → List Done → Type 0
HasNothing store ds = (now : ℕ) × Contains ds (record { act = MoveBegin store now; answer = Nothing 0 })

-- after no doors were left, an act was answered so
pub record MeetsShut (Such : Reply → Type 0) (ds : List Done) : Type 0 where
  pub first : Done
  pub rest : List Done
  pub is : ds ≡ first ∷ rest
  pub shut : first.answer ≡ DoorsLeft 0
  pub met : Done
  pub among : Contains rest met
  pub such : Such met.answer

abbrev pub EndsSo : MoverEnd → List Done → Type 0
EndsSo Rests ds = HasNothing 1 ds × HasNothing 2 ds
EndsSo MeetsFault ds = MeetsShut IsFault ds
EndsSo MeetsNoMemory ds = MeetsShut IsMemory ds

pub record IsMoving (end : MoverEnd) (ds : List Done) : Type 0 where
  pub before : List Done
  pub round : List Done
  pub is : ds ≡ before ++ round
  pub rounds : AreRounds IsMoveRound before
  pub last : IsMoveRound round
  pub ends : EndsSo end round
