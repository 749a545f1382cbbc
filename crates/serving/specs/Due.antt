-- All that is due at one moment is moved: which acts are made, and how many partitions they retired.
use Rattle.std.specs.Prelude.{◌≡◌, ℕ, List, [], ◌∷◌, ◌++◌, Result, Ok, Err}
use Rattle.act_model.specs.declared.acts.Act.TheVariants.{Sweep}
use Rattle.act_model.specs.declared.acts.Answer.TheVariants.{Nothing, Swept}
use Rattle.act_model.specs.Reply.{Reply}
use Rattle.act_model.specs.History.{Done}
use Rattle.serving.specs.Rounds.{IsOfStore}
use Rattle.serving.specs.declared.due.DueMoved.{DueMoved}
use Rattle.serving.specs.declared.moves.MoveErr.{MoveErr}
use Rattle.serving.specs.Moves.{AreSoFar, StoppedBy, UnlessSpent, retired_by, shown}

-- the store has nothing to move
abbrev pub IsNothing : Reply → Type 0
IsNothing reply = (doors : ℕ) × (reply ≡ Nothing doors)

-- Moves of store 1 until it has none to make, then of store 2, and then one Sweep. So many partitions were retired by those of either store.
pub record MovesAll (now : ℕ) (moved : DueMoved) (ds : List Done) : Type 0 where
  pub short : List Done
  pub medium : List Done
  pub sweep : Done
  pub is : ds ≡ short ++ (medium ++ sweep ∷ [])
  pub of_short : IsOfStore IsNothing 1 now short
  pub of_medium : IsOfStore IsNothing 2 now medium
  pub sweeps : sweep.act ≡ Sweep
  pub files : ℕ
  pub swept : sweep.answer ≡ Swept files
  pub short_is : moved.short ≡ shown (retired_by short)
  pub medium_is : moved.medium ≡ shown (retired_by medium)

-- so they begin, and the last act is answered so, which stops them
pub data StopsIn (Such : Reply → Type 0) (now : ℕ) : List Done → Type 0 where
  in_short : {short : List Done} → IsOfStore Such 1 now short → StopsIn Such now short
  in_medium : {short medium : List Done} → IsOfStore IsNothing 1 now short → IsOfStore Such 2 now medium → StopsIn Such now (short ++ medium)
  at_sweep : {short medium : List Done} (sweep : Done) → IsOfStore IsNothing 1 now short → IsOfStore IsNothing 2 now medium → sweep.act ≡ Sweep → Such sweep.answer
      → StopsIn Such now (short ++ (medium ++ sweep ∷ []))

-- they go on, and no act was left for the next
pub data AreDueSoFar (now : ℕ) : List Done → Type 0 where
  within_short : {short : List Done} → AreSoFar 1 now short → AreDueSoFar now short
  within_medium : {short medium : List Done} → IsOfStore IsNothing 1 now short → AreSoFar 2 now medium → AreDueSoFar now (short ++ medium)
  before_sweep : {short medium : List Done} → IsOfStore IsNothing 1 now short → IsOfStore IsNothing 2 now medium → AreDueSoFar now (short ++ medium)

abbrev pub MovedDue : ℕ → Result DueMoved MoveErr → List Done → Type 0
MovedDue now (Ok moved) ds = MovesAll now moved ds
MovedDue now (Err why) ds = StopsIn (StoppedBy why) now ds

-- just these acts
abbrev pub MovesDue : ℕ → Result DueMoved MoveErr → List Done → Type 0
MovesDue now result ds = UnlessSpent (AreDueSoFar now) (MovedDue now) result ds
