-- How serving ends.
use Rattle.std.specs.Prelude.{◌≡◌, ◌≢◌, ◌⊎◌, ℕ, ◌<◌, ◌≤◌, List, [], ◌∷◌, ◌++◌, length, Some, All, Contains, slice_get}
use Rattle.act_model.specs.declared.acts.Act.TheVariants.{MoveBegin}
use Rattle.act_model.specs.declared.acts.Answer.TheVariants.{Nothing}
use Rattle.act_model.specs.Rows.{RowState, durable, accepted}
use Rattle.act_model.specs.Machine.{Machine}
use Rattle.act_model.specs.Sound.{IsSound}
use Rattle.act_model.specs.History.{Entry, Runs, StepsAt, own, mine}
use Rattle.serving.specs.Rounds.{IsShift, IsFlushing, IsTick, IsMoving, IsFault}
use Rattle.serving.specs.declared.ends.FlushEnd.{FlushEnd}
use Rattle.serving.specs.declared.ends.FlushEnd.TheVariants.{LeavesNone}
use Rattle.serving.specs.declared.ends.MoverEnd.{MoverEnd}
use Rattle.serving.specs.declared.ends.MoverEnd.TheVariants.{Rests}

-- The entries of a run are those of workers, of one flusher and of one mover, each of whom did its work to its end.
pub record ServesToEnd (old : Machine) (entries : List Entry) (new : Machine) (workers : List ℕ) (flusher mover : ℕ) (flushed : FlushEnd) (moved : MoverEnd) : Type 0 where
  pub sound : IsSound old
  pub runs : Runs old entries new
  pub doors : old.doors ≡ length workers
  pub only : (q : ℕ) → ¬ Contains (flusher ∷ mover ∷ workers) q → own q entries ≡ []
  pub shifts : All (λ w. IsShift (mine w entries)) workers
  pub flushes : IsFlushing flushed (mine flusher entries)
  pub moves : IsMoving moved (mine mover entries)

-- an entry of a run, in the state in which it was made
pub record MadeIn (old : Machine) (entries : List Entry) (new : Machine) (Such : Machine → Entry → Type 0) : Type 0 where
  pub front : List Entry
  pub entry : Entry
  pub back : List Entry
  pub is : entries ≡ front ++ entry ∷ back
  pub stands : StepsAt old front entry back new
  pub such : Such stands.at entry

-- a state of a run at which no doors are left, and before which there were some
pub record FirstShut (old : Machine) (entries : List Entry) (new : Machine) : Type 0 where
  pub front : List Entry
  pub back : List Entry
  pub is : entries ≡ front ++ back
  pub mid : Machine
  pub to : Runs old front mid
  pub from : Runs mid back new
  pub shut : mid.doors ≡ 0
  pub first : (before after : List Entry) (m : Machine) → front ≡ before ++ after → after ≢ [] → Runs old before m → m.doors ≢ 0

-- a mover's act was answered so while no doors were left
abbrev pub FaultsShut : ℕ → Machine → List Entry → Machine → Type 0
FaultsShut mover old entries new = MadeIn old entries new (λ m e. (e.who ≡ mover) × IsFault e.answer × (m.doors ≡ 0))

abbrev pub FindsNothing : ℕ → ℕ → Machine → List Entry → Machine → Type 0
FindsNothing mover store old entries new = MadeIn old entries new (λ m e. (e.who ≡ mover) × ((now : ℕ) × (e.act ≡ MoveBegin store now)) × (e.answer ≡ Nothing 0))

pub record EndsWell (old : Machine) (entries : List Entry) (new : Machine) (mover : ℕ) : Type 0 where
  pub shut : new.doors ≡ 0
  pub durable_is : (i : ℕ) (row : RowState) → slice_get new.rows i ≡ Some row → durable row ≡ accepted row
  pub has_first : FirstShut old entries new
  pub ticked : (s : FirstShut old entries new) (i : ℕ) → i < length s.mid.rows → MadeIn s.mid s.back new (λ m e. ((now : ℕ) × IsTick now i e.act) × (m.doors ≡ 0))
  pub moved : (store : ℕ) → 1 ≤ store → store ≤ 2 → FindsNothing mover store old entries new ⊎ FaultsShut mover old entries new

-- a service with one worker that served may end so
pub record MayEndSo : Type 0 where
  pub old : Machine
  pub entries : List Entry
  pub new : Machine
  pub worker : ℕ
  pub flusher : ℕ
  pub mover : ℕ
  pub served : ServesToEnd old entries new (worker ∷ []) flusher mover LeavesNone Rests
