-- What was asked and answered, by whom, in order. A run of an archive is such a list together with the states that its acts lead
-- through. One who acts knows a part of the one history: others' entries may stand between his own, and of his own none is missing
-- (`Made`).
use Rattle.std.specs.Prelude.{◌≡◌, ℕ, ◌==◌, List, [], ◌∷◌, ◌++◌, filter, map}
use Rattle.act_model.specs.declared.acts.Act.{Act}
use Rattle.act_model.specs.Reply.{Reply}
use Rattle.act_model.specs.Machine.{Machine}
use Rattle.act_model.specs.Step.{Step, MayAsk}

-- one event: who acted, what, and what was answered
pub record Entry : Type 0 where
  pub who : ℕ
  pub act : Act
  pub answer : Reply

-- the entries lead from one state to another, step by step, and each was an act that may be asked
abbrev pub Runs : Machine → List Entry → Machine → Type 0
Runs old [] new = new ≡ old
Runs old (e ∷ rest) new = MayAsk e.act × (mid : Machine) × Step e.who e.act old e.answer mid × Runs mid rest new

-- the entries under a number
abbrev pub own : ℕ → List Entry → List Entry
own who entries = filter (λ e. e.who == who) entries

-- an act and its answer
pub record Done : Type 0 where
  pub act : Act
  pub answer : Reply

abbrev pub done_of : Entry → Done
done_of e = record { act = e.act; answer = e.answer }

-- what was done under a number, in order
abbrev pub mine : ℕ → List Entry → List Done
mine who entries = map done_of (own who entries)

-- ENTRIES AS STEPS

-- an entry of a run is a step between two of its states: those before it lead to the one, and those behind it from the other
pub record StepsAt (old : Machine) (front : List Entry) (e : Entry) (back : List Entry) (new : Machine) : Type 0 where
  pub at : Machine
  pub after : Machine
  pub to : Runs old front at
  pub asked : MayAsk e.act
  pub step : Step e.who e.act at e.answer after
  pub from : Runs after back new

-- where what was done under a number is cut, the whole list is cut at that entry
pub record CutAt (who : ℕ) (entries : List Entry) (earlier : List Done) (d : Done) (later : List Done) : Type 0 where
  pub front : List Entry
  pub entry : Entry
  pub back : List Entry
  pub is : entries ≡ front ++ entry ∷ back
  pub by : entry.who ≡ who
  pub done : done_of entry ≡ d
  pub front_is : mine who front ≡ earlier
  pub back_is : mine who back ≡ later

-- WHAT ONE WHO ACTS IS PROMISED

-- between two states of an actor just these acts were made under its number, in this order, and answered so
pub record Made {A : Type 0} (number : A → ℕ) (between : A → List Entry → A → Type 0) (old : A) (acts : List Done) (new : A) : Type 0 where
  pub entries : List Entry
  pub leads : between old entries new
  pub just_these : mine (number old) entries ≡ acts

-- between them just this one act was made under its number, and answered so
abbrev pub MadeOne : {A : Type 0} → (A → ℕ) → (A → List Entry → A → Type 0) → A → Act → Reply → A → Type 0
MadeOne number between old act answer new = Made number between old (record { act = act; answer = answer } ∷ []) new

-- an act's promise: its entry ends what the actor knows, and no other is under its number
pub record Acted {A : Type 0} (number : A → ℕ) (between : A → List Entry → A → Type 0) (old : A) (act : Act) (answer : Reply) (new : A) : Type 0 where
  pub others : List Entry
  pub leads : between old (others ++ record { who = number old; act = act; answer = answer } ∷ []) new
  pub not_mine : own (number old) others ≡ []

-- what follows from a state: a run of the entries, and that the new value stands for its end
pub record Goes (stands : Machine → Type 0) (m : Machine) (entries : List Entry) : Type 0 where
  pub after : Machine
  pub runs : Runs m entries after
  pub stands_for : stands after

-- The act's own step: others' entries lead to the state before it, and the new value stands for the state after it.
pub record LastStep (stands : Machine → Type 0) (m : Machine) (others : List Entry) (who : ℕ) (act : Act) (answer : Reply) : Type 0 where
  pub at : Machine
  pub after : Machine
  pub to : Runs m others at
  pub asked : MayAsk act
  pub step : Step who act at answer after
  pub stands_for : stands after
