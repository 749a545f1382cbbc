-- Rounds, each at one moment of a clock.
use Rattle.std.specs.Prelude.{◌≡◌, ℕ, List, [], ◌∷◌, ◌++◌, Option}
use Rattle.edge_io.specs.Moments.{Moments, Gives}
use Rattle.act_model.specs.declared.actor.Actor.{Ghosts as OfActor}
use Rattle.act_model.specs.History.{Done}
use Rattle.serving.specs.Does.{Does}

-- just such acts were made, at the moments that the clock gave, and it gave no others
abbrev pub DoesAt : {A R : Type 0} → OfActor A R → A → Option Moments → (List ℕ → List Done → Type 0) → A → Option Moments → Type 0
DoesAt actor old clock Such new clock' = (moments : List ℕ) × Gives clock clock' moments × Does actor old (Such moments) new

-- rounds one after another, each at the moment at its place
pub data AreRoundsAt (Round : ℕ → List Done → Type 0) : List ℕ → List Done → Type 0 where
  no_round_at : AreRoundsAt Round [] []
  one_more_at : {moments : List ℕ} {before round : List Done} (now : ℕ) → AreRoundsAt Round moments before → Round now round → AreRoundsAt Round (moments ++ now ∷ []) (before ++ round)

-- such rounds, and then the last one
pub record RoundsAt (Round Last : ℕ → List Done → Type 0) (moments : List ℕ) (ds : List Done) : Type 0 where
  pub earlier : List ℕ
  pub now : ℕ
  pub before : List Done
  pub last : List Done
  pub at : moments ≡ earlier ++ now ∷ []
  pub is : ds ≡ before ++ last
  pub rounds : AreRoundsAt Round earlier before
  pub ends : Last now last
