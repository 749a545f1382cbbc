-- What an actor did in a call, as a list of its own acts.
use Rattle.std.specs.Prelude.{◌≡◌, List, [], ◌∷◌, Bool, true}
use Rattle.act_model.specs.declared.acts.Act.TheVariants.{Doors}
use Rattle.act_model.specs.declared.acts.Answer.TheVariants.{DoorsLeft}
use Rattle.act_model.specs.declared.actor.Actor.{Ghosts as OfActor}
use Rattle.act_model.specs.Reply.{Reply}
use Rattle.act_model.specs.History.{Done, Made}

-- just such acts were made
abbrev pub Does : {A R : Type 0} → OfActor A R → A → (List Done → Type 0) → A → Type 0
Does actor old Such new = (ds : List Done) × Made actor.number actor.between old ds new × Such ds

-- no act
abbrev pub AreNone : List Done → Type 0
AreNone ds = ds ≡ []

-- the one act that asks for the doors, and whether it found none
abbrev pub AsksDoors : Bool → List Done → Type 0
AsksDoors none ds = (reply : Reply) × (ds ≡ record { act = Doors; answer = reply } ∷ []) × (none ≡ true → reply ≡ DoorsLeft 0)
