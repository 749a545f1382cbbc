-- Acts that are a link's, put together.
use Rattle.std.proofs.Common.{◌≡◌, ℕ, List, [], ◌∷◌, ◌++◌, true, refl}
use Rattle.std.specs.List.{AllByRecursion}
use Rattle.std.proofs.lemmas.List.Elements.{All-append, All-from_recursion}
use Rattle.act_model.specs.declared.acts.Act.TheVariants.{DoorDone}
use Rattle.act_model.specs.declared.actor.Actor.{Ghosts as OfActor}
use Rattle.act_model.specs.History.{Done, Entry, Made, MadeOne}
use Rattle.act_model.specs.Reply.{Reply}
use Rattle.act_model.specs.Roles.{is_of_link}
use Rattle.act_model.proofs.Histories.{made_joined}
use Rattle.serving.specs.Rounds.{IsShift}
use Rattle.service.specs.Serving.{MakesOnly}

abbrev pub IsOfLink : Done → Type 0
IsOfLink d = is_of_link d.act ≡ true

abbrev pub AreOfLink : List Done → Type 0
AreOfLink acts = AllByRecursion IsOfLink acts

pub of_link-append : (xs ys : List Done) → AreOfLink xs → AreOfLink ys → AreOfLink (xs ++ ys)
of_link-append [] ys p q = q
of_link-append (x ∷ xs) ys p q = (p.0, of_link-append xs ys p.1 q)

module _ {A R : Type 0} (actor : OfActor A R) where
  -- these acts were made
  pub makes : (old new : A) (acts : List Done) → Made actor.number actor.between old acts new → AreOfLink acts → MakesOnly actor is_of_link old new
  makes old new acts made are = (acts, made, All-from_recursion IsOfLink acts are)

  -- acts, and then more of them
  pub makes_more : ((a b c : A) (xs ys : List Entry) → actor.between a xs b → actor.between b ys c → actor.between a (xs ++ ys) c) → ((a b : A) (entries : List Entry) → actor.between a entries b → actor.number b ≡ actor.number a)
      → (old mid new : A) → MakesOnly actor is_of_link old mid → MakesOnly actor is_of_link mid new → MakesOnly actor is_of_link old new
  makes_more joined stays old mid new p q = (p.0 ++ q.0, made_joined actor.number actor.between joined stays old mid new p.0 q.0 p.1 q.1, All-append IsOfLink p.0 q.0 p.2 q.2)

  -- a worker's acts
  pub shift_made : ((a b c : A) (xs ys : List Entry) → actor.between a xs b → actor.between b ys c → actor.between a (xs ++ ys) c) → ((a b : A) (entries : List Entry) → actor.between a entries b → actor.number b ≡ actor.number a)
      → (old mid new : A) (reply : Reply) → MakesOnly actor is_of_link old mid → MadeOne actor.number actor.between mid DoorDone reply new → (acts : List Done) × Made actor.number actor.between old acts new × IsShift acts
  shift_made joined stays old mid new reply p made =
      let d : Done = record { act = DoorDone; answer = reply } in
      (p.0 ++ d ∷ [], made_joined actor.number actor.between joined stays old mid new p.0 (d ∷ []) p.1 made, record { links = p.0; last = d; is = refl; are = p.2; done = refl })
