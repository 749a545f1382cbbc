-- Which passes are left, and what the last of them knows.
use Rattle.std.specs.Prelude.{◌≡◌, ℕ, ◌+◌, ◌<◌, ◌≤◌, List, [], ◌∷◌, ◌++◌, length, All, Contains, flat_map}
use mathlib.Core.List.{IsPrefix}
use Rattle.turn_rooms.specs.declared.rooms.Pass.{Pass}
use Rattle.turn_rooms.specs.declared.rooms.Rooms.{Rooms}
use Rattle.turn_rooms.specs.Histories.{most_numbers, by}
use Rattle.turn_rooms.specs.Passes.{IsPassOf, IsLast, KnowsAllOf, known, own_acts, stands, gave, drained}

module _ {S A B : Type 0} where
  -- the numbers that a pass and others stand for
  abbrev pub all_stands : Pass S A B → List (Pass S A B) → List ℕ
  all_stands pass notes = stands pass ++ flat_map (λ (n : Pass S A B). stands n) notes

  -- the numbers that they know as given out
  abbrev pub all_gave : Pass S A B → List (Pass S A B) → List ℕ
  all_gave pass notes = gave pass ++ flat_map (λ (n : Pass S A B). gave n) notes

-- A pass as it was drawn of another: it knows what that one knew, has made no act, and stands for its own number alone.
pub record IsNew {S A B : Type 0} (old note : Pass S A B) : Type 0 where
  pub knows : known note ≡ known old
  pub acts : own_acts note ≡ []
  pub stands_for : stands note ≡ note.number ∷ []

-- Nothing is known of a number since, but that all that was known is.
pub record IsBack {S A B : Type 0} (old new : Pass S A B) : Type 0 where
  pub last : IsLast new
  pub same_number : new.number ≡ old.number
  pub goes_on : IsPrefix (known old) (known new)
  pub drained_rises : drained old ≤ drained new

module _ {S A B : Type 0} (steps : S → ℕ → ℕ → A → B → S → Type 0) (r : Rooms S A B) where
  -- No pass is left but this one and those beside it.
  pub record LeftWith (pass : Pass S A B) (notes : List (Pass S A B)) : Type 0 where
    pub rooms : IsPassOf steps r pass
    pub each : All (λ (n : Pass S A B). IsPassOf steps r n) notes
    pub first : Contains (stands pass) 0
    pub given : (q : ℕ) → Contains (all_gave pass notes) q → Contains (all_stands pass notes) q

  -- These were drawn of a pass, which made no act.
  pub record Drawn (old new : Pass S A B) (notes : List (Pass S A B)) : Type 0 where
    pub left : LeftWith new notes
    pub knows : known new ≡ known old
    pub same_number : new.number ≡ old.number
    pub same_stands : stands new ≡ stands old
    pub drained_rises : drained old ≤ drained new
    pub each : All (λ (n : Pass S A B). IsNew old n) notes

  -- These ended in a pass, beside which no other is left. It knows all acts of theirs, and no other act but those that it knew; where
  -- there were none, it is as it was.
  pub record Met (old new : Pass S A B) (notes : List (Pass S A B)) : Type 0 where
    pub rooms : IsPassOf steps r new
    pub back : IsBack old new
    pub each : All (λ (n : Pass S A B). KnowsAllOf n new) notes
    pub knows_more : All (λ (n : Pass S A B). IsPrefix (known n) (known new)) notes
    pub only : 0 < length notes → (q : ℕ) → All (λ (n : Pass S A B). ¬ Contains (stands n) q) notes → by q (known new) ≡ by q (known old)
    pub none : notes ≡ [] → new ≡ old
    -- it stands for its numbers and theirs, and where one of them found that all numbers are drawn, for all that there are
    pub numbers : length (stands new) ≡ length (stands old) + length (flat_map (λ (n : Pass S A B). stands n) notes)
    pub all_drawn : 0 < length notes → 0 < drained new → most_numbers ≤ length (stands new)
