-- Two passes that make an act each, and meet.
use Rattle.std.specs.Prelude.{◌≡◌, ℕ, ◌<◌, [], ◌∷◌, ◌++◌}
use Rattle.turn_rooms.specs.declared.rooms.Pass.{Pass}
use Rattle.turn_rooms.specs.declared.rooms.Rooms.{Rooms}
use Rattle.turn_rooms.specs.Histories.{entry}
use Rattle.turn_rooms.specs.Passes.{Opens, known, own_acts}

-- the rooms were opened, and this is their first pass
abbrev pub IsFirst : {S A B : Type 0} → (S → ℕ → ℕ → A → B → S → Type 0) → Rooms S A B → Pass S A B → Type 0
IsFirst {S} steps rooms pass = (room : S) × Opens steps rooms room pass

-- this act with this answer is one more of the pass's own
abbrev pub AddsOne : {S A B : Type 0} → Pass S A B → Pass S A B → A → B → Type 0
AddsOne {S} old new act answer = (after : S) × (own_acts new ≡ own_acts old ++ entry old.number act answer after ∷ [])

-- The pass knows two acts and no others: one of number 0, and then one of another.
pub record KnowsTwo {S A B : Type 0} (pass : Pass S A B) (one : A) (first : B) (two : A) (second : B) : Type 0 where
  pub other : ℕ
  pub is_other : 0 < other
  pub after_one : S
  pub after_two : S
  pub are : known pass ≡ entry 0 one first after_one ∷ entry other two second after_two ∷ []
