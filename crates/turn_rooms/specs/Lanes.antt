-- A lane: one word and one slot of a table, with its history, whatever else the table has. `sight` is what a seat saw of the lane, and
-- `wrap` is what its slot holds.
use Rattle.std.specs.Prelude.{◌≡◌, ◌≢◌, ℕ, ◌*◌, ◌⊎◌, List, [], ◌∷◌, ◌++◌, map, length, slice_index, Option}
use mathlib.Core.Option.{some, none}
use mathlib.Core.Option as maybe
use lib.ListN.{get_elem?}
use Rattle.atomic_table.specs.Table.{State, Me, Step, rest}
use Rattle.turn_rooms.specs.declared.room.RoomEntry.{RoomEntry}
use Rattle.turn_rooms.specs.declared.view.RoomSeen.{RoomSeen}
use Rattle.turn_rooms.specs.declared.view.SeatNumbers.{SeatNumbers}
use Rattle.turn_rooms.specs.declared.view.View.{View}
use Rattle.turn_rooms.specs.Views.{view_of, looked, learned, took, missed, entries_in, given}
use Rattle.turn_rooms.specs.Numbers.{Numbered}
use Rattle.turn_rooms.specs.Rules.{Finds, Recorded, Told, Whole, left_by}

-- a slot's content, or none while it is out
abbrev pub lifted : {S K : Type 0} → (Option S → K) → maybe.Option (Option S) → maybe.Option K
lifted wrap none = none
lifted wrap (some k) = some (wrap k)

-- What a table's rule says of its lane with the word i and the slot j
pub record Lane {S A B K W : Type 0} (steps : S → ℕ → ℕ → A → B → S → Type 0) (begun : S) (sight : W → RoomSeen S A B)
    (standing : W → SeatNumbers) (wrap : Option S → K) (i j : ℕ) (s : State K W) : Type 0 where
  pub history : List (RoomEntry S A B)
  pub drawn : ℕ
  pub word : ℕ
  pub home : maybe.Option (Option S)
  pub is_word : slice_index s.words i ≡ word
  pub is_home : get_elem? s.homes j ≡ some (lifted wrap home)
  pub numbers : Numbered drawn (map standing s.views)
  pub room : Recorded steps begun history drawn word home (map (λ w. (sight w, standing w)) s.views)

-- the history stays, or gets an entry that the seat may add
abbrev pub Grows : {S A B W : Type 0} → (W → RoomEntry S A B → Type 0) → W → List (RoomEntry S A B) → List (RoomEntry S A B) → Type 0
Grows {S} {A} {B} {W} May w h h' = (h' ≡ h) ⊎ ((e : RoomEntry S A B) × (h' ≡ h ++ e ∷ []) × May w e)

abbrev pub lane_view : {S A B W : Type 0} → (W → RoomSeen S A B) → (W → SeatNumbers) → W → View S A B
lane_view sight standing w = view_of (sight w) (standing w)

-- What the steps tell
module _ {S A B K W : Type 0} (steps : S → ℕ → ℕ → A → B → S → Type 0) (sight : W → RoomSeen S A B) (standing : W → SeatNumbers)
    (with_sight : W → RoomSeen S A B → W) where
  abbrev pub lane_looks : Step K → Me K W → ℕ → Me K W → Type 0
  lane_looks st m found m' =
      (h : List (RoomEntry S A B)) × Told steps (lane_view sight standing m.0) h × Finds found h
      × (m' ≡ (with_sight m.0 (looked (sight m.0) h found), m.1))

  abbrev pub lane_learns : Step K → Me K W → ℕ → Me K W → Type 0
  lane_learns st m found m' =
      (h : List (RoomEntry S A B)) × Told steps (lane_view sight standing m.0) h × Whole steps (standing m.0) h
      × (m' ≡ (with_sight m.0 (learned (sight m.0) h), m.1))

  -- Knows is what the seat learns of the rest of the table, where it takes the slot
  abbrev pub lane_takes : (Option S → K) → ℕ → (W → List (RoomEntry S A B) → Type 0) → Step K → Me K W → ℕ → Me K W → Type 0
  lane_takes wrap j Knows st m found m' =
      (h : List (RoomEntry S A B)) × Told steps (lane_view sight standing m.0) h
      × (found ≡ st.first → (found ≡ 2 * length h) × (m' ≡ (with_sight m.0 (took (sight m.0) h), (j, wrap (left_by (sight m.0).begun h)) ∷ m.1)) × Knows m.0 h)
      × (found ≢ st.first → Finds found h × (m' ≡ (with_sight m.0 (missed (sight m.0) h found), m.1)))

  -- the entries that a store adds with what the seat carries
  abbrev pub lane_entries : (K → Option S) → (W → Option (A × B)) → Me K W → List (RoomEntry S A B)
  lane_entries unwrap said m = entries_in (said m.0) (standing m.0).number (map (λ (x : ℕ × K). (x.0, unwrap x.1)) m.1)

  abbrev pub lane_gives : (K → Option S) → (W → Option (A × B)) → Step K → Me K W → ℕ → Me K W → Type 0
  lane_gives unwrap said st m found m' = m' ≡ (with_sight m.0 (given (sight m.0) (lane_entries unwrap said m)), rest m.1)
