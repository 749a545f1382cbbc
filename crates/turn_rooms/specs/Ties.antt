-- Two histories side by side. Each entry names, by its length, the beginning of the other history that its pass knew.
use Rattle.std.specs.Prelude.{ℕ, List}
use Rattle.closed_pairs.specs.Pairs.{IsClosed, IsHalfLegal}
use Rattle.turn_rooms.specs.declared.room.RoomEntry.{RoomEntry}
use Rattle.turn_rooms.specs.declared.beside.ActBeside.{ActBeside}

abbrev pub asked : {A : Type 0} → ℕ → A → ActBeside A
asked other act = record { other = other; act = act }

-- a step of a half, whatever its pass knew of the other half
abbrev pub knowing : {S A B : Type 0} → (S → ℕ → ℕ → A → B → S → Type 0) → S → ℕ → ℕ → ActBeside A → B → S → Type 0
knowing steps s who n a answer s' = steps s who n a.act answer s'

-- the history of a half
abbrev pub HalfHistory : Type 0 → Type 0 → Type 0 → Type 0
HalfHistory S A B = List (RoomEntry S (ActBeside A) B)

-- how many entries of the other history an entry's pass knew
abbrev pub knew : {S A B : Type 0} → RoomEntry S (ActBeside A) B → ℕ
knew e = e.act.other

-- what its pass knew of the other history allows an entry's act
abbrev pub Allowed : {S A B F : Type 0} → (List F → A → Type 0) → HalfHistory S A B → RoomEntry S (ActBeside A) B → List F → Type 0
Allowed allows front e known = allows known e.act.act

-- The tie of two halves' histories: the pair is closed, and what each entry's pass knew allows the entry's act.
pub record Tied {S A B T C D : Type 0} (allows : HalfHistory T C D → A → Type 0) (allows' : HalfHistory S A B → C → Type 0)
    (h : HalfHistory S A B) (g : HalfHistory T C D) : Type 0 where
  pub closed : IsClosed (knew {S = S} {A = A} {B = B}) (knew {S = T} {A = C} {B = D}) h g
  pub first : IsHalfLegal (knew {S = S} {A = A} {B = B}) (Allowed {S = S} {A = A} {B = B} allows) h g
  pub second : IsHalfLegal (knew {S = T} {A = C} {B = D}) (Allowed {S = T} {A = C} {B = D} allows') g h
