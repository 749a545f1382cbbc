-- The tie of two histories is kept where one of them gets an entry.
use Rattle.std.proofs.Common.{◌≡◌, ℕ, ◌≤◌, List, [], ◌∷◌, ◌++◌, take, length, refl, ap, sym, ◌∙◌, subst, arith}
use mathlib.Core.List.{IsPrefix}
use Rattle.closed_pairs.specs.Pairs.{none}
use Rattle.closed_pairs.proofs.Interleaved.{joint_is_closed, closed_more, legal_more, each_none}
use Rattle.turn_rooms.specs.declared.room.RoomEntry.{RoomEntry}
use Rattle.turn_rooms.specs.declared.beside.ActBeside.{ActBeside}
use Rattle.turn_rooms.specs.Ties.{HalfHistory, knew, Allowed, Tied}
use Rattle.turn_rooms.proofs.Lists.{prefix_length}

-- a beginning by its length
take_prefix : {X : Type 0} (xs ys : List X) → IsPrefix xs ys → take (length xs) ys ≡ xs
take_prefix [] ys p = refl
take_prefix (x ∷ xs) [] p = absurd (cc (p.1))
take_prefix (x ∷ xs) (y ∷ ys) p = let t : take (length xs) ys ≡ xs = take_prefix xs ys (p.0, cc (p.1)) in let e : x ≡ y = cc (p.1) in (λ i. sym e i ∷ t i)

module _ {S A B T C D : Type 0} where
  pub tied_back : (a : HalfHistory T C D → A → Type 0) (b : HalfHistory S A B → C → Type 0) (h : HalfHistory S A B) (g : HalfHistory T C D) → Tied a b h g → Tied b a g h
  tied_back a b h g t = record { closed = record { one = t.closed.other; other = t.closed.one }; first = t.second; second = t.first }

  -- a give: the entry has the length that its seat knew of the other history
  pub give_tied : (allows : HalfHistory T C D → A → Type 0) (back : HalfHistory S A B → C → Type 0) (h : HalfHistory S A B) (g : HalfHistory T C D) (e : RoomEntry S (ActBeside A) B) (known : HalfHistory T C D)
      → Tied allows back h g → IsPrefix known g → e.act.other ≡ length known → allows known e.act.act → Tied allows back (h ++ e ∷ []) g
  give_tied allows back h g e known t pre is may =
      let le : length known ≤ length g = prefix_length known g pre in
      let low : e.act.other ≤ length g = omega arith in
      let of_known : take e.act.other g ≡ known = ap (λ (n : ℕ). take n g) is ∙ take_prefix known g pre in
      let more = legal_more (knew {S = S} {A = A} {B = B}) (knew {S = T} {A = C} {B = D}) (Allowed {S = S} {A = A} {B = B} allows) (Allowed {S = T} {A = C} {B = D} back) h g e t.closed.other.within t.first t.second
      (subst (λ (z : HalfHistory T C D). allows z e.act.act) (sym of_known) may) in
      record { closed = closed_more (knew {S = S} {A = A} {B = B}) (knew {S = T} {A = C} {B = D}) h g e t.closed low; first = more.0; second = more.1 }

  pub first_tied : (allows : HalfHistory T C D → A → Type 0) (back : HalfHistory S A B → C → Type 0) → Tied {S = S} {A = A} {B = B} {T = T} {C = C} {D = D} allows back [] []
  first_tied allows back = record {
    closed = joint_is_closed (knew {S = S} {A = A} {B = B}) (knew {S = T} {A = C} {B = D}) none;
    first = each_none (λ (front : HalfHistory S A B) (e : RoomEntry S (ActBeside A) B). allows (take e.act.other []) e.act.act);
    second = each_none (λ (front : HalfHistory T C D) (e : RoomEntry T (ActBeside C) D). back (take e.act.other []) e.act.act);
  }
