-- Which passes are left, as passes are drawn, act and end.
use Rattle.std.proofs.Common.{◌≡◌, ℕ, ◌+◌, ◌<◌, ◌≤◌, ◌==◌, Bool, true, false, List, [], ◌∷◌, ◌++◌, ◌⊎◌, inl, inr, ⊎_elim, refl, sym, ap, ◌∙◌, subst, arith, append-nil, append_assoc, flat_map, length, length-append}
use Rattle.std.specs.Prelude.{All, Contains}
use Rattle.std.specs.List.{AllZip}
use Rattle.std.proofs.lemmas.Bool.Decides.{nat_tests}
use Rattle.std.proofs.lemmas.List.Elements.{All-nil, All-cons, All-head, All-tail, All-push, All-weaker, Contains-append_left, Contains-append_right, Contains-append_cases}
use Rattle.std.proofs.lemmas.Grind.{flat_map-append}
use mathlib.Core.List.{IsPrefix}
use Rattle.turn_rooms.specs.declared.room.RoomEntry.{RoomEntry}
use Rattle.turn_rooms.specs.declared.rooms.Pass.{Pass}
use Rattle.turn_rooms.specs.declared.rooms.Rooms.{Rooms}
use Rattle.turn_rooms.specs.declared.view.RoomSeen.{RoomSeen}
use Rattle.turn_rooms.specs.declared.view.SeatNumbers.{SeatNumbers}
use Rattle.turn_rooms.specs.Histories.{most_numbers, by}
use Rattle.turn_rooms.specs.Passes.{IsPassOf, IsLast, Goes, Stays, Parts, Meets, KnowsAllOf, known, stands, gave, drained}
use Rattle.turn_rooms.proofs.Lists.{no_element, has_first, cons_cases, cons_more, prefix_self, prefix_trans, by_behind, by_none}
use Rattle.turn_rooms.proofs.Ended.{ended_meets, ended_still}
use Rattle.workers.specs.Left.{all_stands, IsNew, IsBack, LeftWith, Drawn, Met}

-- LISTS

all_front : {X : Type 0} (P : X → Type 0) (xs ys : List X) → All P (xs ++ ys) → All P xs
all_front P [] ys a = All-nil P
all_front P (x ∷ xs) ys a = All-cons P x xs (All-head P x (xs ++ ys) a) (all_front P xs ys (All-tail P x (xs ++ ys) a))

-- a list in three parts, in either order of the last two
swapped : (a b c : List ℕ) (q : ℕ) → Contains (a ++ (b ++ c)) q → Contains ((a ++ c) ++ b) q
swapped a b c q m = ⊎_elim {C = Contains ((a ++ c) ++ b) q}
    (λ x. Contains-append_left (a ++ c) b q (Contains-append_left a c q x))
    (λ x. ⊎_elim {C = Contains ((a ++ c) ++ b) q} (λ y. Contains-append_right (a ++ c) b q y) (λ y. Contains-append_left (a ++ c) b q (Contains-append_right a c q y)) (Contains-append_cases b c q x))
    (Contains-append_cases a (b ++ c) q m)

back : (a b c : List ℕ) (q : ℕ) → Contains ((a ++ c) ++ b) q → Contains (a ++ (b ++ c)) q
back a b c q m = ⊎_elim {C = Contains (a ++ (b ++ c)) q}
    (λ x. ⊎_elim {C = Contains (a ++ (b ++ c)) q} (λ y. Contains-append_left a (b ++ c) q y) (λ y. Contains-append_right a (b ++ c) q (Contains-append_right b c q y)) (Contains-append_cases a c q x))
    (λ x. Contains-append_right a (b ++ c) q (Contains-append_left b c q x))
    (Contains-append_cases (a ++ c) b q m)

-- a list has a number or has it not
has_or_not : (q : ℕ) (xs : List ℕ) → Contains xs q ⊎ ¬ Contains xs q
has_or_not q [] = inr (no_element q)
has_or_not q (x ∷ xs) = by_test (x == q) refl (has_or_not q xs)
  where
    by_test : (b : Bool) → (x == q) ≡ b → Contains xs q ⊎ ¬ Contains xs q → Contains (x ∷ xs) q ⊎ ¬ Contains (x ∷ xs) q
    by_test true hit rest = let same : x ≡ q = grind (arith, nat_tests) in inl (subst (λ (z : ℕ). Contains (x ∷ xs) z) same (has_first x xs))
    by_test false miss (inl c) = inl (cons_more x xs q c)
    by_test false miss (inr none) = inr (λ c. ⊎_elim {C = ⊥} (λ same. let bad : ⊥ = grind (arith, nat_tests) in bad) none (cons_cases x xs q c))

-- what goes on from a history, with no more entries of any number, is that history
same_numbers : {S A B : Type 0} (xs ys : List (RoomEntry S A B)) → IsPrefix xs ys → ((q : ℕ) → by q ys ≡ by q xs) → ys ≡ xs
same_numbers {S} {A} {B} xs ys p same = by_rest p.0 p.1
  where
    by_rest : (rest : List (RoomEntry S A B)) → xs ++ rest ≡ ys → ys ≡ xs
    by_rest [] is = sym is ∙ append-nil xs
    by_rest (e ∷ rest) is =
        let more = by_behind xs e rest in
        let none : length (by e.who (xs ++ e ∷ rest)) ≡ length (by e.who xs) = ap (λ (h : List (RoomEntry S A B)). length (by e.who h)) is ∙ ap length (same e.who) in
        absurd (omega arith)

module _ {S A B : Type 0} where
  more_stands : (ns : List (Pass S A B)) (n : Pass S A B) → flat_map (λ (n : Pass S A B). stands n) (ns ++ n ∷ []) ≡ flat_map (λ (n : Pass S A B). stands n) ns ++ stands n
  more_stands ns n = flat_map-append (λ (n : Pass S A B). stands n) ns (n ∷ []) ∙ ap (λ (xs : List ℕ). flat_map (λ (n : Pass S A B). stands n) ns ++ xs) (append-nil (stands n))

  more_gave : (ns : List (Pass S A B)) (n : Pass S A B) → flat_map (λ (n : Pass S A B). gave n) (ns ++ n ∷ []) ≡ flat_map (λ (n : Pass S A B). gave n) ns ++ gave n
  more_gave ns n = flat_map-append (λ (n : Pass S A B). gave n) ns (n ∷ []) ∙ ap (λ (xs : List ℕ). flat_map (λ (n : Pass S A B). gave n) ns ++ xs) (append-nil (gave n))

module _ {S A B : Type 0} (steps : S → ℕ → ℕ → A → B → S → Type 0) (r : Rooms S A B) where
  abbrev Q : Type 0
  Q = Pass S A B

  abbrev st : List Q → List ℕ
  st ns = flat_map (λ (n : Q). stands n) ns

  abbrev gv : List Q → List ℕ
  gv ns = flat_map (λ (n : Q). gave n) ns

  -- LEFT

  pub left_none : (p : Q) → IsPassOf steps r p → IsLast p → LeftWith steps r p []
  left_none p is last = record {
    rooms = is;
    each = All-nil (λ (n : Q). IsPassOf steps r n);
    first = last.first;
    given = λ q c. subst (λ (xs : List ℕ). Contains xs q) (sym (append-nil (stands p))) (last.given q (subst (λ (xs : List ℕ). Contains xs q) (append-nil (gave p)) c));
  }

  pub left_last : (p : Q) → LeftWith steps r p [] → IsLast p
  left_last p l = record {
    first = l.first;
    given = λ q c. subst (λ (xs : List ℕ). Contains xs q) (append-nil (stands p)) (l.given q (subst (λ (xs : List ℕ). Contains xs q) (sym (append-nil (gave p))) c));
  }

  -- the last of the others
  pub last_of_left : (p : Q) (ns : List Q) (n : Q) → LeftWith steps r p (ns ++ n ∷ []) → IsPassOf steps r n
  last_of_left p ns n l = last_all ns l.each
    where
      last_all : (ns : List Q) → All (λ (k : Q). IsPassOf steps r k) (ns ++ n ∷ []) → IsPassOf steps r n
      last_all [] a = All-head (λ (k : Q). IsPassOf steps r k) n [] a
      last_all (k ∷ ks) a = last_all ks (All-tail (λ (k : Q). IsPassOf steps r k) k (ks ++ n ∷ []) a)

  left_stays : (a b : Q) (ns : List Q) → LeftWith steps r a ns → Stays steps r a b → LeftWith steps r b ns
  left_stays a b ns l stays = record {
    rooms = stays.rooms;
    each = l.each;
    first = subst (λ (xs : List ℕ). Contains xs 0) (sym stays.same_stands) l.first;
    given = λ q c. subst (λ (xs : List ℕ). Contains (xs ++ st ns) q) (sym stays.same_stands) (l.given q (subst (λ (xs : List ℕ). Contains (xs ++ gv ns) q) stays.same_gave c));
  }

  -- a pass was cut off
  left_drawn : (a b : Q) (ns : List Q) (n : Q) → LeftWith steps r a ns → Parts steps r a b n → LeftWith steps r b (ns ++ n ∷ [])
  left_drawn a b ns n l parts = record {
    rooms = parts.rooms;
    each = All-push (λ (n : Q). IsPassOf steps r n) ns n l.each parts.note_rooms;
    first = subst (λ (xs : List ℕ). Contains xs 0) (sym parts.same_stands) l.first;
    given = λ q c.
        let kept : Contains (gave a ++ gv ns) q → Contains (all_stands b (ns ++ n ∷ [])) q = λ m.
        rw (parts.same_stands, more_stands ns n) (back (stands a) (st ns) (stands n) q (⊎_elim {C = Contains ((stands a ++ stands n) ++ st ns) q}
        (λ x. Contains-append_left (stands a ++ stands n) (st ns) q (Contains-append_left (stands a) (stands n) q x))
        (λ x. Contains-append_right (stands a ++ stands n) (st ns) q x)
        (Contains-append_cases (stands a) (st ns) q (l.given q m)))) in
        ⊎_elim {C = Contains (all_stands b (ns ++ n ∷ [])) q}
        (λ x. ⊎_elim {C = Contains (all_stands b (ns ++ n ∷ [])) q}
        (λ e. Contains-append_right (stands b) (st (ns ++ n ∷ [])) q (rw (more_stands ns n) (Contains-append_right (st ns) (stands n) q (subst (λ z. Contains (stands n) z) e (subst (λ (xs : List ℕ). Contains xs n.number) (sym parts.note_stands) (has_first n.number []))))))
        (λ y. kept (Contains-append_left (gave a) (gv ns) q y))
        (cons_cases n.number (gave a) q (subst (λ (xs : List ℕ). Contains xs q) parts.gives x)))
        (λ x. ⊎_elim {C = Contains (all_stands b (ns ++ n ∷ [])) q}
        (λ y. kept (Contains-append_right (gave a) (gv ns) q y))
        (λ y. absurd (no_element q (subst (λ (xs : List ℕ). Contains xs q) parts.note_gave y)))
        (Contains-append_cases (gv ns) (gave n) q (subst (λ (xs : List ℕ). Contains xs q) (more_gave ns n) x)))
        (Contains-append_cases (gave b) (gv (ns ++ n ∷ [])) q c);
  }

  -- the last of the others ended
  left_met : (a b : Q) (ns : List Q) (n : Q) → LeftWith steps r a (ns ++ n ∷ []) → Meets steps r a b n → LeftWith steps r b ns
  left_met a b ns n l met = record {
    rooms = met.rooms;
    each = all_front {X = Q} (λ (n : Q). IsPassOf steps r n) ns (n ∷ []) l.each;
    first = rw met.stands_for (Contains-append_left (stands a) (stands n) 0 l.first);
    given = λ q c. rw met.stands_for (swapped (stands a) (st ns) (stands n) q
        (subst (λ (xs : List ℕ). Contains (stands a ++ xs) q) (more_stands ns n) (l.given q
        (rw (more_gave ns n) (back (gave a) (gv ns) (gave n) q (subst (λ (xs : List ℕ). Contains (xs ++ gv ns) q) met.gave_all c))))));
  }

  -- the others acted, and stand for what they stood for
  pub left_acted : (p : Q) (ns ms : List Q) → LeftWith steps r p ns → AllZip (Goes steps r) ns ms → LeftWith steps r p ms
  left_acted p ns ms l went = record {
    rooms = l.rooms;
    each = each_went ns ms went;
    first = l.first;
    given = λ q c. rw (stands_went ns ms went) (l.given q (subst (λ (xs : List ℕ). Contains (gave p ++ xs) q) (gave_went ns ms went) c));
  }
    where
      each_went : (ns ms : List Q) → AllZip (Goes steps r) ns ms → All (λ (n : Q). IsPassOf steps r n) ms
      each_went [] [] w = All-nil (λ (n : Q). IsPassOf steps r n)
      each_went [] (m ∷ ms) w = absurd w
      each_went (n ∷ ns) [] w = absurd w
      each_went (n ∷ ns) (m ∷ ms) w = All-cons (λ (n : Q). IsPassOf steps r n) m ms w.0.rooms (each_went ns ms w.1)

      stands_went : (ns ms : List Q) → AllZip (Goes steps r) ns ms → st ms ≡ st ns
      stands_went [] [] w = refl
      stands_went [] (m ∷ ms) w = absurd w
      stands_went (n ∷ ns) [] w = absurd w
      stands_went (n ∷ ns) (m ∷ ms) w = rw (ap (λ (s : SeatNumbers). s.stands) w.0.same_standing, stands_went ns ms w.1) refl

      gave_went : (ns ms : List Q) → AllZip (Goes steps r) ns ms → gv ms ≡ gv ns
      gave_went [] [] w = refl
      gave_went [] (m ∷ ms) w = absurd w
      gave_went (n ∷ ns) [] w = absurd w
      gave_went (n ∷ ns) (m ∷ ms) w = rw (ap (λ (s : SeatNumbers). s.gave) w.0.same_standing, gave_went ns ms w.1) refl

  -- DRAWN

  pub drawn_none : (p : Q) → IsPassOf steps r p → IsLast p → Drawn steps r p p []
  drawn_none p is last = record {
    left = left_none p is last;
    knows = refl;
    same_number = refl;
    same_stands = refl;
    drained_rises = omega arith;
    each = All-nil (λ (n : Q). IsNew p n);
  }

  pub drawn_more : (o a b : Q) (ns : List Q) (n : Q) → Drawn steps r o a ns → Parts steps r a b n → Drawn steps r o b (ns ++ n ∷ [])
  drawn_more o a b ns n d parts =
      let knows : known b ≡ known o = ap (λ (s : RoomSeen S A B). s.known) parts.same_seen ∙ d.knows in
      record {
        left = left_drawn a b ns n d.left parts;
        knows = knows;
        same_number = parts.same_number ∙ d.same_number;
        same_stands = parts.same_stands ∙ d.same_stands;
        drained_rises = let low = d.drained_rises in let same = parts.same_drained in omega arith;
        each = All-push (λ (n : Q). IsNew o n) ns n d.each (record { knows = parts.note_knows ∙ d.knows; acts = parts.note_acts; stands_for = parts.note_stands });
      }

  -- no number was left to draw
  pub drawn_stays : (o a b : Q) (ns : List Q) → Drawn steps r o a ns → Stays steps r a b → drained b ≡ drained a + 1 → Drawn steps r o b ns
  drawn_stays o a b ns d stays more = record {
    left = left_stays a b ns d.left stays;
    knows = ap (λ (s : RoomSeen S A B). s.known) stays.same_seen ∙ d.knows;
    same_number = stays.same_number ∙ d.same_number;
    same_stands = stays.same_stands ∙ d.same_stands;
    drained_rises = let low = d.drained_rises in omega arith;
    each = d.each;
  }

  pub drawn_back : (o a b : Q) (ns : List Q) → Drawn steps r o a ns → Met steps r a b ns → IsBack o b
  drawn_back o a b ns d met = record {
    last = met.back.last;
    same_number = met.back.same_number ∙ d.same_number;
    goes_on = subst (λ h. IsPrefix h (known b)) d.knows met.back.goes_on;
    drained_rises = let low = d.drained_rises in let more = met.back.drained_rises in omega arith;
  }

  -- a number that one of these stands for has no act since they were drawn, or none of them stands for it
  drawn_acts : (o b : Q) (q : ℕ) (ns : List Q) → All (λ (n : Q). IsNew o n) ns → All (λ (n : Q). KnowsAllOf n b) ns → (by q (known b) ≡ by q (known o)) ⊎ All (λ (n : Q). ¬ Contains (stands n) q) ns
  drawn_acts o b q [] fresh knows = inr (All-nil (λ (n : Q). ¬ Contains (stands n) q))
  drawn_acts o b q (n ∷ ns) fresh knows =
      ⊎_elim {C = (by q (known b) ≡ by q (known o)) ⊎ All (λ (k : Q). ¬ Contains (stands k) q) (n ∷ ns)}
      (λ c. inl ((All-head (λ (k : Q). KnowsAllOf k b) n ns knows).acts q c ∙ ap (λ (h : List (RoomEntry S A B)). by q h) (All-head (λ (k : Q). IsNew o k) n ns fresh).knows))
      (λ no. ⊎_elim {C = (by q (known b) ≡ by q (known o)) ⊎ All (λ (k : Q). ¬ Contains (stands k) q) (n ∷ ns)}
      (λ same. inl same)
      (λ none. inr (All-cons (λ (k : Q). ¬ Contains (stands k) q) n ns no none))
      (drawn_acts o b q ns (All-tail (λ (k : Q). IsNew o k) n ns fresh) (All-tail (λ (k : Q). KnowsAllOf k b) n ns knows)))
      (has_or_not q (stands n))

  -- those who made no act have told the pass nothing
  pub nothing_told : (o a b : Q) (ns : List Q) → Drawn steps r o a ns → Met steps r a b ns → known b ≡ known o
  nothing_told o a b [] d met = ap (λ (p : Q). known p) (met.none refl) ∙ d.knows
  nothing_told o a b (n ∷ ns) d met =
      same_numbers (known o) (known b) (drawn_back o a b (n ∷ ns) d met).goes_on
      (λ q. ⊎_elim {C = by q (known b) ≡ by q (known o)}
      (λ same. same)
      (λ none. met.only (omega arith) q none ∙ ap (λ (h : List (RoomEntry S A B)). by q h) d.knows)
      (drawn_acts o b q (n ∷ ns) d.each met.each))

  -- each stands for one number
  one_each : (o : Q) (ns : List Q) → All (λ (n : Q). IsNew o n) ns → length (st ns) ≡ length ns
  one_each o [] fresh = refl
  one_each o (n ∷ ns) fresh =
      let one : length (stands n) ≡ 1 = ap length (All-head (λ (k : Q). IsNew o k) n ns fresh).stands_for in
      let more : length (stands n ++ st ns) ≡ length (stands n) + length (st ns) = length-append (stands n) (st ns) in
      let rest : length (st ns) ≡ length ns = one_each o ns (All-tail (λ (k : Q). IsNew o k) n ns fresh) in omega arith

  -- where no number was left to draw, the pass and those drawn of it stood for all of them
  pub numbers_drawn : (o a b c : Q) (ns : List Q) → Drawn steps r o a ns → Stays steps r a b → drained b ≡ drained a + 1 → (IsLast a → most_numbers ≤ length (stands a)) → Met steps r b c ns → most_numbers ≤ length (stands o) + length ns
  numbers_drawn o a b c [] d stays more alone met =
      let all : most_numbers ≤ length (stands a) = alone (left_last a d.left) in
      let same : length (stands a) ≡ length (stands o) = ap length d.same_stands in omega arith
  numbers_drawn o a b c (n ∷ ns) d stays more alone met =
      let rises = met.back.drained_rises in
      let all : most_numbers ≤ length (stands c) = met.all_drawn (omega arith) (omega arith) in
      let now = met.numbers in
      let same : length (stands b) ≡ length (stands o) = ap length (stays.same_stands ∙ d.same_stands) in
      let ones : length (st (n ∷ ns)) ≡ length (n ∷ ns) = one_each o (n ∷ ns) d.each in omega arith

  -- MET

  -- These ended so far in a pass, beside which others may be left.
  pub record MetSoFar (old new : Q) (met : List Q) : Type 0 where
    pub same_number : new.number ≡ old.number
    pub goes_on : IsPrefix (known old) (known new)
    pub drained_rises : drained old ≤ drained new
    pub each : All (λ (n : Q). KnowsAllOf n new) met
    pub knows_more : All (λ (n : Q). IsPrefix (known n) (known new)) met
    pub still : (q : ℕ) → Contains (stands old) q → Contains (stands new) q
    pub stays : (q : ℕ) → Contains (stands old) q → by q (known new) ≡ by q (known old)
    pub no_more : (q : ℕ) → Contains (stands new) q → ¬ Contains (stands old) q → All (λ (n : Q). ¬ Contains (stands n) q) met → ⊥
    pub whole : 0 < length met → IsLast new → (q : ℕ) → ¬ Contains (stands new) q → by q (known new) ≡ []
    pub none : met ≡ [] → new ≡ old
    pub numbers : length (stands new) ≡ length (stands old) + length (st met)
    pub all_drawn : 0 < length met → IsLast new → 0 < drained new → most_numbers ≤ length (stands new)

  pub met_none : (p : Q) → MetSoFar p p []
  met_none p = record {
    same_number = refl;
    goes_on = prefix_self (known p);
    drained_rises = omega arith;
    each = All-nil (λ (n : Q). KnowsAllOf n p);
    knows_more = All-nil (λ (n : Q). IsPrefix (known n) (known p));
    still = λ q c. c;
    stays = λ q c. refl;
    no_more = λ q c none all. none c;
    whole = λ some. absurd (omega (arith, some));
    none = λ is. refl;
    numbers = omega arith;
    all_drawn = λ some. absurd (omega (arith, some));
  }

  met_more : (o a b : Q) (met : List Q) (n : Q) → IsPassOf steps r a → MetSoFar o a met → Meets steps r a b n → MetSoFar o b (n ∷ met)
  met_more o a b met n is so meets = record {
    same_number = meets.same_number ∙ so.same_number;
    goes_on = prefix_trans (known o) (known a) (known b) so.goes_on meets.goes_on;
    drained_rises = let low = so.drained_rises in let more = meets.drained in omega arith;
    each = All-cons (λ (k : Q). KnowsAllOf k b) n met (ended_meets steps r a b n is meets) (All-weaker (λ (k : Q). KnowsAllOf k a) (λ (k : Q). KnowsAllOf k b) (λ k knows. ended_still steps r a b k n knows meets) met so.each);
    knows_more = All-cons (λ (k : Q). IsPrefix (known k) (known b)) n met meets.note_goes_on (All-weaker (λ (k : Q). IsPrefix (known k) (known a)) (λ (k : Q). IsPrefix (known k) (known b)) (λ k front. prefix_trans (known k) (known a) (known b) front meets.goes_on) met so.knows_more);
    still = λ q c. subst (λ (xs : List ℕ). Contains xs q) (sym meets.stands_for) (Contains-append_left (stands a) (stands n) q (so.still q c));
    stays = λ q c. meets.numbers q (so.still q c) ∙ so.stays q c;
    no_more = λ q c none all.
        ⊎_elim {C = ⊥}
        (λ x. so.no_more q x none (All-tail (λ (k : Q). ¬ Contains (stands k) q) n met all))
        (λ x. All-head (λ (k : Q). ¬ Contains (stands k) q) n met all x)
        (Contains-append_cases (stands a) (stands n) q (subst (λ (xs : List ℕ). Contains xs q) meets.stands_for c));
    whole = λ some. meets.whole;
    none = λ is. absurd cc;
    numbers =
        let now : length (stands b) ≡ length (stands a) + length (stands n) = ap length meets.stands_for ∙ length-append (stands a) (stands n) in
        let more : length (st (n ∷ met)) ≡ length (stands n) + length (st met) = length-append (stands n) (st met) in
        let before = so.numbers in omega arith;
    all_drawn = λ some. meets.all_drawn;
  }

  -- one more of the others ended
  pub record StillMeets (old now : Q) (notes rest : List Q) : Type 0 where
    pub left : LeftWith steps r now rest
    pub met : List Q
    pub are : notes ≡ rest ++ met
    pub so_far : MetSoFar old now met

  pub meets_none : (p : Q) (ns : List Q) → LeftWith steps r p ns → StillMeets p p ns ns
  meets_none p ns l = record { left = l; met = []; are = sym (append-nil ns); so_far = met_none p }

  pub meets_more : (o a b : Q) (ns rest : List Q) (n : Q) → StillMeets o a ns (rest ++ n ∷ []) → Meets steps r a b n → StillMeets o b ns rest
  meets_more o a b ns rest n so meets = record {
    left = left_met a b rest n so.left meets;
    met = n ∷ so.met;
    are = so.are ∙ append_assoc rest (n ∷ []) so.met;
    so_far = met_more o a b so.met n so.left.rooms so.so_far meets;
  }

  pub meets_all : (o p : Q) (ns : List Q) → StillMeets o p ns [] → Met steps r o p ns
  meets_all o p ns so =
      let last = left_last p so.left in
      let f = so.so_far in
      record {
        rooms = so.left.rooms;
        back = record { last = last; same_number = f.same_number; goes_on = f.goes_on; drained_rises = f.drained_rises };
        each = subst (λ (ks : List Q). All (λ (k : Q). KnowsAllOf k p) ks) (sym so.are) f.each;
        knows_more = subst (λ (ks : List Q). All (λ (k : Q). IsPrefix (known k) (known p)) ks) (sym so.are) f.knows_more;
        only = λ some q none.
            let all : All (λ (k : Q). ¬ Contains (stands k) q) so.met = subst (λ (ks : List Q). All (λ (k : Q). ¬ Contains (stands k) q) ks) so.are none in
            let many : 0 < length so.met = subst (λ (ks : List Q). 0 < length ks) so.are some in
            ⊎_elim {C = by q (known p) ≡ by q (known o)}
            (λ c. f.stays q c)
            (λ no. let gone : by q (known p) ≡ [] = f.whole many last q (λ c. f.no_more q c no all) in gone ∙ sym (by_none q (known o) (known p) f.goes_on gone))
            (has_or_not q (stands o));
        none = λ is. f.none (sym so.are ∙ is);
        numbers = subst (λ (ks : List Q). length (stands p) ≡ length (stands o) + length (st ks)) (sym so.are) f.numbers;
        all_drawn = λ some. f.all_drawn (subst (λ (ks : List Q). 0 < length ks) so.are some) last;
      }
