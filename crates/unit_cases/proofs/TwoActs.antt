-- What a pass knows in which the one other pass ended, where each of the two made one act.
use Rattle.std.proofs.Common.{◌≡◌, ◌≢◌, ℕ, ◌<◌, ◌==◌, Bool, true, false, List, [], ◌∷◌, ◌++◌, length, refl, sym, ap, ◌∙◌, subst, arith, cond, ⊎_elim, inl}
use Rattle.std.specs.Prelude.{Contains}
use Rattle.std.proofs.lemmas.Bool.Decides.{nat_tests}
use Rattle.std.proofs.lemmas.List.{length-append, nil_from_length}
use Rattle.std.proofs.lemmas.List.Elements.{filter-append, Contains-append_cases}
use Rattle.turn_rooms.specs.declared.room.RoomEntry.{RoomEntry}
use Rattle.turn_rooms.specs.declared.rooms.Pass.{Pass}
use Rattle.turn_rooms.specs.declared.rooms.Rooms.{Rooms}
use Rattle.turn_rooms.specs.declared.view.RoomSeen.{RoomSeen}
use Rattle.turn_rooms.specs.declared.view.SeatNumbers.{SeatNumbers}
use Rattle.turn_rooms.specs.Histories.{by, entry}
use Rattle.turn_rooms.specs.Passes.{Goes, IsLast, Meets, Opens, Parts, gave, known, own_acts, standing, stands}
use Rattle.turn_rooms.proofs.Lists.{by_none, has_first, no_element, only_element}
use Rattle.turn_rooms.proofs.Joining.{meets_back, same_back}
use Rattle.unit_cases.specs.Worked.{AddsOne, KnowsTwo}

module _ {S A B : Type 0} where
  by_append : (q : ℕ) (xs ys : List (RoomEntry S A B)) → by q (xs ++ ys) ≡ by q xs ++ by q ys
  by_append q xs ys = filter-append (λ (e : RoomEntry S A B). e.who == q) xs ys

  by_itself : (q : ℕ) (e : RoomEntry S A B) (es : List (RoomEntry S A B)) → e.who ≡ q → by q (e ∷ es) ≡ e ∷ by q es
  by_itself q e es mine = let same : (e.who == q) ≡ true = grind (arith, nat_tests) in ap (λ (b : Bool). cond b (e ∷ by q es) (by q es)) same

  -- what has no act of a number has none behind its front
  none_behind : (q : ℕ) (xs ys : List (RoomEntry S A B)) → by q (xs ++ ys) ≡ by q xs → by q ys ≡ []
  none_behind q xs ys same =
      let long = ap length (sym (by_append q xs ys) ∙ same) in
      nil_from_length (by q ys) (omega (arith, long, length-append (by q xs) (by q ys)))

  -- a history without acts of any number is empty
  empty : (h : List (RoomEntry S A B)) → ((q : ℕ) → by q h ≡ []) → h ≡ []
  empty [] none = refl
  empty (e ∷ es) none = let bad : e ∷ by e.who es ≡ [] = sym (by_itself e.who e es refl) ∙ none e.who in absurd cc

  -- a history with one act of a number and none of others is that act
  just_one : (q : ℕ) (h : List (RoomEntry S A B)) (e : RoomEntry S A B) → by q h ≡ e ∷ [] → ((p : ℕ) → p ≢ q → by p h ≡ []) → h ≡ e ∷ []
  just_one q [] e one none = absurd cc
  just_one q (x ∷ xs) e one none = by_test (x.who == q) refl
    where
      by_test : (b : Bool) → (x.who == q) ≡ b → x ∷ xs ≡ e ∷ []
      by_test false miss = let other : x.who ≢ q = λ same. let bad : ⊥ = grind (arith, nat_tests) in bad in
          let bad : x ∷ by x.who xs ≡ [] = sym (by_itself x.who x xs refl) ∙ none x.who other in absurd cc
      by_test true hit =
          let mine : x.who ≡ q = grind (arith, nat_tests) in
          let both : x ∷ by q xs ≡ e ∷ [] = sym (by_itself q x xs mine) ∙ one in
          let rest : by q xs ≡ [] = cc in
          let at : (p : ℕ) (b : Bool) → (p == q) ≡ b → by p xs ≡ [] = λ p b is. at_number p b is rest in
          let gone : xs ≡ [] = empty xs (λ p. at p (p == q) refl) in
          let first : x ≡ e = cc in
          rw (gone, first) refl
        where
          at_number : (p : ℕ) (b : Bool) → (p == q) ≡ b → by q xs ≡ [] → by p xs ≡ []
          at_number p true is rest = let same : p ≡ q = grind (arith, nat_tests) in rw same rest
          at_number p false is rest =
              let other : p ≢ q = λ same. let bad : ⊥ = grind (arith, nat_tests) in bad in
              let not : x.who ≢ p = λ same. let bad : ⊥ = grind (arith, nat_tests) in bad in
              let skip : by p (x ∷ xs) ≡ by p xs = let miss : (x.who == p) ≡ false = grind (arith, nat_tests) in ap (λ (b : Bool). cond b (x ∷ by p xs) (by p xs)) miss in
              sym skip ∙ none p other

-- who stands for the same is the last again
pub last_still : {S A B : Type 0} (a b : Pass S A B) → standing b ≡ standing a → IsLast a → IsLast b
last_still a b same last = record {
  first = subst (λ (n : SeatNumbers). Contains n.stands 0) (sym same) last.first;
  given = λ q c. subst (λ (n : SeatNumbers). Contains n.stands q) (sym same) (last.given q (subst (λ (n : SeatNumbers). Contains n.gave q) same c));
}

module _ {S A B : Type 0} (steps : S → ℕ → ℕ → A → B → S → Type 0) (r : Rooms S A B) (room : S) (a b c d n n' : Pass S A B) (opens : Opens steps r room a) (goes : Goes steps r a b) (parts : Parts steps r b c n) (note_goes : Goes steps r n n')
    (met : Meets steps r c d n') where
  b_gave : gave b ≡ []
  b_gave = ap (λ (s : SeatNumbers). s.gave) (goes.same_standing ∙ opens.standing)

  b_stands : stands b ≡ 0 ∷ []
  b_stands = ap (λ (s : SeatNumbers). s.stands) (goes.same_standing ∙ opens.standing)

  pub two_last : IsLast d
  two_last =
      let back = meets_back steps r b c c d n n' parts (same_back c c refl) (same_back n n' note_goes.same_standing) met in
      record {
        first = back.still 0 (rw b_stands (has_first 0 []));
        given = λ q has. ⊎_elim {C = Contains (stands d) q} (λ t. absurd (no_element q (subst (λ (xs : List ℕ). Contains xs q) b_gave t))) (λ t. t) (back.given q has);
      }

  module _ (one two : A) (first second : B) (adds : AddsOne a b one first) (note_adds : AddsOne n n' two second) where
    abbrev e0 : RoomEntry S A B
    e0 = entry 0 one first adds.0

    abbrev e1 : RoomEntry S A B
    e1 = entry n.number two second note_adds.0

    b_number : b.number ≡ 0
    b_number = goes.same_number ∙ opens.number

    -- the acts of 0, then and at the end
    b_own : by 0 (known b) ≡ e0 ∷ []
    b_own =
        let none : own_acts a ≡ [] = ap (λ (h : List (RoomEntry S A B)). by a.number h) opens.knows in
        let is : own_acts b ≡ entry a.number one first adds.0 ∷ [] = adds.1 ∙ ap (λ (h : List (RoomEntry S A B)). h ++ entry a.number one first adds.0 ∷ []) none in
        ap (λ (k : ℕ). by k (known b)) (sym b_number) ∙ (is ∙ ap (λ (k : ℕ). entry k one first adds.0 ∷ []) opens.number)

    c_known : known c ≡ known b
    c_known = ap (λ (s : RoomSeen S A B). s.known) parts.same_seen

    d_zero : by 0 (known d) ≡ e0 ∷ []
    d_zero = met.numbers 0 (rw parts.same_stands (rw b_stands (has_first 0 []))) ∙ (ap (λ (h : List (RoomEntry S A B)). by 0 h) c_known ∙ b_own)

    -- those of the other
    n_before : by n.number (known b) ≡ []
    n_before = ap (λ (h : List (RoomEntry S A B)). by n.number h) (sym parts.note_knows) ∙ parts.note_acts

    n_own : by n.number (known n') ≡ e1 ∷ []
    n_own = ap (λ (k : ℕ). by k (known n')) (sym note_goes.same_number) ∙ (note_adds.1 ∙ ap (λ (h : List (RoomEntry S A B)). h ++ e1 ∷ []) parts.note_acts)

    n_stands : stands n' ≡ n.number ∷ []
    n_stands = ap (λ (s : SeatNumbers). s.stands) note_goes.same_standing ∙ parts.note_stands

    d_other : by n.number (known d) ≡ e1 ∷ []
    d_other = met.note_numbers n.number (rw n_stands (has_first n.number [])) ∙ n_own

    -- and of nobody else
    d_nobody : (q : ℕ) → q ≢ 0 → q ≢ n.number → by q (known d) ≡ []
    d_nobody q no_zero no_other = met.whole two_last q (λ has. ⊎_elim {C = ⊥}
        (λ x. no_zero (sym (only_element 0 q (subst (λ (xs : List ℕ). Contains xs q) (parts.same_stands ∙ b_stands) x))))
        (λ x. no_other (sym (only_element n.number q (subst (λ (xs : List ℕ). Contains xs q) n_stands x))))
        (Contains-append_cases (stands c) (stands n') q (subst (λ (xs : List ℕ). Contains xs q) met.stands_for has)))

    greater : 0 < n.number
    greater = parts.new_number 0 (inl (rw b_stands (has_first 0 [])))

    abbrev rest : List (RoomEntry S A B)
    rest = met.goes_on.0

    d_is : known d ≡ known b ++ rest
    d_is = sym met.goes_on.1 ∙ ap (λ (h : List (RoomEntry S A B)). h ++ rest) c_known

    b_known : known b ≡ e0 ∷ []
    b_known = just_one 0 (known b) e0 b_own (λ p other. by_other p other (p == n.number) refl)
      where
        by_other : (p : ℕ) → p ≢ 0 → (t : Bool) → (p == n.number) ≡ t → by p (known b) ≡ []
        by_other p other true is = let same : p ≡ n.number = grind (arith, nat_tests) in rw same n_before
        by_other p other false is = let no : p ≢ n.number = λ same. let bad : ⊥ = grind (arith, nat_tests) in bad in by_none p (known b) (known d) (rest, sym d_is) (d_nobody p other no)

    rest_is : rest ≡ e1 ∷ []
    rest_is = just_one n.number rest e1 own (λ p other. by_other p other (p == 0) refl)
      where
        cut : (p : ℕ) → by p (known d) ≡ by p (known b) ++ by p rest
        cut p = ap (λ (h : List (RoomEntry S A B)). by p h) d_is ∙ by_append p (known b) rest

        own : by n.number rest ≡ e1 ∷ []
        own = sym (ap (λ (h : List (RoomEntry S A B)). h ++ by n.number rest) n_before) ∙ (sym (cut n.number) ∙ d_other)

        by_other : (p : ℕ) → p ≢ n.number → (t : Bool) → (p == 0) ≡ t → by p rest ≡ []
        by_other p other true is = let same : p ≡ 0 = grind (arith, nat_tests) in
            rw same (none_behind 0 (known b) rest (ap (λ (h : List (RoomEntry S A B)). by 0 h) (sym d_is) ∙ (d_zero ∙ sym b_own)))
        by_other p other false is = let no : p ≢ 0 = λ same. let bad : ⊥ = grind (arith, nat_tests) in bad in
            none_behind p (known b) rest (ap (λ (h : List (RoomEntry S A B)). by p h) (sym d_is) ∙ (d_nobody p no other ∙ sym (by_none p (known b) (known d) (rest, sym d_is) (d_nobody p no other))))

    pub two_known : KnowsTwo d one first two second
    two_known = record { other = n.number; is_other = greater; after_one = adds.0; after_two = note_adds.0; are = d_is ∙ rw (b_known, rest_is) refl }
