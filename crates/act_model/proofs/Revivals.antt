-- What becomes of a pinned piece's partition: what is put behind extends it, a revival brings its file back in front, and a retirement
-- takes it whole or leaves it.
use Rattle.std.proofs.Common.{◌≡◌, ℕ, ◌+◌, ◌≤◌, List, [], ◌∷◌, ◌++◌, Bool, true, false, cond, refl, ap, sym, ◌∙◌, arith, append_assoc, append-nil, subst, inl, inr}
use Rattle.std.proofs.lemmas.Bool.Decides.{nat_tests}
use Rattle.std.specs.Prelude.{◌⊎◌, nat_le, nat_lt}
use Rattle.std.specs.List.{AllByRecursion}
use Rattle.series_model.specs.declared.sample.Sample.{Sample}
use Rattle.series_model.specs.Archive.{IsPrefix}
use Rattle.series_model.specs.Series.{end_from, RisesFrom, since, before}
use Rattle.series_model.proofs.RisingLists.{end_from-ge, since_all, since-since}
use Rattle.partition_names.specs.declared.part.Part.{Part}
use Rattle.act_model.specs.Rows.{window, holds, is_empty}
use Rattle.act_model.specs.Limbo.{RowFile, revived, put, IsOfPart, IsThere, Extend}
use Rattle.act_model.proofs.Puts.{window-append, since-before}
use Rattle.act_model.proofs.Copies.{before_all, window_empty}

-- WHAT IS PUT STANDS BEHIND

pub put_extends : (xs : List Sample) (limbo : List RowFile) (listed : List Sample) → IsPrefix listed (put xs limbo listed)
put_extends [] limbo listed = ([], sym (append-nil listed))
put_extends (s ∷ rest) limbo listed =
    let back = revived limbo listed s ++ s ∷ [] in
    let more = put_extends rest limbo (listed ++ back) in
    (back ++ more.0, more.1 ∙ append_assoc listed back more.0)

pub window_extends : (part : Part) (xs ys : List Sample) → IsPrefix xs ys → IsPrefix (window part xs) (window part ys)
window_extends part xs ys p = (window part p.0, ap (λ w. window part w) p.1 ∙ window-append part xs p.0)

-- a listed piece stays in front, whatever is put behind
pub piece_put : (piece xs : List Sample) (limbo : List RowFile) (listed : List Sample) (part : Part) → IsPrefix piece (window part listed) → IsPrefix piece (window part (put xs limbo listed))
piece_put piece xs limbo listed part p =
    let more = window_extends part listed (put xs limbo listed) (put_extends xs limbo listed) in
    (p.0 ++ more.0, more.1 ∙ (ap (λ w. w ++ more.0) p.1 ∙ append_assoc piece p.0 more.0))

-- WHAT COMES BACK

abbrev Lies : Part → Sample → Type 0
Lies part s = holds part s.t ≡ true

lies_in : (part : Part) (n : ℕ) (xs : List Sample) → RisesFrom n xs → part.start ≤ n → end_from n xs ≤ part.end → AllByRecursion (Lies part) xs
lies_in part n [] rises low high = tt
lies_in part n (x ∷ xs) rises low high =
    let first : n ≤ x.t = rises.0 in
    let up : x.t + 1 ≤ end_from (x.t + 1) xs = end_from-ge (x.t + 1) xs rises.1 in
    let a : nat_le part.start x.t ≡ true = grind (arith, nat_tests) in
    let b : nat_lt x.t part.end ≡ true = grind (arith, nat_tests) in
    (rw (a, b) refl, lies_in part (x.t + 1) xs rises.1 (omega arith) high)

window_own : (part : Part) (xs : List Sample) → RisesFrom part.start xs → end_from part.start xs ≤ part.end → window part xs ≡ xs
window_own part xs rises high = ap (λ w. since part.start w) (before_all part.end part.start xs rises high) ∙ since_all part.start part.start xs rises (omega arith)

-- one sample outside a partition
outside : (part : Part) (x : Sample) → holds part x.t ≡ false → window part (x ∷ []) ≡ []
outside part x out = by_tests (nat_lt x.t part.end) refl (nat_le part.start x.t) refl
  where
    by_tests : (b : Bool) → nat_lt x.t part.end ≡ b → (c : Bool) → nat_le part.start x.t ≡ c → window part (x ∷ []) ≡ []
    by_tests true is true is' = absurd (let bad = rw (is, is') at out in cc)
    by_tests true is false is' = rw (is, is') refl
    by_tests false is c is' = rw is refl

module _ (IsPartition : Part → Type 0) (one_part : (p q : Part) (t : ℕ) → IsPartition p → IsPartition q → holds p t ≡ true → holds q t ≡ true → p ≡ q) where
  -- samples of another partition aren't in this one
  window_other : (p q : Part) (xs : List Sample) → IsPartition p → IsPartition q → (p ≡ q → ⊥) → AllByRecursion (Lies q) xs → window p xs ≡ []
  window_other p q [] a b apart all = refl
  window_other p q (x ∷ xs) a b apart all = window-append p (x ∷ []) xs ∙ (ap (λ w. w ++ window p xs) (outside p x (by_test (holds p x.t) refl)) ∙ window_other p q xs a b apart all.1)
    where
      by_test : (c : Bool) → holds p x.t ≡ c → holds p x.t ≡ false
      by_test true is = absurd (apart (one_part p q x.t a b is all.0))
      by_test false is = is

  -- a file of limbo: of a partition, with samples in it
  pub record IsFileOf (f : RowFile) : Type 0 where
    pub partition : IsPartition f.part
    pub of_part : IsOfPart f

  -- before a sample of the partition its file comes back
  back_own : (piece : List Sample) (p : Part) (limbo : List RowFile) (listed : List Sample) (s : Sample) → IsPartition p → AllByRecursion IsFileOf limbo → Extend piece p limbo → IsThere p limbo → holds p s.t ≡ true → is_empty (window p listed) ≡ true
      → IsPrefix piece (window p (revived limbo listed s))
  back_own piece p [] listed s part files extend there here empty = absurd there
  back_own piece p (f ∷ limbo) listed s part files extend there here empty = by_test (holds f.part s.t) refl there (λ t. back_own piece p limbo listed s part files.1 extend.1 t here empty)
    where
      by_test : (b : Bool) → holds f.part s.t ≡ b → IsThere p (f ∷ limbo) → (IsThere p limbo → IsPrefix piece (window p (revived limbo listed s)))
          → IsPrefix piece (window p (cond b (cond (is_empty (window f.part listed)) f.samples []) (revived limbo listed s)))
      by_test true is there more =
          let same : f.part ≡ p = one_part f.part p s.t files.0.partition part is here in
          let bare : is_empty (window f.part listed) ≡ true = rw same empty in
          let own : window p f.samples ≡ f.samples = subst (λ q. window q f.samples ≡ f.samples) same (window_own f.part f.samples files.0.of_part.from files.0.of_part.to) in
          rw (bare, own) (extend.0 same)
      by_test false is (inl same) more = absurd (let bad : holds f.part s.t ≡ true = rw same here in cc)
      by_test false is (inr t) more = more t

  -- before a sample of another partition nothing of this one comes back
  back_other : (p : Part) (limbo : List RowFile) (listed : List Sample) (s : Sample) → IsPartition p → AllByRecursion IsFileOf limbo → holds p s.t ≡ false → window p (revived limbo listed s) ≡ []
  back_other p [] listed s part files out = refl
  back_other p (f ∷ limbo) listed s part files out = by_test (holds f.part s.t) refl (is_empty (window f.part listed)) (back_other p limbo listed s part files.1 out)
    where
      by_test : (b : Bool) → holds f.part s.t ≡ b → (c : Bool) → window p (revived limbo listed s) ≡ [] → window p (cond b (cond c f.samples []) (revived limbo listed s)) ≡ []
      by_test true is true more =
          window_other p f.part f.samples part files.0.partition (λ same. (let bad : holds p s.t ≡ true = rw same is in cc)) (lies_in f.part f.part.start f.samples files.0.of_part.from (omega arith) files.0.of_part.to)
      by_test true is false more = refl
      by_test false is c more = more

  -- where a piece's file is in limbo: it stays unlisted, or comes back in front
  pub piece_revived : (xs : List Sample) (piece : List Sample) (p : Part) (limbo : List RowFile) (listed : List Sample) → IsPartition p → AllByRecursion IsFileOf limbo → Extend piece p limbo → IsThere p limbo → is_empty (window p listed) ≡ true
      → (is_empty (window p (put xs limbo listed)) ≡ true) ⊎ IsPrefix piece (window p (put xs limbo listed))
  piece_revived [] piece p limbo listed part files extend there empty = inl empty
  piece_revived (s ∷ rest) piece p limbo listed part files extend there empty = by_test (holds p s.t) refl (λ e. piece_revived rest piece p limbo (listed ++ (revived limbo listed s ++ s ∷ [])) part files extend there e)
    where
      none : (xs : List Sample) → is_empty xs ≡ true → xs ≡ []
      none [] is = refl
      none (x ∷ xs) is = absurd cc

      split : window p (listed ++ (revived limbo listed s ++ s ∷ [])) ≡ window p (revived limbo listed s) ++ window p (s ∷ [])
      split = window-append p listed (revived limbo listed s ++ s ∷ []) ∙ (ap (λ w. w ++ window p (revived limbo listed s ++ s ∷ [])) (none (window p listed) empty) ∙ window-append p (revived limbo listed s) (s ∷ []))

      by_test : (b : Bool) → holds p s.t ≡ b → (is_empty (window p (listed ++ (revived limbo listed s ++ s ∷ []))) ≡ true → (is_empty (window p (put rest limbo (listed ++ (revived limbo listed s ++ s ∷ [])))) ≡ true) ⊎ IsPrefix piece (window p (put rest limbo (listed ++ (revived limbo listed s ++ s ∷ [])))))
          → (is_empty (window p (put rest limbo (listed ++ (revived limbo listed s ++ s ∷ [])))) ≡ true) ⊎ IsPrefix piece (window p (put rest limbo (listed ++ (revived limbo listed s ++ s ∷ []))))
      by_test true is more =
          let back = back_own piece p limbo listed s part files extend there is empty in
          let front : IsPrefix piece (window p (listed ++ (revived limbo listed s ++ s ∷ []))) = (back.0 ++ window p (s ∷ []), split ∙ (ap (λ w. w ++ window p (s ∷ [])) back.1 ∙ append_assoc piece back.0 (window p (s ∷ [])))) in
          inr (piece_put piece rest limbo (listed ++ (revived limbo listed s ++ s ∷ [])) p front)
      by_test false is more =
          let bare : window p (listed ++ (revived limbo listed s ++ s ∷ [])) ≡ [] = split ∙ (ap (λ w. w ++ window p (s ∷ [])) (back_other p limbo listed s part files is) ∙ outside p s is) in
          more (ap is_empty bare)

-- A RETIREMENT

pub window_left : (part : Part) (to : ℕ) (xs : List Sample) → to ≤ part.start → window part (since to xs) ≡ window part xs
window_left part to xs low = ap (λ w. since part.start w) (sym (since-before to part.end xs)) ∙ since-since part.start to (before part.end xs) low

pub window_gone : (part : Part) (to : ℕ) (xs : List Sample) → part.end ≤ to → window part (since to xs) ≡ []
window_gone part to xs low = ap (λ w. since part.start w) (sym (since-before to part.end xs) ∙ window_empty to part.end xs low)
