-- How many partitions are ripe, and how many are left once no move is due.
use Rattle.std.proofs.Common.{◌≡◌, ℕ, zero, suc, ◌+◌, ◌-◌, ◌*◌, ◌/◌, ◌<◌, ◌≤◌, inl, inr, List, ◌∷◌, map, min, Bool, cond, arith, refl, sym, ap, ◌∙◌, subst}
use Rattle.std.specs.Prelude.{nat_le, ◌==◌, if◌then◌else◌}
use Rattle.std.specs.List.{range_with_len}
use Rattle.std.proofs.lemmas.Bool.{le-leb, lt-leb, ne_eqb, cases_lt}
use Rattle.std.proofs.lemmas.List.Sums.{sum_by-cons}
use Rattle.etl_rules.specs.Choosing.{chosen, ripe}
use Rattle.drill_feed.specs.declared.tiers.Tiers.{Tiers}
use Rattle.drill_feed.specs.Tiers.{AreTiers, IsLeft, after_moves, day_ends, days_of, hour_ends}

-- WHAT IS RIPE

ripe_first : (now end : ℕ) (ends : List ℕ) → end ≤ now → ripe now (end ∷ ends) ≡ 1 + ripe now ends
ripe_first now end ends early = sum_by-cons (λ (at : ℕ). cond (nat_le at now) 1 0) end ends ∙ ap (λ (b : Bool). cond b 1 0 + ripe now ends) (le-leb end now early)

ripe_later : (now end : ℕ) (ends : List ℕ) → now < end → ripe now (end ∷ ends) ≡ ripe now ends
ripe_later now end ends late = sum_by-cons (λ (at : ℕ). cond (nat_le at now) 1 0) end ends ∙ ap (λ (b : Bool). cond b 1 0 + ripe now ends) (lt-leb end now late) ∙ omega arith

-- all hours have ended that end up to now
pub ripe_hours : (now a n : ℕ) → a + n ≤ now → ripe now (map (λ hour. hour + 1) (range_with_len a n)) ≡ n
ripe_hours now a zero all = refl
ripe_hours now a (suc n) all = omega (arith, ripe_first now (a + 1) (map (λ hour. hour + 1) (range_with_len (a + 1) n)) (omega arith), ripe_hours now (a + 1) n (omega arith))

-- of days that many have ended as whole days fit before now
pub ripe_days : (now a n : ℕ) → ripe now (map (λ day. 24 * (day + 1)) (range_with_len a n)) ≡ min n (now / 24 - a)
ripe_days now a zero = omega arith
ripe_days now a (suc n) =
    elim (cases_lt now (24 * (a + 1))) [
      | inl late ↦ omega (arith, ripe_later now (24 * (a + 1)) (map (λ day. 24 * (day + 1)) (range_with_len (a + 1) n)) late, ripe_days now (a + 1) n)
      | inr early ↦ omega (arith, ripe_first now (24 * (a + 1)) (map (λ day. 24 * (day + 1)) (range_with_len (a + 1) n)) early, ripe_days now (a + 1) n)
    ]

-- WHAT IS LEFT

-- nothing moves where no move is due
stays : (hold gather count m k : ℕ) → chosen hold gather (after_moves hold gather count m) ≡ 0 → after_moves hold gather count (m + k) ≡ after_moves hold gather count m
stays hold gather count m zero none = let same : m + 0 ≡ m = omega arith in rw same refl
stays hold gather count m (suc k) none =
    let more : m + suc k ≡ suc (m + k) = omega arith in
    let before = stays hold gather count m k none in
    let due : chosen hold gather (after_moves hold gather count (m + k)) ≡ 0 = ap (chosen hold gather) before ∙ none in
    rw more (omega (arith, before, due))

-- so there is one number that is left
pub one_left : (hold gather count a b : ℕ) → IsLeft hold gather count a → IsLeft hold gather count b → a ≡ b
one_left hold gather count a b one two =
    elim (cases_lt one.moves two.moves) [
      | inl fewer ↦ more_moves one two (two.moves - one.moves) (omega arith)
      | inr more ↦ sym (more_moves two one (one.moves - two.moves) (omega arith))
    ]
  where
    more_moves : {x y : ℕ} (first : IsLeft hold gather count x) (second : IsLeft hold gather count y) (k : ℕ) → second.moves ≡ first.moves + k → x ≡ y
    more_moves first second k is =
        let due = subst (λ n. chosen hold gather n ≡ 0) first.after first.settled in
        first.after ∙ sym (stays hold gather count first.moves k due) ∙ ap (after_moves hold gather count) (sym is) ∙ sym second.after

pub one_end : (hours : ℕ) (a b : Tiers) → AreTiers hours a → AreTiers hours b → a ≡ b
one_end hours a b one two =
    let hours_same = one_left 5 3 (ripe (hours + 1) (hour_ends hours)) one.hours_left two.hours_left one.hours_settle two.hours_settle in
    let moved : one.hours_moved ≡ two.hours_moved = omega (arith, hours_same, one.hours_go, two.hours_go) in
    let settle = subst (λ n. IsLeft 2 1 (ripe (hours + 1) (day_ends (days_of n))) one.days_left) moved one.days_settle in
    let go = subst (λ n. one.days_left + one.days_moved ≡ ripe (hours + 1) (day_ends (days_of n))) moved one.days_go in
    let days_same = one_left 2 1 (ripe (hours + 1) (day_ends (days_of two.hours_moved))) one.days_left two.days_left settle two.days_settle in
    let days_moved : one.days_moved ≡ two.days_moved = omega (arith, days_same, go, two.days_go) in
    same_tiers a b
    (one.short ∙ ap (λ (n : ℕ). 4 * (hours - n)) moved ∙ sym two.short)
    (one.medium ∙ ap (λ (n : ℕ). 4 * (days_of n - one.days_moved)) moved ∙ ap (λ (n : ℕ). 4 * (days_of two.hours_moved - n)) days_moved ∙ sym two.medium)
    (one.long ∙ ap (λ (n : ℕ). 4 * (if n == 0 then 0 else 1)) days_moved ∙ sym two.long)
  where
    same_tiers : (x y : Tiers) → x.short ≡ y.short → x.medium ≡ y.medium → x.long ≡ y.long → x ≡ y
    same_tiers x y short medium long = ap (λ (n : ℕ). record { short = n; medium = x.medium; long = x.long }) short ∙ ap (λ (n : ℕ). record { short = y.short; medium = n; long = x.long }) medium ∙ ap (λ (n : ℕ). record { short = y.short; medium = y.medium; long = n }) long

-- WHAT A MOVE TAKES

chosen_due : (hold gather left : ℕ) → 1 ≤ hold → hold ≤ left → chosen hold gather left ≡ min gather left
chosen_due hold gather left some due = rw (ne_eqb hold 0 (omega arith), le-leb hold left due) refl

-- a move that is due takes as many as it gathers, or all
pub one_move : (hold gather count left m : ℕ) → 1 ≤ hold → hold ≤ left → left ≡ after_moves hold gather count m → left - min left gather ≡ after_moves hold gather count (m + 1)
one_move hold gather count left m some due is =
    let more : m + 1 ≡ suc m = omega arith in
    rw (more, sym is) (omega (arith, chosen_due hold gather left some due))
