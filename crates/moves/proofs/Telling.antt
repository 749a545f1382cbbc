-- The numbers of moves by their series, slot by slot.
use Rattle.std.proofs.Common.{◌≡◌, ℕ, ◌+◌, ◌<◌, List, Option, Some, None, Bool, true, false, get_or, length, refl, sym, ◌∙◌, ap, subst, arith}
use Rattle.std.proofs.lemmas.Bool.Decides.{Decides-eqb}
use Rattle.std.proofs.lemmas.Option.{slice_get_read, slice_get_within}
use Rattle.std.specs.Prelude.{IsSome, slice_get, nat_eq, if◌then◌else◌}
use Rattle.moves.specs.declared.table.Running.{Running}
use Rattle.moves.specs.Table.{at, inner, told, IsOf}

-- each number that is told is that of a move of the series
pub told_runs : {M : Type 0} (slots : List (Option (Running M))) (n : ℕ) (slot : Option (Running M)) (before : Option ℕ) (series number : ℕ) → slice_get slots n ≡ Some slot
    → (before ≡ Some number → IsOf slots number series) → told slot n series before ≡ Some number → IsOf slots number series
told_runs slots n None before series number here old is = old is
told_runs slots n (Some r) before series number here old is = by_same (nat_eq r.series series) refl
  where
    by_same : (b : Bool) → nat_eq r.series series ≡ b → IsOf slots number series
    by_same true same =
        let number_is : n ≡ number = cc in
        let runs : at slots n ≡ Some r = ap inner here in
        subst (λ k. IsOf slots k series) number_is (record { running = r; runs = runs; own = (Decides-eqb r.series series).0 same })
    by_same false other = old cc

-- and each series with a move among the slots so far has one told
pub told_all : {M : Type 0} (slots : List (Option (Running M))) (n : ℕ) (slot : Option (Running M)) (before : Option ℕ) (series number : ℕ) → slice_get slots n ≡ Some slot
    → (number < n → IsOf slots number series → IsSome before) → number < n + 1 → IsOf slots number series → IsSome (told slot n series before)
told_all {M} slots n slot before series number here old less of = by_place (nat_eq number n) refl
  where
    grows : (o : Option (Running M)) → IsSome before → IsSome (told o n series before)
    grows None some = some
    grows (Some r) some = elim (nat_eq r.series series) as (λ b. IsSome (if b then Some n else before)) [ true ↦ refl | false ↦ some ]

    own : (o : Option (Running M)) → o ≡ Some of.running → IsSome (told o n series before)
    own None is = absurd cc
    own (Some r) is = let same : nat_eq r.series series ≡ true = (Decides-eqb r.series series).1 (cc_series r is) in rw same refl
      where
        cc_series : (r : Running M) → Some r ≡ Some of.running → r.series ≡ series
        cc_series r is = let e : r ≡ of.running = cc in ap (λ (x : Running M). x.series) e ∙ of.own

    by_place : (b : Bool) → nat_eq number n ≡ b → IsSome (told slot n series before)
    by_place true same =
        let here_too : at slots number ≡ slot = ap (λ k. at slots k) ((Decides-eqb number n).0 same) ∙ ap inner here in
        own slot (sym here_too ∙ of.runs)
    by_place false other =
        let apart : number ≡ n → ⊥ = λ e. (let same = (Decides-eqb number n).1 e in absurd cc) in
        grows slot (old (omega (arith, less, apart)) of)

-- what is told of the slots so far, of which there are n
pub record Tells {M : Type 0} (slots : List (Option (Running M))) (n : ℕ) (by : ℕ → Option ℕ) : Type 0 where
  pub runs : (series number : ℕ) → by series ≡ Some number → IsOf slots number series
  pub all : (series number : ℕ) → number < n → IsOf slots number series → IsSome (by series)

-- the next slot is told too
pub tells_next : {M : Type 0} (slots : List (Option (Running M))) (n : ℕ) (slot : Option (Running M)) (by new : ℕ → Option ℕ) → n < length slots → slot ≡ get_or slots n slot
    → ((series : ℕ) → new series ≡ told slot n series (by series)) → Tells slots n by → Tells slots (n + 1) new
tells_next slots n slot by new within is next so_far =
    let here = slice_get_read slots (length slots) n slot refl within is in record {
      runs = λ series number now. told_runs slots n slot (by series) series number here (so_far.runs series number) (sym (next series) ∙ now);
      all = λ series number less of. subst (λ o. IsSome o) (sym (next series)) (told_all slots n slot (by series) series number here (so_far.all series number) less of);
    }

-- all slots are told
pub tells_all : {M : Type 0} (slots : List (Option (Running M))) (n : ℕ) (by : ℕ → Option ℕ) → n ≡ length slots → Tells slots n by → (series number : ℕ) → IsOf slots number series → IsSome (by series)
tells_all {M} slots n by at_end so_far series number of = so_far.all series number (subst (λ k. number < k) (sym at_end) (within (slice_get slots number) refl of.runs)) of
  where
    within : (o : Option (Option (Running M))) → slice_get slots number ≡ o → inner o ≡ Some of.running → number < length slots
    within None here is = absurd cc
    within (Some x) here is = slice_get_within slots number x here
