-- What a batch takes of tails.
use Rattle.std.proofs.Common.{◌≡◌, ℕ, ◌+◌, ◌<◌, ◌≤◌, List, [], ◌∷◌, ◌++◌, Bool, true, false, cond, refl, ap, arith}
use Rattle.std.specs.Prelude.{max, nat_le}
use Rattle.std.proofs.lemmas.Bool.Decides.{nat_tests}
use Rattle.series_model.specs.Archive.{IsPrefix}
use Rattle.series_model.specs.declared.batch.RowSamples.{RowSamples}
use Rattle.intake.specs.Tails.{TailState, is_empty, size_of, batch_from}
use Rattle.intake.specs.BatchLaws.{held_rows, bytes_of, TakesAFront, TakesEnough, TakesNoMore}

takes_a_front : (limit : ℕ) (tails : List TailState) (row taken : ℕ) → IsPrefix (batch_from limit tails row taken) (held_rows row tails)
takes_a_front limit [] row taken = ([], refl)
takes_a_front limit (tail ∷ tails) row taken = by_tests (nat_le limit taken) (is_empty tail.samples) (takes_a_front limit tails (row + 1) taken) (takes_a_front limit tails (row + 1) (taken + size_of tail.samples))
  where
    part : RowSamples
    part = record { row = row; samples = tail.samples }

    by_tests : (b c : Bool) → IsPrefix (batch_from limit tails (row + 1) taken) (held_rows (row + 1) tails) → IsPrefix (batch_from limit tails (row + 1) (taken + size_of tail.samples)) (held_rows (row + 1) tails)
        → IsPrefix (cond b [] (cond c (batch_from limit tails (row + 1) taken) (part ∷ batch_from limit tails (row + 1) (taken + size_of tail.samples)))) (cond c (held_rows (row + 1) tails) (part ∷ held_rows (row + 1) tails))
    by_tests true c same more = (cond c (held_rows (row + 1) tails) (part ∷ held_rows (row + 1) tails), refl)
    by_tests false true same more = same
    by_tests false false same more = (more.0, ap (λ parts. part ∷ parts) more.1)

-- where a batch leaves this part, it has enough
abbrev HasEnough : ℕ → ℕ → List RowSamples → List RowSamples → Type 0
HasEnough limit taken all batch = (part : RowSamples) (rest : List RowSamples) → all ≡ batch ++ part ∷ rest → limit ≤ taken + bytes_of batch

takes_enough : (limit : ℕ) (tails : List TailState) (row taken : ℕ) → HasEnough limit taken (held_rows row tails) (batch_from limit tails row taken)
takes_enough limit [] row taken part rest is = absurd cc
takes_enough limit (tail ∷ tails) row taken part rest is = by_tests (nat_le limit taken) refl (is_empty tail.samples) (takes_enough limit tails (row + 1) taken) (takes_enough limit tails (row + 1) (taken + size_of tail.samples)) part rest is
  where
    own : RowSamples
    own = record { row = row; samples = tail.samples }

    by_tests : (b : Bool) → nat_le limit taken ≡ b → (c : Bool) → HasEnough limit taken (held_rows (row + 1) tails) (batch_from limit tails (row + 1) taken)
        → HasEnough limit (taken + size_of tail.samples) (held_rows (row + 1) tails) (batch_from limit tails (row + 1) (taken + size_of tail.samples))
        → HasEnough limit taken (cond c (held_rows (row + 1) tails) (own ∷ held_rows (row + 1) tails)) (cond b [] (cond c (batch_from limit tails (row + 1) taken) (own ∷ batch_from limit tails (row + 1) (taken + size_of tail.samples))))
    by_tests true full c same more part rest is = grind (arith, nat_tests)
    by_tests false full true same more part rest is = same part rest is
    by_tests false full false same more part rest is = let enough = more part rest (cc) in omega arith

-- without its last part a batch hasn't enough
abbrev HasNoMore : ℕ → ℕ → List RowSamples → Type 0
HasNoMore limit taken batch = (front : List RowSamples) (last : RowSamples) → batch ≡ front ++ last ∷ [] → taken + bytes_of front < limit

none_last : (front : List RowSamples) (last : RowSamples) → [] ≡ front ++ last ∷ [] → ⊥
none_last [] last is = cc
none_last (part ∷ front) last is = cc

takes_no_more : (limit : ℕ) (tails : List TailState) (row taken : ℕ) → HasNoMore limit taken (batch_from limit tails row taken)
takes_no_more limit [] row taken front last is = absurd (none_last front last is)
takes_no_more limit (tail ∷ tails) row taken front last is = by_tests (nat_le limit taken) refl (is_empty tail.samples) (takes_no_more limit tails (row + 1) taken) (takes_no_more limit tails (row + 1) (taken + size_of tail.samples)) front last is
  where
    own : RowSamples
    own = record { row = row; samples = tail.samples }

    by_tests : (b : Bool) → nat_le limit taken ≡ b → (c : Bool) → HasNoMore limit taken (batch_from limit tails (row + 1) taken)
        → HasNoMore limit (taken + size_of tail.samples) (batch_from limit tails (row + 1) (taken + size_of tail.samples))
        → HasNoMore limit taken (cond b [] (cond c (batch_from limit tails (row + 1) taken) (own ∷ batch_from limit tails (row + 1) (taken + size_of tail.samples))))
    by_tests true full c same more front last is = absurd (none_last front last is)
    by_tests false full true same more front last is = same front last is
    by_tests false full false same more [] last is = grind (arith, nat_tests)
    by_tests false full false same more (part ∷ front) last is =
        let same : own ≡ part = cc in
        let first : size_of own.samples ≡ size_of part.samples = ap (λ (p : RowSamples). size_of p.samples) same in
        let short = more front last (cc) in
        omega arith

pub batch_is_a_front : TakesAFront
batch_is_a_front limit tails = takes_a_front (max limit 1) tails 0 0

pub batch_is_enough : TakesEnough
batch_is_enough limit tails part rest is = let enough = takes_enough (max limit 1) tails 0 0 part rest is in omega arith

pub batch_is_no_more : TakesNoMore
batch_is_no_more limit tails front last is = let short = takes_no_more (max limit 1) tails 0 0 front last is in omega arith
