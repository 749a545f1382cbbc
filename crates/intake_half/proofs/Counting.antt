-- The bytes of tails.
use Rattle.std.proofs.Common.{◌≡◌, ℕ, suc, ◌+◌, ◌≤◌, List, [], ◌∷◌, map, Option, Some, None, Bool, true, false, cond, refl, sym, ap, ◌∙◌, arith}
use Rattle.std.specs.Prelude.{nat_le}
use Rattle.std.proofs.lemmas.Bool.Decides.{nat_tests}
use Rattle.intake.specs.Tails.{TailState, tail_at}
use Rattle.intake.specs.Tails as tails
use Rattle.series_model.specs.declared.batch.RowSamples.{RowSamples}
use Rattle.series_model.specs.declared.sample.Sample.{Sample}
use Rattle.act_model.specs.Machine.{held_bytes}
use Rattle.act_model.specs.Rows.{is_empty, size_of}
use Rattle.two_histories.specs.ArchiveIntake.{IntakeRow, as_row, batch_from, bytes_in}
use Rattle.intake_half.specs.Known.{slot_at, seen_from}
use Rattle.intake_half.specs.declared.known.KnownRow.{KnownRow}

pub size_same : (xs : List Sample) → size_of xs ≡ tails.size_of xs
size_same [] = refl
size_same (s ∷ xs) = let more = size_same xs in omega (arith, more)

-- tails with the same samples have the same bytes
pub same_held : (a b : List TailState) → ((i : ℕ) → (tail_at a i).samples ≡ (tail_at b i).samples) → tails.held_bytes a ≡ tails.held_bytes b
same_held [] [] same = refl
same_held [] (t ∷ ts) same =
    let none : 0 ≡ tails.size_of t.samples = ap tails.size_of (same 0) in
    let rest = same_held [] ts (λ i. same (suc i)) in
    omega (arith, none, rest)
same_held (t ∷ ts) [] same =
    let none : tails.size_of t.samples ≡ 0 = ap tails.size_of (same 0) in
    let rest = same_held ts [] (λ i. same (suc i)) in
    omega (arith, none, rest)
same_held (t ∷ ts) (u ∷ us) same =
    let own : tails.size_of t.samples ≡ tails.size_of u.samples = ap tails.size_of (same 0) in
    let rest = same_held ts us (λ i. same (suc i)) in
    omega (arith, own, rest)

-- WHAT IS SEEN OF SLOTS

-- tails from a number on
abbrev AreFrom : List TailState → ℕ → List TailState → Type 0
AreFrom all j ts = (n : ℕ) → (tail_at all (j + n)).samples ≡ (tail_at ts n).samples

-- of no other number is anything held
abbrev NoOthers : List (Option KnownRow) → List TailState → Type 0
NoOthers slots ts = (n : ℕ) → slot_at slots n ≡ None → (tail_at ts n).samples ≡ []

from_next : (all : List TailState) (j : ℕ) (t : TailState) (ts : List TailState) → AreFrom all j (t ∷ ts) → AreFrom all (j + 1) ts
from_next all j t ts from n = ap (λ (m : ℕ). (tail_at all m).samples) (let e : j + 1 + n ≡ j + suc n = omega arith in e) ∙ from (suc n)

from_none : (all : List TailState) (j : ℕ) → AreFrom all j [] → AreFrom all (j + 1) []
from_none all j from n = ap (λ (m : ℕ). (tail_at all m).samples) (let e : j + 1 + n ≡ j + suc n = omega arith in e) ∙ from (suc n)

from_here : (all : List TailState) (j : ℕ) (ts : List TailState) → AreFrom all j ts → (tail_at all j).samples ≡ (tail_at ts 0).samples
from_here all j ts from = ap (λ (m : ℕ). (tail_at all m).samples) (let e : j ≡ j + 0 = omega arith in e) ∙ from 0

pub held_seen : (all : List TailState) (j : ℕ) (slots : List (Option KnownRow)) (ts : List TailState) → AreFrom all j ts → NoOthers slots ts → held_bytes (map as_row (seen_from all j slots)) ≡ tails.held_bytes ts
held_seen all j [] [] from none = refl
held_seen all j [] (t ∷ ts) from none =
    let first : tails.size_of t.samples ≡ 0 = ap tails.size_of (none 0 refl) in
    let rest = held_seen all (j + 1) [] ts (from_next all j t ts from) (λ n here. none (suc n) here) in
    omega (arith, first, rest)
held_seen all j (None ∷ slots) [] from none = held_seen all (j + 1) slots [] (from_none all j from) (λ n here. refl)
held_seen all j (None ∷ slots) (t ∷ ts) from none =
    let first : tails.size_of t.samples ≡ 0 = ap tails.size_of (none 0 refl) in
    let rest = held_seen all (j + 1) slots ts (from_next all j t ts from) (λ n here. none (suc n) here) in
    omega (arith, first, rest)
held_seen all j (Some k ∷ slots) [] from none =
    let first : size_of (tail_at all j).samples ≡ 0 = ap size_of (from_here all j [] from) in
    let rest = held_seen all (j + 1) slots [] (from_none all j from) (λ n here. refl) in
    omega (arith, first, rest)
held_seen all j (Some k ∷ slots) (t ∷ ts) from none =
    let first : size_of (tail_at all j).samples ≡ tails.size_of t.samples = ap size_of (from_here all j (t ∷ ts) from) ∙ size_same t.samples in
    let rest = held_seen all (j + 1) slots ts (from_next all j t ts from) (λ n here. none (suc n) here) in
    omega (arith, first, rest)

-- what a batch has from a number on whose tail this is
abbrev PartsFrom : ℕ → ℕ → ℕ → List Sample → (ℕ → List RowSamples) → List RowSamples
PartsFrom limit j taken xs rest = cond (nat_le limit taken) [] (cond (is_empty xs) (rest taken) (record { row = j; samples = xs } ∷ rest (taken + size_of xs)))

empty_parts : (limit j taken : ℕ) (rest : ℕ → List RowSamples) → ((n : ℕ) → limit ≤ n → rest n ≡ []) → cond (nat_le limit taken) [] (rest taken) ≡ rest taken
empty_parts limit j taken rest full = by_test (nat_le limit taken) refl
  where
    by_test : (b : Bool) → nat_le limit taken ≡ b → cond b [] (rest taken) ≡ rest taken
    by_test true is = sym (full taken (grind (arith, nat_tests)))
    by_test false is = refl

full_tails : (limit : ℕ) (ts : List TailState) (j taken : ℕ) → limit ≤ taken → tails.batch_from limit ts j taken ≡ []
full_tails limit [] j taken full = refl
full_tails limit (t ∷ ts) j taken full = let is : nat_le limit taken ≡ true = grind (arith, nat_tests) in rw is refl

pub batch_seen : (limit : ℕ) (all : List TailState) (j : ℕ) (slots : List (Option KnownRow)) (ts : List TailState) (taken : ℕ) → AreFrom all j ts → NoOthers slots ts
    → tails.batch_from limit ts j taken ≡ batch_from limit (seen_from all j slots) taken
batch_seen limit all j [] [] taken from none = refl
batch_seen limit all j [] (t ∷ ts) taken from none =
    let first : t.samples ≡ [] = none 0 refl in
    let rest = batch_seen limit all (j + 1) [] ts taken (from_next all j t ts from) (λ n here. none (suc n) here) in
    rw first (empty_parts limit j taken (tails.batch_from limit ts (j + 1)) (λ n high. full_tails limit ts (j + 1) n high) ∙ rest)
batch_seen limit all j (None ∷ slots) [] taken from none = batch_seen limit all (j + 1) slots [] taken (from_none all j from) (λ n here. refl)
batch_seen limit all j (None ∷ slots) (t ∷ ts) taken from none =
    let first : t.samples ≡ [] = none 0 refl in
    let rest = batch_seen limit all (j + 1) slots ts taken (from_next all j t ts from) (λ n here. none (suc n) here) in
    rw first (empty_parts limit j taken (tails.batch_from limit ts (j + 1)) (λ n high. full_tails limit ts (j + 1) n high) ∙ rest)
batch_seen limit all j (Some k ∷ slots) [] taken from none =
    let first : (tail_at all j).samples ≡ [] = from_here all j [] from in
    let rest : [] ≡ batch_from limit (seen_from all (j + 1) slots) taken = batch_seen limit all (j + 1) slots [] taken (from_none all j from) (λ n here. refl) in
    rw first (by_test (nat_le limit taken) rest)
  where
    by_test : (b : Bool) → [] ≡ batch_from limit (seen_from all (j + 1) slots) taken → [] ≡ cond b [] (batch_from limit (seen_from all (j + 1) slots) taken)
    by_test true rest = refl
    by_test false rest = rest
batch_seen limit all j (Some k ∷ slots) (t ∷ ts) taken from none =
    let rest : (n : ℕ) → tails.batch_from limit ts (j + 1) n ≡ batch_from limit (seen_from all (j + 1) slots) n = λ n. batch_seen limit all (j + 1) slots ts n (from_next all j t ts from) (λ m here. none (suc m) here) in
    let same : (tail_at all j).samples ≡ t.samples = from_here all j (t ∷ ts) from in
    by_tail t.samples rest ∙ ap (λ (xs : List Sample). PartsFrom limit j taken xs (batch_from limit (seen_from all (j + 1) slots))) (sym same)
  where
    by_tail : (xs : List Sample) → ((n : ℕ) → tails.batch_from limit ts (j + 1) n ≡ batch_from limit (seen_from all (j + 1) slots) n)
        → cond (nat_le limit taken) [] (cond (tails.is_empty xs) (tails.batch_from limit ts (j + 1) taken) (record { row = j; samples = xs } ∷ tails.batch_from limit ts (j + 1) (taken + tails.size_of xs)))
        ≡ PartsFrom limit j taken xs (batch_from limit (seen_from all (j + 1) slots))
    by_tail [] rest = ap (λ (parts : List RowSamples). cond (nat_le limit taken) [] parts) (rest taken)
    by_tail (x ∷ xs) rest =
        let size : taken + tails.size_of (x ∷ xs) ≡ taken + size_of (x ∷ xs) = ap (λ n. taken + n) (sym (size_same (x ∷ xs))) in
        ap (λ (parts : List RowSamples). cond (nat_le limit taken) [] (record { row = j; samples = x ∷ xs } ∷ parts)) (rest (taken + tails.size_of (x ∷ xs)) ∙ ap (λ n. batch_from limit (seen_from all (j + 1) slots) n) size)

-- a batch has no more than what is held
pub batch_low : (limit : ℕ) (ks : List IntakeRow) (taken : ℕ) → bytes_in (batch_from limit ks taken) ≤ held_bytes (map as_row ks)
batch_low limit [] taken = omega arith
batch_low limit (k ∷ ks) taken = by_tests (nat_le limit taken) (is_empty k.tail) (batch_low limit ks taken) (batch_low limit ks (taken + size_of k.tail))
  where
    by_tests : (b c : Bool) → bytes_in (batch_from limit ks taken) ≤ held_bytes (map as_row ks) → bytes_in (batch_from limit ks (taken + size_of k.tail)) ≤ held_bytes (map as_row ks)
        → bytes_in (cond b [] (cond c (batch_from limit ks taken) (record { row = k.row; samples = k.tail } ∷ batch_from limit ks (taken + size_of k.tail)))) ≤ size_of k.tail + held_bytes (map as_row ks)
    by_tests true c same more = omega arith
    by_tests false true same more = omega arith
    by_tests false false same more = omega arith
