-- What a Look tells of the intake: whole tails, or nothing of a row.
use Rattle.std.proofs.Common.{◌≡◌, ℕ, ◌+◌, ◌<◌, ◌≤◌, List, [], ◌∷◌, ◌++◌, map, Some, Bool, true, false, cond, refl, ap, sym, ◌∙◌, subst, arith, append-nil, inl, inr}
use Rattle.std.specs.Prelude.{◌⊎◌, ◌==◌, nat_eq, nat_le}
use Rattle.std.specs.List.{AllByRecursion}
use Rattle.std.proofs.lemmas.Bool.Decides.{nat_tests}
use Rattle.series_model.specs.declared.sample.Sample.{Sample}
use Rattle.act_model.specs.Changes.{of_row}
use Rattle.act_model.specs.Machine.{held_bytes}
use Rattle.act_model.specs.Rows.{is_empty, size_of}
use Rattle.two_histories.specs.ArchiveIntake.{IntakeRow, known_at, tail_at, as_row, batch_from, bytes_in}
use Rattle.two_histories.proofs.KnownRows.{Ascends, HasEvents}
use Rattle.act_model.proofs.FlushLeft.{no_bytes}
use Rattle.act_model.proofs.RowActs.{none_is}

-- nothing of a smaller number
batch_below : (limit n r : ℕ) (rows : List IntakeRow) (taken : ℕ) → Ascends n rows → r < n → of_row r (batch_from limit rows taken) ≡ []
batch_below limit n r [] taken up low = refl
batch_below limit n r (k ∷ rows) taken up low =
    by_tests (nat_le limit taken) (is_empty k.tail) (nat_eq k.row r) refl
    (batch_below limit (k.row + 1) r rows taken up.1 (let first : n ≤ k.row = up.0 in omega arith))
    (batch_below limit (k.row + 1) r rows (taken + size_of k.tail) up.1 (let first : n ≤ k.row = up.0 in omega arith))
  where
    by_tests : (b c d : Bool) → nat_eq k.row r ≡ d → of_row r (batch_from limit rows taken) ≡ [] → of_row r (batch_from limit rows (taken + size_of k.tail)) ≡ []
        → of_row r (cond b [] (cond c (batch_from limit rows taken) (record { row = k.row; samples = k.tail } ∷ batch_from limit rows (taken + size_of k.tail)))) ≡ []
    by_tests true c d is one two = refl
    by_tests false true d is one two = one
    by_tests false false true is one two = absurd (let same : k.row ≡ r = grind (arith, nat_tests) in let first : n ≤ k.row = up.0 in omega arith)
    by_tests false false false is one two = rw is two

abbrev IsTailOf : List Sample → List IntakeRow → ℕ → Type 0
IsTailOf xs rows r = (xs ≡ tail_at rows r) ⊎ (xs ≡ [])

head_tail : (k : IntakeRow) (rows : List IntakeRow) (r : ℕ) → (k.row == r) ≡ true → tail_at (k ∷ rows) r ≡ k.tail
head_tail k rows r is = rw is refl

rest_tail : (k : IntakeRow) (rows : List IntakeRow) (r : ℕ) → (k.row == r) ≡ false → tail_at (k ∷ rows) r ≡ tail_at rows r
rest_tail k rows r is = rw is refl

-- a row's samples in a batch are its whole tail, or none
pub batch_tails : (limit n r : ℕ) (rows : List IntakeRow) (taken : ℕ) → Ascends n rows → IsTailOf (of_row r (batch_from limit rows taken)) rows r
batch_tails limit n r [] taken up = inr refl
batch_tails limit n r (k ∷ rows) taken up =
    by_tests (nat_le limit taken) (is_empty k.tail) refl (k.row == r) refl (nat_eq k.row r) refl
    (batch_tails limit (k.row + 1) r rows taken up.1) (batch_tails limit (k.row + 1) r rows (taken + size_of k.tail) up.1)
    (λ t. batch_below limit (k.row + 1) r rows t up.1)
  where
    by_rest : (k.row == r) ≡ false → (xs : List Sample) → IsTailOf xs rows r → IsTailOf xs (k ∷ rows) r
    by_rest is xs (inl whole) = inl (whole ∙ sym (rest_tail k rows r is))
    by_rest is xs (inr none) = inr none

    by_tests : (b c : Bool) → is_empty k.tail ≡ c → (d : Bool) → (k.row == r) ≡ d → (e : Bool) → nat_eq k.row r ≡ e
        → IsTailOf (of_row r (batch_from limit rows taken)) rows r → IsTailOf (of_row r (batch_from limit rows (taken + size_of k.tail))) rows r
        → ((t : ℕ) → r < k.row + 1 → of_row r (batch_from limit rows t) ≡ [])
        → IsTailOf (of_row r (cond b [] (cond c (batch_from limit rows taken) (record { row = k.row; samples = k.tail } ∷ batch_from limit rows (taken + size_of k.tail))))) (k ∷ rows) r
    by_tests true c is d own e same one two below = inr refl
    by_tests false true is true own e same one two below = inr (below taken (let at : k.row ≡ r = grind (arith, nat_tests) in omega arith))
    by_tests false true is false own e same one two below = by_rest own (of_row r (batch_from limit rows taken)) one
    by_tests false false is true own e same one two below =
        let at : k.row ≡ r = grind (arith, nat_tests) in
        let yes : nat_eq k.row r ≡ true = grind (arith, nat_tests) in
        let none = below (taken + size_of k.tail) (omega arith) in
        inl (rw yes (ap (λ w. k.tail ++ w) none ∙ append-nil k.tail))
    by_tests false false is false own e same one two below =
        let no : nat_eq k.row r ≡ false = grind (arith, nat_tests) in
        rw no two

pub batch_bytes : (limit : ℕ) (rows : List IntakeRow) (taken : ℕ) → bytes_in (batch_from limit rows taken) ≤ held_bytes (map as_row rows)
batch_bytes limit [] taken = omega arith
batch_bytes limit (k ∷ rows) taken = by_tests (nat_le limit taken) (is_empty k.tail) (batch_bytes limit rows taken) (batch_bytes limit rows (taken + size_of k.tail))
  where
    by_tests : (b c : Bool) → bytes_in (batch_from limit rows taken) ≤ held_bytes (map as_row rows) → bytes_in (batch_from limit rows (taken + size_of k.tail)) ≤ held_bytes (map as_row rows)
        → bytes_in (cond b [] (cond c (batch_from limit rows taken) (record { row = k.row; samples = k.tail } ∷ batch_from limit rows (taken + size_of k.tail)))) ≤ size_of k.tail + held_bytes (map as_row rows)
    by_tests true c one two = omega arith
    by_tests false true one two = omega arith
    by_tests false false one two = omega arith

no_tails : (rows : List IntakeRow) (r : ℕ) → held_bytes (map as_row rows) ≡ 0 → tail_at rows r ≡ []
no_tails [] r none = refl
no_tails (k ∷ rows) r none = by_own (k.row == r) refl (no_tails rows r (omega arith))
  where
    by_own : (b : Bool) → (k.row == r) ≡ b → tail_at rows r ≡ [] → tail_at (k ∷ rows) r ≡ []
    by_own true is more = head_tail k rows r is ∙ no_bytes k.tail (omega arith)
    by_own false is more = rest_tail k rows r is ∙ more

-- a batch that leaves no bytes has all tails
pub batch_whole : (limit n r : ℕ) (rows : List IntakeRow) (taken : ℕ) → Ascends n rows → held_bytes (map as_row rows) ≤ bytes_in (batch_from limit rows taken) → of_row r (batch_from limit rows taken) ≡ tail_at rows r
batch_whole limit n r [] taken up all = refl
batch_whole limit n r (k ∷ rows) taken up all =
    by_tests (nat_le limit taken) refl (is_empty k.tail) refl (k.row == r) refl all
    (λ low. batch_whole limit (k.row + 1) r rows taken up.1 low) (λ low. batch_whole limit (k.row + 1) r rows (taken + size_of k.tail) up.1 low)
    (λ t. batch_below limit (k.row + 1) r rows t up.1)
  where
    by_tests : (b : Bool) → nat_le limit taken ≡ b → (c : Bool) → is_empty k.tail ≡ c → (d : Bool) → (k.row == r) ≡ d
        → size_of k.tail + held_bytes (map as_row rows) ≤ bytes_in (cond b [] (cond c (batch_from limit rows taken) (record { row = k.row; samples = k.tail } ∷ batch_from limit rows (taken + size_of k.tail))))
        → (held_bytes (map as_row rows) ≤ bytes_in (batch_from limit rows taken) → of_row r (batch_from limit rows taken) ≡ tail_at rows r)
        → (held_bytes (map as_row rows) ≤ bytes_in (batch_from limit rows (taken + size_of k.tail)) → of_row r (batch_from limit rows (taken + size_of k.tail)) ≡ tail_at rows r)
        → ((t : ℕ) → r < k.row + 1 → of_row r (batch_from limit rows t) ≡ [])
        → of_row r (cond b [] (cond c (batch_from limit rows taken) (record { row = k.row; samples = k.tail } ∷ batch_from limit rows (taken + size_of k.tail)))) ≡ tail_at (k ∷ rows) r
    by_tests true full c is d own most one two below = sym (no_tails (k ∷ rows) r (omega arith))
    by_tests false full true is true own most one two below =
        below taken (let at : k.row ≡ r = grind (arith, nat_tests) in omega arith) ∙ (sym (none_is k.tail is) ∙ sym (head_tail k rows r own))
    by_tests false full true is false own most one two below = one (omega arith) ∙ sym (rest_tail k rows r own)
    by_tests false full false is true own most one two below =
        let at : k.row ≡ r = grind (arith, nat_tests) in
        let yes : nat_eq k.row r ≡ true = grind (arith, nat_tests) in
        let none = below (taken + size_of k.tail) (omega arith) in
        rw yes (ap (λ w. k.tail ++ w) none ∙ append-nil k.tail)
    by_tests false full false is false own most one two below =
        let no : nat_eq k.row r ≡ false = grind (arith, nat_tests) in
        rw no (two (omega arith))

-- a row that is known has events
pub known_events : (rows : List IntakeRow) (r : ℕ) (k : IntakeRow) → AllByRecursion HasEvents rows → known_at rows r ≡ Some k → HasEvents k
known_events [] r k lines here = absurd cc
known_events (x ∷ rows) r k lines here = by_own (x.row == r) here (λ h. known_events rows r k lines.1 h)
  where
    by_own : (b : Bool) → cond b (Some x) (known_at rows r) ≡ Some k → (known_at rows r ≡ Some k → HasEvents k) → HasEvents k
    by_own true here more = let same : x ≡ k = cc in subst HasEvents same lines.0
    by_own false here more = more here
