-- Lists of rows that are changed one by one.
use Rattle.std.proofs.Common.{◌≡◌, ℕ, ◌+◌, ◌<◌, List, [], ◌∷◌, ◌++◌, length, Some, None, zero, suc, Bool, true, false, cond, refl, ap, ◌∙◌, arith, inl, inr}
use Rattle.std.specs.Prelude.{◌⊎◌, ◌==◌, ◌&&◌, slice_get, filter}
use Rattle.std.proofs.lemmas.Bool.Decides.{nat_tests}
use Rattle.std.proofs.lemmas.List.{length-append}
use Rattle.std.specs.List.{AllByRecursion}
use Rattle.act_model.specs.Rows.{RowState, Store, Short, Medium, Long, same_store}
use Rattle.act_model.specs.Limbo.{RowFile, files_of}
use Rattle.act_model.specs.Machine.{Change}
use Rattle.act_model.specs.Changes.{each, changed, changed_rows, added}

pub length-each : (f : ℕ → RowState → RowState) (k : ℕ) (rows : List RowState) → length (each f k rows) ≡ length rows
length-each f k [] = refl
length-each f k (row ∷ rows) = ap (λ n. suc n) (length-each f (k + 1) rows)

pub each_get : (f : ℕ → RowState → RowState) (k : ℕ) (rows : List RowState) (i : ℕ) (new : RowState) → slice_get (each f k rows) i ≡ Some new → (row : RowState) × (slice_get rows i ≡ Some row) × (new ≡ f (k + i) row)
each_get f k [] i new is = absurd cc
each_get f k (row ∷ rows) zero new is = let same : k ≡ k + 0 = omega arith in let one : new ≡ f k row = cc in (row, refl, one ∙ ap (λ n. f n row) same)
each_get f k (row ∷ rows) (suc i) new is = let more = each_get f (k + 1) rows i new is in let same : (k + 1) + i ≡ k + suc i = omega arith in (more.0, more.1, more.2 ∙ ap (λ n. f n more.0) same)

pub get_append : (rows more : List RowState) (i : ℕ) (new : RowState) → slice_get (rows ++ more) i ≡ Some new → (slice_get rows i ≡ Some new) ⊎ ((j : ℕ) × (i ≡ length rows + j) × (slice_get more j ≡ Some new))
get_append [] more i new is = inr (i, omega arith, is)
get_append (row ∷ rows) more zero new is = inl is
get_append (row ∷ rows) more (suc i) new is = by_rest (get_append rows more i new is)
  where
    by_rest : (slice_get rows i ≡ Some new) ⊎ ((j : ℕ) × (i ≡ length rows + j) × (slice_get more j ≡ Some new)) → (slice_get rows i ≡ Some new) ⊎ ((j : ℕ) × (suc i ≡ suc (length rows) + j) × (slice_get more j ≡ Some new))
    by_rest (inl here) = inl here
    by_rest (inr past) = inr (past.0, (let at : i ≡ length rows + past.0 = past.1 in omega arith), past.2)

pub each_forward : (f : ℕ → RowState → RowState) (k : ℕ) (rows : List RowState) (i : ℕ) (row : RowState) → slice_get rows i ≡ Some row → slice_get (each f k rows) i ≡ Some (f (k + i) row)
each_forward f k [] i row here = absurd cc
each_forward f k (x ∷ rows) zero row here = let same : x ≡ row = cc in let plain : k ≡ k + 0 = omega arith in ap (λ r. Some (f k r)) same ∙ ap (λ n. Some (f n row)) plain
each_forward f k (x ∷ rows) (suc i) row here = let next : (k + 1) + i ≡ k + suc i = omega arith in each_forward f (k + 1) rows i row here ∙ ap (λ n. Some (f n row)) next

pub append_forward : (rows more : List RowState) (i : ℕ) (row : RowState) → slice_get rows i ≡ Some row → slice_get (rows ++ more) i ≡ Some row
append_forward [] more i row here = absurd cc
append_forward (x ∷ rows) more zero row here = here
append_forward (x ∷ rows) more (suc i) row here = append_forward rows more i row here

-- where a row of the changed ones comes from
pub data Came (told : Bool) (limbo : List RowFile) (change : Change) (rows : List RowState) (i : ℕ) (new : RowState) : Type 0 where
  from_row : (row : RowState) → slice_get rows i ≡ Some row → new ≡ changed told limbo change i row → Came told limbo change rows i new
  is_new : (j : ℕ) → i ≡ length rows + j → slice_get (added change rows) j ≡ Some new → Came told limbo change rows i new

pub came : (told : Bool) (limbo : List RowFile) (change : Change) (rows : List RowState) (i : ℕ) (new : RowState) → slice_get (changed_rows told limbo change rows) i ≡ Some new → Came told limbo change rows i new
came told limbo change rows i new is = by_place (get_append (each (changed told limbo change) 0 rows) (added change rows) i new is)
  where
    by_place : (slice_get (each (changed told limbo change) 0 rows) i ≡ Some new) ⊎ ((j : ℕ) × (i ≡ length (each (changed told limbo change) 0 rows) + j) × (slice_get (added change rows) j ≡ Some new)) → Came told limbo change rows i new
    by_place (inl here) = let old = each_get (changed told limbo change) 0 rows i new here in let zero_plus : 0 + i ≡ i = omega arith in from_row old.0 old.1 (old.2 ∙ ap (λ n. changed told limbo change n old.0) zero_plus)
    by_place (inr past) = is_new past.0 (past.1 ∙ ap (λ n. n + past.0) (length-each (changed told limbo change) 0 rows)) past.2

-- LIMBO BY ROW AND STORE

pub same_store_is : (a b : Store) → same_store a b ≡ true → a ≡ b
same_store_is Short Short is = refl
same_store_is Medium Medium is = refl
same_store_is Long Long is = refl
same_store_is Short Medium is = absurd cc
same_store_is Short Long is = absurd cc
same_store_is Medium Short is = absurd cc
same_store_is Medium Long is = absurd cc
same_store_is Long Short is = absurd cc
same_store_is Long Medium is = absurd cc

-- what holds of all of limbo at a place holds of those of this row and store
pub of_place : (P : RowFile → Type 0) (Q : RowFile → Type 0) (i : ℕ) (store : Store) (limbo : List RowFile) → ((f : RowFile) → f.row ≡ i → f.store ≡ store → P f → Q f) → AllByRecursion P limbo → AllByRecursion Q (files_of i store limbo)
of_place P Q i store [] one all = tt
of_place P Q i store (f ∷ limbo) one all = by_test (f.row == i) refl (same_store f.store store) refl (of_place P Q i store limbo one all.1)
  where
    by_test : (b : Bool) → (f.row == i) ≡ b → (c : Bool) → same_store f.store store ≡ c → AllByRecursion Q (files_of i store limbo) → AllByRecursion Q (cond (b && c) (f ∷ files_of i store limbo) (files_of i store limbo))
    by_test true is true is' more = (one f (grind (arith, nat_tests)) (same_store_is f.store store is') all.0, more)
    by_test true is false is' more = more
    by_test false is c is' more = more

pub of_filter : (P : RowFile → Type 0) (p : RowFile → Bool) (limbo : List RowFile) → AllByRecursion P limbo → AllByRecursion P (filter p limbo)
of_filter P p [] all = tt
of_filter P p (f ∷ limbo) all = by_test (p f) (of_filter P p limbo all.1)
  where
    by_test : (b : Bool) → AllByRecursion P (filter p limbo) → AllByRecursion P (cond b (f ∷ filter p limbo) (filter p limbo))
    by_test true more = (all.0, more)
    by_test false more = more

pub of_append : (P : RowFile → Type 0) (xs ys : List RowFile) → AllByRecursion P xs → AllByRecursion P ys → AllByRecursion P (xs ++ ys)
of_append P [] ys p q = q
of_append P (x ∷ xs) ys p q = (p.0, of_append P xs ys p.1 q)

pub of_all : (P Q : RowFile → Type 0) (limbo : List RowFile) → ((f : RowFile) → P f → Q f) → AllByRecursion P limbo → AllByRecursion Q limbo
of_all P Q [] one all = tt
of_all P Q (f ∷ limbo) one all = (one f all.0, of_all P Q limbo one all.1)

-- the files of a row and store among fewer of limbo
pub fewer_of_place : (P : RowFile → Type 0) (p : RowFile → Bool) (i : ℕ) (store : Store) (limbo : List RowFile) → AllByRecursion P (files_of i store limbo) → AllByRecursion P (files_of i store (filter p limbo))
fewer_of_place P p i store [] all = tt
fewer_of_place P p i store (f ∷ limbo) all = by_test (p f) (f.row == i && same_store f.store store) refl (λ w. fewer_of_place P p i store limbo w) all
  where
    by_test : (b c : Bool) → (f.row == i && same_store f.store store) ≡ c → (AllByRecursion P (files_of i store limbo) → AllByRecursion P (files_of i store (filter p limbo))) → AllByRecursion P (cond c (f ∷ files_of i store limbo) (files_of i store limbo)) → AllByRecursion P (files_of i store (cond b (f ∷ filter p limbo) (filter p limbo)))
    by_test true true is more all = rw is (all.0, more all.1)
    by_test true false is more all = rw is (more all)
    by_test false true is more all = more all.1
    by_test false false is more all = more all

pub more_rows : (told : Bool) (limbo : List RowFile) (change : Change) (rows : List RowState) → length (changed_rows told limbo change rows) ≡ length rows + length (added change rows)
more_rows told limbo change rows = length-append (each (changed told limbo change) 0 rows) (added change rows) ∙ ap (λ n. n + length (added change rows)) (length-each (changed told limbo change) 0 rows)

-- LISTS OF PIECES

pub all_of : (P : RowFile → Type 0) (xs : List RowFile) → ((f : RowFile) → P f) → AllByRecursion P xs
all_of P [] one = tt
all_of P (f ∷ xs) one = (one f, all_of P xs one)

pub of_both : (P Q R : RowFile → Type 0) (xs : List RowFile) → ((f : RowFile) → P f → Q f → R f) → AllByRecursion P xs → AllByRecursion Q xs → AllByRecursion R xs
of_both P Q R [] one p q = tt
of_both P Q R (f ∷ xs) one p q = (one f p.0 q.0, of_both P Q R xs one p.1 q.1)

-- what passes a filter
pub all_filter : (p : RowFile → Bool) (xs : List RowFile) → AllByRecursion (λ f. p f ≡ true) (filter p xs)
all_filter p [] = tt
all_filter p (f ∷ xs) = by_test (p f) refl (all_filter p xs)
  where
    by_test : (b : Bool) → p f ≡ b → AllByRecursion (λ f. p f ≡ true) (filter p xs) → AllByRecursion (λ f. p f ≡ true) (cond b (f ∷ filter p xs) (filter p xs))
    by_test true is more = (is, more)
    by_test false is more = more

pub there_is_row : (rows : List RowState) (i : ℕ) → i < length rows → slice_get rows i ≡ None → ⊥
there_is_row [] i low none = absurd (omega arith)
there_is_row (x ∷ rows) zero low none = cc
there_is_row (x ∷ rows) (suc i) low none = there_is_row rows i (omega arith) none
