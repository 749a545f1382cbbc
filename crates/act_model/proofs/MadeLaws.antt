-- A change that may be made keeps the machine sound.
use Rattle.std.proofs.Common.{◌≡◌, ℕ, ◌+◌, ◌≤◌, List, [], ◌∷◌, ◌++◌, Some, None, zero, suc, Bool, true, false, cond, refl, ap, sym, ◌∙◌, arith, subst, inl, inr}
use Rattle.std.specs.Prelude.{◌⊎◌, Option, nat_le, slice_get}
use Rattle.std.specs.List.{AllByRecursion}
use Rattle.series_model.specs.declared.sample.Sample.{Sample}
use Rattle.series_model.specs.Series.{end_of, IsRising, since}
use Rattle.act_model.specs.Rows.{RowState, deep, fresh_row, renamed_row, size_of}
use Rattle.act_model.specs.Rule.{Rule}
use Rattle.act_model.specs.Limbo.{RowFile, IsOfPart}
use Rattle.act_model.specs.Machine.{Change, AddsRow, SetsState, Renames, Appends, Publishes, Unlists, held_bytes}
use Rattle.act_model.specs.Changes.{each, changed, added}
use Rattle.act_model.specs.Sound.{RowSound, LinesSound, IsHeld, MayMake, LimboSound}
use Rattle.act_model.specs.Event.{IsEvent}
use Rattle.act_model.proofs.ChangeLaws.{RowGoes, Ground, RowMay, changed_goes}
use Rattle.act_model.proofs.Rows.{of_place}

-- THE GROUND OF A ROW

pub ground : (rule : Rule) (told : Bool) (rows : List RowState) (limbo : List RowFile) (i : ℕ) (row : RowState) → slice_get rows i ≡ Some row → AllByRecursion (LimboSound rule told rows) limbo → Ground told limbo i row
ground rule told rows limbo i row here all =
    record {
      covered = λ store t. of_place (LimboSound rule told rows) (λ f. IsRising f.samples × (end_of f.samples ≤ end_of (deep row store))) i store limbo
          (λ f a b s. (s.rising t, (let there : slice_get rows f.row ≡ Some row = ap (λ n. slice_get rows n) a ∙ here in let low : end_of f.samples ≤ end_of (deep row f.store) = s.covered row there t in let same : end_of (deep row f.store) ≡ end_of (deep row store) = ap (λ w. end_of (deep row w)) b in omega arith))) all;
      parts = λ store t. of_place (LimboSound rule told rows) IsOfPart i store limbo (λ f a b s. s.part t) all;
    }

pub row_may : (rule : Rule) (told : Bool) (rows : List RowState) (limbo : List RowFile) (change : Change) (i : ℕ) (row : RowState) → slice_get rows i ≡ Some row → MayMake rule told rows limbo change → RowMay told limbo change i row
row_may rule told rows limbo (AddsRow name about) i row here may = tt
row_may rule told rows limbo (SetsState k state) i row here may = λ is. may row (ap (λ n. slice_get rows n) (sym is) ∙ here)
row_may rule told rows limbo (Renames k name) i row here may = tt
row_may rule told rows limbo (Appends batch) i row here may = may i row here
row_may rule told rows limbo (Publishes k store copied) i row here may = λ is t. (may.moves, may.front row (ap (λ n. slice_get rows n) (sym is) ∙ here) t)
row_may rule told rows limbo (Unlists k store to) i row here may = λ is t. (may.moves, may.covered row (ap (λ n. slice_get rows n) (sym is) ∙ here) t)

module _ (rule : Rule) (told : Bool) (rows : List RowState) (limbo : List RowFile) (change : Change)
    (each_row : (i : ℕ) (row : RowState) → slice_get rows i ≡ Some row → RowSound told row)
    (each_file : AllByRecursion (LimboSound rule told rows) limbo)
    (may : MayMake rule told rows limbo change) where
  pub goes : (i : ℕ) (row : RowState) → slice_get rows i ≡ Some row → RowGoes told row (changed told limbo change i row)
  goes i row here = changed_goes told limbo change i row (each_row i row here) (ground rule told rows limbo i row here each_file) (row_may rule told rows limbo change i row here may)

-- WHAT IS ADDED

-- a row that is registered, or one that goes on under a new name
pub data IsFresh (change : Change) (rows : List RowState) (row : RowState) : Type 0 where
  fresh : (name : List ℕ) (about : _) → change ≡ AddsRow name about → row ≡ fresh_row name about → IsFresh change rows row
  fresh_over : (k : ℕ) (name : List ℕ) (old : RowState) → change ≡ Renames k name → slice_get rows k ≡ Some old → row ≡ renamed_row name k old → IsFresh change rows row

pub added_fresh : (change : Change) (rows : List RowState) (j : ℕ) (new : RowState) → slice_get (added change rows) j ≡ Some new → IsFresh change rows new × (j ≡ 0)
added_fresh (AddsRow name about) rows zero new is = (fresh name about refl cc, refl)
added_fresh (AddsRow name about) rows (suc j) new is = absurd cc
added_fresh (SetsState k state) rows j new is = absurd cc
added_fresh (Renames k name) rows j new is = by_row (slice_get rows k) refl j is
  where
    by_row : (o : Option RowState) → slice_get rows k ≡ o → (j : ℕ) → slice_get (added (Renames k name) rows) j ≡ Some new → IsFresh (Renames k name) rows new × (j ≡ 0)
    by_row None none j is = absurd (let bad = rw none at is in cc)
    by_row (Some old) here zero is = (fresh_over k name old refl here (let one = rw here at is in cc), refl)
    by_row (Some old) here (suc j) is = absurd (let bad = rw here at is in cc)
added_fresh (Appends batch) rows j new is = absurd cc
added_fresh (Publishes k store copied) rows j new is = absurd cc
added_fresh (Unlists k store to) rows j new is = absurd cc

pub fresh_sound : (told : Bool) (change : Change) (rows : List RowState) (row : RowState) → IsFresh change rows row → RowSound told row
fresh_sound told change rows row (fresh name about by is) = rw is (record { short = tt; medium = tt; long = tt; later = tt; next = omega arith })
fresh_sound told change rows row (fresh_over k name old by here is) = rw is (record { short = tt; medium = tt; long = tt; later = tt; next = omega arith })

pub fresh_lines : (change : Change) (rows : List RowState) (row : RowState) → IsFresh change rows row → LinesSound row
fresh_lines change rows row (fresh name about by is) = rw is (record { tail = tt; held = tt })
fresh_lines change rows row (fresh_over k name old by here is) = rw is (record { tail = tt; held = tt })

-- LINES AND BYTES

pub since_lines : (P : Sample → Type 0) (n : ℕ) (xs : List Sample) → AllByRecursion P xs → AllByRecursion P (since n xs)
since_lines P n [] all = tt
since_lines P n (x ∷ xs) all = by_test (nat_le n x.t) (since_lines P n xs all.1)
  where
    by_test : (b : Bool) → AllByRecursion P (since n xs) → AllByRecursion P (cond b (x ∷ since n xs) (since n xs))
    by_test true more = (all.0, more)
    by_test false more = more

pub since_size : (n : ℕ) (xs : List Sample) → size_of (since n xs) ≤ size_of xs
since_size n [] = omega arith
since_size n (x ∷ xs) = by_test (nat_le n x.t) (since_size n xs)
  where
    by_test : (b : Bool) → size_of (since n xs) ≤ size_of xs → size_of (cond b (x ∷ since n xs) (since n xs)) ≤ size_of (x ∷ xs)
    by_test true more = omega arith
    by_test false more = omega arith

pub goes_lines : (told : Bool) (row new : RowState) → RowGoes told row new → LinesSound row → LinesSound new
goes_lines told row new g s = record { tail = rw g.about (by_tail g.tail); held = rw g.about (by_held g.held) }
  where
    by_tail : (new.tail ≡ row.tail) ⊎ ((n : ℕ) × (new.tail ≡ since n row.tail)) → AllByRecursion (IsEvent row.about.ty) new.tail
    by_tail (inl is) = rw is s.tail
    by_tail (inr is) = rw is.1 (since_lines (IsEvent row.about.ty) is.0 row.tail s.tail)

    by_held : (new.cell.held ≡ row.cell.held) ⊎ (new.cell.held ≡ None) → IsHeld row.about.ty new.cell.held
    by_held (inl is) = rw is s.held
    by_held (inr is) = rw is tt

pub goes_size : (told : Bool) (row new : RowState) → RowGoes told row new → size_of new.tail ≤ size_of row.tail
goes_size told row new g = by_tail g.tail
  where
    by_tail : (new.tail ≡ row.tail) ⊎ ((n : ℕ) × (new.tail ≡ since n row.tail)) → size_of new.tail ≤ size_of row.tail
    by_tail (inl is) = rw is (omega arith)
    by_tail (inr is) = rw is.1 (since_size is.0 row.tail)

pub each_size : (f : ℕ → RowState → RowState) (k : ℕ) (rows : List RowState) → ((i : ℕ) (row : RowState) → slice_get rows i ≡ Some row → size_of (f (k + i) row).tail ≤ size_of row.tail) → held_bytes (each f k rows) ≤ held_bytes rows
each_size f k [] low = omega arith
each_size f k (row ∷ rows) low =
    let plain : k + 0 ≡ k = omega arith in
    let first : size_of (f k row).tail ≤ size_of row.tail = subst (λ n. size_of (f n row).tail ≤ size_of row.tail) plain (low 0 row refl) in
    let more : held_bytes (each f (k + 1) rows) ≤ held_bytes rows = each_size f (k + 1) rows (λ i other here. let next : (k + 1) + i ≡ k + suc i = omega arith in subst (λ n. size_of (f n other).tail ≤ size_of other.tail) (sym next) (low (suc i) other here)) in
    omega arith

pub append_size : (rows more : List RowState) → held_bytes (rows ++ more) ≡ held_bytes rows + held_bytes more
append_size [] more = omega arith
append_size (row ∷ rows) more = let rest = append_size rows more in omega arith

pub added_size : (change : Change) (rows : List RowState) → held_bytes (added change rows) ≡ 0
added_size (AddsRow name about) rows = refl
added_size (SetsState k state) rows = refl
added_size (Renames k name) rows = by_row (slice_get rows k) refl
  where
    by_row : (o : Option RowState) → slice_get rows k ≡ o → held_bytes (added (Renames k name) rows) ≡ 0
    by_row None none = rw none refl
    by_row (Some old) here = rw here refl
added_size (Appends batch) rows = refl
added_size (Publishes k store copied) rows = refl
added_size (Unlists k store to) rows = refl
