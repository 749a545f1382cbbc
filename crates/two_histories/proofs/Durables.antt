-- What a change makes durable of a machine whose tails are the samples in doubt.
use Rattle.std.proofs.Common.{◌≡◌, ℕ, ◌+◌, List, [], ◌∷◌, ◌++◌, Option, Some, None, Bool, true, zero, suc, refl, ap, sym, ◌∙◌, subst, arith, append-nil, inl, inr}
use Rattle.std.specs.Prelude.{slice_get, ◌⊎◌}
use Rattle.series_model.specs.declared.sample.Sample.{Sample}
use Rattle.series_model.specs.Series.{over, since, end_of, RisesFrom}
use Rattle.act_model.specs.Changes.{changed, changed_rows, added, each, made, of_row}
use Rattle.act_model.specs.Limbo.{RowFile}
use Rattle.act_model.specs.Machine.{Machine, Change, AddsRow, SetsState, Renames, Appends, Publishes, Unlists}
use Rattle.act_model.specs.Rows.{RowState, durable, accepted}
use Rattle.act_model.specs.Sound.{MayMake, RowSound, IsSound}
use Rattle.act_model.proofs.ChangeLaws.{RowGoes}
use Rattle.act_model.proofs.MadeLaws.{goes}
use Rattle.act_model.proofs.Onward.{each_forward, append_forward}
use Rattle.act_model.proofs.RowLaws.{since_front}
use Rattle.two_histories.specs.Store.{Lists}
use Rattle.two_histories.specs.ArchiveStore.{StoreRow, durable_at, rows_with, left_rows, appended, with_ends}
use Rattle.two_histories.proofs.Retailed.{ended_back, ended_forth}

-- what is durable of the row with this number of a machine
abbrev pub durable_in : List RowState → ℕ → List Sample
durable_in rows i = of (slice_get rows i)
  where
    of : Option RowState → List Sample
    of None = []
    of (Some row) = durable row

pub in_rows_with : (tails : Lists) (k : ℕ) (rows : List StoreRow) (i : ℕ) → durable_in (rows_with tails k rows) i ≡ durable_at rows i
in_rows_with tails k [] i = refl
in_rows_with tails k (row ∷ rows) zero = refl
in_rows_with tails k (row ∷ rows) (suc i) = in_rows_with tails (k + 1) rows i

-- it doesn't matter where admission goes on
pub in_ended : (rows : List RowState) (i : ℕ) → durable_in (with_ends rows) i ≡ durable_in rows i
in_ended rows i = by_row (slice_get rows i) refl (slice_get (with_ends rows) i) refl
  where
    by_row : (o : Option RowState) → slice_get rows i ≡ o → (p : Option RowState) → slice_get (with_ends rows) i ≡ p → durable_in (with_ends rows) i ≡ durable_in rows i
    by_row (Some row) here p there = rw (here, ended_forth rows i row here) refl
    by_row None none None none' = rw (none, none') refl
    by_row None none (Some new) there = absurd (let e = ended_back rows i new there in let bad = sym none ∙ e.1 in cc)

pub in_left_rows : (n : ℕ) (olds : List StoreRow) (j : ℕ) (rows : List RowState) (i : ℕ) → durable_at (left_rows n olds j rows) i ≡ durable_in rows i
in_left_rows n olds j [] i = refl
in_left_rows n olds j (row ∷ rows) zero = refl
in_left_rows n olds j (row ∷ rows) (suc i) = in_left_rows n olds (j + 1) rows i

pub durable_is : (rows : List RowState) (i : ℕ) (row : RowState) → slice_get rows i ≡ Some row → durable_in rows i ≡ durable row
durable_is rows i row here = rw here refl

by_tail : (told : Bool) (limbo : List RowFile) (change : Change) (i : ℕ) (row : RowState) → row.tail ≡ [] → RowGoes told row (changed told limbo change i row) → (changed told limbo change i row).tail ≡ []
by_tail told limbo change i row none g = by_kind g.tail
  where
    by_kind : ((changed told limbo change i row).tail ≡ row.tail) ⊎ ((n : ℕ) × ((changed told limbo change i row).tail ≡ since n row.tail)) → (changed told limbo change i row).tail ≡ []
    by_kind (inl same) = same ∙ none
    by_kind (inr less) = less.1 ∙ ap (λ w. since less.0 w) none

-- nothing is left of a tail that a change appends whole
emptied : (told : Bool) (limbo : List RowFile) (change : Change) (i : ℕ) (row : RowState) → RowSound told row → row.tail ≡ appended change i → RowGoes told row (changed told limbo change i row) → (changed told limbo change i row).tail ≡ []
emptied told limbo (Appends batch) i row s is g =
    let xs = of_row i batch in
    let whole : row.tail ≡ xs ++ [] = is ∙ sym (append-nil xs) in
    let later : RisesFrom (end_of (durable row)) (xs ++ []) = subst (λ w. RisesFrom (end_of (durable row)) w) whole s.later in
    ap (λ w. since (end_of xs) w) whole ∙ since_front (end_of (durable row)) xs [] later
emptied told limbo (AddsRow name about) i row s is g = by_tail told limbo (AddsRow name about) i row is g
emptied told limbo (SetsState k state) i row s is g = by_tail told limbo (SetsState k state) i row is g
emptied told limbo (Renames k name) i row s is g = by_tail told limbo (Renames k name) i row is g
emptied told limbo (Publishes k store copied) i row s is g = by_tail told limbo (Publishes k store copied) i row is g
emptied told limbo (Unlists k store to) i row s is g = by_tail told limbo (Unlists k store to) i row is g

-- once a change is made, a row whose tail is just what the change appends has all of it durable
pub made_durable : (m : Machine) (into : List RowFile) (change : Change) → IsSound m → m.told ≡ true → MayMake m.rule m.told m.rows m.limbo change
    → (i : ℕ) (row : RowState) → slice_get m.rows i ≡ Some row → row.tail ≡ appended change i → durable_in (made into change m).rows i ≡ over (durable row) (appended change i)
made_durable m into change s t may i row here tail =
    let new = changed m.told m.limbo change i row in
    let g = goes m.rule m.told m.rows m.limbo change s.each_row s.each_file may i row here in
    let plain : 0 + i ≡ i = omega arith in
    let there : slice_get (each (changed m.told m.limbo change) 0 m.rows) i ≡ Some new = each_forward (changed m.told m.limbo change) 0 m.rows i row here ∙ ap (λ n. Some (changed m.told m.limbo change n row)) plain in
    let in_all : slice_get (changed_rows m.told m.limbo change m.rows) i ≡ Some new = append_forward (each (changed m.told m.limbo change) 0 m.rows) (added change m.rows) i new there in
    let none : new.tail ≡ [] = emptied m.told m.limbo change i row (s.each_row i row here) tail g in
    let all : accepted new ≡ durable new = ap (λ w. over (durable new) w) none ∙ append-nil (durable new) in
    durable_is (changed_rows m.told m.limbo change m.rows) i new in_all ∙ (sym all ∙ (g.same t ∙ ap (λ w. over (durable row) w) tail))
