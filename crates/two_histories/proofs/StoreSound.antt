-- The half that is left of a sound machine is a sound machine again, whose tails are the samples in doubt.
use Rattle.std.proofs.Common.{◌≡◌, ℕ, ◌+◌, ◌≤◌, List, [], ◌∷◌, ◌++◌, length, Option, Some, None, Bool, zero, suc, refl, ap, sym, ◌∙◌, subst, arith, append-nil}
use Rattle.std.specs.Prelude.{slice_get}
use Rattle.std.specs.List.{AllByRecursion}
use Rattle.std.proofs.lemmas.Option.{same_Some}
use Rattle.series_model.specs.declared.batch.RowSamples.{RowSamples}
use Rattle.series_model.specs.declared.sample.Sample.{Sample}
use Rattle.series_model.specs.Series.{end_of, RisesFrom}
use Rattle.series_model.proofs.RisingLists.{RisesFrom-front}
use Rattle.act_model.specs.Event.{IsEvent}
use Rattle.act_model.specs.Changes.{of_row}
use Rattle.act_model.specs.Machine.{Machine, Change, AddsRow, SetsState, Renames, Appends, Publishes, Unlists, held_bytes}
use Rattle.act_model.specs.Rows.{RowState, durable, size_of}
use Rattle.act_model.specs.Sound.{RowSound, LinesSound, IsSoundOf, IsSound}
use Rattle.two_histories.specs.Store.{Lists}
use Rattle.two_histories.specs.ArchiveStore.{StoreHalf, StoreRow, row_with, rows_with, with_ends, doubted, left_row, left_rows, machine_of, store_of}
use Rattle.two_histories.proofs.Retailed.{IsBase, SameStores, same_stores, FromRow, retailed}

-- each row of the new ones has its like
abbrev pub AreAlike : List RowState → List RowState → Type 0
AreAlike rows news = (i : ℕ) (new : RowState) → slice_get news i ≡ Some new → (row : RowState) × (slice_get rows i ≡ Some row) × SameStores row new

-- a base has no tail
pub base_none : (m : Machine) → IsSound m → (i : ℕ) (row : RowState) → slice_get m.rows i ≡ Some row → IsBase m.rows i → row.tail ≡ []
base_none m s i row here b = let o = s.bases.over b.at b.row i b.here b.base in let same : o.base ≡ row = same_Some o.base row (sym o.here ∙ here) in ap (λ (r : RowState). r.tail) (sym same) ∙ o.none

-- ROWS THAT ARE LEFT

abbrev as_left : Lists → ℕ → ℕ → List StoreRow → ℕ → List RowState → List RowState
as_left tails k n olds j rows = rows_with tails k (left_rows n olds j rows)

left_length : (tails : Lists) (k n : ℕ) (olds : List StoreRow) (j : ℕ) (rows : List RowState) → length (as_left tails k n olds j rows) ≡ length rows
left_length tails k n olds j [] = refl
left_length tails k n olds j (row ∷ rows) = ap (λ x. suc x) (left_length tails (k + 1) n olds (j + 1) rows)

-- where a row comes from
record LeftOf (tails : Lists) (k n : ℕ) (rows : List RowState) (i : ℕ) (new : RowState) : Type 0 where
  row : RowState
  here : slice_get rows i ≡ Some row
  old : Option StoreRow
  is : new ≡ row_with (tails (k + i)) (left_row n old row)

left_of : (tails : Lists) (k n : ℕ) (olds : List StoreRow) (j : ℕ) (rows : List RowState) (i : ℕ) (new : RowState) → slice_get (as_left tails k n olds j rows) i ≡ Some new → LeftOf tails k n rows i new
left_of tails k n olds j [] i new is = absurd cc
left_of tails k n olds j (row ∷ rows) zero new is =
    let first : new ≡ row_with (tails k) (left_row n (slice_get olds j) row) = cc in
    let plain : k ≡ k + 0 = omega arith in
    record { row = row; here = refl; old = slice_get olds j; is = first ∙ ap (λ x. row_with (tails x) (left_row n (slice_get olds j) row)) plain }
left_of tails k n olds j (row ∷ rows) (suc i) new is =
    let rest = left_of tails (k + 1) n olds (j + 1) rows i new is in
    let plain : (k + 1) + i ≡ k + suc i = omega arith in
    record { row = rest.row; here = rest.here; old = rest.old; is = rest.is ∙ ap (λ x. row_with (tails x) (left_row n rest.old rest.row)) plain }

-- FRONTS OF TAILS

all_front : {A : Type 0} (P : A → Type 0) (xs ys : List A) → AllByRecursion P (xs ++ ys) → AllByRecursion P xs
all_front P [] ys all = tt
all_front P (x ∷ xs) ys all = (all.0, all_front P xs ys all.1)

size_front : (xs ys : List Sample) → size_of xs ≤ size_of (xs ++ ys)
size_front [] ys = omega arith
size_front (x ∷ xs) ys = let rest = size_front xs ys in omega arith

-- what is in doubt is a front of the tail
abbrev pub IsFront : List Sample → List Sample → Type 0
IsFront xs tail = (rest : List Sample) × (tail ≡ xs ++ rest)

pub doubt_front : (m : Machine) → IsSound m → (i : ℕ) (row : RowState) → slice_get m.rows i ≡ Some row → (o : Option Change) → m.doubt ≡ o → IsFront (doubted o i) row.tail
doubt_front m s i row here None is = (row.tail, refl)
doubt_front m s i row here (Some (AddsRow name about)) is = (row.tail, refl)
doubt_front m s i row here (Some (SetsState k state)) is = (row.tail, refl)
doubt_front m s i row here (Some (Renames k name)) is = (row.tail, refl)
doubt_front m s i row here (Some (Appends batch)) is = (s.doubted (Appends batch) is).0 i row here
doubt_front m s i row here (Some (Publishes k store copied)) is = (row.tail, refl)
doubt_front m s i row here (Some (Unlists k store to)) is = (row.tail, refl)

none_front : (xs ys : List Sample) → xs ++ ys ≡ [] → xs ≡ []
none_front [] ys none = refl
none_front (x ∷ xs) ys none = absurd cc

-- a row like a sound one, with a front of its tail
front_from : {told : Bool} (rows : List RowState) (i : ℕ) (row like : RowState) (xs : List Sample) (n : ℕ) (old : Option StoreRow) → slice_get rows i ≡ Some row → RowSound told row → LinesSound row → IsFront xs row.tail → SameStores row like → (IsBase rows i → row.tail ≡ []) → FromRow rows i (row_with xs (left_row n old like))
front_from rows i row like xs n old here s lines front a none =
    let later : RisesFrom (end_of (durable row)) (xs ++ front.0) = rw (← front.1) s.later in
    let more : AllByRecursion (IsEvent row.about.ty) (xs ++ front.0) = rw (← front.1) lines.tail in
    record {
      row = row;
      here = here;
      same = record { short = a.short; medium = a.medium; long = a.long; name = a.name; about = a.about; state = a.state; base = a.base };
      later = RisesFrom-front (end_of (durable row)) xs front.0 later;
      lines = record { tail = rw a.about (all_front (IsEvent row.about.ty) xs front.0 more); held = tt };
      none = λ b. none_front xs front.0 (sym front.1 ∙ none b);
    }

-- fronts have no more bytes
fronts_bytes : (tails : Lists) (k n : ℕ) (olds : List StoreRow) (j : ℕ) (rows likes : List RowState) → length likes ≡ length rows → ((i : ℕ) (row : RowState) → slice_get rows i ≡ Some row → IsFront (tails (k + i)) row.tail)
    → held_bytes (as_left tails k n olds j likes) ≤ held_bytes rows
fronts_bytes tails k n olds j [] [] same fronts = omega arith
fronts_bytes tails k n olds j [] (like ∷ likes) same fronts = absurd (omega arith)
fronts_bytes tails k n olds j (row ∷ rows) [] same fronts = absurd (omega arith)
fronts_bytes tails k n olds j (row ∷ rows) (like ∷ likes) same fronts =
    let plain : k + 0 ≡ k = omega arith in
    let front : IsFront (tails k) row.tail = subst (λ x. IsFront (tails x) row.tail) plain (fronts 0 row refl) in
    let one : size_of (tails k) ≤ size_of (tails k ++ front.0) = size_front (tails k) front.0 in
    let whole : size_of row.tail ≡ size_of (tails k ++ front.0) = ap size_of front.1 in
    let rest = fronts_bytes tails (k + 1) n olds (j + 1) rows likes (omega arith) (λ i other here. let next : k + suc i ≡ (k + 1) + i = omega arith in subst (λ x. IsFront (tails x) other.tail) next (fronts (suc i) other here)) in
    omega arith

-- THE HALF

-- rows like those of a sound machine are left as sound ones
pub likes_sound : (n : ℕ) (olds : List StoreRow) (m : Machine) (likes : List RowState) → IsSound m → length likes ≡ length m.rows → AreAlike m.rows likes
    → IsSoundOf m.rule m.told (with_ends (rows_with (doubted m.doubt) 0 (left_rows n olds 0 likes))) m.limbo m.pins m.moves m.doubt
likes_sound n olds m likes s same alike =
    retailed m (as_left (doubted m.doubt) 0 n olds 0 likes) s (left_length (doubted m.doubt) 0 n olds 0 likes ∙ same) (λ i new there. from i new there) (λ batch is i new there. in_doubt batch is i new there) (λ k name is new there. renamed k name is new there)
    (let bytes = fronts_bytes (doubted m.doubt) 0 n olds 0 m.rows likes same (λ i row here. let plain : i ≡ 0 + i = omega arith in subst (λ x. IsFront (doubted m.doubt x) row.tail) plain (doubt_front m s i row here m.doubt refl)) in
    let intake : held_bytes m.rows ≤ 67108864 = s.intake in omega arith)
  where
    from : (i : ℕ) (new : RowState) → slice_get (as_left (doubted m.doubt) 0 n olds 0 likes) i ≡ Some new → FromRow m.rows i new
    from i new there =
        let o = left_of (doubted m.doubt) 0 n olds 0 likes i new there in
        let a = alike i o.row o.here in
        let plain : 0 + i ≡ i = omega arith in
        let is : new ≡ row_with (doubted m.doubt i) (left_row n o.old o.row) = o.is ∙ ap (λ x. row_with (doubted m.doubt x) (left_row n o.old o.row)) plain in
        subst (λ r. FromRow m.rows i r) (sym is) (front_from m.rows i a.0 o.row (doubted m.doubt i) n o.old a.1 (s.each_row i a.0 a.1) (s.lines i a.0 a.1) (doubt_front m s i a.0 a.1 m.doubt refl) a.2 (base_none m s i a.0 a.1))

    tail_is : (i : ℕ) (new : RowState) → slice_get (as_left (doubted m.doubt) 0 n olds 0 likes) i ≡ Some new → new.tail ≡ doubted m.doubt i
    tail_is i new there = let o = left_of (doubted m.doubt) 0 n olds 0 likes i new there in let plain : 0 + i ≡ i = omega arith in ap (λ (r : RowState). r.tail) o.is ∙ ap (λ x. doubted m.doubt x) plain

    in_doubt : (batch : List RowSamples) → m.doubt ≡ Some (Appends batch) → (i : ℕ) (new : RowState) → slice_get (as_left (doubted m.doubt) 0 n olds 0 likes) i ≡ Some new → IsFront (of_row i batch) new.tail
    in_doubt batch is i new there = ([], tail_is i new there ∙ (ap (λ d. doubted d i) is ∙ sym (append-nil (of_row i batch))))

    renamed : (k : ℕ) (name : List ℕ) → m.doubt ≡ Some (Renames k name) → (new : RowState) → slice_get (as_left (doubted m.doubt) 0 n olds 0 likes) k ≡ Some new → new.tail ≡ []
    renamed k name is new there = tail_is k new there ∙ ap (λ d. doubted d k) is

-- the half that is left of a sound machine
pub left_sound : (n doors : ℕ) (old : StoreHalf) (m : Machine) → IsSound m → IsSound (machine_of doors (store_of n old m))
left_sound n doors old m s = likes_sound n old.rows m m.rows s refl (λ i new there. (new, there, same_stores new))
