-- A machine whose tails are a batch's samples that are later than what is durable is sound, where the batch was looked at.
use Rattle.std.proofs.Common.{◌≡◌, ℕ, ◌+◌, ◌<◌, ◌≤◌, List, [], ◌∷◌, ◌++◌, Option, Some, None, Bool, true, false, cond, refl, ap, sym, ◌∙◌, subst, arith}
use Rattle.std.specs.Prelude.{slice_get, nat_eq}
use Rattle.std.specs.List.{AllByRecursion}
use Rattle.std.proofs.lemmas.Bool.Decides.{nat_tests}
use Rattle.series_model.specs.declared.batch.RowSamples.{RowSamples}
use Rattle.series_model.specs.declared.sample.Sample.{Sample}
use Rattle.series_model.specs.Series.{IsRising, since, end_of, over}
use Rattle.series_model.proofs.OverLemmas.{over_rising}
use Rattle.series_model.proofs.RisingLists.{RisesFrom-since, since-append, since-since}
use Rattle.act_model.specs.Changes.{each, of_row}
use Rattle.act_model.specs.Event.{IsEvent}
use Rattle.act_model.specs.Growth.{Onward, RowOn}
use Rattle.act_model.specs.Machine.{Machine, Change, held_bytes}
use Rattle.act_model.specs.Rows.{RowState, durable, size_of}
use Rattle.act_model.specs.Sound.{IsSound}
use Rattle.act_model.proofs.Rows.{length-each, each_get}
use Rattle.two_histories.specs.ArchiveIntake.{bytes_in}
use Rattle.two_histories.proofs.Lists.{prefix_end}
use Rattle.two_histories.specs.StoreStep.{part_with, later_than, ends_in, tailed, with_batch}
use Rattle.two_histories.proofs.Closing.{IsClosed, is_base}
use Rattle.two_histories.proofs.Durables.{durable_in}
use Rattle.two_histories.proofs.Retailed.{FromRow, retailed}
use Rattle.act_model.proofs.MadeLaws.{since_lines, since_size}

-- what a Look told of a batch, beside the rows and the doubt: of a row that is closed it has nothing that isn't durable
pub record BatchFits (rows : List RowState) (doubt : Option Change) (batch : List RowSamples) : Type 0 where
  pub rising : (i : ℕ) → IsRising (of_row i batch)
  pub lines : (i : ℕ) (row : RowState) → slice_get rows i ≡ Some row → AllByRecursion (IsEvent row.about.ty) (of_row i batch)
  pub past : (i : ℕ) → slice_get rows i ≡ None → of_row i batch ≡ []
  pub closed : (i : ℕ) (row : RowState) → slice_get rows i ≡ Some row → IsClosed rows doubt i → since (end_of (durable row)) (of_row i batch) ≡ []
  pub bytes : bytes_in batch ≤ 67108864

-- LATER SAMPLES

-- what a part adds of a row
part_row : (row : ℕ) (xs : List Sample) (batch : List RowSamples) (i : ℕ) → of_row i (part_with row xs ++ batch) ≡ cond (nat_eq row i) (xs ++ of_row i batch) (of_row i batch)
part_row row [] batch i = by_test (nat_eq row i)
  where
    by_test : (b : Bool) → of_row i batch ≡ cond b (of_row i batch) (of_row i batch)
    by_test true = refl
    by_test false = refl
part_row row (x ∷ xs) batch i = refl

pub later_row : (ends : ℕ → ℕ) (batch : List RowSamples) (i : ℕ) → of_row i (later_than ends batch) ≡ since (ends i) (of_row i batch)
later_row ends [] i = refl
later_row ends (p ∷ batch) i = part_row p.row (since (ends p.row) p.samples) (later_than ends batch) i ∙ by_test (nat_eq p.row i) refl (later_row ends batch i)
  where
    by_test : (b : Bool) → nat_eq p.row i ≡ b → of_row i (later_than ends batch) ≡ since (ends i) (of_row i batch)
        → cond b (since (ends p.row) p.samples ++ of_row i (later_than ends batch)) (of_row i (later_than ends batch)) ≡ since (ends i) (cond b (p.samples ++ of_row i batch) (of_row i batch))
    by_test true is more =
        let same : p.row ≡ i = grind (arith, nat_tests) in
        ap (λ k. since (ends k) p.samples ++ of_row i (later_than ends batch)) same ∙ (ap (λ w. since (ends i) p.samples ++ w) more ∙ sym (since-append (ends i) p.samples (of_row i batch)))
    by_test false is more = more

-- BYTES

part_bytes : (row : ℕ) (xs : List Sample) (batch : List RowSamples) → bytes_in (part_with row xs ++ batch) ≡ size_of xs + bytes_in batch
part_bytes row [] batch = omega arith
part_bytes row (x ∷ xs) batch = refl

later_bytes : (ends : ℕ → ℕ) (batch : List RowSamples) → bytes_in (later_than ends batch) ≤ bytes_in batch
later_bytes ends [] = omega arith
later_bytes ends (p ∷ batch) =
    let part : bytes_in (later_than ends (p ∷ batch)) ≡ size_of (since (ends p.row) p.samples) + bytes_in (later_than ends batch) = part_bytes p.row (since (ends p.row) p.samples) (later_than ends batch) in
    let one = since_size (ends p.row) p.samples in
    let more = later_bytes ends batch in
    omega arith

size_append : (xs ys : List Sample) → size_of (xs ++ ys) ≡ size_of xs + size_of ys
size_append [] ys = omega arith
size_append (x ∷ xs) ys = let more = size_append xs ys in omega arith

-- the rows from a number on with a batch's samples as tails
abbrev tailed_from : List RowSamples → ℕ → List RowState → List RowState
tailed_from batch k rows = each (λ i row. record row { tail = of_row i batch }) k rows

no_bytes : (k : ℕ) (rows : List RowState) → held_bytes (tailed_from [] k rows) ≡ 0
no_bytes k [] = refl
no_bytes k (row ∷ rows) = let more = no_bytes (k + 1) rows in omega arith

-- samples of a row before these add nothing
past_bytes : (p : RowSamples) (batch : List RowSamples) (k : ℕ) (rows : List RowState) → p.row < k → held_bytes (tailed_from (p ∷ batch) k rows) ≡ held_bytes (tailed_from batch k rows)
past_bytes p batch k [] low = refl
past_bytes p batch k (row ∷ rows) low = by_test (nat_eq p.row k) refl (past_bytes p batch (k + 1) rows (omega arith))
  where
    by_test : (b : Bool) → nat_eq p.row k ≡ b → held_bytes (tailed_from (p ∷ batch) (k + 1) rows) ≡ held_bytes (tailed_from batch (k + 1) rows)
        → size_of (cond b (p.samples ++ of_row k batch) (of_row k batch)) + held_bytes (tailed_from (p ∷ batch) (k + 1) rows) ≡ size_of (of_row k batch) + held_bytes (tailed_from batch (k + 1) rows)
    by_test true is more = absurd (let same : p.row ≡ k = grind (arith, nat_tests) in omega arith)
    by_test false is more = omega arith

one_more : (p : RowSamples) (batch : List RowSamples) (k : ℕ) (rows : List RowState) → held_bytes (tailed_from (p ∷ batch) k rows) ≤ size_of p.samples + held_bytes (tailed_from batch k rows)
one_more p batch k [] = omega arith
one_more p batch k (row ∷ rows) = by_test (nat_eq p.row k) refl (one_more p batch (k + 1) rows) (λ low. past_bytes p batch (k + 1) rows low)
  where
    by_test : (b : Bool) → nat_eq p.row k ≡ b → held_bytes (tailed_from (p ∷ batch) (k + 1) rows) ≤ size_of p.samples + held_bytes (tailed_from batch (k + 1) rows)
        → (p.row < k + 1 → held_bytes (tailed_from (p ∷ batch) (k + 1) rows) ≡ held_bytes (tailed_from batch (k + 1) rows))
        → size_of (cond b (p.samples ++ of_row k batch) (of_row k batch)) + held_bytes (tailed_from (p ∷ batch) (k + 1) rows) ≤ size_of p.samples + (size_of (of_row k batch) + held_bytes (tailed_from batch (k + 1) rows))
    by_test true is more past =
        let same : p.row ≡ k = grind (arith, nat_tests) in
        let none = past (omega arith) in
        let both = size_append p.samples (of_row k batch) in
        omega arith
    by_test false is more past = omega arith

tailed_bytes : (batch : List RowSamples) (k : ℕ) (rows : List RowState) → held_bytes (tailed_from batch k rows) ≤ bytes_in batch
tailed_bytes [] k rows = let none = no_bytes k rows in omega arith
tailed_bytes (p ∷ batch) k rows = let one = one_more p batch k rows in let more = tailed_bytes batch k rows in omega arith

-- THE MACHINE

pub ends_are : (rows : List RowState) (i : ℕ) → ends_in rows i ≡ end_of (durable_in rows i)
ends_are rows i = by_row (slice_get rows i) refl
  where
    by_row : (o : Option RowState) → slice_get rows i ≡ o → ends_in rows i ≡ end_of (durable_in rows i)
    by_row None none = rw none refl
    by_row (Some row) here = rw here refl

pub end_is : (rows : List RowState) (i : ℕ) (row : RowState) → slice_get rows i ≡ Some row → ends_in rows i ≡ end_of (durable row)
end_is rows i row here = rw here refl

pub batch_sound : (m : Machine) (batch : List RowSamples) → IsSound m → m.doubt ≡ None → BatchFits m.rows m.doubt batch → IsSound (with_batch batch m)
batch_sound m batch s none fits =
    let later = later_than (ends_in m.rows) batch in
    let bytes = tailed_bytes later 0 m.rows in
    let less = later_bytes (ends_in m.rows) batch in
    let most : bytes_in batch ≤ 67108864 = fits.bytes in
    retailed m (tailed later m.rows) s (length-each (λ i row. record row { tail = of_row i later }) 0 m.rows) (λ i new there. from i new there) (λ other is. absurd (let bad = sym none ∙ is in cc)) (λ k name is. absurd (let bad = sym none ∙ is in cc)) (omega arith)
  where
    from : (i : ℕ) (new : RowState) → slice_get (tailed (later_than (ends_in m.rows) batch) m.rows) i ≡ Some new → FromRow m.rows i new
    from i new there =
        let later = later_than (ends_in m.rows) batch in
        let o = each_get (λ k row. record row { tail = of_row k later }) 0 m.rows i new there in
        let plain : 0 + i ≡ i = omega arith in
        let n = end_of (durable o.0) in
        let xs = since n (of_row i batch) in
        let tail : of_row i later ≡ xs = later_row (ends_in m.rows) batch i ∙ ap (λ k. since k (of_row i batch)) (end_is m.rows i o.0 o.1) in
        let is : new ≡ record o.0 { tail = xs } = o.2 ∙ (ap (λ k. record o.0 { tail = of_row k later }) plain ∙ ap (λ w. record o.0 { tail = w }) tail) in
        subst (λ r. FromRow m.rows i r) (sym is) (record {
          row = o.0;
          here = o.1;
          same = record { short = refl; medium = refl; long = refl; name = refl; about = refl; state = refl; base = refl };
          later = RisesFrom-since 0 n (of_row i batch) (fits.rising i);
          lines = record { tail = since_lines (IsEvent o.0.about.ty) n (of_row i batch) (fits.lines i o.0 o.1); held = (s.lines i o.0 o.1).held };
          none = λ b. fits.closed i o.0 o.1 (is_base b);
        })

-- later samples than later ones
since_later : (n k : ℕ) (xs : List Sample) → n ≤ k → since n xs ≡ [] → since k xs ≡ []
since_later n k xs low none = sym (since-since k n xs low) ∙ ap (λ w. since k w) none

-- the same rows, and those that came since
pub fits_on : (old mid : Machine) (batch : List RowSamples) → old.told ≡ true → Onward old mid → IsSound mid → BatchFits old.rows old.doubt batch → ((i : ℕ) → slice_get mid.rows i ≡ None → slice_get old.rows i ≡ None)
    → ((i : ℕ) → IsClosed mid.rows mid.doubt i → IsClosed old.rows old.doubt i) → BatchFits mid.rows mid.doubt batch
fits_on old mid batch t on s fits gone closes =
    record {
      rising = fits.rising;
      lines = λ i row there. by_old i row there (λ w. AllByRecursion (IsEvent row.about.ty) w) tt (λ was here now. rw now.about (fits.lines i was here)) (slice_get old.rows i) refl;
      past = λ i none. fits.past i (gone i none);
      closed = λ i row there c. by_old i row there (λ w. since (end_of (durable row)) w ≡ []) refl (λ was here now. still i row there was (closes i c) here now) (slice_get old.rows i) refl;
      bytes = fits.bytes;
    }
  where
    some_same : {a b : RowState} → Some a ≡ Some b → a ≡ b
    some_same is = cc

    by_old : (i : ℕ) (row : RowState) → slice_get mid.rows i ≡ Some row → (P : List Sample → Type 0) → P [] → ((was : RowState) → slice_get old.rows i ≡ Some was → RowOn was row → P (of_row i batch)) → (o : Option RowState) → slice_get old.rows i ≡ o → P (of_row i batch)
    by_old i row there P nothing on_row None none = subst P (sym (fits.past i none)) nothing
    by_old i row there P nothing on_row (Some was) here =
        let now = on.rows t i was here in
        let same : now.0 ≡ row = some_same (sym now.1 ∙ there) in
        on_row was here (subst (λ r. RowOn was r) same now.2)

    still : (i : ℕ) (row : RowState) → slice_get mid.rows i ≡ Some row → (was : RowState) → IsClosed old.rows old.doubt i → slice_get old.rows i ≡ Some was → RowOn was row → since (end_of (durable row)) (of_row i batch) ≡ []
    still i row there was c here now =
        let own = s.each_row i row there in
        let rises : IsRising (durable row) = over_rising (over row.long row.medium) row.short (over_rising row.long row.medium own.long own.medium) own.short in
        since_later (end_of (durable was)) (end_of (durable row)) (of_row i batch) (prefix_end (durable was) (durable row) now.durable_on rises) (fits.closed i was here c)
