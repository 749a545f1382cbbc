-- The first batch of a checkpoint lists the entries again.
use Rattle.std.proofs.Common.{◌≡◌, ℕ, ◌+◌, ◌*◌, ◌&&◌, Bool, true, List, [], ◌∷◌, ◌++◌, length, map, All, get_or, take, ◌<◌, refl, sym, ◌∙◌, ap, subst, arith, append_assoc, append-nil, length-append}
use Rattle.std.proofs.lemmas.List.{take_more}
use Rattle.std.proofs.lemmas.List.Elements.{recursion_from_All}
use Rattle.std.specs.List.{list_all, AllByRecursion}
use Rattle.partition_names.specs.declared.granularity.Granularity.{Granularity}
use Rattle.partition_names.specs.Part.{IsPart}
use Rattle.store_manifest.specs.declared.entry.Entry.{Entry}
use Rattle.store_manifest.specs.declared.entry.Change.{Change}
use Rattle.store_manifest.specs.declared.entry.Change.TheVariants.{Set}
use Rattle.store_manifest.specs.Batches.{config, encoded, batch_of, whole, Makes, IsSet, Begins, Configured}
use Rattle.store_manifest.specs.Entries.{place, comes_before, changed, all_changed, CanFollow, InTurn, InOrder, AreEntries}
use Rattle.store_manifest.specs.Manifest.{IsLong}
use Rattle.store_manifest.specs.Numbers.{IsSized, HasSizes}
use Rattle.store_manifest.proofs.Bytes.{length_members}
use Rattle.store_manifest.proofs.Changes.{put_end}

abbrev sets : List Entry → List Change
sets es = map (λ (e : Entry). Set e) es

-- what holds behind a front holds of the next one
at_mid : (P : Entry → Type 0) (xs ys : List Entry) (y : Entry) → AllByRecursion P (xs ++ (y ∷ ys)) → P y
at_mid P [] ys y all = all.0
at_mid P (x ∷ xs) ys y all = at_mid P xs ys y all.1

-- all of a front come before the one behind it
ahead : (xs ys : List Entry) (y : Entry) → InOrder (xs ++ (y ∷ ys)) → list_all (λ x. comes_before (place x) (place y)) xs ≡ true
ahead [] ys y order = refl
ahead (x ∷ xs) ys y order =
    ap (λ (b : Bool). b && list_all (λ z. comes_before (place z) (place y)) xs) (at_mid (λ d. comes_before (place x) (place d) ≡ true) xs ys y order.0) ∙ ahead xs ys y order.1

-- entries in order are set one behind another
built : (xs ys : List Entry) → InOrder (xs ++ ys) → all_changed xs (sets ys) ≡ xs ++ ys
built xs [] order = sym (append-nil xs)
built xs (y ∷ ys) order =
    let next = put_end y xs (ahead xs ys y order) in
    let whole_is : (xs ++ y ∷ []) ++ ys ≡ xs ++ (y ∷ ys) = append_assoc xs (y ∷ []) ys in
    let P : List Entry → Type 0 = λ l. InOrder l in
    ap (λ (l : List Entry). all_changed l (sets ys)) (sym next) ∙ built (xs ++ y ∷ []) ys (subst P (sym whole_is) order) ∙ whole_is

all_set : (es : List Entry) → AllByRecursion IsSet (sets es)
all_set [] = tt
all_set (e ∷ es) = (tt, all_set es)

follow : (g : Granularity) (xs es : List Entry) → AllByRecursion IsSized es → AllByRecursion (λ e. IsPart g e.part) es → InTurn (λ l c. HasSizes c × CanFollow g l c) xs (sets es)
follow g xs [] sizes parts = tt
follow g xs (e ∷ es) sizes parts = ((sizes.0, parts.0), follow g (changed xs (Set e)) es sizes.1 parts.1)

pub whole_lists : (g : Granularity) (es : List Entry) → AreEntries g es → All IsSized es → Configured g (whole g es ∷ []) es
whole_lists g es are sized =
    let made : Makes g [] (batch_of (sets es)) es = record {
      changes = sets es;
      bytes_are = refl;
      follow = follow g [] es (recursion_from_All IsSized es sized) (recursion_from_All (λ e. IsPart g e.part) es are.parts);
      next_is = sym (built [] es are.in_order);
    } in
    let begins : Begins g (whole g es) es = (batch_of (sets es), refl, (made, all_set es)) in (es, begins, refl)

sets_length : (es : List Entry) → length (batch_of (sets es)) ≡ 49 * length es
sets_length [] = refl
sets_length (e ∷ es) = omega (arith, length-append (encoded (Set e)) (batch_of (sets es)), length_members e, sets_length es)

pub whole_length : (g : Granularity) (es : List Entry) → length (whole g es) ≡ 2 + 49 * length es
whole_length g es = omega (arith, length-append (config g) (batch_of (sets es)), sets_length es)

-- whether a journal is long by the batch or by the entries
pub long_so : (g : Granularity) (es all : List Entry) (len place : ℕ) → all ≡ es → len ≡ place + 1 → IsLong (place + 1) (length (whole g es)) → IsLong len (2 + 49 * length all)
long_so g es all len place same is long =
    let size = whole_length g es ∙ ap (λ (l : List Entry). 2 + 49 * length l) (sym same) in
    let P : ℕ → Type 0 = λ n. IsLong (place + 1) n in
    let Q : ℕ → Type 0 = λ n. IsLong n (2 + 49 * length all) in subst Q (sym is) (subst P size long)

pub so_long : (g : Granularity) (es all : List Entry) (len place : ℕ) → all ≡ es → len ≡ place + 1 → IsLong len (2 + 49 * length all) → IsLong (place + 1) (length (whole g es))
so_long g es all len place same is long =
    let size = whole_length g es ∙ ap (λ (l : List Entry). 2 + 49 * length l) (sym same) in
    let P : ℕ → Type 0 = λ n. IsLong (place + 1) n in
    let Q : ℕ → Type 0 = λ n. IsLong n (2 + 49 * length all) in subst P (sym size) (subst Q is long)

-- one entry more
batch_end : (xs : List Change) (c : Change) → batch_of (xs ++ c ∷ []) ≡ batch_of xs ++ encoded c
batch_end [] c = append-nil (encoded c)
batch_end (x ∷ xs) c = ap (λ (l : List ℕ). encoded x ++ l) (batch_end xs c) ∙ sym (append_assoc (encoded x) (batch_of xs) (encoded c))

sets_end : (es : List Entry) (e : Entry) → sets (es ++ e ∷ []) ≡ sets es ++ Set e ∷ []
sets_end [] e = refl
sets_end (x ∷ es) e = ap (λ (l : List Change). Set x ∷ l) (sets_end es e)

pub whole_more : (g : Granularity) (es : List Entry) (e : Entry) → whole g (es ++ e ∷ []) ≡ whole g es ++ encoded (Set e)
whole_more g es e =
    ap (λ (l : List ℕ). config g ++ l) (ap batch_of (sets_end es e) ∙ batch_end (sets es) (Set e)) ∙ sym (append_assoc (config g) (batch_of (sets es)) (encoded (Set e)))

pub whole_next : (g : Granularity) (es : List Entry) (i : ℕ) (e : Entry) (old new : List ℕ) → i < length es → e ≡ get_or es i e → old ≡ whole g (take i es) → new ≡ old ++ encoded (Set e) → new ≡ whole g (take (i + 1) es)
whole_next g es i e old new below at was more =
    more
    ∙ ap (λ (l : List ℕ). l ++ encoded (Set e)) was
    ∙ sym (whole_more g (take i es) e)
    ∙ ap (λ (l : List Entry). whole g l) (ap (λ (x : Entry). take i es ++ x ∷ []) at ∙ sym (take_more es i e below))
