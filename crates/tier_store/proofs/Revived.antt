-- What a flush beside files in limbo makes of the samples of a row. Where no file of store 1 is in limbo it is one of what is listed alone.
use Rattle.std.proofs.Common.{◌≡◌, ◌⊎◌, inl, inr, ℕ, zero, suc, ◌<◌, ◌≤◌, Bool, true, false, cond, List, [], ◌∷◌, ◌++◌, length, drop, get_or, refl, sym, ◌∙◌, ap, subst, arith, append-nil, append_assoc, Option, None, Some, ◌+◌}
use Rattle.std.specs.Prelude.{nat_eq, nat_le, nat_lt, ◌&&◌, All, Contains, IsTrue, slice_get}
use Rattle.std.specs.List.{AllByRecursion}
use Rattle.std.proofs.Math.Seq.{drop-append_seam}
use Rattle.std.proofs.lemmas.Bool.{cases_lt}
use Rattle.std.proofs.lemmas.Bool.Decides.{nat_tests}
use Rattle.std.proofs.lemmas.List.{append_cancel_left, length-append}
use Rattle.std.proofs.lemmas.List.Concat.{flat_map-append}
use Rattle.std.proofs.lemmas.List.Elements.{All-append, All-contains, All-filter, All-from_recursion, All-head, All-tail, Contains-append_right, Contains-get_or, filter_passes, recursion_from_All}
use Rattle.std.proofs.lemmas.Option.{same_Some}
use Rattle.partition_names.specs.declared.granularity.Granularity.{Granularity}
use Rattle.partition_names.specs.declared.part.Part.{Part}
use Rattle.partition_names.specs.Part.{HoldsMoment}
use Rattle.partition_names.proofs.PartLemmas.{one_part, within}
use Rattle.pb_lines.specs.File.{lines_of}
use Rattle.pb_lines.proofs.FileLines.{lines_of-append}
use Rattle.pv_catalog.specs.Catalogue.{CatalogueState}
use Rattle.pv_catalog.specs.declared.row.Row.{Row}
use Rattle.series_model.specs.Series.{over, since, end_of}
use Rattle.series_model.specs.declared.batch.RowSamples.{RowSamples}
use Rattle.series_model.specs.declared.sample.Sample.{Sample}
use Rattle.store_manifest.specs.Entries.{Place, put}
use Rattle.store_manifest.specs.Manifest.{ManifestState}
use Rattle.durable_write.specs.Flush.{EndsRow, HasHeaderOf, PlacesRise, file_at, put_all, with_batch, IsFlushed, with_files}
use Rattle.durable_write.specs.Held.{Filed, Held, IsFiled, filed_at, samples_of, count_of}
use Rattle.durable_write.specs.Plan.{of_row}
use Rattle.durable_write.specs.Revival.{AreUnlisted}
use Rattle.durable_write.proofs.Places.{Comes, all_put, all_put_all, found, rise_filter, rise_put_all, later, put_other, put_own, sooner}
use Rattle.durable_write.proofs.Written.{listed_stays, one_of_place, put_all_new, put_all_one}
use Rattle.durable_write.proofs.Planning.{of_files}
use Rattle.tier_store.specs.Change.{IsKnown, EndsFrom, HoldsBy, Changes, Flushes, flushing}
use Rattle.tier_store.specs.Revival.{AreWhole, FlushesOver, samples_at, revived, fresh, IsOfLimbo, CountsOver, flushing_over}
use Rattle.tier_store.specs.Seen.{Seen, granularities}
use Rattle.tier_store.specs.Stores.{Stores, tier}
use Rattle.tier_store.specs.declared.limbo.Retired.{Retired}
use Rattle.tier_store.proofs.Places.{granularity_at, manifest_at}
use Rattle.tier_store.proofs.Showing.{contains_filter}
use Rattle.disk_model.specs.Files.{Files}
use Rattle.disk_model.proofs.Passing.{passes_weaker}
use Rattle.durable_write.specs.Ends.{End, Done, Refused, Failed, Spent}
use Rattle.tier_store.specs.Given.{ChangesGiven}
use Rattle.tier_store.specs.Pinned.{NoneOf}

-- THE FILES OF A ROW

-- those before the first of others
abbrev pub cut : List Filed → List Filed → List Filed
cut [] xs = xs
cut (f ∷ fs) xs = sooner f.entry.part.start xs

sooner_same : (n : ℕ) (xs : List Filed) → AllByRecursion (λ (k : Filed). k.entry.part.start < n) xs → sooner n xs ≡ xs
sooner_same n [] all = refl
sooner_same n (x ∷ xs) all =
    let lt : x.entry.part.start < n = all.0 in
    let test : nat_lt x.entry.part.start n ≡ true = grind (arith, nat_tests, lt) in
    rw test (ap (λ (l : List Filed). x ∷ l) (sooner_same n xs all.1))

later_none : (n : ℕ) (xs : List Filed) → AllByRecursion (λ (k : Filed). k.entry.part.start ≤ n) xs → later n xs ≡ []
later_none n [] all = refl
later_none n (x ∷ xs) all =
    let le : x.entry.part.start ≤ n = all.0 in
    let test : nat_lt n x.entry.part.start ≡ false = grind (arith, nat_tests, le) in
    rw test (later_none n xs all.1)

-- files that start before n, and another that does, all start before any m behind
sooner_all : (n m : ℕ) (xs : List Filed) (w : Filed) → w.entry.part.start ≡ n → n < m → AllByRecursion (λ (k : Filed). k.entry.part.start < m) (sooner n xs ++ w ∷ [])
sooner_all n m [] w start lt = (omega (arith, start, lt), tt)
sooner_all n m (x ∷ xs) w start lt = by_test (nat_lt x.entry.part.start n) refl (sooner_all n m xs w start lt)
  where
    by_test : (b : Bool) → nat_lt x.entry.part.start n ≡ b → AllByRecursion (λ (k : Filed). k.entry.part.start < m) (sooner n xs ++ w ∷ []) → AllByRecursion (λ (k : Filed). k.entry.part.start < m) (cond b (x ∷ sooner n xs) (sooner n xs) ++ w ∷ [])
    by_test true is rest = (let less : x.entry.part.start < n = grind (arith, nat_tests, is) in omega (arith, less, lt), rest)
    by_test false is rest = rest

-- of the row all start no later than n, where all of the row do
pub row_within : (row n : ℕ) (xs : List Filed) → All (λ (k : Filed). k.entry.series ≡ row → k.entry.part.start ≤ n) xs → AllByRecursion (λ (k : Filed). k.entry.part.start ≤ n) (of_row row xs)
row_within row n [] all = tt
row_within row n (x ∷ xs) all = by_test (nat_eq x.entry.series row) refl (row_within row n xs (All-tail (λ (k : Filed). k.entry.series ≡ row → k.entry.part.start ≤ n) x xs all))
  where
    first : x.entry.series ≡ row → x.entry.part.start ≤ n
    first = All-head (λ (k : Filed). k.entry.series ≡ row → k.entry.part.start ≤ n) x xs all

    by_test : (b : Bool) → nat_eq x.entry.series row ≡ b → AllByRecursion (λ (k : Filed). k.entry.part.start ≤ n) (of_row row xs) → AllByRecursion (λ (k : Filed). k.entry.part.start ≤ n) (cond b (x ∷ of_row row xs) (of_row row xs))
    by_test true is rest = (first (grind (arith, nat_tests, is)), rest)
    by_test false is rest = rest

-- files of one row, of which the first is behind w
cut_behind : (row : ℕ) (w : Filed) (fs xs : List Filed) → w.entry.series ≡ row → All (Comes w) fs → cut (of_row row fs) (sooner w.entry.part.start xs ++ w ∷ []) ≡ sooner w.entry.part.start xs ++ w ∷ []
cut_behind row w [] xs own before = refl
cut_behind row w (f ∷ fs) xs own before = by_test (nat_eq f.entry.series row) refl (cut_behind row w fs xs own (All-tail (Comes w) f fs before))
  where
    first : Comes w f
    first = All-head (Comes w) f fs before

    by_test : (b : Bool) → nat_eq f.entry.series row ≡ b → cut (of_row row fs) (sooner w.entry.part.start xs ++ w ∷ []) ≡ sooner w.entry.part.start xs ++ w ∷ [] → cut (cond b (f ∷ of_row row fs) (of_row row fs)) (sooner w.entry.part.start xs ++ w ∷ []) ≡ sooner w.entry.part.start xs ++ w ∷ []
    by_test true is rest =
        let lt : w.entry.part.start < f.entry.part.start = grind (arith, nat_tests, is, own, first) in
        sooner_same f.entry.part.start (sooner w.entry.part.start xs ++ w ∷ []) (sooner_all w.entry.part.start f.entry.part.start xs w refl lt)
    by_test false is rest = rest

-- files that end their rows stand behind those before them
pub row_put_all : (row : ℕ) (fs xs : List Filed) → PlacesRise fs → All (EndsRow xs) fs → of_row row (put_all xs fs) ≡ cut (of_row row fs) (of_row row xs) ++ of_row row fs
row_put_all row [] xs rise ends = sym (append-nil (of_row row xs))
row_put_all row (w ∷ fs) xs rise ends = by_test (nat_eq w.entry.series row) refl (row_put_all row fs (put filed_at w xs) rise.1 ends_then)
  where
    ends_then : All (EndsRow (put filed_at w xs)) fs
    ends_then k d lt =
        let v : Filed = get_or fs k d in
        let before : Comes w v = rise.0 k d lt in
        all_put (λ (k : Filed). k.entry.series ≡ v.entry.series → k.entry.part.start ≤ v.entry.part.start) filed_at w xs (All-tail (EndsRow xs) w fs ends k d lt) (λ same. grind (arith, nat_tests, before, same))

    by_test : (b : Bool) → nat_eq w.entry.series row ≡ b → of_row row (put_all (put filed_at w xs) fs) ≡ cut (of_row row fs) (of_row row (put filed_at w xs)) ++ of_row row fs
        → of_row row (put_all (put filed_at w xs) fs) ≡ cut (cond b (w ∷ of_row row fs) (of_row row fs)) (of_row row xs) ++ cond b (w ∷ of_row row fs) (of_row row fs)
    by_test true is rest =
        let own : w.entry.series ≡ row = grind (arith, nat_tests, is) in
        let all : All (λ (k : Filed). k.entry.series ≡ row → k.entry.part.start ≤ w.entry.part.start) xs = subst (λ (r : ℕ). All (λ (k : Filed). k.entry.series ≡ r → k.entry.part.start ≤ w.entry.part.start) xs) own (All-head (EndsRow xs) w fs ends) in
        let now : of_row row (put filed_at w xs) ≡ sooner w.entry.part.start (of_row row xs) ++ w ∷ [] = put_own row w xs own ∙ ap (λ (l : List Filed). sooner w.entry.part.start (of_row row xs) ++ (w ∷ l)) (later_none w.entry.part.start (of_row row xs) (row_within row w.entry.part.start xs all)) in
        rest
        ∙ (ap (λ (l : List Filed). cut (of_row row fs) l ++ of_row row fs) now
        ∙ (ap (λ (l : List Filed). l ++ of_row row fs) (cut_behind row w fs (of_row row xs) own rise.0) ∙ append_assoc (sooner w.entry.part.start (of_row row xs)) (w ∷ []) (of_row row fs)))
    by_test false is rest = rest ∙ ap (λ (l : List Filed). cut (of_row row fs) l ++ of_row row fs) (put_other row w xs (λ same. absurd (let test : nat_eq w.entry.series row ≡ true = grind (arith, nat_tests, same) in cc (test, is))))

-- of rising files of one row that start no later than n, all start before it, or the last alone starts there
pub split : (row n : ℕ) (ys : List Filed) → PlacesRise ys → All (λ (k : Filed). nat_eq k.entry.series row ≡ true) ys → AllByRecursion (λ (k : Filed). k.entry.part.start ≤ n) ys
    → ((sooner n ys ≡ ys) × AllByRecursion (λ (k : Filed). k.entry.part.start < n) ys) ⊎ ((x : Filed) × (x.entry.part.start ≡ n) × Contains ys x × (ys ≡ sooner n ys ++ x ∷ []))
split row n [] rise own all = inl (refl, tt)
split row n (y ∷ ys) rise own all = by_test (nat_lt y.entry.part.start n) refl (split row n ys rise.1 (All-tail (λ (k : Filed). nat_eq k.entry.series row ≡ true) y ys own) all.1)
  where
    -- nothing stands behind one that starts at n
    alone : (zs : List Filed) → n ≤ y.entry.part.start → All (Comes y) zs → All (λ (k : Filed). nat_eq k.entry.series row ≡ true) zs → AllByRecursion (λ (k : Filed). k.entry.part.start ≤ n) zs → zs ≡ []
    alone [] ge before own all = refl
    alone (z ∷ zs) ge before own_zs all_zs =
        let first : Comes y z = All-head (Comes y) z zs before in
        let mine : nat_eq y.entry.series row ≡ true = All-head (λ (k : Filed). nat_eq k.entry.series row ≡ true) y ys own in
        let its : nat_eq z.entry.series row ≡ true = All-head (λ (k : Filed). nat_eq k.entry.series row ≡ true) z zs own_zs in
        let lt : y.entry.part.start < z.entry.part.start = grind (arith, nat_tests, first, mine, its) in
        let le = all_zs.0 in
        absurd (omega (arith, lt, le, ge))

    by_test : (b : Bool) → nat_lt y.entry.part.start n ≡ b → ((sooner n ys ≡ ys) × AllByRecursion (λ (k : Filed). k.entry.part.start < n) ys) ⊎ ((x : Filed) × (x.entry.part.start ≡ n) × Contains ys x × (ys ≡ sooner n ys ++ x ∷ []))
        → ((cond b (y ∷ sooner n ys) (sooner n ys) ≡ y ∷ ys) × AllByRecursion (λ (k : Filed). k.entry.part.start < n) (y ∷ ys)) ⊎ ((x : Filed) × (x.entry.part.start ≡ n) × Contains (y ∷ ys) x × (y ∷ ys ≡ cond b (y ∷ sooner n ys) (sooner n ys) ++ x ∷ []))
    by_test true is (inl rest) = inl (ap (λ (l : List Filed). y ∷ l) rest.0, (grind (arith, nat_tests, is), rest.1))
    by_test true is (inr (x, start, (k, low, at), are)) = inr (x, start, (suc k, omega (arith, low), at), ap (λ (l : List Filed). y ∷ l) are)
    by_test false is rest =
        let ge : n ≤ y.entry.part.start = grind (arith, nat_tests, is) in
        let le = all.0 in
        let none : ys ≡ [] = alone ys ge rise.0 (All-tail (λ (k : Filed). nat_eq k.entry.series row ≡ true) y ys own) all.1 in
        inr (y, omega (arith, ge, le), (0, omega arith, refl), ap (λ (l : List Filed). y ∷ l) none ∙ ap (λ (l : List Filed). sooner n l ++ y ∷ []) (sym none))

-- LISTS OF SAMPLES

-- what a batch makes of samples begins with them
batch_front : (row : ℕ) (xs : List Sample) (batch : List RowSamples) → (more : List Sample) × (with_batch row xs batch ≡ xs ++ more)
batch_front row xs [] = ([], sym (append-nil xs))
batch_front row xs (p ∷ ps) = by_test (nat_eq p.row row) (batch_front row (over xs p.samples) ps) (batch_front row xs ps)
  where
    by_test : (b : Bool) → (more : List Sample) × (with_batch row (over xs p.samples) ps ≡ over xs p.samples ++ more) → (more : List Sample) × (with_batch row xs ps ≡ xs ++ more) → (more : List Sample) × (with_batch row (cond b (over xs p.samples) xs) ps ≡ xs ++ more)
    by_test true its rest = (since (end_of xs) p.samples ++ its.0, its.1 ∙ append_assoc xs (since (end_of xs) p.samples) its.0)
    by_test false its rest = rest

-- of two fronts of one list the longer begins with the shorter
pub longer_front : (xs ys us vs : List Sample) → xs ++ us ≡ ys ++ vs → length ys ≤ length xs → (rest : List Sample) × (xs ≡ ys ++ rest)
longer_front xs [] us vs is le = (xs, refl)
longer_front [] (y ∷ ys) us vs is le = absurd (omega (arith, le))
longer_front (x ∷ xs) (y ∷ ys) us vs is le =
    let head : x ≡ y = cc in
    let tail : xs ++ us ≡ ys ++ vs = cc in
    let rest = longer_front xs ys us vs tail (omega (arith, le)) in
    (rest.0, ap (λ (l : List Sample). x ∷ l) rest.1 ∙ ap (λ (z : Sample). z ∷ (ys ++ rest.0)) head)

pub lines_within : (xs rest : List Sample) → length (lines_of xs) ≤ length (lines_of (xs ++ rest))
lines_within xs rest = omega (arith, ap length (lines_of-append xs rest), length-append (lines_of xs) (lines_of rest))

-- A FILE BY ITS MOMENT

abbrev holds_at : Filed → ℕ → ℕ → Bool
holds_at f row t = nat_eq f.entry.series row && (nat_le f.entry.part.start t && nat_lt t f.entry.part.end)

holds_true : (f : Filed) (row t : ℕ) → holds_at f row t ≡ true → (f.entry.series ≡ row) × HoldsMoment f.entry.part t
holds_true f row t is = (grind (arith, nat_tests, is), (grind (arith, nat_tests, is), grind (arith, nat_tests, is)))

true_holds : (f : Filed) (row t : ℕ) → f.entry.series ≡ row → f.entry.part.start ≤ t → t < f.entry.part.end → holds_at f row t ≡ true
true_holds f row t own from to = grind (arith, nat_tests, own, from, to)

pub none_at : (limbo : List Filed) (row t : ℕ) → ((l : Filed) → Contains limbo l → l.entry.series ≡ row → HoldsMoment l.entry.part t → ⊥) → samples_at limbo row t ≡ []
none_at [] row t none = refl
none_at (l ∷ limbo) row t none = by_test (holds_at l row t) refl (none_at limbo row t (λ x within. none x (let k = within.0 in let low = within.1 in (suc k, omega (arith, low), within.2))))
  where
    by_test : (b : Bool) → holds_at l row t ≡ b → samples_at limbo row t ≡ [] → cond b l.samples (samples_at limbo row t) ≡ []
    by_test true is rest = let holds = holds_true l row t is in absurd (none l (0, omega arith, refl) holds.0 holds.1)
    by_test false is rest = rest

pub found_at : (limbo : List Filed) (row t : ℕ) (x : Filed) → Contains limbo x → x.entry.series ≡ row → HoldsMoment x.entry.part t → ((l : Filed) → Contains limbo l → l.entry.series ≡ row → HoldsMoment l.entry.part t → l ≡ x) → samples_at limbo row t ≡ x.samples
found_at [] row t x (k, low, is) own holds one = absurd (omega (arith, low))
found_at (l ∷ limbo) row t x within own holds one = by_test (holds_at l row t) refl within (λ there. found_at limbo row t x there own holds (λ y there_y. one y (let k = there_y.0 in let low = there_y.1 in (suc k, omega (arith, low), there_y.2))))
  where
    by_test : (b : Bool) → holds_at l row t ≡ b → Contains (l ∷ limbo) x → (Contains limbo x → samples_at limbo row t ≡ x.samples) → cond b l.samples (samples_at limbo row t) ≡ x.samples
    by_test true is within rest = let holds_l = holds_true l row t is in ap (λ (f : Filed). f.samples) (one l (0, omega arith, refl) holds_l.0 holds_l.1)
    by_test false is (zero, low, at) rest = absurd (let yes : holds_at x row t ≡ true = true_holds x row t own holds.0 holds.1 in let no : holds_at x row t ≡ false = ap (λ (f : Filed). holds_at f row t) (sym at) ∙ is in cc (yes, no))
    by_test false is (suc k, low, at) rest = rest (k, omega (arith, low), at)

-- what is true of all is true of those behind
all_behind : (P : Sample → Type 0) (xs ys : List Sample) → All P (xs ++ ys) → All P ys
all_behind P [] ys all = all
all_behind P (x ∷ xs) ys all = all_behind P xs ys (All-tail P x (xs ++ ys) all)

-- what is true of the samples of each file is true of all their samples
all_of_files : (P : Sample → Type 0) (fs : List Filed) → AllByRecursion (λ (f : Filed). All P f.samples) fs → All P (of_files fs)
all_of_files P [] all = λ k d lt. absurd (omega (arith, lt))
all_of_files P (f ∷ fs) all = All-append P f.samples (of_files fs) all.0 (all_of_files P fs all.1)

-- where none of limbo is of the first of the samples, nothing comes back
pub none_revived : (limbo : List Filed) (row : ℕ) (samples : List Sample) → All (λ (s : Sample). samples_at limbo row s.t ≡ []) samples → revived limbo row samples ≡ []
none_revived limbo row [] none = refl
none_revived limbo row (s ∷ samples) none = All-head (λ (x : Sample). samples_at limbo row x.t ≡ []) s samples none

-- THE FLUSH

-- a row's files are of all files, and of the row
pub in_row : (row : ℕ) (xs : List Filed) (f : Filed) → Contains (of_row row xs) f → Contains xs f × (f.entry.series ≡ row)
in_row row xs f within = (
  All-contains (Contains xs) (of_row row xs) f (All-filter (λ (x : Filed). nat_eq x.entry.series row) (Contains xs) xs (λ k d lt. Contains-get_or xs k d lt)) within,
  (let test : nat_eq f.entry.series row ≡ true = All-contains (λ (x : Filed). nat_eq x.entry.series row ≡ true) (of_row row xs) f (filter_passes (λ (x : Filed). nat_eq x.entry.series row) xs) within in grind (arith, nat_tests, test)),
)

pub own_split : (row : ℕ) (xs : List Filed) (n : ℕ) → PlacesRise xs → All (λ (k : Filed). k.entry.series ≡ row → k.entry.part.start ≤ n) xs
    → ((sooner n (of_row row xs) ≡ of_row row xs) × AllByRecursion (λ (k : Filed). k.entry.part.start < n) (of_row row xs)) ⊎ ((x : Filed) × (x.entry.part.start ≡ n) × Contains (of_row row xs) x × (of_row row xs ≡ sooner n (of_row row xs) ++ x ∷ []))
own_split row xs n rise all = split row n (of_row row xs) (rise_filter (λ (x : Filed). nat_eq x.entry.series row) xs rise) (filter_passes (λ (x : Filed). nat_eq x.entry.series row) xs) (row_within row n xs all)

-- what is known of a row's files, in the store and in limbo, and of what is written of it
record IsOver (g : Granularity) (rows : List Row) (listed limbo written : List Filed) (row : ℕ) (batch : List RowSamples) : Type 0 where
  rise : PlacesRise listed
  limbo_are : All (IsFiled g rows) limbo
  written_are : All (IsFiled g rows) written
  unlisted : AreUnlisted listed limbo
  one : (f h : Filed) → Contains limbo f → Contains limbo h → filed_at h ≡ filed_at f → h ≡ f
  rises : PlacesRise written
  ends : All (EndsRow (put_all listed limbo)) written
  longer : All (λ (f : Filed). (old : Filed) → file_at (filed_at f) (put_all listed limbo) ≡ Some old → old.entry.len < f.entry.len) written
  heads : All (λ (f : Filed). (old : Filed) → file_at (filed_at f) (put_all listed limbo) ≡ Some old → f.head ≡ old.head) written
  samples : samples_of row (put_all (put_all listed limbo) written) ≡ with_batch row (samples_of row (put_all listed limbo)) batch

module _ (g : Granularity) (rows : List Row) (listed limbo written : List Filed) (row : ℕ) (batch : List RowSamples) (is_over : IsOver g rows listed limbo written row batch) where
  abbrev both : List Filed
  both = put_all listed limbo

  both_rise : PlacesRise both
  both_rise = rise_put_all listed limbo is_over.rise

  of_its_row : (xs : List Filed) (f : Filed) → Contains xs f → f.entry.series ≡ row → Contains (of_row row xs) f
  of_its_row xs f within own = contains_filter (λ (x : Filed). nat_eq x.entry.series row) xs f within (grind (arith, nat_tests, own))

  listed_in : (f : Filed) → Contains listed f → Contains both f
  listed_in f within = listed_stays listed limbo f is_over.rise is_over.unlisted within

  limbo_in : (f : Filed) → Contains limbo f → Contains both f
  limbo_in f within = put_all_one limbo listed f (λ k d lt same. is_over.one f (get_or limbo k d) within (Contains-get_or limbo k d lt) same) (inr within)

  in_either : (f : Filed) → Contains both f → Contains listed f ⊎ Contains limbo f
  in_either f within =
      All-contains (λ (x : Filed). Contains listed x ⊎ Contains limbo x) both f
      (all_put_all (λ (x : Filed). Contains listed x ⊎ Contains limbo x) listed limbo (λ k d lt. inl (Contains-get_or listed k d lt)) (λ k d lt. inr (Contains-get_or limbo k d lt))) within

  -- nothing is listed where one is in limbo
  apart : (x l : Filed) → Contains listed x → Contains limbo l → filed_at x ≡ filed_at l → ⊥
  apart x l x_in l_in same =
      let here : file_at (filed_at x) listed ≡ Some x = All-contains (λ (y : Filed). file_at (filed_at y) listed ≡ Some y) listed x (found listed is_over.rise) x_in in
      let none : file_at (filed_at l) listed ≡ None = All-contains (λ (y : Filed). file_at (filed_at y) listed ≡ None) limbo l is_over.unlisted l_in in
      let none_too : file_at (filed_at x) listed ≡ None = ap (λ (p : Place). file_at p listed) same ∙ none in
      cc (here, none_too)

  same_at : (x l : Filed) → x.entry.series ≡ l.entry.series → x.entry.part.start ≡ l.entry.part.start → filed_at x ≡ filed_at l
  same_at x l series start = λ i. (series i, start i)

  -- partitions that start at one moment are one
  one_start : (x f : Filed) → IsFiled g rows x → IsFiled g rows f → x.entry.part.start ≡ f.entry.part.start → x.entry.part ≡ f.entry.part
  one_start x f x_is f_is start =
      let mine = within g x.entry.part x_is.part in
      let its = within g f.entry.part f_is.part in
      one_part g x.entry.part f.entry.part x.entry.part.start x_is.part f_is.part (omega arith, mine.1) (omega (arith, start), omega (arith, its.1, start))

  abbrev all_files : List Filed
  all_files = of_row row both

  abbrev listed_files : List Filed
  listed_files = of_row row listed

  abbrev all_samples : List Sample
  all_samples = samples_of row both

  abbrev more : List Sample
  more = (batch_front row all_samples batch).0

  front_is : with_batch row all_samples batch ≡ all_samples ++ more
  front_is = (batch_front row all_samples batch).1

  fresh_is : fresh row all_samples batch ≡ more
  fresh_is = ap (drop (length all_samples)) front_is ∙ drop-append_seam all_samples more

  full_is : (fs : List Filed) → of_row row written ≡ fs → of_files (cut fs all_files) ++ of_files fs ≡ all_samples ++ more
  full_is fs are =
      subst (λ (l : List Filed). of_files (cut l all_files) ++ of_files l ≡ all_samples ++ more) are
      (sym (flat_map-append (λ (f : Filed). f.samples) (cut (of_row row written) all_files) (of_row row written)) ∙ (ap of_files (sym (row_put_all row written both is_over.rises is_over.ends)) ∙ (is_over.samples ∙ front_is)))

  ends_listed : All (EndsRow listed) written
  ends_listed k d lt i e low = All-contains (λ (x : Filed). x.entry.series ≡ (get_or written k d).entry.series → x.entry.part.start ≤ (get_or written k d).entry.part.start) both (get_or listed i e) (is_over.ends k d lt) (listed_in (get_or listed i e) (Contains-get_or listed i e low))

  new_is : (fs : List Filed) → of_row row written ≡ fs → samples_of row (put_all listed written) ≡ of_files (cut fs listed_files) ++ of_files fs
  new_is fs are =
      subst (λ (l : List Filed). samples_of row (put_all listed written) ≡ of_files (cut l listed_files) ++ of_files l) are
      (ap of_files (row_put_all row written listed is_over.rises ends_listed) ∙ flat_map-append (λ (f : Filed). f.samples) (cut (of_row row written) listed_files) (of_row row written))

  abbrev IsAdded : Type 0
  IsAdded = samples_of row (put_all listed written) ≡ of_files listed_files ++ (revived limbo row more ++ more)

  -- the samples in front of a row's last file, and its own
  last_samples : (n : ℕ) (ys : List Filed) (x : Filed) → ys ≡ sooner n ys ++ x ∷ [] → of_files ys ≡ of_files (sooner n ys) ++ x.samples
  last_samples n ys x are = ap of_files are ∙ (flat_map-append (λ (f : Filed). f.samples) (sooner n ys) (x ∷ []) ∙ ap (λ (l : List Sample). of_files (sooner n ys) ++ l) (append-nil x.samples))

  module _ (f : Filed) (fs : List Filed) (are : of_row row written ≡ f ∷ fs) where
    abbrev n : ℕ
    n = f.entry.part.start

    F_in : (k : Filed) → Contains (f ∷ fs) k → Contains written k × (k.entry.series ≡ row)
    F_in k within = in_row row written k (subst (λ (l : List Filed). Contains l k) (sym are) within)

    f_in : Contains written f × (f.entry.series ≡ row)
    f_in = F_in f (0, omega arith, refl)

    f_is : IsFiled g rows f
    f_is = All-contains (IsFiled g rows) written f is_over.written_are f_in.0

    up_to : All (λ (k : Filed). k.entry.series ≡ row → k.entry.part.start ≤ n) both
    up_to = subst (λ (r : ℕ). All (λ (k : Filed). k.entry.series ≡ r → k.entry.part.start ≤ n) both) f_in.1 (All-contains (EndsRow both) written f is_over.ends f_in.0)

    listed_up_to : All (λ (k : Filed). k.entry.series ≡ row → k.entry.part.start ≤ n) listed
    listed_up_to k d lt = All-contains (λ (x : Filed). x.entry.series ≡ row → x.entry.part.start ≤ n) both (get_or listed k d) up_to (listed_in (get_or listed k d) (Contains-get_or listed k d lt))

    -- none of the row's written files starts before the first
    from_first : (k : Filed) → Contains (f ∷ fs) k → n ≤ k.entry.part.start
    from_first k (zero, low, is) = let start = ap (λ (x : Filed). x.entry.part.start) is in omega (arith, start)
    from_first k (suc i, low, is) =
        let rise : PlacesRise (f ∷ fs) = subst PlacesRise are (rise_filter (λ (x : Filed). nat_eq x.entry.series row) written is_over.rises) in
        let before : Comes f k = All-contains (Comes f) fs k rise.0 (i, omega (arith, low), is) in
        let own = f_in.1 in
        let its = (F_in k (suc i, low, is)).1 in
        let lt : f.entry.part.start < k.entry.part.start = grind (arith, nat_tests, before, own, its) in
        omega (arith, lt)

    -- where none in limbo is of the row and starts with the first, none is of any written sample
    none_of : ((l : Filed) → Contains limbo l → l.entry.series ≡ row → l.entry.part.start ≡ n → ⊥) → All (λ (s : Sample). samples_at limbo row s.t ≡ []) (of_files (f ∷ fs))
    none_of none = all_of_files (λ (s : Sample). samples_at limbo row s.t ≡ []) (f ∷ fs) (recursion_from_All (λ (k : Filed). All (λ (s : Sample). samples_at limbo row s.t ≡ []) k.samples) (f ∷ fs) (λ k d lt i e low.
        let x : Filed = get_or (f ∷ fs) k d in
        let there : Contains (f ∷ fs) x = Contains-get_or (f ∷ fs) k d lt in
        let x_is : IsFiled g rows x = All-contains (IsFiled g rows) written x is_over.written_are (F_in x there).0 in
        none_at limbo row (get_or x.samples i e).t (λ l l_in own holds.
        let l_is : IsFiled g rows l = All-contains (IsFiled g rows) limbo l is_over.limbo_are l_in in
        let part : l.entry.part ≡ x.entry.part = one_part g l.entry.part x.entry.part (get_or x.samples i e).t l_is.part x_is.part holds (x_is.inside i e low) in
        let start = ap (λ (p : Part). p.start) part in
        let le = All-contains (λ (y : Filed). y.entry.series ≡ row → y.entry.part.start ≤ n) both l up_to (limbo_in l l_in) own in
        let ge = from_first x there in
        none l l_in own (omega (arith, start, le, ge)))))

    at_none : of_files (f ∷ fs) ≡ more → sooner n listed_files ≡ listed_files → ((l : Filed) → Contains limbo l → l.entry.series ≡ row → l.entry.part.start ≡ n → ⊥) → IsAdded
    at_none is all none =
        new_is (f ∷ fs) are
        ∙ (ap (λ (l : List Filed). of_files l ++ of_files (f ∷ fs)) all
        ∙ (ap (λ (l : List Sample). of_files listed_files ++ l) is
        ∙ ap (λ (l : List Sample). of_files listed_files ++ (l ++ more)) (sym (none_revived limbo row more (subst (λ (l : List Sample). All (λ (s : Sample). samples_at limbo row s.t ≡ []) l) is (none_of none))))))

    module _ (x : Filed) (start : x.entry.part.start ≡ n) (x_in : Contains both x) (own : x.entry.series ≡ row) (B_are : all_files ≡ sooner n all_files ++ x ∷ []) where
      -- the first written file begins with what was there
      begins : of_files (f ∷ fs) ≡ x.samples ++ more
      begins =
          append_cancel_left (of_files (sooner n all_files)) (of_files (f ∷ fs)) (x.samples ++ more)
          (full_is (f ∷ fs) are ∙ (ap (λ (l : List Sample). l ++ more) (last_samples n all_files x B_are) ∙ append_assoc (of_files (sooner n all_files)) x.samples more))

      at_listed : Contains listed x → listed_files ≡ sooner n listed_files ++ x ∷ [] → IsAdded
      at_listed there O_are =
          let none : All (λ (s : Sample). samples_at limbo row s.t ≡ []) (x.samples ++ more) = subst (λ (l : List Sample). All (λ (s : Sample). samples_at limbo row s.t ≡ []) l) begins (none_of (λ l l_in own_l start_l. apart x l there l_in (same_at x l (own ∙ sym own_l) (start ∙ sym start_l)))) in
          new_is (f ∷ fs) are
          ∙ (ap (λ (l : List Sample). of_files (sooner n listed_files) ++ l) begins
          ∙ (sym (append_assoc (of_files (sooner n listed_files)) x.samples more)
          ∙ (ap (λ (l : List Sample). l ++ more) (sym (last_samples n listed_files x O_are))
          ∙ ap (λ (l : List Sample). of_files listed_files ++ (l ++ more)) (sym (none_revived limbo row more (all_behind (λ (s : Sample). samples_at limbo row s.t ≡ []) x.samples more none))))))

      -- it is longer than what was there
      module _ (there : Contains limbo x) where
        x_is : IsFiled g rows x
        x_is = All-contains (IsFiled g rows) limbo x is_over.limbo_are there

        here : file_at (filed_at f) both ≡ Some x
        here = ap (λ (p : Place). file_at p both) (same_at f x (f_in.1 ∙ sym own) (sym start)) ∙ All-contains (λ (y : Filed). file_at (filed_at y) both ≡ Some y) both x (found both both_rise) x_in

        not_within : length f.samples ≤ length x.samples → ⊥
        not_within le =
            let rest = longer_front x.samples f.samples more (of_files fs) (sym begins) le in
            let len : x.entry.len < f.entry.len = All-contains (λ (y : Filed). (old : Filed) → file_at (filed_at y) both ≡ Some old → old.entry.len < y.entry.len) written f is_over.longer f_in.0 x here in
            let head : f.head ≡ x.head = All-contains (λ (y : Filed). (old : Filed) → file_at (filed_at y) both ≡ Some old → y.head ≡ old.head) written f is_over.heads f_in.0 x here in
            let mine = x_is.len in
            let its = f_is.len in
            let heads = ap length head in
            let lines : length (lines_of f.samples) ≤ length (lines_of x.samples) = subst (λ (l : List Sample). length (lines_of f.samples) ≤ length (lines_of l)) (sym rest.1) (lines_within f.samples rest.0) in
            omega (arith, len, mine, its, length-append x.head (10 ∷ lines_of x.samples), length-append f.head (10 ∷ lines_of f.samples), heads, lines)

        comes_back : (rest : List Sample) → f.samples ≡ x.samples ++ rest → length x.samples < length f.samples → revived limbo row (rest ++ of_files fs) ≡ x.samples
        comes_back [] is lt = absurd (omega (arith, ap length is, length-append x.samples [], lt))
        comes_back (s ∷ rest) is lt =
            let s_in : Contains f.samples s = subst (λ (l : List Sample). Contains l s) (sym is) (Contains-append_right x.samples (s ∷ rest) s (0, omega arith, refl)) in
            let holds_f : HoldsMoment f.entry.part s.t = All-contains (λ (y : Sample). HoldsMoment f.entry.part y.t) f.samples s f_is.inside s_in in
            let holds : HoldsMoment x.entry.part s.t = subst (λ (p : Part). HoldsMoment p s.t) (sym (one_start x f x_is f_is start)) holds_f in
            found_at limbo row s.t x there own holds (λ l l_in own_l holds_l.
            let l_is : IsFiled g rows l = All-contains (IsFiled g rows) limbo l is_over.limbo_are l_in in
            let part : l.entry.part ≡ x.entry.part = one_part g l.entry.part x.entry.part s.t l_is.part x_is.part holds_l holds in
            is_over.one x l there l_in (same_at l x (own_l ∙ sym own) (ap (λ (p : Part). p.start) part)))

        at_limbo : sooner n listed_files ≡ listed_files → IsAdded
        at_limbo all = by_length (cases_lt (length x.samples) (length f.samples))
          where
            by_length : (length x.samples < length f.samples) ⊎ (length f.samples ≤ length x.samples) → IsAdded
            by_length (inr le) = absurd (not_within le)
            by_length (inl lt) =
                let rest = longer_front f.samples x.samples (of_files fs) more begins (omega (arith, lt)) in
                let behind : rest.0 ++ of_files fs ≡ more = append_cancel_left x.samples (rest.0 ++ of_files fs) more (sym (append_assoc x.samples rest.0 (of_files fs)) ∙ (ap (λ (l : List Sample). l ++ of_files fs) (sym rest.1) ∙ begins)) in
                let back : revived limbo row more ≡ x.samples = subst (λ (l : List Sample). revived limbo row l ≡ x.samples) behind (comes_back rest.0 rest.1 lt) in
                new_is (f ∷ fs) are
                ∙ (ap (λ (l : List Filed). of_files l ++ of_files (f ∷ fs)) all
                ∙ (ap (λ (l : List Sample). of_files listed_files ++ l) begins
                ∙ ap (λ (l : List Sample). of_files listed_files ++ (l ++ more)) (sym back)))

    added_some : IsAdded
    added_some = go (own_split row both n both_rise up_to) (own_split row listed n is_over.rise listed_up_to)
      where
        go : ((sooner n all_files ≡ all_files) × AllByRecursion (λ (k : Filed). k.entry.part.start < n) all_files) ⊎ ((x : Filed) × (x.entry.part.start ≡ n) × Contains all_files x × (all_files ≡ sooner n all_files ++ x ∷ []))
            → ((sooner n listed_files ≡ listed_files) × AllByRecursion (λ (k : Filed). k.entry.part.start < n) listed_files) ⊎ ((x : Filed) × (x.entry.part.start ≡ n) × Contains listed_files x × (listed_files ≡ sooner n listed_files ++ x ∷ [])) → IsAdded
        go (inl before) (inl all) =
            at_none (append_cancel_left all_samples (of_files (f ∷ fs)) more (ap (λ (l : List Filed). of_files l ++ of_files (f ∷ fs)) (sym before.0) ∙ full_is (f ∷ fs) are)) all.0
            (λ l l_in own start. let lt = All-contains (λ (k : Filed). k.entry.part.start < n) all_files l (All-from_recursion (λ (k : Filed). k.entry.part.start < n) all_files before.1) (of_its_row both l (limbo_in l l_in) own) in absurd (omega (arith, lt, start)))
        go (inl before) (inr (y, start, y_in, y_are)) =
            let of = in_row row listed y y_in in
            let lt = All-contains (λ (k : Filed). k.entry.part.start < n) all_files y (All-from_recursion (λ (k : Filed). k.entry.part.start < n) all_files before.1) (of_its_row both y (listed_in y of.0) of.1) in
            absurd (omega (arith, lt, start))
        go (inr (x, start, x_in, x_are)) (inl all) =
            let of = in_row row both x x_in in
            elim (in_either x of.0) [
              | inl there ↦
                  let lt = All-contains (λ (k : Filed). k.entry.part.start < n) listed_files x (All-from_recursion (λ (k : Filed). k.entry.part.start < n) listed_files all.1) (of_its_row listed x there of.1) in
                  absurd (omega (arith, lt, start))
              | inr there ↦ at_limbo x start of.0 of.1 x_are there all.0
            ]
        go (inr (x, start, x_in, x_are)) (inr (y, start_y, y_in, y_are)) =
            let of = in_row row both x x_in in
            let of_y = in_row row listed y y_in in
            let same : y ≡ x = one_of_place both x y both_rise of.0 (listed_in y of_y.0) (same_at y x (of_y.1 ∙ sym of.1) (start_y ∙ sym start)) in
            at_listed x start of.0 of.1 x_are (subst (Contains listed) same of_y.0) (subst (λ (z : Filed). listed_files ≡ sooner n listed_files ++ z ∷ []) same y_are)

  added : (fs : List Filed) → of_row row written ≡ fs → IsAdded
  added [] are =
      let none : more ≡ [] = sym (append_cancel_left all_samples [] more (full_is [] are)) in
      new_is [] are ∙ subst (λ (l : List Sample). of_files listed_files ++ [] ≡ of_files listed_files ++ (revived limbo row l ++ l)) (sym none) refl
  added (f ∷ fs) are = added_some f fs are

  samples_over : samples_of row (put_all listed written) ≡ of_files listed_files ++ (revived limbo row (fresh row all_samples batch) ++ fresh row all_samples batch)
  samples_over = subst (λ (l : List Sample). samples_of row (put_all listed written) ≡ of_files listed_files ++ (revived limbo row l ++ l)) (sym fresh_is) (added (of_row row written) refl)

-- of stores that are known
pub flush_revives : (tells : Bool) (at : Seen) (later : CatalogueState) (ns : List ManifestState) (limbo : List Retired) (files : List Filed) (batch : List RowSamples) (old new : Stores) → IsKnown at.catalogue at.manifests old → IsKnown later ns new → granularities ns ≡ granularities at.manifests → IsTrue old.stands → AreWhole 0 tells at limbo old.stands files
    → (by : FlushesOver limbo files batch old new) → (row : ℕ) → samples_of row new.short ≡ samples_of row old.short ++ (revived by.back row (fresh row (samples_of row (put_all old.short by.back)) batch) ++ fresh row (samples_of row (put_all old.short by.back)) batch)
flush_revives tells at later ns limbo files batch old new known known_new same_g stands whole by row =
    let m = manifest_at at.manifests 0 (let three = known.three in omega (arith, three)) in
    let n = manifest_at ns 0 (let three = known_new.three in omega (arith, three)) in
    let g = m.0.granularity in
    let same : n.0.granularity ≡ g = same_Some n.0.granularity g (sym (granularity_at ns 0 n.0 n.1) ∙ (ap (λ (gs : List Granularity). slice_get gs 0) same_g ∙ granularity_at at.manifests 0 m.0 m.1)) in
    let rows_are : new.rows ≡ old.rows = ap (λ (s : Stores). s.rows) by.same in
    let stand : IsTrue new.stands = subst IsTrue (sym (ap (λ (s : Stores). s.stands) by.same)) stands in
    let filed_new : All (IsFiled g old.rows) new.short = subst (λ (rows : List Row). All (IsFiled g rows) new.short) rows_are (subst (λ (x : Granularity). All (IsFiled x new.rows) new.short) same ((known_new.each 0 n.0 n.1).valid.filed.filed stand)) in
    let short_is : new.short ≡ put_all old.short by.flushed.written = ap (λ (t : Held). t.files) by.flushed.lists in
    let both = put_all old.short by.back in
    subst (λ (fs : List Filed). samples_of row fs ≡ samples_of row old.short ++ (revived by.back row (fresh row (samples_of row both) batch) ++ fresh row (samples_of row both) batch)) (sym short_is)
    (samples_over g old.rows old.short by.back by.flushed.written row batch (record {
      rise = (known.each 0 m.0 m.1).valid.apart;
      limbo_are = λ k d lt. subst (λ (rows : List Row). IsFiled g rows (get_or by.back k d)) known.rows (All-contains (IsFiled g at.catalogue.rows) files (get_or by.back k d) ((whole.filed m.0 m.1).filed stands) (by.in_limbo.known k d lt));
      written_are = λ k d lt. All-contains (IsFiled g old.rows) new.short (get_or by.flushed.written k d) filed_new (subst (λ (fs : List Filed). Contains fs (get_or by.flushed.written k d)) (sym short_is) (put_all_new by.flushed.written old.short (get_or by.flushed.written k d) by.flushed.rise (Contains-get_or by.flushed.written k d lt)));
      unlisted = by.in_limbo.unlisted;
      one = λ f h f_in h_in same_place. one_of_place files f h whole.rise (All-contains (Contains files) by.back f by.in_limbo.known f_in) (All-contains (Contains files) by.back h by.in_limbo.known h_in) same_place;
      rises = by.flushed.rise;
      ends = by.flushed.ends;
      longer = by.flushed.longer;
      heads = λ k d lt old_file here.
          let f : Filed = get_or by.flushed.written k d in
          let head = All-contains (λ (x : Filed). HasHeaderOf old.rows x (file_at (filed_at x) both)) (put_all both by.flushed.written) f (by.flushed.flushed.headers stands) (put_all_new by.flushed.written both f by.flushed.rise (Contains-get_or by.flushed.written k d lt)) in
          subst (λ (o : Option Filed). HasHeaderOf old.rows f o) here head;
      samples = by.flushed.flushed.samples stands row;
    }))

-- NOTHING IN LIMBO

none_back : (limbo : List Retired) (back : List Filed) → NoneOf 1 limbo → All (λ (f : Filed). IsOfLimbo 0 limbo f.entry) back → back ≡ []
none_back limbo [] none from = refl
none_back limbo (f ∷ back) none from =
    let one = All-head (λ (x : Filed). IsOfLimbo 0 limbo x.entry) f back from in
    absurd (All-contains (λ (r : Retired). r.name.0 ≡ 1 → ⊥) limbo one.file none one.within one.store)

pub plain_by : (limbo : List Retired) (files : List Filed) (batch : List RowSamples) (old new : Stores) → NoneOf 1 limbo → FlushesOver limbo files batch old new → Flushes batch old new
plain_by limbo files batch old new none by =
    let flushed = subst (λ (l : List Filed). IsFlushed (with_files (tier 0 old) l) batch (with_files (with_files (tier 0 old) l) by.flushed.written)) (none_back limbo by.back none by.in_limbo.from) by.flushed.flushed in
    record { same = by.same; flushed = subst (λ (t : Held). IsFlushed (tier 0 old) batch t) (sym by.flushed.lists) flushed }

plain_count : (limbo : List Retired) (files : List Filed) (batch : List RowSamples) (n : ℕ) (old new : Stores) → NoneOf 1 limbo → CountsOver limbo files batch n old new → count_of new.short ≡ count_of old.short + n
plain_count limbo files batch n old new none counts =
    let count = subst (λ (l : List Filed). count_of (put_all (put_all old.short l) counts.over.flushed.written) ≡ count_of (put_all old.short l) + n) (none_back limbo counts.over.back none counts.over.in_limbo.from) counts.count in
    ap (λ (t : Held). count_of t.files) counts.over.flushed.lists ∙ count

-- nothing of a store is in limbo, and that is whole
pub none_whole : (i : ℕ) (tells : Bool) (at : Seen) (limbo : List Retired) (stands : Bool) → NoneOf (i + 1) limbo → AreWhole i tells at limbo stands []
none_whole i tells at limbo stands none = record {
  each = λ k d lt number. absurd (none k d lt number);
  from = λ k d lt. absurd (omega (arith, lt));
  rise = tt;
  filed = λ m here. record { numbered = omega arith; listed = λ k d lt. absurd (omega (arith, lt)); filed = λ is k d lt. absurd (omega (arith, lt)) };
  safe = λ told. record { long = λ k d lt. absurd (omega (arith, lt)); unopened = λ k d lt. absurd (omega (arith, lt)); left = λ image left is k d lt. absurd (omega (arith, lt)) };
}

module _ (tells : Bool) (limbo : List Retired) (files : List Filed) (batch : List RowSamples) (none : NoneOf 1 limbo) where
  plain_ends : (new : Seen) (held : Stores) (end : End ℕ ⊥) → EndsFrom tells (flushing_over limbo files batch) new held end → EndsFrom tells (flushing batch) new held end
  plain_ends new held (Done n) (made, by, says, has) = (made, plain_by limbo files batch held made none by, (λ is. plain_count limbo files batch n held made none (says is)), has)
  plain_ends new held (Refused e) (has, refuses) = absurd refuses
  plain_ends new held Failed (inl has) = inl has
  plain_ends new held Failed (inr (made, by, doubt)) = inr (made, plain_by limbo files batch held made none by, doubt)
  plain_ends new held Spent has = has

  plain_moment : (gs : List Granularity) (held : Stores) (a c : Files) → HoldsBy gs (FlushesOver limbo files batch) held a c → HoldsBy gs (Flushes batch) held a c
  plain_moment gs held a c (inl holds) = inl holds
  plain_moment gs held a c (inr (made, by, holds)) = inr (made, plain_by limbo files batch held made none by, holds)

  pub plain_changes : (P : Stores → Type 0) → ((s : Stores) → P s) → (old new : Seen) (end : End ℕ ⊥) → ChangesGiven P tells (flushing_over limbo files batch) old new end → Changes tells (flushing batch) old new end
  plain_changes P all old new end change = record {
    ends = λ held has. plain_ends new held end (change.ends held has (all held));
    any_moment = λ told held has.
        passes_weaker (HoldsBy (granularities old.manifests) (FlushesOver limbo files batch) held) (HoldsBy (granularities old.manifests) (Flushes batch) held) old.past new.past (change.any_moment told held has (all held))
        (λ a c left step. plain_moment (granularities old.manifests) held a c step);
    costs = change.costs;
  }
