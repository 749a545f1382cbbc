-- Files at their places in lists: each is listed once where places rise, what is put among them, and what a row has of them then.
use Rattle.std.proofs.Common.{◌≡◌, List, subst, sym, ◌⊎◌, inl, inr, ℕ, [], ◌∷◌, ◌++◌, refl, ap, ◌∙◌, arith, length, ◌<◌, None, Some, ◌≢◌, Bool, true, false, cond, ◌≤◌, get_or, zero, suc, append-nil, map, ◌-◌, Option, set, append_assoc, Err, ◌+◌, not}
use Rattle.std.specs.Prelude.{All, filter, nat_eq, IsTrue, nat_lt, slice_get, Contains, Result, ◌&&◌}
use Rattle.std.proofs.lemmas.Bool.Decides.{nat_tests, Decides-eqb}
use Rattle.store_manifest.specs.Entries.{Place, comes_before, put}
use Rattle.durable_write.specs.Held.{Filed, filed_at, Held, IsListed, entry_of, samples_of, count_of}
use Rattle.durable_write.specs.Flush.{put_all, PlacesRise, is_place, file_at}
use Rattle.std.proofs.lemmas.List.{length-append, set_at}
use Rattle.std.proofs.lemmas.List.Elements.{All-nil, All-cons, filter_passes, filter-append, All-map, All-append, All-filter, All-get_or, All-weaker, Contains-append_right, All-head, All-tail, All-push, All-contains, Contains-push, All-from_recursion, recursion_from_All}
use Rattle.std.specs.List.{AllByRecursion, flat_map}
use Rattle.std.proofs.lemmas.Bool.{cases_order, cond-false, cond-true, both_ways, cases_eq}
use Rattle.durable_write.specs.Plan.{of_row, StartBefore, IsLast}
use Rattle.pb_lines.proofs.FileLines.{all_front, all_rest, all-append}
use Rattle.partition_names.specs.declared.granularity.Granularity.{Granularity}
use Rattle.partition_names.specs.Part.{IsPart}
use Rattle.store_manifest.specs.declared.entry.Entry.{Entry}
use Rattle.std.proofs.lemmas.Option.{slice_get-get_or, same_Some}
use Rattle.std.proofs.Math.Seq.{get_or-append_seam}
use Rattle.disk_model.specs.declared.disk.DiskErr.{DiskErr}
use Rattle.pb_messages.specs.declared.about.About.{About}
use Rattle.pb_messages.specs.declared.about.State.{State}
use Rattle.pb_messages.specs.declared.about.State.TheVariants.{Running, Paused, Retired}
use Rattle.pv_name.specs.Key.{key_of}
use Rattle.pv_catalog.specs.Catalogue.{HasState, Refuses, RefusesName, registered, renamed}
use Rattle.pv_catalog.specs.Rows.{HasKey, KeepsRows, renamed_row, switched}
use Rattle.pv_catalog.specs.declared.error.RegisterErr.{RegisterErr}
use Rattle.pv_catalog.specs.declared.error.RenameErr.{RenameErr}
use Rattle.pv_catalog.specs.declared.row.Row.{Row}
use Rattle.pv_catalog.proofs.Refusing.{renamed_rows}
use Rattle.pv_catalog.proofs.Standing.{in_pushed, in_switched, keeps_both, keeps_more, keeps_switched, key_of_old}
use Rattle.durable_write.specs.Stored.{KeysDiffer}
use Rattle.pv_catalog.specs.declared.error.RegisterErr.TheVariants as of_register
use Rattle.pv_catalog.specs.declared.error.RenameErr.TheVariants as of_rename
use Rattle.std.proofs.lemmas.List.Concat.{flat_map-append, length-flat_map}
use Rattle.std.proofs.lemmas.List.Filters.{sum_by-filter_both}

-- A batch, and listed files, under rows that stand still.

-- the entries of listed files are of partitions
pub parts_listed : (g : Granularity) (entries : List Entry) (held : Held) → entries ≡ map entry_of held.files → All (IsListed g held.rows) held.files → All (λ (e : Entry). IsPart g e.part) entries
parts_listed g entries held are listed =
    let Part : Entry → Type 0 = λ e. IsPart g e.part in
    let P : List Entry → Type 0 = λ l. All Part l in
    subst P (sym are) (All-map Part entry_of held.files (λ k d lt. (listed k d lt).part))

-- Lists and their last items.

pub same_last : {X : Type 0} (xs ys : List X) (x y : X) → xs ++ x ∷ [] ≡ ys ++ y ∷ [] → (xs ≡ ys) × (x ≡ y)
same_last [] [] x y is = (refl, cc)
same_last [] (b ∷ []) x y is = absurd (omega (arith, ap length is))
same_last [] (b ∷ c ∷ ys) x y is = absurd (omega (arith, ap length is))
same_last (a ∷ []) [] x y is = absurd (omega (arith, ap length is))
same_last (a ∷ c ∷ xs) [] x y is = absurd (omega (arith, ap length is))
same_last {X} (a ∷ xs) (b ∷ ys) x y is =
    let head : a ≡ b = cc in
    let tail : xs ++ x ∷ [] ≡ ys ++ y ∷ [] = cc in
    let rest = same_last xs ys x y tail in
    (ap (λ (l : List X). a ∷ l) rest.0 ∙ ap (λ (z : X). z ∷ ys) head, rest.1)

-- a list is empty, or others and a last item
pub last_view : {X : Type 0} (xs : List X) → (xs ≡ []) ⊎ ((rest : List X) × (x : X) × (xs ≡ rest ++ x ∷ []))
last_view [] = inl refl
last_view {X} (x ∷ xs) = elim (last_view xs) [ inl none ↦ inr ([], x, ap (λ (l : List X). x ∷ l) none) | inr v ↦ inr (x ∷ v.0, v.1, ap (λ (l : List X). x ∷ l) v.2) ]

pub last_get : {X : Type 0} (rest : List X) (x : X) → slice_get (rest ++ x ∷ []) (length (rest ++ x ∷ []) - 1) ≡ Some x
last_get rest x =
    let at : length (rest ++ x ∷ []) - 1 ≡ length rest = omega (arith, length-append rest (x ∷ [])) in
    rw at (slice_get-get_or (rest ++ x ∷ []) (length rest) x (omega (arith, length-append rest (x ∷ []))) ∙ ap (λ z. Some z) (get_or-append_seam rest x [] x))

pub last_got : {X : Type 0} (xs : List X) (x : X) → slice_get xs (length xs - 1) ≡ Some x → (rest : List X) × (xs ≡ rest ++ x ∷ [])
last_got {X} xs x is = elim (last_view xs) [
  | inl none ↦ let P : List X → Type 0 = λ l. slice_get l (length l - 1) ≡ Some x in let no : ◌≡◌ {A = Option X} None (Some x) = subst P none is in absurd (cc no)
  | inr v ↦
      let P : List X → Type 0 = λ l. slice_get l (length l - 1) ≡ Some x in
      let same : ◌≡◌ {A = Option X} (Some v.1) (Some x) = sym (last_get v.0 v.1) ∙ subst P v.2 is in
      let one : v.1 ≡ x = cc same in
      (v.0, v.2 ∙ ap (λ (z : X). v.0 ++ z ∷ []) one)
]

-- a write to the last item
pub last_set : {X : Type 0} (xs : List X) (x y : X) (n : ℕ) → n ≡ length xs → 1 ≤ length xs → x ≡ get_or xs (n - 1) x → (rest : List X) × (xs ≡ rest ++ x ∷ []) × (set xs (n - 1) y ≡ rest ++ y ∷ [])
last_set {X} xs x y n long some is =
    let at : n - 1 ≡ length xs - 1 = omega arith in
    let here : slice_get xs (length xs - 1) ≡ Some x = slice_get-get_or xs (length xs - 1) x (omega arith) ∙ ap (λ (z : X). Some z) (sym (is ∙ ap (λ (k : ℕ). get_or xs k x) at)) in
    let got = last_got xs x here in
    let size = ap length got.1 in
    (got.0, got.1, ap (λ (l : List X). set l (n - 1) y) got.1 ∙ set_at got.0 x [] y (n - 1) (omega (arith, size, length-append got.0 (x ∷ []))))

-- Where places rise each file is listed once, and is the one at its place. What is put among them keeps them so.

pub is_place-true : (a b : Place) → is_place a b ≡ true → a ≡ b
is_place-true a b same =
    let first : a.0 ≡ b.0 = (Decides-eqb a.0 b.0).0 (grind (arith, nat_tests)) in
    let second : a.1 ≡ b.1 = (Decides-eqb a.1 b.1).0 (grind (arith, nat_tests)) in λ i. (first i, second i)

pub is_place-same : (a : Place) → is_place a a ≡ true
is_place-same a =
    let first : nat_eq a.0 a.0 ≡ true = (Decides-eqb a.0 a.0).1 refl in
    let second : nat_eq a.1 a.1 ≡ true = (Decides-eqb a.1 a.1).1 refl in grind (arith, nat_tests)

-- no place comes before itself
pub before_apart : (a b : Place) → IsTrue (comes_before a b) → a ≢ b
before_apart a b before is = not_itself b (subst (λ (p : Place). IsTrue (comes_before p b)) is before)
  where
    not_itself : (p : Place) → IsTrue (comes_before p p) → ⊥
    not_itself p before = grind (arith, nat_tests)

-- of rising places an earlier one comes before a later one
pub rise_at : (fs : List Filed) → PlacesRise fs → (k i : ℕ) (d : Filed) → k < i → i < length fs → IsTrue (comes_before (filed_at (get_or fs k d)) (filed_at (get_or fs i d)))
rise_at [] rise k i d before within = absurd (omega arith)
rise_at (f ∷ fs) rise k zero d before within = absurd (omega arith)
rise_at (f ∷ fs) rise zero (suc i) d before within = All-get_or (λ (h : Filed). IsTrue (comes_before (filed_at f) (filed_at h))) fs i d (omega arith) rise.0
rise_at (f ∷ fs) rise (suc k) (suc i) d before within = rise_at fs rise.1 k i d (omega arith) (omega arith)

skipped : (f : Filed) (fs : List Filed) (p : Place) → filed_at f ≢ p → file_at p (f ∷ fs) ≡ file_at p fs
skipped f fs p other = go (is_place (filed_at f) p) refl
  where
    go : (t : Bool) → is_place (filed_at f) p ≡ t → cond t (Some f) (file_at p fs) ≡ file_at p fs
    go true same = absurd (other (is_place-true (filed_at f) p same))
    go false differs = refl

-- each file is the one at its place
pub found : (files : List Filed) → PlacesRise files → All (λ (f : Filed). file_at (filed_at f) files ≡ Some f) files
found [] rise = All-nil (λ (f : Filed). file_at (filed_at f) [] ≡ Some f)
found (f ∷ fs) rise =
    let rest = found fs rise.1 in
    All-cons (λ (h : Filed). file_at (filed_at h) (f ∷ fs) ≡ Some h) f fs (ap (λ (t : Bool). cond t (Some f) (file_at (filed_at f) fs)) (is_place-same (filed_at f)))
    (λ k d lt. skipped f fs (filed_at (get_or fs k d)) (before_apart (filed_at f) (filed_at (get_or fs k d)) (rise.0 k d lt)) ∙ rest k d lt)

-- what is listed at a place: nothing, or one of the files
pub listed_at : (files : List Filed) (p : Place) → (file_at p files ≡ None) ⊎ ((f : Filed) × Contains files f × (filed_at f ≡ p) × (file_at p files ≡ Some f))
listed_at [] p = inl refl
listed_at (f ∷ fs) p = go (listed_at fs p) (is_place (filed_at f) p) refl
  where
    here : Contains (f ∷ fs) f
    here = (0, omega arith, refl)

    go : (file_at p fs ≡ None) ⊎ ((h : Filed) × Contains fs h × (filed_at h ≡ p) × (file_at p fs ≡ Some h))
        → (t : Bool) → is_place (filed_at f) p ≡ t
        → (cond t (Some f) (file_at p fs) ≡ None) ⊎ ((h : Filed) × Contains (f ∷ fs) h × (filed_at h ≡ p) × (cond t (Some f) (file_at p fs) ≡ Some h))
    go more true same = inr (f, here, is_place-true (filed_at f) p same, refl)
    go (inl none) false other = inl none
    go (inr (h, within, is, found)) false other = inr (h, Contains-append_right (f ∷ []) fs h within, is, found)

-- what holds of each of the files, and of those that are put among them, holds of all
pub all_put : {A : Type 0} (P : A → Type 0) (key : A → Place) (x : A) (xs : List A) → All P xs → P x → All P (put key x xs)
all_put {A} P key x xs all one =
    All-append P _ _ (All-filter (λ y. comes_before (key y) (key x)) P xs all)
    (All-cons P x _ one (All-filter (λ y. comes_before (key x) (key y)) P xs all))

pub all_put_all : (P : Filed → Type 0) (files fs : List Filed) → All P files → All P fs → All P (put_all files fs)
all_put_all P files [] all new = all
all_put_all P files (f ∷ fs) all new = all_put_all P (put filed_at f files) fs (all_put P filed_at f files all (new 0 f (omega arith))) (λ k d lt. new (suc k) d (omega arith))

-- RISING PLACES STAY SO

abbrev pub Comes : Filed → Filed → Type 0
Comes f h = IsTrue (comes_before (filed_at f) (filed_at h))

pub comes_on : (f h k : Filed) → Comes f h → Comes h k → Comes f k
comes_on f h k one two = grind (arith, nat_tests)

pub rise_filter : (test : Filed → Bool) (xs : List Filed) → PlacesRise xs → PlacesRise (filter test xs)
rise_filter test [] rise = tt
rise_filter test (x ∷ xs) rise = by_test (test x) (rise_filter test xs rise.1)
  where
    by_test : (b : Bool) → PlacesRise (filter test xs) → PlacesRise (cond b (x ∷ filter test xs) (filter test xs))
    by_test true rest = (All-filter test (Comes x) xs rise.0, rest)
    by_test false rest = rest

-- files, all before those behind them
rise_then : (x : Filed) (fs gs : List Filed) → PlacesRise fs → PlacesRise gs → All (λ (f : Filed). Comes f x) fs → All (Comes x) gs → PlacesRise (fs ++ x ∷ gs)
rise_then x [] gs front back before behind = (behind, back)
rise_then x (f ∷ fs) gs front back before behind =
    let first : Comes f x = before 0 f (omega arith) in (
      All-append (Comes f) fs (x ∷ gs) front.0 (All-cons (Comes f) x gs first (All-weaker (Comes x) (Comes f) (λ h after. comes_on f x h first after) gs behind)),
      rise_then x fs gs front.1 back (λ k d lt. before (suc k) d (omega arith)) behind,
    )

rise_put : (x : Filed) (xs : List Filed) → PlacesRise xs → PlacesRise (put filed_at x xs)
rise_put x xs rise =
    let front : Filed → Bool = λ y. comes_before (filed_at y) (filed_at x) in
    let back : Filed → Bool = λ y. comes_before (filed_at x) (filed_at y) in
    rise_then x (filter front xs) (filter back xs) (rise_filter front xs rise) (rise_filter back xs rise)
    (λ k d lt. let passed = filter_passes front xs k d lt in grind (arith, nat_tests, passed))
    (λ k d lt. let passed = filter_passes back xs k d lt in grind (arith, nat_tests, passed))

pub rise_put_all : (files fs : List Filed) → PlacesRise files → PlacesRise (put_all files fs)
rise_put_all files [] rise = rise
rise_put_all files (f ∷ fs) rise = rise_put_all (put filed_at f files) fs (rise_put f files rise)

-- A file put among others, in its place.

-- FILTERS

-- a filter within another is the other way round, where the tests agree on what passes
pub filter_swap : (q p other : Filed → Bool) → ((x : Filed) → q x ≡ true → p x ≡ other x) → (xs : List Filed) → filter q (filter p xs) ≡ filter other (filter q xs)
filter_swap q p other agree [] = refl
filter_swap q p other agree (x ∷ xs) = by_tests (p x) (q x) (other x) refl refl refl (filter_swap q p other agree xs)
  where
    by_tests : (a b c : Bool) → p x ≡ a → q x ≡ b → other x ≡ c → filter q (filter p xs) ≡ filter other (filter q xs) → filter q (cond a (x ∷ filter p xs) (filter p xs)) ≡ filter other (cond b (x ∷ filter q xs) (filter q xs))
    by_tests true true true is is₂ is₃ rest = rw (is₂, is₃) (ap (λ (l : List Filed). x ∷ l) rest)
    by_tests true true false is is₂ is₃ rest = absurd (both_ways (p x) (agree x is₂ ∙ is₃) is)
    by_tests false true true is is₂ is₃ rest = absurd (both_ways (p x) is (agree x is₂ ∙ is₃))
    by_tests false true false is is₂ is₃ rest = rw is₃ rest
    by_tests true false c is is₂ is₃ rest = rw is₂ rest
    by_tests false false c is is₂ is₃ rest = rest

filter_all : (xs : List Filed) → filter (λ x. true) xs ≡ xs
filter_all [] = refl
filter_all (x ∷ xs) = ap (λ (l : List Filed). x ∷ l) (filter_all xs)

filter_no : (xs : List Filed) → filter (λ x. false) xs ≡ []
filter_no [] = refl
filter_no (x ∷ xs) = filter_no xs

-- A FILE PUT AMONG OTHERS

abbrev pub front : Filed → List Filed → List Filed
front f xs = filter (λ y. comes_before (filed_at y) (filed_at f)) xs

abbrev pub back : Filed → List Filed → List Filed
back f xs = filter (λ y. comes_before (filed_at f) (filed_at y)) xs

-- the row's files in front of a place and behind it
put_parts : (row : ℕ) (f : Filed) (xs : List Filed) → of_row row (put filed_at f xs) ≡ of_row row (front f xs) ++ cond (nat_eq f.entry.series row) (f ∷ of_row row (back f xs)) (of_row row (back f xs))
put_parts row f xs = filter-append (λ (y : Filed). nat_eq y.entry.series row) (front f xs) (f ∷ back f xs)

-- another row's files stay
pub put_other : (row : ℕ) (f : Filed) (xs : List Filed) → row ≢ f.entry.series → of_row row (put filed_at f xs) ≡ of_row row xs
put_other row f xs other =
    let own : nat_eq f.entry.series row ≡ false = grind (arith, nat_tests) in
    put_parts row f xs ∙ (ap (λ (l : List Filed). of_row row (front f xs) ++ l) (cond-false (nat_eq f.entry.series row) (f ∷ of_row row (back f xs)) (of_row row (back f xs)) own) ∙ by_order (cases_order row f.entry.series))
  where
    by_order : (row ≡ f.entry.series) ⊎ ((row < f.entry.series) ⊎ (f.entry.series < row)) → of_row row (front f xs) ++ of_row row (back f xs) ≡ of_row row xs
    by_order (inl is) = absurd (other is)
    by_order (inr (inl lt)) =
        let all : of_row row (front f xs) ≡ of_row row xs = filter_swap (λ y. nat_eq y.entry.series row) (λ y. comes_before (filed_at y) (filed_at f)) (λ y. true) (λ y is. grind (arith, nat_tests)) xs ∙ filter_all (of_row row xs) in
        let none : of_row row (back f xs) ≡ [] = filter_swap (λ y. nat_eq y.entry.series row) (λ y. comes_before (filed_at f) (filed_at y)) (λ y. false) (λ y is. grind (arith, nat_tests)) xs ∙ filter_no (of_row row xs) in
        ap (λ (l : List Filed). l ++ of_row row (back f xs)) all ∙ (ap (λ (l : List Filed). of_row row xs ++ l) none ∙ append-nil (of_row row xs))
    by_order (inr (inr gt)) =
        let none : of_row row (front f xs) ≡ [] = filter_swap (λ y. nat_eq y.entry.series row) (λ y. comes_before (filed_at y) (filed_at f)) (λ y. false) (λ y is. grind (arith, nat_tests)) xs ∙ filter_no (of_row row xs) in
        let all : of_row row (back f xs) ≡ of_row row xs = filter_swap (λ y. nat_eq y.entry.series row) (λ y. comes_before (filed_at f) (filed_at y)) (λ y. true) (λ y is. grind (arith, nat_tests)) xs ∙ filter_all (of_row row xs) in
        ap (λ (l : List Filed). l ++ of_row row (back f xs)) none ∙ all

-- the row's files that start before n, and behind it
abbrev pub sooner : ℕ → List Filed → List Filed
sooner n xs = filter (λ y. nat_lt y.entry.part.start n) xs

abbrev pub later : ℕ → List Filed → List Filed
later n xs = filter (λ y. nat_lt n y.entry.part.start) xs

-- in its own row
pub put_own : (row : ℕ) (f : Filed) (xs : List Filed) → f.entry.series ≡ row → of_row row (put filed_at f xs) ≡ sooner f.entry.part.start (of_row row xs) ++ (f ∷ later f.entry.part.start (of_row row xs))
put_own row f xs own =
    let test : nat_eq f.entry.series row ≡ true = grind (arith, nat_tests) in
    let less : of_row row (front f xs) ≡ sooner f.entry.part.start (of_row row xs) = filter_swap (λ y. nat_eq y.entry.series row) (λ y. comes_before (filed_at y) (filed_at f)) (λ y. nat_lt y.entry.part.start f.entry.part.start) (λ y is. grind (arith, nat_tests)) xs in
    let more : of_row row (back f xs) ≡ later f.entry.part.start (of_row row xs) = filter_swap (λ y. nat_eq y.entry.series row) (λ y. comes_before (filed_at f) (filed_at y)) (λ y. nat_lt f.entry.part.start y.entry.part.start) (λ y is. grind (arith, nat_tests)) xs in
    put_parts row f xs
    ∙ (ap (λ (l : List Filed). of_row row (front f xs) ++ l) (cond-true (nat_eq f.entry.series row) (f ∷ of_row row (back f xs)) (of_row row (back f xs)) test)
    ∙ (ap (λ (l : List Filed). l ++ (f ∷ of_row row (back f xs))) less ∙ ap (λ (l : List Filed). sooner f.entry.part.start (of_row row xs) ++ (f ∷ l)) more))

-- THE LAST FILE OF A ROW

pub All-front : {X : Type 0} (P : X → Type 0) (xs ys : List X) → All P (xs ++ ys) → All P xs
All-front P xs ys h = All-from_recursion P xs (all_front P xs ys (recursion_from_All P (xs ++ ys) h))

pub start_before : (m n : ℕ) (xs : List Filed) → StartBefore m xs → m ≤ n → StartBefore n xs
start_before m n [] h le = tt
start_before m n (x ∷ xs) h le = (let lt : x.entry.part.start < m = h.0 in omega arith, start_before m n xs h.1 le)

sooner_all : (n : ℕ) (xs : List Filed) → StartBefore n xs → sooner n xs ≡ xs
sooner_all n [] h = refl
sooner_all n (x ∷ xs) h =
    let lt : x.entry.part.start < n = h.0 in
    let test : nat_lt x.entry.part.start n ≡ true = grind (arith, nat_tests) in
    rw test (ap (λ (l : List Filed). x ∷ l) (sooner_all n xs h.1))

later_none : (n : ℕ) (xs : List Filed) → StartBefore n xs → later n xs ≡ []
later_none n [] h = refl
later_none n (x ∷ xs) h =
    let lt : x.entry.part.start < n = h.0 in
    let test : nat_lt n x.entry.part.start ≡ false = grind (arith, nat_tests) in
    rw test (later_none n xs h.1)

-- put behind all files of its row, it is the row's last
pub put_behind : (row : ℕ) (f : Filed) (xs : List Filed) → f.entry.series ≡ row → StartBefore f.entry.part.start (of_row row xs) → of_row row (put filed_at f xs) ≡ of_row row xs ++ f ∷ []
put_behind row f xs own h =
    put_own row f xs own
    ∙ (ap (λ (l : List Filed). l ++ (f ∷ later f.entry.part.start (of_row row xs))) (sooner_all f.entry.part.start (of_row row xs) h) ∙ ap (λ (l : List Filed). of_row row xs ++ (f ∷ l)) (later_none f.entry.part.start (of_row row xs) h))

-- put in the place of the row's last, it is the last in its stead
pub put_over : (row : ℕ) (f h : Filed) (xs earlier : List Filed) → f.entry.series ≡ row → f.entry.part.start ≡ h.entry.part.start → of_row row xs ≡ earlier ++ h ∷ [] → StartBefore h.entry.part.start earlier → of_row row (put filed_at f xs) ≡ earlier ++ f ∷ []
put_over row f h xs earlier own same are below =
    let n = f.entry.part.start in
    let lower : StartBefore n earlier = start_before h.entry.part.start n earlier below (omega arith) in
    let here : nat_lt h.entry.part.start n ≡ false = grind (arith, nat_tests) in
    let here₂ : nat_lt n h.entry.part.start ≡ false = grind (arith, nat_tests) in
    let less : sooner n (of_row row xs) ≡ earlier = ap (sooner n) are ∙ (filter-append (λ (y : Filed). nat_lt y.entry.part.start n) earlier (h ∷ []) ∙ (ap (λ (l : List Filed). sooner n earlier ++ l) (cond-false (nat_lt h.entry.part.start n) (h ∷ []) [] here) ∙ (append-nil (sooner n earlier) ∙ sooner_all n earlier lower))) in
    let more : later n (of_row row xs) ≡ [] = ap (later n) are ∙ (filter-append (λ (y : Filed). nat_lt n y.entry.part.start) earlier (h ∷ []) ∙ (ap (λ (l : List Filed). later n earlier ++ l) (cond-false (nat_lt n h.entry.part.start) (h ∷ []) [] here₂) ∙ (append-nil (later n earlier) ∙ later_none n earlier lower))) in
    put_own row f xs own ∙ (ap (λ (l : List Filed). l ++ (f ∷ later n (of_row row xs))) less ∙ ap (λ (l : List Filed). earlier ++ (f ∷ l)) more)

starts_some : (P : Filed → Type 0) (test : Filed → Bool) (xs : List Filed) → AllByRecursion P xs → AllByRecursion P (filter test xs)
starts_some P test [] all = tt
starts_some P test (x ∷ xs) all = by_test (test x) (starts_some P test xs all.1)
  where
    by_test : (b : Bool) → AllByRecursion P (filter test xs) → AllByRecursion P (cond b (x ∷ filter test xs) (filter test xs))
    by_test true rest = (all.0, rest)
    by_test false rest = rest

-- put before the row's last, it leaves that the last
pub put_within : (row : ℕ) (f h : Filed) (xs : List Filed) → f.entry.series ≡ row → f.entry.part.start < h.entry.part.start → IsLast xs row h → IsLast (put filed_at f xs) row h
put_within row f h xs own lt last =
    let n = f.entry.part.start in
    let P : Filed → Type 0 = λ (x : Filed). x.entry.part.start < h.entry.part.start in
    let here : nat_lt h.entry.part.start n ≡ false = grind (arith, nat_tests) in
    let here₂ : nat_lt n h.entry.part.start ≡ true = grind (arith, nat_tests) in
    let less : sooner n (of_row row xs) ≡ sooner n last.earlier = ap (sooner n) last.are ∙ (filter-append (λ (y : Filed). nat_lt y.entry.part.start n) last.earlier (h ∷ []) ∙ (ap (λ (l : List Filed). sooner n last.earlier ++ l) (cond-false (nat_lt h.entry.part.start n) (h ∷ []) [] here) ∙ append-nil (sooner n last.earlier))) in
    let more : later n (of_row row xs) ≡ later n last.earlier ++ h ∷ [] = ap (later n) last.are ∙ (filter-append (λ (y : Filed). nat_lt n y.entry.part.start) last.earlier (h ∷ []) ∙ ap (λ (l : List Filed). later n last.earlier ++ l) (cond-true (nat_lt n h.entry.part.start) (h ∷ []) [] here₂)) in
    record {
      earlier = sooner n last.earlier ++ (f ∷ later n last.earlier);
      are = put_own row f xs own ∙ (ap (λ (l : List Filed). l ++ (f ∷ later n (of_row row xs))) less ∙ (ap (λ (l : List Filed). sooner n last.earlier ++ (f ∷ l)) more ∙ sym (append_assoc (sooner n last.earlier) (f ∷ later n last.earlier) (h ∷ []))));
      before = all-append P (sooner n last.earlier) (f ∷ later n last.earlier) (starts_some P (λ y. nat_lt y.entry.part.start n) last.earlier last.before) (lt, starts_some P (λ y. nat_lt n y.entry.part.start) last.earlier last.before);
    }

-- PUT AGAIN

-- two of one place, one after the other, are the second alone
pub put_twice : (f h : Filed) (xs : List Filed) → filed_at f ≡ filed_at h → put filed_at f (put filed_at h xs) ≡ put filed_at f xs
put_twice f h xs same =
    ap (λ (l : List Filed). l ++ (f ∷ back f (put filed_at h xs))) less ∙ ap (λ (l : List Filed). front f xs ++ (f ∷ l)) more
  where
    row : f.entry.series ≡ h.entry.series
    row = ap (λ (p : Place). p.0) same

    start : f.entry.part.start ≡ h.entry.part.start
    start = ap (λ (p : Place). p.1) same

    less : front f (put filed_at h xs) ≡ front f xs
    less =
        let here : comes_before (filed_at h) (filed_at f) ≡ false = grind (arith, nat_tests, row, start) in
        let front_of : front f (front h xs) ≡ front f xs = filter_swap (λ y. comes_before (filed_at y) (filed_at f)) (λ y. comes_before (filed_at y) (filed_at h)) (λ y. true) (λ y is. grind (arith, nat_tests, row, start)) xs ∙ filter_all (front f xs) in
        let back_of : front f (back h xs) ≡ [] = filter_swap (λ y. comes_before (filed_at y) (filed_at f)) (λ y. comes_before (filed_at h) (filed_at y)) (λ y. false) (λ y is. grind (arith, nat_tests, row, start)) xs ∙ filter_no (front f xs) in
        filter-append (λ (y : Filed). comes_before (filed_at y) (filed_at f)) (front h xs) (h ∷ back h xs)
        ∙ (ap (λ (l : List Filed). front f (front h xs) ++ l) (cond-false (comes_before (filed_at h) (filed_at f)) (h ∷ front f (back h xs)) (front f (back h xs)) here ∙ back_of) ∙ (append-nil (front f (front h xs)) ∙ front_of))

    more : back f (put filed_at h xs) ≡ back f xs
    more =
        let here : comes_before (filed_at f) (filed_at h) ≡ false = grind (arith, nat_tests, row, start) in
        let front_of : back f (front h xs) ≡ [] = filter_swap (λ y. comes_before (filed_at f) (filed_at y)) (λ y. comes_before (filed_at y) (filed_at h)) (λ y. false) (λ y is. grind (arith, nat_tests, row, start)) xs ∙ filter_no (back f xs) in
        let back_of : back f (back h xs) ≡ back f xs = filter_swap (λ y. comes_before (filed_at f) (filed_at y)) (λ y. comes_before (filed_at h) (filed_at y)) (λ y. true) (λ y is. grind (arith, nat_tests, row, start)) xs ∙ filter_all (back f xs) in
        filter-append (λ (y : Filed). comes_before (filed_at f) (filed_at y)) (front h xs) (h ∷ back h xs)
        ∙ (ap (λ (l : List Filed). l ++ cond (comes_before (filed_at f) (filed_at h)) (h ∷ back f (back h xs)) (back f (back h xs))) front_of ∙ (cond-false (comes_before (filed_at f) (filed_at h)) (h ∷ back f (back h xs)) (back f (back h xs)) here ∙ back_of))

pub put_all-push : (files fs : List Filed) (f : Filed) → put_all files (fs ++ f ∷ []) ≡ put filed_at f (put_all files fs)
put_all-push files [] f = refl
put_all-push files (x ∷ fs) f = put_all-push (put filed_at x files) fs f

-- PLACES THAT RISE

rise-push : (fs : List Filed) (f : Filed) → PlacesRise fs → All (λ (h : Filed). Comes h f) fs → PlacesRise (fs ++ f ∷ [])
rise-push [] f rise all = (All-nil (Comes f), tt)
rise-push (x ∷ fs) f rise all = (All-push (Comes x) fs f rise.0 (All-head (λ (h : Filed). Comes h f) x fs all), rise-push fs f rise.1 (All-tail (λ (h : Filed). Comes h f) x fs all))

behind_all : (fs : List Filed) (h f : Filed) → PlacesRise (fs ++ h ∷ []) → Comes h f → All (λ (k : Filed). Comes k f) (fs ++ h ∷ [])
behind_all [] h f rise lt = All-cons (λ (k : Filed). Comes k f) h [] lt (All-nil (λ (k : Filed). Comes k f))
behind_all (x ∷ fs) h f rise lt = All-cons (λ (k : Filed). Comes k f) x (fs ++ h ∷ []) (comes_on x h f (All-contains (Comes x) (fs ++ h ∷ []) h rise.0 (Contains-push fs h)) lt) (behind_all fs h f rise.1 lt)

-- a list whose places rise goes on with a place behind its last
pub rise_behind : (fs : List Filed) (h f : Filed) → PlacesRise (fs ++ h ∷ []) → Comes h f → PlacesRise ((fs ++ h ∷ []) ++ f ∷ [])
rise_behind fs h f rise lt = rise-push (fs ++ h ∷ []) f rise (behind_all fs h f rise lt)

-- the last may be another of its place
pub rise_over : (fs : List Filed) (h f : Filed) → filed_at f ≡ filed_at h → PlacesRise (fs ++ h ∷ []) → PlacesRise (fs ++ f ∷ [])
rise_over [] h f same rise = (All-nil (Comes f), tt)
rise_over (x ∷ fs) h f same rise =
    let P : Place → Type 0 = λ p. IsTrue (comes_before (filed_at x) p) in
    let last : Comes x f = subst P (sym same) (All-contains (Comes x) (fs ++ h ∷ []) h rise.0 (Contains-push fs h)) in
    (All-push (Comes x) fs f (All-front (Comes x) fs (h ∷ []) rise.0) last, rise_over fs h f same rise.1)

starts_rise : (row : ℕ) (earlier : List Filed) (h : Filed) → PlacesRise (earlier ++ h ∷ []) → AllByRecursion (λ (f : Filed). nat_eq f.entry.series row ≡ true) (earlier ++ h ∷ []) → StartBefore h.entry.part.start earlier
starts_rise row [] h rise own = tt
starts_rise row (x ∷ earlier) h rise own =
    let before : Comes x h = All-contains (Comes x) (earlier ++ h ∷ []) h rise.0 (Contains-push earlier h) in
    let first : nat_eq x.entry.series row ≡ true = own.0 in
    let last : nat_eq h.entry.series row ≡ true = (all_rest (λ (f : Filed). nat_eq f.entry.series row ≡ true) earlier (h ∷ []) own.1).0 in
    (grind (arith, nat_tests), starts_rise row earlier h rise.1 own.1)

-- the last of a row's files, where places rise
pub last_of_rising : (row : ℕ) (xs earlier : List Filed) (h : Filed) → PlacesRise xs → of_row row xs ≡ earlier ++ h ∷ [] → IsLast xs row h
last_of_rising row xs earlier h rise are =
    let P : List Filed → Type 0 = λ l. PlacesRise l × AllByRecursion (λ (f : Filed). nat_eq f.entry.series row ≡ true) l in
    let both = subst P are (rise_filter (λ y. nat_eq y.entry.series row) xs rise, recursion_from_All (λ (f : Filed). nat_eq f.entry.series row ≡ true) (of_row row xs) (filter_passes (λ y. nat_eq y.entry.series row) xs)) in
    record { earlier = earlier; are = are; before = starts_rise row earlier h both.0 both.1 }

-- What a change of the rows makes of their keys and states.

-- the key of a row more is its own
keys_more : (rows : List Row) (row : Row) → ((k : ℕ) → HasKey rows k (key_of row.name) → ⊥) → KeysDiffer rows → KeysDiffer (rows ++ row ∷ [])
keys_more rows row free differ i j a b here there same = elim (in_pushed rows row a i here) [
  | inl first ↦ elim (in_pushed rows row b j there) [
    | inl second ↦ differ i j a b first second same
    | inr second ↦ absurd (free i (record { row = a; here = first; is = same ∙ ap (λ (r : Row). key_of r.name) second.1 }))
  ]
  | inr first ↦ elim (in_pushed rows row b j there) [
    | inl second ↦ absurd (free j (record { row = b; here = second; is = sym same ∙ ap (λ (r : Row). key_of r.name) first.1 }))
    | inr second ↦ first.0 ∙ sym second.0
  ]
]

-- a name that isn't refused has a key of its own
key_free : (rows : List Row) (name : List ℕ) → ((e : RegisterErr) → Refuses rows name e → ⊥) → (k : ℕ) → HasKey rows k (key_of name) → ⊥
key_free rows name free k has = free (of_register.KeyTaken k) (has, λ named. free (of_register.NameTaken k) named)

pub keys_pushed : (rows : List Row) (name : List ℕ) (about : About) → ((e : RegisterErr) → Refuses rows name e → ⊥) → KeysDiffer rows → KeysDiffer (rows ++ registered rows name about ∷ [])
keys_pushed rows name about free differ = keys_more rows (registered rows name about) (key_free rows name free) differ

pub keys_switched : (row : ℕ) (state : State) (rows : List Row) → KeysDiffer rows → KeysDiffer (switched row state rows)
keys_switched row state rows differ i j a b here there same =
    let first = in_switched row state rows i a here in
    let second = in_switched row state rows j b there in
    differ i j first.0 second.0 first.1 second.1 (ap key_of (sym first.2.name) ∙ same ∙ ap key_of second.2.name)

-- a new name that a paused row's variable can get may be registered
name_free : (rows : List Row) (i : ℕ) (name : List ℕ) → HasState rows i Paused → ((e : RenameErr) → RefusesName rows i name e → ⊥) → (e : RegisterErr) → Refuses rows name e → ⊥
name_free rows i name has free (of_register.NameTaken k) refuses = free (of_rename.NameTaken k) (has, refuses)
name_free rows i name has free (of_register.KeyTaken k) refuses = free (of_rename.KeyTaken k) (has, refuses)
name_free rows i name has free of_register.Full refuses = free of_rename.Full (has, refuses)
name_free rows i name has free (of_register.Disk e) refuses = refuses

pub keys_renamed : (rows : List Row) (i : ℕ) (name : List ℕ) → HasState rows i Paused → ((e : RenameErr) → RefusesName rows i name e → ⊥) → KeysDiffer rows → KeysDiffer (renamed i name rows)
keys_renamed rows i name has free differ =
    let row = renamed_row i (length rows) name has.row in
    subst KeysDiffer (sym (renamed_rows rows i name has.row has.here))
    (keys_more (switched i Retired rows) row (λ k taken. key_free rows name (name_free rows i name has free) k (key_of_old i Retired rows k (key_of name) taken)) (keys_switched i Retired rows differ))

-- each row still stands
pub keeps_renamed : (rows : List Row) (i : ℕ) (name : List ℕ) → HasState rows i Paused → KeepsRows rows (renamed i name rows)
keeps_renamed rows i name has =
    let row = renamed_row i (length rows) name has.row in
    subst (KeepsRows rows) (sym (renamed_rows rows i name has.row has.here))
    (keeps_both rows (switched i Retired rows) (switched i Retired rows ++ row ∷ []) (keeps_switched i Retired rows) (keeps_more (switched i Retired rows) (row ∷ [])))

-- the disk's error isn't a reason of the rows
pub of_disk : (rows : List Row) (name : List ℕ) (e : RegisterErr) (failed : DiskErr) → ◌≡◌ {A = Result ℕ RegisterErr} (Err (of_register.Disk failed)) (Err e) → Refuses rows name e → ⊥
of_disk rows name (of_register.NameTaken i) failed is refuses = absurd (cc (is))
of_disk rows name (of_register.KeyTaken i) failed is refuses = absurd (cc (is))
of_disk rows name of_register.Full failed is refuses = absurd (cc (is))
of_disk rows name (of_register.Disk e) failed is refuses = refuses

same_state : (a b : State) → (a ≡ b) ⊎ (a ≡ b → ⊥)
same_state Running Running = inl refl
same_state Running Paused = inr (λ is. cc (is))
same_state Running Retired = inr (λ is. cc (is))
same_state Paused Running = inr (λ is. cc (is))
same_state Paused Paused = inl refl
same_state Paused Retired = inr (λ is. cc (is))
same_state Retired Running = inr (λ is. cc (is))
same_state Retired Paused = inr (λ is. cc (is))
same_state Retired Retired = inl refl

-- a row has the state, or it hasn't
pub has_state : (rows : List Row) (row : ℕ) (state : State) → row < length rows → HasState rows row state ⊎ (HasState rows row state → ⊥)
has_state [] row state within = absurd (omega (arith, within))
has_state (r ∷ rows) zero state within = elim (same_state r.state state) [
  | inl is ↦ inl (record { row = r; here = refl; is = is })
  | inr not ↦ inr (λ has. let one : r ≡ has.row = same_Some r has.row has.here in not (ap (λ (x : Row). x.state) one ∙ has.is))
]
has_state (r ∷ rows) (suc row) state within = elim (has_state rows row state (omega (arith, within))) [
  | inl has ↦ inl (record { row = has.row; here = has.here; is = has.is })
  | inr not ↦ inr (λ has. not (record { row = has.row; here = has.here; is = has.is }))
]

-- What a row has once files are put among others: its samples, and the file at a place.

-- THE FILE AT A PLACE

pub file_of_row : (p : Place) (xs : List Filed) → file_at p xs ≡ file_at p (of_row p.0 xs)
file_of_row p [] = refl
file_of_row p (x ∷ xs) = by_tests (nat_eq x.entry.series p.0) (nat_eq x.entry.part.start p.1) refl refl (file_of_row p xs)
  where
    by_tests : (a b : Bool) → nat_eq x.entry.series p.0 ≡ a → nat_eq x.entry.part.start p.1 ≡ b → file_at p xs ≡ file_at p (of_row p.0 xs) → cond (a && b) (Some x) (file_at p xs) ≡ file_at p (cond a (x ∷ of_row p.0 xs) (of_row p.0 xs))
    by_tests true true is is₂ rest = rw (is, is₂) refl
    by_tests true false is is₂ rest = rw (is, is₂) rest
    by_tests false b is is₂ rest = rest

file_behind : (p : Place) (xs ys : List Filed) → StartBefore p.1 xs → file_at p (xs ++ ys) ≡ file_at p ys
file_behind p [] ys h = refl
file_behind p (x ∷ xs) ys h =
    let lt : x.entry.part.start < p.1 = h.0 in
    let test : is_place (filed_at x) p ≡ false = grind (arith, nat_tests) in
    cond-false (is_place (filed_at x) p) (Some x) (file_at p (xs ++ ys)) test ∙ file_behind p xs ys h.1

-- the row's last file
pub file_of_last : (xs : List Filed) (row : ℕ) (h : Filed) → IsLast xs row h → h.entry.series ≡ row → file_at (filed_at h) xs ≡ Some h
file_of_last xs row h last own =
    let P : ℕ → Type 0 = λ r. file_at (filed_at h) (of_row r xs) ≡ Some h in
    let test : is_place (filed_at h) (filed_at h) ≡ true = grind (arith, nat_tests) in
    file_of_row (filed_at h) xs ∙ subst P (sym own) (ap (file_at (filed_at h)) last.are ∙ (file_behind (filed_at h) last.earlier (h ∷ []) last.before ∙ cond-true (is_place (filed_at h) (filed_at h)) (Some h) None test))

-- behind all files of the row there is none
pub no_file : (p : Place) (xs : List Filed) → StartBefore p.1 (of_row p.0 xs) → file_at p xs ≡ None
no_file p xs h = file_of_row p xs ∙ (ap (file_at p) (sym (append-nil (of_row p.0 xs))) ∙ file_behind p (of_row p.0 xs) [] h)

-- WHAT WAS THERE BEFORE

all_parts : (s n : ℕ) (xs : List Filed) → StartBefore n (sooner s xs) → StartBefore n (later s xs) → s < n → StartBefore n xs
all_parts s n [] low high lt = tt
all_parts s n (x ∷ xs) low high lt = by_order (cases_order x.entry.part.start s) (all_parts s n xs)
  where
    by_order : (x.entry.part.start ≡ s) ⊎ ((x.entry.part.start < s) ⊎ (s < x.entry.part.start)) → (StartBefore n (sooner s xs) → StartBefore n (later s xs) → s < n → StartBefore n xs) → StartBefore n (x ∷ xs)
    by_order (inl is) rest =
        let one : nat_lt x.entry.part.start s ≡ false = grind (arith, nat_tests) in
        let two : nat_lt s x.entry.part.start ≡ false = grind (arith, nat_tests) in
        (omega arith, rest (rw one at low) (rw two at high) lt)
    by_order (inr (inl below)) rest =
        let one : nat_lt x.entry.part.start s ≡ true = grind (arith, nat_tests) in
        let two : nat_lt s x.entry.part.start ≡ false = grind (arith, nat_tests) in
        (omega arith, rest (rw one at low).1 (rw two at high) lt)
    by_order (inr (inr above)) rest =
        let one : nat_lt x.entry.part.start s ≡ false = grind (arith, nat_tests) in
        let two : nat_lt s x.entry.part.start ≡ true = grind (arith, nat_tests) in
        ((rw two at high).0, rest (rw one at low) (rw two at high).1 lt)

put_back : (row n : ℕ) (f : Filed) (xs : List Filed) → StartBefore n (of_row row (put filed_at f xs)) → StartBefore n (of_row row xs)
put_back row n f xs h = by_row (cases_eq row f.entry.series)
  where
    by_row : (row ≡ f.entry.series) ⊎ (row ≡ f.entry.series → ⊥) → StartBefore n (of_row row xs)
    by_row (inl is) =
        let s = f.entry.part.start in
        let all : StartBefore n (sooner s (of_row row xs) ++ (f ∷ later s (of_row row xs))) = rw (← put_own row f xs (sym is)) h in
        let rest = all_rest (λ (x : Filed). x.entry.part.start < n) (sooner s (of_row row xs)) (f ∷ later s (of_row row xs)) all in
        all_parts s n (of_row row xs) (all_front (λ (x : Filed). x.entry.part.start < n) (sooner s (of_row row xs)) (f ∷ later s (of_row row xs)) all) rest.1 rest.0
    by_row (inr other) = rw (← put_other row f xs other) h

-- where all of a row's files start before n, so did those before others were put among them
pub put_all_back : (row n : ℕ) (xs fs : List Filed) → StartBefore n (of_row row (put_all xs fs)) → StartBefore n (of_row row xs)
put_all_back row n xs [] h = h
put_all_back row n xs (f ∷ fs) h = put_back row n f xs (put_all_back row n (put filed_at f xs) fs h)

-- a row that gets no file has what it had
pub put_all_other : (row : ℕ) (xs fs : List Filed) → AllByRecursion (λ (f : Filed). row ≢ f.entry.series) fs → of_row row (put_all xs fs) ≡ of_row row xs
put_all_other row xs [] h = refl
put_all_other row xs (f ∷ fs) h = put_all_other row (put filed_at f xs) fs h.1 ∙ put_other row f xs h.0

-- HOW MANY SAMPLES

abbrev others : ℕ → List Filed → List Filed
others row xs = filter (λ y. not (nat_eq y.entry.series row)) xs

count_parts : (row : ℕ) (xs : List Filed) → length (samples_of row xs) + count_of (others row xs) ≡ count_of xs
count_parts row xs =
    omega (arith, sum_by-filter_both (λ (y : Filed). nat_eq y.entry.series row) (λ (y : Filed). not (nat_eq y.entry.series row)) (λ y. refl) (λ (y : Filed). length y.samples) xs, length-flat_map (λ (y : Filed). y.samples) xs, length-flat_map (λ (y : Filed). y.samples) (of_row row xs), length-flat_map (λ (y : Filed). y.samples) (others row xs))

-- A file put among others changes no row but its own.
count_others : (row : ℕ) (f : Filed) (xs : List Filed) → f.entry.series ≡ row → count_of (others row (put filed_at f xs)) ≡ count_of (others row xs)
count_others row f xs own =
    let q : Filed → Bool = λ y. not (nat_eq y.entry.series row) in
    let less : Filed → Bool = λ y. comes_before (filed_at y) (filed_at f) in
    let one : others row (front f xs) ≡ filter less (others row xs) = filter_swap q less less (λ y is. refl) xs in
    let two : others row (back f xs) ≡ filter (λ y. not (less y)) (others row xs) = filter_swap q (λ y. comes_before (filed_at f) (filed_at y)) (λ y. not (less y)) (λ y is. grind (arith, nat_tests)) xs in
    let test : not (nat_eq f.entry.series row) ≡ false = grind (arith, nat_tests) in
    let all : others row (put filed_at f xs) ≡ filter less (others row xs) ++ filter (λ y. not (less y)) (others row xs) =
    filter-append q (front f xs) (f ∷ back f xs) ∙ (ap (λ (l : List Filed). others row (front f xs) ++ l) (cond-false (q f) (f ∷ others row (back f xs)) (others row (back f xs)) test) ∙ (ap (λ (l : List Filed). l ++ others row (back f xs)) one ∙ ap (λ (l : List Filed). filter less (others row xs) ++ l) two)) in
    ap count_of all ∙ omega (arith, sum_by-filter_both less (λ (y : Filed). not (less y)) (λ y. refl) (λ (y : Filed). length y.samples) (others row xs), length-flat_map (λ (y : Filed). y.samples) (filter less (others row xs) ++ filter (λ y. not (less y)) (others row xs)), ap length (flat_map-append (λ (y : Filed). y.samples) (filter less (others row xs)) (filter (λ y. not (less y)) (others row xs))), length-append (flat_map (λ (y : Filed). y.samples) (filter less (others row xs))) (flat_map (λ (y : Filed). y.samples) (filter (λ y. not (less y)) (others row xs))), length-flat_map (λ (y : Filed). y.samples) (filter less (others row xs)), length-flat_map (λ (y : Filed). y.samples) (filter (λ y. not (less y)) (others row xs)), length-flat_map (λ (y : Filed). y.samples) (others row xs))

pub count_put : (row : ℕ) (f : Filed) (xs : List Filed) → f.entry.series ≡ row → count_of (put filed_at f xs) + length (samples_of row xs) ≡ count_of xs + length (samples_of row (put filed_at f xs))
count_put row f xs own = omega (arith, count_parts row xs, count_parts row (put filed_at f xs), count_others row f xs own)
