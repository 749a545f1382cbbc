-- Lists: with one element set, with the same names, their parts, and those of a store that only grows, as a flush makes them.
use Rattle.std.proofs.Common.{◌≡◌, ℕ, List, [], arith, ◌∷◌, ◌++◌, refl, sym, ◌∙◌, ap, zero, suc, subst, inl, inr, ◌<◌, length, get_or, Some, map, ◌≤◌, ◌⊎◌, append-nil, ◌≢◌, take, Bool, true, false, cond, append_assoc, ◌-◌, drop, min, length-drop, Option, None, ◌+◌}
use Rattle.std.specs.Prelude.{Contains, All, slice_get, nat_eq, slice_set, IsTrue, nat_lt}
use Rattle.std.specs.List.{AllByRecursion, flat_map}
use Rattle.std.proofs.lemmas.List.Elements.{Contains-append_right, All-head, All-tail, All-contains, Contains-get_or, Contains-append_left, All-from_recursion, All-append, All-cons, All-nil, Contains-append_cases, All-filter, recursion_from_All}
use Rattle.pv_catalog.specs.declared.row.Row.{Row}
use Rattle.durable_write.specs.Plan.{of_row}
use Rattle.disk_model.specs.Files.{Name}
use Rattle.std.proofs.lemmas.Option.{same_Some, slice_get-map, slice_get_within}
use Rattle.std.proofs.lemmas.Bool.Decides.{nat_tests}
use Rattle.std.proofs.lemmas.List.{length-append, append_cancel_left}
use Rattle.partition_names.specs.declared.granularity.Granularity.{Granularity}
use Rattle.partition_names.proofs.PartLemmas.{one_part, within}
use Rattle.durable_write.specs.Flush.{EndsRow, PlacesRise, put_all, file_at}
use Rattle.durable_write.specs.Held.{Filed, IsListed, filed_at, IsFiled, samples_of, Held, Listing, IsListedTo, ListsStill, file_of, listing_of}
use Rattle.durable_write.proofs.Places.{rise_put_all, found, Comes, all_put, rise_filter, sooner, later, put_other, put_own}
use Rattle.archive_core.specs.Growing.{FilesGoOn, HasMore, HasRunning}
use Rattle.store_manifest.specs.declared.entry.Entry.{Entry}
use Rattle.partition_names.specs.declared.part.Part.{Part}
use Rattle.tier_store.specs.Moving.{parts_in, GoesBeside}
use Rattle.std.specs.Option.{option_map}
use Rattle.std.proofs.lemmas.Bool.{cases_lt}
use Rattle.std.proofs.lemmas.List.Concat.{flat_map-append}
use Rattle.pb_lines.specs.File.{lines_of}
use Rattle.series_model.specs.Series.{RisesFrom, end_of}
use Rattle.series_model.specs.declared.sample.Sample.{Sample}
use Rattle.series_model.proofs.RisingLists.{RisesFrom-front}
use Rattle.store_manifest.specs.Entries.{Place, put}
use Rattle.durable_write.specs.Revival.{AreUnlisted}
use Rattle.durable_write.proofs.Written.{listed_stays, one_of_place}
use Rattle.durable_write.proofs.Planning.{of_files}
use Rattle.tier_store.proofs.Revived.{row_put_all, cut, longer_front, lines_within, in_row, own_split}
use Rattle.moves.specs.Table.{at}
use Rattle.moves.specs.declared.table.Running.{Running}
use Rattle.archive_core.specs.Written.{AreWritten, IsWritten, names_of_slot, written_name}
use Rattle.archive_core.specs.LimboTies.{NamesDiffer}
use Rattle.std.specs.FinMap.{FinMap, empty}
use Rattle.std.specs.Ordering.{nat_cmp}
use Rattle.pb_messages.specs.declared.about.About.{About}
use Rattle.pb_messages.specs.declared.about.State.{State}
use Rattle.pv_catalog.specs.Rows.{KeepsRows}
use Rattle.pv_catalog.proofs.Standing.{keeps_same}
use Rattle.durable_write.proofs.Staying.{file_grows, contains_map, same_cases}
use Rattle.tier_store.specs.Change.{IsKnown, Registers, Renames, Switches}
use Rattle.tier_store.specs.Limbo.{IsListedName}
use Rattle.tier_store.specs.Seen.{Seen}
use Rattle.tier_store.specs.Stores.{Stores, list_at, samples_in, tier, with_list, with_rows}
use Rattle.tier_store.proofs.RunningMoves.{beside_itself}
use Rattle.tier_store.proofs.Places.{list_other, manifest_at, tier_other, own_series}
use Rattle.tier_store.proofs.Showing.{known_to, registers_on, renames_on, switches_on}
use Rattle.act_model.specs.Machine.{MoveState}
use Rattle.archive_core.specs.Stands.{StoresGrow}
use Rattle.partition_names.specs.Part.{IsPart}
use Rattle.etl_mover.specs.Move.{Moving}
pub use Rattle.intake_half.proofs.Elements.{read_at, set_same}

-- Lists by their places, and with one element set.

pub same_or_not : (i k : ℕ) → (i ≡ k) ⊎ (i ≢ k)
same_or_not zero zero = inl refl
same_or_not zero (suc k) = inr (λ is. omega (arith, is))
same_or_not (suc i) zero = inr (λ is. omega (arith, is))
same_or_not (suc i) (suc k) = elim (same_or_not i k) [
  | inl is ↦ inl (ap suc is)
  | inr apart ↦ inr (λ is. apart (omega (arith, is)))
]

pub get_set_same : {A : Type 0} (xs : List A) (i : ℕ) (was x : A) → slice_get xs i ≡ Some was → slice_get (slice_set xs i x) i ≡ Some x
get_set_same {A} [] i was x here = absurd (cc (here))
get_set_same {A} (y ∷ xs) zero was x here = refl
get_set_same {A} (y ∷ xs) (suc i) was x here = get_set_same xs i was x here

-- the element of a place that is within
pub element : {A : Type 0} (xs : List A) (i : ℕ) → i < length xs → (x : A) × (slice_get xs i ≡ Some x)
element {A} [] i low = absurd (omega (arith, low))
element {A} (x ∷ xs) zero low = (x, refl)
element {A} (x ∷ xs) (suc i) low = element xs i (omega (arith, low))

-- what is true of all of two lists is true of all of each
pub all_first : {A : Type 0} (P : A → Type 0) (xs ys : List A) → AllByRecursion P (xs ++ ys) → AllByRecursion P xs
all_first P [] ys all = tt
all_first P (x ∷ xs) ys all = (all.0, all_first P xs ys all.1)

pub all_rest : {A : Type 0} (P : A → Type 0) (xs ys : List A) → AllByRecursion P (xs ++ ys) → AllByRecursion P ys
all_rest P [] ys all = all
all_rest P (x ∷ xs) ys all = all_rest P xs ys all.1

-- what is read at a place of the same list
pub read_in : {A : Type 0} (xs ys : List A) (i : ℕ) (x : A) → ys ≡ xs → x ≡ get_or ys i x → i < length xs → slice_get xs i ≡ Some x
read_in {A} xs ys i x same is low = read_at xs i x (is ∙ ap (λ (l : List A). get_or l i x) same) low

-- what stands in the front of a list
pub get_front : {A : Type 0} (xs ys : List A) (i : ℕ) (x : A) → slice_get xs i ≡ Some x → slice_get (xs ++ ys) i ≡ Some x
get_front {A} [] ys i x here = absurd (cc (here))
get_front {A} (y ∷ xs) ys zero x here = here
get_front {A} (y ∷ xs) ys (suc i) x here = get_front xs ys i x here

-- and behind it
pub get_last : {A : Type 0} (xs : List A) (x : A) → slice_get (xs ++ x ∷ []) (length xs) ≡ Some x
get_last {A} [] x = refl
get_last {A} (y ∷ xs) x = get_last xs x

pub get_map : {A B : Type 0} (v : A → B) (xs : List A) (k : ℕ) (x : A) → slice_get xs k ≡ Some x → slice_get (map v xs) k ≡ Some (v x)
get_map {A} {B} v xs k x here = slice_get-map v xs k ∙ ap (option_map v) here

pub get_take : {A : Type 0} (n k : ℕ) (xs : List A) (x : A) → slice_get (take n xs) k ≡ Some x → (k < n) × (slice_get xs k ≡ Some x)
get_take {A} zero k xs x here = absurd (cc (here))
get_take {A} (suc n) k [] x here = absurd (cc (here))
get_take {A} (suc n) zero (y ∷ xs) x here = (omega arith, here)
get_take {A} (suc n) (suc k) (y ∷ xs) x here = let rest = get_take n k xs x here in (let low = rest.0 in omega (arith, low), rest.1)

pub all_at : {A : Type 0} (P : A → Type 0) (xs : List A) (k : ℕ) (x : A) → All P xs → slice_get xs k ≡ Some x → P x
all_at {A} P [] k x all here = absurd (cc (here))
all_at {A} P (y ∷ xs) zero x all here = subst P (same_Some y x here) (All-head P y xs all)
all_at {A} P (y ∷ xs) (suc k) x all here = all_at P xs k x (All-tail P y xs all) here

-- what a list has, each through a function
pub map_in : {A B : Type 0} (g : A → B) (xs : List A) (x : A) → Contains xs x → Contains (map g xs) (g x)
map_in {A} {B} g [] x (k, low, is) = absurd (omega (arith, low))
map_in {A} {B} g (y ∷ ys) x (zero, low, is) = (zero, omega arith, ap g is)
map_in {A} {B} g (y ∷ ys) x (suc k, low, is) = let rest = map_in g ys x (k, omega (arith, low), is) in (suc rest.0, (let more = rest.1 in omega (arith, more)), rest.2)

pub map_out : {A B : Type 0} (g : A → B) (xs : List A) (r : B) → Contains (map g xs) r → (x : A) × Contains xs x × (g x ≡ r)
map_out {A} {B} g [] r (k, low, is) = absurd (omega (arith, low))
map_out {A} {B} g (y ∷ ys) r (zero, low, is) = (y, (zero, omega arith, refl), is)
map_out {A} {B} g (y ∷ ys) r (suc k, low, is) =
    let rest = map_out g ys r (k, omega (arith, low), is) in
    (rest.0, (let at = rest.1 in (suc at.0, (let more = at.1 in omega (arith, more)), at.2)), rest.2)

-- Parts of lists, as slices give them.

take_none : {A : Type 0} (n : ℕ) → ◌≡◌ {A = List A} (take n []) []
take_none {A} zero = refl
take_none {A} (suc n) = refl

drop_none : {A : Type 0} (n : ℕ) → ◌≡◌ {A = List A} (drop n []) []
drop_none {A} zero = refl
drop_none {A} (suc n) = refl

take_least : {A : Type 0} (n : ℕ) (xs : List A) → take (min n (length xs)) xs ≡ take n xs
take_least {A} zero xs = let none : min 0 (length xs) ≡ 0 = omega arith in ap (λ k. take k xs) none
take_least {A} (suc n) [] = take_none (min (suc n) 0)
take_least {A} (suc n) (x ∷ xs) =
    let less : min (suc n) (length (x ∷ xs)) ≡ suc (min n (length xs)) = omega arith in
    ap (λ k. take k (x ∷ xs)) less ∙ ap (λ ys. x ∷ ys) (take_least n xs)

drop_least : {A : Type 0} (n : ℕ) (xs : List A) → drop (min n (length xs)) xs ≡ drop n xs
drop_least {A} zero xs = let none : min 0 (length xs) ≡ 0 = omega arith in ap (λ k. drop k xs) none
drop_least {A} (suc n) [] = drop_none (min (suc n) 0)
drop_least {A} (suc n) (x ∷ xs) =
    let less : min (suc n) (length (x ∷ xs)) ≡ suc (min n (length xs)) = omega arith in
    ap (λ k. drop k (x ∷ xs)) less ∙ drop_least n xs

pub take_whole : {A : Type 0} (n : ℕ) (xs : List A) → length xs ≤ n → take n xs ≡ xs
take_whole {A} n [] low = take_none n
take_whole {A} zero (x ∷ xs) low = absurd (omega (arith, low))
take_whole {A} (suc n) (x ∷ xs) low = ap (λ ys. x ∷ ys) (take_whole n xs (omega (arith, low)))

pub map_take : {A B : Type 0} (f : A → B) (n : ℕ) (xs : List A) → map f (take n xs) ≡ take n (map f xs)
map_take {A} {B} f zero xs = refl
map_take {A} {B} f (suc n) [] = refl
map_take {A} {B} f (suc n) (x ∷ xs) = ap (λ ys. f x ∷ ys) (map_take f n xs)

map_drop : {A B : Type 0} (f : A → B) (n : ℕ) (xs : List A) → map f (drop n xs) ≡ drop n (map f xs)
map_drop {A} {B} f zero xs = refl
map_drop {A} {B} f (suc n) [] = refl
map_drop {A} {B} f (suc n) (x ∷ xs) = map_drop f n xs

-- what is mapped of a part that is cut from a list, and no further than the list goes
pub map_part : {A B : Type 0} (f : A → B) (xs : List A) (from most a b i : ℕ) → a ≡ min from (length xs) → b ≡ min most (length (take (length xs - a) (drop a xs))) → length (take b (take (length xs - a) (drop a xs))) ≤ i → map f (take i (take b (take (length xs - a) (drop a xs)))) ≡ take most (drop from (map f xs))
map_part {A} {B} f xs from most a b i a_is b_is end =
    let rest : take (length xs - a) (drop a xs) ≡ drop a xs = take_whole (length xs - a) (drop a xs) (let len = length-drop a xs in omega (arith, len)) in
    let part : take b (take (length xs - a) (drop a xs)) ≡ take most (take (length xs - a) (drop a xs)) = ap (λ k. take k (take (length xs - a) (drop a xs))) b_is ∙ take_least most (take (length xs - a) (drop a xs)) in
    let dropped : drop a xs ≡ drop from xs = ap (λ k. drop k xs) a_is ∙ drop_least from xs in
    ap (map f) (take_whole i (take b (take (length xs - a) (drop a xs))) end ∙ (part ∙ (ap (take most) rest ∙ ap (take most) dropped)))
    ∙ (map_take f most (drop from xs) ∙ ap (take most) (map_drop f from xs))

-- What a flush makes of the files of a row: they stay, or the last of them goes on, and others stand behind them.

-- a file of the row is among the row's files
passes_in : (row : ℕ) (xs : List Filed) (f : Filed) → nat_eq f.entry.series row ≡ true → Contains xs f → Contains (of_row row xs) f
passes_in row [] f own (k, low, is) = absurd (omega (arith, low))
passes_in row (x ∷ xs) f own within = by_test (nat_eq x.entry.series row) refl within (λ rest. passes_in row xs f own rest)
  where
    by_test : (b : Bool) → nat_eq x.entry.series row ≡ b → Contains (x ∷ xs) f → (Contains xs f → Contains (of_row row xs) f) → Contains (cond b (x ∷ of_row row xs) (of_row row xs)) f
    by_test true is (zero, low, at) rest = (0, omega arith, at)
    by_test true is (suc k, low, at) rest = Contains-append_right (x ∷ []) (of_row row xs) f (rest (k, omega (arith, low), at))
    by_test false is (zero, low, at) rest = absurd (let yes : nat_eq x.entry.series row ≡ true = ap (λ (y : Filed). nat_eq y.entry.series row) at ∙ own in cc (yes, is))
    by_test false is (suc k, low, at) rest = rest (k, omega (arith, low), at)

-- LISTS OF SAMPLES

-- THE FLUSH

-- each file that was listed at its place, or was in limbo, is shorter
abbrev pub AreLonger : List Filed → List Filed → Type 0
AreLonger both written = All (λ (f : Filed). (old : Filed) → file_at (filed_at f) both ≡ Some old → old.entry.len < f.entry.len) written

-- and the header of one that was there is as long
abbrev pub HeadsStay : List Filed → List Filed → Type 0
HeadsStay both written = All (λ (f : Filed). (old : Filed) → file_at (filed_at f) both ≡ Some old → f.entry.head_len ≡ old.entry.head_len) written

-- what is known of a flush of a row where the stores stand: what was there and what is written are files of their rows, headers stay, and the row
-- gets these samples behind its own
pub record FlushedTo (g : Granularity) (rows : List Row) (listed limbo written : List Filed) (row : ℕ) (more : List Sample) : Type 0 where
  pub listed_are : All (IsFiled g rows) listed
  pub written_are : All (IsFiled g rows) written
  pub heads : All (λ (f : Filed). (old : Filed) → file_at (filed_at f) (put_all listed limbo) ≡ Some old → f.head ≡ old.head) written
  pub samples : samples_of row (put_all (put_all listed limbo) written) ≡ samples_of row (put_all listed limbo) ++ more

module _ (g : Granularity) (rows : List Row) (listed limbo written : List Filed) (row : ℕ) (rise : PlacesRise listed) (unlisted : AreUnlisted listed limbo) (rises : PlacesRise written) (ends : All (EndsRow (put_all listed limbo)) written) (longer : AreLonger (put_all listed limbo) written) (same_heads : HeadsStay (put_all listed limbo) written)
    (listed_of : All (IsListed g rows) listed) (written_of : All (IsListed g rows) written) (stands : Bool) (end : ℕ) (more : List Sample) (later_than : IsTrue stands → RisesFrom end more) (to : IsTrue stands → FlushedTo g rows listed limbo written row more) where
  abbrev both : List Filed
  both = put_all listed limbo

  both_rise : PlacesRise both
  both_rise = rise_put_all listed limbo rise

  listed_in : (f : Filed) → Contains listed f → Contains both f
  listed_in f within = listed_stays listed limbo f rise unlisted within

  ends_listed : All (EndsRow listed) written
  ends_listed k d lt i e low = All-contains (λ (x : Filed). x.entry.series ≡ (get_or written k d).entry.series → x.entry.part.start ≤ (get_or written k d).entry.part.start) both (get_or listed i e) (ends k d lt) (listed_in (get_or listed i e) (Contains-get_or listed i e low))

  module _ (f : Filed) (fs : List Filed) (are : of_row row written ≡ f ∷ fs) where
    abbrev n : ℕ
    n = f.entry.part.start

    f_in : Contains written f × (f.entry.series ≡ row)
    f_in = in_row row written f (subst (λ (l : List Filed). Contains l f) (sym are) (0, omega arith, refl))

    up_to : All (λ (k : Filed). k.entry.series ≡ row → k.entry.part.start ≤ n) both
    up_to = subst (λ (r : ℕ). All (λ (k : Filed). k.entry.series ≡ r → k.entry.part.start ≤ n) both) f_in.1 (All-contains (EndsRow both) written f ends f_in.0)

    listed_up_to : All (λ (k : Filed). k.entry.series ≡ row → k.entry.part.start ≤ n) listed
    listed_up_to k d lt = All-contains (λ (x : Filed). x.entry.series ≡ row → x.entry.part.start ≤ n) both (get_or listed k d) up_to (listed_in (get_or listed k d) (Contains-get_or listed k d lt))

    now : of_row row (put_all listed written) ≡ sooner n (of_row row listed) ++ (f ∷ fs)
    now = subst (λ (l : List Filed). of_row row (put_all listed written) ≡ cut l (of_row row listed) ++ l) are (row_put_all row written listed rises ends_listed)

    -- the row's last listed file, in whose partition the first of the written files is
    module _ (y : Filed) (start : y.entry.part.start ≡ n) (y_in : Contains listed y) (y_row : y.entry.series ≡ row) where
      same_place : filed_at f ≡ filed_at y
      same_place = λ i. ((f_in.1 ∙ sym y_row) i, sym start i)

      here : file_at (filed_at f) both ≡ Some y
      here = ap (λ (p : Place). file_at p both) same_place ∙ All-contains (λ (k : Filed). file_at (filed_at k) both ≡ Some k) both y (found both both_rise) (listed_in y y_in)

      longer_now : y.entry.len < f.entry.len
      longer_now = All-contains (λ (k : Filed). (old : Filed) → file_at (filed_at k) both ≡ Some old → old.entry.len < k.entry.len) written f longer f_in.0 y here

      head_now : f.entry.head_len ≡ y.entry.head_len
      head_now = All-contains (λ (k : Filed). (old : Filed) → file_at (filed_at k) both ≡ Some old → k.entry.head_len ≡ old.entry.head_len) written f same_heads f_in.0 y here

      same_part : f.entry.part ≡ y.entry.part
      same_part =
          let f_part = (All-contains (IsListed g rows) written f written_of f_in.0).part in
          let y_part = (All-contains (IsListed g rows) listed y listed_of y_in).part in
          let mine = (within g f.entry.part f_part).1 in
          let its = (within g y.entry.part y_part).1 in
          one_part g f.entry.part y.entry.part n f_part y_part (omega arith, mine) (omega (arith, start), omega (arith, its, start))

      module _ (stand : IsTrue stands) (both_are : of_row row both ≡ sooner n (of_row row both) ++ y ∷ []) where
        f_is : IsFiled g rows f
        f_is = All-contains (IsFiled g rows) written f (to stand).written_are f_in.0

        y_is : IsFiled g rows y
        y_is = All-contains (IsFiled g rows) listed y (to stand).listed_are y_in

        same_head : f.head ≡ y.head
        same_head = All-contains (λ (k : Filed). (old : Filed) → file_at (filed_at k) both ≡ Some old → k.head ≡ old.head) written f (to stand).heads f_in.0 y here

        was : of_files (of_row row both) ≡ of_files (sooner n (of_row row both)) ++ y.samples
        was = ap of_files both_are ∙ (flat_map-append (λ (k : Filed). k.samples) (sooner n (of_row row both)) (y ∷ []) ∙ ap (λ (l : List Sample). of_files (sooner n (of_row row both)) ++ l) (append-nil y.samples))

        is : of_files (of_row row (put_all both written)) ≡ of_files (sooner n (of_row row both)) ++ of_files (f ∷ fs)
        is =
            subst (λ (l : List Filed). of_files (of_row row (put_all both written)) ≡ of_files (cut l (of_row row both)) ++ of_files l) are
            (ap of_files (row_put_all row written both rises ends) ∙ flat_map-append (λ (k : Filed). k.samples) (cut (of_row row written) (of_row row both)) (of_row row written))

        -- the first written file begins with what was there
        begins : f.samples ++ of_files fs ≡ y.samples ++ more
        begins =
            append_cancel_left (of_files (sooner n (of_row row both))) (f.samples ++ of_files fs) (y.samples ++ more)
            (sym is ∙ ((to stand).samples ∙ (ap (λ (l : List Sample). l ++ more) was ∙ append_assoc (of_files (sooner n (of_row row both))) y.samples more)))

        not_within : length f.samples ≤ length y.samples → ⊥
        not_within le =
            let rest = longer_front y.samples f.samples more (of_files fs) (sym begins) le in
            let len = longer_now in
            let mine = y_is.len in
            let its = f_is.len in
            let heads = ap length same_head in
            let lines : length (lines_of f.samples) ≤ length (lines_of y.samples) = subst (λ (l : List Sample). length (lines_of f.samples) ≤ length (lines_of l)) (sym rest.1) (lines_within f.samples rest.0) in
            omega (arith, len, mine, its, length-append y.head (10 ∷ lines_of y.samples), length-append f.head (10 ∷ lines_of f.samples), heads, lines)

        more_now : HasMore end y f
        more_now = elim (cases_lt (length y.samples) (length f.samples)) [
          | inr le ↦ absurd (not_within le)
          | inl lt ↦
              let rest = longer_front f.samples y.samples (of_files fs) more begins (omega (arith, lt)) in
              let behind : rest.0 ++ of_files fs ≡ more = append_cancel_left y.samples (rest.0 ++ of_files fs) more (sym (append_assoc y.samples rest.0 (of_files fs)) ∙ (ap (λ (l : List Sample). l ++ of_files fs) (sym rest.1) ∙ begins)) in
              record {
                back = rest.0;
                samples = rest.1;
                later = RisesFrom-front end rest.0 (of_files fs) (subst (RisesFrom end) (sym behind) (later_than stand));
              }
        ]

    both_last : (y : Filed) → y.entry.part.start ≡ n → Contains listed y → y.entry.series ≡ row → of_row row both ≡ sooner n (of_row row both) ++ y ∷ []
    both_last y start y_in y_row = go (own_split row both n both_rise up_to)
      where
        there : Contains (of_row row both) y
        there = passes_in row both y (grind (arith, nat_tests, y_row)) (listed_in y y_in)

        go : ((sooner n (of_row row both) ≡ of_row row both) × AllByRecursion (λ (k : Filed). k.entry.part.start < n) (of_row row both)) ⊎ ((x : Filed) × (x.entry.part.start ≡ n) × Contains (of_row row both) x × (of_row row both ≡ sooner n (of_row row both) ++ x ∷ [])) → of_row row both ≡ sooner n (of_row row both) ++ y ∷ []
        go (inl before) = let lt = All-contains (λ (k : Filed). k.entry.part.start < n) (of_row row both) y (All-from_recursion (λ (k : Filed). k.entry.part.start < n) (of_row row both) before.1) there in absurd (omega (arith, lt, start))
        go (inr (x, x_start, x_in, x_are)) =
            let of = in_row row both x x_in in
            let same : x ≡ y = one_of_place both y x both_rise (listed_in y y_in) of.0 (λ i. ((of.1 ∙ sym y_row) i, (x_start ∙ sym start) i)) in
            subst (λ (z : Filed). of_row row both ≡ sooner n (of_row row both) ++ z ∷ []) same x_are

    goes_some : FilesGoOn stands end (of_row row listed) (of_row row (put_all listed written))
    goes_some = go (own_split row listed n rise listed_up_to)
      where
        go : ((sooner n (of_row row listed) ≡ of_row row listed) × AllByRecursion (λ (k : Filed). k.entry.part.start < n) (of_row row listed)) ⊎ ((x : Filed) × (x.entry.part.start ≡ n) × Contains (of_row row listed) x × (of_row row listed ≡ sooner n (of_row row listed) ++ x ∷ [])) → FilesGoOn stands end (of_row row listed) (of_row row (put_all listed written))
        go (inl all) = inl (f ∷ fs, now ∙ ap (λ (l : List Filed). l ++ (f ∷ fs)) all.0)
        go (inr (y, start, y_within, y_are)) =
            let of = in_row row listed y y_within in
            let len = longer_now y start of.0 of.1 in
            inr (record {
              front = sooner n (of_row row listed);
              last = y;
              grown = f;
              more = fs;
              were = y_are;
              are = now;
              further = record { part = same_part y start of.0 of.1; head_len = head_now y start of.0 of.1; len = omega (arith, len); more = λ stand. more_now y start of.0 of.1 stand (both_last y start of.0 of.1) };
            })

  goes : (fs : List Filed) → of_row row written ≡ fs → FilesGoOn stands end (of_row row listed) (of_row row (put_all listed written))
  goes [] are = inl ([], row_put_all row written listed rises ends_listed ∙ ap (λ (l : List Filed). cut l (of_row row listed) ++ l) are)
  goes (f ∷ fs) are = goes_some f fs are

  pub files_go_on : FilesGoOn stands end (of_row row listed) (of_row row (put_all listed written))
  files_go_on = goes (of_row row written) refl

-- The names of what the moves of a table are to list.

-- each name is there
each_there : (rows : List Row) (slots : List (Option (Running Moving))) (n : ℕ) (running : Running Moving) → at slots n ≡ Some running → (e : Entry) → Contains running.moving.pending e → Contains (flat_map (names_of_slot rows) slots) (written_name rows running e)
each_there rows [] n running here e within = absurd (cc (here))
each_there rows (slot ∷ slots) zero running here e within =
    subst (λ (o : Option (Running Moving)). Contains (names_of_slot rows o ++ flat_map (names_of_slot rows) slots) (written_name rows running e)) (sym here)
    (Contains-append_left (map (written_name rows running) running.moving.pending) (flat_map (names_of_slot rows) slots) (written_name rows running e) (map_in (written_name rows running) running.moving.pending e within))
each_there rows (slot ∷ slots) (suc n) running here e within = Contains-append_right (names_of_slot rows slot) (flat_map (names_of_slot rows) slots) (written_name rows running e) (each_there rows slots n running here e within)

-- and no other
later_written : (rows : List Row) (slot : Option (Running Moving)) (slots : List (Option (Running Moving))) (names : List Name) → All (IsWritten rows slots) names → All (IsWritten rows (slot ∷ slots)) names
later_written rows slot slots names all k d low = let is = all k d low in record { number = suc is.number; running = is.running; runs = is.runs; entry = is.entry; within = is.within; named = is.named }

slot_written : (rows : List Row) (slot : Option (Running Moving)) (slots : List (Option (Running Moving))) (o : Option (Running Moving)) → slot ≡ o → All (IsWritten rows (slot ∷ slots)) (names_of_slot rows o)
slot_written rows slot slots None is = All-nil (IsWritten rows (slot ∷ slots))
slot_written rows slot slots (Some running) is = go running.moving.pending (λ e within. within)
  where
    go : (es : List Entry) → ((e : Entry) → Contains es e → Contains running.moving.pending e) → All (IsWritten rows (slot ∷ slots)) (map (written_name rows running) es)
    go [] those = All-nil (IsWritten rows (slot ∷ slots))
    go (e ∷ es) those =
        All-cons (IsWritten rows (slot ∷ slots)) (written_name rows running e) (map (written_name rows running) es)
        (record { number = 0; running = running; runs = is; entry = e; within = those e (0, omega arith, refl); named = refl })
        (go es (λ x within. those x (Contains-append_right (e ∷ []) es x within)))

just_there : (rows : List Row) (slots : List (Option (Running Moving))) → All (IsWritten rows slots) (flat_map (names_of_slot rows) slots)
just_there rows [] = All-nil (IsWritten rows [])
just_there rows (slot ∷ slots) = All-append (IsWritten rows (slot ∷ slots)) (names_of_slot rows slot) (flat_map (names_of_slot rows) slots) (slot_written rows slot slots slot refl) (later_written rows slot slots (flat_map (names_of_slot rows) slots) (just_there rows slots))

pub are_written : (rows : List Row) (slots : List (Option (Running Moving))) (names : List Name) → names ≡ flat_map (names_of_slot rows) slots → AreWritten rows slots names
are_written rows slots names is = subst (AreWritten rows slots) (sym is) (record {
  each = λ n running here k d low. each_there rows slots n running here (get_or running.moving.pending k d) (Contains-get_or running.moving.pending k d low);
  just = just_there rows slots;
})

-- Lists of things with names: two that have the same names, each once, are equally long.

-- ELEMENTS

-- what is true of each element is true of that at a place
pub get_all : {A : Type 0} (P : A → Type 0) (xs : List A) (k : ℕ) (x : A) → AllByRecursion P xs → slice_get xs k ≡ Some x → P x
get_all {A} P [] k x all here = absurd (cc (here))
get_all {A} P (y ∷ xs) zero x all here = subst P (same_Some y x here) all.0
get_all {A} P (y ∷ xs) (suc k) x all here = get_all P xs k x all.1 here

pub contains_head : {A : Type 0} (x : A) (xs : List A) → Contains (x ∷ xs) x
contains_head {A} x xs = (0, omega arith, refl)

pub contains_tail : {A : Type 0} (x : A) (xs : List A) (y : A) → Contains xs y → Contains (x ∷ xs) y
contains_tail {A} x xs y (k, low, is) = (suc k, omega (arith, low), is)

pub contains_cases : {A : Type 0} (x : A) (xs : List A) (y : A) → Contains (x ∷ xs) y → (x ≡ y) ⊎ Contains xs y
contains_cases {A} x xs y (zero, low, is) = inl is
contains_cases {A} x xs y (suc k, low, is) = inr (k, omega (arith, low), is)

-- and what is true of all that a list contains is true of each
pub all_of : {A : Type 0} (P : A → Type 0) (xs : List A) → ((x : A) → Contains xs x → P x) → AllByRecursion P xs
all_of {A} P [] each = tt
all_of {A} P (x ∷ xs) each = (each x (contains_head x xs), all_of P xs (λ y there. each y (contains_tail x xs y there)))

pub of_all : {A : Type 0} (P : A → Type 0) (xs : List A) (x : A) → AllByRecursion P xs → Contains xs x → P x
of_all {A} P [] x all (k, low, is) = absurd (omega (arith, low))
of_all {A} P (y ∷ xs) x all there = elim (contains_cases y xs x there) [
  | inl same ↦ subst P same all.0
  | inr rest ↦ of_all P xs x all.1 rest
]

-- LENGTHS

-- the list in two, around an element
record Around {A : Type 0} (xs : List A) (x : A) : Type 0 where
  front : List A
  rest : List A
  are : xs ≡ front ++ (x ∷ rest)

around : {A : Type 0} (xs : List A) (x : A) → Contains xs x → Around xs x
around {A} [] x (k, low, is) = absurd (omega (arith, low))
around {A} (y ∷ xs) x there = elim (contains_cases y xs x there) [
  | inl same ↦ record { front = []; rest = xs; are = ap (λ (z : A). z ∷ xs) same }
  | inr later ↦ (let more = around xs x later in record { front = y ∷ more.front; rest = more.rest; are = ap (λ (zs : List A). y ∷ zs) more.are })
]

-- a list is no longer than another that has all its names, where each stands once
pub no_longer : {A B : Type 0} (na : A → Name) (nb : B → Name) (xs : List A) (ys : List B) → NamesDiffer na xs → ((x : A) → Contains xs x → (y : B) × Contains ys y × (nb y ≡ na x)) → length xs ≤ length ys
no_longer {A} {B} na nb [] ys differ each = omega arith
no_longer {A} {B} na nb (x ∷ xs) ys differ each =
    let own = each x (contains_head x xs) in
    let split = around ys own.0 own.1 in
    let less : length xs ≤ length (split.front ++ split.rest) = no_longer na nb xs (split.front ++ split.rest) differ.1 (λ z there. other z there own.0 own.2 split) in
    let all : length ys ≡ length (split.front ++ (own.0 ∷ split.rest)) = ap length split.are in
    let long = length-append split.front (own.0 ∷ split.rest) in
    let short = length-append split.front split.rest in
    omega (arith, less, all, long, short)
  where
    other : (z : A) → Contains xs z → (y : B) → nb y ≡ na x → (split : Around ys y) → (w : B) × Contains (split.front ++ split.rest) w × (nb w ≡ na z)
    other z there y named split =
        let one = each z (contains_tail x xs z there) in
        let apart : na z ≢ na x = of_all (λ (v : A). na v ≢ na x) xs z differ.0 there in
        let within : Contains (split.front ++ (y ∷ split.rest)) one.0 = subst (λ (l : List B). Contains l one.0) split.are one.1 in (
          one.0,
          elim (Contains-append_cases split.front (y ∷ split.rest) one.0 within) [
            | inl before ↦ Contains-append_left split.front split.rest one.0 before
            | inr behind ↦ elim (contains_cases y split.rest one.0 behind) [
              | inl same ↦ absurd (apart (sym one.2 ∙ (ap nb (sym same) ∙ named)))
              | inr later ↦ Contains-append_right split.front split.rest one.0 later
            ]
          ],
          one.2,
        )

-- Stores that only grow: what is listed in memory is listed still.

-- WHAT IS LISTED IN MEMORY

named_in : (at : Seen) (s : Stores) (name : Name) → IsKnown at.catalogue at.manifests s → IsListedName at name → (place : ℕ) × (place < 3) × IsListedTo (listing_of (tier place s)) name 0
named_in at s name known is =
    let low = slice_get_within at.manifests is.place is.manifest is.here in
    let three = known.three in
    (is.place, omega (arith, low, three), known_to at s is.place is.manifest name 0 known is.here (record { entry = is.entry; within = is.within; named = is.named; longer = omega arith }))

listed_name : (at : Seen) (s : Stores) (place : ℕ) (name : Name) → IsKnown at.catalogue at.manifests s → place < 3 → IsListedTo (listing_of (tier place s)) name 0 → IsListedName at name
listed_name at s place name known low to =
    let three = known.three in
    let m = manifest_at at.manifests place (omega (arith, low, three)) in
    record {
      place = place;
      manifest = m.0;
      here = m.1;
      entry = to.entry;
      within = subst (λ (es : List Entry). Contains es to.entry) (sym (known.each place m.0 m.1).entries) to.within;
      named = ap (λ (rows : List Row). file_of (place + 1, rows) to.entry) known.rows ∙ to.named;
    }

pub stays_listed : {moves : FinMap nat_cmp MoveState} (old new : Seen) (s t : Stores) (name : Name) → IsKnown old.catalogue old.manifests s → IsKnown new.catalogue new.manifests t → StoresGrow moves s t → IsListedName old name → IsListedName new name
stays_listed {moves} old new s t name was now grow is = let at = named_in old s name was is in listed_name new t at.0 name now at.1 (grow.lists at.0 name at.1 at.2)

-- the rows in memory go on as those of the stores do
pub rows_go_on : {moves : FinMap nat_cmp MoveState} (old new : Seen) (s t : Stores) → IsKnown old.catalogue old.manifests s → IsKnown new.catalogue new.manifests t → StoresGrow moves s t → KeepsRows old.catalogue.rows new.catalogue.rows
rows_go_on {moves} old new s t was now grow =
    subst (λ (rows : List Row). KeepsRows rows new.catalogue.rows) (sym was.rows) (subst (λ (rows : List Row). KeepsRows s.rows rows) (sym now.rows) grow.rows)

-- beside fewer moves they grow as well
pub grow_fewer : {moves fewer : FinMap nat_cmp MoveState} {s t : Stores} → ((row : ℕ) → HasRunning fewer row → HasRunning moves row) → StoresGrow moves s t → StoresGrow fewer s t
grow_fewer {moves} {fewer} {s} {t} were grow = record { rows = grow.rows; lists = grow.lists; beside = λ place row runs from low. grow.beside place row (were row runs) from low; sources = λ place row runs low. grow.sources place row (were row runs) low }

-- CHANGES

-- the rows go on, and the lists stay
pub rows_beside : (i row : ℕ) (held made : Stores) → made ≡ with_rows held made.rows → KeepsRows held.rows made.rows → GoesBeside i row held made
rows_beside i row held made same keeps = record {
  rows = keeps;
  stands = ap (λ (s : Stores). s.stands) same;
  listed = ap (λ (s : Stores). of_row row (list_at i s)) same;
  parts = λ from next. ([], ap (λ (s : Stores). parts_in row (list_at from s)) same ∙ sym (append-nil (parts_in row (list_at from held))));
}

-- where no move matters
abbrev pub no_moves : FinMap nat_cmp MoveState
no_moves = empty

pub same_grow : (moves : FinMap nat_cmp MoveState) (s : Stores) → StoresGrow moves s s
same_grow moves s = record { rows = keeps_same s.rows; lists = λ place name low to. to; beside = λ place row runs from low. beside_itself place row s; sources = λ place row runs low. inl ([], sym (append-nil (of_row row (list_at place s)))) }

-- the rows go on, and the lists stay
rows_grow : (moves : FinMap nat_cmp MoveState) (at : Seen) (s made : Stores) → IsKnown at.catalogue at.manifests s → (made ≡ with_rows s made.rows) × KeepsRows s.rows made.rows → StoresGrow moves s made
rows_grow moves at s made known on = record {
  rows = on.1;
  lists = λ place name low to. subst (λ (x : Stores). IsListedTo (listing_of (tier place x)) name 0) (sym on.0) (named place name low to);
  beside = λ place row runs from low. rows_beside place row s made on.0 on.1;
  sources = λ place row runs low. inl ([], ap (λ (x : Stores). of_row row (list_at place x)) on.0 ∙ sym (append-nil (of_row row (list_at place s))));
}
  where
    named : (place : ℕ) (name : Name) → place < 3 → IsListedTo (listing_of (tier place s)) name 0 → IsListedTo (listing_of (tier place (with_rows s made.rows))) name 0
    named place name low to =
        let three = known.three in
        let m = manifest_at at.manifests place (omega (arith, low, three)) in
        let f = contains_map (list_at place s) to.entry to.within in
        let listed = All-contains (IsListed m.0.granularity s.rows) (list_at place s) f.0 (known.each place m.0 m.1).valid.filed.listed f.1 in
        let same = file_grows m.0.granularity (place + 1) s.rows made.rows f.0 on.1 listed in
        record { entry = to.entry; within = to.within; named = subst (λ (e : Entry). file_of (place + 1, made.rows) e ≡ file_of (place + 1, s.rows) e) f.2 same ∙ to.named; longer = to.longer }

pub register_grows : (moves : FinMap nat_cmp MoveState) (at : Seen) (name : List ℕ) (about : About) (s made : Stores) → IsKnown at.catalogue at.manifests s → Registers name about s made → StoresGrow moves s made
register_grows moves at name about s made known by = rows_grow moves at s made known (registers_on name about s made by)

pub switch_grows : (moves : FinMap nat_cmp MoveState) (at : Seen) (row : ℕ) (from to : State) (s made : Stores) → IsKnown at.catalogue at.manifests s → Switches row from to s made → StoresGrow moves s made
switch_grows moves at row from to s made known by = rows_grow moves at s made known (switches_on row from to s made by)

pub rename_grows : (moves : FinMap nat_cmp MoveState) (at : Seen) (row : ℕ) (name : List ℕ) (s made : Stores) → IsKnown at.catalogue at.manifests s → Renames row name s made → StoresGrow moves s made
rename_grows moves at row name s made known by = rows_grow moves at s made known (renames_on row name s made by)

pub still_named : (old new : Listing) (name : Name) → ListsStill old new → IsListedTo old name 0 → IsListedTo new name 0
still_named old new name still to =
    let more = All-contains (λ (e : Entry). IsListedTo new (file_of old.0 e) e.len) old.1 to.entry still to.within in
    record { entry = more.entry; within = more.within; named = more.named ∙ to.named; longer = omega arith }

-- store 1 lists all that it listed, and goes on beside moves, and the others stay
pub short_grows : (moves : FinMap nat_cmp MoveState) (s made : Stores) → made ≡ with_list 0 made.short s → ListsStill (listing_of (tier 0 s)) (listing_of (tier 0 made)) → ((row : ℕ) → (more : List Part) × (parts_in row made.short ≡ parts_in row s.short ++ more))
    → ((row : ℕ) → HasRunning moves row → FilesGoOn s.stands (end_of (samples_in row s)) (of_row row s.short) (of_row row made.short)) → StoresGrow moves s made
short_grows moves s made same_lists still more on = record {
  rows = subst (λ (rows : List Row). KeepsRows s.rows rows) (sym (ap (λ (x : Stores). x.rows) same_lists)) (keeps_same s.rows);
  lists = λ place name low to. elim (same_cases place 0) [
    | inl is ↦ subst (λ (k : ℕ). IsListedTo (listing_of (tier k made)) name 0) (sym is) (still_named (listing_of (tier 0 s)) (listing_of (tier 0 made)) name still (subst (λ (k : ℕ). IsListedTo (listing_of (tier k s)) name 0) is to))
    | inr apart ↦ (
        let same : tier place made ≡ tier place s = ap (tier place) same_lists ∙ tier_other 0 place made.short s (omega arith) low apart in
        subst (λ (t : Held). IsListedTo (listing_of t) name 0) (sym same) to
        )
  ];
  beside = λ place row runs from low.
      let same : list_at place made ≡ list_at place s = ap (list_at place) same_lists ∙ list_other 0 place made.short s (omega arith) low (λ is. omega (arith, is, from)) in
      record {
        rows = subst (λ (rows : List Row). KeepsRows s.rows rows) (sym (ap (λ (x : Stores). x.rows) same_lists)) (keeps_same s.rows);
        stands = ap (λ (x : Stores). x.stands) same_lists;
        listed = ap (of_row row) same;
        parts = λ before next. elim (same_cases before 0) [
          | inl is ↦ subst (λ (k : ℕ). (others : List Part) × (parts_in row (list_at k made) ≡ parts_in row (list_at k s) ++ others)) (sym is) (more row)
          | inr apart ↦ (
              let others : list_at before made ≡ list_at before s = ap (list_at before) same_lists ∙ list_other 0 before made.short s (omega arith) (omega (arith, next, low)) apart in
              ([], ap (parts_in row) others ∙ sym (append-nil (parts_in row (list_at before s))))
              )
        ];
      };
  sources = λ place row runs low. elim (same_cases place 0) [
    | inl is ↦ subst (λ (k : ℕ). FilesGoOn s.stands (end_of (samples_in row s)) (of_row row (list_at k s)) (of_row row (list_at k made))) (sym is) (on row runs)
    | inr apart ↦ (
        let same : list_at place made ≡ list_at place s = ap (list_at place) same_lists ∙ list_other 0 place made.short s (omega arith) low apart in
        inl ([], ap (of_row row) same ∙ sym (append-nil (of_row row (list_at place s))))
        )
  ];
}

-- A flush lists of each row the partitions that store 1 listed of it, and further ones behind them.

abbrev part_of : Filed → Part
part_of f = f.entry.part

abbrev IsOf : Granularity → Filed → Type 0
IsOf g f = IsPart g f.entry.part

abbrev StartsBy : ℕ → Filed → Type 0
StartsBy n f = f.entry.part.start ≤ n

-- of a row all start no later than n
row_by : (row n : ℕ) (xs : List Filed) → All (λ (k : Filed). k.entry.series ≡ row → k.entry.part.start ≤ n) xs → AllByRecursion (StartsBy n) (of_row row xs)
row_by row n [] all = tt
row_by row n (x ∷ xs) all = by_test (nat_eq x.entry.series row) refl (row_by row n xs (All-tail (λ (k : Filed). k.entry.series ≡ row → k.entry.part.start ≤ n) x xs all))
  where
    first : x.entry.series ≡ row → x.entry.part.start ≤ n
    first = All-head (λ (k : Filed). k.entry.series ≡ row → k.entry.part.start ≤ n) x xs all

    by_test : (b : Bool) → nat_eq x.entry.series row ≡ b → AllByRecursion (StartsBy n) (of_row row xs) → AllByRecursion (StartsBy n) (cond b (x ∷ of_row row xs) (of_row row xs))
    by_test true is rest = (first (grind (arith, nat_tests, is)), rest)
    by_test false is rest = rest

none_later : (n : ℕ) (xs : List Filed) → AllByRecursion (StartsBy n) xs → later n xs ≡ []
none_later n [] all = refl
none_later n (x ∷ xs) all =
    let le : x.entry.part.start ≤ n = all.0 in
    let test : nat_lt n x.entry.part.start ≡ false = grind (arith, nat_tests, le) in
    rw test (none_later n xs all.1)

module _ (g : Granularity) (row : ℕ) where
  module _ (w : Filed) (w_row : w.entry.series ≡ row) (w_is : IsOf g w) where
    part_alike : (y : Filed) → IsOf g y → w.entry.part.start ≤ y.entry.part.start → y.entry.part.start ≤ w.entry.part.start → w.entry.part ≡ y.entry.part
    part_alike y y_is low high =
        let mine = (within g w.entry.part w_is).1 in
        let theirs = (within g y.entry.part y_is).1 in
        one_part g w.entry.part y.entry.part w.entry.part.start w_is y_is (omega arith, mine) (high, omega (arith, low, theirs))

    -- nothing stands behind one that starts where it does
    alone : (y : Filed) (ys : List Filed) → y.entry.series ≡ row → w.entry.part.start ≤ y.entry.part.start → All (Comes y) ys → AllByRecursion (λ (k : Filed). k.entry.series ≡ row) ys → AllByRecursion (StartsBy w.entry.part.start) ys → ys ≡ []
    alone y [] y_row ge before own all = refl
    alone y (z ∷ ys) y_row ge before own all =
        let first : Comes y z = All-head (Comes y) z ys before in
        let z_row = own.0 in
        let lt : y.entry.part.start < z.entry.part.start = grind (arith, nat_tests, first, y_row, z_row) in
        let le = all.0 in
        absurd (omega (arith, lt, le, ge))

    -- put behind a row's files, it adds its partition or goes on in the last one
    put_last : (ys : List Filed) → PlacesRise ys → AllByRecursion (λ (k : Filed). k.entry.series ≡ row) ys → AllByRecursion (IsOf g) ys → AllByRecursion (StartsBy w.entry.part.start) ys → (more : List Part) × (map part_of (sooner w.entry.part.start ys ++ w ∷ []) ≡ map part_of ys ++ more)
    put_last [] rise own are all = (w.entry.part ∷ [], refl)
    put_last (y ∷ ys) rise own are all = by_test (nat_lt y.entry.part.start w.entry.part.start) refl (put_last ys rise.1 own.1 are.1 all.1)
      where
        by_test : (b : Bool) → nat_lt y.entry.part.start w.entry.part.start ≡ b → (more : List Part) × (map part_of (sooner w.entry.part.start ys ++ w ∷ []) ≡ map part_of ys ++ more) → (more : List Part) × (map part_of (cond b (y ∷ sooner w.entry.part.start ys) (sooner w.entry.part.start ys) ++ w ∷ []) ≡ map part_of (y ∷ ys) ++ more)
        by_test true is rest = (rest.0, ap (λ (ps : List Part). y.entry.part ∷ ps) rest.1)
        by_test false is rest =
            let ge : w.entry.part.start ≤ y.entry.part.start = grind (arith, nat_tests, is) in
            let none : ys ≡ [] = alone y ys own.0 ge rise.0 own.1 all.1 in
            let same = part_alike y are.0 ge all.0 in
            ([], ap (λ (l : List Filed). map part_of (sooner w.entry.part.start l ++ w ∷ [])) none ∙ (ap (λ (p : Part). p ∷ []) same ∙ ap (λ (l : List Filed). map part_of (y ∷ l) ++ []) (sym none)))

    put_row : (xs : List Filed) → PlacesRise xs → All (IsOf g) xs → EndsRow xs w → (more : List Part) × (parts_in row (put filed_at w xs) ≡ parts_in row xs ++ more)
    put_row xs rise are ends =
        let all = row_by row w.entry.part.start xs (λ k d lt same. ends k d lt (same ∙ sym w_row)) in
        let last = put_last (of_row row xs) (rise_filter (λ (x : Filed). nat_eq x.entry.series row) xs rise) (own_series row xs) (recursion_from_All (IsOf g) (of_row row xs) (All-filter (λ (x : Filed). nat_eq x.entry.series row) (IsOf g) xs are)) all in
        let now = put_own row w xs w_row ∙ ap (λ (l : List Filed). sooner w.entry.part.start (of_row row xs) ++ (w ∷ l)) (none_later w.entry.part.start (of_row row xs) all) in
        (last.0, ap (map part_of) now ∙ last.1)

  put_one : (w : Filed) (xs : List Filed) → IsOf g w → PlacesRise xs → All (IsOf g) xs → EndsRow xs w → (more : List Part) × (parts_in row (put filed_at w xs) ≡ parts_in row xs ++ more)
  put_one w xs w_is rise are ends = by_test (nat_eq w.entry.series row) refl
    where
      by_test : (b : Bool) → nat_eq w.entry.series row ≡ b → (more : List Part) × (parts_in row (put filed_at w xs) ≡ parts_in row xs ++ more)
      by_test true is = put_row w (grind (arith, nat_tests, is)) w_is xs rise are ends
      by_test false is = ([], ap (map part_of) (put_other row w xs (λ same. (let yes : nat_eq w.entry.series row ≡ true = grind (arith, nat_tests, same) in let both : true ≡ false = sym yes ∙ is in cc (both)))) ∙ sym (append-nil (parts_in row xs)))

  -- files that each end their row are listed in its last partition or behind it
  pub parts_grow : (fs xs : List Filed) → PlacesRise fs → All (IsOf g) fs → PlacesRise xs → All (IsOf g) xs → All (EndsRow xs) fs → (more : List Part) × (parts_in row (put_all xs fs) ≡ parts_in row xs ++ more)
  parts_grow [] xs rise are rise_xs are_xs ends = ([], sym (append-nil (parts_in row xs)))
  parts_grow (w ∷ fs) xs rise are rise_xs are_xs ends =
      let one = put_one w xs (All-head (IsOf g) w fs are) rise_xs are_xs (All-head (EndsRow xs) w fs ends) in
      let rest = parts_grow fs (put filed_at w xs) rise.1 (All-tail (IsOf g) w fs are) (rise_put_all xs (w ∷ []) rise_xs) (all_put (IsOf g) filed_at w xs are_xs (All-head (IsOf g) w fs are)) ends_then in
      (one.0 ++ rest.0, rest.1 ∙ (ap (λ (ps : List Part). ps ++ rest.0) one.1 ∙ append_assoc (parts_in row xs) one.0 rest.0))
    where
      ends_then : All (EndsRow (put filed_at w xs)) fs
      ends_then k d lt =
          let v : Filed = get_or fs k d in
          let before : Comes w v = rise.0 k d lt in
          all_put (λ (x : Filed). x.entry.series ≡ v.entry.series → x.entry.part.start ≤ v.entry.part.start) filed_at w xs (All-tail (EndsRow xs) w fs ends k d lt) (λ same. grind (arith, nat_tests, before, same))
