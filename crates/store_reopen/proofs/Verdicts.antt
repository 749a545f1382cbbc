-- The verdict on an image: the manifests that are loaded, the look at the listed files, and that there is one at most.
use Rattle.std.proofs.Common.{◌≡◌, inl, inr, ℕ, zero, suc, ◌+◌, ◌<◌, ◌≤◌, List, [], ◌∷◌, ◌++◌, length, Some, refl, sym, ◌∙◌, ap, subst, arith, take, None, ◌⊎◌, ◌≢◌, drop, get_or, Option, map, true}
use Rattle.std.specs.Prelude.{slice_get, All, Contains, IsTrue}
use Rattle.std.proofs.lemmas.Bool.{cases_lt}
use Rattle.disk_model.specs.Files.{Name, Files, HasFile, Content}
use Rattle.partition_names.specs.declared.granularity.Granularity.{Granularity}
use Rattle.store_manifest.specs.declared.entry.Entry.{Entry}
use Rattle.store_manifest.specs.Manifest.{manifest_name, ManifestState}
use Rattle.pv_catalog.specs.declared.row.Row.{Row}
use Rattle.store_reopen.specs.Verdict.{AreSaid, IsThere, IsFirstShort, HasStranger, file_short, HasRow, EndsEarly, AreSaidBelow, Listings, IsWhole, Differs, ManifestIsBad, HasShortFile, IsDamaged, catalogue_bad, manifest_bad, stranger as is_stranger}
use Rattle.durable_write.specs.Held.{file_of, Filed, IsFiled, IsListed, IsIn, entry_of, bytes_of}
use Rattle.tier_store.specs.Seen.{AtEach}
use Rattle.tier_store.proofs.Places.{manifest_at, manifest_here, one_manifest, within_three}
use Rattle.store_reopen.specs.Reopen.{lists_of, stores_of}
use Rattle.store_reopen.proofs.Having.{listed_at, all_there_in, listed_elsewhere, low_of, said_of, listing, granularity_here, no_batch, one_list_of_rows}
use Rattle.std.proofs.lemmas.Option.{same_Some, slice_get_within}
use Rattle.gate_journal.specs.Kept.{Says}
use Rattle.pv_catalog.specs.Catalogue.{catalogue_name}
use Rattle.std.proofs.lemmas.List.{take_all, length-take}
use Rattle.std.proofs.lemmas.List.Elements.{All-more, All-head, All-tail, All-map, All-weaker, All-contains, All-nil}
use Rattle.store_reopen.specs.declared.error.NotOpened.{NotOpened}
use Rattle.store_reopen.specs.declared.error.NotOpened.TheVariants.{Disk, Damaged, GranularityDiffers}
use Rattle.store_reopen.specs.NotOpened.{IsTold, IsToldShort}
use Rattle.std.specs.List.{AllAdjacentBelow}
use Rattle.gate_journal.specs.Generations.{IsOwn, at_name, generation_name, HasBatchesOf, IsBadOf}
use Rattle.gate_journal.proofs.Keeping.{says_stays}
use Rattle.etl_rules.specs.Config.{ConfigState, IsGood}
use Rattle.partition_names.specs.Granularity.{Holds}
use Rattle.partition_names.specs.declared.granularity.Granularity.TheVariants.{Hour}
use Rattle.store_manifest.specs.Batches.{Folds}
use Rattle.pv_catalog.specs.Rows.{IsCatalogue}
use Rattle.tier_store.specs.Beginning.{AreNested}
use Rattle.store_reopen.specs.Loading.{granularity_at}
use Rattle.gate_journal.specs.Batches.{open_gates}
use Rattle.store_files.specs.Fronts.{Begins}
use Rattle.store_manifest.proofs.Committing.{one_listing, same_granularity}
use Rattle.store_manifest.proofs.Meaning.{one_granularity, folds_good, configured_folds}
use Rattle.tier_store.specs.Stores.{Stores, list_at}
use Rattle.tier_store.specs.Stored.{HoldsAll}
use Rattle.store_reopen.specs.OneJournal.{IsBadFile, IsBadCatalogue, IsBadManifest}
use Rattle.gate_journal.proofs.OneReading.{one_list}
use Rattle.gate_journal.proofs.Telling.{one_generation_told}
use Rattle.store_manifest.specs.Batches as manifest
use Rattle.store_manifest.proofs.Meaning as manifest_meaning
use Rattle.pv_catalog.specs.Rows as catalogue
use Rattle.pv_catalog.proofs.Meaning as catalogue_meaning

-- The look at the listed files.

pub no_some : (o : Option ℕ) → ((x : ℕ) → o ≡ Some x → ⊥) → o ≡ None
no_some None not = refl
no_some (Some x) not = absurd (not x refl)

split_at : (xs : List Entry) (n : ℕ) (e : Entry) → n < length xs → e ≡ get_or xs n e → xs ≡ take n xs ++ e ∷ drop (suc n) xs
split_at [] n e within is = absurd (omega arith)
split_at (x ∷ xs) zero e within is = ap (λ (y : Entry). y ∷ xs) (sym is)
split_at (x ∷ xs) (suc n) e within is = ap (λ (l : List Entry). x ∷ l) (split_at xs n e (omega arith) is)

pub there_more : (i : ℕ) (files now : Files) (rows : List Row) (entries : List Entry) (name : Name) (n m : ℕ) (e : Entry) → m ≡ n + 1 → n < length entries → e ≡ get_or entries n e → now ≡ files → All (IsThere i files rows) (take n entries) → name ≡ file_of (i + 1, rows) e
    → HasFile now name (λ b. e.len ≤ length b) → All (IsThere i files rows) (take m entries)
there_more i files now rows entries name n m e more within is same there named long =
    let named_there : IsThere i now rows e = subst (λ (x : Name). HasFile now x (λ b. e.len ≤ length b)) named long in
    let here : IsThere i files rows (get_or entries n e) = subst (IsThere i files rows) is (subst (λ (f : Files). IsThere i f rows e) same named_there) in
    subst (λ (k : ℕ). All (IsThere i files rows) (take k entries)) (sym more) (All-more (IsThere i files rows) entries n e within there here)

pub all_there : (i : ℕ) (files : Files) (rows : List Row) (entries : List Entry) (n : ℕ) → n ≡ length entries → All (IsThere i files rows) (take n entries) → All (IsThere i files rows) entries
all_there i files rows entries n is there = subst (λ (es : List Entry). All (IsThere i files rows) es) (take_all n entries (omega (arith, is))) there

pub first_short : (i : ℕ) (files now : Files) (rows : List Row) (entries : List Entry) (name : Name) (at n : ℕ) (e : Entry) → now ≡ files → n < length entries → e ≡ get_or entries n e
    → All (IsThere i files rows) (take n entries) → name ≡ file_of (i + 1, rows) e → EndsEarly e.len at (now name) → IsFirstShort i files rows entries name at
first_short i files now rows entries name at n e here within is there named short = record {
  before = take n entries;
  entry = e;
  behind = drop (suc n) entries;
  split = split_at entries n e within is;
  there = there;
  named = named;
  short = subst (EndsEarly e.len at) (ap (λ (f : Files). f name) here) short;
}

-- the same in another image that has the same files of stores
short_in : (i : ℕ) (files seen : Files) (rows : List Row) (entries : List Entry) (name : Name) (at : ℕ) → ((n : Name) → n.0 ≢ 0 → files n ≡ seen n) → IsFirstShort i files rows entries name at → IsFirstShort i seen rows entries name at
short_in i files seen rows entries name at same first =
    let outside : name.0 ≢ 0 = λ zero_store. listed_elsewhere (i + 1, rows) first.entry (omega arith) (sym (ap (λ (m : Name). m.0) first.named) ∙ zero_store) in
    record {
      before = first.before;
      entry = first.entry;
      behind = first.behind;
      split = first.split;
      there = all_there_in i files seen rows first.before same first.there;
      named = first.named;
      short = subst (EndsEarly first.entry.len at) (same name outside) first.short;
    }

-- PLACES

-- the manifest that was taken of a place
pub here_from : (ms : List ManifestState) (i k : ℕ) (m : ManifestState) → m ≡ get_or ms k m → k ≡ i → i < length ms → slice_get ms i ≡ Some m
here_from ms i k m is same low = manifest_here ms i m (is ∙ ap (λ (j : ℕ). get_or ms j m) same) low

-- what is true of the lists below a place and of the one there
pub next_place : (P : ℕ → List Entry → Type 0) (ms : List ManifestState) (p : ℕ) (m : ManifestState) → slice_get ms p ≡ Some m → ((k : ℕ) (n : ManifestState) → k < p → slice_get ms k ≡ Some n → P k n.entries) → P p m.entries → (k : ℕ) (n : ManifestState) → k < p + 1 → slice_get ms k ≡ Some n → P k n.entries
next_place P ms p m here each own k n low there = elim (cases_lt k p) [
  | inl below ↦ each k n below there
  | inr from ↦
      let same : k ≡ p = omega (arith, low, from) in
      subst (λ (j : ℕ). P j n.entries) (sym same) (subst (λ (x : ManifestState). P p x.entries) (sym (one_manifest ms p k m n same here there)) own)
]

-- what is true of the lists below the last place
pub at_all : (P : ℕ → List Entry → Type 0) (ms : List ManifestState) (p : ℕ) → length ms ≡ 3 → 3 ≤ p → ((k : ℕ) (n : ManifestState) → k < p → slice_get ms k ≡ Some n → P k n.entries) → AtEach ms (λ k n. P k n.entries)
at_all P ms p three all each k n here = let low = within_three ms k n three here in each k n (omega (arith, low, all)) here

-- what is true of each manifest is true of each list
at_lists : (P : ℕ → List Entry → Type 0) (ms : List ManifestState) (n i : ℕ) → n ≤ length ms → ((k : ℕ) (m : ManifestState) → k < n → slice_get ms k ≡ Some m → P k m.entries) → i < n → P i (lists_of ms i)
at_lists P ms n i long each low =
    let m = manifest_at ms i (omega (arith, long, low)) in
    subst (P i) (sym (listed_at ms i m.0 m.1)) (each i m.0 low m.1)

-- what is told of the files of the store at a place is told of all
pub told_short : (gs : List Granularity) (seen files : Files) (rows : List Row) (ms : List ManifestState) (i : ℕ) (m : ManifestState) (e : NotOpened) → length gs ≡ 3 → length ms ≡ 3 → AreSaid gs seen rows (lists_of ms) → AtEach ms (λ k n. All (HasRow rows) n.entries) → ((n : Name) → n.0 ≢ 0 → files n ≡ seen n)
    → i < 3 → slice_get ms i ≡ Some m → ((k : ℕ) (n : ManifestState) → k < i → slice_get ms k ≡ Some n → All (IsThere k files rows) n.entries) → IsToldShort i files rows m.entries e → IsTold gs seen e
told_short gs seen files rows ms i m (Disk e) three count said of_rows same low here there told = tt
told_short gs seen files rows ms i m (Damaged name at) three count said of_rows same low here there told = file_short (record {
  rows = rows;
  lists = lists_of ms;
  said = said;
  of_rows = λ k within. at_lists (λ j es. All (HasRow rows) es) ms (length gs) k (omega (arith, three, count)) (λ j n below is. of_rows j n is) within;
  place = i;
  within = omega (arith, three, low);
  earlier = λ k below. at_lists (λ j es. All (IsThere j seen rows) es) ms i k (omega (arith, count, low)) (λ j n under is. all_there_in j files seen rows n.entries same (there j n under is)) below;
  first = subst (λ (es : List Entry). IsFirstShort i seen rows es name at) (sym (listed_at ms i m here)) (short_in i files seen rows m.entries name at same told);
})
told_short gs seen files rows ms i m (GranularityDiffers kept asked) three count said of_rows same low here there told = absurd told

-- a manifest with an entry of no row
pub told_stranger : (gs : List Granularity) (seen : Files) (rows : List Row) (ms : List ManifestState) (i : ℕ) (m : ManifestState) (name : Name) → length gs ≡ 3 → length ms ≡ 3 → AreSaid gs seen rows (lists_of ms) → i < 3 → slice_get ms i ≡ Some m
    → ((k : ℕ) (n : ManifestState) → k < i → slice_get ms k ≡ Some n → All (HasRow rows) n.entries) → (e : Entry) → Contains m.entries e → length rows ≤ e.series → name ≡ manifest_name (i + 1) → HasStranger gs seen name 0
told_stranger gs seen rows ms i m name three count said low here of_rows e listed of_none named = record {
  rows = rows;
  lists = lists_of ms;
  said = said;
  place = i;
  within = omega (arith, three, low);
  earlier = λ k below. at_lists (λ j es. All (HasRow rows) es) ms i k (omega (arith, count, low)) of_rows below;
  stranger = e;
  listed = subst (λ (es : List Entry). Contains es e) (sym (listed_at ms i m here)) listed;
  of_none = of_none;
  named = named;
  from = refl;
}

-- The manifests that were loaded so far.

-- a manifest of a list with one more at its end
at_end : (ms : List ManifestState) (m : ManifestState) (i : ℕ) (k : ManifestState) → slice_get (ms ++ m ∷ []) i ≡ Some k → (slice_get ms i ≡ Some k) ⊎ ((i ≡ length ms) × (k ≡ m))
at_end [] m zero k here = inr (refl, sym (same_Some m k here))
at_end [] m (suc i) k here = absurd (cc (here))
at_end (x ∷ xs) m zero k here = inl here
at_end (x ∷ xs) m (suc i) k here = elim (at_end xs m i k here) [
  | inl there ↦ inl there
  | inr last ↦ inr (ap suc last.0, last.1)
]

-- what is true of no manifests
pub no_manifest : (P : ℕ → ManifestState → Type 0) (ms : List ManifestState) → ms ≡ [] → AtEach ms P
no_manifest P [] is i k here = absurd (cc (here))
no_manifest P (m ∷ ms) is i k here = absurd (let none = ap length is in omega (arith, none))

pub one_more : (P : ℕ → ManifestState → Type 0) (ms made : List ManifestState) (m : ManifestState) (n : ℕ) → made ≡ ms ++ m ∷ [] → length ms ≡ n → AtEach ms P → P n m → AtEach made P
one_more P ms made m n is count each last i k here = elim (at_end ms m i k (ap (λ (l : List ManifestState). slice_get l i) (sym is) ∙ here)) [
  | inl there ↦ each i k there
  | inr both ↦ subst (P i) (sym both.1) (subst (λ (j : ℕ). P j m) (sym (both.0 ∙ count)) last)
]

-- what is true of the places below one, and of that one, is true of the places below the next
pub one_further : {P : Type 0} (i n : ℕ) → (i + 1 < n → P) → (i + 1 ≡ n → P) → i + 1 < n + 1 → P
one_further {P} i n earlier last low = elim (cases_lt (i + 1) n) [
  | inl before ↦ earlier before
  | inr behind ↦ last (omega (arith, low, behind))
]

-- where each granularity of a list holds the one before, the first three do so
nested_at : (gs : List Granularity) (i : ℕ) (g : Granularity) → AllAdjacentBelow (λ fine coarse. Holds coarse fine) gs (length gs) → slice_get gs (i + 1) ≡ Some g → i < 2 → AreNested i (granularity_at gs 0 ∷ granularity_at gs 1 ∷ granularity_at gs 2 ∷ [])
nested_at [] i g adjacent here few fine coarse first second = absurd (cc (here))
nested_at (x ∷ []) i g adjacent here few fine coarse first second = absurd (omega (arith, slice_get_within (x ∷ []) (i + 1) g here))
nested_at (x ∷ y ∷ rest) zero g adjacent here few fine coarse first second = subst (λ (c : Granularity). Holds c fine) (same_Some y coarse second) (subst (Holds y) (same_Some x fine first) (adjacent 0 Hour (omega arith)))
nested_at (x ∷ y ∷ []) (suc i) g adjacent here few fine coarse first second = absurd (omega (arith, slice_get_within (x ∷ y ∷ []) (suc i + 1) g here))
nested_at (x ∷ y ∷ z ∷ rest) (suc zero) g adjacent here few fine coarse first second = subst (λ (c : Granularity). Holds c fine) (same_Some z coarse second) (subst (Holds z) (same_Some y fine first) (adjacent 1 Hour (omega arith)))
nested_at (x ∷ y ∷ z ∷ rest) (suc (suc i)) g adjacent here few fine coarse first second = absurd (omega (arith, few))

-- the partitions of one of the configured stores lie in those of the next, where that is configured
pub nested_next : (config : ConfigState) (i place : ℕ) (g : Granularity) → IsGood config → slice_get config.granularity place ≡ Some g → i < 2 → i + 1 ≡ place → AreNested i (stores_of config)
nested_next config i place g good here few next = nested_at config.granularity i g good.nested (ap (slice_get config.granularity) next ∙ here) few

-- what the manifests at the first places say
abbrev SaidAt : Files → List ManifestState → Type 0
SaidAt files ms = AtEach ms (λ i m. Says (Folds m.granularity) m.entries (manifest_name (i + 1)) files)

abbrev OfTheirs : List Granularity → List ManifestState → Type 0
OfTheirs gs ms = AtEach ms (λ i m. slice_get gs i ≡ Some m.granularity)

said_one : (gs : List Granularity) (files : Files) (ms : List ManifestState) → SaidAt files ms → OfTheirs gs ms → (i : ℕ) (g : Granularity) → i < length ms → slice_get gs i ≡ Some g → Says (Folds g) (lists_of ms i) (manifest_name (i + 1)) files
said_one gs files ms said own i g low here =
    let m = manifest_at ms i low in
    let is : m.0.granularity ≡ g = same_Some m.0.granularity g (sym (own i m.0 m.1) ∙ here) in
    subst (λ (es : List Entry). Says (Folds g) es (manifest_name (i + 1)) files) (sym (listed_at ms i m.0 m.1)) (subst (λ (h : Granularity). Says (Folds h) m.0.entries (manifest_name (i + 1)) files) is (said i m.0 m.1))

pub said_below : (gs : List Granularity) (files seen : Files) (ms : List ManifestState) (n : ℕ) → length ms ≡ n → n ≤ 3 → SaidAt files ms → OfTheirs gs ms → ((i : ℕ) (n : Name) → i < 3 → IsOwn (manifest_name (i + 1)) n → files n ≡ seen n) → AreSaidBelow n gs seen (lists_of ms)
said_below gs files seen ms n count few said own same i g low here = says_stays (Folds g) (lists_of ms i) (manifest_name (i + 1)) files seen (λ n mine. sym (same i n (omega (arith, low, few)) mine)) (said_one gs files ms said own i g (omega (arith, low, count)) here)

pub are_said : (gs : List Granularity) (files seen : Files) (rows : List Row) (ms : List ManifestState) → length gs ≡ 3 → length ms ≡ 3 → Says IsCatalogue rows catalogue_name seen → SaidAt files ms → OfTheirs gs ms → ((i : ℕ) (n : Name) → i < 3 → IsOwn (manifest_name (i + 1)) n → files n ≡ seen n) → AreSaid gs seen rows (lists_of ms)
are_said gs files seen rows ms three count rows_said said own same = record {
  rows_said = rows_said;
  lists_said = λ i g here. said_below gs files seen ms 3 count (omega arith) said own same i g (low_of gs i g three here) here;
}

-- An image has one verdict at most.

-- a manifest that says a granularity is of no other
said_twice : (g h : Granularity) (bs : List (List ℕ)) (xs ys : List Entry) → manifest.Folds g bs xs → manifest.Configured h bs ys → g ≡ h
said_twice g h [] xs ys folds configured = absurd configured
said_twice g h (b ∷ bs) xs ys folds configured = one_granularity g h (b ∷ bs) xs ys folds configured

one_said : (g h : Granularity) (name : Name) (image : Files) (xs ys : List Entry) → Says (manifest.Folds g) xs name image → Says (manifest.Configured h) ys name image → g ≡ h
one_said g h name image xs ys folds configured =
    said_twice g h folds.batches xs ys folds.means (subst (λ (bs : List (List ℕ)). manifest.Configured h bs ys) (one_list name image configured.batches folds.batches configured.has folds.has) configured.means)

said_folds : (g : Granularity) (name : Name) (image : Files) (xs : List Entry) → Says (manifest.Configured g) xs name image → Says (manifest.Folds g) xs name image
said_folds g name image xs says = record { batches = says.batches; has = says.has; means = configured_folds g says.batches xs says.means }

-- two places
order : (p q : ℕ) → (p < q) ⊎ ((p ≡ q) ⊎ (q < p))
order p q = elim (cases_lt p q) [
  | inl below ↦ inl below
  | inr from ↦ elim (cases_lt q p) [
    | inl above ↦ inr (inr above)
    | inr same ↦ inr (inl (omega (arith, from, same)))
  ]
]

-- THE FIRST SHORT FILE

short_not_there : (p : ℕ) (files : Files) (rows : List Row) (e : Entry) (name : Name) (at : ℕ) → name ≡ file_of (p + 1, rows) e → EndsEarly e.len at (files name) → IsThere p files rows e → ⊥
short_not_there p files rows e name at named short there =
    let file : files name ≡ Some there.bytes = ap files named ∙ there.file in
    let ends : EndsEarly e.len at (Some there.bytes) = subst (EndsEarly e.len at) file short in
    let long = there.holds in
    omega (arith, ends.0, ends.1, long)

one_end : (len i j : ℕ) (content : Content) → EndsEarly len i content → EndsEarly len j content → i ≡ j
one_end len i j None one two = one ∙ sym two
one_end len i j (Some bytes) one two = one.0 ∙ sym two.0

first_same : (P : Entry → Type 0) (xs ys us vs : List Entry) (e d : Entry) → xs ++ e ∷ us ≡ ys ++ d ∷ vs → All P xs → All P ys → (P e → ⊥) → (P d → ⊥) → e ≡ d
first_same P [] [] us vs e d same all also out out₂ = cc
first_same P [] (y ∷ ys) us vs e d same all also out out₂ = let is : y ≡ e = cc in absurd (out (subst P is (All-head P y ys also)))
first_same P (x ∷ xs) [] us vs e d same all also out out₂ = let is : x ≡ d = cc in absurd (out₂ (subst P is (All-head P x xs all)))
first_same P (x ∷ xs) (y ∷ ys) us vs e d same all also out out₂ = let rest : xs ++ e ∷ us ≡ ys ++ d ∷ vs = cc in first_same P xs ys us vs e d rest (All-tail P x xs all) (All-tail P y ys also) out out₂

one_first_short : (p : ℕ) (files : Files) (rows : List Row) (entries : List Entry) (a b : Name) (i j : ℕ) → IsFirstShort p files rows entries a i → IsFirstShort p files rows entries b j → (a ≡ b) × (i ≡ j)
one_first_short p files rows entries a b i j one two =
    let entry : one.entry ≡ two.entry = first_same (IsThere p files rows) one.before two.before one.behind two.behind one.entry two.entry (sym one.split ∙ two.split) one.there two.there
    (short_not_there p files rows one.entry a i one.named one.short) (short_not_there p files rows two.entry b j two.named two.short) in
    let name : a ≡ b = one.named ∙ ap (file_of (p + 1, rows)) entry ∙ sym two.named in
    let there : EndsEarly one.entry.len j (files a) = subst (λ (n : Name). EndsEarly one.entry.len j (files n)) (sym name) (subst (λ (e : Entry). EndsEarly e.len j (files b)) (sym entry) two.short) in
    (name, one_end one.entry.len i j (files a) one.short there)

short_not_all : (p : ℕ) (files : Files) (rows : List Row) (entries : List Entry) (name : Name) (at : ℕ) → IsFirstShort p files rows entries name at → All (IsThere p files rows) entries → ⊥
short_not_all p files rows entries name at first there =
    let P : List Entry → Type 0 = λ es. All (IsThere p files rows) es in
    let here : IsThere p files rows first.entry = at_split first.before first.entry first.behind (subst P first.split there) in
    short_not_there p files rows first.entry name at first.named first.short here
  where
    at_split : (xs : List Entry) (e : Entry) (ys : List Entry) → All (IsThere p files rows) (xs ++ e ∷ ys) → IsThere p files rows e
    at_split [] e ys all = All-head (IsThere p files rows) e ys all
    at_split (x ∷ xs) e ys all = at_split xs e ys (All-tail (IsThere p files rows) x (xs ++ e ∷ ys) all)

-- WHAT TWO LISTS OF ONE IMAGE ARE

module _ (gs : List Granularity) (files : Files) (rows r₂ : List Row) (lists l₂ : Listings) (one : AreSaid gs files rows lists) (two : AreSaid gs files r₂ l₂) where
  same_rows : rows ≡ r₂
  same_rows = one_list_of_rows files rows r₂ one.rows_said two.rows_said

  same_list : (i : ℕ) → i < length gs → lists i ≡ l₂ i
  same_list i low =
      let g = granularity_here gs i low in
      one_listing g.0 g.0 (manifest_name (i + 1)) files (lists i) (l₂ i) (one.lists_said i g.0 g.1) (two.lists_said i g.0 g.1)

  -- what holds of the rows and the list of the one holds of those of the other
  as_other : (P : List Row → List Entry → Type 0) (i : ℕ) → i < length gs → P rows (lists i) → P r₂ (l₂ i)
  as_other P i low p = subst (λ (es : List Entry). P r₂ es) (same_list i low) (subst (λ (r : List Row). P r (lists i)) same_rows p)

-- a list whose entries are all of rows has no stranger
no_stranger : (gs : List Granularity) (files : Files) (name : Name) (at : ℕ) (rows : List Row) (lists : Listings) → AreSaid gs files rows lists → (one : HasStranger gs files name at) → All (HasRow rows) (lists one.place) → ⊥
no_stranger gs files name at rows lists said one all =
    let known = as_other gs files rows one.rows lists one.lists said one.said (λ r es. All (HasRow r) es) one.place one.within all in
    let below : HasRow one.rows one.stranger = All-contains (HasRow one.rows) (one.lists one.place) one.stranger known one.listed in
    omega (arith, below, one.of_none)

no_short : (gs : List Granularity) (files : Files) (name : Name) (at : ℕ) (rows : List Row) (lists : Listings) → AreSaid gs files rows lists → (one : HasShortFile gs files name at) → All (IsThere one.place files rows) (lists one.place) → ⊥
no_short gs files name at rows lists said one all =
    let known = as_other gs files rows one.rows lists one.lists said one.said (λ r es. All (IsThere one.place files r) es) one.place one.within all in
    short_not_all one.place files one.rows (one.lists one.place) name at one.first known

-- two strangers
one_stranger : (gs : List Granularity) (files : Files) (a b : Name) (i j : ℕ) → HasStranger gs files a i → HasStranger gs files b j → (a ≡ b) × (i ≡ j)
one_stranger gs files a b i j one two = elim (order one.place two.place) [
  | inl below ↦ absurd (no_stranger gs files a i two.rows two.lists two.said one (two.earlier one.place below))
  | inr (inl same) ↦ (one.named ∙ ap (λ (p : ℕ). manifest_name (p + 1)) same ∙ sym two.named, one.from ∙ sym two.from)
  | inr (inr above) ↦ absurd (no_stranger gs files b j one.rows one.lists one.said two (one.earlier two.place above))
]

-- two short files
one_short : (gs : List Granularity) (files : Files) (a b : Name) (i j : ℕ) → HasShortFile gs files a i → HasShortFile gs files b j → (a ≡ b) × (i ≡ j)
one_short gs files a b i j one two = elim (order one.place two.place) [
  | inl below ↦ absurd (no_short gs files a i two.rows two.lists two.said one (two.earlier one.place below))
  | inr (inl same) ↦
      let first : IsFirstShort one.place files one.rows (one.lists one.place) b j = as_other gs files two.rows one.rows two.lists one.lists two.said one.said (λ r es. IsFirstShort one.place files r es b j) one.place one.within
      (subst (λ (p : ℕ). IsFirstShort p files two.rows (two.lists p) b j) (sym same) two.first) in
      one_first_short one.place files one.rows (one.lists one.place) a b i j one.first first
  | inr (inr above) ↦ absurd (no_short gs files b j one.rows one.lists one.said two (one.earlier two.place above))
]

-- A STORE OF ANOTHER GRANULARITY

-- a manifest that is good in its granularity is of no other
not_other : (gs : List Granularity) (files : Files) (kept asked : Granularity) (d : Differs gs files kept asked) (entries : List Entry) → Says (manifest.Folds asked) entries (manifest_name (d.place + 1)) files → ⊥
not_other gs files kept asked d entries says = d.other (sym (one_said asked kept (manifest_name (d.place + 1)) files entries d.entries says d.entries_said))

said_not_other : (gs : List Granularity) (files : Files) (kept asked : Granularity) (rows : List Row) (lists : Listings) → AreSaid gs files rows lists → Differs gs files kept asked → ⊥
said_not_other gs files kept asked rows lists said d = not_other gs files kept asked d (lists d.place) (said.lists_said d.place asked d.here)

pub whole_same : (gs : List Granularity) (files : Files) (kept asked : Granularity) → IsWhole gs files → Differs gs files kept asked → ⊥
whole_same gs files kept asked whole d = said_not_other gs files kept asked whole.rows whole.lists whole.said d

pub one_other : (gs : List Granularity) (files : Files) (kept asked other ask : Granularity) → Differs gs files kept asked → Differs gs files other ask → (kept ≡ other) × (asked ≡ ask)
one_other gs files kept asked other ask one two = elim (order one.place two.place) [
  | inl below ↦ absurd (not_other gs files kept asked one (two.lists one.place) (two.earlier one.place asked below one.here))
  | inr (inl same) ↦
      let said = subst (λ (p : ℕ). Says (manifest.Configured other) two.entries (manifest_name (p + 1)) files) (sym same) two.entries_said in
      (same_granularity kept other (manifest_name (one.place + 1)) files one.entries two.entries one.entries_said said, same_Some asked ask (sym one.here ∙ ap (slice_get gs) same ∙ two.here))
  | inr (inr above) ↦ absurd (not_other gs files other ask two (one.lists two.place) (one.earlier two.place ask above two.here))
]

-- A JOURNAL IS GOOD OR BAD

module _ (one_place : (name : Name) (image : Files) (file other : Name) (at to : ℕ) → IsBadOf name image file at → IsBadOf name image other to → (file ≡ other) × (at ≡ to))
    (not_bad : (name : Name) (image : Files) (bs : List (List ℕ)) (file : Name) (at : ℕ) → HasBatchesOf name image bs → IsBadOf name image file at → ⊥) where
  good_or_bad : {A : Type 0} (Means : List (List ℕ) → A → Type 0) (IsBad : List (List ℕ) → ℕ → Type 0) → ((bs : List (List ℕ)) (value : A) (n : ℕ) → Means bs value → IsBad bs n → ⊥) → (name : Name) (image : Files) (value : A) (file : Name) (at : ℕ) → Says Means value name image → IsBadFile IsBad name image file at → ⊥
  good_or_bad {A} Means IsBad apart name image value file at says (inl bad) = not_bad name image says.batches file at says.has bad
  good_or_bad {A} Means IsBad apart name image value file at says (inr bad) = apart bad.batches value bad.number (subst (λ (bs : List (List ℕ)). Means bs value) (one_list name image says.batches bad.batches says.has bad.has) says.means) bad.bad

  one_place_bad : (IsBad : List (List ℕ) → ℕ → Type 0) → ((bs : List (List ℕ)) (m n : ℕ) → IsBad bs m → IsBad bs n → m ≡ n) → (name : Name) (image : Files) (file other : Name) (at to : ℕ) → IsBadFile IsBad name image file at → IsBadFile IsBad name image other to → (file ≡ other) × (at ≡ to)
  one_place_bad IsBad one name image file other at to (inl a) (inl b) = one_place name image file other at to a b
  one_place_bad IsBad one name image file other at to (inl a) (inr b) = absurd (not_bad name image b.batches file at b.has a)
  one_place_bad IsBad one name image file other at to (inr a) (inl b) = absurd (not_bad name image a.batches other to a.has b)
  one_place_bad IsBad one name image file other at to (inr a) (inr b) =
      let same = one_list name image b.batches a.batches b.has a.has in
      let number : a.number ≡ b.number = one a.batches a.number b.number a.bad (subst (λ (bs : List (List ℕ)). IsBad bs b.number) same b.bad) in
      let generation = one_generation_told (image (at_name name)) a.has.generation b.has.generation a.has.told b.has.told in (
        a.current ∙ ap (λ (k : ℕ). generation_name name k) generation ∙ sym b.current,
        a.gate ∙ ap (λ (n : ℕ). length (open_gates (take n a.batches))) number ∙ ap (λ (bs : List (List ℕ)). length (open_gates (take b.number bs))) (sym same) ∙ sym b.gate,
      )

  good_catalogue : (files : Files) (rows : List Row) (file : Name) (at : ℕ) → Says catalogue.IsCatalogue rows catalogue_name files → IsBadCatalogue files file at → ⊥
  good_catalogue files rows file at says bad = good_or_bad catalogue.IsCatalogue catalogue.IsBadBatch catalogue_meaning.not_both catalogue_name files rows file at says bad

  good_manifest : (g : Granularity) (name : Name) (files : Files) (entries : List Entry) (file : Name) (at : ℕ) → Says (manifest.Folds g) entries name files → IsBadManifest name files file at → ⊥
  good_manifest g name files entries file at says bad = good_or_bad (manifest.Folds g) manifest.IsBadBatch (folds_good g) name files entries file at says bad

  said_not_bad : (gs : List Granularity) (files : Files) (name : Name) (at : ℕ) (rows : List Row) (lists : Listings) → AreSaid gs files rows lists → ManifestIsBad gs files name at → ⊥
  said_not_bad gs files name at rows lists said one =
      let g = granularity_here gs one.place one.within in
      good_manifest g.0 (manifest_name (one.place + 1)) files (lists one.place) name at (said.lists_said one.place g.0 g.1) one.bad

  -- nor is it before a later one that is looked at
  below_not_bad : (gs : List Granularity) (files : Files) (name : Name) (at : ℕ) (n : ℕ) (lists : Listings) → AreSaidBelow n gs files lists → (one : ManifestIsBad gs files name at) → one.place < n → ⊥
  below_not_bad gs files name at n lists said one low =
      let g = granularity_here gs one.place one.within in
      good_manifest g.0 (manifest_name (one.place + 1)) files (lists one.place) name at (said one.place g.0 low g.1) one.bad

  one_manifest_bad : (gs : List Granularity) (files : Files) (a b : Name) (i j : ℕ) → ManifestIsBad gs files a i → ManifestIsBad gs files b j → (a ≡ b) × (i ≡ j)
  one_manifest_bad gs files a b i j one two = elim (order one.place two.place) [
    | inl below ↦ absurd (below_not_bad gs files a i two.place two.lists two.earlier one below)
    | inr (inl same) ↦ one_place_bad manifest.IsBadBatch manifest_meaning.one_bad (manifest_name (one.place + 1)) files a b i j one.bad (subst (λ (p : ℕ). IsBadManifest (manifest_name (p + 1)) files b j) (sym same) two.bad)
    | inr (inr above) ↦ absurd (below_not_bad gs files b j one.place one.lists one.earlier two above)
  ]

  bad_not_other : (gs : List Granularity) (files : Files) (name : Name) (at : ℕ) (kept asked : Granularity) → ManifestIsBad gs files name at → Differs gs files kept asked → ⊥
  bad_not_other gs files name at kept asked one d = elim (order one.place d.place) [
    | inl below ↦ below_not_bad gs files name at d.place d.lists d.earlier one below
    | inr (inl same) ↦
        let said = subst (λ (p : ℕ). Says (manifest.Configured kept) d.entries (manifest_name (p + 1)) files) (sym same) d.entries_said in
        good_manifest kept (manifest_name (one.place + 1)) files d.entries name at (said_folds kept (manifest_name (one.place + 1)) files d.entries said) one.bad
    | inr (inr above) ↦ not_other gs files kept asked d (one.lists d.place) (one.earlier d.place asked above d.here)
  ]

  pub whole_undamaged : (gs : List Granularity) (files : Files) (name : Name) (at : ℕ) → IsWhole gs files → IsDamaged gs files name at → ⊥
  whole_undamaged gs files name at whole (catalogue_bad one) = good_catalogue files whole.rows name at whole.said.rows_said one
  whole_undamaged gs files name at whole (manifest_bad one) = said_not_bad gs files name at whole.rows whole.lists whole.said one
  whole_undamaged gs files name at whole (is_stranger one) = no_stranger gs files name at whole.rows whole.lists whole.said one (whole.of_rows one.place one.within)
  whole_undamaged gs files name at whole (file_short one) = no_short gs files name at whole.rows whole.lists whole.said one (whole.there one.place one.within)

  pub damaged_same : (gs : List Granularity) (files : Files) (name : Name) (at : ℕ) (kept asked : Granularity) → IsDamaged gs files name at → Differs gs files kept asked → ⊥
  damaged_same gs files name at kept asked (catalogue_bad one) other = good_catalogue files other.rows name at other.rows_said one
  damaged_same gs files name at kept asked (manifest_bad one) other = bad_not_other gs files name at kept asked one other
  damaged_same gs files name at kept asked (is_stranger one) other = said_not_other gs files kept asked one.rows one.lists one.said other
  damaged_same gs files name at kept asked (file_short one) other = said_not_other gs files kept asked one.rows one.lists one.said other

  -- the cases in the order in which they are looked for: of two the earlier rules the later out
  earlier_catalogue : (gs : List Granularity) (files : Files) (a b : Name) (i j : ℕ) → IsBadCatalogue files a i → IsDamaged gs files b j → (a ≡ b) × (i ≡ j)
  earlier_catalogue gs files a b i j one (catalogue_bad two) = one_place_bad catalogue.IsBadBatch catalogue_meaning.one_bad catalogue_name files a b i j one two
  earlier_catalogue gs files a b i j one (manifest_bad two) = absurd (good_catalogue files two.rows a i two.rows_said one)
  earlier_catalogue gs files a b i j one (is_stranger two) = absurd (good_catalogue files two.rows a i two.said.rows_said one)
  earlier_catalogue gs files a b i j one (file_short two) = absurd (good_catalogue files two.rows a i two.said.rows_said one)

  earlier_manifest : (gs : List Granularity) (files : Files) (a b : Name) (i j : ℕ) → ManifestIsBad gs files a i → IsDamaged gs files b j → (a ≡ b) × (i ≡ j)
  earlier_manifest gs files a b i j one (catalogue_bad two) = absurd (good_catalogue files one.rows b j one.rows_said two)
  earlier_manifest gs files a b i j one (manifest_bad two) = one_manifest_bad gs files a b i j one two
  earlier_manifest gs files a b i j one (is_stranger two) = absurd (said_not_bad gs files a i two.rows two.lists two.said one)
  earlier_manifest gs files a b i j one (file_short two) = absurd (said_not_bad gs files a i two.rows two.lists two.said one)

  earlier_stranger : (gs : List Granularity) (files : Files) (a b : Name) (i j : ℕ) → HasStranger gs files a i → IsDamaged gs files b j → (a ≡ b) × (i ≡ j)
  earlier_stranger gs files a b i j one (catalogue_bad two) = absurd (good_catalogue files one.rows b j one.said.rows_said two)
  earlier_stranger gs files a b i j one (manifest_bad two) = absurd (said_not_bad gs files b j one.rows one.lists one.said two)
  earlier_stranger gs files a b i j one (is_stranger two) = one_stranger gs files a b i j one two
  earlier_stranger gs files a b i j one (file_short two) = absurd (no_stranger gs files a i two.rows two.lists two.said one (two.of_rows one.place one.within))

  last_file : (gs : List Granularity) (files : Files) (a b : Name) (i j : ℕ) → HasShortFile gs files a i → IsDamaged gs files b j → (a ≡ b) × (i ≡ j)
  last_file gs files a b i j one (catalogue_bad two) = absurd (good_catalogue files one.rows b j one.said.rows_said two)
  last_file gs files a b i j one (manifest_bad two) = absurd (said_not_bad gs files b j one.rows one.lists one.said two)
  last_file gs files a b i j one (is_stranger two) = absurd (no_stranger gs files b j one.rows one.lists one.said two (one.of_rows two.place two.within))
  last_file gs files a b i j one (file_short two) = one_short gs files a b i j one two

  pub one_damage : (gs : List Granularity) (files : Files) (a b : Name) (i j : ℕ) → IsDamaged gs files a i → IsDamaged gs files b j → (a ≡ b) × (i ≡ j)
  one_damage gs files a b i j (catalogue_bad one) two = earlier_catalogue gs files a b i j one two
  one_damage gs files a b i j (manifest_bad one) two = earlier_manifest gs files a b i j one two
  one_damage gs files a b i j (is_stranger one) two = earlier_stranger gs files a b i j one two
  one_damage gs files a b i j (file_short one) two = last_file gs files a b i j one two

-- WHAT STANDS IS WHOLE

-- a file that begins with a front is as long
begins_long : (front : List ℕ) (files : Files) (name : Name) (content : Content) → files name ≡ content → Begins front content → HasFile files name (λ b. length front ≤ length b)
begins_long front files name None is begins = absurd begins
begins_long front files name (Some bytes) is begins = record { bytes = bytes; file = is; holds = omega (arith, ap length begins, length-take (length front) bytes) }

in_there : (p : ℕ) (g : Granularity) (rows : List Row) (image : Files) (f : Filed) → IsFiled g rows f → IsIn (p + 1, rows) image f → IsThere p image rows f.entry
in_there p g rows image f filed begins =
    let there = begins_long (bytes_of f) image (file_of (p + 1, rows) f.entry) (image (file_of (p + 1, rows) f.entry)) refl begins in
    record { bytes = there.bytes; file = there.file; holds = let long = there.holds in omega (arith, long, filed.len) }

pub held_whole : (gs : List Granularity) (files : Files) (held : Stores) → length gs ≡ 3 → HoldsAll gs files held → IsTrue held.stands → IsWhole gs files
held_whole gs files held three holds stands = record {
  rows = held.rows;
  lists = listing held;
  said = said_of gs files held three holds;
  of_rows = λ i low.
      let g = granularity_here gs i low in
      All-map (HasRow held.rows) entry_of (list_at i held) (All-weaker (IsListed g.0 held.rows) (λ (f : Filed). HasRow held.rows f.entry) (λ f listed. slice_get_within held.rows f.entry.series listed.row listed.stands) (list_at i held) (holds i g.0 g.1).filed.listed);
  there = λ i low.
      let g = granularity_here gs i low in
      All-map (IsThere i files held.rows) entry_of (list_at i held) (λ k d lt. in_there i g.0 held.rows files _ ((holds i g.0 g.1).filed.filed stands k d lt) ((holds i g.0 g.1).files stands k d lt));
}

-- NOTHING

abbrev nothing : Stores
nothing = record { rows = []; short = []; medium = []; long = []; stands = true }

pub holds_nothing : (gs : List Granularity) (files : Files) → ((n : Name) → files n ≡ None) → HoldsAll gs files (record { rows = []; short = []; medium = []; long = []; stands = true })
holds_nothing gs files none i g here = record {
  rows = record { batches = []; has = no_batch catalogue_name files none; means = refl };
  lists = record { batches = []; has = no_batch (manifest_name (i + 1)) files none; means = ap (map entry_of) (empty i) };
  filed = record { numbered = omega arith; listed = subst (λ (fs : List Filed). All (IsListed g []) fs) (sym (empty i)) (All-nil (IsListed g [])); filed = λ stands. subst (λ (fs : List Filed). All (IsFiled g []) fs) (sym (empty i)) (All-nil (IsFiled g [])) };
  files = λ stands. subst (λ (fs : List Filed). All (IsIn (i + 1, []) files) fs) (sym (empty i)) (All-nil (IsIn (i + 1, []) files));
}
  where
    empty : (k : ℕ) → list_at k nothing ≡ []
    empty zero = refl
    empty (suc zero) = refl
    empty (suc (suc k)) = refl
