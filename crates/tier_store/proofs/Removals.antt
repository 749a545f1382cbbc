-- What stays of limbo, what a sweep finds in lists and in limbo, and how files are removed, and the oldest entries of a row dropped, one after
-- another.
use Rattle.std.proofs.Common.{◌≡◌, ◌⊎◌, inl, inr, Bool, true, false, cond, ◌||◌, ℕ, zero, suc, ◌<◌, ◌+◌, List, [], ◌∷◌, length, map, take, get_or, Some, None, refl, sym, ◌∙◌, ap, subst, arith, ◌≢◌, ◌++◌, ◌≤◌, Ok, Err}
use Rattle.std.specs.Prelude.{All, Contains, slice_get, IsTrue, ◌==◌, ◌↔◌, not, Result, OnOk, OnErr, IsErr, IsSome}
use Rattle.std.specs.FinMap.{FinMap}
use Rattle.std.specs.Ordering.{nat_cmp}
use Rattle.std.specs.List.{list_any, filter, slice_index_or, AllPairs, AllByRecursion, items_where_true}
use Rattle.std.proofs.lemmas.Bool.Decides.{Decides-eqb, nat_tests}
use Rattle.std.proofs.lemmas.List.Folds.{Any-from_list_any, list_any-from_Any, list_any-append}
use Rattle.disk_model.specs.Record.{is_same}
use Rattle.store_manifest.specs.declared.entry.Entry.{Entry}
use Rattle.std.proofs.lemmas.List.Elements.{All-contains, All-head, All-tail, All-more, All-append, All-take, Contains-get_or, Contains-append_left, Contains-append_right, All-nil, All-push, Contains-push, Contains-push_cases, All-filter, recursion_from_All}
use Rattle.disk_model.specs.Files.{Name, Content, Files, HasFile, size_of, At, Becomes, KeptOr, Rose}
use Rattle.disk_model.specs.Past.{Past, Passes, Only}
use Rattle.disk_model.proofs.Passing.{passes_then, passes_weaker, passes_none}
use Rattle.partition_names.specs.declared.granularity.Granularity.{Granularity}
use Rattle.pins.specs.Pieces.{PinOf, named, Agree, file_of as piece_file}
use Rattle.pins.specs.Pinned.{PinnedNames, IsPinned}
use Rattle.store_manifest.specs.Manifest.{ManifestState}
use Rattle.durable_write.specs.Held.{Filed, IsListed, file_of, filed_at, entry_of}
use Rattle.durable_write.specs.Stored.{KeysDiffer}
use Rattle.durable_write.proofs.Staying.{same_place, same_file, name_cases, contains_map, file_grows}
use Rattle.store_manifest.specs.Entries.{Place, is_place, is_listed, place as entry_place, place, comes_before, InOrder, without, AllCanFollow}
use Rattle.pv_catalog.specs.Rows.{KeepsRows}
use Rattle.tier_store.specs.Stores.{Stores, list_at}
use Rattle.tier_store.specs.Seen.{Seen, granularities, AtEach}
use Rattle.tier_store.specs.Change.{IsKnown}
use Rattle.tier_store.specs.Limbo.{IsOfPlace, LimboStands, ListsPlace, IsListedName, IsPinnedFile, IsNeeded, Stay, StayUnlisted, Spares, Elsewhere, AreFree, NamesDiffer, StayNeeded, LeaveListed, Removes, AreRemovable, IsLeftOver, IsUseless, RemovesNames, SparesNames}
use Rattle.tier_store.specs.declared.limbo.Retired.{Retired}
use Rattle.tier_store.proofs.Places.{manifest_of, one_manifest}
use Rattle.disk_model.proofs.Lookups.{is_same-true, is_same-same}
use Rattle.std.proofs.lemmas.List.Kept.{AllPairs-cons}
use Rattle.pv_catalog.specs.declared.row.Row.{Row}
use Rattle.durable_write.specs.Flush.{PlacesRise}
use Rattle.durable_write.proofs.Places.{before_apart, Comes}
use Rattle.tier_store.specs.Retiring.{retired_of, oldest_entries, drop_entry}
use Rattle.std.specs.Result.{result_and}
use Rattle.std.specs.List.Retain.{IsFiltered, ReturnsInTurn}
use Rattle.std.proofs.lemmas.List.{get_or_default, take_more}
use Rattle.disk_model.specs.declared.disk.DiskErr.{DiskErr}
use Rattle.gate_journal.specs.DiskShown.{DiskShown}
use Rattle.pv_catalog.specs.Catalogue.{CatalogueState}
use Rattle.store_manifest.specs.Listing.{OfSeries}
use Rattle.std.proofs.lemmas.List.Quantifiers.{all_pairs_push}
use Rattle.tier_store.specs.Revival.{IsOfUnlisted, IsUnlistedOf, AreUnlistedIn}
use Rattle.std.proofs.lemmas.Map.Views.{any-filter_same}
use Rattle.etl_mover.proofs.Beginning.{take_order}

-- WHAT STAYS OF LIMBO

-- WHAT STAYS

pub stay_by : (P Q P₂ Q₂ T : Retired → Type 0) → ((r : Retired) → T r → P r → P₂ r) → ((r : Retired) → T r → Q r → Q₂ r) → (xs ys : List Retired) → All T xs → Stay P Q xs ys → Stay P₂ Q₂ xs ys
stay_by P Q P₂ Q₂ T to to₂ [] ys all is = is
stay_by P Q P₂ Q₂ T to to₂ (x ∷ xs) ys all (inl s) = inl (s.0, to x (All-head T x xs all) s.1, s.2, stay_by P Q P₂ Q₂ T to to₂ xs s.0 (All-tail T x xs all) s.3)
stay_by P Q P₂ Q₂ T to to₂ (x ∷ xs) ys all (inr s) = inr (to₂ x (All-head T x xs all) s.0, stay_by P Q P₂ Q₂ T to to₂ xs ys (All-tail T x xs all) s.1)

contains_cases : (x : Retired) (xs : List Retired) (r : Retired) → Contains (x ∷ xs) r → (x ≡ r) ⊎ Contains xs r
contains_cases x xs r (zero, lt, is) = inl is
contains_cases x xs r (suc k, lt, is) = inr (k, omega (arith, lt), is)

contains_head : (x : Retired) (xs : List Retired) (r : Retired) → x ≡ r → Contains (x ∷ xs) r
contains_head x xs r is = (0, omega arith, is)

contains_tail : (x : Retired) (xs : List Retired) (r : Retired) → Contains xs r → Contains (x ∷ xs) r
contains_tail x xs r (k, lt, is) = (suc k, omega (arith, lt), is)

nothing : (r : Retired) → Contains [] r → ⊥
nothing r (k, lt, is) = absurd (omega (arith, lt))

-- one that was there stays, or has gone
pub stay_cases : (P Q : Retired → Type 0) (xs ys : List Retired) (r : Retired) → Stay P Q xs ys → Contains xs r → Contains ys r ⊎ Q r
stay_cases P Q [] ys r s (k, lt, is) = absurd (omega (arith, lt))
stay_cases P Q (x ∷ xs) ys r (inl s) within = subst (λ (l : List Retired). Contains l r ⊎ Q r) (sym s.2) (elim (contains_cases x xs r within) [
  | inl is ↦ inl (contains_head x s.0 r is)
  | inr rest ↦ elim (stay_cases P Q xs s.0 r s.3 rest) [ inl here ↦ inl (contains_tail x s.0 r here) | inr gone ↦ inr gone ]
])
stay_cases P Q (x ∷ xs) ys r (inr s) within = elim (contains_cases x xs r within) [
  | inl is ↦ inr (subst Q is s.0)
  | inr rest ↦ stay_cases P Q xs ys r s.1 rest
]

-- those that stay were there, and the first is true of them
pub stay_from : (P Q : Retired → Type 0) (xs ys : List Retired) (r : Retired) → Stay P Q xs ys → Contains ys r → Contains xs r × P r
stay_from P Q [] ys r s within = absurd (nothing r (subst (λ (l : List Retired). Contains l r) s within))
stay_from P Q (x ∷ xs) ys r (inl s) within = elim (contains_cases x s.0 r (subst (λ (l : List Retired). Contains l r) s.2 within)) [
  | inl is ↦ (contains_head x xs r is, subst P is s.1)
  | inr rest ↦ let more = stay_from P Q xs s.0 r s.3 rest in (contains_tail x xs r more.0, more.1)
]
stay_from P Q (x ∷ xs) ys r (inr s) within = let more = stay_from P Q xs ys r s.1 within in (contains_tail x xs r more.0, more.1)

-- PLACES

-- a file in limbo as one that its store might list
abbrev pub as_filed : Retired → Filed
as_filed r = record { entry = r.entry; head = []; samples = [] }

pub retired_listed : (at : Seen) (r : Retired) (of : IsOfPlace at r) (m : ManifestState) → slice_get at.manifests of.place ≡ Some m → IsListed m.granularity at.catalogue.rows (as_filed r)
retired_listed at r of m here =
    let own = manifest_of at.manifests of.place of.granularity of.here in
    let same : of.granularity ≡ m.granularity = sym own.2 ∙ ap (λ (x : ManifestState). x.granularity) (one_manifest at.manifests of.place of.place m own.0 refl here own.1) in
    subst (λ (g : Granularity). IsListed g at.catalogue.rows (as_filed r)) same (record { row = of.row; stands = of.stands; part = of.part })

-- what is listed of its row and partition has its name
pub place_listed : (at : Seen) (s : Stores) (r : Retired) → IsKnown at.catalogue at.manifests s → IsOfPlace at r → ListsPlace at.manifests r → IsListedName at r.name
place_listed at s r known of lists =
    let number : of.place + 1 ≡ r.name.0 = ap (λ (n : Name). n.0) of.named in
    let place : of.place ≡ lists.place = let store = lists.store in omega (arith, number, store) in
    let here : slice_get at.manifests of.place ≡ Some lists.manifest = ap (slice_get at.manifests) place ∙ lists.here in
    let known_at = known.each of.place lists.manifest here in
    let f = contains_map (list_at of.place s) lists.entry (subst (λ es. Contains es lists.entry) known_at.entries lists.within) in
    let f_is : IsListed lists.manifest.granularity at.catalogue.rows f.0 = subst (λ rows. IsListed lists.manifest.granularity rows f.0) (sym known.rows) (All-contains (IsListed lists.manifest.granularity s.rows) (list_at of.place s) f.0 known_at.valid.filed.listed f.1) in
    let at_place : filed_at f.0 ≡ filed_at (as_filed r) =
    ap (λ e. let p : Place = (e.series, e.part.start) in p) f.2 ∙ (λ i. (lists.series i, lists.start i)) in
    let same = same_file lists.manifest.granularity (of.place + 1) at.catalogue.rows f.0 (as_filed r) f_is (retired_listed at r of lists.manifest here) at_place in
    record {
      place = of.place;
      manifest = lists.manifest;
      here = here;
      entry = lists.entry;
      within = lists.within;
      named = ap (λ e. file_of (of.place + 1, at.catalogue.rows) e) (sym f.2) ∙ same ∙ of.named;
    }

-- and what has its name is listed of its row and partition
pub listed_place : (at : Seen) (s : Stores) (r : Retired) → IsKnown at.catalogue at.manifests s → IsOfPlace at r → IsListedName at r.name → ListsPlace at.manifests r
listed_place at s r known of lists =
    let number : of.place + 1 ≡ r.name.0 = ap (λ (n : Name). n.0) of.named in
    let number_too : lists.place + 1 ≡ r.name.0 = ap (λ (n : Name). n.0) lists.named in
    let place : of.place ≡ lists.place = omega (arith, number, number_too) in
    let here : slice_get at.manifests of.place ≡ Some lists.manifest = ap (slice_get at.manifests) place ∙ lists.here in
    let known_at = known.each of.place lists.manifest here in
    let f = contains_map (list_at of.place s) lists.entry (subst (λ es. Contains es lists.entry) known_at.entries lists.within) in
    let f_is : IsListed lists.manifest.granularity at.catalogue.rows f.0 = subst (λ rows. IsListed lists.manifest.granularity rows f.0) (sym known.rows) (All-contains (IsListed lists.manifest.granularity s.rows) (list_at of.place s) f.0 known_at.valid.filed.listed f.1) in
    let keys = subst (λ rows. KeysDiffer rows) (sym known.rows) known_at.valid.keys in
    let names : file_of (of.place + 1, at.catalogue.rows) f.0.entry ≡ file_of (of.place + 1, at.catalogue.rows) r.entry =
    ap (λ e. file_of (of.place + 1, at.catalogue.rows) e) f.2 ∙ ap (λ k. file_of (k + 1, at.catalogue.rows) lists.entry) place ∙ lists.named ∙ sym of.named in
    let at_place : filed_at f.0 ≡ filed_at (as_filed r) = same_place lists.manifest.granularity (of.place + 1) at.catalogue.rows f.0 (as_filed r) keys f_is (retired_listed at r of lists.manifest here) names in
    let series : f.0.entry.series ≡ r.entry.series = ap (λ (p : Place). p.0) at_place in
    let start : f.0.entry.part.start ≡ r.entry.part.start = ap (λ (p : Place). p.1) at_place in
    record {
      place = of.place;
      manifest = lists.manifest;
      store = sym number;
      here = here;
      entry = lists.entry;
      within = lists.within;
      series = ap (λ e. e.series) (sym f.2) ∙ series;
      start = ap (λ e. e.part.start) (sym f.2) ∙ start;
    }

pub stay_unlisted : (at : Seen) (s : Stores) (xs ys : List Retired) → IsKnown at.catalogue at.manifests s → LimboStands at xs → Stay (λ r. ListsPlace at.manifests r → ⊥) (ListsPlace at.manifests) xs ys → StayUnlisted at xs ys
stay_unlisted at s xs ys known stands =
    stay_by (λ r. ListsPlace at.manifests r → ⊥) (ListsPlace at.manifests) (λ r. IsListedName at r.name → ⊥) (λ r. IsListedName at r.name) (IsOfPlace at)
    (λ r of unlisted listed. unlisted (listed_place at s r known of listed)) (λ r of listed. place_listed at s r known of listed) xs ys stands.0

-- one of the filtered entries passes the test
any_from : (P test : Entry → Bool) (es : List Entry) → list_any test (filter P es) ≡ true → (e : Entry) × Contains es e × (P e ≡ true) × (test e ≡ true)
any_from P test [] is = absurd (cc (is))
any_from P test (x ∷ es) is = go (any_from P test es) (P x) refl (test x) refl is
  where
    go : (list_any test (filter P es) ≡ true → (e : Entry) × Contains es e × (P e ≡ true) × (test e ≡ true)) → (b : Bool) → P x ≡ b → (t : Bool) → test x ≡ t → list_any test (cond b (x ∷ filter P es) (filter P es)) ≡ true → (e : Entry) × Contains (x ∷ es) e × (P e ≡ true) × (test e ≡ true)
    go rest true p true t is = (x, (0, omega arith, refl), p, t)
    go rest true p false t is =
        let f = rest (subst (λ (v : Bool). (v || list_any test (filter P es)) ≡ true) t is) in (f.0, (suc f.1.0, omega (arith, f.1.1), f.1.2), f.2, f.3)
    go rest false p t at is =
        let f = rest is in (f.0, (suc f.1.0, omega (arith, f.1.1), f.1.2), f.2, f.3)

any_to : (P test : Entry → Bool) (es : List Entry) (e : Entry) → Contains es e → P e ≡ true → test e ≡ true → list_any test (filter P es) ≡ true
any_to P test [] e (k, lt, is) p t = absurd (omega (arith, lt))
any_to P test (x ∷ es) e (zero, lt, is) p t =
    subst (λ (b : Bool). list_any test (cond b (x ∷ filter P es) (filter P es)) ≡ true) (sym (ap P is ∙ p)) (subst (λ (b : Bool). (b || list_any test (filter P es)) ≡ true) (sym (ap test is ∙ t)) refl)
any_to P test (x ∷ es) e (suc k, lt, is) p t = go (any_to P test es e (k, omega (arith, lt), is) p t) (P x)
  where
    or_rest : list_any test (filter P es) ≡ true → (b : Bool) → (b || list_any test (filter P es)) ≡ true
    or_rest rest true = refl
    or_rest rest false = rest

    go : list_any test (filter P es) ≡ true → (b : Bool) → list_any test (cond b (x ∷ filter P es) (filter P es)) ≡ true
    go rest true = or_rest rest (test x)
    go rest false = rest

place_start : (e : Entry) (s t : ℕ) → is_place (entry_place e) (s, t) ≡ true → e.part.start ≡ t
place_start e s t is = grind (arith, nat_tests)

place_is : (e : Entry) (s t : ℕ) → e.series ≡ s → e.part.start ≡ t → is_place (entry_place e) (s, t) ≡ true
place_is e s t series start = grind (arith, nat_tests)

-- a file's entries in its manifest, and whether one of them is of its partition
pub lists_any : (ms : List ManifestState) (r : Retired) (place : ℕ) (m : ManifestState) (es : List Entry) (b : Bool) → r.name.0 ≡ place + 1 → slice_get ms place ≡ Some m → es ≡ filter (λ e. e.series == r.entry.series) m.entries → b ≡ is_listed es (r.entry.series, r.entry.part.start) → IsTrue b ↔ ListsPlace ms r
lists_any ms r place m es b store here are is = (to, from)
  where
    whole : b ≡ list_any (λ e. is_place (entry_place e) (r.entry.series, r.entry.part.start)) (filter (λ (e : Entry). e.series == r.entry.series) m.entries)
    whole = is ∙ ap (λ (l : List Entry). is_listed l (r.entry.series, r.entry.part.start)) are

    to : IsTrue b → ListsPlace ms r
    to is_so =
        let f = any_from (λ e. e.series == r.entry.series) (λ e. is_place (entry_place e) (r.entry.series, r.entry.part.start)) m.entries (sym whole ∙ is_so) in
        record { place = place; manifest = m; store = store; here = here; entry = f.0; within = f.1; series = (Decides-eqb f.0.series r.entry.series).0 f.2; start = place_start f.0 r.entry.series r.entry.part.start f.3 }

    from : ListsPlace ms r → IsTrue b
    from l =
        let number = l.store in
        let same : l.place ≡ place = omega (arith, number, store) in
        let own : l.manifest ≡ m = one_manifest ms place l.place m l.manifest same here l.here in
        whole ∙ any_to (λ e. e.series == r.entry.series) (λ e. is_place (entry_place e) (r.entry.series, r.entry.part.start)) m.entries l.entry (subst (λ (x : ManifestState). Contains x.entries l.entry) own l.within) ((Decides-eqb l.entry.series r.entry.series).1 l.series) (place_is l.entry r.entry.series r.entry.part.start l.series l.start)

-- PINS

pub pinned_from : (table : FinMap nat_cmp PinnedNames) (pins : FinMap nat_cmp PinOf) (name : Name) → Agree table pins → IsPinnedFile pins name → IsPinned table name
pinned_from table pins name agree p = record { number = p.number; pin = record { owner = p.pin.owner; files = map piece_file p.pin.pieces }; stands = agree p.number ∙ ap named p.stands; names = p.names }

-- REMOVALS

pub spares_then : (pins : FinMap nat_cmp PinOf) (copied : List Name) (limbo : List Retired) (old mid new : Past) → Passes (Spares pins copied limbo) old mid → Passes (Spares pins copied limbo) mid new → Passes (Spares pins copied limbo) old new
spares_then pins copied limbo old mid new first second = passes_then (Spares pins copied limbo) (Spares pins copied limbo) old mid new first second (λ a b c was one now two n other. two n other ∙ one n other)

-- LIMBO STANDS

pub limbo_kept : (old new : Seen) (limbo : List Retired) → KeepsRows old.catalogue.rows new.catalogue.rows → granularities new.manifests ≡ granularities old.manifests → LimboStands old limbo → LimboStands new limbo
limbo_kept old new limbo keeps same stands = (λ j r lt. of_place (get_or limbo j r) (stands.0 j r lt), stands.1)
  where
    of_place : (r : Retired) → IsOfPlace old r → IsOfPlace new r
    of_place r of =
        let row = keeps r.entry.series of.row of.stands in
        record {
          place = of.place;
          granularity = of.granularity;
          here = ap (λ gs. slice_get gs of.place) same ∙ of.here;
          row = row.0;
          stands = row.1;
          part = of.part;
          named = file_grows of.granularity (of.place + 1) old.catalogue.rows new.catalogue.rows (as_filed r) keeps (record { row = of.row; stands = of.stands; part = of.part }) ∙ of.named;
        }

-- NAMES

pub among_is : (names : List Name) (name : Name) → list_any (λ other. is_same other name) names ≡ true → Contains names name
among_is names name any =
    let found = Any-from_list_any (λ other. is_same other name) names any in
    let same : found.1 ≡ name = is_same-true found.1 name found.4 in
    (found.0, found.2, subst (λ (n : Name). slice_index_or names found.0 n ≡ n) same found.3)

pub is_among : (names : List Name) (name : Name) → Contains names name → list_any (λ other. is_same other name) names ≡ true
is_among names name found = list_any-from_Any (λ other. is_same other name) names (found.0, name, found.1, found.2, is_same-same name)

pub not_both : (b : Bool) → not b ≡ true → b ≡ true → ⊥
not_both true t is = absurd (cc (t))
not_both false t is = absurd (cc (is))

pub not_false : (b : Bool) → not b ≡ false → b ≡ true
not_false true t = refl
not_false false t = absurd (cc (t))

-- CALLS

-- a file that has a size is there
pub size_there : (files : Files) (name : Name) (size : ℕ) → Some size ≡ size_of (files name) → HasFile files name (λ b. Unit {0})
size_there files name size is = go (files name) refl is
  where
    go : (content : Content) → files name ≡ content → Some size ≡ size_of content → HasFile files name (λ b. Unit {0})
    go None here is = absurd (cc (is))
    go (Some b) here is = record { bytes = b; file = here; holds = tt }

-- one more is needed, or this is true of its name
pub free_needed : (pins : FinMap nat_cmp PinOf) (copied : List Name) (P : Name → Type 0) (rs : List Retired) (i : ℕ) (r : Retired) → i < length rs → r ≡ get_or rs i r → IsNeeded pins copied r.name → AreFree pins copied P (take i rs) → AreFree pins copied P (take (i + 1) rs)
free_needed pins copied P rs i r low is needed free = All-more (λ (x : Retired). (IsNeeded pins copied x.name → ⊥) → P x.name) rs i r low free (subst (λ (x : Retired). (IsNeeded pins copied x.name → ⊥) → P x.name) is (λ not_needed. absurd (not_needed needed)))

pub free_more : (pins : FinMap nat_cmp PinOf) (copied : List Name) (P Q : Name → Type 0) (rs : List Retired) (i : ℕ) (r : Retired) → i < length rs → r ≡ get_or rs i r → ((n : Name) → P n → Q n) → Q r.name → AreFree pins copied P (take i rs) → AreFree pins copied Q (take (i + 1) rs)
free_more pins copied P Q rs i r low is still here free =
    All-more (λ (x : Retired). (IsNeeded pins copied x.name → ⊥) → Q x.name) rs i r low (λ k d lt not_needed. still (get_or (take i rs) k d).name (free k d lt not_needed)) (subst (λ (x : Retired). (IsNeeded pins copied x.name → ⊥) → Q x.name) is (λ not_needed. here))

-- a name that has no file has none once another is removed
pub none_still : (name : Name) (files later : Files) → later name ≡ None → Elsewhere name files later → (n : Name) → files n ≡ None → later n ≡ None
none_still name files later none elsewhere n was = elim (name_cases n name) [ inl same ↦ ap later same ∙ none | inr apart ↦ elsewhere n apart ∙ was ]

-- what a crash leaves of a name it leaves while calls only read
pub only_read : (content : Name → Content) (old new : Past) → Passes (λ a b. b ≡ a) old new → (n : Name) → Only old n (content n) → Only new n (content n)
only_read content old new passes n only image left =
    let come = passes.each new.now image passes.later (omega arith) left in ap (λ (f : Files). f n) come.2 ∙ only come.0 come.1

-- REMOVING FILES

-- Files of limbo whose names differ

abbrev Apart : Retired → Retired → Type 0
Apart a b = a.name ≢ b.name

-- PAIRS OF A LIST

pairs_head : {X : Type 0} (R : X → X → Type 0) (x : X) (xs : List X) → AllPairs R (x ∷ xs) → All (R x) xs
pairs_head {X} R x xs pairs k d low = pairs 0 (suc k) d (omega arith) (omega (arith, low))

pairs_tail : {X : Type 0} (R : X → X → Type 0) (x : X) (xs : List X) → AllPairs R (x ∷ xs) → AllPairs R xs
pairs_tail {X} R x xs pairs i j d less low = pairs (suc i) (suc j) d (omega (arith, less)) (omega (arith, low))

pub pairs_none : {X : Type 0} (R : X → X → Type 0) → AllPairs R []
pairs_none {X} R i j d less low = absurd (omega (arith, low))

pub pairs_both : {X : Type 0} (R : X → X → Type 0) (xs ys : List X) → AllPairs R xs → AllPairs R ys → ((x y : X) → Contains xs x → Contains ys y → R x y) → AllPairs R (xs ++ ys)
pairs_both {X} R [] ys one two apart = two
pairs_both {X} R (x ∷ xs) ys one two apart =
    AllPairs-cons R x (xs ++ ys)
    (All-append (R x) xs ys (pairs_head R x xs one) (λ k d low. apart x (get_or ys k d) (0, omega arith, refl) (Contains-get_or ys k d low)))
    (pairs_both R xs ys (pairs_tail R x xs one) two (λ a b in_a in_b. apart a b (suc in_a.0, (let low = in_a.1 in omega (arith, low)), in_a.2) in_b))

-- the first of files that rise
pub rise_take : (n : ℕ) (xs : List Filed) → PlacesRise xs → PlacesRise (take n xs)
rise_take zero xs rise = tt
rise_take (suc n) [] rise = tt
rise_take (suc n) (x ∷ xs) rise = (All-take (Comes x) n xs rise.0, rise_take n xs rise.1)

-- LIMBO

-- what stays of them differs still
pub stay_differ : (P Q : Retired → Type 0) (xs ys : List Retired) → Stay P Q xs ys → NamesDiffer xs → NamesDiffer ys
stay_differ P Q [] ys stay differ = subst NamesDiffer (sym stay) differ
stay_differ P Q (x ∷ xs) ys (inl s) differ =
    subst NamesDiffer (sym s.2)
    (AllPairs-cons Apart x s.0 (λ k d low. All-contains (Apart x) xs (get_or s.0 k d) (pairs_head Apart x xs differ) (stay_from P Q xs s.0 (get_or s.0 k d) s.3 (Contains-get_or s.0 k d low)).0)
    (stay_differ P Q xs s.0 s.3 (pairs_tail Apart x xs differ)))
stay_differ P Q (x ∷ xs) ys (inr s) differ = stay_differ P Q xs ys s.1 (pairs_tail Apart x xs differ)

-- files of a row that leave its store's list differ
pub names_apart : (g : Granularity) (store : ℕ) (rows : List Row) (fs : List Filed) → KeysDiffer rows → All (IsListed g rows) fs → PlacesRise fs → NamesDiffer (map (λ (f : Filed). retired_of (store, rows) f.entry) fs)
names_apart g store rows [] keys listed rise = pairs_none Apart
names_apart g store rows (f ∷ fs) keys listed rise = AllPairs-cons Apart (own f) (map own fs) (behind fs (All-tail (IsListed g rows) f fs listed) rise.0) (names_apart g store rows fs keys (All-tail (IsListed g rows) f fs listed) rise.1)
  where
    own : Filed → Retired
    own h = retired_of (store, rows) h.entry

    is : IsListed g rows f
    is = All-head (IsListed g rows) f fs listed

    behind : (hs : List Filed) → All (IsListed g rows) hs → All (Comes f) hs → All (Apart (own f)) (map own hs)
    behind [] all comes k d low = absurd (omega (arith, low))
    behind (h ∷ hs) all comes zero d low = λ same. before_apart (filed_at f) (filed_at h) (All-head (Comes f) h hs comes) (same_place g store rows f h keys is (All-head (IsListed g rows) h hs all) same)
    behind (h ∷ hs) all comes (suc k) d low = behind hs (All-tail (IsListed g rows) h hs all) (All-tail (Comes f) h hs comes) k d (omega (arith, low))

-- a file's name isn't among those of the files before it
pub named_once : (xs : List Retired) (i : ℕ) (r x : Retired) → NamesDiffer xs → i < length xs → r ≡ get_or xs i r → Contains (take i xs) x → x.name ≢ r.name
named_once [] i r x differ low is there same = omega (arith, low)
named_once (y ∷ xs) zero r x differ low is (k, lt, at) same = omega (arith, lt)
named_once (y ∷ xs) (suc i) r x differ low is (zero, lt, at) same =
    let in_rest : Contains xs r = (i, omega (arith, low), sym is) in
    All-contains (Apart y) xs r (pairs_head Apart y xs differ) in_rest (ap (λ (z : Retired). z.name) at ∙ same)
named_once (y ∷ xs) (suc i) r x differ low is (suc k, lt, at) same = named_once xs i r x (pairs_tail Apart y xs differ) (omega (arith, low)) is (k, omega (arith, lt), at) same

-- LISTS

rise_order : (fs : List Filed) → PlacesRise fs → InOrder (map entry_of fs)
rise_order [] rise = tt
rise_order (f ∷ fs) rise = (go fs rise.0, rise_order fs rise.1)
  where
    go : (hs : List Filed) → All (λ (h : Filed). IsTrue (comes_before (filed_at f) (filed_at h))) hs → AllByRecursion (λ d. comes_before (place f.entry) (place d) ≡ true) (map entry_of hs)
    go [] all = tt
    go (h ∷ hs) all = (All-head (λ (x : Filed). IsTrue (comes_before (filed_at f) (filed_at x))) h hs all, go hs (All-tail (λ (x : Filed). IsTrue (comes_before (filed_at f) (filed_at x))) h hs all))

-- what each manifest lists is in order
pub lists_in_order : (c : CatalogueState) (ms : List ManifestState) (s : Stores) → IsKnown c ms s → AtEach ms (λ i m. InOrder m.entries)
lists_in_order c ms s known i m here =
    let at = known.each i m here in
    subst InOrder (sym at.entries) (rise_order (list_at i s) at.valid.apart)

keeps_one : (P : Entry → Type 0) (b : Bool) (e : Entry) (es : List Entry) → P e → AllByRecursion P es → AllByRecursion P (cond b (e ∷ es) es)
keeps_one P true e es one more = (one, more)
keeps_one P false e es one more = more

filter_keeps : (P : Entry → Type 0) (test : Entry → Bool) (es : List Entry) → AllByRecursion P es → AllByRecursion P (filter test es)
filter_keeps P test [] all = tt
filter_keeps P test (e ∷ es) all = keeps_one P (test e) e (filter test es) all.0 (filter_keeps P test es all.1)

own_one : (s : ℕ) (b : Bool) (e : Entry) (es : List Entry) → (e.series == s) ≡ b → AllByRecursion (λ (x : Entry). x.series ≡ s) es → AllByRecursion (λ (x : Entry). x.series ≡ s) (cond b (e ∷ es) es)
own_one s true e es is more = ((Decides-eqb e.series s).0 is, more)
own_one s false e es is more = more

own_series : (s : ℕ) (es : List Entry) → AllByRecursion (λ (e : Entry). e.series ≡ s) (filter (λ (e : Entry). e.series == s) es)
own_series s [] = tt
own_series s (e ∷ es) = own_one s (e.series == s) e (filter (λ (x : Entry). x.series == s) es) refl (own_series s es)

order_one : (b : Bool) (e : Entry) (es : List Entry) → AllByRecursion (λ (d : Entry). comes_before (place e) (place d) ≡ true) es → InOrder es → InOrder (cond b (e ∷ es) es)
order_one true e es before order = (before, order)
order_one false e es before order = order

order_series : (s : ℕ) (es : List Entry) → InOrder es → InOrder (filter (λ (e : Entry). e.series == s) es)
order_series s [] order = tt
order_series s (e ∷ es) order =
    order_one (e.series == s) e (filter (λ (x : Entry). x.series == s) es) (filter_keeps (λ (d : Entry). comes_before (place e) (place d) ≡ true) (λ (x : Entry). x.series == s) es order.0) (order_series s es order.1)

-- so are those of one series
pub of_series : (s : ℕ) (es : List Entry) → InOrder es → OfSeries s (filter (λ e. e.series == s) es)
of_series s es order = (own_series s es, order_series s es order)

-- whether the manifest of a file's store lists one of its row and partition
pub lists_there : (ms : List ManifestState) (r : Retired) (i : ℕ) (m : ManifestState) (s t : ℕ) (es : List Entry) (b : Bool) → AtEach ms (λ k n. InOrder n.entries) → r.name.0 ≡ i + 1 → slice_get ms i ≡ Some m → s ≡ r.entry.series → t ≡ r.entry.part.start → es ≡ filter (λ (e : Entry). e.series == s) m.entries
    → ((series : ℕ) → OfSeries series es → b ≡ is_listed es (series, t)) → (not b ≡ true → ListsPlace ms r → ⊥) × (not b ≡ false → ListsPlace ms r)
lists_there ms r i m s t es b order store here series start are is =
    let own : es ≡ filter (λ (e : Entry). e.series == r.entry.series) m.entries = are ∙ ap (λ (n : ℕ). filter (λ (e : Entry). e.series == n) m.entries) series in
    let of : OfSeries r.entry.series es = subst (λ (l : List Entry). OfSeries r.entry.series l) (sym own) (of_series r.entry.series m.entries (order i m here)) in
    let both = lists_any ms r i m es b store here own (is r.entry.series of ∙ ap (λ (n : ℕ). is_listed es (r.entry.series, n)) start) in
    (λ t listed. not_both b t (both.1 listed), λ t. both.0 (not_false b t))

-- LIMBO

-- those stay at which the test of `retain` says so
pub retained : {F : Type 0} (R : F → Retired → Bool → F → Type 0) (P Q : Retired → Type 0) (f : F) → ((r : Retired) (b : Bool) (g : F) → R f r b g → ((b ≡ true → P r) × (b ≡ false → Q r)) × (g ≡ f)) → (xs ys : List Retired) → IsFiltered R f xs ys → Stay P Q xs ys
retained {F} R P Q f says xs ys k = subst (λ (l : List Retired). Stay P Q xs l) (sym k.4) (go k.0 xs k.1 k.2 k.3)
  where
    step : (b : Bool) (bs : List Bool) (r : Retired) (rs : List Retired) → (b ≡ true → P r) × (b ≡ false → Q r) → Stay P Q rs (items_where_true bs rs) → Stay P Q (r ∷ rs) (items_where_true (b ∷ bs) (r ∷ rs))
    step true bs r rs is rest = inl (items_where_true bs rs, is.0 refl, refl, rest)
    step false bs r rs is rest = inr (is.1 refl, rest)

    go : (bs : List Bool) (rs : List Retired) (q : F) → length bs ≡ length rs → ReturnsInTurn R f bs rs q → Stay P Q rs (items_where_true bs rs)
    go [] [] q e t = refl
    go [] (r ∷ rs) q e t = absurd (omega arith)
    go (b ∷ bs) [] q e t = absurd t
    go (b ∷ bs) (r ∷ rs) q e t =
        let one = says r b t.0 t.1 in
        step b bs r rs one.0 (go bs rs q (omega arith) (subst (λ (y : F). ReturnsInTurn R y bs rs q) one.1 t.2))

-- ONE FILE

pub removed_none : {B : Type 0} (r : Result B DiskErr) (name : Name) (a b : Files) → OnOk r (At name (Becomes None) a b) → OnOk r (b name ≡ None)
removed_none {B} (Ok x) name a b step = step.here
removed_none {B} (Err e) name a b step = tt

-- whatever a removal answers
pub removed_elsewhere : {B : Type 0} (r : Result B DiskErr) (name : Name) (files a b : Files) → a ≡ files → OnOk r (At name (Becomes None) a b) → OnErr r (At name (KeptOr None) a b) → Elsewhere name files b
removed_elsewhere {B} (Ok x) name files a b same done failed n apart = done.elsewhere n apart ∙ ap (λ (f : Files). f n) same
removed_elsewhere {B} (Err e) name files a b same done failed n apart = failed.elsewhere n apart ∙ ap (λ (f : Files). f n) same

pub removed_fewer : (name : Name) (opened mid after : Name → ℕ) → mid ≡ opened → ((n : Name) → n ≢ name → after n ≡ mid n) → after name ≤ mid name → (n : Name) → after n ≤ opened n
removed_fewer name opened mid after same others here n =
    let was : mid n ≡ opened n = ap (λ (o : Name → ℕ). o n) same in
    elim (name_cases n name) [
      | inl is ↦ let le : after n ≤ mid n = subst (λ (m : Name). after m ≤ mid m) (sym is) here in omega (arith, le, was)
      | inr apart ↦ let is = others n apart in omega (arith, is, was)
    ]

pub read_fewer : (opened after : Name → ℕ) → after ≡ opened → (n : Name) → after n ≤ opened n
read_fewer opened after same n = let is : after n ≡ opened n = ap (λ (o : Name → ℕ). o n) same in omega (arith, is)

-- ONE AFTER ANOTHER

module _ (pins : FinMap nat_cmp PinOf) (copied : List Name) (limbo : List Retired) where
  module _ (old now new : DiskShown) (so_far : Removes pins copied limbo old now) where
    pub removes_read : new.files ≡ now.files → new.opened ≡ now.opened → Passes (λ a b. b ≡ a) now.past new.past → Removes pins copied limbo old new
    removes_read same opened_same passes = record {
      any_moment = spares_then pins copied limbo old.past now.past new.past so_far.any_moment (passes_weaker (λ a b. b ≡ a) (Spares pins copied limbo) now.past new.past passes (λ a c left step n other. ap (λ (f : Files). f n) step));
      spares = λ n other. ap (λ (f : Files). f n) same ∙ so_far.spares n other;
      fewer = λ n. let a = read_fewer now.opened new.opened opened_same n in let b = so_far.fewer n in omega (arith, a, b);
    }

-- no crash brings back what is removed and synced
pub gone_for_good : (pins : FinMap nat_cmp PinOf) (copied : List Name) (files : Files) (past : Past) (rs : List Retired) → AreFree pins copied (λ n. files n ≡ None) rs → AreFree pins copied (λ n. Only past n (files n)) rs → AreFree pins copied (λ n. Only past n None) rs
gone_for_good pins copied files past rs gone durable k d lt free =
    let n : Name = (get_or rs k d).name in
    subst (λ (content : Content). Only past n content) (gone k d lt free) (durable k d lt free)

-- whether a file is needed, where no pin names it
pub needed_among : (table : FinMap nat_cmp PinnedNames) (pins : FinMap nat_cmp PinOf) (copied : List Name) (name : Name) (pinned among : Bool) → Agree table pins → (IsTrue pinned ↔ IsPinned table name) → pinned ≡ false → among ≡ list_any (λ other. is_same other name) copied → IsTrue among ↔ IsNeeded pins copied name
needed_among table pins copied name pinned among agree says none is = (
  λ yes. inr (among_is copied name (sym is ∙ yes)),
  λ needed. elim needed [
    | inl p ↦ let yes : pinned ≡ true = says.1 (pinned_from table pins name agree p) in absurd (cc (yes, none))
    | inr within ↦ is ∙ is_among copied name within
  ],
)

-- WHAT IS ANSWERED

pub on_ok : {A : Type 0} (r : Result A DiskErr) (P Q : Type 0) → (P → Q) → OnOk r P → OnOk r Q
on_ok {A} (Ok a) P Q to was = to was
on_ok {A} (Err e) P Q to was = tt

pub on_err : {A : Type 0} (r : Result A DiskErr) (P Q : Type 0) → (P → Q) → OnErr r P → OnErr r Q
on_err {A} (Ok a) P Q to was = tt
on_err {A} (Err e) P Q to was = to was

-- a count that rose has risen by any later number
pub rose_until : (a b c : ℕ) → b ≤ c → Rose a b → Rose a c
rose_until a b c low rose = omega (arith, low, rose)

-- both were done, or a failure is told
pub both_done : (a b : Result (Unit {0}) DiskErr) (P Q S : Type 0) → (P → Q → S) → OnOk a P → OnOk b Q → OnOk (result_and a b) S
both_done (Ok u) (Ok v) P Q S to one two = to one two
both_done (Ok u) (Err e) P Q S to one two = tt
both_done (Err e) b P Q S to one two = tt

module _ (pins : FinMap nat_cmp PinOf) (copied : List Name) (retired left : List Retired) (needed : StayNeeded pins copied retired left) where
  -- what is needed is in limbo still
  pub needed_stays : (x : Retired) → Contains retired x → IsNeeded pins copied x.name → Contains left x
  needed_stays x within is = elim (stay_cases (λ y. IsNeeded pins copied y.name) (λ y. IsNeeded pins copied y.name → ⊥) retired left x needed within) [ inl here ↦ here | inr gone ↦ absurd (gone is) ]

  -- and nothing has come into it
  pub none_came : (x : Retired) → Contains left x → Contains retired x
  none_came x within = (stay_from (λ y. IsNeeded pins copied y.name) (λ y. IsNeeded pins copied y.name → ⊥) retired left x needed within).0

-- nothing has left limbo
pub none_left : (at : Seen) (xs ys : List Retired) → ys ≡ xs → LeaveListed at xs ys
none_left at xs ys same = subst (LeaveListed at xs) (sym same) (go xs)
  where
    go : (xs : List Retired) → LeaveListed at xs xs
    go [] = refl
    go (x ∷ xs) = inl (xs, tt, refl, go xs)

-- The files that are to be removed and are there: how they are found, and what is left once they are removed

-- WHAT IS THERE

pub some_file : (files : Files) (name : Name) → IsSome (files name) → HasFile files name (λ b. Unit {0})
some_file files name some = go (files name) refl some
  where
    go : (content : Content) → files name ≡ content → IsSome content → HasFile files name (λ b. Unit {0})
    go None here some = absurd (cc (some))
    go (Some b) here some = record { bytes = b; file = here; holds = tt }

pub none_not_some : (content : Content) → content ≡ None → IsSome content → ⊥
none_not_some None is some = cc (some)
none_not_some (Some b) is some = cc (is)

pub not_some_none : (content : Content) → (IsSome content → ⊥) → content ≡ None
not_some_none None not = refl
not_some_none (Some b) not = absurd (not refl)

-- THE SEARCH

in_more : (xs : List Retired) (i : ℕ) (r x : Retired) → i < length xs → Contains (take i xs) x → Contains (take (i + 1) xs) x
in_more xs i r x low there = subst (λ (l : List Retired). Contains l x) (sym (take_more xs i r low)) (Contains-append_left (take i xs) (get_or xs i r ∷ []) x there)

this_more : (xs : List Retired) (i : ℕ) (r : Retired) → i < length xs → r ≡ get_or xs i r → Contains (take (i + 1) xs) r
this_more xs i r low is = subst (λ (l : List Retired). Contains l r) (sym (take_more xs i r low)) (Contains-append_right (take i xs) (get_or xs i r ∷ []) r (0, omega arith, sym is))

module _ (Goes : Retired → Type 0) (xs : List Retired) (files : Files) where
  module _ (i : ℕ) (r : Retired) (low : i < length xs) (is : r ≡ get_or xs i r) (names : List Name) (so_far : AreRemovable Goes (take i xs) files names) where
    own_more : All (λ (n : Name). (x : Retired) × Contains (take (i + 1) xs) x × (x.name ≡ n) × Goes x) names
    own_more k d lt = let o = so_far.own k d lt in (o.0, in_more xs i r o.0 low o.1, o.2, o.3)

    -- one that doesn't go, or isn't there
    pub found_other : (Goes r → files r.name ≡ None) → AreRemovable Goes (take (i + 1) xs) files names
    found_other absent = record {
      once = so_far.once;
      there = so_far.there;
      own = own_more;
      each = All-more (λ (x : Retired). Goes x → Contains names x.name ⊎ (files x.name ≡ None)) xs i r low so_far.each
          (subst (λ (x : Retired). Goes x → Contains names x.name ⊎ (files x.name ≡ None)) is (λ goes. inr (absent goes)));
    }

    -- one that goes and is there
    pub found_more : NamesDiffer xs → Goes r → IsSome (files r.name) → AreRemovable Goes (take (i + 1) xs) files (names ++ r.name ∷ [])
    found_more differ goes some = record {
      once = all_pairs_push (λ (a b : Name). a ≢ b) names r.name so_far.once (λ k d lt same.
          let o = so_far.own k d lt in named_once xs i r o.0 differ low is o.1 (o.2 ∙ same));
      there = All-append (λ (n : Name). IsSome (files n)) names (r.name ∷ []) so_far.there (one (λ (n : Name). IsSome (files n)) some);
      own = All-append (λ (n : Name). (x : Retired) × Contains (take (i + 1) xs) x × (x.name ≡ n) × Goes x) names (r.name ∷ []) own_more
          (one (λ (n : Name). (x : Retired) × Contains (take (i + 1) xs) x × (x.name ≡ n) × Goes x) (r, this_more xs i r low is, refl, goes));
      each = All-more (λ (x : Retired). Goes x → Contains (names ++ r.name ∷ []) x.name ⊎ (files x.name ≡ None)) xs i r low
          (λ k d lt there. elim (so_far.each k d lt there) [
            | inl in_names ↦ inl (Contains-append_left names (r.name ∷ []) (get_or (take i xs) k d).name in_names)
            | inr none ↦ inr none
          ])
          (subst (λ (x : Retired). Goes x → Contains (names ++ r.name ∷ []) x.name ⊎ (files x.name ≡ None)) is
          (λ goes_too. inl (Contains-append_right names (r.name ∷ []) r.name (0, omega arith, refl))));
    }
      where
        one : (P : Name → Type 0) → P r.name → All P (r.name ∷ [])
        one P p zero d lt = p
        one P p (suc k) d lt = absurd (omega (arith, lt))

-- those of limbo that no manifest lists, among all
pub found_unlisted : (ms : List ManifestState) (pins : FinMap nat_cmp PinOf) (copied : List Name) (limbo left : List Retired) (files : Files) (names : List Name) → Stay (λ r. ListsPlace ms r → ⊥) (ListsPlace ms) limbo left → AreRemovable (IsLeftOver ms pins copied) limbo files names → AreRemovable (IsUseless pins copied) left files names
found_unlisted ms pins copied limbo left files names stay found = record {
  once = found.once;
  there = found.there;
  own = λ k d lt.
      let o = found.own k d lt in
      elim (stay_cases (λ r. ListsPlace ms r → ⊥) (ListsPlace ms) limbo left o.0 stay o.1) [
        | inl within ↦ (o.0, within, o.2, o.3.1)
        | inr listed ↦ absurd (o.3.0 listed)
      ];
  each = λ k d lt useless.
      let r : Retired = get_or left k d in
      let from = stay_from (λ x. ListsPlace ms x → ⊥) (ListsPlace ms) limbo left r stay (Contains-get_or left k d lt) in
      All-contains (λ (x : Retired). IsLeftOver ms pins copied x → Contains names x.name ⊎ (files x.name ≡ None)) limbo r found.each from.0 (from.1, useless);
}

-- where no manifest is asked
pub found_useless : (pins : FinMap nat_cmp PinOf) (copied : List Name) (limbo : List Retired) (files : Files) (names : List Name) → AreRemovable (IsLeftOver [] pins copied) limbo files names → AreRemovable (IsUseless pins copied) limbo files names
found_useless pins copied limbo files names found = record {
  once = found.once;
  there = found.there;
  own = λ k d lt. let o = found.own k d lt in (o.0, o.1, o.2, o.3.1);
  each = λ k d lt useless. found.each k d lt (λ (listed : ListsPlace [] (get_or limbo k d)). no_place listed.place listed.manifest listed.here, useless);
}
  where
    no_place : (i : ℕ) (m : ManifestState) → slice_get [] i ≡ Some m → ⊥
    no_place i m is = cc (is)

-- the same of files that have these names still
pub found_still : (Goes : Retired → Type 0) (limbo : List Retired) (files later : Files) (names : List Name) → ((r : Retired) → Contains limbo r → later r.name ≡ files r.name) → AreRemovable Goes limbo files names → AreRemovable Goes limbo later names
found_still Goes limbo files later names same found = record {
  once = found.once;
  there = λ k d lt.
      let o = found.own k d lt in
      let is : later (get_or names k d) ≡ files (get_or names k d) = subst (λ (n : Name). later n ≡ files n) o.2 (same o.0 o.1) in
      subst IsSome (sym is) (found.there k d lt);
  own = found.own;
  each = λ k d lt goes. elim (found.each k d lt goes) [
    | inl within ↦ inl within
    | inr none ↦ inr (same (get_or limbo k d) (Contains-get_or limbo k d lt) ∙ none)
  ];
}

-- THE REMOVAL

pub names_none : (names : List Name) (disk : DiskShown) → RemovesNames names disk disk
names_none names disk = record {
  any_moment = passes_none (SparesNames names) disk.past (λ a left n other. refl);
  spares = λ n other. refl;
  fewer = λ n. omega arith;
}

pub names_more : (names : List Name) (old now new : DiskShown) (name : Name) → Contains names name → RemovesNames names old now → Elsewhere name now.files new.files → Passes (Elsewhere name) now.past new.past → ((n : Name) → new.opened n ≤ now.opened n) → RemovesNames names old new
names_more names old now new name within so_far elsewhere passes fewer = record {
  any_moment = passes_then (SparesNames names) (SparesNames names) old.past now.past new.past so_far.any_moment (passes_weaker (Elsewhere name) (SparesNames names) now.past new.past passes (λ a c left step. apart a c step)) (λ a b c was one left two n other. two n other ∙ one n other);
  spares = λ n other. apart now.files new.files elsewhere n other ∙ so_far.spares n other;
  fewer = λ n. let a = fewer n in let b = so_far.fewer n in omega (arith, a, b);
}
  where
    apart : (a b : Files) → Elsewhere name a b → SparesNames names a b
    apart a b step n other = step n (λ is. other (subst (Contains names) (sym is) within))

-- what is removed so far is gone still
pub gone_more : (names : List Name) (i : ℕ) (name : Name) (mid later : Files) → i < length names → name ≡ get_or names i name → Elsewhere name mid later → later name ≡ None → All (λ (n : Name). mid n ≡ None) (take i names) → All (λ (n : Name). later n ≡ None) (take (i + 1) names)
gone_more names i name mid later low is elsewhere none gone =
    All-more (λ (n : Name). later n ≡ None) names i name low (λ k d lt. none_still name mid later none elsewhere (get_or (take i names) k d) (gone k d lt)) (subst (λ (n : Name). later n ≡ None) is none)

-- and those behind it are there
pub there_more : (names : List Name) (i : ℕ) (name : Name) (mid later : Files) → AllPairs (λ (a b : Name). a ≢ b) names → name ≡ get_or names i name → Elsewhere name mid later → ((k : ℕ) (d : Name) → i ≤ k → k < length names → IsSome (mid (get_or names k d))) → (k : ℕ) (d : Name) → i + 1 ≤ k → k < length names → IsSome (later (get_or names k d))
there_more names i name mid later once is elsewhere there k d behind low =
    let own : get_or names i d ≡ name = get_or_default names i d name (omega (arith, behind, low)) ∙ sym is in
    let apart : get_or names k d ≢ name = λ same. once i k d (omega (arith, behind)) low (own ∙ sym same) in
    subst IsSome (sym (elsewhere (get_or names k d) apart)) (there k d (omega (arith, behind)) low)

pub both_err : (a b : Result (Unit {0}) DiskErr) (P : Type 0) → (IsErr a → P) → (IsErr b → P) → IsErr (result_and a b) → P
both_err (Ok u) b P one two is = two is
both_err (Err e) b P one two is = one refl

module _ (pins : FinMap nat_cmp PinOf) (copied : List Name) (limbo : List Retired) (names : List Name) (old new : DiskShown) (found : AreRemovable (IsUseless pins copied) limbo old.files names) (removes : RemovesNames names old new) where
  own_spared : (a b : Files) → SparesNames names a b → Spares pins copied limbo a b
  own_spared a b step n other = step n (λ within.
      let o = All-contains (λ (m : Name). (r : Retired) × Contains limbo r × (r.name ≡ m) × IsUseless pins copied r) names n found.own within in
      o.3 (subst (IsNeeded pins copied) (sym o.2) (other o.0 o.1 o.2)))

  pub own_removed : Removes pins copied limbo old new
  own_removed = record {
    any_moment = passes_weaker (SparesNames names) (Spares pins copied limbo) old.past new.past removes.any_moment (λ a c left step. own_spared a c step);
    spares = own_spared old.files new.files removes.spares;
    fewer = removes.fewer;
  }

  pub own_gone : All (λ (n : Name). new.files n ≡ None) names → AreFree pins copied (λ n. new.files n ≡ None) limbo
  own_gone gone k d lt useless =
      let n : Name = (get_or limbo k d).name in
      elim (found.each k d lt useless) [
        | inl within ↦ All-contains (λ (m : Name). new.files m ≡ None) names n gone within
        | inr none ↦ removes.spares n (λ within. none_not_some (old.files n) none (All-contains (λ (m : Name). IsSome (old.files m)) names n found.there within)) ∙ none
      ]

-- The entries of files in limbo that their store doesn't list, one after another

pub unlisted_none : (ms : List ManifestState) (store : ℕ) → AreUnlistedIn ms store [] []
unlisted_none ms store = record { from = All-nil (IsOfUnlisted ms store []); every = λ r within unlisted. let low = within.1 in absurd (omega (arith, low)) }

module _ (ms : List ManifestState) (store : ℕ) (xs : List Retired) (es : List Entry) (r : Retired) (so_far : AreUnlistedIn ms store xs es) where
  from_more : All (IsOfUnlisted ms store (xs ++ r ∷ [])) es
  from_more k d lt = let was = so_far.from k d lt in record { file = was.file; within = Contains-append_left xs (r ∷ []) was.file was.within; unlisted = was.unlisted; is = was.is }

  pub unlisted_with : IsUnlistedOf ms store r → AreUnlistedIn ms store (xs ++ r ∷ []) (es ++ r.entry ∷ [])
  unlisted_with unlisted = record {
    from = All-push (IsOfUnlisted ms store (xs ++ r ∷ [])) es r.entry from_more (record { file = r; within = Contains-push xs r; unlisted = unlisted; is = refl });
    every = λ x within is. elim (Contains-push_cases xs r x within) [
      | inl there ↦ Contains-append_left es (r.entry ∷ []) x.entry (so_far.every x there is)
      | inr same ↦ subst (λ (y : Retired). Contains (es ++ r.entry ∷ []) y.entry) same (Contains-push es r.entry)
    ];
  }

  pub unlisted_without : (IsUnlistedOf ms store r → ⊥) → AreUnlistedIn ms store (xs ++ r ∷ []) es
  unlisted_without not_unlisted = record {
    from = from_more;
    every = λ x within is. elim (Contains-push_cases xs r x within) [
      | inl there ↦ so_far.every x there is
      | inr same ↦ absurd (not_unlisted (subst (IsUnlistedOf ms store) (sym same) is))
    ];
  }

-- DROPPING ENTRIES

-- an entry behind another is listed still without that one
listed_still : (entries : List Entry) (p q : Place) → IsTrue (comes_before p q) → IsTrue (is_listed entries q) → IsTrue (is_listed (without place p entries) q)
listed_still entries p q before listed =
    let test : Entry → Bool = λ e. is_place (place e) q in
    let back : list_any test (filter (λ y. comes_before p (place y)) entries) ≡ true =
    any-filter_same test (λ y. comes_before p (place y)) true (λ y is. let first : y.series ≡ q.0 = grind (arith, nat_tests) in let second : y.part.start ≡ q.1 = grind (arith, nat_tests) in grind (arith, nat_tests, before, first, second)) entries ∙ listed in
    list_any-append test (filter (λ y. comes_before (place y) p) entries) (filter (λ y. comes_before p (place y)) entries) ∙ or_right (list_any test (filter (λ y. comes_before (place y) p) entries)) (list_any test (filter (λ y. comes_before p (place y)) entries)) back
  where
    or_right : (a b : Bool) → b ≡ true → (a || b) ≡ true
    or_right true b is = refl
    or_right false b is = is

pub drops_follow : (g : Granularity) (parts entries : List Entry) → InOrder parts → AllByRecursion (λ (e : Entry). IsTrue (is_listed entries (place e))) parts → AllCanFollow g entries (map drop_entry parts)
drops_follow g [] entries order listed = tt
drops_follow g (e ∷ es) entries order listed = (listed.0, drops_follow g es (without place (place e) entries) order.1 (still es order.0 listed.1))
  where
    still : (ds : List Entry) → AllByRecursion (λ (d : Entry). comes_before (place e) (place d) ≡ true) ds → AllByRecursion (λ (d : Entry). IsTrue (is_listed entries (place d))) ds → AllByRecursion (λ (d : Entry). IsTrue (is_listed (without place (place e) entries) (place d))) ds
    still [] before there = tt
    still (d ∷ ds) before there = (listed_still entries (place e) (place d) before.0 there.0, still ds before.1 there.1)

own_place : (e : Entry) → is_place (place e) (place e) ≡ true
own_place e = grind (arith, nat_tests)

all_listed : (entries : List Entry) → All (λ (e : Entry). IsTrue (is_listed entries (place e))) entries
all_listed entries k d lt = list_any-from_Any (λ (x : Entry). is_place (place x) (place (get_or entries k d))) entries (k, get_or entries k d, lt, get_or_default entries k (get_or entries k d) d lt, own_place (get_or entries k d))

pub oldest_follow : (g : Granularity) (row n : ℕ) (entries : List Entry) → InOrder entries → AllCanFollow g entries (map drop_entry (oldest_entries row n entries))
oldest_follow g row n entries order =
    drops_follow g (oldest_entries row n entries) entries (take_order n (filter (λ (e : Entry). e.series == row) entries) (of_series row entries order).1)
    (recursion_from_All (λ (e : Entry). IsTrue (is_listed entries (place e))) (oldest_entries row n entries)
    (All-take (λ (e : Entry). IsTrue (is_listed entries (place e))) n (filter (λ (e : Entry). e.series == row) entries) (All-filter (λ (e : Entry). e.series == row) (λ (e : Entry). IsTrue (is_listed entries (place e))) entries (all_listed entries))))
