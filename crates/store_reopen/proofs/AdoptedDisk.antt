-- What an adoption makes of a disk: whose files paths are, what stays unlisted, and what is opened in the end.
use Rattle.std.proofs.Common.{◌≡◌, Bool, true, false, ℕ, suc, ◌<◌, ◌+◌, List, [], sym, ◌∙◌, ap, subst, arith, cond, zero, ◌≤◌, ◌∷◌, map, filter, Some, refl, ◌⊎◌, inl, inr, length, nat_eq, ◌++◌, append_assoc, append-nil, take, not, ◌==◌, ◌||◌, ◌&&◌, get_or, Option}
use Rattle.std.specs.Prelude.{slice_get, All, Contains, IsTrue, ◌↔◌}
use Rattle.disk_model.specs.Files.{Name, Files}
use Rattle.partition_names.specs.declared.granularity.Granularity.{Granularity}
use Rattle.pv_catalog.specs.declared.row.Row.{Row}
use Rattle.store_manifest.specs.declared.entry.Entry.{Entry}
use Rattle.store_reopen.specs.Adoption.{IsUnlisted, NoneFoundOpened, Adopts, AdoptsFrom, HasAdopted, IsMarked, IsMarkedOf, OpensStage}
use Rattle.std.proofs.lemmas.Bool.Decides.{nat_tests, Decides-eqb}
use Rattle.std.proofs.lemmas.List.Elements.{All-contains, Contains-append_left, Contains-append_right}
use Rattle.disk_model.specs.declared.disk.Disk.{Ghosts}
use Rattle.gate_journal.specs.Kept.{Says}
use Rattle.gate_journal.specs.DiskShown.{shown_by}
use Rattle.partition_names.specs.Path.{path_of}
use Rattle.partition_names.proofs.PartLemmas.{one_part, within, one_name}
use Rattle.pv_catalog.specs.Catalogue.{CatalogueState, registered, catalogue_name, Refuses}
use Rattle.store_manifest.specs.Batches.{Folds}
use Rattle.store_manifest.specs.Manifest.{ManifestState, manifest_name}
use Rattle.durable_write.specs.Held.{entry_of, file_of, name_of, Filed, IsListed, filed_at, listing_of, AreFiled}
use Rattle.tier_store.specs.Change.{Has}
use Rattle.tier_store.specs.Seen.{granularities, Seen, seen}
use Rattle.tier_store.specs.Stored.{HoldsAll}
use Rattle.tier_store.specs.Stores.{Stores, list_at, tier}
use Rattle.tier_store.proofs.OnePlace.{in_out}
use Rattle.store_reopen.specs.Following.{NoneUnlistedOpened, Follows, HasAdoptedOf, LeavesOff}
use Rattle.store_reopen.specs.Loading.{KeepsSaid, Catalogue, Manifest, StillSay}
use Rattle.store_reopen.specs.Reopen.{loaded, ChangesSite, HasRead, HoldsEither, IsUnopened, LeavesSite, OnlySite, Opens, OpensEither, Reopens, SameStores, StillHolds, lists_of}
use Rattle.store_reopen.specs.Steps.{Step, made_by, Lists, NewRow, stepped, EndsSteps, MakesSteps, StopsWithin, stage}
use Rattle.store_manifest.specs.Entries.{Place, comes_before, put, AreEntries, is_listed, is_place, place as place_of}
use Rattle.store_manifest.proofs.Committing.{one_listing}
use Rattle.durable_write.specs.Flush.{put_all}
use Rattle.tier_store.proofs.Places.{granularity_at, manifest_at, manifest_of, within_three}
use Rattle.store_reopen.proofs.Having.{is_at, no_more, one_list_of_rows, listed_at, row_at}
use Rattle.durable_write.proofs.Staying.{contains_map}
use Rattle.durable_write.proofs.Written.{contains_entry}
use Rattle.pv_catalog.proofs.Standing.{still_there}
use Rattle.disk_model.specs.Past.{MayLeave, Passes, Past}
use Rattle.disk_model.proofs.Passing.{passes_then, passes_weaker}
use Rattle.pv_catalog.specs.Rows.{IsCatalogue, AreRows, HasKey}
use Rattle.tier_store.specs.declared.store.TierStore.{TierStore}
use Rattle.tier_store.proofs.Holding.{has_left}
use Rattle.store_reopen.specs.Marking.{LeavesOthers, Marks}
use Rattle.store_reopen.specs.Verdict.{AreSaid, IsWhole, HasRow}
use Rattle.store_reopen.specs.declared.adopted.Adopted.{Adopted}
use Rattle.store_reopen.proofs.Swept.{site_same, doubt_opens, has_opens, open_unopened}
use Rattle.store_reopen.proofs.Marking.{loaded_marked, has_marked, marked_all_in, marked_holds}
use Rattle.store_reopen.proofs.Stages.{whole_stage}
use Rattle.std.proofs.lemmas.Option.{same_Some, slice_get_within}
use Rattle.partition_names.specs.declared.part.Part.{Part}
use Rattle.partition_names.specs.Part.{IsPart}
use Rattle.partition_names.proofs.PathLemmas.{one_path}
use Rattle.pv_name.specs.Key.{key_byte, key_of}
use Rattle.pv_name.specs.Name.{IsName, IsRefusedAt, is_separator}
use Rattle.pv_name.proofs.KeyNames.{keys_are_names}
use Rattle.pv_catalog.specs.declared.error.RegisterErr.{RegisterErr}
use Rattle.pv_catalog.specs.declared.error.RegisterErr.TheVariants.{NameTaken, KeyTaken}
use Rattle.store_reopen.specs.Strays.{IsFileOf, IsStrayOf}

-- Files that no manifest lists weren't opened by an adoption: what was listed before it is listed behind it.

-- PLACES

-- an element that passes is among those that do
passes_in : (test : Filed → Bool) (xs : List Filed) (f : Filed) → test f ≡ true → Contains xs f → Contains (filter test xs) f
passes_in test [] f passes (k, low, is) = absurd (omega (arith, low))
passes_in test (x ∷ xs) f passes (zero, low, is) = go (test x) refl
  where
    go : (b : Bool) → test x ≡ b → Contains (cond b (x ∷ filter test xs) (filter test xs)) f
    go true so = (0, omega arith, is)
    go false not = absurd (cc (ap test is, not, passes))
passes_in test (x ∷ xs) f passes (suc k, low, is) = go (test x) (passes_in test xs f passes (k, omega (arith, low), is))
  where
    go : (b : Bool) → Contains (filter test xs) f → Contains (cond b (x ∷ filter test xs) (filter test xs)) f
    go true rest = (suc rest.0, omega (arith, rest.1), rest.2)
    go false rest = rest

-- a list has a file at this place
abbrev HasAt : List Filed → Place → Type 0
HasAt xs p = (f : Filed) × Contains xs f × (filed_at f ≡ p)

abbrev front_of : Filed → List Filed → List Filed
front_of h xs = filter (λ (y : Filed). comes_before (filed_at y) (filed_at h)) xs

abbrev back_of : Filed → List Filed → List Filed
back_of h xs = filter (λ (y : Filed). comes_before (filed_at h) (filed_at y)) xs

-- where a place was listed it is so with a file put among the others
put_at : (h f : Filed) (xs : List Filed) → Contains xs f → HasAt (put filed_at h xs) (filed_at f)
put_at h f xs has = before (comes_before (filed_at f) (filed_at h)) refl
  where
    behind : (b : Bool) → comes_before (filed_at h) (filed_at f) ≡ b → comes_before (filed_at f) (filed_at h) ≡ false → HasAt (put filed_at h xs) (filed_at f)
    behind true later earlier = (f, Contains-append_right (front_of h xs) (h ∷ back_of h xs) f (Contains-append_right (h ∷ []) (back_of h xs) f (passes_in (λ (y : Filed). comes_before (filed_at h) (filed_at y)) xs f later has)), refl)
    behind false later earlier =
        let series : h.entry.series ≡ f.entry.series = grind (arith, nat_tests) in
        let start : h.entry.part.start ≡ f.entry.part.start = grind (arith, nat_tests) in
        (h, Contains-append_right (front_of h xs) (h ∷ back_of h xs) h (0, omega arith, refl), λ i. (series i, start i))

    before : (b : Bool) → comes_before (filed_at f) (filed_at h) ≡ b → HasAt (put filed_at h xs) (filed_at f)
    before true earlier = (f, Contains-append_left (front_of h xs) (h ∷ back_of h xs) f (passes_in (λ (y : Filed). comes_before (filed_at y) (filed_at h)) xs f earlier has), refl)
    before false earlier = behind (comes_before (filed_at h) (filed_at f)) refl earlier

has_on : (xs : List Filed) (p q : Place) → p ≡ q → HasAt xs p → HasAt xs q
has_on xs p q same has = (has.0, has.1, has.2 ∙ same)

put_all_at : (fs xs : List Filed) (f : Filed) → Contains xs f → HasAt (put_all xs fs) (filed_at f)
put_all_at [] xs f has = (f, has, refl)
put_all_at (h ∷ fs) xs f has =
    let one = put_at h f xs has in has_on (put_all (put filed_at h xs) fs) (filed_at one.0) (filed_at f) one.2 (put_all_at fs (put filed_at h xs) one.0 one.1)

-- STEPS

-- a list that may be changed at its place
list_at_on : (i j : ℕ) (s : Stores) (files : List Filed) (f : Filed) → Contains (list_at i s) f → (b : Bool) → nat_eq j i ≡ b → HasAt (cond b (put_all (list_at j s) files) (list_at i s)) (filed_at f)
list_at_on i j s files f has true is = let same : j ≡ i = (Decides-eqb j i).0 is in put_all_at files (list_at j s) f (subst (λ (k : ℕ). Contains (list_at k s) f) (sym same) has)
list_at_on i j s files f has false other = (f, has, refl)

step_at : (x : Step) (s : Stores) (i : ℕ) (f : Filed) → i < 3 → Contains (list_at i s) f → HasAt (list_at i (stepped x s)) (filed_at f)
step_at (NewRow name about) s i f low has = (f, has, refl)
step_at (Lists j files) s zero f low has = list_at_on 0 j s files f has (nat_eq j 0) refl
step_at (Lists j files) s (suc zero) f low has = list_at_on 1 j s files f has (nat_eq j 1) refl
step_at (Lists j files) s (suc (suc zero)) f low has = list_at_on 2 j s files f has (nat_eq j 2) refl
step_at (Lists j files) s (suc (suc (suc i))) f low has = absurd (omega (arith, low))

steps_at : (xs : List Step) (s : Stores) (i : ℕ) (f : Filed) → i < 3 → Contains (list_at i s) f → HasAt (list_at i (made_by xs s)) (filed_at f)
steps_at [] s i f low has = (f, has, refl)
steps_at (x ∷ xs) s i f low has = let one = step_at x s i f low has in has_on (list_at i (made_by xs (stepped x s))) (filed_at one.0) (filed_at f) one.2 (steps_at xs (stepped x s) i one.0 low one.1)

-- the rows that stood stand still
rows_on : (xs : List Step) (s : Stores) → (more : List Row) × ((made_by xs s).rows ≡ s.rows ++ more)
rows_on [] s = ([], sym (append-nil s.rows))
rows_on (NewRow name about ∷ xs) s =
    let row : Row = registered s.rows name about in
    let rest = rows_on xs (stepped (NewRow name about) s) in (row ∷ rest.0, rest.1 ∙ append_assoc s.rows (row ∷ []) rest.0)
rows_on (Lists i files ∷ xs) s = rows_on xs (stepped (Lists i files) s)

-- FILES

module _ (g : Granularity) (i : ℕ) (low : i < 3) (held : Stores) (xs : List Step) (n : Name)
    (was : All (IsListed g held.rows) (list_at i held)) (now : All (IsListed g (made_by xs held).rows) (list_at i (made_by xs held))) where
  abbrev then_rows : List Row
  then_rows = (made_by xs held).rows

  -- the file that is listed at a place is the one that was
  same_file : (f k : Filed) → IsListed g held.rows f → IsListed g then_rows k → filed_at k ≡ filed_at f → file_of (i + 1, then_rows) k.entry ≡ file_of (i + 1, held.rows) f.entry
  same_file f k old new at =
      let series : k.entry.series ≡ f.entry.series = ap (λ (p : Place). p.0) at in
      let start : k.entry.part.start ≡ f.entry.part.start = ap (λ (p : Place). p.1) at in
      let own = within g k.entry.part new.part in
      let his = within g f.entry.part old.part in
      let unit : k.entry.part ≡ f.entry.part = one_part g k.entry.part f.entry.part k.entry.part.start new.part old.part (omega arith, own.1) (omega (arith, start), omega (arith, start, his.1)) in
      let more = rows_on xs held in
      let there : slice_get then_rows k.entry.series ≡ slice_get held.rows f.entry.series =
      ap (slice_get then_rows) series ∙ ap (λ (rows : List Row). slice_get rows f.entry.series) more.1 ∙ still_there held.rows more.0 f.entry.series old.row old.stands ∙ sym old.stands in
      λ j. (i + 1, path_of (name_of (there j)) (unit j).name)

  unlisted_before : IsUnlisted (listing_of (tier i (made_by xs held))) n → IsUnlisted (listing_of (tier i held)) n
  unlisted_before unlisted e in_held named =
      let f = contains_map (list_at i held) e in_held in
      let k = steps_at xs held i f.0 low f.1 in
      let file = same_file f.0 k.0 (All-contains (IsListed g held.rows) (list_at i held) f.0 was f.1) (All-contains (IsListed g then_rows) (list_at i (made_by xs held)) k.0 now k.1) k.2 in
      unlisted k.0.entry (contains_entry (list_at i (made_by xs held)) k.0 k.1) (file ∙ ap (λ (x : Entry). file_of (i + 1, held.rows) x) f.2 ∙ named)

-- THE WHOLE

module _ {D R : Type 0} (disk : Ghosts D R) (gs : List Granularity) (mid new : D) (c : CatalogueState) (ms : List ManifestState) (same : granularities ms ≡ gs) (held : Stores) (has : Has disk.tells (loaded disk c ms mid) held)
    (none : NoneUnlistedOpened c.rows ms (disk.opened mid)) (fewer : (n : Name) → disk.opened new n ≤ disk.opened mid n) where
  -- once steps were made of what was held, and no name was opened further
  pub found_behind : (xs : List Step) → HoldsAll gs (disk.files new) (made_by xs held) → NoneFoundOpened gs (disk.files new) (disk.opened new)
  found_behind xs holds s reads i n low store own =
      let m = manifest_at ms i (omega (arith, low, has.known.three)) in
      let g = m.0.granularity in
      let here : slice_get gs i ≡ Some g = ap (λ (l : List Granularity). slice_get l i) (sym same) ∙ granularity_at ms i m.0 m.1 in
      let made = made_by xs held in
      let now = holds i g here in
      let read = reads i g here in
      let of_rows : s.rows ≡ made.rows = one_list_of_rows (disk.files new) s.rows made.rows read.rows now.rows in
      let lists : map entry_of (list_at i s) ≡ map entry_of (list_at i made) = one_listing g g (manifest_name (i + 1)) (disk.files new) (map entry_of (list_at i s)) (map entry_of (list_at i made)) read.lists now.lists in
      let still : IsUnlisted ((i + 1, made.rows), map entry_of (list_at i made)) n = subst (λ (es : List Entry). IsUnlisted ((i + 1, made.rows), es) n) lists (subst (λ (rows : List Row). IsUnlisted ((i + 1, rows), map entry_of (list_at i s)) n) of_rows own) in
      let known = has.known.each i m.0 m.1 in
      let before : IsUnlisted ((i + 1, held.rows), map entry_of (list_at i held)) n = unlisted_before g i low held xs n known.valid.filed.listed now.filed.listed still in
      let mine : IsUnlisted ((i + 1, c.rows), m.0.entries) n = subst (λ (es : List Entry). IsUnlisted ((i + 1, c.rows), es) n) (sym known.entries) (subst (λ (rows : List Row). IsUnlisted ((i + 1, rows), map entry_of (list_at i held)) n) (sym has.known.rows) before) in
      let zero_then = none i m.0 n m.1 store mine in
      let less = fewer n in
      omega (arith, zero_then, less)

-- where journals were loaded alone
pub found_loaded : {D R : Type 0} (disk : Ghosts D R) (gs : List Granularity) (old mid : D) → KeepsSaid gs (shown_by disk old) (shown_by disk mid) → NoneFoundOpened gs (disk.files old) (disk.opened old)
    → NoneFoundOpened gs (disk.files mid) (disk.opened mid)
found_loaded {D} {R} disk gs old mid keeps none s reads i n low store own = keeps.same_opened n (λ is. absurd (omega (arith, store, is))) ∙ none s before i n low store own
  where
    numbered : (j : ℕ) → 1 ≤ j + 1
    numbered j = omega arith

    before : HoldsAll gs (disk.files old) s
    before j g here =
        let read = reads j g here in
        let is = is_at gs j g here in
        let es : List Entry = map entry_of (list_at j s) in
        record {
          rows = no_more gs gs Catalogue (disk.files old) (disk.files mid) s.rows (keeps.now.journals Catalogue) read.rows;
          lists = subst (λ (h : Granularity). Says (Folds h) es (manifest_name (j + 1)) (disk.files old)) is (no_more gs gs (Manifest j) (disk.files old) (disk.files mid) es (keeps.now.journals (Manifest j)) (subst (λ (h : Granularity). Says (Folds h) es (manifest_name (j + 1)) (disk.files mid)) (sym is) read.lists));
          filed = read.filed;
          files = in_out (disk.files mid) (disk.files old) (tier j s) (numbered j) (λ m other. sym (keeps.now.elsewhere m other)) read.files;
        }

-- What an adoption makes of a disk, from the load of its journals on.

-- HOW IT ENDS

-- what may be opened again, by how the steps ended
module _ (gs : List Granularity) (tells : Bool) (told : IsTrue tells) (at : Seen) (same : granularities at.manifests ≡ gs) (steps : List Step) (held : Stores) where
  stops_open : StopsWithin tells at steps held → OpensStage gs steps held at.past
  stops_open (k, inl has) = (k, inl (subst (λ (l : List Granularity). Opens l at.past (stage steps held k)) same (has_opens tells at (stage steps held k) told has)))
  stops_open (k, inr (low, doubts)) = (k, inr (subst (λ (l : List Granularity). OpensEither l at.past (stage steps held k) (stage steps held (suc k))) same (doubt_opens tells at (stage steps held k) (stage steps held (suc k)) told doubts)))

  ends_open : (done : Bool) → EndsSteps done tells at steps held → OpensStage gs steps held at.past
  ends_open true has = stops_open (length steps, inl (subst (Has tells at) (sym (whole_stage steps held)) has))
  ends_open false stops = stops_open stops

  ends_unopened : (done : Bool) → MayLeave at.past at.files → EndsSteps done tells at steps held → IsUnopened at.files at.opened
  ends_unopened true left has = open_unopened tells at (made_by steps held) (made_by steps held) told left (inl has)
  ends_unopened false left (k, inl has) = open_unopened tells at (stage steps held k) (stage steps held k) told left (inl has)
  ends_unopened false left (k, inr (low, doubts)) = open_unopened tells at (stage steps held k) (stage steps held (suc k)) told left (inr doubts)

-- THE FILE `adopt` ALONE

module _ {D R : Type 0} (disk : Ghosts D R) (gs : List Granularity) (old mid new : D) (begun : Reopens disk gs old mid) (marks : Marks disk mid new) where
  still : Passes (StillHolds gs) (disk.past mid) (disk.past new)
  still = passes_weaker LeavesOthers (StillHolds gs) (disk.past mid) (disk.past new) marks.any_moment (λ a c left step. marked_holds gs a c step)

  others_stores : (a c : Files) → LeavesOthers a c → SameStores a c
  others_stores a c step n other = step n (λ is. other (ap (λ (m : Name). m.0) is))

  opens_marked : (before after : Stores) → OpensEither gs (disk.past mid) before after → OpensEither gs (disk.past new) before after
  opens_marked before after opens = record {
    one_change = opens.one_change;
    holds = λ image left.
        let come = marks.any_moment.each (disk.past new).now image marks.any_moment.later (omega arith) left in
        elim (opens.holds come.0 come.1) [ inl was ↦ inl (marked_holds gs come.0 image come.2 before was) | inr was ↦ inr (marked_holds gs come.0 image come.2 after was) ];
    files = λ image left.
        let come = marks.any_moment.each (disk.past new).now image marks.any_moment.later (omega arith) left in
        let was = opens.files come.0 come.1 in
        (marked_all_in come.0 image before come.2 was.0, marked_all_in come.0 image after come.2 was.1);
  }

  pub reopens_marked : IsUnopened (disk.files new) (disk.opened new) → Reopens disk gs old new
  reopens_marked unopened = record {
    any_moment = passes_then (StillHolds gs) (StillHolds gs) (disk.past old) (disk.past mid) (disk.past new) begun.any_moment still (λ a b c was one now two held holds. two held (one held holds));
    either = λ before after opens. passes_then (λ a b. HoldsEither gs before after b) (StillHolds gs) (disk.past old) (disk.past mid) (disk.past new) (begun.either before after opens) still
        (λ a b c was one now two. elim one [ inl h ↦ inl (two before h) | inr h ↦ inr (two after h) ]);
    opens = λ before after opens. opens_marked before after (begun.opens before after opens);
    elsewhere = λ n other. others_stores (disk.files mid) (disk.files new) marks.now n other ∙ begun.elsewhere n other;
    stores = passes_then SameStores LeavesOthers (disk.past old) (disk.past mid) (disk.past new) begun.stores marks.any_moment (λ a b c was one now two n other. others_stores b c two n other ∙ one n other);
    unopened = unopened;
  }

-- THE WHOLE

-- an opening that came to nothing more
pub only_opens : {D R : Type 0} (disk : Ghosts D R) (gs : List Granularity) (old new : D) → Reopens disk gs old new → ((before after : Stores) → OpensEither gs (disk.past old) before after → Passes (IsMarkedOf gs (disk.files old) before after) (disk.past old) (disk.past new)) → NoneFoundOpened gs (disk.files new) (disk.opened new)
    → OnlySite (disk.files old) (disk.files new) × Passes OnlySite (disk.past old) (disk.past new) → LeavesSite disk gs old new → Adopts disk gs old new
only_opens {D} {R} disk gs old new reopens marked found site leaves = record {
  only = λ not. (reopens, leaves);
  makes = λ before after opens. inl reopens;
  marked = marked;
  elsewhere = reopens.elsewhere;
  stores = reopens.stores;
  unopened = reopens.unopened;
  found = found;
  site = site;
}

-- what a load of the journals leaves of other files
site_loaded : (gs : List Granularity) (old new : Past) → Passes (StillSay gs) old new → Passes OnlySite old new
site_loaded gs old new passes = passes_weaker (StillSay gs) OnlySite old new passes (λ a c left step n apart other. step.others n apart)

pub load_site : {D R : Type 0} (disk : Ghosts D R) (gs : List Granularity) (old mid : D) → KeepsSaid gs (shown_by disk old) (shown_by disk mid) → OnlySite (disk.files old) (disk.files mid) × Passes OnlySite (disk.past old) (disk.past mid)
load_site {D} {R} disk gs old mid keeps = (λ n apart other. keeps.now.others n apart, site_loaded gs (disk.past old) (disk.past mid) keeps.passes)

module _ {D R : Type 0} (disk : Ghosts D R) (gs : List Granularity) (old mid new : D) (c : CatalogueState) (ms : List ManifestState) (c₁ : CatalogueState) (m₁ : List ManifestState) (told : IsTrue disk.tells) (same : granularities ms ≡ gs) (begun : Reopens disk gs old mid) (left : MayLeave (disk.past new) (disk.files new)) where
  -- from what was held before the load or after it to a stage of the steps
  abbrev HoldsStage : List Step → Stores → Stores → Stores → Files → Files → Type 0
  HoldsStage steps held before after a b = HoldsEither gs before after b ⊎ ((k : ℕ) × HoldsAll gs b (stage steps held k))

  module _ (before after held : Stores) (opens : OpensEither gs (disk.past old) before after) (has : Has disk.tells (loaded disk c ms mid) held) (steps : List Step) (done : Bool) (makes : MakesSteps done disk.tells steps (loaded disk c ms mid) (loaded disk c₁ m₁ new)) where
    pub stages_passed : Passes (HoldsStage steps held before after) (disk.past old) (disk.past new)
    stages_passed =
        passes_then (HoldsStage steps held before after) (λ a b. (k : ℕ) × HoldsAll gs b (stage steps held k)) (disk.past old) (disk.past mid) (disk.past new)
        (passes_weaker (λ a b. HoldsEither gs before after b) (HoldsStage steps held before after) (disk.past old) (disk.past mid) (begun.either before after opens) (λ a b was step. inl step))
        (subst (λ (l : List Granularity). Passes (λ a b. (k : ℕ) × HoldsAll l b (stage steps held k)) (disk.past mid) (disk.past new)) same (makes.any_moment told held has)) (λ a b c was one now two. inr two)

    pub stage_opens : OpensStage gs steps held (disk.past new)
    stage_opens = ends_open gs disk.tells told (loaded disk c₁ m₁ new) (makes.granularity ∙ same) steps held done (makes.ends held has)

  abbrev pub adopts_from : (whole done : Bool) (before after : Stores) → OpensEither gs (disk.past old) before after → (loads : HasRead disk gs old (loaded disk c ms mid) before after) → Follows disk whole done gs (disk.files old) loads.held c ms mid c₁ m₁ new → AdoptsFrom whole disk gs old new before after
  adopts_from whole done before after opens loads follows = record {
    held = loads.held;
    either = loads.either;
    read = loads.read;
    steps = follows.steps;
    rule = follows.rule;
    any_moment = stages_passed before after loads.held opens loads.has follows.steps done follows.makes;
    opens = stage_opens before after loads.held opens loads.has follows.steps done follows.makes;
  }

  -- an adoption that was done, or left
  module _ (whole_image : IsWhole gs (disk.files old)) (loads : (before after : Stores) → OpensEither gs (disk.past old) before after → HasRead disk gs old (loaded disk c ms mid) before after) (some : Stores) (has : Has disk.tells (loaded disk c ms mid) some) (changes : ChangesSite disk mid new)
      (keeps : KeepsSaid gs (shown_by disk old) (shown_by disk mid)) (none : NoneUnlistedOpened c.rows ms (disk.opened mid)) where
    marked_of : ((held : Stores) → Has disk.tells (loaded disk c ms mid) held → Passes (IsMarked gs (disk.files old) held) (disk.past mid) (disk.past new))
        → (before after : Stores) → OpensEither gs (disk.past old) before after → Passes (IsMarkedOf gs (disk.files old) before after) (disk.past old) (disk.past new)
    marked_of marks before after opens =
        let l = loads before after opens in loaded_marked gs (disk.files old) (disk.past old) (disk.past mid) (disk.past new) before after l.held opens keeps.passes l.either (marks l.held l.has)

    site : OnlySite (disk.files old) (disk.files new) × Passes OnlySite (disk.past old) (disk.past new)
    site = (
      λ n apart other. changes.now n apart other ∙ keeps.now.others n apart,
      passes_then OnlySite OnlySite (disk.past old) (disk.past mid) (disk.past new) (site_loaded gs (disk.past old) (disk.past mid) keeps.passes) changes.any_moment (λ a b c was one now two n apart other. two n apart other ∙ one n apart other),
    )

    stores_passed : Passes SameStores (disk.past old) (disk.past new)
    stores_passed = passes_weaker OnlySite SameStores (disk.past old) (disk.past new) site.1 (λ a c left step. site_same disk a c step)

    stores_now : SameStores (disk.files old) (disk.files new)
    stores_now = site_same disk (disk.files old) (disk.files new) site.0

    -- of an image that a crash may leave now, as reads give it
    found_made : (steps : List Step) (done : Bool) → MakesSteps done disk.tells steps (loaded disk c ms mid) (loaded disk c₁ m₁ new) → NoneFoundOpened gs (disk.files new) (disk.opened new)
    found_made steps done makes =
        let passes = makes.any_moment told some has in
        let come = passes.each (disk.past new).now (disk.files new) passes.later (omega arith) left in
        found_behind disk gs mid new c ms same some has none changes.fewer (take come.2.0 steps) (subst (λ (l : List Granularity). HoldsAll l (disk.files new) (stage steps some come.2.0)) same come.2.1)

    found_marked : Marks disk mid new → NoneFoundOpened gs (disk.files new) (disk.opened new)
    found_marked marks =
        let still = has_left disk.tells (loaded disk c ms new) some (has_marked disk c ms mid new (λ t. marks) some has) told (disk.files new) left in
        found_behind disk gs mid new c ms same some has none changes.fewer [] (subst (λ (l : List Granularity). HoldsAll l (disk.files new) some) same still)

    pub done_adopts : ((held : Stores) → Has disk.tells (loaded disk c ms mid) held → Follows disk true true gs (disk.files old) held c ms mid c₁ m₁ new) → ((held : Stores) → Has disk.tells (loaded disk c ms mid) held → Passes (IsMarked gs (disk.files old) held) (disk.past mid) (disk.past new)) → Adopts disk gs old new
    done_adopts follows marks = record {
      only = λ not. absurd (not whole_image);
      makes = λ before after opens. let l = loads before after opens in inr (true, adopts_from true true before after opens l (follows l.held l.has));
      marked = marked_of marks;
      elsewhere = stores_now;
      stores = stores_passed;
      unopened = let f = follows some has in ends_unopened gs disk.tells told (loaded disk c₁ m₁ new) (f.makes.granularity ∙ same) f.steps some true left (f.makes.ends some has);
      found = let f = follows some has in found_made f.steps true f.makes;
      site = site;
    }

    marked_unopened : Marks disk mid new → IsUnopened (disk.files new) (disk.opened new)
    marked_unopened marks = open_unopened disk.tells (loaded disk c ms new) some some told left (inl (has_marked disk c ms mid new (λ t. marks) some has))

    pub left_adopts : ((held : Stores) → Has disk.tells (loaded disk c ms mid) held → LeavesOff disk gs (disk.files old) held c ms mid c₁ m₁ new) → ((held : Stores) → Has disk.tells (loaded disk c ms mid) held → Passes (IsMarked gs (disk.files old) held) (disk.past mid) (disk.past new)) → Adopts disk gs old new
    left_adopts leaves marks = record {
      only = λ not. absurd (not whole_image);
      makes = λ before after opens. let l = loads before after opens in by before after opens l (leaves l.held l.has);
      marked = marked_of marks;
      elsewhere = stores_now;
      stores = stores_passed;
      unopened = elim (leaves some has) [
        | inl marks ↦ marked_unopened marks
        | inr (whole, f) ↦ ends_unopened gs disk.tells told (loaded disk c₁ m₁ new) (f.makes.granularity ∙ same) f.steps some false left (f.makes.ends some has)
      ];
      found = elim (leaves some has) [ inl marks ↦ found_marked marks | inr (whole, f) ↦ found_made f.steps false f.makes ];
      site = site;
    }
      where
        by : (before after : Stores) → OpensEither gs (disk.past old) before after → (l : HasRead disk gs old (loaded disk c ms mid) before after) → LeavesOff disk gs (disk.files old) l.held c ms mid c₁ m₁ new → Reopens disk gs old new ⊎ ((whole : Bool) × AdoptsFrom whole disk gs old new before after)
        by before after opens l (inl marks) = inl (reopens_marked disk gs old mid new begun marks (marked_unopened marks))
        by before after opens l (inr (whole, follows)) = inr (whole, adopts_from whole false before after opens l follows)

-- THE LOAD

module _ {D R : Type 0} (disk : Ghosts D R) (gs : List Granularity) (old mid : D) (c : CatalogueState) (ms : List ManifestState) (same : granularities ms ≡ gs) (keeps : KeepsSaid gs (shown_by disk old) (shown_by disk mid))
    (held : Stores) (has : Has disk.tells (loaded disk c ms mid) held) (told : IsTrue disk.tells) (seen : MayLeave (disk.past mid) (disk.files mid)) where
  -- what the stores have behind it, reads gave before it
  read_before : AreSaid gs (disk.files old) c.rows (lists_of ms) → HoldsAll gs (disk.files old) held
  read_before said i g here =
      let m = manifest_of ms i g (ap (λ (l : List Granularity). slice_get l i) same ∙ here) in
      let known = has.known.each i m.0 m.1 in
      let entries : lists_of ms i ≡ map entry_of (list_at i held) = listed_at ms i m.0 m.1 ∙ known.entries in
      let numbered : 1 ≤ i + 1 = omega arith in
      record {
        rows = subst (λ (rows : List Row). Says IsCatalogue rows catalogue_name (disk.files old)) has.known.rows said.rows_said;
        lists = subst (λ (es : List Entry). Says (Folds g) es (manifest_name (i + 1)) (disk.files old)) entries (said.lists_said i g here);
        filed = subst (λ (h : Granularity). AreFiled h (tier i held)) m.2 known.valid.filed;
        files = in_out (disk.files mid) (disk.files old) (tier i held) numbered (λ n other. sym (keeps.now.elsewhere n other)) (((has.disk told).each i m.0 m.1).safe.left (disk.files mid) seen);
      }

  -- files that aren't listed weren't opened by it either
  pub none_opened : AreSaid gs (disk.files old) c.rows (lists_of ms) → NoneFoundOpened gs (disk.files old) (disk.opened old) → NoneUnlistedOpened c.rows ms (disk.opened mid)
  none_opened said none i m n here store own =
      let low : i < 3 = within_three ms i m has.known.three here in
      keeps.same_opened n (λ is. absurd (omega (arith, store, is)))
      ∙ none held (read_before said) i n low store
      (subst (λ (es : List Entry). IsUnlisted ((i + 1, held.rows), es) n) (has.known.each i m here).entries (subst (λ (rows : List Row). IsUnlisted ((i + 1, rows), m.entries) n) has.known.rows own))

-- THE STORES

-- what it has of journals that were loaded, it has as stores of them
pub adopted_stores : {D R : Type 0} (disk : Ghosts D R) (gs : List Granularity) (old : D) (c : CatalogueState) (ms : List ManifestState) (new : D) (numbers : Adopted) (before after : Stores) (store : TierStore D R) → store.disk ≡ new → ◌≡◌ {A = Seen} (seen disk store) (loaded disk c ms new)
    → HasAdoptedOf disk gs old c ms new numbers before after → HasAdopted disk gs old store numbers before after
adopted_stores {D} {R} disk gs old c ms new numbers before after store same shown has = record {
  adopts = adopts;
  has = subst (λ (s : Seen). Has disk.tells s (made_by has.adopts.steps has.adopts.held)) (sym shown) has.has;
  counts = has.counts;
}
  where
    adopts : AdoptsFrom true disk gs old store.disk before after
    adopts = record {
      held = has.adopts.held;
      either = has.adopts.either;
      read = has.adopts.read;
      steps = has.adopts.steps;
      rule = has.adopts.rule;
      any_moment = subst (λ (d : D). Passes (λ a b. HoldsEither gs before after b ⊎ ((k : ℕ) × HoldsAll gs b (stage has.adopts.steps has.adopts.held k))) (disk.past old) (disk.past d)) (sym same) has.adopts.any_moment;
      opens = subst (λ (d : D). OpensStage gs has.adopts.steps has.adopts.held (disk.past d)) (sym same) has.adopts.opens;
    }

-- Whose files paths are.

-- KEYS

separator_slash : (b : Bool) (x : ℕ) → is_separator x ≡ b → key_byte (cond b 47 x) ≡ cond b 47 x
separator_slash true x is = refl
separator_slash false x is = ap (λ (t : Bool). cond t 47 x) is

key_of_key_byte : (x : ℕ) → key_byte (key_byte x) ≡ key_byte x
key_of_key_byte x = separator_slash (is_separator x) x refl

-- a key is its own key
pub own_key : (name : List ℕ) → key_of (key_of name) ≡ key_of name
own_key [] = refl
own_key (x ∷ xs) = λ i. key_of_key_byte x i ∷ own_key xs i

-- bytes that are refused are no row's key
pub no_key : (rows : List Row) (key : List ℕ) (at : ℕ) → AreRows rows → IsRefusedAt key at → (i : ℕ) (row : Row) → slice_get rows i ≡ Some row → key_of row.name ≡ key → ⊥
no_key rows key at are refused i row here is = refusals_exclude key at (subst IsName is (keys_are_names row.name (are.names i row here))) refused
  where
    refusals_exclude : (bytes : List ℕ) (at : ℕ) → IsName bytes → IsRefusedAt bytes at → ⊥
    refusals_exclude bytes at name (inl long) = absurd (let a = name.short in let b = long.0 in omega (arith, a, b))
    refusals_exclude bytes at name (inr fault) = name.faultless at fault.1.here

pub has_key : (rows : List Row) (i : ℕ) (row : Row) (key : List ℕ) → slice_get rows i ≡ Some row → key_of row.name ≡ key → HasKey rows i (key_of key)
has_key rows i row key here is = record { row = row; here = here; is = sym (own_key row.name) ∙ ap key_of is }

-- the row that has the key of a name that is refused for it
key_taken : (rows : List Row) (name : List ℕ) (j : ℕ) → Refuses rows name (NameTaken j) ⊎ Refuses rows name (KeyTaken j) → HasKey rows j (key_of name)
key_taken rows name j (inl named) = record { row = named.row; here = named.here; is = ap key_of named.is }
key_taken rows name j (inr taken) = taken.0

pub taken_is : (rows : List Row) (name : List ℕ) (j i : ℕ) → AreRows rows → Refuses rows name (NameTaken j) ⊎ Refuses rows name (KeyTaken j) → HasKey rows i (key_of name) → j ≡ i
taken_is rows name j i are refused has = are.one_key j i (key_of name) (key_taken rows name j refused) has

pub taken_low : (rows : List Row) (name : List ℕ) (j : ℕ) → Refuses rows name (NameTaken j) ⊎ Refuses rows name (KeyTaken j) → j < length rows
taken_low rows name j refused = let has = key_taken rows name j refused in slice_get_within rows j has.row has.here

-- where a name isn't refused, no row has its key
pub none_taken : (rows : List Row) (name : List ℕ) (i : ℕ) → ((e : RegisterErr) → Refuses rows name e → ⊥) → HasKey rows i (key_of name) → ⊥
none_taken rows name i none has = none (KeyTaken i) (has, λ named. none (NameTaken i) named)

-- WHOSE FILES

-- a path is of one row and one partition
pub one_file : (g : Granularity) (rows : List Row) (path : List ℕ) (s t : ℕ) (p q : Part) → AreRows rows → IsFileOf g rows path s p → IsFileOf g rows path t q → (s ≡ t) × (p ≡ q)
one_file g rows path s t p q are one two =
    let cut = one_path one.row.name two.row.name p.name q.name (one.named ∙ sym two.named) in (
      are.one_key s t (key_of two.row.name) (record { row = one.row; here = one.stands; is = cut.0 }) (record { row = two.row; here = two.stands; is = refl }),
      one_name g p q one.unit two.unit cut.1,
    )

-- the file of an entry that a manifest lists
path_at : (rows : List Row) (series : ℕ) (part : List ℕ) (row : Row) → slice_get rows series ≡ Some row → path_of (name_of (slice_get rows series)) part ≡ path_of row.name part
path_at rows series part row here = ap (λ (r : Option Row). path_of (name_of r) part) here

not_both : (b : Bool) → IsTrue (not b) → IsTrue b → ⊥
not_both true other so = absurd (cc (other))
not_both false other so = absurd (cc (so))

-- it is listed by its name just where it is by its series and partition
module _ (g : Granularity) (place : ℕ) (rows : List Row) (entries : List Entry) (n : Name) (series : ℕ) (part : Part) (are : AreRows rows) (good : AreEntries g entries) (of_rows : All (HasRow rows) entries) (store : n.0 ≡ place + 1) (file : IsFileOf g rows n.1 series part) where
  named_so : (e : Entry) → e.series ≡ series → e.part ≡ part → file_of (place + 1, rows) e ≡ n
  named_so e row unit =
      let path : path_of (name_of (slice_get rows e.series)) e.part.name ≡ n.1 =
      (λ i. path_of (name_of (slice_get rows (row i))) (unit i).name) ∙ path_at rows series part.name file.row file.stands ∙ file.named in
      λ i. (sym store i, path i)

  has_entry : (es : List Entry) → IsTrue (is_listed es (series, part.start)) → (e : Entry) × Contains es e × (e.series ≡ series) × (e.part.start ≡ part.start)
  has_entry [] is = absurd (cc (is))
  has_entry (e ∷ es) is = by (is_place (place_of e) (series, part.start)) refl (has_entry es) is
    where
      same_series : is_place (place_of e) (series, part.start) ≡ true → e.series ≡ series
      same_series at = grind (arith, nat_tests)

      same_start : is_place (place_of e) (series, part.start) ≡ true → e.part.start ≡ part.start
      same_start at = grind (arith, nat_tests)

      by : (b : Bool) → is_place (place_of e) (series, part.start) ≡ b → (IsTrue (is_listed es (series, part.start)) → (x : Entry) × Contains es x × (x.series ≡ series) × (x.part.start ≡ part.start)) → IsTrue (b || is_listed es (series, part.start))
          → (x : Entry) × Contains (e ∷ es) x × (x.series ≡ series) × (x.part.start ≡ part.start)
      by true at behind t = (e, (0, omega arith, refl), same_series at, same_start at)
      by false at behind t = let rest = behind t in (rest.0, (suc rest.1.0, omega (arith, rest.1.1), rest.1.2), rest.2, rest.3)

  -- an entry of this name
  named_entry : (e : Entry) → Contains entries e → file_of (place + 1, rows) e ≡ n → IsTrue (is_listed entries (series, part.start))
  named_entry e within named =
      let row = row_at rows e.series (All-contains (HasRow rows) entries e of_rows within) in
      let own : IsPart g e.part = All-contains (λ (x : Entry). IsPart g x.part) entries e good.parts within in
      let path : path_of row.0.name e.part.name ≡ n.1 = sym (path_at rows e.series e.part.name row.0 row.1) ∙ ap (λ (m : Name). m.1) named in
      let same = one_file g rows n.1 e.series series e.part part are (record { row = row.0; stands = row.1; unit = own; named = path }) file in
      to entries e within same.0 (ap (λ (p : Part). p.start) same.1)
    where
      to : (es : List Entry) (e : Entry) → Contains es e → e.series ≡ series → e.part.start ≡ part.start → IsTrue (is_listed es (series, part.start))
      to [] e (k, lt, is) s t = absurd (omega (arith, lt))
      to (x ∷ es) e (zero, lt, is) s t = first (is_place (place_of x) (series, part.start)) refl
        where
          first : (b : Bool) → is_place (place_of x) (series, part.start) ≡ b → IsTrue (b || is_listed es (series, part.start))
          first true at = refl
          first false at = absurd (let a : x.series ≡ series = ap (λ (y : Entry). y.series) is ∙ s in let b : x.part.start ≡ part.start = ap (λ (y : Entry). y.part.start) is ∙ t in grind (arith, nat_tests))
      to (x ∷ es) e (suc k, lt, is) s t = rest (is_place (place_of x) (series, part.start)) (to es e (k, omega (arith, lt), is) s t)
        where
          rest : (b : Bool) → IsTrue (is_listed es (series, part.start)) → IsTrue (b || is_listed es (series, part.start))
          rest true so = refl
          rest false so = so

  listed_named : IsTrue (is_listed entries (series, part.start)) → (e : Entry) × Contains entries e × (file_of (place + 1, rows) e ≡ n)
  listed_named listed =
      let found = has_entry entries listed in
      let e = found.0 in
      let own : IsPart g e.part = All-contains (λ (x : Entry). IsPart g x.part) entries e good.parts found.1 in
      let mine = within g part file.unit in
      let theirs = within g e.part own in
      let unit : e.part ≡ part = one_part g e.part part e.part.start own file.unit (omega arith, theirs.1) (omega (arith, found.3), omega (arith, found.3, mine.1)) in
      (e, found.1, named_so e found.2 unit)

  -- so a file that is of a row and a partition is a stray just where its place isn't listed
  pub unlisted_stray : (b : Bool) → b ≡ is_listed entries (series, part.start) → IsTrue (not b) ↔ IsStrayOf place g rows entries n
  unlisted_stray b is = (to, from)
    where
      to : IsTrue (not b) → IsStrayOf place g rows entries n
      to other = record { store = store; series = series; part = part; file = file; unlisted = λ e within named. not_both b other (is ∙ named_entry e within named) }

      from : IsStrayOf place g rows entries n → IsTrue (not b)
      from stray = by b refl
        where
          by : (c : Bool) → b ≡ c → IsTrue (not b)
          by true so = absurd (let found = listed_named (sym is ∙ so) in stray.unlisted found.0 found.1 found.2)
          by false so = ap not so

-- and it isn't one where it is of no row and partition
pub no_stray : (g : Granularity) (place : ℕ) (rows : List Row) (entries : List Entry) (n : Name) → ((series : ℕ) (part : Part) → IsFileOf g rows n.1 series part → ⊥) → IsTrue false ↔ IsStrayOf place g rows entries n
no_stray g place rows entries n none = (λ other. absurd (cc (other)), λ stray. absurd (none stray.series stray.part stray.file))

-- LOOKING IN A LIST

-- the entries of a series tell whether one is listed there
pub of_series_alone : (s t : ℕ) (es : List Entry) → is_listed (filter (λ (e : Entry). e.series == s) es) (s, t) ≡ is_listed es (s, t)
of_series_alone s t [] = refl
of_series_alone s t (e ∷ es) = go (e.series == s) refl (of_series_alone s t es)
  where
    go : (b : Bool) → (e.series == s) ≡ b → is_listed (filter (λ (x : Entry). x.series == s) es) (s, t) ≡ is_listed es (s, t)
        → is_listed (cond b (e ∷ filter (λ (x : Entry). x.series == s) es) (filter (λ (x : Entry). x.series == s) es)) (s, t) ≡ (is_place (place_of e) (s, t) || is_listed es (s, t))
    go true same rest = ap (λ (b : Bool). is_place (place_of e) (s, t) || b) rest
    go false other rest = rest ∙ sym (ap (λ (b : Bool). (b && (e.part.start == t)) || is_listed es (s, t)) other)

-- ROWS

-- a row that was taken of its place
pub row_there : (rows : List Row) (i : ℕ) (r x : Row) → r ≡ get_or rows i r → slice_get rows i ≡ Some x → r ≡ x
row_there [] i r x is here = absurd (cc (here))
row_there (y ∷ ys) zero r x is here = is ∙ same_Some y x here
row_there (y ∷ ys) (suc i) r x is here = row_there ys i r x is here

pub row_here : (rows : List Row) (i : ℕ) (r : Row) → i < length rows → slice_get rows i ≡ Some (get_or rows i r)
row_here [] i r low = absurd (omega (arith, low))
row_here (y ∷ ys) zero r low = refl
row_here (y ∷ ys) (suc i) r low = row_here ys i r (omega (arith, low))

-- UNLISTED FILES

-- a file that is of no row and partition isn't listed
pub unlisted_other : (g : Granularity) (place : ℕ) (rows : List Row) (entries : List Entry) (n : Name) → AreEntries g entries → All (HasRow rows) entries → ((series : ℕ) (part : Part) → IsFileOf g rows n.1 series part → ⊥) → IsUnlisted ((place + 1, rows), entries) n
unlisted_other g place rows entries n good of_rows none e within named =
    let row = row_at rows e.series (All-contains (HasRow rows) entries e of_rows within) in
    let own : IsPart g e.part = All-contains (λ (x : Entry). IsPart g x.part) entries e good.parts within in
    let path : path_of row.0.name e.part.name ≡ n.1 = sym (path_at rows e.series e.part.name row.0 row.1) ∙ ap (λ (m : Name). m.1) named in
    none e.series e.part (record { row = row.0; stands = row.1; unit = own; named = path })

-- and one that is of them isn't just where it is a stray
pub unlisted_own : (g : Granularity) (place : ℕ) (rows : List Row) (entries : List Entry) (n : Name) (series : ℕ) (part : Part) → n.0 ≡ place + 1 → IsFileOf g rows n.1 series part → IsStrayOf place g rows entries n ↔ IsUnlisted ((place + 1, rows), entries) n
unlisted_own g place rows entries n series part store file = (λ stray. stray.unlisted, λ unlisted. record { store = store; series = series; part = part; file = file; unlisted = unlisted })
