-- The stages of an adoption: steps of a rule one after another, what they make together, and which turn takes which file.
use Rattle.std.proofs.Common.{◌≡◌, Bool, true, false, ℕ, ◌<◌, List, ◌∷◌, ◌++◌, length, refl, sym, ◌∙◌, subst, inl, inr, suc, ◌≤◌, [], arith, ◌+◌, Option, Some, ap, zero, ◌*◌, None, append-nil, drop, get_or, add-one, append_assoc, map, drop-cons, ◌≢◌, ◌⊎◌, cond, ◌==◌, ◌-◌, filter, set, take}
use Rattle.store_manifest.specs.Manifest.{ManifestState}
use Rattle.disk_model.specs.declared.disk.Disk.{Ghosts}
use Rattle.pv_catalog.specs.Catalogue.{CatalogueState}
use Rattle.tier_store.specs.Stores.{Stores, list_at, tier}
use Rattle.tier_store.specs.Change.{Has, StoreCall, Changes, Doubts, HoldsBy, registering, IsKnown}
use Rattle.store_reopen.specs.Reopen.{loaded, SameStores}
use Rattle.store_reopen.specs.Steps.{Step, made_by, MakesSteps, NewRow, Lists, stepped, stage, StopsWithin, EndsSteps}
use Rattle.disk_model.specs.Files.{Files, Name, Lists as HasNames}
use Rattle.partition_names.specs.declared.granularity.Granularity.{Granularity}
use Rattle.tier_store.specs.Seen.{granularities, Seen}
use Rattle.std.specs.Prelude.{All, slice_get, IsTrue, IsSome, Vec}
use Rattle.std.proofs.lemmas.List.Elements.{All-head, All-tail, All-append, All-cons, All-nil, All-weaker}
use Rattle.found_files.specs.declared.finding.Candidate.{Candidate}
use Rattle.pv_catalog.specs.declared.row.Row.{Row}
use Rattle.store_manifest.specs.declared.entry.Entry.{Entry}
use Rattle.store_reopen.specs.Runs.{Goes, Stops, Rule}
use Rattle.store_reopen.specs.declared.finding.Unlisted.{Unlisted}
use Rattle.disk_model.specs.Past.{Passes}
use Rattle.disk_model.proofs.Passing.{passes_none, passes_then, passes_weaker}
use Rattle.pb_messages.specs.declared.about.About.{About}
use Rattle.durable_write.specs.Ends.{End, Done, Failed, Spent}
use Rattle.durable_write.specs.Held.{Filed, Listing, entry_of, listing_of}
use Rattle.tier_store.specs.Stored.{HoldsAll}
use Rattle.tier_store.specs.Moving.{publishing}
use Rattle.tier_store.proofs.Holding.{has_left}
use Rattle.store_reopen.specs.Marking.{LeavesOthers, Marks}
use Rattle.store_reopen.proofs.Marking.{has_marked, marked_holds, marks_read}
use Rattle.found_files.specs.Candidate.{IsCandidate}
use Rattle.tier_store.proofs.Places.{manifest_at, manifest_of}
use Rattle.store_reopen.specs.Adoption.{AreAll, AreUnlisted, Finds, GetRows, IsAdoption, IsFoundAs, IsUnlisted, TakesTurns, done as done_step, listed, stopped, unlisted, place_of, row_of}
use Rattle.store_reopen.specs.Finding.{AreUnlistedOf}
use Rattle.store_reopen.specs.Following.{Follows, NoneUnlistedOpened}
use Rattle.std.specs.declared.alloc.Global.{Global}
use Rattle.std.proofs.lemmas.Bool.Decides.{nat_tests}
use Rattle.std.proofs.lemmas.List.{drop_all, length-append}
use Rattle.std.proofs.lemmas.List.Sums.{sum_by-append}
use Rattle.std.proofs.lemmas.Option.{same_Some, slice_get-get_or, slice_get_within}
use Rattle.store_reopen.specs.Listing.{AtEachTurn, turns_of}
use Rattle.store_reopen.specs.Turns.{Adds, IsOfTurn, TakesIn, TakesOf, all_taken, cut_in, done as turns_done, takes as takes_turn, other as other_turn, samples_in}
use Rattle.store_reopen.specs.declared.adopted.Adopted.{Adopted}
use Rattle.store_reopen.specs.declared.finding.TakenFile.{TakenFile}

-- Steps of an adoption, one after another.

-- FRONTS

nothing_made : (held : Stores) (k : ℕ) → stage [] held k ≡ held
nothing_made held zero = refl
nothing_made held (suc k) = refl

-- a front of some steps is one of them with others behind
front_stage : (xs ys : List Step) (held : Stores) (k : ℕ) → (j : ℕ) × (stage (xs ++ ys) held j ≡ stage xs held k)
front_stage [] ys held k = (0, sym (nothing_made held k))
front_stage (x ∷ xs) ys held zero = (0, refl)
front_stage (x ∷ xs) ys held (suc k) = let rest = front_stage xs ys (stepped x held) k in (suc rest.0, rest.1)

-- so it is with the step behind it
next_stage : (xs ys : List Step) (held : Stores) (k : ℕ) → k < length xs → (j : ℕ) × (stage (xs ++ ys) held j ≡ stage xs held k) × (stage (xs ++ ys) held (suc j) ≡ stage xs held (suc k)) × (j < length (xs ++ ys))
next_stage [] ys held k low = absurd (omega (arith, low))
next_stage (x ∷ xs) ys held zero low = (0, refl, refl, omega arith)
next_stage (x ∷ xs) ys held (suc k) low = let rest = next_stage xs ys (stepped x held) k (omega (arith, low)) in (suc rest.0, rest.1, rest.2, omega (arith, rest.3))

-- and a front of the others is one with the first ones all made
back_stage : (xs ys : List Step) (held : Stores) (k : ℕ) → (j : ℕ) × (stage (xs ++ ys) held j ≡ stage ys (made_by xs held) k) × (stage (xs ++ ys) held (suc j) ≡ stage ys (made_by xs held) (suc k)) × (k < length ys → j < length (xs ++ ys))
back_stage [] ys held k = (k, refl, refl, λ low. low)
back_stage (x ∷ xs) ys held k = let rest = back_stage xs ys (stepped x held) k in (suc rest.0, rest.1, rest.2, λ low. let more = rest.3 low in omega (arith, more))

pub all_made : (xs ys : List Step) (held : Stores) → made_by (xs ++ ys) held ≡ made_by ys (made_by xs held)
all_made [] ys held = refl
all_made (x ∷ xs) ys held = all_made xs ys (stepped x held)

pub whole_stage : (xs : List Step) (held : Stores) → stage xs held (length xs) ≡ made_by xs held
whole_stage [] held = refl
whole_stage (x ∷ xs) held = whole_stage xs (stepped x held)

-- RUNS OF STEPS

pub steps_none : (tells : Bool) (at : Seen) → MakesSteps true tells [] at at
steps_none tells at = record {
  ends = λ held has. has;
  any_moment = λ told held has. passes_none (λ a b. (k : ℕ) × HoldsAll (granularities at.manifests) b (stage [] held k)) at.past (λ image left. (0, has_left tells at held has told image left));
  granularity = refl;
  faults = omega arith;
}

pub steps_then : (done tells : Bool) (xs ys : List Step) (old mid new : Seen) → MakesSteps true tells xs old mid → MakesSteps done tells ys mid new → MakesSteps done tells (xs ++ ys) old new
steps_then done tells xs ys old mid new one two = record {
  ends = λ held has. by_done done held (two.ends (made_by xs held) (one.ends held has));
  any_moment = λ told held has.
      passes_then (Stage held) (λ a b. (k : ℕ) × HoldsAll (granularities mid.manifests) b (stage ys (made_by xs held) k)) old.past mid.past new.past
      (passes_weaker (λ a b. (k : ℕ) × HoldsAll (granularities old.manifests) b (stage xs held k)) (Stage held) old.past mid.past (one.any_moment told held has) (λ a b left holds.
      let front = front_stage xs ys held holds.0 in (front.0, subst (HoldsAll (granularities old.manifests) b) (sym front.1) holds.1)))
      (two.any_moment told (made_by xs held) (one.ends held has))
      (λ a b c was first left holds.
      let back = back_stage xs ys held holds.0 in (back.0, subst (HoldsAll (granularities old.manifests) c) (sym back.1) (subst (λ (gs : List Granularity). HoldsAll gs c (stage ys (made_by xs held) holds.0)) one.granularity holds.1)));
  granularity = two.granularity ∙ one.granularity;
  faults = omega (arith, one.faults, two.faults);
}
  where
    Stage : Stores → Files → Files → Type 0
    Stage held a b = (k : ℕ) × HoldsAll (granularities old.manifests) b (stage (xs ++ ys) held k)

    by_done : (done : Bool) (held : Stores) → EndsSteps done tells new ys (made_by xs held) → EndsSteps done tells new (xs ++ ys) held
    by_done true held has = subst (Has tells new) (sym (all_made xs ys held)) has
    by_done false held (k, inl has) = let back = back_stage xs ys held k in (back.0, inl (subst (Has tells new) (sym back.1) has))
    by_done false held (k, inr (low, doubts)) =
        let back = back_stage xs ys held k in
        (back.0, inr (back.3 low, subst (λ (s : Stores). Doubts tells new s (stage (xs ++ ys) held (suc back.0))) (sym back.1) (subst (Doubts tells new (stage ys (made_by xs held) k)) (sym back.2) doubts)))

-- a run that was done may be cut off behind its last step
pub steps_stopped : (tells : Bool) (xs : List Step) (old new : Seen) → MakesSteps true tells xs old new → MakesSteps false tells xs old new
steps_stopped tells xs old new done = record {
  ends = λ held has. (length xs, inl (subst (Has tells new) (sym (whole_stage xs held)) (done.ends held has)));
  any_moment = done.any_moment;
  granularity = done.granularity;
  faults = done.faults;
}

-- a run that was cut off stays so whatever was to come
pub steps_cut : (tells : Bool) (xs ys : List Step) (old new : Seen) → MakesSteps false tells xs old new → MakesSteps false tells (xs ++ ys) old new
steps_cut tells xs ys old new cut = record {
  ends = λ held has. within held (cut.ends held has);
  any_moment = λ told held has. passes_weaker (λ a b. (k : ℕ) × HoldsAll (granularities old.manifests) b (stage xs held k)) (λ a b. (k : ℕ) × HoldsAll (granularities old.manifests) b (stage (xs ++ ys) held k)) old.past new.past (cut.any_moment told held has) (λ a b left holds.
      let front = front_stage xs ys held holds.0 in (front.0, subst (HoldsAll (granularities old.manifests) b) (sym front.1) holds.1));
  granularity = cut.granularity;
  faults = cut.faults;
}
  where
    within : (held : Stores) → StopsWithin tells new xs held → StopsWithin tells new (xs ++ ys) held
    within held (k, inl has) = let front = front_stage xs ys held k in (front.0, inl (subst (Has tells new) (sym front.1) has))
    within held (k, inr (low, doubts)) =
        let next = next_stage xs ys held k low in
        (next.0, inr (next.3, subst (λ (s : Stores). Doubts tells new s (stage (xs ++ ys) held (suc next.0))) (sym next.1) (subst (Doubts tells new (stage xs held k)) (sym next.2) doubts)))

-- ONE STEP

module _ {A E : Type 0} (tells : Bool) (call : StoreCall A E) (x : Step) (old new : Seen) (is : (held made : Stores) → call.by held made → made ≡ stepped x held) where
  one_moment : (end : End A E) → Changes tells call old new end → IsTrue tells → (held : Stores) → Has tells old held → Passes (λ a b. (k : ℕ) × HoldsAll (granularities old.manifests) b (stage (x ∷ []) held k)) old.past new.past
  one_moment end changes told held has = passes_weaker (HoldsBy (granularities old.manifests) call.by held) (λ a b. (k : ℕ) × HoldsAll (granularities old.manifests) b (stage (x ∷ []) held k)) old.past new.past (changes.any_moment told held has) (λ a b left holds. elim holds [
    | inl was ↦ (0, was)
    | inr (made, by, now) ↦ (1, subst (HoldsAll (granularities old.manifests) b) (is held made by) now)
  ])

  pub step_done : (a : A) → Changes tells call old new (Done a) → MakesSteps true tells (x ∷ []) old new
  step_done a changes = record {
    ends = λ held has. let end = changes.ends held has in subst (Has tells new) (is held end.0 end.1) end.3;
    any_moment = one_moment (Done a) changes;
    granularity = changes.costs.granularity;
    faults = changes.costs.faults;
  }

  pub step_failed : Changes tells call old new Failed → MakesSteps false tells (x ∷ []) old new
  step_failed changes = record {
    ends = λ held has. elim (changes.ends held has) [
      | inl still ↦ (0, inl still)
      | inr (made, by, doubts) ↦ (0, inr (omega arith, subst (Doubts tells new held) (is held made by) doubts))
    ];
    any_moment = one_moment Failed changes;
    granularity = changes.costs.granularity;
    faults = changes.costs.faults;
  }

  pub step_spent : Changes tells call old new Spent → MakesSteps false tells (x ∷ []) old new
  step_spent changes = record {
    ends = λ held has. (0, inl (changes.ends held has));
    any_moment = one_moment Spent changes;
    granularity = changes.costs.granularity;
    faults = changes.costs.faults;
  }

-- a row, and files of a store
pub is_row : (name : List ℕ) (about : About) (held made : Stores) → (registering name about).by held made → made ≡ stepped (NewRow name about) held
is_row name about held made by = by.1

pub is_list : (i : ℕ) (files : List Filed) (held made : Stores) → (publishing i files).by held made → made ≡ stepped (Lists i files) held
is_list i files held made by = by

-- CALLS THAT MAKE NO STEP

module _ {D R : Type 0} (disk : Ghosts D R) (catalogue : CatalogueState) (ms : List ManifestState) (old new : D) where
  pub steps_marked : (IsTrue disk.tells → Marks disk old new) → disk.faults old ≤ disk.faults new → MakesSteps true disk.tells [] (loaded disk catalogue ms old) (loaded disk catalogue ms new)
  steps_marked marks faults = record {
    ends = λ held has. has_marked disk catalogue ms old new marks held has;
    any_moment = λ told held has. passes_weaker LeavesOthers (λ a b. (k : ℕ) × HoldsAll (granularities ms) b (stage [] held k)) (disk.past old) (disk.past new) (marks told).any_moment (λ a b left step. (0, marked_holds (granularities ms) a b step held (has_left disk.tells (loaded disk catalogue ms old) held has told a left)));
    granularity = refl;
    faults = faults;
  }

  pub steps_read : (IsTrue disk.tells → disk.files new ≡ disk.files old) → (IsTrue disk.tells → disk.opened new ≡ disk.opened old) → (IsTrue disk.tells → Passes (λ a b. b ≡ a) (disk.past old) (disk.past new)) → disk.faults old ≤ disk.faults new → MakesSteps true disk.tells [] (loaded disk catalogue ms old) (loaded disk catalogue ms new)
  steps_read files opened passes faults = steps_marked (λ told. marks_read disk old new (files told) (opened told) (passes told)) faults

-- What the calls of an adoption make together, behind the load of the journals.

-- WHAT IS FOUND, ON ANOTHER IMAGE WITH THE SAME STORES

candidate_same : (g : Granularity) (a b : Files) (n : Name) (c : Candidate) → b n ≡ a n → IsCandidate g a n c → IsCandidate g b n c
candidate_same g a b n c same is = record { unit = is.unit; bytes = is.bytes; there = same ∙ is.there; front = is.front; named = is.named }

found_same : (g : Granularity) (a b : Files) (n : Name) (o : Option Candidate) → b n ≡ a n → IsFoundAs g a n o → IsFoundAs g b n o
found_same g a b n None same found = λ c is. found c (candidate_same g b a n c (sym same) is)
found_same g a b n (Some c) same found = candidate_same g a b n c same found

module _ (g : Granularity) (image first : Files) (same : SameStores image first) (listing : Listing) (place : ℕ) where
  same_here : (n : Name) → n.0 ≡ place + 1 → image n ≡ first n
  same_here n store = sym (same n (λ none. absurd (omega (arith, store, none))))

  finds_same : (names : List Name) (xs : List Unlisted) → All (λ (n : Name). n.0 ≡ place + 1) names → Finds g first listing place names xs → Finds g image listing place names xs
  finds_same [] xs all done_step = done_step
  finds_same (n ∷ ns) xs all (listed other rest) = listed other (finds_same ns xs (All-tail (λ (m : Name). m.0 ≡ place + 1) n ns all) rest)
  finds_same (n ∷ ns) (x ∷ xs) all (unlisted {o = o} own found rest) =
      unlisted own (found_same g first image n o (same_here n (All-head (λ (m : Name). m.0 ≡ place + 1) n ns all)) found) (finds_same ns xs (All-tail (λ (m : Name). m.0 ≡ place + 1) n ns all) rest)

  names_same : (names : List Name) → HasNames (place + 1) first names → HasNames (place + 1) image names
  names_same names has = record {
    each = All-weaker (λ (n : Name). (n.0 ≡ place + 1) × IsSome (first n)) (λ (n : Name). (n.0 ≡ place + 1) × IsSome (image n)) (λ n is. (is.0, subst IsSome (sym (same_here n is.0)) is.1)) names has.each;
    all = λ n store some. has.all n store (subst IsSome (same_here n store) some);
    rise = has.rise;
  }

  unlisted_same : (xs : List Unlisted) → AreUnlisted g first listing place xs → AreUnlisted g image listing place xs
  unlisted_same xs are = record {
    names = are.names;
    all = names_same are.names are.all;
    finds = finds_same are.names xs (All-weaker (λ (n : Name). (n.0 ≡ place + 1) × IsSome (first n)) (λ (n : Name). n.0 ≡ place + 1) (λ n is. is.0) are.names are.all.each) are.finds;
  }

pub all_of : (gs : List Granularity) (image first : Files) (c : CatalogueState) (ms : List ManifestState) (held : Stores) (xs : List Unlisted) → granularities ms ≡ gs → SameStores image first → IsKnown c ms held → AreUnlistedOf first c.rows ms xs → AreAll gs image held xs
all_of gs image first c ms held xs of_gs same known are = record { each = are.each; are_each = λ i g here. each i g (ap (λ (l : List Granularity). slice_get l i) of_gs ∙ here); are = are.are }
  where
    each : (i : ℕ) (g : Granularity) → slice_get (granularities ms) i ≡ Some g → AreUnlisted g image (listing_of (tier i held)) i (are.each i)
    each i g here =
        let m = manifest_of ms i g here in
        let shelf : List Row → Listing = λ (rows : List Row). ((i + 1, rows), m.0.entries) in
        let mine = unlisted_same m.0.granularity image first same (shelf c.rows) i (are.each i) (are.are_each i m.0 m.1) in
        let of_rows : AreUnlisted m.0.granularity image ((i + 1, held.rows), m.0.entries) i (are.each i) = subst (λ (rows : List Row). AreUnlisted m.0.granularity image ((i + 1, rows), m.0.entries) i (are.each i)) known.rows mine in
        let of_entries : AreUnlisted m.0.granularity image ((i + 1, held.rows), map entry_of (list_at i held)) i (are.each i) = subst (λ (es : List Entry). AreUnlisted m.0.granularity image ((i + 1, held.rows), es) i (are.each i)) (known.each i m.0 m.1).entries of_rows in
        subst (λ (h : Granularity). AreUnlisted h image (listing_of (tier i held)) i (are.each i)) m.2 of_entries

-- none of them was opened
module _ (g : Granularity) (image : Files) (rows : List Row) (entries : List Entry) (place : ℕ) (opened : Name → ℕ) (none : (n : Name) → n.0 ≡ place + 1 → IsUnlisted ((place + 1, rows), entries) n → opened n ≡ 0) where
  finds_unopened : (names : List Name) (xs : List Unlisted) → All (λ (n : Name). n.0 ≡ place + 1) names → Finds g image ((place + 1, rows), entries) place names xs → All (λ (x : Unlisted). opened x.file ≡ 0) xs
  finds_unopened [] xs all done_step = All-nil (λ (x : Unlisted). opened x.file ≡ 0)
  finds_unopened (n ∷ ns) xs all (listed other rest) = finds_unopened ns xs (All-tail (λ (m : Name). m.0 ≡ place + 1) n ns all) rest
  finds_unopened (n ∷ ns) (x ∷ xs) all (unlisted own found rest) =
      All-cons (λ (y : Unlisted). opened y.file ≡ 0) x xs (none n (All-head (λ (m : Name). m.0 ≡ place + 1) n ns all) own) (finds_unopened ns xs (All-tail (λ (m : Name). m.0 ≡ place + 1) n ns all) rest)

  place_unopened : (xs : List Unlisted) → AreUnlisted g image ((place + 1, rows), entries) place xs → All (λ (x : Unlisted). opened x.file ≡ 0) xs
  place_unopened xs are = finds_unopened are.names xs (All-weaker (λ (n : Name). (n.0 ≡ place + 1) × IsSome (image n)) (λ (n : Name). n.0 ≡ place + 1) (λ n is. is.0) are.names are.all.each) are.finds

pub all_unopened : (image : Files) (rows : List Row) (ms : List ManifestState) (opened : Name → ℕ) (xs : List Unlisted) → length ms ≡ 3 → NoneUnlistedOpened rows ms opened → AreUnlistedOf image rows ms xs → All (λ (x : Unlisted). opened x.file ≡ 0) xs
all_unopened image rows ms opened xs three none are =
    subst (λ (l : List Unlisted). All (λ (x : Unlisted). opened x.file ≡ 0) l) (sym are.are)
    (All-append (λ (x : Unlisted). opened x.file ≡ 0) (are.each 2 ++ are.each 1) (are.each 0) (All-append (λ (x : Unlisted). opened x.file ≡ 0) (are.each 2) (are.each 1) (at 2 (omega arith)) (at 1 (omega arith))) (at 0 (omega arith)))
  where
    at : (i : ℕ) → i < 3 → All (λ (x : Unlisted). opened x.file ≡ 0) (are.each i)
    at i low =
        let m = manifest_at ms i (omega (arith, low, three)) in place_unopened m.0.granularity image rows m.0.entries i opened (λ n store own. none i m.0 n m.1 store own) (are.each i) (are.are_each i m.0 m.1)

-- THE RULE

module _ {D R : Type 0} (disk : Ghosts D R) (gs : List Granularity) (image : Files) (held : Stores) (xs : List Unlisted) (c : CatalogueState) (ms : List ManifestState) (d₀ d₁ : D) (are : AreAll gs image held xs) (has : Has disk.tells (loaded disk c ms d₀) held) (read : MakesSteps true disk.tells [] (loaded disk c ms d₀) (loaded disk c ms d₁)) where
  -- it was left while rows were made
  pub left_rows : (c₁ : CatalogueState) (d₂ : D) → Stops disk (λ whole. GetRows whole c.rows [] xs) c ms d₁ c₁ ms d₂ → Follows disk false false gs image held c ms d₀ c₁ ms d₂
  left_rows c₁ d₂ stops = record {
    steps = stops.steps;
    rule = record {
      unlisted = xs;
      are_unlisted = are;
      all_rows = false;
      new_rows = stops.steps;
      gets = subst (λ (rows : List Row). GetRows false rows [] xs stops.steps) has.known.rows stops.by;
      lists = [];
      takes = stopped refl;
      order = inr (refl, refl);
      are = sym (append-nil stops.steps);
    };
    makes = steps_then false disk.tells [] stops.steps (loaded disk c ms d₀) (loaded disk c ms d₁) (loaded disk c₁ ms d₂) read stops.makes;
  }

  module _ (c₁ : CatalogueState) (d₂ : D) (goes : Goes disk (λ whole. GetRows whole c.rows [] xs) (λ whole steps. steps ≡ []) c ms d₁ c₁ ms d₂) where
    pub all_rows_made : MakesSteps true disk.tells goes.steps (loaded disk c ms d₀) (loaded disk c₁ ms d₂)
    all_rows_made = steps_then true disk.tells [] goes.steps (loaded disk c ms d₀) (loaded disk c ms d₁) (loaded disk c₁ ms d₂) read goes.makes

    -- the stores have the rows
    pub rows_had : Has disk.tells (loaded disk c₁ ms d₂) (made_by goes.steps held)
    rows_had = all_rows_made.ends held has

    pub gets : GetRows true held.rows [] xs goes.steps
    gets = subst (λ (rows : List Row). GetRows true rows [] xs goes.steps) has.known.rows (subst (λ (l : List Step). GetRows true c.rows [] xs l) (append-nil goes.steps) (goes.by true [] refl))

    abbrev pub rule_of : (whole : Bool) (lists : List Step) → TakesTurns image held (made_by goes.steps held).rows xs whole 0 (3 * length (made_by goes.steps held).rows) lists → IsAdoption whole gs image held (goes.steps ++ lists)
    rule_of whole lists takes = record { unlisted = xs; are_unlisted = are; all_rows = true; new_rows = goes.steps; gets = gets; lists = lists; takes = takes; order = inl refl; are = refl }

    -- it was left between rows and lists
    pub left_between : Follows disk false false gs image held c ms d₀ c₁ ms d₂
    left_between = record {
      steps = goes.steps ++ [];
      rule = rule_of false [] (stopped refl);
      makes = subst (λ (l : List Step). MakesSteps false disk.tells l (loaded disk c ms d₀) (loaded disk c₁ ms d₂)) (sym (append-nil goes.steps)) (steps_stopped disk.tells goes.steps (loaded disk c ms d₀) (loaded disk c₁ ms d₂) all_rows_made);
    }

    module _ (n : ℕ) (count : n ≡ 3 * length c₁.rows) (m₁ : List ManifestState) (d₃ : D) where
      pub turns_of_rows : (whole : Bool) (lists : List Step) → TakesTurns image held c₁.rows xs whole 0 n lists → TakesTurns image held (made_by goes.steps held).rows xs whole 0 (3 * length (made_by goes.steps held).rows) lists
      turns_of_rows whole lists takes =
          subst (λ (rows : List Row). TakesTurns image held rows xs whole 0 (3 * length rows) lists) rows_had.known.rows (subst (λ (k : ℕ). TakesTurns image held c₁.rows xs whole 0 k lists) count takes)

      -- it was left while files were listed
      pub left_lists : Stops disk (λ whole. TakesTurns image held c₁.rows xs whole 0 n) c₁ ms d₂ c₁ m₁ d₃ → Follows disk false false gs image held c ms d₀ c₁ m₁ d₃
      left_lists stops = record {
        steps = goes.steps ++ stops.steps;
        rule = rule_of false stops.steps (turns_of_rows false stops.steps stops.by);
        makes = steps_then false disk.tells goes.steps stops.steps (loaded disk c ms d₀) (loaded disk c₁ ms d₂) (loaded disk c₁ m₁ d₃) all_rows_made stops.makes;
      }

      -- it was followed to its end
      abbrev pub followed : Goes disk (λ whole. TakesTurns image held c₁.rows xs whole 0 n) (λ whole steps. steps ≡ []) c₁ ms d₂ c₁ m₁ d₃ → Follows disk true true gs image held c ms d₀ c₁ m₁ d₃
      followed lists = record {
        steps = goes.steps ++ lists.steps;
        rule = rule_of true lists.steps (turns_of_rows true lists.steps (subst (λ (l : List Step). TakesTurns image held c₁.rows xs true 0 n l) (append-nil lists.steps) (lists.by true [] refl)));
        makes = steps_then true disk.tells goes.steps lists.steps (loaded disk c ms d₀) (loaded disk c₁ ms d₂) (loaded disk c₁ m₁ d₃) all_rows_made lists.makes;
      }

-- CALLS BEFORE IT AND BEHIND IT

module _ {D R : Type 0} (disk : Ghosts D R) (gs : List Granularity) (image : Files) (held : Stores) (c : CatalogueState) (ms : List ManifestState) (d₀ d₁ : D) (c₁ : CatalogueState) (m₁ : List ManifestState) (d₂ : D) where
  abbrev pub follows_before : (whole ends : Bool) → MakesSteps true disk.tells [] (loaded disk c ms d₀) (loaded disk c ms d₁) → Follows disk whole ends gs image held c ms d₁ c₁ m₁ d₂ → Follows disk whole ends gs image held c ms d₀ c₁ m₁ d₂
  follows_before whole ends before follows = record {
    steps = follows.steps;
    rule = follows.rule;
    makes = steps_then ends disk.tells [] follows.steps (loaded disk c ms d₀) (loaded disk c ms d₁) (loaded disk c₁ m₁ d₂) before follows.makes;
  }

  abbrev pub follows_behind : (whole : Bool) (d₃ : D) → MakesSteps true disk.tells [] (loaded disk c₁ m₁ d₂) (loaded disk c₁ m₁ d₃) → Follows disk whole true gs image held c ms d₀ c₁ m₁ d₂ → Follows disk whole true gs image held c ms d₀ c₁ m₁ d₃
  follows_behind whole d₃ behind follows = record {
    steps = follows.steps;
    rule = follows.rule;
    makes = subst (λ (l : List Step). MakesSteps true disk.tells l (loaded disk c ms d₀) (loaded disk c₁ m₁ d₃)) (append-nil follows.steps) (steps_then true disk.tells follows.steps [] (loaded disk c ms d₀) (loaded disk c₁ m₁ d₂) (loaded disk c₁ m₁ d₃) follows.makes behind);
  }

  pub follows_stopped : (whole : Bool) → Follows disk whole true gs image held c ms d₀ c₁ m₁ d₂ → Follows disk whole false gs image held c ms d₀ c₁ m₁ d₂
  follows_stopped whole follows = record { steps = follows.steps; rule = follows.rule; makes = steps_stopped disk.tells follows.steps (loaded disk c ms d₀) (loaded disk c₁ m₁ d₂) follows.makes }

pub none_later : (rows : List Row) (ms : List ManifestState) (opened after : Name → ℕ) → ((n : Name) → after n ≤ opened n) → NoneUnlistedOpened rows ms opened → NoneUnlistedOpened rows ms after
none_later rows ms opened after fewer none i m n here store own = let was = none i m n here store own in let le = fewer n in omega (arith, was, le)

-- Calls that make steps of a rule, one after another.

module _ {D R : Type 0} (disk : Ghosts D R) (c₀ : CatalogueState) (ms₀ : List ManifestState) (d₀ : D) (c₁ : CatalogueState) (ms₁ : List ManifestState) (d₁ : D) where
  -- what stands after it
  pub goes_has : (rule left : Rule) → Goes disk rule left c₀ ms₀ d₀ c₁ ms₁ d₁ → ((held : Stores) × Has disk.tells (loaded disk c₀ ms₀ d₀) held) → (held : Stores) × Has disk.tells (loaded disk c₁ ms₁ d₁) held
  goes_has rule left goes has = (made_by goes.steps has.0, goes.makes.ends has.0 has.1)

  module _ (c₂ : CatalogueState) (ms₂ : List ManifestState) (d₂ : D) where
    pub goes_then : (rule mid left : Rule) → Goes disk rule mid c₀ ms₀ d₀ c₁ ms₁ d₁ → Goes disk mid left c₁ ms₁ d₁ c₂ ms₂ d₂ → Goes disk rule left c₀ ms₀ d₀ c₂ ms₂ d₂
    goes_then rule mid left one two = record {
      steps = one.steps ++ two.steps;
      makes = steps_then true disk.tells one.steps two.steps (loaded disk c₀ ms₀ d₀) (loaded disk c₁ ms₁ d₁) (loaded disk c₂ ms₂ d₂) one.makes two.makes;
      by = λ whole more rest. subst (rule whole) (sym (append_assoc one.steps two.steps more)) (one.by whole (two.steps ++ more) (two.by whole more rest));
    }

    pub goes_stops : (rule mid : Rule) → Goes disk rule mid c₀ ms₀ d₀ c₁ ms₁ d₁ → Stops disk mid c₁ ms₁ d₁ c₂ ms₂ d₂ → Stops disk rule c₀ ms₀ d₀ c₂ ms₂ d₂
    goes_stops rule mid one two = record {
      steps = one.steps ++ two.steps;
      makes = steps_then false disk.tells one.steps two.steps (loaded disk c₀ ms₀ d₀) (loaded disk c₁ ms₁ d₁) (loaded disk c₂ ms₂ d₂) one.makes two.makes;
      by = one.by false two.steps two.by;
    }

  -- what is left may be less
  pub goes_by : (rule left less : Rule) → Goes disk rule left c₀ ms₀ d₀ c₁ ms₁ d₁ → ((whole : Bool) (more : List Step) → less whole more → left whole more) → Goes disk rule less c₀ ms₀ d₀ c₁ ms₁ d₁
  goes_by rule left less goes by = record { steps = goes.steps; makes = goes.makes; by = λ whole more rest. goes.by whole more (by whole more rest) }

-- ITEMS OF LISTS

pub next_item : {X : Type 0} (xs : List X) (i : ℕ) (x : X) → i < length xs → x ≡ get_or xs i x → drop i xs ≡ x ∷ drop (i + 1) xs
next_item {X} xs i x low is = rw add-one (drop-cons xs i x low ∙ ap (λ (y : X). y ∷ drop (suc i) xs) (sym is))

pub none_of : {X : Type 0} (o : Option X) → ((x : X) → o ≡ Some x → ⊥) → o ≡ None
none_of None other = refl
none_of (Some x) other = absurd (other x refl)

-- Which turn takes which file.

-- ENTRIES OF A ROW

pub none_in : (es : List Entry) (row : ℕ) → length (filter (λ (e : Entry). e.series == row) es) ≡ 0 → All (λ (e : Entry). e.series ≢ row) es
none_in [] row is = λ k d low. absurd (omega (arith, low))
none_in (e ∷ es) row is = go (e.series == row) refl (none_in es row) is
  where
    go : (b : Bool) → (e.series == row) ≡ b → (length (filter (λ (x : Entry). x.series == row) es) ≡ 0 → All (λ (x : Entry). x.series ≢ row) es)
        → length (cond b (e ∷ filter (λ (x : Entry). x.series == row) es) (filter (λ (x : Entry). x.series == row) es)) ≡ 0 → All (λ (x : Entry). x.series ≢ row) (e ∷ es)
    go true at rest is = absurd (omega (arith, is))
    go false at rest is = all
      where
        all : All (λ (x : Entry). x.series ≢ row) (e ∷ es)
        all zero d low = λ same. absurd (let h : e.series ≡ row = same in grind (arith, nat_tests))
        all (suc k) d low = rest is k d (omega (arith, low))

pub in_none : (es : List Entry) (row : ℕ) → All (λ (e : Entry). e.series ≢ row) es → length (filter (λ (e : Entry). e.series == row) es) ≡ 0
in_none [] row all = refl
in_none (e ∷ es) row all = go (e.series == row) refl (in_none es row (λ k d low. all (suc k) d (omega (arith, low))))
  where
    go : (b : Bool) → (e.series == row) ≡ b → length (filter (λ (x : Entry). x.series == row) es) ≡ 0 → length (cond b (e ∷ filter (λ (x : Entry). x.series == row) es) (filter (λ (x : Entry). x.series == row) es)) ≡ 0
    go true at rest = absurd (all 0 e (omega arith) (let h : e.series ≡ row = grind (arith, nat_tests) in h))
    go false at rest = rest

pub is_none : (n : ℕ) (b : Bool) → b ≡ (n == 0) → (b ≡ true → n ≡ 0) × (n ≡ 0 → b ≡ true)
is_none n b is = (λ so. grind (arith, nat_tests), λ so. grind (arith, nat_tests))

-- THE TURN OF A ROW AND A PLACE

pub same_turn : (row place turn : ℕ) → place < 3 → row ≡ row_of turn → place ≡ place_of turn → 3 * row + (2 - place) ≡ turn
same_turn row place turn low is here = omega (arith, low, is, here)

pub turn_row : (row place : ℕ) → place < 3 → row_of (3 * row + (2 - place)) ≡ row
turn_row row place low = omega (arith, low)

pub turn_place : (row place : ℕ) → place < 3 → place ≡ place_of (3 * row + (2 - place))
turn_place row place low = omega (arith, low)

-- ITEMS OF TURNS

pub turn_there : (vs : List (Vec TakenFile Global)) (k : ℕ) (ys : List TakenFile) → slice_get (turns_of vs) k ≡ Some ys → (v : Vec TakenFile Global) × (slice_get vs k ≡ Some v) × (v.items ≡ ys)
turn_there [] k ys here = absurd (cc (here))
turn_there (v ∷ vs) zero ys here = (v, refl, same_Some v.items ys here)
turn_there (v ∷ vs) (suc k) ys here = turn_there vs k ys here

pub all_empty : (vs : List (Vec TakenFile Global)) → All (λ (v : Vec TakenFile Global). length v.items ≡ 0) vs → AtEachTurn (λ turn taken. length taken ≡ 0) (turns_of vs)
all_empty vs all turn taken here =
    let t = turn_there vs turn taken here in
    let low = slice_get_within vs turn t.0 t.1 in
    let is : get_or vs turn t.0 ≡ t.0 = sym (same_Some t.0 (get_or vs turn t.0) (sym t.1 ∙ slice_get-get_or vs turn t.0 low)) in
    sym (ap (λ (l : List TakenFile). length l) t.2) ∙ subst (λ (v : Vec TakenFile Global). length v.items ≡ 0) is (all turn t.0 low)

-- FILE BY FILE

module _ (ms : List ManifestState) (rows : List Row) (turn : ℕ) (xs : List Unlisted) where
  -- up to this file the turn takes just these
  pub record SoFar (i : ℕ) (taken : List TakenFile) : Type 0 where
    pub rest : (zs : List TakenFile) → TakesOf ms rows turn (drop i xs) zs → TakesOf ms rows turn xs (taken ++ zs)

  pub so_none : (taken : List TakenFile) → length taken ≡ 0 → SoFar 0 taken
  so_none [] none = record { rest = λ zs of. of }
  so_none (t ∷ ts) none = absurd (omega (arith, none))

  pub so_more : (i : ℕ) (x : Unlisted) (old new : List TakenFile) → i < length xs → x ≡ get_or xs i x → TakesIn ms rows turn x old new → SoFar i old → SoFar (i + 1) new
  so_more i x old new low is one so = go one.takes
    where
      next : drop i xs ≡ x ∷ drop (i + 1) xs
      next = next_item xs i x low is

      go : ((c : Candidate) × (x.candidate ≡ Some c) × IsOfTurn ms rows turn x.place c × (new ≡ old ++ (record { file = x.file; candidate = c }) ∷ [])) ⊎ (((c : Candidate) → x.candidate ≡ Some c → IsOfTurn ms rows turn x.place c → ⊥) × (new ≡ old)) → SoFar (i + 1) new
      go (inl (c, some, of, are)) = record {
        rest = λ zs rest.
            let t : TakenFile = record { file = x.file; candidate = c } in
            let all = so.rest (t ∷ zs) (subst (λ (l : List Unlisted). TakesOf ms rows turn l (t ∷ zs)) (sym next) (takes_turn some of rest)) in
            subst (λ (l : List TakenFile). TakesOf ms rows turn xs l) (sym (append_assoc old (t ∷ []) zs) ∙ ap (λ (l : List TakenFile). l ++ zs) (sym are)) all;
      }
      go (inr (none, are)) = record {
        rest = λ zs rest.
            subst (λ (l : List TakenFile). TakesOf ms rows turn xs (l ++ zs)) (sym are) (so.rest zs (subst (λ (l : List Unlisted). TakesOf ms rows turn l zs) (sym next) (other_turn none rest)));
      }

  pub so_all : (i : ℕ) (taken : List TakenFile) → length xs ≤ i → SoFar i taken → TakesOf ms rows turn xs taken
  so_all i taken long so = subst (λ (l : List TakenFile). TakesOf ms rows turn xs l) (append-nil taken) (so.rest [] (subst (λ (l : List Unlisted). TakesOf ms rows turn l []) (sym (drop_all i xs long)) turns_done))

-- ONE TURN IS WRITTEN

pub turn_set : (vs : List (Vec TakenFile Global)) (k : ℕ) (v : Vec TakenFile Global) (turn : ℕ) (old new : List TakenFile) → slice_get (turns_of vs) turn ≡ Some old → slice_get (turns_of (set vs k v)) turn ≡ Some new → ((turn ≡ k) × (new ≡ v.items)) ⊎ ((turn ≢ k) × (new ≡ old))
turn_set [] k v turn old new was now = absurd (cc (was))
turn_set (x ∷ xs) zero v zero old new was now = inl (refl, sym (same_Some v.items new now))
turn_set (x ∷ xs) zero v (suc t) old new was now = inr ((λ is. omega (arith, is)), same_Some new old (sym now ∙ was))
turn_set (x ∷ xs) (suc k) v zero old new was now = inr ((λ is. omega (arith, is)), same_Some new old (sym now ∙ was))
turn_set (x ∷ xs) (suc k) v (suc t) old new was now = elim (turn_set xs k v t old new was now) [
  | inl (at, is) ↦ inl (ap (λ (n : ℕ). suc n) at, is)
  | inr (apart, is) ↦ inr ((λ same. apart (omega (arith, same))), is)
]

pub turn_read : (vs : List (Vec TakenFile Global)) (k : ℕ) (v : Vec TakenFile Global) (old : List TakenFile) → v ≡ get_or vs k v → slice_get (turns_of vs) k ≡ Some old → v.items ≡ old
turn_read vs k v old is was =
    let t = turn_there vs k old was in
    let low = slice_get_within vs k t.0 t.1 in
    let same : v ≡ t.0 = same_Some v t.0 (ap (λ (y : Vec TakenFile Global). Some y) is ∙ sym (slice_get-get_or vs k v low) ∙ t.1) in
    ap (λ (y : Vec TakenFile Global). y.items) same ∙ t.2

pub turn_old : (vs ws : List (Vec TakenFile Global)) (turn : ℕ) (new : List TakenFile) → length ws ≡ length vs → slice_get (turns_of ws) turn ≡ Some new → (old : List TakenFile) × (slice_get (turns_of vs) turn ≡ Some old)
turn_old vs ws turn new same now =
    let t = turn_there ws turn new now in
    let low = slice_get_within ws turn t.0 t.1 in
    let v = get_or vs turn t.0 in
    (v.items, there vs turn v (slice_get-get_or vs turn t.0 (omega (arith, low, same))))
  where
    there : (vs : List (Vec TakenFile Global)) (k : ℕ) (v : Vec TakenFile Global) → slice_get vs k ≡ Some v → slice_get (turns_of vs) k ≡ Some v.items
    there [] k v here = absurd (cc (here))
    there (x ∷ xs) zero v here = ap (λ (o : Option (Vec TakenFile Global)). slice_get (turns_of (x ∷ xs)) 0) here ∙ ap (λ (y : Vec TakenFile Global). Some y.items) (same_Some x v here)
    there (x ∷ xs) (suc k) v here = there xs k v here

-- ALL THAT IS TAKEN

pub none_taken : (vs : List (Vec TakenFile Global)) → All (λ (v : Vec TakenFile Global). length v.items ≡ 0) vs → length (all_taken (turns_of vs)) ≡ 0
none_taken [] all = refl
none_taken (v ∷ vs) all = omega (arith, length-append v.items (all_taken (turns_of vs)), All-head (λ (v : Vec TakenFile Global). length v.items ≡ 0) v vs all, none_taken vs (All-tail (λ (v : Vec TakenFile Global). length v.items ≡ 0) v vs all))

set_taken : (vs : List (Vec TakenFile Global)) (k : ℕ) (old v : Vec TakenFile Global) → k < length vs → old ≡ get_or vs k old → length (all_taken (turns_of (set vs k v))) + length old.items ≡ length (all_taken (turns_of vs)) + length v.items
set_taken [] k old v low is = absurd (omega (arith, low))
set_taken (x ∷ xs) zero old v low is = omega (arith, length-append v.items (all_taken (turns_of xs)), length-append x.items (all_taken (turns_of xs)), ap (λ (y : Vec TakenFile Global). length y.items) is)
set_taken (x ∷ xs) (suc k) old v low is = omega (arith, length-append x.items (all_taken (turns_of (set xs k v))), length-append x.items (all_taken (turns_of xs)), set_taken xs k old v (omega (arith, low)) is)

pub one_taken : (vs : List (Vec TakenFile Global)) (k : ℕ) (old v : Vec TakenFile Global) (t : TakenFile) → k < length vs → old ≡ get_or vs k old → v.items ≡ old.items ++ t ∷ [] → length (all_taken (turns_of (set vs k v))) ≤ length (all_taken (turns_of vs)) + 1
one_taken vs k old v t low is items = omega (arith, set_taken vs k old v low is, ap (λ (l : List TakenFile). length l) items, length-append old.items (t ∷ []))

next_taken : (vs : List (Vec TakenFile Global)) (i : ℕ) (v : Vec TakenFile Global) → i < length vs → v ≡ get_or vs i v → all_taken (turns_of (take (suc i) vs)) ≡ all_taken (turns_of (take i vs)) ++ v.items
next_taken [] i v low is = absurd (omega (arith, low))
next_taken (x ∷ xs) zero v low is = append-nil x.items ∙ ap (λ (y : Vec TakenFile Global). y.items) (sym is)
next_taken (x ∷ xs) (suc i) v low is = ap (λ (l : List TakenFile). x.items ++ l) (next_taken xs i v (omega (arith, low)) is) ∙ sym (append_assoc x.items (all_taken (turns_of (take i xs))) v.items)

pub taken_more : (vs : List (Vec TakenFile Global)) (i : ℕ) (v : Vec TakenFile Global) → i < length vs → v ≡ get_or vs i v → all_taken (turns_of (take (i + 1) vs)) ≡ all_taken (turns_of (take i vs)) ++ v.items
taken_more vs i v low is = rw add-one (next_taken vs i v low is)

pub samples_both : (xs ys : List TakenFile) → samples_in (xs ++ ys) ≡ samples_in xs + samples_in ys
samples_both xs ys = sum_by-append (λ (t : TakenFile). t.candidate.front.count) xs ys

pub cut_both : (xs ys : List TakenFile) → cut_in (xs ++ ys) ≡ cut_in xs + cut_in ys
cut_both [] ys = omega arith
cut_both (x ∷ xs) ys = go x.candidate.cut (cut_both xs ys)
  where
    go : (b : Bool) → cut_in (xs ++ ys) ≡ cut_in xs + cut_in ys → length (cond b (x ∷ filter (λ (t : TakenFile). t.candidate.cut) (xs ++ ys)) (filter (λ (t : TakenFile). t.candidate.cut) (xs ++ ys))) ≡ length (cond b (x ∷ filter (λ (t : TakenFile). t.candidate.cut) xs) (filter (λ (t : TakenFile). t.candidate.cut) xs)) + cut_in ys
    go true both = omega (arith, both)
    go false both = both

pub adds_then : (a b c : Adopted) (xs ys : List TakenFile) → Adds a xs b → Adds b ys c → Adds a (xs ++ ys) c
adds_then a b c xs ys one two = record {
  files = omega (arith, one.files, two.files, length-append xs ys);
  samples = omega (arith, one.samples, two.samples, samples_both xs ys);
  cut = omega (arith, one.cut, two.cut, cut_both xs ys);
  rows = two.rows ∙ one.rows;
  skipped = two.skipped ∙ one.skipped;
}
