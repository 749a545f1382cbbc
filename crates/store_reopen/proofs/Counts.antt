-- The numbers of an adoption, by what its turns take, and how many files one may take.
use Rattle.std.proofs.Common.{◌≡◌, ◌<◌, ◌≤◌, ◌+◌, ◌∷◌, ◌++◌, [], ℕ, List, length, sym, ◌∙◌, ap, subst, arith, true, false, zero, suc, Some, refl, map, ◌≢◌, Bool, ◌-◌, get_or, Option, inl, inr, cond, ◌^◌, filter, ◌||◌, eqb, max, ◌*◌, ◌/◌}
use Rattle.std.specs.Prelude.{All, slice_get, Vec, IfSome, IsTrue, ◌↔◌, nat_lt}
use Rattle.disk_model.specs.Files.{Files, Name, Content, name_cmp}
use Rattle.partition_names.specs.declared.granularity.Granularity.{Granularity}
use Rattle.pv_catalog.specs.declared.row.Row.{Row}
use Rattle.store_manifest.specs.Manifest.{ManifestState}
use Rattle.tier_store.specs.Seen.{granularities}
use Rattle.store_reopen.specs.Adoption.{place_of, row_of, Takes, IsListedAs, TakesTurns, Finds, ListsAll, done as adoption_done, lists as lists_step, nothing, stopped, IsUnlisted, ListsNone, Counts, GetRows, about_of, capped, entry_as, goes_on, listed_by, listed_in, AreUnlisted, NoneFiner}
use Rattle.store_reopen.specs.Listing.{MayList, AtEachTurn, AllMayList, AreTurns, AreUnopened, ListsTaken, commit_of, turns_of, AllHaveParts, AllUnopened, AreCoarse, AreFew}
use Rattle.store_reopen.specs.declared.finding.TakenFile.{TakenFile}
use Rattle.store_reopen.specs.declared.finding.Unlisted.{Unlisted}
use Rattle.tier_store.specs.Stores.{Stores, list_at}
use Rattle.std.proofs.lemmas.List.Elements.{All-head, All-tail, All-weaker, All-append, All-cons, All-map, filter-append, All-from_recursion, recursion_from_All}
use Rattle.std.proofs.lemmas.Option.{same_Some, slice_get-map, slice_get_cases}
use Rattle.store_reopen.specs.Finding.{AreUnlistedOf, IsOfPlace}
use Rattle.store_reopen.specs.Turns.{TakesOf, done, takes as takes_turn, other as other_turn, IsOfTurn, ListNone, AreNumbers, all_taken, cut_in, samples_in}
use Rattle.store_reopen.specs.Adoption as rule
use Rattle.std.specs.List.{AllZip, sum_by, AllByRecursion, IsDistinct, list_any}
use Rattle.pv_catalog.specs.Catalogue.{CatalogueState, registered}
use Rattle.durable_write.specs.Held.{Filed, entry_of, file_of, name_of, Listing}
use Rattle.tier_store.proofs.Places.{granularity_at, manifest_at}
use Rattle.store_reopen.specs.Reopen.{SameStores, loaded, stores_of}
use Rattle.store_reopen.specs.Steps.{Step, Lists, MakesSteps, made_by, stepped}
use Rattle.found_files.specs.declared.finding.Candidate.{Candidate}
use Rattle.partition_names.specs.Part.{IsPart}
use Rattle.store_manifest.specs.declared.entry.Entry.{Entry}
use Rattle.std.proofs.lemmas.List.{length-map, length-append, map-append}
use Rattle.partition_names.specs.Path.{path_of}
use Rattle.std.specs.declared.alloc.Global.{Global}
use Rattle.disk_model.specs.declared.disk.Disk.{Ghosts}
use Rattle.store_reopen.specs.Runs.{Goes, Rule, Stops}
use Rattle.store_reopen.proofs.Stages.{steps_none, goes_then, goes_stops, all_made, cut_both, samples_both}
use Rattle.std.specs.Option.{option_map}
use Rattle.found_files.specs.Candidate.{IsCandidate}
use Rattle.tier_store.specs.Change.{IsKnown}
use Rattle.std.proofs.lemmas.Bool.{false≢true}
use Rattle.std.proofs.lemmas.Bool.Decides.{nat_tests, Decides-eqb}
use Rattle.std.proofs.lemmas.Grind.{flat_map-append}
use Rattle.std.proofs.lemmas.List.Sums.{sum_by-append, sum_by-cons}
use Rattle.found_files.specs.Reading.{bytes_in}
use Rattle.store_reopen.specs.declared.adopted.Adopted.{Adopted}
use Rattle.std.specs.Cmp.{IsTotalOrder}
use Rattle.std.specs.List.Sorted.{IsStrictlySortedBy}
use Rattle.std.specs.declared.cmp.Ordering.TheVariants.{Less}
use Rattle.std.proofs.lemmas.Cmp.{nat_cmp_total, nat_list_cmp_total, on_total, then_total, tied_itself}
use Rattle.std.proofs.lemmas.Map.Steps.{length-le_from_distinct_below}
use Rattle.partition_names.specs.declared.granularity.Granularity.TheVariants.{FiveMinutes, FifteenMinutes, ThirtyMinutes, Hour, Day, Month, Year}
use Rattle.partition_names.specs.declared.part.Part.{Part}
use Rattle.partition_names.specs.declared.unit.CivilMinute.{CivilMinute}
use Rattle.partition_names.specs.Unit.{unit_seconds}
use Rattle.partition_names.proofs.PartLemmas.{one_part, within}
use Rattle.partition_names.proofs.UnitLemmas.{lasts}
use Rattle.etl_rules.specs.Config.{ConfigState}

-- What rows take of the stores, one turn after another.

-- THE FILES OF A TURN, LATER ON

pub may_later : (g : Granularity) (image later : Files) (rows : List Row) (series place : ℕ) (xs : List TakenFile) → SameStores image later → All (MayList g image rows series place) xs → All (MayList g later rows series place) xs
may_later g image later rows series place xs same = All-weaker (MayList g image rows series place) (MayList g later rows series place) one xs
  where
    one : (x : TakenFile) → MayList g image rows series place x → MayList g later rows series place x
    one x may =
        let is = may.is in
        let store = may.store in
        record {
          store = store;
          is = record { unit = is.unit; bytes = is.bytes; there = same x.file (λ none. absurd (omega (arith, store, none))) ∙ is.there; front = is.front; named = is.named };
          row = may.row;
          stands = may.stands;
          name = may.name;
          type = may.type;
        }

pub unopened_later : (opened after : Name → ℕ) (xs : List TakenFile) → ((n : Name) → after n ≤ opened n) → AreUnopened opened xs → AreUnopened after xs
unopened_later opened after xs fewer = All-weaker (λ (x : TakenFile). opened x.file ≡ 0) (λ (x : TakenFile). after x.file ≡ 0) (λ x none. let le = fewer x.file in omega (arith, le, none)) xs

-- ONE TURN

module _ (image first now : Files) (g : Granularity) (rows : List Row) (series place : ℕ) (same : SameStores image now) where
  listed_before : (xs : List TakenFile) (files : List Filed) → All (MayList g first rows series place) xs → AllZip (IsListedAs now series) xs files → AllZip (IsListedAs image series) xs files
  listed_before [] [] may all = tt
  listed_before [] (f ∷ fs) may all = absurd all
  listed_before (x ∷ xs) [] may all = absurd all
  listed_before (x ∷ xs) (f ∷ fs) may all =
      let store = (may 0 x (omega arith)).store in
      (record { entry = all.0.entry; bytes = all.0.bytes; there = sym (same x.file (λ none. absurd (omega (arith, store, none)))) ∙ all.0.there; file = all.0.file }, listed_before xs fs (λ k d lt. may (suc k) d (omega (arith, lt))) all.1)

module _ {D R : Type 0} (disk : Ghosts D R) (image : Files) (held : Stores) (rows : List Row) (xs : List Unlisted) (turn left : ℕ) (taken : List TakenFile) (takes : Takes held rows (row_of turn) (place_of turn) xs taken) (c : CatalogueState) (ms : List ManifestState) (d : D) (m₁ : List ManifestState) (d₁ : D) where
  abbrev Before : Rule
  Before whole = TakesTurns image held rows xs whole turn (suc left)

  abbrev Behind : Rule
  Behind whole = TakesTurns image held rows xs whole (suc turn) left

  abbrev Listed : List Filed → Type 0
  Listed files = AllZip (IsListedAs image (row_of turn)) taken files

  all_of : (files : List Filed) → Listed files → ListsAll image held rows xs (row_of turn) (place_of turn) files
  all_of files listed = record { taken = taken; takes = takes; listed = listed }

  pub turn_goes : (files : List Filed) → Listed files → MakesSteps true disk.tells (commit_of (place_of turn) files) (loaded disk c ms d) (loaded disk c m₁ d₁) → Goes disk Before Behind c ms d c m₁ d₁
  turn_goes [] listed makes = record { steps = []; makes = makes; by = λ whole more rest. nothing (all_of [] listed) rest }
  turn_goes (f ∷ files) listed makes = record { steps = Lists (place_of turn) (f ∷ files) ∷ []; makes = makes; by = λ whole more rest. lists_step (all_of (f ∷ files) listed) rest }

  pub turn_stops : (files : List Filed) → Listed files → MakesSteps false disk.tells (commit_of (place_of turn) files) (loaded disk c ms d) (loaded disk c m₁ d₁) → Stops disk Before c ms d c m₁ d₁
  turn_stops [] listed makes = record { steps = []; makes = makes; by = stopped refl }
  turn_stops (f ∷ files) listed makes = record { steps = Lists (place_of turn) (f ∷ files) ∷ []; makes = makes; by = lists_step (all_of (f ∷ files) listed) (stopped refl) }

-- ALL TURNS

pub turn_here : (turns : List (Vec TakenFile Global)) (i : ℕ) (v : Vec TakenFile Global) → i < length turns → v ≡ get_or turns i v → slice_get (turns_of turns) i ≡ Some v.items
turn_here [] i v low is = absurd (omega (arith, low))
turn_here (t ∷ ts) zero v low is = ap (λ (w : Vec TakenFile Global). Some w.items) (sym is)
turn_here (t ∷ ts) (suc i) v low is = turn_here ts i v (omega (arith, low)) is

-- the granularity at a place stays
pub still_at : (gs : List Granularity) (first now : List ManifestState) (place : ℕ) (m : ManifestState) → granularities first ≡ gs → granularities now ≡ gs → slice_get now place ≡ Some m → slice_get (granularities first) place ≡ Some m.granularity
still_at gs first now place m was is here = ap (λ (l : List Granularity). slice_get l place) (was ∙ sym is) ∙ granularity_at now place m here

module _ {D R : Type 0} (disk : Ghosts D R) (image : Files) (held : Stores) (rows : List Row) (xs : List Unlisted) (n : ℕ) (c : CatalogueState) (ms : List ManifestState) (d : D) where
  abbrev pub Turns : ℕ → ℕ → Rule
  Turns turn left whole = TakesTurns image held rows xs whole turn left

  pub turns_begin : Goes disk (Turns 0 n) (Turns 0 (n - 0)) c ms d c ms d
  turns_begin = record { steps = []; makes = steps_none disk.tells (loaded disk c ms d); by = λ whole more rest. let same : n - 0 ≡ n = omega arith in subst (λ (k : ℕ). Turns 0 k whole more) same rest }

  module _ (m₁ : List ManifestState) (d₁ : D) (turn : ℕ) (goes : Goes disk (Turns 0 n) (Turns turn (n - turn)) c ms d c m₁ d₁) where
    pub turns_end : n ≤ turn → Goes disk (Turns 0 n) (λ whole steps. steps ≡ []) c ms d c m₁ d₁
    turns_end le = record {
      steps = goes.steps;
      makes = goes.makes;
      by = λ whole more is. let none : n - turn ≡ 0 = omega (arith, le) in goes.by whole more (subst (λ (k : ℕ). Turns turn k whole more) (sym none) (subst (λ (l : List Step). Turns turn 0 whole l) (sym is) adoption_done));
    }

    module _ (low : turn < n) (g : Granularity) (taken : List TakenFile) (takes : Takes held rows (row_of turn) (place_of turn) xs taken) (may : All (MayList g (disk.files d) rows (row_of turn) (place_of turn)) taken) (same : SameStores image (disk.files d₁)) (m₂ : List ManifestState) (d₂ : D) where
      abbrev left : ℕ
      left = n - (turn + 1)

      so_far : Goes disk (Turns 0 n) (Turns turn (suc left)) c ms d c m₁ d₁
      so_far = let is : n - turn ≡ suc (n - (turn + 1)) = omega (arith, low) in subst (λ (k : ℕ). Goes disk (Turns 0 n) (Turns turn k) c ms d c m₁ d₁) is goes

      before : (files : List Filed) → AllZip (IsListedAs (disk.files d₁) (row_of turn)) taken files → AllZip (IsListedAs image (row_of turn)) taken files
      before files listed = listed_before image (disk.files d) (disk.files d₁) g rows (row_of turn) (place_of turn) same taken files may listed

      pub turns_on : ListsTaken disk true c (place_of turn) (row_of turn) taken m₁ d₁ m₂ d₂ → Goes disk (Turns 0 n) (Turns (turn + 1) (n - (turn + 1))) c ms d c m₂ d₂
      turns_on listed =
          let one : suc turn ≡ turn + 1 = omega arith in
          subst (λ (t : ℕ). Goes disk (Turns 0 n) (Turns t (n - (turn + 1))) c ms d c m₂ d₂) one
          (goes_then disk c ms d c m₁ d₁ c m₂ d₂ (Turns 0 n) (Turns turn (suc left)) (Turns (suc turn) left) so_far (turn_goes disk image held rows xs turn left taken takes c m₁ d₁ m₂ d₂ listed.files (before listed.files listed.listed) listed.makes))

      pub turns_stop : ListsTaken disk false c (place_of turn) (row_of turn) taken m₁ d₁ m₂ d₂ → Stops disk (Turns 0 n) c ms d c m₂ d₂
      turns_stop listed = goes_stops disk c ms d c m₁ d₁ c m₂ d₂ (Turns 0 n) (Turns turn (suc left)) so_far (turn_stops disk image held rows xs turn left taken takes c m₁ d₁ m₂ d₂ listed.files (before listed.files listed.listed) listed.makes)

-- What is known of the files that turns take.

-- WHAT ROWS LIST

all_unmapped : {X Y : Type 0} (P : X → Type 0) (f : Y → X) (ys : List Y) → All P (map f ys) → All (λ (y : Y). P (f y)) ys
all_unmapped {X} {Y} P f [] all = λ k d low. absurd (omega (arith, low))
all_unmapped {X} {Y} P f (y ∷ ys) all = All-cons (λ (z : Y). P (f z)) y ys (All-head P (f y) (map f ys) all) (all_unmapped P f ys (All-tail P (f y) (map f ys) all))

module _ (c : CatalogueState) (ms : List ManifestState) (held : Stores) (known : IsKnown c ms held) (place series : ℕ) (low : place ≤ 2) where
  none_held : ListNone place series ms → ListsNone place series held
  none_held none k le =
      let m = manifest_at ms k (omega (arith, le, low, known.three)) in
      all_unmapped (λ (e : Entry). e.series ≢ series) entry_of (list_at k held) (subst (λ (es : List Entry). All (λ (e : Entry). e.series ≢ series) es) (known.each k m.0 m.1).entries (none k m.0 le m.1))

  none_listed : ListsNone place series held → ListNone place series ms
  none_listed none k m le here =
      subst (λ (es : List Entry). All (λ (e : Entry). e.series ≢ series) es) (sym (known.each k m here).entries) (All-map (λ (e : Entry). e.series ≢ series) entry_of (list_at k held) (none k le))

-- so a turn takes what its row takes of what is held
module _ (c : CatalogueState) (ms : List ManifestState) (held : Stores) (rows : List Row) (known : IsKnown c ms held) (turn : ℕ) where
  low_place : place_of turn ≤ 2
  low_place = omega arith

  is_taken : (x : Unlisted) (k : Candidate) → x.candidate ≡ Some k → IsOfTurn ms rows turn x.place k → rule.IsTakenBy held rows (row_of turn) (place_of turn) x k
  is_taken x k some of = record {
    found = some;
    here = of.here;
    row = of.row;
    stands = of.stands;
    name = of.name;
    type = of.type;
    single = of.single;
    none = none_held c ms held known (place_of turn) (row_of turn) low_place (subst (λ (p : ℕ). ListNone p (row_of turn) ms) of.here of.none);
  }

  of_taken : (x : Unlisted) (k : Candidate) → rule.IsTakenBy held rows (row_of turn) (place_of turn) x k → IsOfTurn ms rows turn x.place k
  of_taken x k is = record {
    here = is.here;
    row = is.row;
    stands = is.stands;
    name = is.name;
    type = is.type;
    single = is.single;
    none = subst (λ (p : ℕ). ListNone p (row_of turn) ms) (sym is.here) (none_listed c ms held known (place_of turn) (row_of turn) low_place is.none);
  }

  pub turn_is : (xs : List Unlisted) (taken : List TakenFile) → TakesOf ms rows turn xs taken → Takes held rows (row_of turn) (place_of turn) xs taken
  turn_is [] [] done = rule.done
  turn_is [] (t ∷ ts) of = elim of [ ]
  turn_is (x ∷ xs) (t ∷ ts) (takes_turn {c = k} some of rest) = rule.takes (is_taken x k some of) (turn_is xs ts rest)
  turn_is (x ∷ xs) ts (other_turn none rest) = rule.other (λ k is. none k is.found (of_taken x k is)) (turn_is xs ts rest)

pub turns_are : (c : CatalogueState) (ms : List ManifestState) (held : Stores) (rows : List Row) (xs : List Unlisted) (turns : List (List TakenFile)) → IsKnown c ms held → AtEachTurn (λ turn taken. TakesOf ms rows turn xs taken) turns → AreTurns held rows xs turns
turns_are c ms held rows xs turns known all turn taken here = turn_is c ms held rows known turn xs taken (all turn taken here)

-- WHAT IS KNOWN OF EACH FILE

-- of what is known of all files, for what a turn takes
takes_all : (ms : List ManifestState) (rows : List Row) (turn : ℕ) (P : Unlisted → Type 0) (Q : TakenFile → Type 0) → ((x : Unlisted) (c : Candidate) → x.candidate ≡ Some c → IsOfTurn ms rows turn x.place c → P x → Q (record { file = x.file; candidate = c }))
    → (xs : List Unlisted) (taken : List TakenFile) → TakesOf ms rows turn xs taken → All P xs → All Q taken
takes_all ms rows turn P Q one [] [] done all = λ k d low. absurd (omega (arith, low))
takes_all ms rows turn P Q one [] (t ∷ ts) of all = elim of [ ]
takes_all ms rows turn P Q one (x ∷ xs) (t ∷ ts) (takes_turn {c = k} some of rest) all = All-cons Q t ts (one x k some of (All-head P x xs all)) (takes_all ms rows turn P Q one xs ts rest (All-tail P x xs all))
takes_all ms rows turn P Q one (x ∷ xs) ts (other_turn none rest) all = takes_all ms rows turn P Q one xs ts rest (All-tail P x xs all)

granularity_there : (ms : List ManifestState) (k : ℕ) (m : ManifestState) (g : Granularity) → slice_get ms k ≡ Some m → slice_get (granularities ms) k ≡ Some g → m.granularity ≡ g
granularity_there ms k m g here at = same_Some m.granularity g (sym (slice_get-map (λ (m : ManifestState). m.granularity) ms k ∙ ap (option_map (λ (m : ManifestState). m.granularity)) here) ∙ at)

some_part : (o : Option Candidate) (k : Candidate) (g : Granularity) → o ≡ Some k → IfSome o (λ (c : Candidate). IsPart g c.part) → IsPart g k.part
some_part o k g some all = subst (λ (o : Option Candidate). IfSome o (λ (c : Candidate). IsPart g c.part)) some all

pub turns_have_parts : (ms : List ManifestState) (rows : List Row) (xs : List Unlisted) (turns : List (List TakenFile)) → All (IsOfPlace ms) xs → AtEachTurn (λ turn taken. TakesOf ms rows turn xs taken) turns → AllHaveParts (granularities ms) turns
turns_have_parts ms rows xs turns places all turn taken here g at =
    takes_all ms rows turn (IsOfPlace ms) (λ (t : TakenFile). IsPart g t.candidate.part) (λ x k some of is.
    subst (λ (g : Granularity). IsPart g k.part) (granularity_there ms (place_of turn) is.manifest g (subst (λ (p : ℕ). slice_get ms p ≡ Some is.manifest) of.here is.here) at) (some_part x.candidate k is.manifest.granularity some is.unit))
    xs taken (all turn taken here) places

-- what was found of a file
pub record IsFoundIn (image : Files) (rows : List Row) (ms : List ManifestState) (x : Unlisted) : Type 0 where
  pub manifest : ManifestState
  pub here : slice_get ms x.place ≡ Some manifest
  pub store : x.file.0 ≡ x.place + 1
  pub unlisted : IsUnlisted ((x.place + 1, rows), manifest.entries) x.file
  pub is : (c : Candidate) → x.candidate ≡ Some c → IsCandidate manifest.granularity image x.file c

finds_all : (image : Files) (rows : List Row) (ms : List ManifestState) (place : ℕ) (m : ManifestState) → slice_get ms place ≡ Some m → (names : List Name) (xs : List Unlisted) → All (λ (n : Name). n.0 ≡ place + 1) names → Finds m.granularity image ((place + 1, rows), m.entries) place names xs → All (IsFoundIn image rows ms) xs
finds_all image rows ms place m here [] [] stores rule.done = λ k d low. absurd (omega (arith, low))
finds_all image rows ms place m here [] (x ∷ xs) stores found = elim found [ ]
finds_all image rows ms place m here (n ∷ ns) xs stores (rule.listed listed rest) = finds_all image rows ms place m here ns xs (All-tail (λ (n : Name). n.0 ≡ place + 1) n ns stores) rest
finds_all image rows ms place m here (n ∷ ns) (x ∷ xs) stores (rule.unlisted {o = o} own found rest) =
    All-cons (IsFoundIn image rows ms) (record { place = place; file = n; candidate = o }) xs (record { manifest = m; here = here; store = All-head (λ (n : Name). n.0 ≡ place + 1) n ns stores; unlisted = own; is = λ c some. subst (rule.IsFoundAs m.granularity image n) some found })
    (finds_all image rows ms place m here ns xs (All-tail (λ (n : Name). n.0 ≡ place + 1) n ns stores) rest)

pub all_found : (image : Files) (rows : List Row) (ms : List ManifestState) (xs : List Unlisted) → length ms ≡ 3 → AreUnlistedOf image rows ms xs → All (IsFoundIn image rows ms) xs
all_found image rows ms xs three are = subst (All (IsFoundIn image rows ms)) (sym are.are) (All-append (IsFoundIn image rows ms) (are.each 2 ++ are.each 1) (are.each 0) (All-append (IsFoundIn image rows ms) (are.each 2) (are.each 1) (of 2 (omega arith)) (of 1 (omega arith))) (of 0 (omega arith)))
  where
    of : (i : ℕ) → i < 3 → All (IsFoundIn image rows ms) (are.each i)
    of i low =
        let m = manifest_at ms i (omega (arith, low, three)) in
        let found = are.are_each i m.0 m.1 in
        finds_all image rows ms i m.0 m.1 found.names (are.each i) (λ k d low. (found.all.each k d low).0) found.finds

pub turns_may : (image : Files) (before rows : List Row) (ms : List ManifestState) (xs : List Unlisted) (turns : List (List TakenFile)) → length ms ≡ 3 → AreUnlistedOf image before ms xs → AtEachTurn (λ turn taken. TakesOf ms rows turn xs taken) turns → AllMayList (granularities ms) image rows turns
turns_may image before rows ms xs turns three are all turn taken here g at =
    takes_all ms rows turn (IsFoundIn image before ms) (MayList g image rows (row_of turn) (place_of turn)) (λ x k some of is. record {
      store = is.store ∙ ap (λ (p : ℕ). p + 1) of.here;
      is = subst (λ (g : Granularity). IsCandidate g image x.file k) (granularity_there ms (place_of turn) is.manifest g (subst (λ (p : ℕ). slice_get ms p ≡ Some is.manifest) of.here is.here) at) (is.is k some);
      row = of.row;
      stands = of.stands;
      name = of.name;
      type = of.type;
    }) xs taken (all turn taken here) (all_found image before ms xs three are)

pub turns_unopened : (opened : Name → ℕ) (rows : List Row) (ms : List ManifestState) (xs : List Unlisted) (turns : List (List TakenFile)) → All (λ (x : Unlisted). opened x.file ≡ 0) xs → AtEachTurn (λ turn taken. TakesOf ms rows turn xs taken) turns → AllUnopened opened turns
turns_unopened opened rows ms xs turns none all turn taken here = takes_all ms rows turn (λ (x : Unlisted). opened x.file ≡ 0) (λ (t : TakenFile). opened t.file ≡ 0) (λ x k some of is. is) xs taken (all turn taken here) none

-- The numbers of an adoption, by what its turns take.

-- ONE FILE

lt_is : (a b : ℕ) (c : Bool) → IsTrue c ↔ (a < b) → nat_lt a b ≡ c
lt_is a b true both = let low = both.0 refl in grind (arith, nat_tests)
lt_is a b false both = go (nat_lt a b) refl
  where
    go : (d : Bool) → nat_lt a b ≡ d → nat_lt a b ≡ false
    go true is = absurd (false≢true (both.1 (let h : a < b = grind (arith, nat_tests) in h)))
    go false is = is

module _ (image : Files) (rows : List Row) where
  -- the file of the candidate, and of the entry by which its row lists it
  named_as : (g : Granularity) (series place : ℕ) (t : TakenFile) (f : Filed) → MayList g image rows series place t → f.entry ≡ entry_as series t.candidate → file_of (place + 1, rows) f.entry ≡ t.file
  named_as g series place t f may is =
      let row : name_of (slice_get rows series) ≡ may.row.name = ap name_of may.stands in
      let path : path_of (name_of (slice_get rows series)) t.candidate.part.name ≡ t.file.1 = ap (λ (l : List ℕ). path_of l t.candidate.part.name) (row ∙ sym may.name) ∙ may.is.named.path in
      ap (file_of (place + 1, rows)) is ∙ (λ i. (sym may.store i, path i))

  one_cut : (g : Granularity) (series place : ℕ) (t : TakenFile) (f : Filed) → MayList g image rows series place t → IsListedAs image series t f → goes_on image rows (place + 1, f) ≡ t.candidate.cut
  one_cut g series place t f may listed =
      let named = named_as g series place t f may listed.entry in
      let there : image (file_of (place + 1, rows) f.entry) ≡ Some may.is.bytes = ap image named ∙ may.is.there in
      ap (λ (n : ℕ). nat_lt n (length (bytes_in (image (file_of (place + 1, rows) f.entry))))) (ap (λ (e : Entry). e.len) listed.entry) ∙ ap (λ (c : Content). nat_lt t.candidate.front.len (length (bytes_in c))) there ∙ lt_is t.candidate.front.len (length may.is.bytes) t.candidate.cut may.is.named.cut

  -- what is listed adds up to what was taken
  pub record AddUp (taken : List TakenFile) (listed : List (ℕ × Filed)) : Type 0 where
    pub files : length listed ≡ length taken
    pub samples : sum_by (λ (x : ℕ × Filed). x.1.entry.count) listed ≡ samples_in taken
    pub cut : length (filter (goes_on image rows) listed) ≡ cut_in taken

  add_none : AddUp [] []
  add_none = record { files = refl; samples = refl; cut = refl }

  cut_listed : (xs ys : List (ℕ × Filed)) → length (filter (goes_on image rows) (xs ++ ys)) ≡ length (filter (goes_on image rows) xs) + length (filter (goes_on image rows) ys)
  cut_listed xs ys = ap (λ (l : List (ℕ × Filed)). length l) (filter-append (goes_on image rows) xs ys) ∙ length-append (filter (goes_on image rows) xs) (filter (goes_on image rows) ys)

  add_both : (a b : List TakenFile) (x y : List (ℕ × Filed)) → AddUp a x → AddUp b y → AddUp (a ++ b) (x ++ y)
  add_both a b x y one two = record {
    files = omega (arith, length-append a b, length-append x y, one.files, two.files);
    samples = omega (arith, samples_both a b, sum_by-append (λ (x : ℕ × Filed). x.1.entry.count) x y, one.samples, two.samples);
    cut = omega (arith, cut_both a b, cut_listed x y, one.cut, two.cut);
  }

  add_turn : (g : Granularity) (series place : ℕ) (taken : List TakenFile) (files : List Filed) → All (MayList g image rows series place) taken → AllZip (IsListedAs image series) taken files → AddUp taken (map (λ (f : Filed). (place + 1, f)) files)
  add_turn g series place [] [] may listed = add_none
  add_turn g series place [] (f ∷ fs) may listed = absurd listed
  add_turn g series place (t ∷ ts) [] may listed = absurd listed
  add_turn g series place (t ∷ ts) (f ∷ fs) may listed =
      add_both (t ∷ []) ts (here ∷ []) (map (λ (f : Filed). (place + 1, f)) fs) one (add_turn g series place ts fs (All-tail (MayList g image rows series place) t ts may) listed.1)
    where
      here : ℕ × Filed
      here = (place + 1, f)

      one : AddUp (t ∷ []) (here ∷ [])
      one = record { files = refl; samples = count; cut = cut }
        where
          same : f.entry.count ≡ t.candidate.front.count
          same = ap (λ (e : Entry). e.count) listed.0.entry

          count : sum_by (λ (x : ℕ × Filed). x.1.entry.count) (here ∷ []) ≡ samples_in (t ∷ [])
          count = omega (arith, same, sum_by-cons (λ (x : ℕ × Filed). x.1.entry.count) here [], sum_by-cons (λ (t : TakenFile). t.candidate.front.count) t [])

          cut : length (filter (goes_on image rows) (here ∷ [])) ≡ cut_in (t ∷ [])
          cut = ap (λ (b : Bool). length (cond b (here ∷ []) [])) (one_cut g series place t f (All-head (MayList g image rows series place) t ts may) listed.0) ∙ go t.candidate.cut
            where
              go : (b : Bool) → length (cond b (here ∷ []) []) ≡ length (cond b (t ∷ []) [])
              go true = refl
              go false = refl

  -- TURN AFTER TURN

  takes_one : (held : Stores) (series place : ℕ) (xs : List Unlisted) (a b : List TakenFile) → Takes held rows series place xs a → Takes held rows series place xs b → a ≡ b
  takes_one held series place [] [] [] one two = refl
  takes_one held series place [] (x ∷ xs) b one two = elim one [ ]
  takes_one held series place [] [] (x ∷ xs) one two = elim two [ ]
  takes_one held series place (x ∷ xs) (t ∷ ts) (u ∷ us) (rule.takes {c = k} is one) (rule.takes {c = h} of two) =
      ap (λ (k : Candidate). record { file = x.file; candidate = k } ∷ ts) (same_Some k h (sym is.found ∙ of.found)) ∙ ap (λ (l : List TakenFile). record { file = x.file; candidate = h } ∷ l) (takes_one held series place xs ts us one two)
  takes_one held series place (x ∷ xs) (t ∷ ts) b (rule.takes {c = k} is one) (rule.other none two) = absurd (none k is)
  takes_one held series place (x ∷ xs) a (u ∷ us) (rule.other none one) (rule.takes {c = h} of two) = absurd (none h of)
  takes_one held series place (x ∷ xs) a b (rule.other none one) (rule.other off two) = takes_one held series place xs a b one two

  -- these turns, from one on
  abbrev pub AreFrom : Stores → List Unlisted → ℕ → List (List TakenFile) → Type 0
  AreFrom held xs turn [] = Unit {0}
  AreFrom held xs turn (taken ∷ rest) = (g : Granularity) × Takes held rows (row_of turn) (place_of turn) xs taken × All (MayList g image rows (row_of turn) (place_of turn)) taken × AreFrom held xs (suc turn) rest

  turns_add : (held : Stores) (xs : List Unlisted) (turn left : ℕ) (turns : List (List TakenFile)) (steps : List Step) → length turns ≡ left → AreFrom held xs turn turns → TakesTurns image held rows xs true turn left steps → AddUp (all_taken turns) (listed_in steps)
  turns_add held xs turn zero [] [] is from rule.done = add_none
  turns_add held xs turn zero [] [] is from (rule.stopped cut_off) = absurd (false≢true (sym cut_off))
  turns_add held xs turn zero [] (step ∷ steps) is from all = elim all [ ]
  turns_add held xs turn zero (t ∷ ts) steps is from all = absurd (omega (arith, is))
  turns_add held xs turn (suc n) [] steps is from all = absurd (omega (arith, is))
  turns_add held xs turn (suc n) (t ∷ ts) [] is from (rule.stopped cut_off) = absurd (false≢true (sym cut_off))
  turns_add held xs turn (suc n) (t ∷ ts) steps is from (rule.nothing la rest) =
      let same = takes_one held (row_of turn) (place_of turn) xs la.taken t la.takes from.1 in
      add_both t (all_taken ts) [] (listed_in steps) (add_turn from.0 (row_of turn) (place_of turn) t [] from.2 (subst (λ (l : List TakenFile). AllZip (IsListedAs image (row_of turn)) l []) same la.listed)) (turns_add held xs (suc turn) n ts steps (omega (arith, is)) from.3 rest)
  turns_add held xs turn (suc n) (t ∷ ts) (step ∷ steps) is from (rule.lists {f = f} {files = files} la rest) =
      let same = takes_one held (row_of turn) (place_of turn) xs la.taken t la.takes from.1 in
      add_both t (all_taken ts) (map (λ (f : Filed). (place_of turn + 1, f)) (f ∷ files)) (listed_in steps) (add_turn from.0 (row_of turn) (place_of turn) t (f ∷ files) from.2 (subst (λ (l : List TakenFile). AllZip (IsListedAs image (row_of turn)) l (f ∷ files)) same la.listed))
      (turns_add held xs (suc turn) n ts steps (omega (arith, is)) from.3 rest)

-- turns that are known one by one, one after another
from_each : (image : Files) (rows : List Row) (held : Stores) (xs : List Unlisted) (k : ℕ) (turns : List (List TakenFile))
    → ((j n : ℕ) (taken : List TakenFile) → n ≡ k + j → slice_get turns j ≡ Some taken → (g : Granularity) × Takes held rows (row_of n) (place_of n) xs taken × All (MayList g image rows (row_of n) (place_of n)) taken) → AreFrom image rows held xs k turns
from_each image rows held xs k [] each = tt
from_each image rows held xs k (t ∷ ts) each = let one = each 0 k t (omega arith) refl in (one.0, one.1, one.2, from_each image rows held xs (suc k) ts (λ j n taken is here. each (suc j) n taken (omega (arith, is)) here))

pub from_turns : (image : Files) (rows : List Row) (held : Stores) (xs : List Unlisted) (gs : List Granularity) (turns : List (List TakenFile)) → length gs ≡ 3 → AreTurns held rows xs turns → AllMayList gs image rows turns → AreFrom image rows held xs 0 turns
from_turns image rows held xs gs turns three are may = from_each image rows held xs 0 turns (λ j n taken is here.
    let there = subst (λ (i : ℕ). slice_get turns i ≡ Some taken) (let h : j ≡ n = omega (arith, is) in h) here in
    let g = granularity_at gs (place_of n) (omega (arith, three)) in
    (g.0, are n taken there, may n taken there g.0 g.1))
  where
    granularity_at : (gs : List Granularity) (i : ℕ) → i < length gs → (g : Granularity) × (slice_get gs i ≡ Some g)
    granularity_at gs i low = elim (slice_get_cases gs i).1 [
      | inl found ↦ (found.0, found.2)
      | inr behind ↦ absurd (omega (arith, low, behind.0))
    ]

-- ALL STEPS

rows_list_none : {whole : Bool} (rows : List Row) (long : List (List ℕ)) (xs : List Unlisted) (steps : List Step) → GetRows whole rows long xs steps → listed_in steps ≡ []
rows_list_none rows long [] [] rule.done = refl
rows_list_none rows long xs [] (rule.stopped cut_off) = refl
rows_list_none rows long (x ∷ xs) (s ∷ steps) (rule.gets {c = c} some other free short rest) = rows_list_none (rows ++ registered rows c.name (about_of c) ∷ []) long xs steps rest
rows_list_none rows long (x ∷ xs) steps (rule.refused some e refuses rest) = rows_list_none rows long xs steps rest
rows_list_none rows long (x ∷ xs) steps (rule.too_long {c = c} some not_short rest) = rows_list_none rows (long ++ c.name ∷ []) xs steps rest
rows_list_none rows long (x ∷ xs) steps (rule.kept some within rest) = rows_list_none rows long xs steps rest
rows_list_none rows long (x ∷ xs) steps (rule.other none rest) = rows_list_none rows long xs steps rest

lists_keep : {whole : Bool} (image : Files) (held : Stores) (rows : List Row) (xs : List Unlisted) (turn left : ℕ) (steps : List Step) → TakesTurns image held rows xs whole turn left steps → (s : Stores) → (made_by steps s).rows ≡ s.rows
lists_keep image held rows xs turn zero [] rule.done s = refl
lists_keep image held rows xs turn left [] (rule.stopped cut_off) s = refl
lists_keep image held rows xs turn (suc left) steps (rule.nothing la rest) s = lists_keep image held rows xs (suc turn) left steps rest s
lists_keep image held rows xs turn (suc left) (step ∷ steps) (rule.lists {f = f} {files = files} la rest) s = lists_keep image held rows xs (suc turn) left steps rest (stepped (Lists (place_of turn) (f ∷ files)) s)

cut_low : (xs : List TakenFile) → cut_in xs ≤ length xs
cut_low [] = omega arith
cut_low (x ∷ xs) = go x.candidate.cut (cut_low xs)
  where
    go : (b : Bool) → cut_in xs ≤ length xs → length (cond b (x ∷ filter (λ (t : TakenFile). t.candidate.cut) xs) (filter (λ (t : TakenFile). t.candidate.cut) xs)) ≤ suc (length xs)
    go true low = omega (arith, low)
    go false low = omega (arith, low)

-- the numbers that are told are those of all steps
pub counts_are : (whole : Bool) (image : Files) (held : Stores) (xs : List Unlisted) (new_rows lists : List Step) (turns : List (List TakenFile)) (made : ℕ) (told : Adopted) → GetRows whole held.rows [] xs new_rows → AreFrom image (made_by new_rows held).rows held xs 0 turns
    → TakesTurns image held (made_by new_rows held).rows xs true 0 (length turns) lists → AreNumbers made (length xs) (all_taken turns) told → made + length held.rows ≡ length (made_by new_rows held).rows → length (all_taken turns) ≤ length xs → length xs < 2 ^ 64
    → Counts image held (new_rows ++ lists) xs told
counts_are whole image held xs new_rows lists turns made told rows_made from takes numbers added fewer fits =
    let rows = (made_by new_rows held).rows in
    let sums = turns_add image rows held xs 0 (length turns) turns lists refl from takes in
    let listed : listed_in (new_rows ++ lists) ≡ listed_in lists = flat_map-append listed_by new_rows lists ∙ ap (λ (l : List (ℕ × Filed)). l ++ listed_in lists) (rows_list_none held.rows [] xs new_rows rows_made) in
    let same : (made_by (new_rows ++ lists) held).rows ≡ rows = ap (λ (s : Stores). s.rows) (all_made new_rows lists held) ∙ lists_keep image held rows xs 0 (length turns) lists takes (made_by new_rows held) in
    let taken = all_taken turns in
    let many : length (listed_in (new_rows ++ lists)) ≡ length taken = ap (λ (l : List (ℕ × Filed)). length l) listed ∙ sums.files in
    let files : told.files ≡ length taken = omega (arith, numbers.files, fewer, fits) in
    record {
      files = files ∙ sym many;
      samples = numbers.samples ∙ ap capped (sym sums.samples) ∙ ap (λ (l : List (ℕ × Filed)). capped (sum_by (λ (x : ℕ × Filed). x.1.entry.count) l)) (sym listed);
      rows = omega (arith, numbers.rows, added, ap (λ (l : List Row). length l) same);
      skipped = omega (arith, numbers.skipped, files, fewer);
      cut = let cut : told.cut ≡ cut_in taken = omega (arith, numbers.cut, cut_low taken, fewer, fits) in
          cut ∙ sym sums.cut ∙ ap (λ (rs : List Row). length (filter (goes_on image rs) (listed_in lists))) (sym same) ∙ ap (λ (l : List (ℕ × Filed)). length (filter (goes_on image (made_by (new_rows ++ lists) held).rows) l)) (sym listed);
    }

-- so are those of what was found
pub counted : (image first : Files) (before rows : List Row) (ms : List ManifestState) (held : Stores) (xs : List Unlisted) (turns : List (List TakenFile)) (new_rows lists : List Step) (n made : ℕ) (told : Adopted) → SameStores image first → length ms ≡ 3 → AreUnlistedOf first before ms xs
    → AtEachTurn (λ turn taken. TakesOf ms rows turn xs taken) turns → AreTurns held rows xs turns → rows ≡ (made_by new_rows held).rows → GetRows true held.rows [] xs new_rows → n ≡ length turns → TakesTurns image held rows xs true 0 n lists → AreNumbers made (length xs) (all_taken turns) told
    → made + length held.rows ≡ length rows → length (all_taken turns) ≤ length xs → length xs < 2 ^ 64 → Counts image held (new_rows ++ lists) xs told
counted image first before rows ms held xs turns new_rows lists n made told same three found takes are of_rows rows_made count listed numbers added fewer fits =
    let may : AllMayList (granularities ms) image rows turns = λ turn taken here g at. may_later g first image rows (row_of turn) (place_of turn) taken (λ m other. sym (same m other)) (turns_may first before rows ms xs turns three found takes turn taken here g at) in
    let from : AreFrom image rows held xs 0 turns = from_turns image rows held xs (granularities ms) turns (length-map ms (λ (m : ManifestState). m.granularity) ∙ three) are may in
    let listed_all : TakesTurns image held rows xs true 0 (length turns) lists = subst (λ (k : ℕ). TakesTurns image held rows xs true 0 k lists) count listed in
    counts_are true image held xs new_rows lists turns made told rows_made (subst (λ (rs : List Row). AreFrom image rs held xs 0 turns) of_rows from) (subst (λ (rs : List Row). TakesTurns image held rs xs true 0 (length turns) lists) of_rows listed_all) numbers (added ∙ ap (λ (l : List Row). length l) of_rows) fewer fits

-- How many files a turn takes: no more than there are quarters of an hour in all years, since no two are of one partition.

-- QUARTERS OF AN HOUR

-- one of another granularity than five minutes lasts one at least
seconds_long : (g : Granularity) (at : CivilMinute) → g ≢ FiveMinutes → 900 ≤ unit_seconds g at
seconds_long FiveMinutes at coarse = absurd (coarse refl)
seconds_long FifteenMinutes at coarse = omega arith
seconds_long ThirtyMinutes at coarse = omega arith
seconds_long Hour at coarse = omega arith
seconds_long Day at coarse = omega arith
seconds_long Month at coarse = omega (arith, lasts Month at)
seconds_long Year at coarse = omega (arith, lasts Year at)

part_long : (g : Granularity) (p : Part) → g ≢ FiveMinutes → IsPart g p → p.start + 900 * 1_000_000_000 ≤ p.end
part_long g p coarse is = omega (arith, is.1.end, seconds_long g is.0 coarse)

-- in which quarter of an hour since 1970 the partition begins
abbrev quarter : Part → ℕ
quarter p = p.start / 900_000_000_000

-- no two partitions begin in one
one_quarter : (g : Granularity) (p q : Part) → g ≢ FiveMinutes → IsPart g p → IsPart g q → quarter p ≡ quarter q → p ≡ q
one_quarter g p q coarse a b same =
    let first = part_long g p coarse a in
    let second = part_long g q coarse b in
    one_part g p q (max p.start q.start) a b (omega arith, omega (arith, first, same)) (omega arith, omega (arith, second, same))

low_quarter : (g : Granularity) (p : Part) → IsPart g p → quarter p < 18_583_584
low_quarter g p is = let years = within g p is in omega (arith, years.1, years.2)

-- FILES THAT DIFFER

abbrev file_in : Unlisted → Name
file_in x = x.file

-- no two of these names are one
abbrev Differ : List Name → Type 0
Differ [] = Unit {0}
Differ (n ∷ ns) = AllByRecursion (λ (m : Name). m ≢ n) ns × Differ ns

names_total : IsTotalOrder name_cmp
names_total = then_total (on_total (λ (n : Name). n.0) nat_cmp_total) (on_total (λ (n : Name). n.1) nat_list_cmp_total)

sorted_differ : (ns : List Name) → IsStrictlySortedBy name_cmp ns → Differ ns
unfolding IsStrictlySortedBy
sorted_differ [] rise = tt
sorted_differ (n ∷ ns) rise = (apart ns rise.0, sorted_differ ns rise.1)
  where
    apart : (ms : List Name) → AllByRecursion (λ (m : Name). name_cmp n m ≡ Less) ms → AllByRecursion (λ (m : Name). m ≢ n) ms
    apart [] less = tt
    apart (m ∷ ms) less = (λ is. absurd (cc (ap (λ (k : Name). name_cmp n k) is, less.0, tied_itself names_total n)), apart ms less.1)

differ_append : (P Q : Name → Type 0) → ((m n : Name) → P n → Q m → m ≢ n) → (ms ns : List Name) → AllByRecursion P ms → AllByRecursion Q ns → Differ ms → Differ ns → Differ (ms ++ ns)
differ_append P Q apart [] ns ps qs one two = two
differ_append P Q apart (m ∷ ms) ns ps qs one two = (both ms one.0, differ_append P Q apart ms ns ps.1 qs one.1 two)
  where
    behind : (ks : List Name) → AllByRecursion Q ks → AllByRecursion (λ (k : Name). k ≢ m) ks
    behind [] all = tt
    behind (k ∷ ks) all = (apart k m ps.0 all.0, behind ks all.1)

    both : (ks : List Name) → AllByRecursion (λ (k : Name). k ≢ m) ks → AllByRecursion (λ (k : Name). k ≢ m) (ks ++ ns)
    both [] all = behind ns qs
    both (k ∷ ks) all = (all.0, both ks all.1)

-- WHAT IS FOUND

-- what holds of names holds of those that aren't listed
found_all : (P : Name → Type 0) {g : Granularity} {image : Files} {place : ℕ} (listing : Listing) (ns : List Name) (xs : List Unlisted) → Finds g image listing place ns xs → AllByRecursion P ns → AllByRecursion P (map file_in xs)
found_all P listing [] [] rule.done all = tt
found_all P listing [] (x ∷ xs) found all = elim found [ ]
found_all P listing (n ∷ ns) xs (rule.listed own rest) all = found_all P listing ns xs rest all.1
found_all P listing (n ∷ ns) (x ∷ xs) (rule.unlisted own found rest) all = (all.0, found_all P listing ns xs rest all.1)

found_differ : {g : Granularity} {image : Files} {place : ℕ} (listing : Listing) (ns : List Name) (xs : List Unlisted) → Finds g image listing place ns xs → Differ ns → Differ (map file_in xs)
found_differ listing [] [] rule.done differ = tt
found_differ listing [] (x ∷ xs) found differ = elim found [ ]
found_differ listing (n ∷ ns) xs (rule.listed own rest) differ = found_differ listing ns xs rest differ.1
found_differ listing (n ∷ ns) (x ∷ xs) (rule.unlisted own found rest) differ = (found_all (λ (m : Name). m ≢ n) listing ns xs rest differ.0, found_differ listing ns xs rest differ.1)

-- of one store
store_differs : (g : Granularity) (image : Files) (listing : Listing) (place : ℕ) (xs : List Unlisted) → AreUnlisted g image listing place xs
    → AllByRecursion (λ (n : Name). n.0 ≡ place + 1) (map file_in xs) × Differ (map file_in xs)
store_differs g image listing place xs are = (
  found_all (λ (n : Name). n.0 ≡ place + 1) listing are.names xs are.finds (stores are.names (λ k d low. (are.all.each k d low).0)),
  found_differ listing are.names xs are.finds (sorted_differ are.names are.all.rise),
)
  where
    stores : (ns : List Name) → All (λ (n : Name). n.0 ≡ place + 1) ns → AllByRecursion (λ (n : Name). n.0 ≡ place + 1) ns
    stores ns all = recursion_from_All (λ (n : Name). n.0 ≡ place + 1) ns all

abbrev In : ℕ → Name → Type 0
In store n = n.0 ≡ store

-- of all three
all_differ : (image : Files) (rows : List Row) (ms : List ManifestState) (xs : List Unlisted) → length ms ≡ 3 → AreUnlistedOf image rows ms xs → Differ (map file_in xs)
all_differ image rows ms xs three are =
    let long = of 2 (omega arith) in
    let medium = of 1 (omega arith) in
    let short = of 0 (omega arith) in
    let upper : Differ (map file_in (are.each 2 ++ are.each 1)) = subst Differ (sym (map-append file_in (are.each 2) (are.each 1))) (differ_append (In 3) (In 2) (apart 3 2 (λ is. absurd (omega (arith, is)))) _ _ long.0 medium.0 long.1 medium.1) in
    let stores : AllByRecursion (λ (n : Name). 2 ≤ n.0) (map file_in (are.each 2 ++ are.each 1)) =
    recursion_from_All (λ (n : Name). 2 ≤ n.0) _ (subst (All (λ (n : Name). 2 ≤ n.0)) (sym (map-append file_in (are.each 2) (are.each 1)))
    (All-append (λ (n : Name). 2 ≤ n.0) _ _ (from 3 _ (omega arith) long.0) (from 2 _ (omega arith) medium.0))) in
    subst (λ (l : List Unlisted). Differ (map file_in l)) (sym are.are)
    (subst Differ (sym (map-append file_in (are.each 2 ++ are.each 1) (are.each 0)))
    (differ_append (λ (n : Name). 2 ≤ n.0) (In 1) (λ m n high one is. let same : m.0 ≡ n.0 = ap (λ (k : Name). k.0) is in absurd (omega (arith, high, one, same))) _ _ stores short.0 upper short.1))
  where
    of : (i : ℕ) → i < 3 → AllByRecursion (λ (n : Name). n.0 ≡ i + 1) (map file_in (are.each i)) × Differ (map file_in (are.each i))
    of i low = let m = manifest_at ms i (omega (arith, low, three)) in store_differs m.0.granularity image ((i + 1, rows), m.0.entries) i (are.each i) (are.are_each i m.0 m.1)

    apart : (s t : ℕ) → s ≢ t → (m n : Name) → n.0 ≡ s → m.0 ≡ t → m ≢ n
    apart s t differ m n a b is = differ (sym a ∙ sym (ap (λ (k : Name). k.0) is) ∙ b)

    from : (s : ℕ) (ns : List Name) → 2 ≤ s → AllByRecursion (λ (n : Name). n.0 ≡ s) ns → All (λ (n : Name). 2 ≤ n.0) ns
    from s ns high all = All-weaker (λ (n : Name). n.0 ≡ s) (λ (n : Name). 2 ≤ n.0) (λ n is. omega (arith, is, high)) ns (All-from_recursion (λ (n : Name). n.0 ≡ s) ns all)

-- WHAT IS TAKEN

-- no two of these files are one
abbrev AreApart : List TakenFile → Type 0
AreApart [] = Unit {0}
AreApart (y ∷ ys) = AllByRecursion (λ (z : TakenFile). z.file ≢ y.file) ys × AreApart ys

module _ (ms : List ManifestState) (rows : List Row) (turn : ℕ) where
  taken_all : (P : Name → Type 0) (xs : List Unlisted) (ys : List TakenFile) → TakesOf ms rows turn xs ys → AllByRecursion P (map file_in xs) → AllByRecursion (λ (z : TakenFile). P z.file) ys
  taken_all P [] [] done all = tt
  taken_all P [] (y ∷ ys) of all = elim of [ ]
  taken_all P (x ∷ xs) (y ∷ ys) (takes_turn some of rest) all = (all.0, taken_all P xs ys rest all.1)
  taken_all P (x ∷ xs) ys (other_turn none rest) all = taken_all P xs ys rest all.1

  taken_apart : (xs : List Unlisted) (ys : List TakenFile) → TakesOf ms rows turn xs ys → Differ (map file_in xs) → AreApart ys
  taken_apart [] [] done differ = tt
  taken_apart [] (y ∷ ys) of differ = elim of [ ]
  taken_apart (x ∷ xs) (y ∷ ys) (takes_turn some of rest) differ = (taken_all (λ (n : Name). n ≢ x.file) xs ys rest differ.0, taken_apart xs ys rest differ.1)
  taken_apart (x ∷ xs) ys (other_turn none rest) differ = taken_apart xs ys rest differ.1

-- THEIR PARTITIONS

abbrev begins_in : TakenFile → ℕ
begins_in y = quarter y.candidate.part

module _ (g : Granularity) (image : Files) (rows : List Row) (series place : ℕ) (coarse : g ≢ FiveMinutes) where
  abbrev May : TakenFile → Type 0
  May y = MayList g image rows series place y

  -- of one partition a row has one file
  one_file : (y z : TakenFile) → May y → May z → begins_in y ≡ begins_in z → z.file ≡ y.file
  one_file y z a b same =
      let part : z.candidate.part ≡ y.candidate.part = one_quarter g z.candidate.part y.candidate.part coarse b.is.unit a.is.unit (sym same) in
      let row : b.row ≡ a.row = same_Some b.row a.row (sym b.stands ∙ a.stands) in
      let name : z.candidate.name ≡ y.candidate.name = b.name ∙ ap (λ (r : Row). r.name) row ∙ sym a.name in
      let path : z.file.1 ≡ y.file.1 = sym b.is.named.path ∙ (λ i. path_of (name i) (part i).name) ∙ a.is.named.path in
      let store : z.file.0 ≡ y.file.0 = b.store ∙ sym a.store in
      λ i. (store i, path i)

  differs : (y z : TakenFile) → May y → May z → z.file ≢ y.file → eqb (begins_in y) (begins_in z) ≡ false
  differs y z a b apart = go (eqb (begins_in y) (begins_in z)) refl
    where
      go : (t : Bool) → eqb (begins_in y) (begins_in z) ≡ t → t ≡ false
      go true is = absurd (apart (one_file y z a b ((Decides-eqb (begins_in y) (begins_in z)).0 is)))
      go false is = refl

  distinct : (ys : List TakenFile) → All May ys → AreApart ys → IsDistinct eqb (map begins_in ys)
  unfolding IsDistinct
  distinct [] may apart = tt
  distinct (y ∷ ys) may apart = (behind ys (All-tail May y ys may) apart.0, distinct ys (All-tail May y ys may) apart.1)
    where
      behind : (zs : List TakenFile) → All May zs → AllByRecursion (λ (z : TakenFile). z.file ≢ y.file) zs → AllByRecursion (λ (q : ℕ). eqb (begins_in y) q ≡ false) (map begins_in zs)
      behind [] all others = tt
      behind (z ∷ zs) all others = (differs y z (All-head May y ys may) (All-head May z zs all) others.0, behind zs (All-tail May z zs all) others.1)

  low_each : (ys : List TakenFile) → All May ys → (q : ℕ) → list_any (eqb q) (map begins_in ys) ≡ true → q < 18_583_584
  low_each [] may q is = absurd (cc (is))
  low_each (y ∷ ys) may q is = go (eqb q (begins_in y)) refl (low_each ys (All-tail May y ys may) q) is
    where
      go : (t : Bool) → eqb q (begins_in y) ≡ t → (list_any (eqb q) (map begins_in ys) ≡ true → q < 18_583_584) → (t || list_any (eqb q) (map begins_in ys)) ≡ true → q < 18_583_584
      go true same behind any =
          let here : q ≡ begins_in y = (Decides-eqb q (begins_in y)).0 same in
          let low = low_quarter g y.candidate.part (All-head May y ys may).is.unit in
          omega (arith, here, low)
      go false differ behind any = behind any

  few : (ys : List TakenFile) → All May ys → AreApart ys → length ys ≤ 18_600_000
  few ys may apart =
      let most = length-le_from_distinct_below (map begins_in ys) 18_583_584 (distinct ys may apart) (low_each ys may) in
      omega (arith, most, length-map ys begins_in)

pub turns_few : (image : Files) (before rows : List Row) (ms : List ManifestState) (xs : List Unlisted) (turns : List (List TakenFile)) → length ms ≡ 3 → AreCoarse (granularities ms) → AreUnlistedOf image before ms xs
    → AtEachTurn (λ turn taken. TakesOf ms rows turn xs taken) turns → AreFew turns
turns_few image before rows ms xs turns three coarse are all turn taken here =
    let m = manifest_at ms (place_of turn) (omega (arith, three)) in
    let at = granularity_at ms (place_of turn) m.0 m.1 in
    few m.0.granularity image rows (row_of turn) (place_of turn) (coarse (place_of turn) m.0.granularity at) taken (turns_may image before rows ms xs turns three are all turn taken here m.0.granularity at)
    (taken_apart ms rows turn xs taken (all turn taken here) (all_differ image before ms xs three are))

-- SETTINGS

-- where no store has partitions of five minutes, no manifest has
pub settings_coarse : (config : ConfigState) (ms : List ManifestState) → granularities ms ≡ stores_of config → NoneFiner config → AreCoarse (granularities ms)
settings_coarse config ms same none = subst AreCoarse (sym same) each
  where
    each : AreCoarse (stores_of config)
    each zero g here is = none 0 (same_Some _ g here ∙ is)
    each (suc zero) g here is = none 1 (same_Some _ g here ∙ is)
    each (suc (suc zero)) g here is = none 2 (same_Some _ g here ∙ is)
    each (suc (suc (suc i))) g here is = absurd (cc (here))
