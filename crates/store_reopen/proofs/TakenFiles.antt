-- Files that a row takes of a store: that they are its own and safe, and that what is held of each row is only extended.
use Rattle.std.proofs.Common.{◌≡◌, ℕ, ◌≤◌, ◌<◌, List, [], ◌∷◌, refl, ap, arith, Bool, zero, suc, ◌++◌, sym, ◌∙◌, ◌+◌, length, subst, true, false, append-nil, get_or, Some, ◌≢◌, inl, inr, take, Option, None, Result, Ok, Err, add-one, cond, ◌-◌, ◌*◌, leb, Decides, map, drop, append_assoc, drop-cons}
use Rattle.pv_catalog.specs.declared.row.Row.{Row}
use Rattle.std.specs.Prelude.{All, nat_eq, IfSome, OnErr, OnOk, slice_get, ◌↔◌, Contains, IsTrue, is_some, ◌==◌}
use Rattle.std.proofs.lemmas.Bool.Decides.{nat_tests, Decides-eqb}
use Rattle.durable_write.specs.Flush.{put_all}
use Rattle.durable_write.specs.Held.{Filed, samples_of, AreFiled, IsFiled, IsIn, IsListed, Shelf, bytes_of, entry_of, file_of, name_of, Listing}
use Rattle.tier_store.specs.Stores.{Stores, list_at, samples_in, with_list}
use Rattle.disk_model.specs.Files.{Files, Name, HasFile}
use Rattle.partition_names.specs.declared.granularity.Granularity.{Granularity}
use Rattle.store_reopen.specs.Steps.{Step, Lists, NewRow, MakesSteps, made_by, stage, stepped}
use Rattle.store_reopen.specs.declared.finding.Unlisted.{Unlisted}
use Rattle.found_files.specs.declared.finding.Candidate.{Candidate}
use Rattle.store_manifest.specs.Manifest.{ManifestState}
use Rattle.std.specs.List.{AllByRecursion, flat_map, AllZip, IsAnyAnswer}
use Rattle.std.proofs.lemmas.List.Elements.{All-head, All-tail, All-from_recursion, Decides-contains, contains_decides, All-cons, All-map, All-more, All-nil, All-weaker}
use Rattle.series_model.specs.Series.{end_of, over, since}
use Rattle.series_model.specs.declared.sample.Sample.{Sample}
use Rattle.store_manifest.specs.declared.entry.Entry.{Entry}
use Rattle.store_reopen.specs.Adoption.{GetRows, IsListedAs, done as done_step, gets, stopped, IsAdoption, ListsAll, ListsNone, Takes, TakesTurns, kept, lists, nothing as nothing_step, other as other_step, place_of, refused, row_of, takes, too_long, IsFree, IsShort, about_of, headers_len, entry_as, AreUnlisted, Finds, listed as listed_step, unlisted, IsFoundAs, IsUnlisted}
use Rattle.store_reopen.specs.declared.finding.TakenFile.{TakenFile}
use Rattle.disk_model.specs.declared.disk.DiskErr.{DiskErr}
use Rattle.disk_model.specs.declared.disk.DiskErr.TheVariants.{Fault, Memory}
use Rattle.disk_model.specs.declared.disk.Disk.{Ghosts}
use Rattle.pv_catalog.specs.Catalogue.{CatalogueState, IsRefusal, Refuses, registered}
use Rattle.tier_store.specs.Change.{Changes, registering, CanList, Has}
use Rattle.store_reopen.specs.Reopen.{loaded}
use Rattle.store_reopen.proofs.Stages.{step_done, step_failed, step_spent, steps_cut, steps_none, steps_stopped, is_row, is_list, steps_then}
use Rattle.partition_names.specs.Part.{IsPart, HoldsMoment}
use Rattle.std.proofs.lemmas.Bool.{cases_eq}
use Rattle.durable_write.specs.Plan.{of_row}
use Rattle.durable_write.proofs.Places.{put_all_other, all_put_all}
use Rattle.series_model.specs.Archive.{IsPrefix}
use Rattle.durable_write.proofs.Staying.{same_cases}
use Rattle.tier_store.proofs.Places.{list_other, list_set}
use Rattle.std.proofs.lemmas.List.{take_all, length-append, length-take-le, drop_all}
use Rattle.std.specs.Cmp.Lexicographic.{pointwise}
use Rattle.std.specs.Int.{w32, to_le_bytes}
use Rattle.std.proofs.lemmas.Slice.Eq.{slice_eq-Decides}
use Rattle.pb_messages.specs.declared.about.About.{About}
use Rattle.pv_catalog.specs.Format.{entry, header, string}
use Rattle.pv_catalog.specs.Writing.{members_of}
use Rattle.pv_catalog.specs.declared.entry.BatchEntry.TheVariants.{Added}
use Rattle.pv_catalog.specs.declared.error.RegisterErr.{RegisterErr}
use Rattle.store_manifest.proofs.Bytes.{length_32, length_64}
use Rattle.durable_write.specs.Ends.{Done, end_of_register, end_of_disk}
use Rattle.store_reopen.specs.Runs.{Goes, Rule, Stops}
use Rattle.pv_catalog.specs.declared.error.RegisterErr.TheVariants as of_register
use Rattle.disk_model.specs.Past.{Past, Only, Passes}
use Rattle.disk_model.proofs.Each.{only_same}
use Rattle.gate_journal.specs.DiskShown.{DiskShown, shown_by}
use Rattle.etl_mover.specs.Move.{set_entry}
use Rattle.etl_mover.proofs.Written.{sets_follow}
use Rattle.partition_names.specs.Path.{path_of}
use Rattle.pb_lines.specs.File.{IsFile}
use Rattle.store_files.specs.Fronts.{Begins}
use Rattle.store_manifest.specs.Entries.{AllCanFollow}
use Rattle.store_manifest.specs.declared.entry.Change.{Change}
use Rattle.durable_write.specs.Stored.{AreSafe}
use Rattle.durable_write.proofs.Planning.{end_of_more}
use Rattle.tier_store.specs.Moving.{of_files, publishing}
use Rattle.store_reopen.specs.Listing.{AreUnopened, ListsTaken, MayList, commit_of, entries_as}
use Rattle.store_reopen.specs.Verdict.{HasRow}
use Rattle.store_reopen.proofs.Swept.{can_add}
use Rattle.std.proofs.lemmas.Option.{same_Some, slice_get_within}
use Rattle.found_files.specs.Candidate.{IsCandidate, IsShapedOf}
use Rattle.store_reopen.specs.Finding.{AreUnlistedOf, IsOfPlace}

-- Lists that are only extended: a row takes files of a store where it lists none there and in the stores before it.

-- of a row that lists no file nothing is held
none_of_row : (row : ℕ) (files : List Filed) → All (λ (f : Filed). f.entry.series ≢ row) files → samples_of row files ≡ []
none_of_row row [] none = refl
none_of_row row (f ∷ fs) none = go (nat_eq f.entry.series row) refl (none_of_row row fs (All-tail (λ (h : Filed). h.entry.series ≢ row) f fs none))
  where
    go : (b : Bool) → nat_eq f.entry.series row ≡ b → samples_of row fs ≡ [] → flat_map (λ (h : Filed). h.samples) (cond b (f ∷ of_row row fs) (of_row row fs)) ≡ []
    go true is rest = let same : f.entry.series ≡ row = grind (arith, nat_tests) in absurd (All-head (λ (h : Filed). h.entry.series ≢ row) f fs none same)
    go false is rest = rest

-- another row has what it had
other_row : (row series : ℕ) (xs files : List Filed) → row ≢ series → AllByRecursion (λ (f : Filed). f.entry.series ≡ series) files → samples_of row (put_all xs files) ≡ samples_of row xs
other_row row series xs files apart own = ap (flat_map (λ (h : Filed). h.samples)) (put_all_other row xs files (all_other files own))
  where
    all_other : (fs : List Filed) → AllByRecursion (λ (f : Filed). f.entry.series ≡ series) fs → AllByRecursion (λ (f : Filed). row ≢ f.entry.series) fs
    all_other [] all = tt
    all_other (f ∷ fs) all = (λ is. apart (is ∙ all.0), all_other fs all.1)

abbrev IsFront : List Sample → List Sample → Type 0
IsFront front whole = (more : List Sample) × (whole ≡ front ++ more)

same_begins : (a b : List Sample) → b ≡ a → IsFront a b
same_begins a b is = ([], is ∙ sym (append-nil a))

over_none : (a : List Sample) → over a [] ≡ a
over_none a = append-nil a

-- what the three lists hold of a row, where the last ones of a chain hold nothing
to_short : (l m s s₂ : List Sample) → s ≡ [] → IsFront (over (over l m) s) (over (over l m) s₂)
to_short l m s s₂ none = (since (end_of (over l m)) s₂, ap (λ (x : List Sample). x ++ since (end_of (over l m)) s₂) (sym (ap (over (over l m)) none ∙ over_none (over l m))))

to_medium : (l m m₂ s : List Sample) → m ≡ [] → s ≡ [] → IsFront (over (over l m) s) (over (over l m₂) s)
to_medium l m m₂ s none nothing =
    let was : over (over l m) s ≡ l = ap (over (over l m)) nothing ∙ over_none (over l m) ∙ ap (over l) none ∙ over_none l in
    let now : over (over l m₂) s ≡ over l m₂ = ap (over (over l m₂)) nothing ∙ over_none (over l m₂) in
    (since (end_of l) m₂, now ∙ ap (λ (x : List Sample). x ++ since (end_of l) m₂) (sym was))

to_long : (l l₂ m s : List Sample) → l ≡ [] → m ≡ [] → s ≡ [] → IsFront (over (over l m) s) (over (over l₂ m) s)
to_long l l₂ m s none nothing nil =
    let was : over (over l m) s ≡ [] = ap (over (over l m)) nil ∙ over_none (over l m) ∙ ap (over l) nothing ∙ over_none l ∙ none in
    (over (over l₂ m) s, ap (λ (x : List Sample). x ++ over (over l₂ m) s) (sym was))

-- what is held of each row is extended
pub lists_extend : (i series : ℕ) (s : Stores) (files : List Filed) → i < 3 → ((k : ℕ) → k ≤ i → All (λ (f : Filed). f.entry.series ≢ series) (list_at k s)) → AllByRecursion (λ (f : Filed). f.entry.series ≡ series) files
    → (row : ℕ) → (more : List Sample) × (samples_in row (with_list i (put_all (list_at i s) files) s) ≡ samples_in row s ++ more)
lists_extend i series s files low none own row = elim (cases_eq row series) [
  | inl is ↦ by_row i low (λ k le. none_at k (none k le) is)
  | inr apart ↦ other i low apart
]
  where
    none_at : (k : ℕ) → All (λ (f : Filed). f.entry.series ≢ series) (list_at k s) → row ≡ series → samples_of row (list_at k s) ≡ []
    none_at k all is = ap (λ (r : ℕ). samples_of r (list_at k s)) is ∙ none_of_row series (list_at k s) all

    by_row : (i : ℕ) → i < 3 → ((k : ℕ) → k ≤ i → samples_of row (list_at k s) ≡ []) → IsFront (samples_in row s) (samples_in row (with_list i (put_all (list_at i s) files) s))
    by_row zero low nil = to_short (samples_of row s.long) (samples_of row s.medium) (samples_of row s.short) (samples_of row (put_all s.short files)) (nil 0 (omega arith))
    by_row (suc zero) low nil = to_medium (samples_of row s.long) (samples_of row s.medium) (samples_of row (put_all s.medium files)) (samples_of row s.short) (nil 1 (omega arith)) (nil 0 (omega arith))
    by_row (suc (suc zero)) low nil = to_long (samples_of row s.long) (samples_of row (put_all s.long files)) (samples_of row s.medium) (samples_of row s.short) (nil 2 (omega arith)) (nil 1 (omega arith)) (nil 0 (omega arith))
    by_row (suc (suc (suc i))) low nil = absurd (omega (arith, low))

    other : (i : ℕ) → i < 3 → row ≢ series → IsFront (samples_in row s) (samples_in row (with_list i (put_all (list_at i s) files) s))
    other zero low apart = same_begins (samples_in row s) _ (ap (λ (x : List Sample). over (over (samples_of row s.long) (samples_of row s.medium)) x) (other_row row series s.short files apart own))
    other (suc zero) low apart = same_begins (samples_in row s) _ (ap (λ (x : List Sample). over (over (samples_of row s.long) x) (samples_of row s.short)) (other_row row series s.medium files apart own))
    other (suc (suc zero)) low apart = same_begins (samples_in row s) _ (ap (λ (x : List Sample). over (over x (samples_of row s.medium)) (samples_of row s.short)) (other_row row series s.long files apart own))
    other (suc (suc (suc i))) low apart = absurd (omega (arith, low))

-- What is held of each row is extended by each step of an adoption.

-- STEPS THAT EXTEND

-- a row takes files where it lists none, there and in the stores before
abbrev Extends : Step → Stores → Type 0
Extends (NewRow name about) s = Unit {0}
Extends (Lists i files) s = (series : ℕ) × (i < 3) × ListsNone i series s × AllByRecursion (λ (f : Filed). f.entry.series ≡ series) files

-- each does at its turn
abbrev AllExtend : List Step → Stores → Type 0
AllExtend [] s = Unit {0}
AllExtend (x ∷ xs) s = Extends x s × AllExtend xs (stepped x s)

step_extends : (x : Step) (s : Stores) → Extends x s → (row : ℕ) → IsPrefix (samples_in row s) (samples_in row (stepped x s))
step_extends (NewRow name about) s extends row = ([], sym (append-nil (samples_in row s)))
step_extends (Lists i files) s extends row = lists_extend i extends.0 s files extends.1 extends.2 extends.3 row

stages_extend : (steps : List Step) (s : Stores) → AllExtend steps s → (k row : ℕ) → IsPrefix (samples_in row (stage steps s k)) (samples_in row (stage steps s (suc k)))
stages_extend [] s all zero row = ([], sym (append-nil (samples_in row s)))
stages_extend [] s all (suc k) row = ([], sym (append-nil (samples_in row s)))
stages_extend (x ∷ xs) s all zero row = step_extends x s all.0 row
stages_extend (x ∷ xs) s all (suc k) row = stages_extend xs (stepped x s) all.1 k row

both_extend : (xs ys : List Step) (s : Stores) → AllExtend xs s → AllExtend ys (made_by xs s) → AllExtend (xs ++ ys) s
both_extend [] ys s one two = two
both_extend (x ∷ xs) ys s one two = (one.0, both_extend xs ys (stepped x s) one.1 two)

-- ROWS

-- rows more leave what is listed
record AreRows (steps : List Step) (s : Stores) : Type 0 where
  extend : AllExtend steps s
  same : (i : ℕ) → list_at i (made_by steps s) ≡ list_at i s

rows_extend : {whole : Bool} {rows : List Row} {long : List (List ℕ)} {xs : List Unlisted} {steps : List Step} → GetRows whole rows long xs steps → (s : Stores) → AreRows steps s
rows_extend done_step s = record { extend = tt; same = λ i. refl }
rows_extend (stopped is) s = record { extend = tt; same = λ i. refl }
rows_extend (gets {steps = steps} found first free short rest) s = let more = rows_extend rest (stepped (NewRow _ _) s) in record { extend = (tt, more.extend); same = λ i. more.same i }
rows_extend (refused found e refuses rest) s = rows_extend rest s
rows_extend (too_long found long rest) s = rows_extend rest s
rows_extend (kept found kept_so rest) s = rows_extend rest s
rows_extend (other_step none rest) s = rows_extend rest s

-- TURNS

abbrev none_of_series : ℕ → Filed → Type 0
none_of_series series f = f.entry.series ≢ series

of_series : (image : Files) (series : ℕ) (xs : List TakenFile) (files : List Filed) → AllZip (IsListedAs image series) xs files → AllByRecursion (λ (f : Filed). f.entry.series ≡ series) files
of_series image series [] [] all = tt
of_series image series [] (f ∷ fs) all = absurd all
of_series image series (x ∷ xs) [] all = absurd all
of_series image series (x ∷ xs) (f ∷ fs) all = (ap (λ (e : Entry). e.series) all.0.entry, of_series image series xs fs all.1)

taken_none : {held : Stores} {rows : List Row} {series place : ℕ} {xs : List Unlisted} {y : TakenFile} {ys : List TakenFile} → Takes held rows series place xs (y ∷ ys) → ListsNone place series held
taken_none (takes is rest) = is.none
taken_none (other_step not rest) = taken_none rest

module _ (image : Files) (held : Stores) (rows : List Row) (xs : List Unlisted) where
  -- What a row listed nowhere at a place and before it, it lists nowhere there as long as its turn hasn't come.
  abbrev Waits : ℕ → Stores → Type 0
  Waits turn s = (i series : ℕ) → i < 3 → turn ≤ 3 * series + (2 - i) → ListsNone i series held → ListsNone i series s

  waits_next : (turn : ℕ) (s : Stores) → Waits turn s → Waits (suc turn) s
  waits_next turn s waits i series low later none = waits i series low (omega (arith, later)) none

  listed_none : (turn : ℕ) (f : Filed) (files : List Filed) → ListsAll image held rows xs (row_of turn) (place_of turn) (f ∷ files) → ListsNone (place_of turn) (row_of turn) held
  listed_none turn f files all = go all.taken all.takes all.listed
    where
      go : (ys : List TakenFile) → Takes held rows (row_of turn) (place_of turn) xs ys → AllZip (IsListedAs image (row_of turn)) ys (f ∷ files) → ListsNone (place_of turn) (row_of turn) held
      go [] some listed = absurd listed
      go (y ∷ ys) some listed = taken_none some

  listed_waits : (turn : ℕ) (files : List Filed) (s : Stores) → AllByRecursion (λ (f : Filed). f.entry.series ≡ row_of turn) files → Waits turn s → Waits (suc turn) (with_list (place_of turn) (put_all (list_at (place_of turn) s) files) s)
  listed_waits turn files s own waits i series low later none k le =
      elim (same_cases k (place_of turn)) [
        | inl here ↦
            let was : All (none_of_series series) (list_at (place_of turn) s) = subst (λ (p : ℕ). All (none_of_series series) (list_at p s)) here (still k le) in
            let others : All (none_of_series series) files = All-from_recursion (none_of_series series) files (apart files own (λ is. absurd (omega (arith, later, le, here, is, low)))) in
            subst (λ (fs : List Filed). All (none_of_series series) fs) (sym (ap (λ (p : ℕ). list_at p (with_list (place_of turn) (put_all (list_at (place_of turn) s) files) s)) here ∙ list_set (place_of turn) (put_all (list_at (place_of turn) s) files) s within))
            (all_put_all (none_of_series series) (list_at (place_of turn) s) files was others)
        | inr away ↦ subst (λ (fs : List Filed). All (none_of_series series) fs) (sym (list_other (place_of turn) k (put_all (list_at (place_of turn) s) files) s within (omega (arith, le, low)) away)) (still k le)
      ]
    where
      within : place_of turn < 3
      within = omega arith

      still : (k : ℕ) → k ≤ i → All (none_of_series series) (list_at k s)
      still = waits i series low (omega (arith, later)) none

      apart : (fs : List Filed) → AllByRecursion (λ (f : Filed). f.entry.series ≡ row_of turn) fs → (row_of turn ≡ series → ⊥) → AllByRecursion (none_of_series series) fs
      apart [] all differ = tt
      apart (f ∷ fs) all differ = (λ is. differ (sym all.0 ∙ is), apart fs all.1 differ)

  turns_extend : {whole : Bool} (turn left : ℕ) (steps : List Step) → TakesTurns image held rows xs whole turn left steps → (s : Stores) → Waits turn s → AllExtend steps s
  turns_extend turn left steps done_step s waits = tt
  turns_extend turn left steps (stopped is) s waits = tt
  turns_extend turn left steps (nothing_step {steps = more} all rest) s waits = turns_extend (suc turn) _ more rest s (waits_next turn s waits)
  turns_extend turn left steps (lists {f = f} {files = files} {steps = more} all rest) s waits =
      let own = of_series image (row_of turn) all.taken (f ∷ files) all.listed in (
        (row_of turn, omega arith, waits (place_of turn) (row_of turn) (omega arith) (omega arith) (listed_none turn f files all), own),
        turns_extend (suc turn) _ more rest (with_list (place_of turn) (put_all (list_at (place_of turn) s) (f ∷ files)) s) (listed_waits turn (f ∷ files) s own waits),
      )

-- THE RULE

-- an adoption extends what is held of each row, step by step
pub adoption_extends : (whole : Bool) (gs : List Granularity) (image : Files) (held : Stores) (steps : List Step) → IsAdoption whole gs image held steps → (k row : ℕ) → IsPrefix (samples_in row (stage steps held k)) (samples_in row (stage steps held (suc k)))
adoption_extends whole gs image held steps is = subst (λ (xs : List Step). (k row : ℕ) → IsPrefix (samples_in row (stage xs held k)) (samples_in row (stage xs held (suc k)))) (sym is.are) (stages_extend (is.new_rows ++ is.lists) held (both_extend is.new_rows is.lists held of_rows.extend lists_too))
  where
    of_rows : AreRows is.new_rows held
    of_rows = rows_extend is.gets held

    lists_too : AllExtend is.lists (made_by is.new_rows held)
    lists_too =
        turns_extend image held (made_by is.new_rows held).rows is.unlisted 0 (3 * length (made_by is.new_rows held).rows) is.lists is.takes (made_by is.new_rows held)
        (λ i series low later none k le. subst (λ (fs : List Filed). All (none_of_series series) fs) (sym (of_rows.same k)) (none k le))

-- The entries of rows that variables get by their files.

-- HEADERS

next_header : (hs : List (List ℕ × List ℕ)) (i : ℕ) (h : List ℕ × List ℕ) → i < length hs → h ≡ get_or hs i h → headers_len (take (suc i) hs) ≡ headers_len (take i hs) + (8 + length h.0 + length h.1)
next_header [] i h low is = absurd (omega (arith, low))
next_header (x ∷ xs) zero h low is =
    let a : length h.0 ≡ length x.0 = ap (λ (p : List ℕ × List ℕ). length p.0) is in
    let b : length h.1 ≡ length x.1 = ap (λ (p : List ℕ × List ℕ). length p.1) is in
    omega (arith, a, b)
next_header (x ∷ xs) (suc i) h low is = let more = next_header xs i h (omega (arith, low)) is in omega (arith, more)

pub headers_more : (hs : List (List ℕ × List ℕ)) (i : ℕ) (h : List ℕ × List ℕ) → i < length hs → h ≡ get_or hs i h → headers_len (take (i + 1) hs) ≡ headers_len (take i hs) + (8 + length h.0 + length h.1)
headers_more hs i h low is = rw add-one (next_header hs i h low is)

pub headers_all : (hs : List (List ℕ × List ℕ)) (i : ℕ) → length hs ≤ i → headers_len (take i hs) ≡ headers_len hs
headers_all hs i long = ap headers_len (take_all i hs long)

headers_flat : (hs : List (List ℕ × List ℕ)) → length (flat_map header hs) ≡ headers_len hs
headers_flat [] = refl
headers_flat (h ∷ hs) =
    let one = length-append (header h) (flat_map header hs) in
    let two = length-append (string h.0) (string h.1) in
    let a = length-append (to_le_bytes w32 (length h.0)) h.0 in
    let b = length-append (to_le_bytes w32 (length h.1)) h.1 in
    omega (arith, one, two, a, b, length_32 (length h.0), length_32 (length h.1), headers_flat hs)

-- THE ENTRY

-- how long the entry of a row is
pub entry_len : (rows : List Row) (c : Candidate) → length (entry (Added (members_of (registered rows c.name (about_of c))))) ≡ 28 + length c.name + headers_len c.front.info.headers
unfolding entry
entry_len rows c = simp (length-append, length_32, length_64, headers_flat) (omega arith)

pub leb_is : (a b : ℕ) → IsTrue (leb a b) ↔ (a ≤ b)
leb_is a b = (λ so. grind (arith, nat_tests), λ le. grind (arith, nat_tests))

pub short_by : (rows : List Row) (c : Candidate) (b : Bool) → IsTrue b ↔ (28 + length c.name + headers_len c.front.info.headers ≤ 1_073_741_824) → IsTrue b ↔ IsShort rows c
short_by rows c b is = (λ so. let low = is.0 so in omega (arith, low, entry_len rows c), λ short. is.1 (omega (arith, short, entry_len rows c)))

-- NAMES THAT ARE KEPT

pub among : (long : List (List ℕ)) (name : List ℕ) (b : Bool) → IsAnyAnswer (λ y t. pointwise nat_eq y name ≡ t) long b → Decides b (Contains long name)
among long name b is = Decides-contains long name b (contains_decides (pointwise nat_eq) (λ x y. slice_eq-Decides Decides-eqb x y (pointwise nat_eq x y) refl) long name b is)

pub refused_by : (rows : List Row) (name : List ℕ) (o : Option RegisterErr) → IsTrue (is_some o) → IfSome o (Refuses rows name) → (e : RegisterErr) × Refuses rows name e
refused_by rows name None some refuses = absurd (cc (some))
refused_by rows name (Some e) some refuses = (e, refuses)

pub free_by : (rows : List Row) (name : List ℕ) (o : Option RegisterErr) → is_some o ≡ false → (o ≡ None → (e : RegisterErr) → Refuses rows name e → ⊥) → (e : RegisterErr) → Refuses rows name e → ⊥
free_by rows name None none free = free refl
free_by rows name (Some e) none free = absurd (cc (none))

-- RUNS

module _ {D R : Type 0} (disk : Ghosts D R) (c : CatalogueState) (ms : List ManifestState) (d : D) where
  pub goes_none : (rule left : Rule) → ((whole : Bool) (more : List Step) → left whole more → rule whole more) → Goes disk rule left c ms d c ms d
  goes_none rule left by = record { steps = []; makes = steps_none disk.tells (loaded disk c ms d); by = by }

  pub stops_none : (rule : Rule) → rule false [] → Stops disk rule c ms d c ms d
  stops_none rule is = record { steps = []; makes = steps_stopped disk.tells [] (loaded disk c ms d) (loaded disk c ms d) (steps_none disk.tells (loaded disk c ms d)); by = is }

  -- a row more that was not made
  pub row_spared : (x : Step) → MakesSteps false disk.tells (x ∷ []) (loaded disk c ms d) (loaded disk c ms d)
  row_spared x = steps_cut disk.tells [] (x ∷ []) (loaded disk c ms d) (loaded disk c ms d) (steps_stopped disk.tells [] (loaded disk c ms d) (loaded disk c ms d) (steps_none disk.tells (loaded disk c ms d)))

  module _ (name : List ℕ) (about : About) (made : CatalogueState) (after : D) where
    pub row_made : (id : ℕ) → Changes disk.tells (registering name about) (loaded disk c ms d) (loaded disk made ms after) (Done id) → MakesSteps true disk.tells (NewRow name about ∷ []) (loaded disk c ms d) (loaded disk made ms after)
    row_made id changes = step_done disk.tells (registering name about) (NewRow name about) (loaded disk c ms d) (loaded disk made ms after) (is_row name about) id changes

    pub row_cut : (refusal : RegisterErr) (e : DiskErr) → refusal ≡ of_register.Disk e → Changes disk.tells (registering name about) (loaded disk c ms d) (loaded disk made ms after) (end_of_register (Err refusal)) → MakesSteps false disk.tells (NewRow name about ∷ []) (loaded disk c ms d) (loaded disk made ms after)
    row_cut refusal e is changes = go e (subst (λ (r : RegisterErr). Changes disk.tells (registering name about) (loaded disk c ms d) (loaded disk made ms after) (end_of_register (Err r))) is changes)
      where
        go : (e : DiskErr) → Changes disk.tells (registering name about) (loaded disk c ms d) (loaded disk made ms after) (end_of_register (Err (of_register.Disk e))) → MakesSteps false disk.tells (NewRow name about ∷ []) (loaded disk c ms d) (loaded disk made ms after)
        go Fault changes = step_failed disk.tells (registering name about) (NewRow name about) (loaded disk c ms d) (loaded disk made ms after) (is_row name about) changes
        go Memory changes = step_spent disk.tells (registering name about) (NewRow name about) (loaded disk c ms d) (loaded disk made ms after) (is_row name about) changes

-- the rows don't refuse it
pub never_refused : (rows : List Row) (name : List ℕ) (e : RegisterErr) → IsRefusal rows name e → ((d : DiskErr) → e ≡ of_register.Disk d → ⊥) → ((e : RegisterErr) → Refuses rows name e → ⊥) → ⊥
never_refused rows name (of_register.NameTaken i) is other free = free (of_register.NameTaken i) is
never_refused rows name (of_register.KeyTaken i) is other free = free (of_register.KeyTaken i) is
never_refused rows name of_register.Full is other free = free of_register.Full is
never_refused rows name (of_register.Disk d) is other free = other d refl

pub on_err : {A E : Type 0} (r : Result A E) {P : Type 0} → P → OnErr r P
on_err (Ok a) p = tt
on_err (Err e) p = p

-- a row by the first file that may give one
module _ {D R : Type 0} (disk : Ghosts D R) (c made : CatalogueState) (ms : List ManifestState) (d after : D) (long : List (List ℕ)) (x : Unlisted) (xs : List Unlisted) (k : Candidate) (some : x.candidate ≡ Some k) (other : Contains long k.name → ⊥) (free : IsFree c.rows k) (short : IsShort c.rows k) where
  pub goes_first : (r : Result (Unit {0}) DiskErr) → OnOk r (made.rows ≡ c.rows ++ registered c.rows k.name (about_of k) ∷ []) → OnOk r (MakesSteps true disk.tells (NewRow k.name (about_of k) ∷ []) (loaded disk c ms d) (loaded disk made ms after))
      → OnOk r (Goes disk (λ whole. GetRows whole c.rows long (x ∷ xs)) (λ whole. GetRows whole made.rows long xs) c ms d made ms after)
  goes_first (Err e) rows makes = tt
  goes_first (Ok a) rows makes = record {
    steps = NewRow k.name (about_of k) ∷ [];
    makes = makes;
    by = λ whole more left. gets some other free short (subst (λ (rs : List Row). GetRows whole rs long xs more) rows left);
  }

  pub stops_first : (r : Result (Unit {0}) DiskErr) → OnErr r (MakesSteps false disk.tells (NewRow k.name (about_of k) ∷ []) (loaded disk c ms d) (loaded disk made ms after)) → OnErr r (Stops disk (λ whole. GetRows whole c.rows long (x ∷ xs)) c ms d made ms after)
  stops_first (Ok a) makes = tt
  stops_first (Err e) makes = record { steps = NewRow k.name (about_of k) ∷ []; makes = makes; by = gets some other free short (stopped refl) }

-- Files that a row takes of a store are files of that row, safe on the disk once they are synced.

-- ONE FILE

-- the listed file is what the row takes: its front, one of the row's, and the same file on the disk
pub record IsFiledAs (g : Granularity) (image : Files) (rows : List Row) (series place : ℕ) (x : TakenFile) (f : Filed) : Type 0 where
  pub listed : IsListedAs image series x f
  pub filed : IsFiled g rows f
  pub named : file_of (place + 1, rows) f.entry ≡ x.file
  pub text : take x.candidate.front.len listed.bytes ≡ bytes_of f
  pub within : f.entry.len ≤ length listed.bytes

module _ (g : Granularity) (image : Files) (rows : List Row) (series place : ℕ) where
  filed_one : (x : TakenFile) → MayList g image rows series place x → (f : Filed) × IsFiledAs g image rows series place x f
  filed_one x may =
      let c : Candidate = x.candidate in
      let is = may.is in
      let good = is.front.good in
      let f : Filed = record { entry = entry_as series c; head = good.head; samples = good.samples } in
      let text : take c.front.len is.bytes ≡ bytes_of f = good.file.text in (
        f,
        record {
          listed = record { entry = refl; bytes = is.bytes; there = is.there; file = good.file };
          filed = record {
            row = may.row;
            info = c.front.info;
            first = good.span.begins.0;
            others = good.span.begins.1;
            stands = may.stands;
            part = is.unit;
            file = subst (λ (b : List ℕ). IsFile b good.head c.front.info good.samples) text good.file;
            type = may.type;
            name = sym is.named.name ∙ may.name;
            some = good.span.begins.2;
            inside = All-from_recursion (λ (s : Sample). HoldsMoment c.part s.t) good.samples good.inside;
            len = sym (length-take-le c.front.len is.bytes good.within) ∙ ap (λ (b : List ℕ). length b) text;
            head_len = good.header;
            from = good.span.begins.3;
            to = let last : c.front.last ≡ good.span.ends.1.t = good.span.ends.3 in
                let ends : end_of good.samples ≡ good.span.ends.1.t + 1 = ap end_of good.span.ends.2 ∙ end_of_more good.span.ends.0 good.span.ends.1 in
                omega (arith, last, ends);
            count = good.number;
          };
          named = named may.row c x.file may.stands may.store may.name is.named.path;
          text = text;
          within = good.within;
        },
      )
    where
      named : (row : Row) (c : Candidate) (n : Name) → slice_get rows series ≡ Some row → n.0 ≡ place + 1 → c.name ≡ row.name → path_of c.name c.part.name ≡ n.1 → file_of (place + 1, rows) (entry_as series c) ≡ n
      named row c n stands store name path =
          let row_name : name_of (slice_get rows series) ≡ row.name = ap name_of stands in
          let is : path_of (name_of (slice_get rows series)) c.part.name ≡ n.1 = ap (λ (l : List ℕ). path_of l c.part.name) (row_name ∙ sym name) ∙ path in
          λ i. (sym store i, is i)

  -- ALL OF THEM

  pub filed_all : (xs : List TakenFile) → All (MayList g image rows series place) xs → (files : List Filed) × AllZip (IsFiledAs g image rows series place) xs files
  filed_all [] may = ([], tt)
  filed_all (x ∷ xs) may =
      let one = filed_one x (All-head (MayList g image rows series place) x xs may) in
      let rest = filed_all xs (All-tail (MayList g image rows series place) x xs may) in
      (one.0 ∷ rest.0, (one.1, rest.1))

  pub listed_all : (xs : List TakenFile) (files : List Filed) → AllZip (IsFiledAs g image rows series place) xs files → AllZip (IsListedAs image series) xs files
  listed_all [] [] all = tt
  listed_all [] (f ∷ fs) all = absurd all
  listed_all (x ∷ xs) [] all = absurd all
  listed_all (x ∷ xs) (f ∷ fs) all = (all.0.listed, listed_all xs fs all.1)

  pub entries_all : (xs : List TakenFile) (files : List Filed) → AllZip (IsFiledAs g image rows series place) xs files → entries_as series xs ≡ map entry_of files
  entries_all [] [] all = refl
  entries_all [] (f ∷ fs) all = absurd all
  entries_all (x ∷ xs) [] all = absurd all
  entries_all (x ∷ xs) (f ∷ fs) all = ap (λ (e : Entry). e ∷ entries_as series xs) (sym all.0.listed.entry) ∙ ap (λ (es : List Entry). f.entry ∷ es) (entries_all xs fs all.1)

  -- what is true of each listed file that one takes is true of all
  each_of : (P : TakenFile → Type 0) (Q : Filed → Type 0) → ((x : TakenFile) (f : Filed) → P x → IsFiledAs g image rows series place x f → Q f) → (xs : List TakenFile) (files : List Filed) → All P xs → AllZip (IsFiledAs g image rows series place) xs files → All Q files
  each_of P Q step [] [] given all = All-nil Q
  each_of P Q step [] (f ∷ fs) given all = absurd all
  each_of P Q step (x ∷ xs) [] given all = absurd all
  each_of P Q step (x ∷ xs) (f ∷ fs) given all = All-cons Q f fs (step x f (All-head P x xs given) all.0) (each_of P Q step xs fs (All-tail P x xs given) all.1)

  pub are_filed : (held : Stores) (xs : List TakenFile) (files : List Filed) → held.rows ≡ rows → All (MayList g image rows series place) xs → AllZip (IsFiledAs g image rows series place) xs files → AreFiled g (of_files place held files)
  are_filed held xs files same may all =
      let filed : All (IsFiled g held.rows) files = subst (λ (rs : List Row). All (IsFiled g rs) files) (sym same) (each_of (MayList g image rows series place) (IsFiled g rows) (λ x f given is. is.filed) xs files may all) in
      record {
        numbered = omega arith;
        listed = All-weaker (IsFiled g held.rows) (IsListed g held.rows) (λ f is. record { row = is.row; stands = is.stands; part = is.part }) files filed;
        filed = λ stands. filed;
      }

  -- once they are synced, they are safe
  pub are_safe : (held : Stores) (xs : List TakenFile) (files : List Filed) (later : DiskShown) → held.rows ≡ rows → later.files ≡ image → All (λ (x : TakenFile). later.opened x.file ≡ 0) xs → All (λ (x : TakenFile). Only later.past x.file (image x.file)) xs
      → AllZip (IsFiledAs g image rows series place) xs files → AreSafe (of_files place held files) later
  are_safe held xs files later same is none only all = record {
    long = at (λ (shelf : Shelf) (f : Filed). HasFile later.files (file_of shelf f.entry) (λ b. f.entry.len ≤ length b))
        (each_of (λ (x : TakenFile). later.opened x.file ≡ 0) (λ (f : Filed). HasFile later.files (file_of (place + 1, rows) f.entry) (λ b. f.entry.len ≤ length b)) (λ x f given it. record { bytes = it.listed.bytes; file = ap later.files it.named ∙ ap (λ (i : Files). i x.file) is ∙ it.listed.there; holds = it.within }) xs files none all);
    unopened = at (λ (shelf : Shelf) (f : Filed). later.opened (file_of shelf f.entry) ≤ f.entry.len)
        (each_of (λ (x : TakenFile). later.opened x.file ≡ 0) (λ (f : Filed). later.opened (file_of (place + 1, rows) f.entry) ≤ f.entry.len) (λ x f given it. let zero_length : later.opened (file_of (place + 1, rows) f.entry) ≡ 0 = ap later.opened it.named ∙ given in omega (arith, zero_length)) xs files none all);
    left = λ left_image left stands. at (λ (shelf : Shelf) (f : Filed). IsIn shelf left_image f)
        (each_of (λ (x : TakenFile). Only later.past x.file (image x.file)) (IsIn (place + 1, rows) left_image) (λ x f given it. begins x f left_image it (ap left_image it.named ∙ given left_image left ∙ it.listed.there)) xs files only all);
  }
    where
      at : (Q : Shelf → Filed → Type 0) → All (Q (place + 1, rows)) files → All (Q (place + 1, held.rows)) files
      at Q all = subst (λ (rs : List Row). All (Q (place + 1, rs)) files) (sym same) all

      begins : (x : TakenFile) (f : Filed) (left_image : Files) (it : IsFiledAs g image rows series place x f) → left_image (file_of (place + 1, rows) f.entry) ≡ Some it.listed.bytes → IsIn (place + 1, rows) left_image f
      begins x f left_image it there =
          let len : length (bytes_of f) ≡ x.candidate.front.len = sym it.filed.len ∙ ap (λ (e : Entry). e.len) it.listed.entry in
          subst (Begins (bytes_of f)) (sym there) (ap (λ (n : ℕ). take n it.listed.bytes) len ∙ it.text)

-- one more is synced
pub one_synced : (xs : List TakenFile) (i : ℕ) (x : TakenFile) (first files : Files) (old new : Past) → i < length xs → x ≡ get_or xs i x → files ≡ first → Passes (λ a b. b ≡ a) old new → All (λ (y : TakenFile). Only old y.file (first y.file)) (take i xs) → Only new x.file (files x.file)
    → All (λ (y : TakenFile). Only new y.file (first y.file)) (take (i + 1) xs)
one_synced xs i x first files old new low is same passes before now =
    All-more (λ (y : TakenFile). Only new y.file (first y.file)) xs i x low
    (All-weaker (λ (y : TakenFile). Only old y.file (first y.file)) (λ (y : TakenFile). Only new y.file (first y.file)) (λ y only. only_same old new y.file (first y.file) passes only) (take i xs) before)
    (subst (λ (y : TakenFile). Only new y.file (first y.file)) is (subst (λ (f : Files). Only new x.file (f x.file)) same now))

-- THE CHANGES

pub sets_as : (series : ℕ) (xs : List TakenFile) → map (λ (x : TakenFile). set_entry (entry_as series x.candidate)) xs ≡ map set_entry (entries_as series xs)
sets_as series [] = refl
sets_as series (x ∷ xs) = ap (λ (cs : List Change). set_entry (entry_as series x.candidate) ∷ cs) (sets_as series xs)

pub may_follow : (g : Granularity) (series : ℕ) (xs : List TakenFile) (entries : List Entry) → All (λ (x : TakenFile). IsPart g x.candidate.part) xs → AllCanFollow g entries (map set_entry (entries_as series xs))
may_follow g series xs entries parts = sets_follow g (entries_as series xs) entries (All-map (λ (e : Entry). IsPart g e.part) (λ (x : TakenFile). entry_as series x.candidate) xs parts)

pub have_row : (rows : List Row) (series : ℕ) (xs : List TakenFile) → series < length rows → All (HasRow rows) (entries_as series xs)
have_row rows series xs low = All-map (HasRow rows) (λ (x : TakenFile). entry_as series x.candidate) xs (λ k d lt. low)

-- WHETHER THERE ARE ANY

pub none_there : (xs : List TakenFile) (b : Bool) → b ≡ (length xs == 0) → b ≡ true → length xs ≡ 0
none_there xs b is true_b = let test : nat_eq (length xs) 0 ≡ true = sym is ∙ true_b in grind (arith, nat_tests)

pub some_there : (xs : List TakenFile) (b : Bool) → b ≡ (length xs == 0) → b ≡ false → 0 < length xs
some_there [] b is false_b = let true_b : b ≡ true = is in absurd (cc (true_b, false_b))
some_there (x ∷ xs) b is false_b = omega arith

-- THE COMMIT

-- where there is a file to list
some_commit : (R : TakenFile → Filed → Type 0) (place : ℕ) (xs : List TakenFile) (files : List Filed) → 0 < length xs → AllZip R xs files → commit_of place files ≡ Lists place files ∷ []
some_commit R place [] files some all = absurd (omega (arith, some))
some_commit R place (x ∷ xs) [] some all = absurd all
some_commit R place (x ∷ xs) (f ∷ fs) some all = refl

module _ {D R : Type 0} (disk : Ghosts D R) (catalogue : CatalogueState) (place series : ℕ) (xs : List TakenFile) (ms : List ManifestState) (old : D) where
  pub lists_nothing : length xs ≡ 0 → ListsTaken disk true catalogue place series xs ms old ms old
  lists_nothing none = record { files = []; listed = by xs none; makes = steps_none disk.tells (loaded disk catalogue ms old) }
    where
      by : (ys : List TakenFile) → length ys ≡ 0 → AllZip (IsListedAs (disk.files old) series) ys []
      by [] is = tt
      by (y ∷ ys) is = absurd (omega (arith, is))

  module _ (m : ManifestState) (here : slice_get ms place ≡ Some m) (may : All (MayList m.granularity (disk.files old) catalogue.rows series place) xs) where
    abbrev pub all_filed : (files : List Filed) × AllZip (IsFiledAs m.granularity (disk.files old) catalogue.rows series place) xs files
    all_filed = filed_all m.granularity (disk.files old) catalogue.rows series place xs may

    abbrev pub files_as : List Filed
    files_as = all_filed.0

    listed_as : AllZip (IsListedAs (disk.files old) series) xs files_as
    listed_as = listed_all m.granularity (disk.files old) catalogue.rows series place xs files_as all_filed.1

    -- what stops before the commit has listed nothing
    pub stops_before : (mid : D) → MakesSteps true disk.tells [] (loaded disk catalogue ms old) (loaded disk catalogue ms mid) → ListsTaken disk false catalogue place series xs ms old ms mid
    stops_before mid read = record {
      files = files_as;
      listed = listed_as;
      makes = steps_cut disk.tells [] (commit_of place files_as) (loaded disk catalogue ms old) (loaded disk catalogue ms mid) (steps_stopped disk.tells [] (loaded disk catalogue ms old) (loaded disk catalogue ms mid) read);
    }

    module _ (mid : D) (same : disk.files mid ≡ disk.files old) (unopened : AreUnopened (disk.opened mid) xs) (only : All (λ (x : TakenFile). Only (disk.past mid) x.file (disk.files old x.file)) xs) (changes : List Change) (sets : changes ≡ map set_entry (entries_as series xs)) where
      pub can_list : (held : Stores) → Has disk.tells (loaded disk catalogue ms mid) held → CanList place disk.tells (loaded disk catalogue ms mid) changes held (put_all (list_at place held) files_as)
      can_list held has =
          let g = m.granularity in
          let image = disk.files old in
          let rows = catalogue.rows in
          let of_rows : held.rows ≡ rows = sym has.known.rows in
          let are : map set_entry (map entry_of files_as) ≡ changes = ap (λ (es : List Entry). map set_entry es) (sym (entries_all g image rows series place xs files_as all_filed.1)) ∙ sym sets in
          subst (λ (cs : List Change). CanList place disk.tells (loaded disk catalogue ms mid) cs held (put_all (list_at place held) files_as)) are
          (can_add place disk.tells (loaded disk catalogue ms mid) held files_as m here has (are_filed g image rows series place held xs files_as of_rows may all_filed.1)
          (λ told. are_safe g image rows series place held xs files_as (shown_by disk mid) of_rows same unopened only all_filed.1))

      pub takes_by : (some : 0 < length xs) (read : MakesSteps true disk.tells [] (loaded disk catalogue ms old) (loaded disk catalogue ms mid)) (after : List ManifestState) (new : D) (r : Result (Unit {0}) DiskErr)
          → Changes disk.tells (publishing place files_as) (loaded disk catalogue ms mid) (loaded disk catalogue after new) (end_of_disk r)
          → OnOk r (ListsTaken disk true catalogue place series xs ms old after new) × OnErr r (ListsTaken disk false catalogue place series xs ms old after new)
      takes_by some read after new r changed = go r changed
        where
          behind : (done : Bool) → MakesSteps done disk.tells (Lists place files_as ∷ []) (loaded disk catalogue ms mid) (loaded disk catalogue after new) → ListsTaken disk done catalogue place series xs ms old after new
          behind done makes = record {
            files = files_as;
            listed = listed_as;
            makes = subst (λ (steps : List Step). MakesSteps done disk.tells steps (loaded disk catalogue ms old) (loaded disk catalogue after new)) (sym (some_commit (IsListedAs (disk.files old) series) place xs files_as some listed_as))
                (steps_then done disk.tells [] (Lists place files_as ∷ []) (loaded disk catalogue ms old) (loaded disk catalogue ms mid) (loaded disk catalogue after new) read makes);
          }

          go : (r : Result (Unit {0}) DiskErr) → Changes disk.tells (publishing place files_as) (loaded disk catalogue ms mid) (loaded disk catalogue after new) (end_of_disk r)
              → OnOk r (ListsTaken disk true catalogue place series xs ms old after new) × OnErr r (ListsTaken disk false catalogue place series xs ms old after new)
          go (Ok a) changed = (behind true (step_done disk.tells (publishing place files_as) (Lists place files_as) (loaded disk catalogue ms mid) (loaded disk catalogue after new) (is_list place files_as) a changed), tt)
          go (Err Fault) changed = (tt, behind false (step_failed disk.tells (publishing place files_as) (Lists place files_as) (loaded disk catalogue ms mid) (loaded disk catalogue after new) (is_list place files_as) changed))
          go (Err Memory) changed = (tt, behind false (step_spent disk.tells (publishing place files_as) (Lists place files_as) (loaded disk catalogue ms mid) (loaded disk catalogue after new) (is_list place files_as) changed))

-- Files that no manifest lists, as they are found one after another.

-- what a look at the file told
pub found_as : (g : Granularity) (image : Files) (n : Name) (o : Option Candidate) → IfSome o (IsCandidate g image n) → (o ≡ None → (c : Candidate) → IsCandidate g image n c → ⊥) → IsFoundAs g image n o
found_as g image n None some none = none refl
found_as g image n (Some c) some none = some

module _ (g : Granularity) (image : Files) (listing : Listing) (place : ℕ) (names : List Name) where
  -- up to this name those that aren't listed are behind what was there
  pub record FoundSo (i : ℕ) (old new : List Unlisted) : Type 0 where
    pub more : List Unlisted
    pub are : new ≡ old ++ more
    pub rest : (ys : List Unlisted) → Finds g image listing place (drop i names) ys → Finds g image listing place names (more ++ ys)

  next_name : (i : ℕ) (n : Name) → i < length names → n ≡ get_or names i n → drop i names ≡ n ∷ drop (i + 1) names
  next_name i n low is = rw add-one (drop-cons names i n low ∙ ap (λ (x : Name). x ∷ drop (suc i) names) (sym is))

  pub found_listed : (i : ℕ) (n : Name) (old new : List Unlisted) → i < length names → n ≡ get_or names i n → (IsUnlisted listing n → ⊥) → FoundSo i old new → FoundSo (i + 1) old new
  found_listed i n old new low is other so = record {
    more = so.more;
    are = so.are;
    rest = λ ys finds. so.rest ys (subst (λ (ns : List Name). Finds g image listing place ns ys) (sym (next_name i n low is)) (listed_step other finds));
  }

  pub found_more : (i : ℕ) (n : Name) (o : Option Candidate) (old new : List Unlisted) → i < length names → n ≡ get_or names i n → IsUnlisted listing n → IsFoundAs g image n o → FoundSo i old new
      → FoundSo (i + 1) old (new ++ record { place = place; file = n; candidate = o } ∷ [])
  found_more i n o old new low is own found so =
      let x : Unlisted = record { place = place; file = n; candidate = o } in
      record {
        more = so.more ++ x ∷ [];
        are = ap (λ (l : List Unlisted). l ++ x ∷ []) so.are ∙ append_assoc old so.more (x ∷ []);
        rest = λ ys finds. subst (λ (l : List Unlisted). Finds g image listing place names l) (sym (append_assoc so.more (x ∷ []) ys)) (so.rest (x ∷ ys) (subst (λ (ns : List Name). Finds g image listing place ns (x ∷ ys)) (sym (next_name i n low is)) (unlisted own found finds)));
      }

  pub found_all : (i : ℕ) (old new : List Unlisted) → length names ≤ i → FoundSo i old new → (xs : List Unlisted) × (new ≡ old ++ xs) × Finds g image listing place names xs
  found_all i old new long so = (so.more, so.are, subst (λ (l : List Unlisted). Finds g image listing place names l) (append-nil so.more) (so.rest [] (subst (λ (ns : List Name). Finds g image listing place ns []) (sym (drop_all i names long)) done_step)))

-- its candidate's partition is one of its store's
pub of_place : (ms : List ManifestState) (place : ℕ) (m : ManifestState) (g : Granularity) (n : Name) (o : Option Candidate) → slice_get ms place ≡ Some m → g ≡ m.granularity → IfSome o (IsShapedOf g n) → IsOfPlace ms (record { place = place; file = n; candidate = o })
of_place ms place m g n None here is shape = record { manifest = m; here = here; unit = tt }
of_place ms place m g n (Some c) here is shape = record { manifest = m; here = here; unit = subst (λ (g : Granularity). IsPart g c.part) is shape.unit }

-- the three stores
abbrev pub pick : List Unlisted → List Unlisted → List Unlisted → ℕ → List Unlisted
pick short medium long zero = short
pick short medium long (suc zero) = medium
pick short medium long (suc (suc i)) = long

module _ (image : Files) (rows : List Row) (ms : List ManifestState) (three : length ms ≡ 3) (a b c : ManifestState) (here_a : slice_get ms 0 ≡ Some a) (here_b : slice_get ms 1 ≡ Some b) (here_c : slice_get ms 2 ≡ Some c) where
  pub all_unlisted : (x y z all : List Unlisted) → AreUnlisted a.granularity image ((0 + 1, rows), a.entries) 0 x → AreUnlisted b.granularity image ((1 + 1, rows), b.entries) 1 y → AreUnlisted c.granularity image ((2 + 1, rows), c.entries) 2 z → all ≡ z ++ y ++ x → AreUnlistedOf image rows ms all
  all_unlisted x y z all one two more are = record { each = pick x y z; are_each = go; are = are }
    where
      go : (i : ℕ) (m : ManifestState) → slice_get ms i ≡ Some m → AreUnlisted m.granularity image ((i + 1, rows), m.entries) i (pick x y z i)
      go zero m here = subst (λ (n : ManifestState). AreUnlisted n.granularity image ((0 + 1, rows), n.entries) 0 x) (same_Some a m (sym here_a ∙ here)) one
      go (suc zero) m here = subst (λ (n : ManifestState). AreUnlisted n.granularity image ((1 + 1, rows), n.entries) 1 y) (same_Some b m (sym here_b ∙ here)) two
      go (suc (suc zero)) m here = subst (λ (n : ManifestState). AreUnlisted n.granularity image ((2 + 1, rows), n.entries) 2 z) (same_Some c m (sym here_c ∙ here)) more
      go (suc (suc (suc i))) m here = absurd (let low = slice_get_within ms (suc (suc (suc i))) m here in omega (arith, low, three))
