-- Which files of a variable are pinned: what the memory lists is what is held, and what is chosen of it is enough for a query.
use Rattle.std.proofs.Common.{◌≡◌, Bool, true, false, ℕ, ◌+◌, ◌^◌, ◌<◌, ◌≤◌, List, [], ◌∷◌, ◌++◌, length, arith, length-append, ◌⊎◌, inl, inr, max, cond, ap, sym, ◌∙◌, subst, append_assoc, map, get_or, Option, Some, None, take, refl, append-nil, replicate, Ok, Err}
use Rattle.std.specs.Prelude.{All, nat_eq, nat_le, Contains, IsTrue, filter, nat_lt, ◌&&◌, slice_get, IsSome, IfOk, IfErr, Result}
use Rattle.std.specs.List.{AllByRecursion, flat_map}
use Rattle.std.proofs.lemmas.Bool.Decides.{nat_tests, Decides-eqb}
use Rattle.std.proofs.lemmas.List.{flat_map_more, map-append, take_more, length-replicate, length-take}
use Rattle.std.proofs.lemmas.List.Elements.{All-filter, All-head, All-tail, All-append, All-contains, All-map, Contains-append_left, Contains-append_right, Contains-get_or, filter-append, filter_passes}
use Rattle.act_model.specs.Rows.{Short, Medium, Long, Store}
use Rattle.partition_names.specs.declared.granularity.Granularity.{Granularity}
use Rattle.pv_catalog.specs.Catalogue.{CatalogueState}
use Rattle.pv_catalog.specs.Lines.{line}
use Rattle.pv_catalog.specs.declared.row.Row.{Row}
use Rattle.pv_catalog.proofs.Lines.{line_low}
use Rattle.store_manifest.specs.Manifest.{ManifestState}
use Rattle.durable_write.specs.Held.{Filed, IsFiled, bytes_of, entry_of, samples_of, file_of}
use Rattle.durable_write.specs.Plan.{of_row}
use Rattle.tier_store.specs.Change.{IsKnown, IsKnownAt, Has, IsListedIn}
use Rattle.tier_store.specs.Pinning.{files_in, files_of_line, placed, placed_at, AreEnough, Placed, entries_of, files_to, has_bytes, listed_in, listed_of, listed_of_line, piece_of, state_of, HasNoName, IsPinned, PinsOf, SaysPinned, found, is_pinned, none_has, unknown}
use Rattle.tier_store.specs.Stores.{Stores, list_at, overs, samples_in, tier, whole_in}
use Rattle.tier_store.proofs.Places.{manifest_at, row_rises, file_there, listed_file}
use Rattle.std.proofs.lemmas.Grind.{flat_map-append}
use Rattle.pb_lines.proofs.FileLines.{all-append, all_front, all_rest}
use Rattle.series_model.specs.declared.sample.Sample.{Sample}
use Rattle.series_model.specs.declared.sample.Query.{Query}
use Rattle.series_model.specs.Series.{end_from, end_of, IsRising, RisesFrom, before, over, taken, taken_from}
use Rattle.series_model.specs.Retrieval.{answer, reach}
use Rattle.series_model.proofs.RisingLists.{end_from-append, RisesFrom-lower, RisesFrom-taken_from, taken_from-rising, taken_from-append, taken_over}
use Rattle.series_model.proofs.AnswerLemmas.{answer_of_front, answer_of_rest}
use Rattle.series_model.proofs.OverLemmas.{end_from-since, over_assoc, over_rising}
use Rattle.act_model.specs.Limbo.{RowFile}
use Rattle.act_model.specs.Pin.{over_pieces}
use Rattle.std.proofs.lemmas.Bool.{cases_lt}
use Rattle.act_model.specs.Rule.{index_of}
use Rattle.pb_lines.specs.File.{lines_of}
use Rattle.pins.specs.Choosing.{IsChoice, IsChosen, StartsBehind, StartsPast, ends_before, listed}
use Rattle.pins.specs.declared.choosing.Choice.{Choice}
use Rattle.pins.specs.declared.choosing.Listed.{Listed}
use Rattle.pins.specs.declared.piece.PinnedFile.{PinnedFile}
use Rattle.store_manifest.specs.declared.entry.Entry.{Entry}
use Rattle.durable_write.proofs.Commits.{filter-map}
use Rattle.std.specs.FinMap.{FinMap, get, get-insert, insert}
use Rattle.std.specs.Ordering.{nat_cmp, eq_by_cmp}
use Rattle.std.proofs.lemmas.Cmp.{nat_cmp_total}
use Rattle.std.proofs.lemmas.Option.{same_Some, slice_get-get_or, slice_get_within}
use Rattle.act_model.specs.declared.acts.Answer.{Answer}
use Rattle.act_model.specs.declared.acts.Answer.TheVariants.{NoSuchVariable, Pinned}
use Rattle.disk_model.specs.Files.{Files, HasFile, Name}
use Rattle.disk_model.specs.declared.disk.DiskErr.{DiskErr}
use Rattle.disk_model.specs.declared.disk.DiskErr.TheVariants.{Memory}
use Rattle.pb_messages.specs.declared.about.About.{About}
use Rattle.pins.specs.Pieces.{PinOf}
use Rattle.pv_catalog.specs.Rows.{HasName}
use Rattle.store_files.specs.Fronts.{Begins}
use Rattle.durable_write.specs.Ends.{IsCut}
use Rattle.tier_store.specs.Opening.{answer_of, end_of_answer}
use Rattle.tier_store.specs.Pinned.{IsShown, PinsStand, beside}
use Rattle.tier_store.specs.declared.limbo.Retired.{Retired}
use Rattle.tier_store.specs.Seen.{Seen}
use Rattle.tier_store.specs.Telling.{SaysOf}

-- Pieces over one another, and which of them may stay closed

-- ONE AFTER ANOTHER

abbrev pub flat : List RowFile → List Sample
flat fs = flat_map (λ (f : RowFile). f.samples) fs

abbrev pub Rises : RowFile → Type 0
Rises f = IsRising f.samples

-- pieces over one another and a tail over them are what is taken of all their samples, one after another
pub over_taken : (fs : List RowFile) (a tail : List Sample) → AllByRecursion Rises fs → IsRising tail → over (over_pieces (taken a) fs) tail ≡ taken (a ++ (flat fs ++ tail))
over_taken [] a tail rise last = sym (taken_over a tail last)
over_taken (f ∷ fs) a tail rise last =
    let next : over (taken a) f.samples ≡ taken (a ++ f.samples) = sym (taken_over a f.samples rise.0) in
    let there : (a ++ f.samples) ++ (flat fs ++ tail) ≡ a ++ ((f.samples ++ flat fs) ++ tail) = append_assoc a f.samples (flat fs ++ tail) ∙ ap (λ (x : List Sample). a ++ x) (sym (append_assoc f.samples (flat fs) tail)) in
    ap (λ (x : List Sample). over (over_pieces x fs) tail) next ∙ over_taken fs (a ++ f.samples) tail rise.1 last ∙ ap taken there

-- WHERE THEY END

-- the piece rises, and ends no later than n
abbrev pub EndsBy : ℕ → RowFile → Type 0
EndsBy n f = IsRising f.samples × (end_of f.samples ≤ n)

ends_by : (fs : List RowFile) (k n : ℕ) → AllByRecursion (EndsBy n) fs → k ≤ n → end_from k (taken_from k (flat fs)) ≤ n
ends_by [] k n all low = low
ends_by (f ∷ fs) k n all low =
    let m = end_from k (taken_from k f.samples) in
    let mine : m ≡ max k (end_of f.samples) = ap (end_from k) (taken_from-rising k 0 f.samples all.0.0) ∙ end_from-since 0 k f.samples all.0.0 (omega arith) in
    let le = all.0.1 in
    let here : m ≤ n = omega (arith, mine, le, low) in
    let whole : end_from k (taken_from k (f.samples ++ flat fs)) ≡ end_from m (taken_from m (flat fs)) = ap (end_from k) (taken_from-append k f.samples (flat fs)) ∙ end_from-append k (taken_from k f.samples) (taken_from m (flat fs)) in
    subst (λ (x : ℕ). x ≤ n) (sym whole) (ends_by fs m n all.1 here)

-- WHAT MAY STAY CLOSED

takes : (n : ℕ) (s : Sample) (xs : List Sample) → n ≤ s.t → taken_from n (s ∷ xs) ≡ s ∷ taken_from (s.t + 1) xs
takes n s xs low = grind (arith, nat_tests)

cut : (closed xs : List Sample) (q : Query) (x : Sample) → end_of (taken closed) ≤ x.t → x.t < q.from → answer (taken (closed ++ x ∷ xs)) q ≡ answer (taken (x ∷ xs)) q
cut closed xs q x later early =
    let rest = taken_from (x.t + 1) xs in
    let all : taken (closed ++ x ∷ xs) ≡ taken closed ++ (x ∷ rest) = taken_from-append 0 closed (x ∷ xs) ∙ ap (λ (ys : List Sample). taken closed ++ ys) (takes (end_of (taken closed)) x xs later) in
    let own : taken (x ∷ xs) ≡ x ∷ rest = takes 0 x xs (omega arith) in
    let rises : IsRising (taken closed ++ (x ∷ rest)) = subst IsRising all (RisesFrom-taken_from 0 (closed ++ x ∷ xs)) in
    let some : before q.from (x ∷ rest) ≡ x ∷ before q.from rest = grind (arith, nat_tests) in
    ap (λ (ys : List Sample). answer ys q) all ∙ answer_of_rest (taken closed) (x ∷ rest) q x (before q.from rest) rises some ∙ ap (λ (ys : List Sample). answer ys q) (sym own)

-- the first of the pieces begins before the interval, and no earlier than all of these end
pub record Leads (q : Query) (closed files : List RowFile) : Type 0 where
  pub first : RowFile
  pub others : List RowFile
  pub are : files ≡ first ∷ others
  pub sample : Sample
  pub more : List Sample
  pub samples : first.samples ≡ sample ∷ more
  pub early : sample.t < q.from
  pub later : AllByRecursion (EndsBy sample.t) closed

-- such pieces and a tail answer as all pieces and the tail do
pub enough : (closed files : List RowFile) (tail : List Sample) (q : Query) → AllByRecursion Rises files → IsRising tail → (closed ≡ []) ⊎ Leads q closed files → answer (over (over_pieces [] files) tail) q ≡ answer (taken ((flat closed ++ flat files) ++ tail)) q
enough closed files tail q rise last (inl none) =
    let all : flat files ++ tail ≡ (flat closed ++ flat files) ++ tail = ap (λ (fs : List RowFile). (flat fs ++ flat files) ++ tail) (sym none) in
    ap (λ (x : List Sample). answer x q) (over_taken files [] tail rise last ∙ ap taken all)
enough closed files tail q rise last (inr leads) =
    let x = leads.sample in
    let xs = leads.more ++ (flat leads.others ++ tail) in
    let begin : flat files ++ tail ≡ x ∷ xs = ap (λ (fs : List RowFile). flat fs ++ tail) leads.are ∙ ap (λ (ys : List Sample). (ys ++ flat leads.others) ++ tail) leads.samples ∙ ap (λ (ys : List Sample). x ∷ ys) (append_assoc leads.more (flat leads.others) tail) in
    let whole : (flat closed ++ flat files) ++ tail ≡ flat closed ++ x ∷ xs = append_assoc (flat closed) (flat files) tail ∙ ap (λ (ys : List Sample). flat closed ++ ys) begin in
    ap (λ (ys : List Sample). answer ys q) (over_taken files [] tail rise last ∙ ap taken begin)
    ∙ sym (cut (flat closed) xs q x (ends_by closed 0 x.t leads.later (omega arith)) leads.early)
    ∙ ap (λ (ys : List Sample). answer (taken ys) q) (sym whole)

-- WHAT LIES BEHIND

-- the samples are no earlier than this
abbrev pub NoneBefore : ℕ → List Sample → Type 0
NoneBefore n xs = AllByRecursion (λ (s : Sample). n ≤ s.t) xs

pub rising_none_before : (n : ℕ) (xs : List Sample) → RisesFrom n xs → NoneBefore n xs
rising_none_before n [] rises = tt
rising_none_before n (x ∷ xs) rises = (rises.0, rising_none_before n xs (let low = rises.0 in RisesFrom-lower n (x.t + 1) xs rises.1 (omega (arith, low))))

rises_from : (n k : ℕ) (xs : List Sample) → RisesFrom k xs → NoneBefore n xs → RisesFrom n xs
rises_from n k [] rises late = tt
rises_from n k (x ∷ xs) rises late = (late.0, rises.1)

taken_none_before : (n k : ℕ) (xs : List Sample) → NoneBefore n xs → NoneBefore n (taken_from k xs)
taken_none_before n k [] late = tt
taken_none_before n k (x ∷ xs) late = by_first (nat_le k x.t) (taken_none_before n (x.t + 1) xs late.1) (taken_none_before n k xs late.1)
  where
    by_first : (b : Bool) → NoneBefore n (taken_from (x.t + 1) xs) → NoneBefore n (taken_from k xs) → NoneBefore n (cond b (x ∷ taken_from (x.t + 1) xs) (taken_from k xs))
    by_first true rest others = (late.0, rest)
    by_first false rest others = others

-- an answer doesn't look at them
without : (front rest : List Sample) (q : Query) → NoneBefore (reach q) rest → answer (taken (front ++ rest)) q ≡ answer (taken front) q
without front rest q late =
    let n = end_of (taken front) in
    ap (λ (xs : List Sample). answer xs q) (taken_from-append 0 front rest)
    ∙ answer_of_front (taken front) (taken_from n rest) q (reach q) (rises_from (reach q) n (taken_from n rest) (RisesFrom-taken_from n rest) (taken_none_before (reach q) n rest late)) (omega arith) (omega arith)

-- all samples of the piece are so late
abbrev pub LiesBehind : Query → RowFile → Type 0
LiesBehind q f = NoneBefore (reach q) f.samples

flat_behind : (q : Query) (fs : List RowFile) → AllByRecursion (LiesBehind q) fs → NoneBefore (reach q) (flat fs)
flat_behind q [] all = tt
flat_behind q (f ∷ fs) all = all-append (λ (s : Sample). reach q ≤ s.t) f.samples (flat fs) all.0 (flat_behind q fs all.1)

-- pieces without those that lie behind, as the tail does, answer as with them
pub without_behind : (files behind : List RowFile) (tail : List Sample) (q : Query) → AllByRecursion Rises (files ++ behind) → IsRising tail → AllByRecursion (LiesBehind q) behind → NoneBefore (reach q) tail
    → answer (over (over_pieces [] files) tail) q ≡ answer (over (over_pieces [] (files ++ behind)) tail) q
without_behind files behind tail q rise last late late_tail =
    let whole : flat (files ++ behind) ++ tail ≡ flat files ++ (flat behind ++ tail) = ap (λ (xs : List Sample). xs ++ tail) (flat_map-append (λ (f : RowFile). f.samples) files behind) ∙ append_assoc (flat files) (flat behind) tail in
    let few : over (over_pieces [] files) tail ≡ taken (flat files ++ tail) = over_taken files [] tail (all_front Rises files behind rise) last in
    let all : over (over_pieces [] (files ++ behind)) tail ≡ taken (flat files ++ (flat behind ++ tail)) = over_taken (files ++ behind) [] tail rise last ∙ ap taken whole in
    let more : NoneBefore (reach q) (flat behind ++ tail) = all-append (λ (s : Sample). reach q ≤ s.t) (flat behind) tail (flat_behind q behind late) late_tail in
    ap (λ (xs : List Sample). answer xs q) few
    ∙ without (flat files) tail q late_tail
    ∙ sym (without (flat files) (flat behind ++ tail) q more)
    ∙ ap (λ (xs : List Sample). answer xs q) (sym all)

-- WHAT THE MEMORY LISTS

listed_files : (store : Store) (fs : List Filed) → listed (index_of store + 1) (map entry_of fs) ≡ map listed_of (map (placed_at store) fs)
listed_files store [] = refl
listed_files store (f ∷ fs) = ap (λ (l : List Listed). listed_of (placed_at store f) ∷ l) (listed_files store fs)

-- WHAT IS CHOSEN OF IT

-- what is true of all files is so of those that are opened
pub opened_all : (P : Listed → Type 0) (from : ℕ) (to : Option ℕ) (all opened : List Listed) → IsChosen from to all opened → All P all → All P opened
opened_all P from to all opened chosen is k d lt =
    let x = get_or opened k d in
    let rest = chosen.rest in
    let within = Contains-append_left opened chosen.behind x (Contains-get_or opened k d lt) in
    All-contains P all x is (subst (λ (l : List Listed). Contains l x) (sym rest.split) (Contains-append_right rest.closed (opened ++ chosen.behind) x within))

pub all_none : {X : Type 0} (P : X → Type 0) → All P []
all_none {X} P k d lt = absurd (omega (arith, lt))

-- P is true of what each store lists of the row
abbrev pub EachListed : (Listed → Type 0) → List ManifestState → ℕ → Type 0
EachListed P ms row = (place : ℕ) → All P (listed (place + 1) (entries_of row (slice_get ms place)))

-- and what is so of each of some rows
listed_all : (P : Listed → Type 0) (ms : List ManifestState) (rows : List ℕ) → All (EachListed P ms) rows → All P (flat_map (λ (k : ℕ). listed_in k ms) rows)
listed_all P ms [] each = all_none P
listed_all P ms (row ∷ rows) each =
    let own = All-head (EachListed P ms) row rows each in
    let a = listed 3 (entries_of row (slice_get ms 2)) in
    let b = listed 2 (entries_of row (slice_get ms 1)) in
    let d = listed 1 (entries_of row (slice_get ms 0)) in
    All-append P ((a ++ b) ++ d) (flat_map (λ (k : ℕ). listed_in k ms) rows) (All-append P (a ++ b) d (All-append P a b (own 2) (own 1)) (own 0)) (listed_all P ms rows (All-tail (EachListed P ms) row rows each))

listed_series : (row place : ℕ) (o : Option ManifestState) → All (λ (l : Listed). l.entry.series ≡ row) (listed place (entries_of row o))
listed_series row place None = all_none (λ (l : Listed). l.entry.series ≡ row)
listed_series row place (Some m) =
    let test : Entry → Bool = λ e. nat_eq e.series row in
    All-map (λ (l : Listed). l.entry.series ≡ row) (λ (e : Entry). let l : Listed = record { store = place; entry = e } in l) (filter test m.entries)
    (λ k d lt. (Decides-eqb (get_or (filter test m.entries) k d).series row).0 (filter_passes test m.entries k d lt))

-- each file is of a row
pub opened_rows : (rows seen : List Row) (ms : List ManifestState) (i from : ℕ) (to : Option ℕ) (ids : List ℕ) (opened : List Listed) → seen ≡ rows → ids ≡ line rows i → IsChosen from to (flat_map (λ (k : ℕ). listed_in k ms) ids) opened → All (λ (l : Listed). l.entry.series < length seen) opened
opened_rows rows seen ms i from to ids opened same along chosen =
    let P : Listed → Type 0 = λ l. l.entry.series < length seen in
    let low : All (λ (k : ℕ). k < length seen) ids = subst (All (λ (k : ℕ). k < length seen)) (ap (λ (rs : List Row). line rs i) same ∙ sym along) (line_low seen i) in
    opened_all P from to (flat_map (λ (k : ℕ). listed_in k ms) ids) opened chosen (listed_all P ms ids (λ k d lt place j e le.
    let own = listed_series (get_or ids k d) (place + 1) (slice_get ms place) j e le in
    let few = low k d lt in omega (arith, own, few)))

-- with one row more
pub told_more : (ms : List ManifestState) (rows : List ℕ) (i : ℕ) (choice : Choice) → i < length rows → IsChoice (flat_map (λ (k : ℕ). listed_in k ms) (take i rows) ++ listed_in (get_or rows i 0) ms) choice → IsChoice (flat_map (λ (k : ℕ). listed_in k ms) (take (i + 1) rows)) choice
told_more ms rows i choice low told =
    subst (λ (l : List Listed). IsChoice l choice) (flat_map_more (λ (k : ℕ). listed_in k ms) [] (take i rows) (get_or rows i 0) ∙ ap (flat_map (λ (k : ℕ). listed_in k ms)) (sym (take_more rows i 0 low))) told

-- WHAT IS PINNED OF IT

nothing_of : (rows : List Row) (xs : List PinnedFile) (l : Listed) → l.entry.len ≡ 0 → xs ≡ xs ++ map (piece_of rows) (filter has_bytes (l ∷ []))
nothing_of rows xs l none =
    let test : has_bytes l ≡ false = grind (arith, nat_tests) in
    sym (append-nil xs) ∙ ap (λ (b : Bool). xs ++ map (piece_of rows) (cond b (l ∷ []) [])) (sym test)

piece_more : (rows : List Row) (xs : List PinnedFile) (l : Listed) → 0 < l.entry.len → xs ++ piece_of rows l ∷ [] ≡ xs ++ map (piece_of rows) (filter has_bytes (l ∷ []))
piece_more rows xs l some =
    let test : has_bytes l ≡ true = grind (arith, nat_tests) in
    ap (λ (b : Bool). xs ++ map (piece_of rows) (cond b (l ∷ []) [])) (sym test)

-- with one file more
pub pieces_more : (rows : List Row) (files : List Listed) (i : ℕ) (x : Listed) (xs new : List PinnedFile) → i < length files → x ≡ get_or files i x → xs ≡ map (piece_of rows) (filter has_bytes (take i files))
    → (x.entry.len ≡ 0 → new ≡ xs) → (0 < x.entry.len → new ≡ xs ++ piece_of rows x ∷ []) → new ≡ map (piece_of rows) (filter has_bytes (take (i + 1) files))
pieces_more rows files i x xs new low is so_far none some =
    let more : map (piece_of rows) (filter has_bytes (take (i + 1) files)) ≡ xs ++ map (piece_of rows) (filter has_bytes (x ∷ [])) =
    ap (λ (l : List Listed). map (piece_of rows) (filter has_bytes l)) (take_more files i x low ∙ ap (λ (y : Listed). take i files ++ y ∷ []) (sym is))
    ∙ ap (map (piece_of rows)) (filter-append has_bytes (take i files) (x ∷ []))
    ∙ map-append (piece_of rows) (filter has_bytes (take i files)) (filter has_bytes (x ∷ []))
    ∙ ap (λ (l : List PinnedFile). l ++ map (piece_of rows) (filter has_bytes (x ∷ []))) (sym so_far) in
    elim (cases_lt 0 x.entry.len) [
      | inl lt ↦ some lt ∙ piece_more rows xs x lt ∙ sym more
      | inr le ↦ let zero : x.entry.len ≡ 0 = omega (arith, le) in none zero ∙ nothing_of rows xs x zero ∙ sym more
    ]

-- FILES BY THEIR ENTRIES

record Halves {A B : Type 0} (g : A → B) (xs : List A) (ys zs : List B) : Type 0 where
  pub us : List A
  pub vs : List A
  pub split : xs ≡ us ++ vs
  pub first : map g us ≡ ys
  pub second : map g vs ≡ zs

halves : {A B : Type 0} (g : A → B) (xs : List A) (ys zs : List B) → map g xs ≡ ys ++ zs → Halves g xs ys zs
halves {A} {B} g xs [] zs is = record { us = []; vs = xs; split = refl; first = refl; second = is }
halves {A} {B} g [] (y ∷ ys) zs is = absurd (cc (is))
halves {A} {B} g (x ∷ xs) (y ∷ ys) zs is =
    let head : g x ≡ y = cc (is) in
    let more : map g xs ≡ ys ++ zs = cc (is) in
    let rest = halves g xs ys zs more in
    record { us = x ∷ rest.us; vs = rest.vs; split = ap (λ (l : List A). x ∷ l) rest.split; first = λ i. head i ∷ rest.first i; second = rest.second }

-- FILES THAT STAND

-- a file of its row
abbrev Good : List Row → Placed → Type 0
Good rows p = (g : Granularity) × IsFiled g rows p.file

each_good : (store : Store) (g : Granularity) (rows : List Row) (fs : List Filed) → All (IsFiled g rows) fs → AllByRecursion (Good rows) (map (placed_at store) fs)
each_good store g rows [] filed = tt
each_good store g rows (f ∷ fs) filed = ((g, All-head (IsFiled g rows) f fs filed), each_good store g rows fs (All-tail (IsFiled g rows) f fs filed))

all_rise : (rows : List Row) (ps : List Placed) → AllByRecursion (Good rows) ps → AllByRecursion Rises (map state_of ps)
all_rise rows [] good = tt
all_rise rows (p ∷ ps) good = (good.0.1.file.rising, all_rise rows ps good.1)

-- THEIR SAMPLES

flat_placed : (store : Store) (fs : List Filed) → flat (map state_of (map (placed_at store) fs)) ≡ flat_map (λ (f : Filed). f.samples) fs
flat_placed store [] = refl
flat_placed store (f ∷ fs) = ap (λ (xs : List Sample). f.samples ++ xs) (flat_placed store fs)

flat_both : (ps qs : List Placed) → flat (map state_of (ps ++ qs)) ≡ flat (map state_of ps) ++ flat (map state_of qs)
flat_both ps qs = ap flat (map-append state_of ps qs) ∙ flat_map-append (λ (f : RowFile). f.samples) (map state_of ps) (map state_of qs)

flat_files : (row : ℕ) (s : Stores) → flat (map state_of (files_in row s)) ≡ (samples_of row s.long ++ samples_of row s.medium) ++ samples_of row s.short
flat_files row s =
    let a = placed Long row s.long in
    let b = placed Medium row s.medium in
    let d = placed Short row s.short in
    let long : flat (map state_of a) ≡ samples_of row s.long = flat_placed Long (of_row row s.long) in
    let medium : flat (map state_of b) ≡ samples_of row s.medium = flat_placed Medium (of_row row s.medium) in
    let short : flat (map state_of d) ≡ samples_of row s.short = flat_placed Short (of_row row s.short) in
    let parts : (flat (map state_of a) ++ flat (map state_of b)) ++ flat (map state_of d) ≡ (samples_of row s.long ++ samples_of row s.medium) ++ samples_of row s.short = λ i. (long i ++ medium i) ++ short i in
    flat_both (a ++ b) d ∙ ap (λ (xs : List Sample). xs ++ flat (map state_of d)) (flat_both a b) ∙ parts

-- ENOUGH

all_end : (rows : List Row) (n : ℕ) (ps : List Placed) → AllByRecursion (Good rows) ps → All (ends_before n) (map listed_of ps) → AllByRecursion (EndsBy n) (map state_of ps)
all_end rows n [] good before = tt
all_end rows n (p ∷ ps) good before =
    let to : p.file.entry.last + 1 ≡ end_of p.file.samples = good.0.1.to in
    let here : p.file.entry.last < n = All-head (ends_before n) (listed_of p) (map listed_of ps) before in
    ((good.0.1.file.rising, omega (arith, to, here)), all_end rows n ps good.1 (All-tail (ends_before n) (listed_of p) (map listed_of ps) before))

leads : (rows : List Row) (q : Query) (closed files : List Placed) → AllByRecursion (Good rows) closed → AllByRecursion (Good rows) files → StartsBehind q.from (map listed_of closed) (map listed_of files) → Leads q (map state_of closed) (map state_of files)
leads rows q closed [] good good₂ behind = absurd behind
leads rows q closed (p ∷ ps) good good₂ behind =
    let filed = good₂.0.1 in
    let early = behind.0 in
    let from = filed.from in
    record {
      first = state_of p;
      others = map state_of ps;
      are = refl;
      sample = filed.first;
      more = filed.others;
      samples = filed.some;
      early = omega (arith, early, from);
      later = subst (λ (n : ℕ). AllByRecursion (EndsBy n) (map state_of closed)) from (all_end rows p.file.entry.first closed good behind.1);
    }

none_closed : (closed : List Placed) → map listed_of closed ≡ [] → map state_of closed ≡ []
none_closed [] is = refl
none_closed (p ∷ ps) is = absurd (cc (is))

have_bytes : (rows : List Row) (ps : List Placed) → AllByRecursion (Good rows) ps → filter has_bytes (map listed_of ps) ≡ map listed_of ps
have_bytes rows [] good = refl
have_bytes rows (p ∷ ps) good =
    let len : p.file.entry.len ≡ length (bytes_of p.file) = good.0.1.len in
    let some : has_bytes (listed_of p) ≡ true = some_bytes p.file len in
    ap (λ (b : Bool). cond b (listed_of p ∷ filter has_bytes (map listed_of ps)) (filter has_bytes (map listed_of ps))) some ∙ ap (λ (l : List Listed). listed_of p ∷ l) (have_bytes rows ps good.1)
  where
    some_bytes : (f : Filed) → f.entry.len ≡ length (bytes_of f) → has_bytes (listed_of (placed_at Short f)) ≡ true
    some_bytes f len = let more = length-append f.head (10 ∷ lines_of f.samples) in let least : 1 ≤ f.entry.len = omega (arith, len, more) in grind (arith, nat_tests)

-- WHAT STAYS CLOSED BEHIND

files_behind : (rows : List Row) (q : Query) (ps : List Placed) → AllByRecursion (Good rows) ps → All (StartsPast q.from (Some q.to)) (map listed_of ps) → AllByRecursion (LiesBehind q) (map state_of ps)
files_behind rows q [] good past = tt
files_behind rows q (p ∷ ps) good past =
    let filed = good.0.1 in
    let first = All-head (StartsPast q.from (Some q.to)) (listed_of p) (map listed_of ps) past in
    let one = first.0 in
    let two = first.1 in
    let from = filed.from in
    let low : reach q ≤ filed.first.t = omega (arith, one, two, from) in
    let rising : IsRising (filed.first ∷ filed.others) = subst IsRising filed.some filed.file.rising in (
      subst (NoneBefore (reach q)) (sym filed.some) (rising_none_before (reach q) (filed.first ∷ filed.others) (low, rising.1)),
      files_behind rows q ps good.1 (All-tail (StartsPast q.from (Some q.to)) (listed_of p) (map listed_of ps) past),
    )

-- such files may stay closed
module _ (rows : List Row) (q : Query) (files : List Placed) where
  abbrev AnswersSo : List Sample → List Placed → Type 0
  AnswersSo tail behind = answer (over (over_pieces [] (map state_of files)) tail) q ≡ answer (over (over_pieces [] (map state_of (files ++ behind))) tail) q

  so_late : (tail : List Sample) (behind : List Placed) → AllByRecursion (Good rows) (files ++ behind) → IsRising tail → NoneBefore (reach q) tail → All (StartsPast q.from (Some q.to)) (map listed_of behind) → AnswersSo tail behind
  so_late tail behind good rising late past =
      let rise : AllByRecursion Rises (map state_of files ++ map state_of behind) = subst (AllByRecursion Rises) (map-append state_of files behind) (all_rise rows (files ++ behind) good) in
      without_behind (map state_of files) (map state_of behind) tail q rise rising (files_behind rows q behind (all_rest (Good rows) files behind good) past) late
      ∙ ap (λ (fs : List RowFile). answer (over (over_pieces [] fs) tail) q) (sym (map-append state_of files behind))

  pub closed_behind : (tail : List Sample) (behind : List Placed) → AllByRecursion (Good rows) (files ++ behind) → IsRising tail → All (StartsPast q.from (files_to q tail)) (map listed_of behind) → AnswersSo tail behind
  closed_behind tail [] good rising past = ap (λ (ps : List Placed). answer (over (over_pieces [] (map state_of ps)) tail) q) (sym (append-nil files))
  closed_behind [] (p ∷ ps) good rising past = so_late [] (p ∷ ps) good rising tt past
  closed_behind (s ∷ rest) (p ∷ ps) good rising past = by_test (nat_lt q.from s.t && nat_lt q.to s.t) refl past
    where
      by_test : (b : Bool) → (nat_lt q.from s.t && nat_lt q.to s.t) ≡ b → All (StartsPast q.from (cond b (Some q.to) None)) (map listed_of (p ∷ ps)) → AnswersSo (s ∷ rest) (p ∷ ps)
      by_test true is past =
          let one : q.from < s.t = grind (arith, nat_tests) in
          let two : q.to < s.t = grind (arith, nat_tests) in
          let low : reach q ≤ s.t = omega (arith, one, two) in
          so_late (s ∷ rest) (p ∷ ps) good rising (rising_none_before (reach q) (s ∷ rest) (low, rising.1)) past
      by_test false is past = absurd (All-head (StartsPast q.from None) (listed_of p) (map listed_of ps) past)

-- WHAT IS HELD

module _ (c : CatalogueState) (ms : List ManifestState) (held : Stores) (known : IsKnown c ms held) where
  manifest_of : (store : Store) → (m : ManifestState) × (slice_get ms (index_of store) ≡ Some m)
  manifest_of store = manifest_at ms (index_of store) (low store)
    where
      low : (store : Store) → index_of store < length ms
      low Short = let three = known.three in omega (arith, three)
      low Medium = let three = known.three in omega (arith, three)
      low Long = let three = known.three in omega (arith, three)

  known_of : (store : Store) → IsKnownAt (manifest_of store).0 (tier (index_of store) held)
  known_of store = let m = manifest_of store in known.each (index_of store) m.0 m.1

  -- what the memory lists of a row is what is held of it
  store_listed : (row : ℕ) (store : Store) → listed (index_of store + 1) (entries_of row (slice_get ms (index_of store))) ≡ map listed_of (placed store row (list_at (index_of store) held))
  store_listed row store =
      let files = list_at (index_of store) held in
      let test : Entry → Bool = λ e. nat_eq e.series row in
      ap (λ (o : Option ManifestState). listed (index_of store + 1) (entries_of row o)) (manifest_of store).1
      ∙ ap (λ (es : List Entry). listed (index_of store + 1) (filter test es)) (known_of store).entries
      ∙ ap (listed (index_of store + 1)) (filter-map test files)
      ∙ listed_files store (of_row row files)

  row_listed : (row : ℕ) → listed_in row ms ≡ map listed_of (files_in row held)
  row_listed row =
      let a = placed Long row held.long in
      let b = placed Medium row held.medium in
      let d = placed Short row held.short in
      let parts : listed_in row ms ≡ (map listed_of a ++ map listed_of b) ++ map listed_of d = λ i. (store_listed row Long i ++ store_listed row Medium i) ++ store_listed row Short i in
      parts ∙ sym (map-append listed_of (a ++ b) d ∙ ap (λ (l : List Listed). l ++ map listed_of d) (map-append listed_of a b))

  -- and so of rows
  all_listed : (rows : List ℕ) → flat_map (λ (k : ℕ). listed_in k ms) rows ≡ map listed_of (flat_map (λ (k : ℕ). files_in k held) rows)
  all_listed [] = refl
  all_listed (row ∷ rows) =
      let joined : listed_in row ms ++ flat_map (λ (k : ℕ). listed_in k ms) rows ≡ map listed_of (files_in row held) ++ map listed_of (flat_map (λ (k : ℕ). files_in k held) rows) = λ i. row_listed row i ++ all_listed rows i in
      joined ∙ sym (map-append listed_of (files_in row held) (flat_map (λ (k : ℕ). files_in k held) rows))

  module _ (stands : IsTrue held.stands) where
    store_good : (row : ℕ) (store : Store) → AllByRecursion (Good held.rows) (placed store row (list_at (index_of store) held))
    store_good row store =
        let test : Filed → Bool = λ f. nat_eq f.entry.series row in
        let g = (manifest_of store).0.granularity in
        let files = list_at (index_of store) held in
        each_good store g held.rows (of_row row files) (All-filter test (IsFiled g held.rows) files ((known_of store).valid.filed.filed stands))

    store_rises : (row : ℕ) (store : Store) → IsRising (samples_of row (list_at (index_of store) held))
    store_rises row store = let valid = (known_of store).valid in row_rises (manifest_of store).0.granularity held.rows row (list_at (index_of store) held) (valid.filed.filed stands) valid.apart

    all_good : (rows : List ℕ) → AllByRecursion (Good held.rows) (flat_map (λ (k : ℕ). files_in k held) rows)
    all_good [] = tt
    all_good (row ∷ rows) =
        let a = placed Long row held.long in
        let b = placed Medium row held.medium in
        let d = placed Short row held.short in
        all-append (Good held.rows) ((a ++ b) ++ d) (flat_map (λ (k : ℕ). files_in k held) rows)
        (all-append (Good held.rows) (a ++ b) d (all-append (Good held.rows) a b (store_good row Long) (store_good row Medium)) (store_good row Short)) (all_good rows)

    -- what is taken of a row's files, behind others, is what is held of it over those
    row_taken : (row : ℕ) (xs : List Sample) → taken (xs ++ flat (map state_of (files_in row held))) ≡ over (taken xs) (samples_in row held)
    row_taken row xs =
        let a = samples_of row held.long in
        let b = samples_of row held.medium in
        let d = samples_of row held.short in
        let long : IsRising a = store_rises row Long in
        let medium : IsRising b = store_rises row Medium in
        ap (λ (ys : List Sample). taken (xs ++ ys)) (flat_files row held)
        ∙ ap taken (sym (append_assoc xs (a ++ b) d))
        ∙ taken_over (xs ++ (a ++ b)) d (store_rises row Short)
        ∙ ap (λ (ys : List Sample). over (taken ys) d) (sym (append_assoc xs a b))
        ∙ ap (λ (ys : List Sample). over ys d) (taken_over (xs ++ a) b medium ∙ ap (λ (ys : List Sample). over ys b) (taken_over xs a long) ∙ over_assoc (taken xs) a b long)
        ∙ over_assoc (taken xs) (over a b) d (over_rising a b long medium)

    -- and so of rows, one after another
    rows_taken : (rows : List ℕ) (xs : List Sample) → taken (xs ++ flat (map state_of (flat_map (λ (k : ℕ). files_in k held) rows))) ≡ overs held (taken xs) rows
    rows_taken [] xs = ap taken (append-nil xs)
    rows_taken (row ∷ rows) xs =
        let own = files_in row held in
        let others = flat_map (λ (k : ℕ). files_in k held) rows in
        ap (λ (ys : List Sample). taken (xs ++ ys)) (flat_both own others)
        ∙ ap taken (sym (append_assoc xs (flat (map state_of own)) (flat (map state_of others))))
        ∙ rows_taken rows (xs ++ flat (map state_of own))
        ∙ ap (λ (ys : List Sample). overs held ys rows) (row_taken row xs)

  -- the files of what was chosen
  are_enough : (row : ℕ) (query : Query) (tail : List Sample) (opened : List Listed) → IsChosen query.from (files_to query tail) (map listed_of (files_of_line row held)) opened → AreEnough held row query tail opened
  are_enough row query tail opened chosen =
      let h = halves listed_of (files_of_line row held) chosen.rest.closed (opened ++ chosen.behind) chosen.rest.split in
      let k = halves listed_of h.vs opened chosen.behind h.second in
      let whole : files_of_line row held ≡ h.us ++ (k.us ++ k.vs) = h.split ∙ ap (λ (ps : List Placed). h.us ++ ps) k.split in
      record {
        closed = h.us;
        files = k.us;
        behind = k.vs;
        split = whole;
        are = k.first;
        all = λ stands. subst (λ (l : List Listed). filter has_bytes l ≡ l) k.first (have_bytes held.rows k.us (all_front (Good held.rows) k.us k.vs (all_rest (Good held.rows) h.us (k.us ++ k.vs) (good h.us (k.us ++ k.vs) whole stands))));
        answers = λ stands rising.
            let all = good h.us (k.us ++ k.vs) whole stands in
            closed_behind held.rows query k.us tail k.vs (all_rest (Good held.rows) h.us (k.us ++ k.vs) all) rising (subst (All (StartsPast query.from (files_to query tail))) (sym k.second) chosen.past)
            ∙ go h.us (k.us ++ k.vs) whole h.first (ap (map listed_of) (sym k.split) ∙ h.second) all stands rising;
      }
    where
      good : (us vs : List Placed) → files_of_line row held ≡ us ++ vs → IsTrue held.stands → AllByRecursion (Good held.rows) (us ++ vs)
      good us vs split stands = subst (AllByRecursion (Good held.rows)) split (all_good stands (line held.rows row))

      go : (us vs : List Placed) → files_of_line row held ≡ us ++ vs → map listed_of us ≡ chosen.rest.closed → map listed_of vs ≡ opened ++ chosen.behind → AllByRecursion (Good held.rows) (us ++ vs) → IsTrue held.stands → IsRising tail
          → answer (over (over_pieces [] (map state_of vs)) tail) query ≡ answer (over (whole_in row held) tail) query
      go us vs split first second good stands rising =
          let one = all_front (Good held.rows) us vs good in
          let two = all_rest (Good held.rows) us vs good in
          let starts : (map state_of us ≡ []) ⊎ Leads query (map state_of us) (map state_of vs) = elim chosen.rest.first [
            | inl none ↦ inl (none_closed us (first ∙ none))
            | inr behind ↦ inr (leads held.rows query us vs one two (subst (λ (l : List Listed). StartsBehind query.from l (map listed_of vs)) (sym first) (subst (StartsBehind query.from chosen.rest.closed) (sym second) behind)))
          ] in
          let all = flat (map state_of (files_of_line row held)) in
          let files : flat (map state_of us) ++ flat (map state_of vs) ≡ all = sym (flat_both us vs) ∙ ap (λ (ps : List Placed). flat (map state_of ps)) (sym split) in
          enough (map state_of us) (map state_of vs) tail query (all_rise held.rows vs two) rising starts
          ∙ ap (λ (xs : List Sample). answer (taken (xs ++ tail)) query) files
          ∙ ap (λ (xs : List Sample). answer xs query) (taken_over all tail rising ∙ ap (λ (xs : List Sample). over xs tail) (rows_taken stands (line held.rows row) []))

-- What is pinned of listed files stands, and what is told of a pin is so of what is held

-- A LISTED FILE

-- bytes that a file begins with: its own where they are told
bytes_there : (tells : Bool) (files : Files) (name : Name) (len : ℕ) → (IsTrue tells → HasFile files name (λ b. len ≤ length b)) → (bytes : List ℕ) × (length bytes ≡ len) × (IsTrue tells → Begins bytes (files name))
bytes_there false files name len there = (replicate len 0, length-replicate len 0, λ told. absurd (cc (told)))
bytes_there true files name len there =
    let file = there refl in
    let b = file.bytes in
    let long = file.holds in
    let cut = length-take len b in
    let whole : length (take len b) ≡ len = omega (arith, cut, long) in
    (take len b, whole, λ told. subst (Begins (take len b)) (sym file.file) (ap (λ (n : ℕ). take n b) whole))

shown_listed : (tells : Bool) (at : Seen) (limbo : List Retired) (held : Stores) (l : Listed) → Has tells at held → IsListedIn at.manifests l.store l.entry → has_bytes l ≡ true → IsShown tells (beside at limbo) (piece_of at.catalogue.rows l)
shown_listed tells at limbo held l has lists some =
    let name = file_of (l.store, at.catalogue.rows) l.entry in
    let file = listed_file tells at held l.store l.entry name has lists refl in
    let b = bytes_there tells at.files name l.entry.len (λ told. file_there tells at held l.store l.entry name file has told) in
    let long = b.1 in
    let least : 1 ≤ l.entry.len = grind (arith, nat_tests) in
    record {
      bytes = b.0;
      len = b.1;
      shown = record {
        held = inl (record {
          place = lists.place;
          manifest = lists.manifest;
          here = lists.here;
          listed = record {
            entry = l.entry;
            within = lists.listed;
            named = ap (λ (k : ℕ). file_of (k, at.catalogue.rows) l.entry) (sym lists.is);
            longer = omega (arith, long);
          };
          in_doubt = λ unsound. absurd (cc (unsound, has.settled.manifests lists.place lists.manifest lists.here));
          rows_in_doubt = λ unsound. absurd (cc (unsound, has.settled.catalogue));
        });
        some = omega (arith, long, least);
        front = b.2;
      };
    }

-- WHAT WAS CHOSEN

-- each is listed in its store
each_listed : (ms : List ManifestState) (row : ℕ) → EachListed (λ (l : Listed). IsListedIn ms l.store l.entry) ms row
each_listed ms row place = go (slice_get ms place) refl
  where
    test : Entry → Bool
    test e = nat_eq e.series row

    go : (o : Option ManifestState) → slice_get ms place ≡ o → All (λ (l : Listed). IsListedIn ms l.store l.entry) (listed (place + 1) (entries_of row o))
    go None here = all_none (λ (l : Listed). IsListedIn ms l.store l.entry)
    go (Some m) here =
        All-map (λ (l : Listed). IsListedIn ms l.store l.entry) (λ (e : Entry). let l : Listed = record { store = place + 1; entry = e } in l) (filter test m.entries)
        (λ k d lt. record { place = place; manifest = m; is = refl; here = here; listed = All-filter test (Contains m.entries) m.entries (λ j e low. Contains-get_or m.entries j e low) k d lt })

pieces_shown : (tells : Bool) (at : Seen) (limbo : List Retired) (held : Stores) (row from : ℕ) (to : Option ℕ) (opened : List Listed) → Has tells at held → IsChosen from to (listed_of_line at.catalogue.rows at.manifests row) opened → All (IsShown tells (beside at limbo)) (map (piece_of at.catalogue.rows) (filter has_bytes opened))
pieces_shown tells at limbo held row from to opened has chosen =
    let rows = at.catalogue.rows in
    let P : Listed → Type 0 = λ l. IsListedIn at.manifests l.store l.entry in
    let all : All P opened = opened_all P from to (listed_of_line rows at.manifests row) opened chosen (listed_all P at.manifests (line rows row) (λ k d lt. each_listed at.manifests (get_or (line rows row) k d))) in
    All-map (IsShown tells (beside at limbo)) (piece_of at.catalogue.rows) (filter has_bytes opened)
    (λ k d lt. shown_listed tells at limbo held (get_or (filter has_bytes opened) k d) has (All-filter has_bytes P opened all k d lt) (filter_passes has_bytes opened k d lt))

-- an element at a place
all_at : {X : Type 0} (P : X → Type 0) (xs : List X) (i : ℕ) (x : X) → All P xs → slice_get xs i ≡ Some x → P x
all_at {X} P xs i x all here =
    let low = slice_get_within xs i x here in
    subst P (same_Some (get_or xs i x) x (sym (slice_get-get_or xs i x low) ∙ here)) (all i x low)

-- so a pin more stands as those before it
stand_more : (tells : Bool) (at : Seen) (limbo : List Retired) (held : Stores) (who i : ℕ) (query : Query) (tail : List Sample) (old new : FinMap nat_cmp PinOf) (pin : ℕ) (name : List ℕ) (about : About) (count : ℕ) (told : List Sample) → Has tells at held → IsPinned at.catalogue.rows (listed_of_line at.catalogue.rows at.manifests i) who i query tail old new pin name about count told → PinsStand tells (beside at limbo) old → PinsStand tells (beside at limbo) new
stand_more tells at limbo held who i query tail old new pin name about count told has p stand n j q piece here there = go (eq_by_cmp nat_cmp n pin) (sym (get-insert nat_cmp_total old pin made n) ∙ sym (ap (λ (m : FinMap nat_cmp PinOf). get m n) p.made) ∙ here)
  where
    made : PinOf
    made = record { owner = who; pieces = p.pieces }

    go : (b : Bool) → cond b (Some made) (get old n) ≡ Some q → IsShown tells (beside at limbo) piece
    go false is = stand n j q piece is there
    go true is =
        let same : made ≡ q = same_Some made q is in
        let own : slice_get (map (piece_of at.catalogue.rows) (filter has_bytes p.opened)) j ≡ Some piece = ap (λ (l : List PinnedFile). slice_get l j) (sym p.are) ∙ ap (λ (x : PinOf). slice_get x.pieces j) same ∙ there in
        all_at (IsShown tells (beside at limbo)) (map (piece_of at.catalogue.rows) (filter has_bytes p.opened)) j piece (pieces_shown tells at limbo held i query.from (files_to query tail) p.opened has p.chosen) own

-- THE CALL

-- what the manifest at a place lists of a row
pub entries_at : (ms : List ManifestState) (place row : ℕ) (m : ManifestState) (entries : List Entry) → place < length ms → m ≡ get_or ms place m → entries ≡ filter (λ (e : Entry). nat_eq e.series row) m.entries → entries ≡ entries_of row (slice_get ms place)
entries_at ms place row m entries low is own = own ∙ ap (entries_of row) (sym (slice_get-get_or ms place m low ∙ ap (λ (x : ManifestState). Some x) (sym is)))

-- what was chosen for the query and its tail
pub chosen_for : (query : Query) (tail told : List Sample) (from : ℕ) (to : Option ℕ) (all opened : List Listed) → from ≡ query.from → to ≡ files_to query told → told ≡ tail → IsChosen from to all opened → IsChosen query.from (files_to query tail) all opened
chosen_for query tail told from to all opened same_from same_to same_tail chosen =
    subst (λ (n : ℕ). IsChosen n (files_to query tail) all opened) same_from (subst (λ (o : Option ℕ). IsChosen from o all opened) (same_to ∙ ap (files_to query) same_tail) chosen)

-- a row's files are pinned
pub pinned_row : {R : Type 0} (rows seen : List Row) (ms shown : List ManifestState) (who i : ℕ) (asked : List ℕ) (query : Query) (tail : List Sample) (old new : FinMap nat_cmp PinOf) (row : Row) (pin count : ℕ) (name : List ℕ) (about : About) (ids : List ℕ) (opened : List Listed) (pieces : List PinnedFile)
    → seen ≡ rows → shown ≡ ms → i < length rows → row ≡ get_or seen i row → name ≡ row.name → about ≡ row.about → IsChosen query.from (files_to query tail) (flat_map (λ (k : ℕ). listed_in k shown) ids) opened → ids ≡ line rows i → length opened < 2 ^ 32 → pieces ≡ map (piece_of seen) (filter has_bytes opened) → count ≡ length pieces
    → get old pin ≡ None → ((lower : ℕ) → lower < pin → IsSome (get old lower)) → (let made : PinOf = record { owner = who; pieces = pieces } in new ≡ insert old pin made) → HasName rows i asked
    → PinsOf {R = R} rows ms who asked query tail old new (Pinned pin name about count tail)
pinned_row {R} rows seen ms shown who i asked query tail old new row pin count name about ids opened pieces same same_ms low is name_is about_is chosen along few are number free least made named =
    let here : slice_get seen i ≡ Some row = slice_get-get_or seen i row (omega (arith, low, ap length same)) ∙ ap (λ (r : Row). Some r) (sym is) in
    let all : flat_map (λ (k : ℕ). listed_in k shown) ids ≡ listed_of_line rows ms i = λ j. flat_map (λ (k : ℕ). listed_in k (same_ms j)) (along j) in
    found i pin count name about tail named (record {
      row = row;
      here = ap (λ (rs : List Row). slice_get rs i) (sym same) ∙ here;
      name_is = name_is;
      about_is = about_is;
      tail_is = refl;
      free = free;
      least = least;
      opened = opened;
      chosen = subst (λ (l : List Listed). IsChosen query.from (files_to query tail) l opened) all chosen;
      few = few;
      pieces = pieces;
      are = are ∙ ap (λ (rs : List Row). map (piece_of rs) (filter has_bytes opened)) same;
      number = number;
      made = made;
    })

-- no row has the name
pub no_name : (rows : List Row) (name : List ℕ) (i : ℕ) (r : Option ℕ) → r ≡ None → ((i : ℕ) → HasName rows i name → r ≡ Some i) → HasName rows i name → ⊥
no_name rows name i r none only has = let both : ◌≡◌ {A = Option ℕ} None (Some i) = sym none ∙ only i has in cc (both)

pub none_named : {R : Type 0} (rows : List Row) (ms : List ManifestState) (who : ℕ) (name : List ℕ) (query : Query) (tail : List Sample) (pins : FinMap nat_cmp PinOf) (r : Option ℕ) → r ≡ None → ((i : ℕ) → HasName rows i name → r ≡ Some i) → PinsOf {R = R} rows ms who name query tail pins pins NoSuchVariable
none_named {R} rows ms who name query tail pins r none only = unknown (λ i has. no_name rows name i r none only has) refl

pub row_within : (rows : List Row) (i : ℕ) (name : List ℕ) → HasName rows i name → i < length rows
row_within rows i name has = slice_get_within rows i has.row has.here

module _ {R : Type 0} (tells : Bool) (at : Seen) (held : Stores) (who : ℕ) (name : List ℕ) (query : Query) (tail : List Sample) (old new : FinMap nat_cmp PinOf) (has : Has tells at held) where
  abbrev Pins : Answer R → Type 0
  Pins a = PinsOf at.catalogue.rows at.manifests who name query tail old new a

  says_answer : (a : Answer R) → Pins a → SaysOf (SaysPinned who name query tail old new) (end_of_answer a) held
  says_answer _ (unknown none same) = none_has (subst (λ (rows : List Row). HasNoName rows name) has.known.rows none) same
  says_answer _ (found i pin count told about rest named p) =
      let as_held : IsPinned held.rows (map listed_of (files_of_line i held)) who i query tail old new pin told about count rest =
      subst (λ (all : List Listed). IsPinned held.rows all who i query tail old new pin told about count rest) (all_listed at.catalogue at.manifests held has.known (line held.rows i))
      (subst (λ (rows : List Row). IsPinned rows (listed_of_line rows at.manifests i) who i query tail old new pin told about count rest) has.known.rows p) in
      is_pinned i pin count told about rest (subst (λ (rows : List Row). HasName rows i name) has.known.rows named) as_held
      (are_enough at.catalogue at.manifests held has.known i query tail as_held.opened as_held.chosen)

  pub says : (r : Result (Answer R) DiskErr) → IfOk r Pins → IfErr r (λ e. (e ≡ Memory) × (new ≡ old)) → SaysOf (SaysPinned who name query tail old new) (end_of_answer (answer_of r)) held
  says (Ok a) ok err = says_answer a ok
  says (Err e) ok err = subst (λ (x : DiskErr). SaysOf (SaysPinned {R = R} who name query tail old new) (end_of_answer (answer_of (let r : Result (Answer R) DiskErr = Err x in r))) held) (sym err.0) tt

  stand_answer : (limbo : List Retired) (a : Answer R) → Pins a → PinsStand tells (beside at limbo) old → PinsStand tells (beside at limbo) new
  stand_answer limbo _ (unknown none same) stand = subst (PinsStand tells (beside at limbo)) (sym same) stand
  stand_answer limbo _ (found i pin count told about rest named p) stand = stand_more tells at limbo held who i query tail old new pin told about count rest has p stand

  pub stands : (limbo : List Retired) (r : Result (Answer R) DiskErr) → IfOk r Pins → IfErr r (λ e. (e ≡ Memory) × (new ≡ old)) → PinsStand tells (beside at limbo) old → PinsStand tells (beside at limbo) new
  stands limbo (Ok a) ok err stand = stand_answer limbo a ok stand
  stands limbo (Err e) ok err stand = subst (PinsStand tells (beside at limbo)) (sym err.1) stand

  not_cut_answer : (a : Answer R) → Pins a → IsCut (end_of_answer a) → ⊥
  not_cut_answer _ (unknown none same) cut = cut
  not_cut_answer _ (found i pin count told about rest named p) cut = cut

  pub same_pins : (r : Result (Answer R) DiskErr) → IfOk r Pins → IfErr r (λ e. (e ≡ Memory) × (new ≡ old)) → IsCut (end_of_answer (answer_of r)) → new ≡ old
  same_pins (Ok a) ok err cut = absurd (not_cut_answer a ok cut)
  same_pins (Err e) ok err cut = err.1
