-- The samples of a row are tallied store by store, and told; and so is the whole of a row, which is held and listed over the rows of its line.
use Rattle.std.proofs.Common.{◌≡◌, ℕ, ◌+◌, ◌≤◌, ◌<◌, List, [], ◌∷◌, ◌++◌, length, map, take, drop, get_or, max, Option, Some, None, refl, sym, ◌∙◌, ap, subst, arith, append-nil, Bool, zero, suc, false, cond}
use Rattle.std.specs.Prelude.{Contains, IfOk, Result, Ok, Err, All, IsTrue, filter, nat_eq, slice_get}
use Rattle.std.specs.List.{flat_map}
use Rattle.std.proofs.lemmas.Grind.{flat_map-append}
use Rattle.std.proofs.lemmas.List.{length-append, length-map, take_more, take-append-drop, get_or-map, get_or_push}
use Rattle.std.proofs.lemmas.List.Elements.{Contains-get_or, All-filter, All-map, filter_passes, All-head, All-tail}
use Rattle.act_model.specs.Details.{first_time, last_time}
use Rattle.disk_model.specs.Files.{Files, HasFile}
use Rattle.partition_names.specs.declared.granularity.Granularity.{Granularity}
use Rattle.pb_lines.specs.File.{IsFile}
use Rattle.series_model.specs.declared.sample.Sample.{Sample}
use Rattle.series_model.specs.Series.{IsRising, RisesFrom, end_of, over, since, end_from}
use Rattle.series_model.proofs.OverLemmas.{end_of-over, over_flushed, over_assoc, over_rising}
use Rattle.series_model.proofs.RisingLists.{RisesFrom-front, since_all, since_none, end_from-append, RisesFrom-rest, end_from-ge}
use Rattle.store_manifest.specs.declared.entry.Entry.{Entry}
use Rattle.durable_write.specs.Held.{Filed, Shelf, bytes_of, entry_of, file_of, Held, IsFiled, IsIn, samples_of, shelf_of}
use Rattle.tier_store.specs.Counting.{behind}
use Rattle.tier_store.specs.Details.{IsTally, IsWhole, IsLong}
use Rattle.tier_store.specs.declared.tallying.Tally.{Tally}
use Rattle.std.proofs.lemmas.List.Sums.{sum_by-append, sum_by_more}
use Rattle.tier_store.specs.Tallying.{Adds, RiseFrom, end_of_files, listed_count, entries_in, entries_of_line}
use Rattle.std.proofs.lemmas.Bool.Decides.{Decides-eqb, nat_tests}
use Rattle.disk_model.specs.Past.{MayLeave}
use Rattle.pv_catalog.specs.Catalogue.{CatalogueState, renamed}
use Rattle.pv_catalog.specs.declared.row.Row.{Row}
use Rattle.store_manifest.specs.Manifest.{ManifestState}
use Rattle.durable_write.proofs.Commits.{filter-map}
use Rattle.durable_write.specs.Plan.{of_row}
use Rattle.tier_store.specs.Change.{Has, IsKnown, IsKnownAt, Renames}
use Rattle.tier_store.specs.Pinning.{entries_of}
use Rattle.tier_store.specs.Seen.{Seen}
use Rattle.tier_store.specs.Stores.{Stores, list_at, tier, overs, samples_in, whole_in, with_rows}
use Rattle.tier_store.proofs.PinnedFiles.{all_none}
use Rattle.tier_store.proofs.Places.{manifest_at, row_rises}
use Rattle.store_files.proofs.Stays.{front_file}
use Rattle.std.proofs.lemmas.Option.{slice_get-get_or, slice_get_within}
use Rattle.pb_messages.specs.declared.about.State.TheVariants.{Retired}
use Rattle.pv_catalog.specs.Lines.{line, line_known, lines}
use Rattle.pv_catalog.specs.Rows.{AreRows, renamed_row, switched}
use Rattle.pv_catalog.proofs.Lines.{line_kept, line_over}
use Rattle.pv_catalog.proofs.Refusing.{renamed_rows}
use Rattle.pv_catalog.proofs.Standing.{length-switched}
use Rattle.durable_write.proofs.Places.{keeps_renamed}

-- A ROW

-- Samples are tallied file by file

-- ONE FILE

module _ (g : Granularity) (shelf : Shelf) (files : Files) (f : Filed) (is : IsWhole g shelf files f) where
  rising : IsRising f.samples
  rising = is.filed.file.rising

  from_first : RisesFrom f.entry.first f.samples
  from_first =
      let s = is.filed.first in
      let xs = is.filed.others in
      let all : IsRising (s ∷ xs) = subst IsRising is.filed.some rising in
      let low : RisesFrom s.t (s ∷ xs) = (omega arith, all.1) in
      subst (λ (l : List Sample). RisesFrom f.entry.first l) (sym is.filed.some) (subst (λ (n : ℕ). RisesFrom n (s ∷ xs)) (sym is.filed.from) low)

  -- all of its samples are later, or none is
  pub all_later : (n : ℕ) → n ≤ f.entry.first → f.entry.count ≡ length (since n f.samples)
  all_later n low = is.filed.count ∙ ap length (sym (since_all n f.entry.first f.samples from_first low))

  pub none_later : (n : ℕ) → f.entry.last + 1 ≤ n → 0 ≡ length (since n f.samples)
  none_later n high = let to = is.filed.to in ap length (sym (since_none n 0 f.samples rising (omega (arith, to, high))))

  -- what is read of it
  pub file_read : HasFile files (file_of shelf f.entry) (λ b. IsFile (take f.entry.len b) f.head is.filed.info f.samples)
  file_read =
      let there = front_file files (file_of shelf f.entry) (bytes_of f) is.inside in
      let b = there.bytes in
      let same : bytes_of f ≡ take f.entry.len b = sym (there.holds.1) ∙ ap (λ (n : ℕ). take n b) (sym is.filed.len) in
      record { bytes = b; file = there.file; holds = subst (λ (l : List ℕ). IsFile l f.head is.filed.info f.samples) same is.filed.file }

  pub tally_more : (samples : List Sample) (t : Tally) (count more first : ℕ) (last : Option ℕ) → IsTally samples t → more ≡ length (since (behind t.last) f.samples) → count ≡ t.count + more → ((x : ℕ) → t.first ≡ Some x → first ≡ x) → (t.first ≡ None → first ≡ f.entry.first)
      → behind last ≡ max (behind t.last) (f.entry.last + 1) → IsTally (over samples f.samples) (record { count = count; first = Some first; last = last })
  tally_more samples t count more first last was number sum some none end = record {
    count =
        let new : more ≡ length (since (end_of samples) f.samples) = number ∙ ap (λ (n : ℕ). length (since n f.samples)) was.last in
        let old = was.count in
        omega (arith, sum, new, old, length-append samples (since (end_of samples) f.samples));
    first = first_is samples refl;
    last =
        let old = was.last in
        let to = is.filed.to in
        let both = end_of-over samples f.samples rising in
        omega (arith, end, old, to, both);
  }
    where
      first_is : (xs : List Sample) → xs ≡ samples → Some first ≡ first_time (over samples f.samples)
      first_is [] same =
          let mine : first ≡ is.filed.first.t = none (was.first ∙ ap first_time (sym same)) ∙ is.filed.from in
          let all : over samples f.samples ≡ is.filed.first ∷ is.filed.others = ap (λ (l : List Sample). over l f.samples) (sym same) ∙ (since_all 0 0 f.samples rising (omega arith) ∙ is.filed.some) in
          ap (λ (n : ℕ). Some n) mine ∙ sym (ap first_time all)
      first_is (x ∷ xs) same =
          let mine : first ≡ x.t = some x.t (was.first ∙ ap first_time (sym same)) in
          ap (λ (n : ℕ). Some n) mine ∙ ap (λ (l : List Sample). first_time (over l f.samples)) same

-- one sample behind those before it
pub tally_push : (samples : List Sample) (t : Tally) (x : Sample) (count first : ℕ) → IsTally samples t → count ≡ t.count + 1 → ((f : ℕ) → t.first ≡ Some f → first ≡ f) → (t.first ≡ None → first ≡ x.t) → IsTally (samples ++ x ∷ []) (record { count = count; first = Some first; last = Some x.t })
tally_push samples t x count first was sum some none = record {
  count = let old = was.count in omega (arith, sum, old, length-append samples (x ∷ []));
  first = first_is samples refl;
  last = sym (end_from-append 0 samples (x ∷ []));
}
  where
    first_is : (xs : List Sample) → xs ≡ samples → Some first ≡ first_time (samples ++ x ∷ [])
    first_is [] same = ap (λ (n : ℕ). Some n) (none (was.first ∙ ap first_time (sym same))) ∙ ap (λ (l : List Sample). first_time (l ++ x ∷ [])) same
    first_is (y ∷ ys) same = ap (λ (n : ℕ). Some n) (some y.t (was.first ∙ ap first_time (sym same))) ∙ ap (λ (l : List Sample). first_time (l ++ x ∷ [])) same

-- ONE AFTER ANOTHER

abbrev pub flat : List Filed → List Sample
flat files = flat_map (λ (f : Filed). f.samples) files

-- the file at a place of the list
pub record IsFileAt (files : List Filed) (i : ℕ) (e : Entry) (samples : List Sample) : Type 0 where
  pub file : Filed
  pub within : Contains files file
  pub entry : file.entry ≡ e
  pub adds : over samples (flat (take (i + 1) files)) ≡ over (over samples (flat (take i files))) file.samples

pub file_at : (files : List Filed) (entries : List Entry) (i : ℕ) (e : Entry) (samples : List Sample) → entries ≡ map entry_of files → i < length entries → e ≡ get_or entries i e → IsRising (flat files) → IsFileAt files i e samples
file_at files entries i e samples are low is rises = go files refl
  where
    within : i < length files
    within = let long = ap length are in omega (arith, low, long, length-map files entry_of)

    go : (fs : List Filed) → fs ≡ files → IsFileAt files i e samples
    go [] same = let long = ap length same in absurd (omega (arith, long, within))
    go (d ∷ ds) same =
        let f : Filed = get_or files i d in
        let more : flat (take (i + 1) files) ≡ flat (take i files) ++ f.samples =
        ap flat (take_more files i d within) ∙ (flat_map-append (λ (h : Filed). h.samples) (take i files) (f ∷ []) ∙ ap (λ (l : List Sample). flat (take i files) ++ l) (append-nil f.samples)) in
        let split : flat files ≡ flat (take (i + 1) files) ++ flat (drop (i + 1) files) = ap flat (sym (take-append-drop (i + 1) files)) ∙ flat_map-append (λ (h : Filed). h.samples) (take (i + 1) files) (drop (i + 1) files) in
        let front : IsRising (flat (take i files) ++ f.samples) = subst IsRising more (RisesFrom-front 0 (flat (take (i + 1) files)) (flat (drop (i + 1) files)) (subst IsRising split rises)) in
        record {
          file = f;
          within = Contains-get_or files i d within;
          entry = sym (is ∙ (ap (λ (l : List Entry). get_or l i e) are ∙ get_or-map entry_of files i d e within));
          adds = ap (over samples) more ∙ sym (over_flushed samples (flat (take i files)) f.samples front);
        }

-- Tallies by what the entries alone say

pub rise_both : (n : ℕ) (xs ys : List Entry) → RiseFrom n (xs ++ ys) → RiseFrom n xs × RiseFrom (end_of_files n xs) ys
rise_both n [] ys rise = (tt, rise)
rise_both n (x ∷ xs) ys rise = let both = rise_both (max n (x.last + 1)) xs ys rise.1 in ((rise.0, both.0), both.1)

pub end_both : (n : ℕ) (xs ys : List Entry) → end_of_files n (xs ++ ys) ≡ end_of_files (end_of_files n xs) ys
end_both n [] ys = refl
end_both n (x ∷ xs) ys = end_both (max n (x.last + 1)) xs ys

pub count_both : (xs ys : List Entry) → listed_count (xs ++ ys) ≡ listed_count xs + listed_count ys
count_both xs ys = sum_by-append (λ (e : Entry). e.count) xs ys

-- the file at a place of the list
pub record IsNext (n i : ℕ) (es : List Entry) (e : Entry) : Type 0 where
  pub low : end_of_files n (take i es) ≤ e.first
  pub count : listed_count (take (i + 1) es) ≡ listed_count (take i es) + e.count
  pub end : end_of_files n (take (i + 1) es) ≡ max (end_of_files n (take i es)) (e.last + 1)

pub next_listed : (n i : ℕ) (es : List Entry) (e : Entry) → i < length es → e ≡ get_or es i e → RiseFrom n es → IsNext n i es e
next_listed n i es e within is rise =
    let one : take (i + 1) es ≡ take i es ++ e ∷ [] = take_more es i e within ∙ ap (λ (x : Entry). take i es ++ x ∷ []) (sym is) in
    let split : es ≡ (take i es ++ e ∷ []) ++ drop (i + 1) es = sym (take-append-drop (i + 1) es) ∙ ap (λ (l : List Entry). l ++ drop (i + 1) es) one in
    let front : RiseFrom n (take i es ++ e ∷ []) = (rise_both n (take i es ++ e ∷ []) (drop (i + 1) es) (subst (RiseFrom n) split rise)).0 in
    record {
      low = (rise_both n (take i es) (e ∷ []) front).1.0;
      count = sum_by_more (λ (x : Entry). x.count) es i e within ∙ ap (λ (x : Entry). listed_count (take i es) + x.count) (sym is);
      end = ap (end_of_files n) one ∙ end_both n (take i es) (e ∷ []);
    }

-- one file more
pub adds_more : (old was new : Tally) (es : List Entry) (i : ℕ) (e : Entry) → i < length es → e ≡ get_or es i e → (RiseFrom (behind old.last) es → (was.count ≡ old.count + listed_count (take i es)) × (behind was.last ≡ end_of_files (behind old.last) (take i es)))
    → (behind was.last ≤ e.first → (new.count ≡ was.count + e.count) × (behind new.last ≡ max (behind was.last) (e.last + 1)))
    → RiseFrom (behind old.last) es → (new.count ≡ old.count + listed_count (take (i + 1) es)) × (behind new.last ≡ end_of_files (behind old.last) (take (i + 1) es))
adds_more old was new es i e within is before step rise =
    let known = before rise in
    let next = next_listed (behind old.last) i es e within is rise in
    let sum = known.0 in
    let end = known.1 in
    let low = next.low in
    let made = step (omega (arith, end, low)) in
    let more = made.0 in
    let count = next.count in
    (omega (arith, sum, more, count), made.1 ∙ ap (λ (n : ℕ). max n (e.last + 1)) end ∙ sym next.end)

pub ends_more : (n : ℕ) (es : List Entry) (i : ℕ) (e : Entry) (was now : ℕ) → i < length es → e ≡ get_or es i e → was ≡ end_of_files n (take i es) → now ≡ max was (e.last + 1) → now ≡ end_of_files n (take (i + 1) es)
ends_more n es i e was now within is before step =
    let one : take (i + 1) es ≡ take i es ++ e ∷ [] = take_more es i e within ∙ ap (λ (x : Entry). take i es ++ x ∷ []) (sym is) in
    step ∙ (ap (λ (k : ℕ). max k (e.last + 1)) before ∙ sym (ap (end_of_files n) one ∙ end_both n (take i es) (e ∷ [])))

-- one list after another
pub ends_both : (n mid last : ℕ) (xs ys : List Entry) → mid ≡ end_of_files n xs → last ≡ end_of_files mid ys → last ≡ end_of_files n (xs ++ ys)
ends_both n mid last xs ys first second = second ∙ (ap (λ (k : ℕ). end_of_files k ys) first ∙ sym (end_both n xs ys))

pub adds_both : (old mid new : Tally) (xs ys : List Entry) → Adds old xs mid → Adds mid ys new → Adds old (xs ++ ys) new
adds_both old mid new xs ys first second rise =
    let both = rise_both (behind old.last) xs ys rise in
    let a = first both.0 in
    let b = second (subst (λ (n : ℕ). RiseFrom n ys) (sym a.1) both.1) in
    let one = a.0 in
    let two = b.0 in
    (omega (arith, one, two, count_both xs ys), ends_both (behind old.last) (behind mid.last) (behind new.last) xs ys a.1 b.1)

pub ok_weaker : {A E : Type 0} (P Q : A → Type 0) (r : Result A E) → ((a : A) → P a → Q a) → IfOk r P → IfOk r Q
ok_weaker P Q (Ok a) step is = step a is
ok_weaker P Q (Err e) step is = tt

-- THE LAST MOMENT

last_from : (x : Sample) (xs : List Sample) → (l : ℕ) × (last_time (x ∷ xs) ≡ Some l) × (end_from (x.t + 1) xs ≡ l + 1)
last_from x [] = (x.t, refl, refl)
last_from x (y ∷ ys) = last_from y ys

pub ends_last : (o : Option ℕ) (xs : List Sample) → behind o ≡ end_of xs → o ≡ last_time xs
ends_last None [] is = refl
ends_last None (x ∷ xs) is = let l = last_from x xs in let end = l.2 in absurd (omega (arith, is, end))
ends_last (Some t) [] is = absurd (omega (arith, is))
ends_last (Some t) (x ∷ xs) is = let l = last_from x xs in let end = l.2 in let same : t ≡ l.0 = omega (arith, is, end) in ap (λ (n : ℕ). let o : Option ℕ = Some n in o) same ∙ sym l.1

-- WHAT A STORE LISTS OF A ROW

-- each is of the row
pub own_rows : (ms : List ManifestState) (k row n : ℕ) → row < n → All (λ (e : Entry). e.series < n) (entries_of row (slice_get ms k))
own_rows ms k row n low = go (slice_get ms k)
  where
    test : Entry → Bool
    test e = nat_eq e.series row

    go : (o : Option ManifestState) → All (λ (e : Entry). e.series < n) (entries_of row o)
    go None = all_none (λ (e : Entry). e.series < n)
    go (Some m) = λ j d lt. let own = (Decides-eqb (get_or (filter test m.entries) j d).series row).0 (filter_passes test m.entries j d lt) in omega (arith, own, low)

pub known_files : (catalogue : CatalogueState) (ms : List ManifestState) (held : Stores) → IsKnown catalogue ms held → (k row : ℕ) → k < 3 → entries_of row (slice_get ms k) ≡ map entry_of (of_row row (list_at k held))
known_files catalogue ms held known k row low =
    let m = manifest_at ms k (let three = known.three in omega (arith, three, low)) in
    let test : Entry → Bool = λ e. nat_eq e.series row in
    ap (entries_of row) m.1 ∙ (ap (filter test) (known.each k m.0 m.1).entries ∙ filter-map test (list_at k held))

module _ (tells : Bool) (at : Seen) (held : Stores) (has : Has tells at held) (k row : ℕ) (low : k < 3) where
  manifest : (m : ManifestState) × (slice_get at.manifests k ≡ Some m)
  manifest = let three = has.known.three in manifest_at at.manifests k (omega (arith, three, low))

  pub own_files : entries_of row (slice_get at.manifests k) ≡ map entry_of (of_row row (list_at k held))
  own_files = known_files at.catalogue at.manifests held has.known k row low

  -- and at least as long as it is listed
  pub own_long : IsTrue tells → (later : Files) (rows : List Row) → later ≡ at.files → rows ≡ at.catalogue.rows → All (IsLong later (k + 1, rows)) (entries_of row (slice_get at.manifests k))
  own_long told later rows same same_rows =
      let m = manifest in
      let stored = (has.disk told).each k m.0 m.1 in
      let t : Held = tier k held in
      let shelf : Shelf = (k + 1, rows) in
      let shelves : ◌≡◌ {A = Shelf} (shelf_of t) shelf = λ i. (k + 1, sym (same_rows ∙ has.known.rows) i) in
      let all : All (λ (f : Filed). IsLong later shelf f.entry) (list_at k held) =
      subst (λ (s : Shelf). All (λ (f : Filed). IsLong later s f.entry) (list_at k held)) shelves (subst (λ (fs : Files). All (λ (f : Filed). IsLong fs (shelf_of t) f.entry) (list_at k held)) (sym same) stored.safe.long) in
      let test : Filed → Bool = λ f. nat_eq f.entry.series row in
      subst (All (IsLong later shelf)) (sym own_files) (All-map (IsLong later shelf) entry_of (of_row row (list_at k held)) (All-filter test (λ (f : Filed). IsLong later shelf f.entry) (list_at k held) all))

  -- where what is held stands, they are files of the row, and their samples rise
  pub record AreOwnFiles (later : Files) (rows : List Row) : Type 0 where
    pub granularity : Granularity
    pub whole : All (IsWhole granularity (k + 1, rows) later) (of_row row (list_at k held))
    pub rises : IsRising (samples_of row (list_at k held))

  pub own_whole : IsTrue tells → IsTrue held.stands → MayLeave at.past at.files → (later : Files) (rows : List Row) → later ≡ at.files → rows ≡ at.catalogue.rows → AreOwnFiles later rows
  own_whole told stands seen later rows same same_rows =
      let m = manifest in
      let stored = (has.disk told).each k m.0 m.1 in
      let t : Held = tier k held in
      let g = m.0.granularity in
      let shelf : Shelf = (k + 1, rows) in
      let shelves : ◌≡◌ {A = Shelf} (shelf_of t) shelf = λ i. (k + 1, sym (same_rows ∙ has.known.rows) i) in
      let filed : All (IsFiled g held.rows) (list_at k held) = stored.valid.filed.filed stands in
      let inside : All (IsIn (shelf_of t) at.files) (list_at k held) = stored.safe.left at.files seen stands in
      let test : Filed → Bool = λ f. nat_eq f.entry.series row in
      let all : All (IsWhole g (shelf_of t) at.files) (list_at k held) = λ j d lt. record { filed = filed j d lt; inside = inside j d lt } in
      let moved : All (IsWhole g shelf later) (list_at k held) = subst (λ (s : Shelf). All (IsWhole g s later) (list_at k held)) shelves (subst (λ (fs : Files). All (IsWhole g (shelf_of t) fs) (list_at k held)) (sym same) all) in
      record {
        granularity = g;
        whole = All-filter test (IsWhole g shelf later) (list_at k held) moved;
        rises = row_rises g held.rows row (list_at k held) filed stored.valid.apart;
      }

-- THE WHOLE OF A ROW

-- ROW BY ROW

pub overs_both : (s : Stores) (xs : List Sample) (rows more : List ℕ) → overs s xs (rows ++ more) ≡ overs s (overs s xs rows) more
overs_both s xs [] more = refl
overs_both s xs (row ∷ rows) more = overs_both s (over xs (samples_in row s)) rows more

pub overs_more : (s : Stores) (xs : List Sample) (rows : List ℕ) (i : ℕ) → i < length rows → overs s xs (take (i + 1) rows) ≡ over (overs s xs (take i rows)) (samples_in (get_or rows i 0) s)
overs_more s xs rows i within = ap (overs s xs) (take_more rows i 0 within) ∙ overs_both s xs (take i rows) (get_or rows i 0 ∷ [])

pub listed_more : (ms : List ManifestState) (rows : List ℕ) (i : ℕ) → i < length rows → flat_map (λ (k : ℕ). entries_in k ms) (take (i + 1) rows) ≡ flat_map (λ (k : ℕ). entries_in k ms) (take i rows) ++ entries_in (get_or rows i 0) ms
listed_more ms rows i within =
    let f : ℕ → List Entry = λ k. entries_in k ms in
    let row = get_or rows i 0 in
    ap (flat_map f) (take_more rows i 0 within) ∙ (flat_map-append f (take i rows) (row ∷ []) ∙ ap (λ (l : List Entry). flat_map f (take i rows) ++ l) (append-nil (f row)))

-- three stores, one over the other
pub over_three : (xs a b d : List Sample) → IsRising a → IsRising b → over (over (over xs a) b) d ≡ over xs (over (over a b) d)
over_three xs a b d one two = ap (λ (l : List Sample). over l d) (over_assoc xs a b one) ∙ over_assoc xs (over a b) d (over_rising a b one two)

-- what is counted of one row more
pub counts_more : (was new : Tally) (xs ys : List Entry) → (RiseFrom 0 xs → was.count ≡ listed_count xs) → behind was.last ≡ end_of_files 0 xs → Adds was ys new → RiseFrom 0 (xs ++ ys) → new.count ≡ listed_count (xs ++ ys)
counts_more was new xs ys before end adds rise =
    let both = rise_both 0 xs ys rise in
    let old = before both.0 in
    let more = (adds (subst (λ (n : ℕ). RiseFrom n ys) (sym end) both.1)).0 in
    omega (arith, old, more, count_both xs ys)

-- WHERE THE WHOLE ENDS

end_max : (n : ℕ) (es : List Entry) → end_of_files n es ≡ max n (end_of_files 0 es)
end_max n [] = omega arith
end_max n (e ∷ es) =
    let l = e.last + 1 in
    let z = end_of_files 0 es in
    let same : max (max n l) z ≡ max n (max (max 0 l) z) = omega arith in
    end_max (max n l) es ∙ (same ∙ ap (max n) (sym (end_max (max 0 l) es)))

-- the order doesn't matter
end_swap : (n : ℕ) (xs ys : List Entry) → end_of_files (end_of_files n xs) ys ≡ end_of_files (end_of_files n ys) xs
end_swap n xs ys =
    let x = end_of_files 0 xs in
    let y = end_of_files 0 ys in
    let same : max (max n x) y ≡ max (max n y) x = omega arith in
    end_max (end_of_files n xs) ys ∙ (ap (λ (k : ℕ). max k y) (end_max n xs) ∙ (same ∙ sym (end_max (end_of_files n ys) xs ∙ ap (λ (k : ℕ). max k x) (end_max n ys))))

-- down a line, from a row to its base
pub step_down : (ms : List ManifestState) (rows : List Row) → AreRows rows → (id : ℕ) (row : Row) → slice_get rows id ≡ Some row → (n m : ℕ) → m ≡ end_of_files n (entries_in id ms)
    → end_of_files m (flat_map (λ (k : ℕ). entries_in k ms) (line_known (lines [] rows) row.base)) ≡ end_of_files n (flat_map (λ (k : ℕ). entries_in k ms) (line rows id))
step_down ms rows are id row here n m own =
    let f : ℕ → List Entry = λ k. entries_in k ms in
    let known = line_known (lines [] rows) row.base in
    let base = flat_map f known in
    let all : flat_map f (line rows id) ≡ base ++ f id = ap (flat_map f) (line_over rows are id row here) ∙ (flat_map-append f known (id ∷ []) ∙ ap (λ (l : List Entry). base ++ l) (append-nil (f id))) in
    ap (λ (k : ℕ). end_of_files k base) own ∙ (end_swap n (f id) base ∙ sym (ap (end_of_files n) all ∙ end_both n base (f id)))

pub base_before : (rows : List Row) → AreRows rows → (id : ℕ) (row : Row) → slice_get rows id ≡ Some row → behind row.base < id + 1
base_before rows are id row here = go row.base refl
  where
    go : (o : Option ℕ) → row.base ≡ o → behind o < id + 1
    go None is = omega arith
    go (Some b) is = let below = (are.over id row b here is).below in omega (arith, below)

-- files whose samples rise
files_end : (g : Granularity) (rows : List Row) (fs : List Filed) (n m : ℕ) → All (IsFiled g rows) fs → RisesFrom m (flat fs) → m ≤ n → end_of_files n (map entry_of fs) ≡ max n (end_from m (flat fs))
files_end g rows [] n m filed rises low = omega (arith, low)
files_end g rows (f ∷ fs) n m filed rises low =
    let is = All-head (IsFiled g rows) f fs filed in
    let l = f.entry.last + 1 in
    let z = end_from l (flat fs) in
    let own : end_from m f.samples ≡ l = ap (end_from m) is.some ∙ (sym (ap end_of is.some) ∙ sym is.to) in
    let rest : RisesFrom l (flat fs) = subst (λ (k : ℕ). RisesFrom k (flat fs)) own (RisesFrom-rest m f.samples (flat fs) rises) in
    let high : l ≤ z = end_from-ge l (flat fs) rest in
    let same : max (max n l) z ≡ max n z = omega (arith, high) in
    files_end g rows fs (max n l) l (All-tail (IsFiled g rows) f fs filed) rest (omega arith)
    ∙ (same ∙ ap (max n) (sym (end_from-append m f.samples (flat fs) ∙ ap (λ (k : ℕ). end_from k (flat fs)) own)))

module _ (catalogue : CatalogueState) (ms : List ManifestState) (held : Stores) (known : IsKnown catalogue ms held) (stands : IsTrue held.stands) where
  -- what a store holds of a row
  record OfRow (k row : ℕ) : Type 0 where
    rises : IsRising (samples_of row (list_at k held))
    end : (n : ℕ) → end_of_files n (entries_of row (slice_get ms k)) ≡ max n (end_of (samples_of row (list_at k held)))

  of_place : (k row : ℕ) → k < 3 → OfRow k row
  of_place k row low =
      let m = manifest_at ms k (let three = known.three in omega (arith, three, low)) in
      let is : IsKnownAt m.0 _ = known.each k m.0 m.1 in
      let g = m.0.granularity in
      let files = list_at k held in
      let filed : All (IsFiled g held.rows) files = is.valid.filed.filed stands in
      let rises = row_rises g held.rows row files filed is.valid.apart in
      record {
        rises = rises;
        end = λ n. ap (end_of_files n) (known_files catalogue ms held known k row low)
            ∙ files_end g held.rows (of_row row files) n 0 (All-filter (λ (f : Filed). nat_eq f.entry.series row) (IsFiled g held.rows) files filed) rises (omega arith);
      }

  pub row_rises_in : (row : ℕ) → IsRising (samples_in row held)
  row_rises_in row =
      let long = samples_of row held.long in
      let medium = samples_of row held.medium in
      over_rising (over long medium) (samples_of row held.short) (over_rising long medium (of_place 2 row (omega arith)).rises (of_place 1 row (omega arith)).rises) (of_place 0 row (omega arith)).rises

  row_end : (row n : ℕ) → end_of_files n (entries_in row ms) ≡ max n (end_of (samples_in row held))
  row_end row n =
      let long = of_place 2 row (omega arith) in
      let medium = of_place 1 row (omega arith) in
      let short = of_place 0 row (omega arith) in
      let a = entries_of row (slice_get ms 2) in
      let b = entries_of row (slice_get ms 1) in
      let d = entries_of row (slice_get ms 0) in
      let x = end_of (samples_of row held.long) in
      let y = end_of (samples_of row held.medium) in
      let z = end_of (samples_of row held.short) in
      let same : max (max (max n x) y) z ≡ max n (max (max x y) z) = omega arith in
      let listed : end_of_files n ((a ++ b) ++ d) ≡ max (max (max n x) y) z =
      end_both n (a ++ b) d ∙ (short.end (end_of_files n (a ++ b)) ∙ ap (λ (k : ℕ). max k z) (end_both n a b ∙ (medium.end (end_of_files n a) ∙ ap (λ (k : ℕ). max k y) (long.end n)))) in
      let both : end_of (samples_in row held) ≡ max (max x y) z =
      end_of-over (over (samples_of row held.long) (samples_of row held.medium)) (samples_of row held.short) short.rises ∙ ap (λ (k : ℕ). max k z) (end_of-over (samples_of row held.long) (samples_of row held.medium) medium.rises) in
      listed ∙ (same ∙ ap (max n) (sym both))

  rows_end : (rows : List ℕ) (xs : List Sample) → end_of_files (end_of xs) (flat_map (λ (k : ℕ). entries_in k ms) rows) ≡ end_of (overs held xs rows)
  rows_end [] xs = refl
  rows_end (row ∷ rows) xs =
      let rest = flat_map (λ (k : ℕ). entries_in k ms) rows in
      end_both (end_of xs) (entries_in row ms) rest
      ∙ (ap (λ (n : ℕ). end_of_files n rest) (row_end row (end_of xs) ∙ sym (end_of-over xs (samples_in row held) (row_rises_in row))) ∙ rows_end rows (over xs (samples_in row held)))

  -- by what is listed
  pub whole_end : (row : ℕ) → end_of_files 0 (entries_of_line row catalogue.rows ms) ≡ end_of (whole_in row held)
  whole_end row = ap (λ (rs : List Row). end_of_files 0 (entries_of_line row rs ms)) known.rows ∙ rows_end (line held.rows row) []

-- A RENAME

overs_rows : (s : Stores) (later : List Row) (xs : List Sample) (rows : List ℕ) → overs (with_rows s later) xs rows ≡ overs s xs rows
overs_rows s later xs [] = refl
overs_rows s later xs (row ∷ rows) = overs_rows s later (over xs (samples_in row s)) rows

-- a row that was there keeps its whole
pub rename_stays : (row : ℕ) (name : List ℕ) (s made : Stores) → AreRows s.rows → Renames row name s made → (i : ℕ) → i < length s.rows → whole_in i made ≡ whole_in i s
rename_stays row name s made are by i low =
    let later = renamed row name s.rows in
    let x = get_at s.rows i low in
    subst (λ (n : Stores). whole_in i n ≡ whole_in i s) (sym by.2)
    (overs_rows s later [] (line later i) ∙ ap (overs s []) (line_kept s.rows later are (keeps_renamed s.rows row name by.0) (i + 1) i x.0 (omega arith) x.1))
  where
    get_at : (rows : List Row) (k : ℕ) → k < length rows → (r : Row) × (slice_get rows k ≡ Some r)
    get_at [] k low = absurd (omega (arith, low))
    get_at (r ∷ rows) zero low = (r, refl)
    get_at (r ∷ rows) (suc k) low = get_at rows k (omega (arith, low))

-- of a row that isn't there nothing is held
none_held : (g : Granularity) (rows : List Row) (files : List Filed) → All (IsFiled g rows) files → samples_of (length rows) files ≡ []
none_held g rows [] filed = refl
none_held g rows (f ∷ fs) filed =
    let is = All-head (IsFiled g rows) f fs filed in
    let low : f.entry.series < length rows = slice_get_within rows f.entry.series is.row is.stands in
    let other : nat_eq f.entry.series (length rows) ≡ false = grind (arith, nat_tests) in
    ap (λ (b : Bool). flat (cond b (f ∷ of_row (length rows) fs) (of_row (length rows) fs))) other ∙ none_held g rows fs (All-tail (IsFiled g rows) f fs filed)

module _ (catalogue : CatalogueState) (ms : List ManifestState) (held : Stores) (known : IsKnown catalogue ms held) (stands : IsTrue held.stands) (are : AreRows held.rows) where
  none_there : (k : ℕ) → k < 3 → samples_of (length held.rows) (list_at k held) ≡ []
  none_there k low =
      let m = manifest_at ms k (let three = known.three in omega (arith, three, low)) in
      none_held m.0.granularity held.rows (list_at k held) ((known.each k m.0 m.1).valid.filed.filed stands)

  new_row_holds : samples_in (length held.rows) held ≡ []
  new_row_holds = rw (none_there 2 (omega arith)) (rw (none_there 1 (omega arith)) (rw (none_there 0 (omega arith)) refl))

  -- the variable keeps its whole under its new name
  pub rename_keeps : (row : ℕ) (name : List ℕ) (made : Stores) → AreRows made.rows → Renames row name held made → whole_in (length held.rows) made ≡ whole_in row held
  rename_keeps row name made are_made by =
      let n = length held.rows in
      let was = by.0.row in
      let new = renamed_row row n name was in
      let front = switched row Retired held.rows in
      let rows : made.rows ≡ front ++ new ∷ [] = ap (λ (s : Stores). s.rows) by.2 ∙ renamed_rows held.rows row name was by.0.here in
      let there : slice_get made.rows n ≡ Some new =
      ap (λ (rs : List Row). slice_get rs n) rows
      ∙ (slice_get-get_or (front ++ new ∷ []) n new (omega (arith, length-append front (new ∷ []), length-switched row Retired held.rows)) ∙ ap (λ (r : Row). Some r) (get_or_push front new new n (length-switched row Retired held.rows))) in
      let nothing : samples_in n made ≡ [] = ap (samples_in n) by.2 ∙ new_row_holds in
      ap (overs made []) (line_over made.rows are_made n new there)
      ∙ (overs_both made [] (line made.rows row) (n ∷ [])
      ∙ (ap (λ (xs : List Sample). over (whole_in row made) xs) nothing
      ∙ (append-nil (whole_in row made) ∙ rename_stays row name held made are by row (slice_get_within held.rows row was by.0.here))))
