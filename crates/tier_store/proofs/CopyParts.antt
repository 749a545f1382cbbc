-- The part that a move copies next, as its store holds it. One of which nothing is left is passed.
use Rattle.std.proofs.Common.{◌≡◌, ◌≢◌, inl, inr, Bool, ℕ, zero, suc, ◌<◌, ◌≤◌, ◌+◌, List, [], ◌∷◌, ◌++◌, length, map, take, Option, Some, None, true, refl, sym, ◌∙◌, ap, subst, arith, false, Bor, ℤ, set, append-nil}
use Rattle.std.specs.Prelude.{Contains, IsTrue, nat_eq, slice_get, All, drop, nat_lt, is_some, option_copied}
use Rattle.std.proofs.lemmas.Bool.{cases_lt, eqb-true, cond-false, cond-true}
use Rattle.std.proofs.lemmas.List.{length-append, length-map, length-set, length-take}
use Rattle.std.proofs.lemmas.List.Elements.{All-contains, filter_passes, All-nil}
use Rattle.std.proofs.lemmas.Option.{same_Some, get_or_from_slice_get, slice_get_within}
use Rattle.disk_model.specs.Files.{Files, HasFile, Name}
use Rattle.disk_model.specs.Past.{MayLeave}
use Rattle.etl_mover.specs.Copying.{last_of}
use Rattle.etl_mover.specs.Move.{IsMove, Moving, StillLists, of_series}
use Rattle.etl_mover.specs.Step.{source_file, finished}
use Rattle.partition_names.specs.declared.granularity.Granularity.{Granularity}
use Rattle.partition_names.specs.declared.part.Part.{Part}
use Rattle.partition_names.specs.Path.{path_of}
use Rattle.store_files.specs.Fronts.{Begins}
use Rattle.store_manifest.specs.Entries.{Place}
use Rattle.store_manifest.specs.Manifest.{ManifestState}
use Rattle.store_manifest.specs.declared.entry.Entry.{Entry}
use Rattle.durable_write.specs.Held.{Filed, IsFiled, IsIn, bytes_of, entry_of, file_of, name_of, Held}
use Rattle.durable_write.specs.Plan.{IsLastOf, of_row}
use Rattle.durable_write.proofs.Commits.{filter-map}
use Rattle.tier_store.specs.Stores.{Stores, list_at, tier}
use Rattle.tier_store.specs.Seen.{granularities}
use Rattle.tier_store.specs.Change.{Has, IsListedIn}
use Rattle.tier_store.specs.Copied.{IsPartFile, end_after}
use Rattle.tier_store.specs.Copying.{CopiesBeside, CopiesFurther, FindsPart, IsNextPart, CopiesOrHas, FindsLine, HasLater, IsDamaged, SaysLine, line_of, of_line, with_heads, HasPassedAll, IsAllLater, KnowsCopied, KnowsHeads, KnowsLengths, PassesParts, PassesRest, left_of, samples_ahead}
use Rattle.tier_store.specs.Finding.{IsFrom, IsNext, IsUpTo, SaysFile, IsBadPart, SplitsAt, no_line, unread}
use Rattle.tier_store.specs.declared.finding.LaterLines.{LaterLines}
use Rattle.tier_store.specs.Moving.{ListsParts, MayBeListed, RunsBeside}
use Rattle.tier_store.specs.Pinned.{SeenAll}
use Rattle.tier_store.specs.Retiring.{oldest}
use Rattle.tier_store.proofs.Showing.{from_filter}
use Rattle.tier_store.proofs.Places.{manifest_of}
use Rattle.durable_write.proofs.Written.{contains_entry, one_of_place}
use Rattle.std.proofs.lemmas.Bool.Decides.{nat_tests}
use Rattle.std.proofs.Math.ListN.{drop_of_length-le}
use Rattle.std.proofs.Math.Seq.{map-set_same}
use Rattle.etl_mover.proofs.Steps.{still_lists, advances_covered}
use Rattle.pb_lines.specs.File.{lines_of}
use Rattle.pb_wire.specs.declared.payload.PayloadType.{PayloadType}
use Rattle.pb_lines.proofs.FileLines.{lines_of-append}
use Rattle.pv_catalog.specs.declared.row.Row.{Row}
use Rattle.series_model.specs.Series.{end_of, since}
use Rattle.series_model.specs.declared.sample.Sample.{Sample}
use Rattle.durable_write.specs.Flush.{with_files}
use Rattle.durable_write.specs.Stored.{AreHeld}
use Rattle.durable_write.proofs.Staying.{same_cases}
use Rattle.tier_store.specs.declared.copying.NextLine.{NextLine}
use Rattle.tier_store.specs.declared.copying.NextLine.TheVariants as next_line
use Rattle.tier_store.specs.declared.copying.PartLines.{PartLines}
use Rattle.tier_store.specs.declared.finding.LaterLines.TheVariants.{At, Damaged}
use Rattle.tier_store.proofs.CopyLeft.{left_more, splits_here}
use Rattle.tier_store.proofs.CopyFiles.{end_is}
use Rattle.tier_store.proofs.RunningMoves.{valid_with}
use Rattle.etl_mover.specs.Lines.{IsSampleStart}
use Rattle.tier_store.proofs.Lines.{no_length}

-- THE NEXT PART

-- a move that copies beside the stores copies further
abbrev pub further : (from : ℕ) (tells : Bool) (all : SeenAll) (move : Moving) (files : List Filed) (held : Stores) → CopiesBeside from tells all move files held → CopiesFurther from tells all move files held
further from tells all move files held is = record { runs = is.runs; stage = is.stage; left = is.left; heads = is.heads; lengths = is.lengths; last = is.last; told = is.told }

-- a move of which no more changed than its parts and what it is to list runs beside the stores as before
pub runs_by : (i : ℕ) (tells : Bool) (old new : SeenAll) (move nm : Moving) (files more : List Filed) (held : Stores) → granularities new.stores.manifests ≡ granularities old.stores.manifests → nm ≡ record move { parts = nm.parts; at = nm.at; pending = nm.pending } → (runs : RunsBeside i tells old move files held) → IsMove runs.fine nm → ListsParts (list_at runs.from held) nm
    → (nm.at ≢ length nm.parts → move.at ≢ length move.parts) → nm.pending ≡ map entry_of more → MayBeListed i tells new held more → RunsBeside i tells new nm more held
runs_by i tells old new move nm files more held same is runs running parts left pending ahead = record {
  from = runs.from;
  next = runs.next;
  fine = runs.fine;
  from_fine = ap (λ (gs : List Granularity). slice_get gs runs.from) same ∙ runs.from_fine;
  to_coarse = ap (λ (gs : List Granularity). slice_get gs i) same ∙ (runs.to_coarse ∙ ap (λ (x : Moving). Some x.granularity) (sym is));
  running = running;
  numbers = λ told. (ap (λ (x : Moving). x.source) is ∙ (runs.numbers told).0, ap (λ (x : Moving). x.destination) is ∙ (runs.numbers told).1);
  row = runs.row;
  stands = ap (λ (x : Moving). slice_get held.rows x.series) is ∙ runs.stands;
  name = runs.name ∙ ap (λ (x : Moving). x.name) (sym is);
  parts = parts;
  last = λ some. subst (λ (x : Moving). IsLastOf (map entry_of (list_at i held)) x.series x.listed) (sym is) (runs.last (left some));
  pending = pending;
  ahead = ahead;
}

-- LISTS AT A PLACE

pub some_at : {A : Type 0} (xs : List A) (k : ℕ) → k < length xs → (x : A) × (slice_get xs k ≡ Some x)
some_at [] k low = absurd (omega (arith, low))
some_at (x ∷ xs) zero low = (x, refl)
some_at (x ∷ xs) (suc k) low = some_at xs k (omega (arith, low))

pub some_entry : (xs : List Entry) (k : ℕ) → k < length xs → (x : Entry) × (slice_get xs k ≡ Some x)
some_entry xs k low = some_at xs k low

pub entry_at : (fs : List Filed) (k : ℕ) (q : Filed) → slice_get fs k ≡ Some q → slice_get (map entry_of fs) k ≡ Some q.entry
entry_at [] k q here = absurd (cc (here))
entry_at (f ∷ fs) zero q here = ap (λ (x : Filed). Some x.entry) (same_Some f q here)
entry_at (f ∷ fs) (suc k) q here = entry_at fs k q here

front_at : (xs ys : List Entry) (k : ℕ) (x : Entry) → k < length xs → slice_get (xs ++ ys) k ≡ Some x → slice_get xs k ≡ Some x
front_at [] ys k x low here = absurd (omega (arith, low))
front_at (y ∷ xs) ys zero x low here = here
front_at (y ∷ xs) ys (suc k) x low here = front_at xs ys k x (omega (arith, low)) here

pub take_at : (fs : List Filed) (n k : ℕ) (q : Filed) → k < n → slice_get fs k ≡ Some q → slice_get (take n fs) k ≡ Some q
take_at [] n k q low here = absurd (cc (here))
take_at (f ∷ fs) zero k q low here = absurd (omega (arith, low))
take_at (f ∷ fs) (suc n) zero q low here = here
take_at (f ∷ fs) (suc n) (suc k) q low here = take_at fs n k q (omega (arith, low)) here

same_parts : (xs ys : List Entry) (k : ℕ) (x y : Entry) → map (λ (e : Entry). e.part) xs ≡ map (λ (e : Entry). e.part) ys → slice_get xs k ≡ Some x → slice_get ys k ≡ Some y → x.part ≡ y.part
same_parts [] ys k x y same one two = absurd (cc (one))
same_parts (a ∷ xs) [] k x y same one two = absurd (cc (two))
same_parts (a ∷ xs) (b ∷ ys) zero x y same one two =
    let head : a.part ≡ b.part = cc (same) in
    ap (λ (e : Entry). e.part) (sym (same_Some a x one)) ∙ head ∙ ap (λ (e : Entry). e.part) (same_Some b y two)
same_parts (a ∷ xs) (b ∷ ys) (suc k) x y same one two = same_parts xs ys k x y (cc (same)) one two

same_heads : (xs : List Filed) (ys : List Entry) (k : ℕ) (x : Filed) (y : Entry) → map (λ (f : Filed). f.entry.head_len) xs ≡ map (λ (e : Entry). e.head_len) ys → slice_get xs k ≡ Some x → slice_get ys k ≡ Some y → x.entry.head_len ≡ y.head_len
same_heads [] ys k x y same one two = absurd (cc (one))
same_heads (a ∷ xs) [] k x y same one two = absurd (cc (two))
same_heads (a ∷ xs) (b ∷ ys) zero x y same one two =
    let head : a.entry.head_len ≡ b.head_len = cc (same) in
    ap (λ (f : Filed). f.entry.head_len) (sym (same_Some a x one)) ∙ head ∙ ap (λ (e : Entry). e.head_len) (same_Some b y two)
same_heads (a ∷ xs) (b ∷ ys) (suc k) x y same one two = same_heads xs ys k x y (cc (same)) one two

pub in_list : (fs : List Filed) (k : ℕ) (q : Filed) → slice_get fs k ≡ Some q → Contains fs q
in_list [] k q here = absurd (cc (here))
in_list (f ∷ fs) zero q here = (zero, omega arith, same_Some f q here)
in_list (f ∷ fs) (suc k) q here = let rest = in_list fs k q here in (suc rest.0, omega (arith, rest.1), rest.2)

-- the part that is copied next is one of the move's parts
pub part_in : (from : ℕ) (move : Moving) (held : Stores) (q : Filed) → move.at < length move.parts → IsNextPart from move held q → Contains (oldest from move.series (length move.parts) held) q
part_in from move held q low next = in_list (oldest from move.series (length move.parts) held) move.at q (take_at (of_row move.series (list_at from held)) (length move.parts) move.at q low next.here)

-- THE PART

module _ (tells : Bool) (all : SeenAll) (from : ℕ) (move : Moving) (files : List Filed) (held : Stores) (has : Has tells all.stores held) (is : CopiesFurther from tells all move files held) where
  from_is : is.runs.from ≡ from
  from_is = let next = is.runs.next in omega (arith, next)

  -- the move's own store
  pub source : (m : ManifestState) × (slice_get all.stores.manifests from ≡ Some m) × (m.granularity ≡ is.runs.fine)
  source = manifest_of all.stores.manifests from is.runs.fine (subst (λ (k : ℕ). slice_get (granularities all.stores.manifests) k ≡ Some is.runs.fine) from_is is.runs.from_fine)

  abbrev pub parts_of : List Filed
  parts_of = of_row move.series (list_at from held)

  pub low : move.at < length move.parts
  low = elim (cases_lt move.at (length move.parts)) [ inl less ↦ less | inr more ↦ absurd (is.left (let most = is.runs.running.at in omega (arith, more, most))) ]

  lists : StillLists move (record (source.0) { entries = map entry_of (list_at is.runs.from held) })
  lists = is.runs.parts (record (source.0) { entries = map entry_of (list_at is.runs.from held) }) refl

  entries_are : map entry_of parts_of ≡ lists.now ++ lists.others
  entries_are = sym (filter-map (λ (e : Entry). nat_eq e.series move.series) (list_at from held)) ∙ (ap (λ (k : ℕ). of_series move.series (map entry_of (list_at k held))) (sym from_is) ∙ lists.entries)

  long_now : length lists.now ≡ length move.parts
  long_now = let same = ap length lists.parts in omega (arith, same, length-map lists.now (λ (e : Entry). e.part), length-map move.parts (λ (e : Entry). e.part))

  -- there are at least as many files
  pub enough : length move.parts ≤ length parts_of
  enough = let same = ap length entries_are in let long = long_now in omega (arith, same, long, length-append lists.now lists.others, length-map parts_of entry_of)

  -- the memory lists them in their order
  pub entry_here : (m : ManifestState) → slice_get all.stores.manifests from ≡ Some m → (i : ℕ) (f : Filed) → slice_get parts_of i ≡ Some f → slice_get (of_series move.series m.entries) i ≡ Some f.entry
  entry_here m here i f at =
      ap (λ (es : List Entry). slice_get (of_series move.series es) i) (has.known.each from m here).entries
      ∙ (ap (λ (es : List Entry). slice_get es i) (filter-map (λ (e : Entry). nat_eq e.series move.series) (list_at from held)) ∙ entry_at parts_of i f at)

  pub filed_here : IsTrue held.stands → (i : ℕ) (f : Filed) → slice_get parts_of i ≡ Some f → IsFiled is.runs.fine held.rows f
  filed_here stands i f at = subst (λ (g : Granularity). IsFiled g held.rows f) source.2
      (All-contains (IsFiled source.0.granularity held.rows) (list_at from held) f ((has.known.each from source.0 source.1).valid.filed.filed stands) (from_filter (λ (x : Filed). nat_eq x.entry.series move.series) (list_at from held) f (in_list parts_of i f at)))

  pub next_file : (q : Filed) × IsNextPart from move held q
  next_file =
      let q = some_at parts_of move.at (let few = enough in let less = low in omega (arith, few, less)) in
      (q.0, record { here = q.1; within = from_filter (λ (f : Filed). nat_eq f.entry.series move.series) (list_at from held) q.0 (in_list parts_of move.at q.0 q.1) })

  pub next_part : (part : Entry) × (slice_get move.parts move.at ≡ Some part)
  next_part = some_at move.parts move.at low

  module _ (q : Filed) (next : IsNextPart from move held q) where
    pub q_series : q.entry.series ≡ move.series
    q_series = eqb-true q.entry.series move.series (All-contains (λ (f : Filed). nat_eq f.entry.series move.series ≡ true) parts_of q (filter_passes (λ (f : Filed). nat_eq f.entry.series move.series) (list_at from held)) (in_list parts_of move.at q next.here))

    module _ (part : Entry) (here : slice_get move.parts move.at ≡ Some part) where
      pub q_part : q.entry.part ≡ part.part
      q_part = same_parts lists.now move.parts move.at q.entry part lists.parts (front_at lists.now lists.others move.at q.entry (let long = long_now in let less = low in omega (arith, long, less)) (ap (λ (l : List Entry). slice_get l move.at) (sym entries_are) ∙ entry_at parts_of move.at q next.here)) here

      pub q_head : q.entry.head_len ≡ part.head_len
      q_head = same_heads (oldest from move.series (length move.parts) held) move.parts move.at q part is.heads (take_at parts_of (length move.parts) move.at q low next.here) here

      -- its name
      pub source_is : IsTrue tells → file_of (from + 1, held.rows) q.entry ≡ source_file move part
      source_is told =
          ap (λ (n : ℕ). (n, path_of (name_of (slice_get held.rows q.entry.series)) q.entry.part.name)) (sym (is.runs.numbers told).0)
          ∙ (ap (λ (n : ℕ). (move.source, path_of (name_of (slice_get held.rows n)) q.entry.part.name)) q_series
          ∙ (ap (λ o. (move.source, path_of (name_of o) q.entry.part.name)) is.runs.stands
          ∙ (ap (λ (t : List ℕ). (move.source, path_of t q.entry.part.name)) is.runs.name ∙ ap (λ (p : Part). (move.source, path_of move.name p.name)) q_part)))

      -- it is as long as it is listed
      pub source_there : IsTrue tells → HasFile all.stores.files (source_file move part) (λ b. q.entry.len ≤ length b)
      source_there told =
          let P : Filed → Type 0 = λ h. HasFile all.stores.files (file_of (from + 1, held.rows) h.entry) (λ b. h.entry.len ≤ length b) in
          let there : P q = All-contains P (list_at from held) q ((has.disk told).each from source.0 source.1).safe.long next.within in
          subst (λ (n : Name). HasFile all.stores.files n (λ b. q.entry.len ≤ length b)) (source_is told) there

      pub q_filed : IsTrue held.stands → IsFiled is.runs.fine held.rows q
      q_filed stands = filed_here stands move.at q next.here

      pub part_file_is : IsTrue tells → IsTrue held.stands → MayLeave all.stores.past all.stores.files → (b : List ℕ) → all.stores.files (source_file move part) ≡ Some b → IsPartFile is.runs.fine held.rows move part b q
      part_file_is told stands seen_it b file = record {
        filed = q_filed stands;
        series = q_series;
        part_is = q_part;
        head_len = q_head;
        begin =
            let there : IsIn (from + 1, held.rows) all.stores.files q = All-contains (IsIn (from + 1, held.rows) all.stores.files) (list_at from held) q (((has.disk told).each from source.0 source.1).safe.left all.stores.files seen_it stands) next.within in
            let front : Begins (bytes_of q) (Some b) = subst (Begins (bytes_of q)) (ap all.stores.files (source_is told) ∙ file) there in
            ap (λ (n : ℕ). take n b) (q_filed stands).len ∙ front;
      }

    -- what the code finds in the memory of it
    next_entry : (m : ManifestState) → slice_get all.stores.manifests from ≡ Some m → (o : Option Entry) → o ≡ slice_get (of_series move.series m.entries) move.at → o ≡ Some q.entry
    next_entry m here o is_o = is_o ∙ entry_here m here move.at q next.here

    pub lists_it : (entry : Entry) → entry ≡ q.entry → IsListedIn all.stores.manifests (from + 1) entry
    lists_it entry same = record {
      place = from;
      manifest = source.0;
      is = refl;
      here = source.1;
      listed = subst (λ (es : List Entry). Contains es entry) (sym (has.known.each from source.0 source.1).entries) (subst (Contains (map entry_of (list_at from held))) (sym same) (contains_entry (list_at from held) q next.within));
    }

    -- the place that was found in its file
    pub part_finds : (name : Name) (len : ℕ) (later : LaterLines) (entry : Entry) → entry ≡ q.entry → name ≡ file_of (from + 1, held.rows) entry → len ≡ entry.len → IsFrom entry.head_len later → IsUpTo entry.len later
        → (IsTrue held.stands → (i : ℕ) × (from + 1 ≡ i + 1) × (f : Filed) × Contains (list_at i held) f × (f.entry ≡ entry) × IsNext f.samples (end_after (last_of move.pending move.listed)) entry.head_len later)
        → (now : Files) → (IsTrue tells → HasFile now name (λ b. SaysFile entry.head_len (take entry.len b) later)) → FindsPart from tells now move held (record { name = name; len = len; later = later })
    part_finds name len later entry same named long behind within found now told = record {
      file = q;
      next = next;
      long = sym (long ∙ ap (λ (e : Entry). e.len) same);
      named = named ∙ ap (file_of (from + 1, held.rows)) same;
      behind = subst (λ (e : Entry). IsFrom e.head_len later) same behind;
      within = subst (λ (e : Entry). IsUpTo e.len later) same within;
      splits = λ stands. go (found stands);
      told = λ tell. subst (λ (e : Entry). HasFile now name (λ b. SaysFile e.head_len (take e.len b) later)) same (told tell);
    }
      where
        go : (i : ℕ) × (from + 1 ≡ i + 1) × (f : Filed) × Contains (list_at i held) f × (f.entry ≡ entry) × IsNext f.samples (end_after (last_of move.pending move.listed)) entry.head_len later → IsNext q.samples (end_after (last_of move.pending move.listed)) q.entry.head_len later
        go (i, store, f, within, is_entry, at) =
            let place : i ≡ from = omega (arith, store) in
            let there : Contains (list_at from held) f = subst (λ (k : ℕ). Contains (list_at k held) f) place within in
            let one : f ≡ q = one_of_place (list_at from held) q f (has.known.each from source.0 source.1).valid.apart next.within there (ap (λ (e : Entry). let p : Place = (e.series, e.part.start) in p) (is_entry ∙ same)) in
            subst (λ (x : Filed). IsNext x.samples (end_after (last_of move.pending move.listed)) q.entry.head_len later) one (subst (λ (e : Entry). IsNext f.samples (end_after (last_of move.pending move.listed)) e.head_len later) same at)

  -- what the code finds is the next part
  pub next_found : (m : ManifestState) → slice_get all.stores.manifests from ≡ Some m → (o : Option Entry) → o ≡ slice_get (of_series move.series m.entries) move.at → (e : Entry) → o ≡ Some e → (q : Filed) × IsNextPart from move held q × (e ≡ q.entry)
  next_found m here o is e found =
      let q = next_file in
      let both : ◌≡◌ {A = Option Entry} (Some e) (Some q.0.entry) = sym found ∙ next_entry q.0 q.1 m here o is in
      (q.0, q.1, cc (both))

  pub next_never : (m : ManifestState) → slice_get all.stores.manifests from ≡ Some m → (o : Option Entry) → o ≡ slice_get (of_series move.series m.entries) move.at → o ≡ None → ⊥
  next_never m here o is none = let some = next_entry next_file.0 next_file.1 m here o is in absurd (cc (some, none))

-- PASSING A PART

-- HOW LONG PARTS ARE COPIED

abbrev file_len : Filed → ℕ
file_len = λ f. f.entry.len

abbrev entry_len : Entry → ℕ
entry_len = λ e. e.len

lengths_more : (fs : List Filed) (parts : List Entry) (at len : ℕ) (q : Filed) (part : Entry) → slice_get fs at ≡ Some q → slice_get parts at ≡ Some part → q.entry.len ≡ len → map file_len (take at fs) ≡ map entry_len (take at parts)
    → map file_len (take (suc at) fs) ≡ map entry_len (take (suc at) (set parts at (record part { len = len })))
lengths_more [] parts at len q part here there long same = absurd (cc (here))
lengths_more (f ∷ fs) [] at len q part here there long same = absurd (cc (there))
lengths_more (f ∷ fs) (p ∷ parts) zero len q part here there long same = ap (λ (n : ℕ). n ∷ []) (ap file_len (same_Some f q here) ∙ long)
lengths_more (f ∷ fs) (p ∷ parts) (suc at) len q part here there long same =
    let both : f.entry.len ∷ map file_len (take at fs) ≡ p.len ∷ map entry_len (take at parts) = same in
    let head : f.entry.len ≡ p.len = cc (both) in
    let rest = lengths_more fs parts at len q part here there long (cc (both)) in
    ap (λ (l : List ℕ). f.entry.len ∷ l) rest ∙ ap (λ (n : ℕ). n ∷ map entry_len (take (suc at) (set parts at (record part { len = len })))) head

next_place : (at : ℕ) → suc at ≡ at + 1
next_place at = omega arith

pub lengths_finished : (from : ℕ) (move : Moving) (held : Stores) (part : Entry) (len : ℕ) (q : Filed) → KnowsLengths from move held → slice_get (of_row move.series (list_at from held)) move.at ≡ Some q → slice_get move.parts move.at ≡ Some part → q.entry.len ≡ len → KnowsLengths from (finished move part len) held
lengths_finished from move held part len q same here there long =
    subst (λ (k : ℕ). map file_len (take k (of_row move.series (list_at from held))) ≡ map entry_len (take k (set move.parts move.at (record part { len = len })))) (next_place move.at)
    (lengths_more (of_row move.series (list_at from held)) move.parts move.at len q part here there long same)

-- where all parts are copied whole
drop_all : {A : Type 0} (n : ℕ) (xs : List A) → length xs ≤ n → drop n xs ≡ []
drop_all {A} zero [] few = refl
drop_all {A} zero (x ∷ xs) few = absurd (omega (arith, few))
drop_all {A} (suc n) [] few = refl
drop_all {A} (suc n) (x ∷ xs) few = drop_all n xs (omega (arith, few))

pub copied_whole : (from : ℕ) (move : Moving) (files : List Filed) (held : Stores) → move.at ≡ length move.parts → KnowsLengths from move held → (IsTrue held.stands → left_of from move move.at files held ≡ []) → KnowsCopied from move files held
copied_whole from move files held all lengths passed = record {
  whole = move.at;
  most = omega (arith, all);
  lengths = lengths;
  heads = ap (map (λ (f : Filed). f.entry.head_len)) none_of ∙ sym (ap (map entry_len) none_of_parts);
  none_left = passed;
  later = λ stands. subst (All (IsAllLater (from + 1) move files held)) (sym none_of) (All-nil (IsAllLater (from + 1) move files held));
}
  where
    none_of : drop move.at (oldest from move.series (length move.parts) held) ≡ []
    none_of = drop_all move.at (oldest from move.series (length move.parts) held) (omega (arith, all, length-take (length move.parts) (of_row move.series (list_at from held))))

    none_of_parts : drop move.at move.parts ≡ []
    none_of_parts = drop_all move.at move.parts (omega (arith, all))

-- nothing is left where the place is the end
none_left : (g : Granularity) (rows : List Row) (q : Filed) (n at len : ℕ) → IsFiled g rows q → q.entry.len ≡ len → len ≤ at → SplitsAt q.samples n q.entry.head_len at → since n q.samples ≡ []
none_left g rows q n at len filed long end split =
    let whole = filed.len in
    let head = filed.head_len in
    let place = split.place in
    let both = ap length (ap lines_of split.split ∙ lines_of-append split.front split.back) in
    let none : split.back ≡ [] = no_length split.back (omega (arith, whole, head, place, both, long, end, length-append q.head (10 ∷ lines_of q.samples), length-append (lines_of split.front) (lines_of split.back))) in
    ap (since n) (split.split ∙ ap (λ (l : List Sample). split.front ++ l) none ∙ append-nil split.front) ∙ split.earlier

module _ (tells : Bool) (all : SeenAll) (from : ℕ) (move : Moving) (files : List Filed) (held : Stores) (has : Has tells all.stores held) (is : CopiesFurther from tells all move files held) (part : Entry) (next : slice_get move.parts move.at ≡ Some part) (q : Filed) (q_next : IsNextPart from move held q) (len : ℕ) (long : q.entry.len ≡ len) (run : IsMove is.runs.fine (finished move part len)) where
  abbrev nm : Moving
  nm = finished move part len

  long_then : length nm.parts ≡ length move.parts
  long_then = length-set move.parts move.at (record part { len = len })

  runs_then : RunsBeside (from + 1) tells all nm files held
  runs_then = runs_by (from + 1) tells all all move nm files files held refl refl is.runs run (λ x are. still_lists move nm None len x (advances_covered move None part len next) (is.runs.parts x are)) (λ some. is.left) is.runs.pending is.runs.ahead

  heads_then : KnowsHeads from nm held
  heads_then =
      ap (λ (k : ℕ). map (λ (g : Filed). g.entry.head_len) (oldest from move.series k held)) long_then
      ∙ (is.heads ∙ sym (map-set_same (λ (e : Entry). e.head_len) move.parts move.at (record part { len = len }) part (ap (λ (e : Entry). e.head_len) (sym (get_or_from_slice_get move.parts move.at part part next)))))

  lengths_then : KnowsLengths from nm held
  lengths_then = lengths_finished from move held part len q is.lengths q_next.here next long

  abbrev ps : List Filed
  ps = of_row move.series (list_at from held)

  -- whatever is left of the part
  pub further_then : move.at + 1 ≢ length move.parts → CopiesFurther from tells all nm files held
  further_then apart = record {
    runs = runs_then;
    stage = is.stage;
    left = λ same. apart (same ∙ long_then);
    heads = heads_then;
    lengths = lengths_then;
    last = is.last;
    told = is.told;
  }

  passed_then : (at : ℕ) → len ≤ at → (IsTrue held.stands → SplitsAt q.samples (end_after (last_of move.pending move.listed)) q.entry.head_len at) → (IsTrue held.stands → left_of from move move.at files held ≡ []) → IsTrue held.stands → left_of from move (move.at + 1) files held ≡ []
  passed_then at end splits passed stands =
      let n = end_of (samples_ahead (from + 1) move files held) in
      let to = manifest_of all.stores.manifests (from + 1) move.granularity is.runs.to_coarse in
      let base : Held = with_files (tier (from + 1) held) files in
      let valid : AreHeld to.0.granularity base = valid_with (from + 1) tells all held files is.runs.ahead to.0 to.1 has in
      let n_is : end_after (last_of move.pending move.listed) ≡ n = end_is to.0.granularity base move.series (last_of move.pending move.listed) valid stands is.last in
      let filed = q_filed tells all from move files held has is q q_next part next stands in
      let none = none_left is.runs.fine held.rows q (end_after (last_of move.pending move.listed)) at len filed long end (splits stands) in
      left_more ps move.at q (splits_here ps move.at q q_next.here) n (passed stands) ∙ (ap (λ (k : ℕ). since k q.samples) (sym n_is) ∙ none)

  pub passes_on : (at : ℕ) → len ≤ at → (IsTrue held.stands → SplitsAt q.samples (end_after (last_of move.pending move.listed)) q.entry.head_len at) → (IsTrue held.stands → left_of from move move.at files held ≡ []) → CopiesOrHas from tells all nm files held
  passes_on at end splits passed = elim (same_cases (move.at + 1) (length nm.parts)) [
    | inl all_is ↦ inr (record {
      runs = runs_then;
      stage = is.stage;
      all_copied = all_is;
      lengths = lengths_then;
      none_left = λ stands. subst (λ (k : ℕ). left_of from move k files held ≡ []) all_is (passed_then at end splits passed stands);
    })
    | inr apart ↦ inl (record {
      runs = runs_then;
      stage = is.stage;
      left = apart;
      heads = heads_then;
      lengths = lengths_then;
      last = is.last;
      passed = passed_then at end splits passed;
      told = is.told;
    })
  ]

pub further_finished : (tells : Bool) (all : SeenAll) (from : ℕ) (move new : Moving) (files : List Filed) (held : Stores) → Has tells all.stores held → (is : CopiesFurther from tells all move files held) → (part : Entry) → slice_get move.parts move.at ≡ Some part → (q : Filed) → IsNextPart from move held q → (len : ℕ) → q.entry.len ≡ len → new ≡ finished move part len → IsMove is.runs.fine new → move.at + 1 ≢ length move.parts
    → CopiesFurther from tells all new files held
further_finished tells all from move new files held has is part next q q_next len long same run apart =
    subst (λ (x : Moving). CopiesFurther from tells all x files held) (sym same) (further_then tells all from move files held has is part next q q_next len long (subst (IsMove is.runs.fine) same run) apart)

-- a damaged place is told only where nothing stands
pub damaged_part : (from : ℕ) (tells : Bool) (now : Files) (move : Moving) (held : Stores) (lines : PartLines) (at : ℕ) → move.at < length move.parts → lines.later ≡ Damaged at → FindsPart from tells now move held lines → IsDamaged from tells now move held lines.name at
damaged_part from tells now move held lines at few is finds = record {
  file = finds.file;
  part = part_in from move held finds.file few finds.next;
  named = finds.named;
  within = subst (IsUpTo finds.file.entry.len) is finds.within;
  never = λ stands. subst (IsNext finds.file.samples (end_after (last_of move.pending move.listed)) finds.file.entry.head_len) is (finds.splits stands);
  bad = λ told.
      let read = subst (λ (l : LaterLines). HasFile now lines.name (λ b. SaysFile finds.file.entry.head_len (take finds.file.entry.len b) l)) is (finds.told told) in
      record { bytes = read.bytes; file = read.file; holds = unread read.holds };
}

-- a line is left at a place that isn't the end
pub line_left : (from : ℕ) (tells : Bool) (now : Files) (move : Moving) (held : Stores) (lines : PartLines) (at : ℕ) → lines.later ≡ At at → at < lines.len → FindsPart from tells now move held lines → FindsLine from tells now move held lines.name at lines.len
line_left from tells now move held lines at is low finds = record {
  file = finds.file;
  next = finds.next;
  long = finds.long;
  low = low;
  named = finds.named;
  behind = subst (IsFrom finds.file.entry.head_len) is finds.behind;
  splits = λ stands. subst (IsNext finds.file.samples (end_after (last_of move.pending move.listed)) finds.file.entry.head_len) is (finds.splits stands);
  good = λ told. subst (λ (l : LaterLines). HasFile now lines.name (λ b. SaysFile finds.file.entry.head_len (take finds.file.entry.len b) l)) is (finds.told told);
}

-- no line begins at the end of bytes
none_behind : (at : ℕ) (bytes : List ℕ) → length bytes ≤ at → (ty : PayloadType) (year : ℤ) → IsSampleStart ty year (drop at bytes) → ⊥
none_behind at bytes end ty year start = let are = ap length (sym (drop_of_length-le bytes end) ∙ start.are) in omega (arith, are, length-append start.sample.line (10 ∷ start.rest))

-- the same, of a part of which some is left
line_says : (from : ℕ) (tells : Bool) (now : Files) (move : Moving) (held : Stores) (lines : PartLines) (l : LaterLines) → lines.later ≡ l → move.at < length move.parts → (IsTrue held.stands → HasLater from move held) → (g : Granularity) → (IsTrue held.stands → (q : Filed) → IsNextPart from move held q → IsFiled g held.rows q) → FindsPart from tells now move held lines → (line : NextLine) → of_line lines l ≡ line → SaysLine from tells now move held line
line_says from tells now move held lines (Damaged at) is few some g filed finds line same = subst (SaysLine from tells now move held) same (damaged_part from tells now move held lines at few is finds)
line_says from tells now move held lines (At at) is few some g filed finds line same = by_test (nat_lt at lines.len) refl
  where
    at_least : nat_lt at lines.len ≡ false → lines.len ≤ at
    at_least high = grind (arith, nat_tests, high)

    over : nat_lt at lines.len ≡ false → IsDamaged from tells now move held lines.name lines.len
    over high = record {
      file = finds.file;
      part = part_in from move held finds.file few finds.next;
      named = finds.named;
      within = let long = finds.long in omega (arith, long);
      never = λ stands.
          some stands finds.file finds.next
          (none_left g held.rows finds.file (end_after (last_of move.pending move.listed)) at lines.len (filed stands finds.file finds.next) finds.long (grind (arith, nat_tests, high))
          (subst (IsNext finds.file.samples (end_after (last_of move.pending move.listed)) finds.file.entry.head_len) is (finds.splits stands)));
      bad = λ told.
          let good = subst (λ (l : LaterLines). HasFile now lines.name (λ b. SaysFile finds.file.entry.head_len (take finds.file.entry.len b) l)) is (finds.told told) in
          let up = subst (IsUpTo finds.file.entry.len) is finds.within in
          let long = finds.long in
          let end : at ≡ lines.len = omega (arith, up, long, at_least high) in
          record {
            bytes = good.bytes;
            file = good.file;
            holds = subst (λ (k : ℕ). IsBadPart finds.file.entry.head_len (take finds.file.entry.len good.bytes) k) end (unread (no_line good.holds (λ start. none_behind at (take finds.file.entry.len good.bytes) (omega (arith, end, long, length-take finds.file.entry.len good.bytes)) _ _ start)));
          };
    }

    by_test : (b : Bool) → nat_lt at lines.len ≡ b → SaysLine from tells now move held line
    by_test true low = subst (SaysLine from tells now move held) (sym (cond-true (nat_lt at lines.len) (next_line.Line (record { name = lines.name; at = at; len = lines.len })) (next_line.Damaged lines.name lines.len) low) ∙ same) (line_left from tells now move held lines at is (grind (arith, nat_tests, low)) finds)
    by_test false high = subst (SaysLine from tells now move held) (sym (cond-false (nat_lt at lines.len) (next_line.Line (record { name = lines.name; at = at; len = lines.len })) (next_line.Damaged lines.name lines.len) high) ∙ same) (over high)

pub says_line : (from : ℕ) (tells : Bool) (now : Files) (move : Moving) (held : Stores) (lines : PartLines) → move.at < length move.parts → (IsTrue held.stands → HasLater from move held) → (g : Granularity) → (IsTrue held.stands → (q : Filed) → IsNextPart from move held q → IsFiled g held.rows q) → FindsPart from tells now move held lines → (line : NextLine) → line_of lines ≡ line → SaysLine from tells now move held line
says_line from tells now move held lines few some g filed finds line same = line_says from tells now move held lines lines.later refl few some g filed finds line same

-- none is left at the end
pub part_passed : {now : Files} (tells : Bool) (all : SeenAll) (from : ℕ) (move new : Moving) (files : List Filed) (held : Stores) → Has tells all.stores held → (is : CopiesBeside from tells all move files held) → (part : Entry) → slice_get move.parts move.at ≡ Some part → (lines : PartLines) (at : ℕ) → lines.later ≡ At at → (at < lines.len → ⊥) → FindsPart from tells now move held lines
    → new ≡ finished move part lines.len → IsMove is.runs.fine new → CopiesOrHas from tells all new files held
part_passed {now} tells all from move new files held has is part next lines at later over finds same run =
    subst (λ (x : Moving). CopiesOrHas from tells all x files held) (sym same)
    (passes_on tells all from move files held has (further from tells all move files held is) part next finds.file finds.next lines.len finds.long (subst (IsMove is.runs.fine) same run) at (elim (cases_lt at lines.len) [ inl low ↦ absurd (over low) | inr end ↦ end ])
    (λ stands. subst (IsNext finds.file.samples (end_after (last_of move.pending move.listed)) finds.file.entry.head_len) later (finds.splits stands)) is.passed)

pub passes_finished : (move new : Moving) (part : Entry) (len : ℕ) → new ≡ finished move part len → PassesParts move new
passes_finished move new part len same = record {
  is = subst (λ (x : Moving). x ≡ record move { parts = x.parts; at = x.at }) (sym same) refl;
  long = ap (λ (x : Moving). length x.parts) same ∙ length-set move.parts move.at (record part { len = len });
}

pub passes_none : (move : Moving) → PassesParts move move
passes_none move = record { is = refl; long = refl }

pub passes_then : (old mid new : Moving) → PassesParts old mid → PassesParts mid new → PassesParts old new
passes_then old mid new one two = record { is = two.is ∙ ap (λ (x : Moving). record x { parts = new.parts; at = new.at }) one.is; long = two.long ∙ one.long }

-- by whether parts are left
pub copies_if_left : (from : ℕ) (tells : Bool) (all : SeenAll) (move : Moving) (files : List Filed) (held : Stores) → move.at < length move.parts → CopiesOrHas from tells all move files held → CopiesBeside from tells all move files held
copies_if_left from tells all move files held low (inl is) = is
copies_if_left from tells all move files held low (inr has) = let whole = has.all_copied in absurd (omega (arith, low, whole))

pub has_if_none : (from : ℕ) (tells : Bool) (all : SeenAll) (move : Moving) (files : List Filed) (held : Stores) → (move.at < length move.parts → ⊥) → CopiesOrHas from tells all move files held → HasPassedAll from tells all move files held
has_if_none from tells all move files held over (inl is) = absurd (over (elim (cases_lt move.at (length move.parts)) [ inl less ↦ less | inr more ↦ absurd (is.left (let most = is.runs.running.at in omega (arith, more, most))) ]))
has_if_none from tells all move files held over (inr has) = has

-- by what the code tests of them
pub at_left : {T : Type 0} (o : Option (Bor T)) (xs : List T) (k : ℕ) → is_some o ≡ true → option_copied o ≡ slice_get xs k → k < length xs
at_left None xs k some is = absurd (cc (some))
at_left (Some r) xs k some is = slice_get_within xs k r.now (sym is)

pub at_none : {T : Type 0} (o : Option (Bor T)) (xs : List T) (k : ℕ) → is_some o ≡ false → option_copied o ≡ slice_get xs k → k < length xs → ⊥
at_none None xs k none is low = let there = some_at xs k low in absurd (cc (is ∙ there.1))
at_none (Some r) xs k none is low = absurd (cc (none))

-- THE REST IS PASSED

-- from the n-th part up to the k-th, with the headers' lengths
abbrev pub heads_to : ℕ → ℕ → List Entry → List Entry
heads_to n zero parts = parts
heads_to n (suc k) [] = []
heads_to zero (suc k) (e ∷ parts) = record e { len = e.head_len } ∷ heads_to zero k parts
heads_to (suc n) (suc k) (e ∷ parts) = e ∷ heads_to n k parts

pub heads_more : (n k : ℕ) (parts : List Entry) (p : Entry) → n ≤ k → slice_get (heads_to n k parts) k ≡ Some p → set (heads_to n k parts) k (record p { len = p.head_len }) ≡ heads_to n (suc k) parts
heads_more n zero [] p low here = absurd (cc (here))
heads_more zero zero (e ∷ parts) p low here = ap (λ (x : Entry). record x { len = x.head_len } ∷ parts) (sym (same_Some e p here))
heads_more (suc n) zero (e ∷ parts) p low here = absurd (omega (arith, low))
heads_more n (suc k) [] p low here = absurd (cc (here))
heads_more zero (suc k) (e ∷ parts) p low here = ap (λ (l : List Entry). record e { len = e.head_len } ∷ l) (heads_more zero k parts p (omega arith) here)
heads_more (suc n) (suc k) (e ∷ parts) p low here = ap (λ (l : List Entry). e ∷ l) (heads_more n k parts p (omega (arith, low)) here)

pub heads_same : (n : ℕ) (parts : List Entry) → heads_to n n parts ≡ parts
heads_same zero parts = refl
heads_same (suc n) [] = refl
heads_same (suc n) (e ∷ parts) = ap (λ (l : List Entry). e ∷ l) (heads_same n parts)

pub heads_all : (n k : ℕ) (parts : List Entry) → length parts ≤ k → heads_to n k parts ≡ with_heads n parts
heads_all zero k [] few = by_k k
  where
    by_k : (k : ℕ) → heads_to zero k [] ≡ []
    by_k zero = refl
    by_k (suc k) = refl
heads_all (suc n) k [] few = by_k k
  where
    by_k : (k : ℕ) → heads_to (suc n) k [] ≡ []
    by_k zero = refl
    by_k (suc k) = refl
heads_all n zero (e ∷ parts) few = absurd (omega (arith, few))
heads_all zero (suc k) (e ∷ parts) few = ap (λ (l : List Entry). record e { len = e.head_len } ∷ l) (heads_all zero k parts (omega (arith, few)))
heads_all (suc n) (suc k) (e ∷ parts) few = ap (λ (l : List Entry). e ∷ l) (heads_all n k parts (omega (arith, few)))

pub heads_long : (n k : ℕ) (parts : List Entry) → length (heads_to n k parts) ≡ length parts
heads_long n zero parts = refl
heads_long n (suc k) [] = refl
heads_long zero (suc k) (e ∷ parts) = ap suc (heads_long zero k parts)
heads_long (suc n) (suc k) (e ∷ parts) = ap suc (heads_long n k parts)

abbrev pub RestTo : Moving → Moving → Type 0
RestTo old move = move ≡ record old { parts = heads_to old.at move.at old.parts; at = move.at }

pub rest_begun : (old : Moving) → RestTo old old
rest_begun old = ap (λ (l : List Entry). record old { parts = l; at = old.at }) (sym (heads_same old.at old.parts))

rest_parts : (old move : Moving) → RestTo old move → move.parts ≡ heads_to old.at move.at old.parts
rest_parts old move is = ap (λ (x : Moving). x.parts) is

pub rest_step : (old move new : Moving) (p : Entry) (len : ℕ) → RestTo old move → old.at ≤ move.at → slice_get move.parts move.at ≡ Some p → len ≡ p.head_len → new ≡ finished move p len → RestTo old new
rest_step old move new p len is low here long same = subst (RestTo old) (sym (same ∙ ap (finished move p) long)) done
  where
    set_is : set move.parts move.at (record p { len = p.head_len }) ≡ heads_to old.at (move.at + 1) old.parts
    set_is =
        ap (λ (l : List Entry). set l move.at (record p { len = p.head_len })) (rest_parts old move is)
        ∙ (heads_more old.at move.at old.parts p low (ap (λ (l : List Entry). slice_get l move.at) (sym (rest_parts old move is)) ∙ here) ∙ ap (λ (k : ℕ). heads_to old.at k old.parts) (next_place move.at))

    done : RestTo old (finished move p p.head_len)
    done = ap (λ (l : List Entry). record move { parts = l; at = move.at + 1 }) set_is ∙ ap (λ (x : Moving). record x { parts = heads_to old.at (move.at + 1) old.parts; at = move.at + 1 }) is

pub rest_long : (old move : Moving) → RestTo old move → length move.parts ≡ length old.parts
rest_long old move is = ap length (rest_parts old move is) ∙ heads_long old.at move.at old.parts

pub rest_done : (old move : Moving) → RestTo old move → move.at ≤ length old.parts → (move.at < length move.parts → ⊥) → PassesRest old move
rest_done old move is high over =
    let long = ap length (rest_parts old move is) ∙ heads_long old.at move.at old.parts in
    let all : move.at ≡ length old.parts = elim (cases_lt move.at (length move.parts)) [ inl low ↦ absurd (over low) | inr end ↦ omega (arith, high, end, long) ] in
    is ∙ (ap (λ (l : List Entry). record old { parts = l; at = move.at }) (heads_all old.at move.at old.parts (omega (arith, all))) ∙ ap (λ (k : ℕ). record old { parts = with_heads old.at old.parts; at = k }) all)

-- WHAT STAYS OF THE PARTS

take_set : (n k : ℕ) (xs : List Entry) (x : Entry) → n ≤ k → take n (set xs k x) ≡ take n xs
take_set zero k xs x low = refl
take_set (suc n) k [] x low = refl
take_set (suc n) zero (y ∷ xs) x low = absurd (omega (arith, low))
take_set (suc n) (suc k) (y ∷ xs) x low = ap (λ (l : List Entry). y ∷ l) (take_set n k xs x (omega (arith, low)))

pub fronts_finished : (n : ℕ) (move new : Moving) (part : Entry) (len : ℕ) → n ≤ move.at → new ≡ finished move part len → take n new.parts ≡ take n move.parts
fronts_finished n move new part len low same = ap (λ (x : Moving). take n x.parts) same ∙ take_set n move.at move.parts (record part { len = len }) low

pub parts_finished : (move new : Moving) (part : Entry) (len : ℕ) → slice_get move.parts move.at ≡ Some part → new ≡ finished move part len → map (λ (e : Entry). e.part) new.parts ≡ map (λ (e : Entry). e.part) move.parts
parts_finished move new part len here same =
    ap (λ (x : Moving). map (λ (e : Entry). e.part) x.parts) same
    ∙ map-set_same (λ (e : Entry). e.part) move.parts move.at (record part { len = len }) part (ap (λ (e : Entry). e.part) (sym (get_or_from_slice_get move.parts move.at part part here)))
