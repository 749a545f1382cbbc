-- Files at a step of copying: what is to be listed, the file that lines make, where it goes, and where it stands.
use Rattle.std.proofs.Common.{[], ◌≡◌, ◌≢◌, inl, inr, ℕ, zero, suc, ◌+◌, ◌≤◌, ◌<◌, List, ◌∷◌, ◌++◌, length, take, drop, Some, refl, sym, ◌∙◌, ap, subst, arith, append_assoc, append-nil, true, false, Bool, cond, get_or, map, ◌⊎◌, ◌-◌, Option, None}
use Rattle.std.specs.Prelude.{All, nat_eq, slice_get, Contains, IsTrue, nat_lt, if◌then◌else◌}
use Rattle.std.specs.List.{AllByRecursion}
use Rattle.std.proofs.lemmas.Bool.{eqb-true}
use Rattle.std.proofs.lemmas.Bool.Decides.{nat_tests, Decides-eqb}
use Rattle.std.proofs.lemmas.List.{length-append, take-append-drop, drop-take, drop-drop}
use Rattle.std.proofs.lemmas.List.Elements.{All-contains, recursion_from_All, All-nil, All-push, Contains-get_or, All-cons}
use Rattle.std.proofs.lemmas.Option.{same_Some}
use Rattle.partition_names.specs.declared.granularity.Granularity.{Granularity}
use Rattle.partition_names.specs.declared.part.Part.{Part}
use Rattle.partition_names.specs.Part.{HoldsMoment, IsPart}
use Rattle.pb_lines.specs.File.{lines_of, IsFile, IsSample, AreSamples}
use Rattle.pb_lines.proofs.FileLines.{all_front, all_rest, lines_of-append}
use Rattle.pv_catalog.specs.declared.row.Row.{Row}
use Rattle.series_model.specs.Series.{RisesFrom, end_from, end_of}
use Rattle.series_model.specs.declared.sample.Sample.{Sample}
use Rattle.series_model.proofs.RisingLists.{RisesFrom-front, RisesFrom-rest}
use Rattle.durable_write.specs.Flush.{PlacesRise, put_all, IsSampleOf, bytes_at, file_at, listed_bytes, listed_len, start_of, len_at}
use Rattle.durable_write.specs.Held.{Filed, IsFiled, entry_of, filed_at, Held, bytes_of, IsListed, samples_of}
use Rattle.durable_write.specs.Plan.{of_row, IsLastOf, StartBefore, grown}
use Rattle.durable_write.proofs.Places.{All-front, Comes, put_all-push, put_twice, rise_behind, rise_over, last_of_rising, start_before, put_behind, put_over, last_view, same_last, found, no_file}
use Rattle.durable_write.proofs.Planning.{of_files, of_last, ends_at, filed_more}
use Rattle.tier_store.specs.Finding.{BeginsAt, SplitsAt}
use Rattle.std.proofs.Math.Seq.{get_or-append_seam, drop-append_seam}
use Rattle.etl_mover.specs.Copying.{SetsLast, TakesPlace, StandsBehind, last_of, starts, after, behind, anew}
use Rattle.store_manifest.specs.Entries.{comes_before, put, Place}
use Rattle.store_manifest.specs.declared.entry.Entry.{Entry}
use Rattle.etl_mover.specs.Lines.{IsSampleStart, with_line, with_lines}
use Rattle.etl_mover.specs.Move.{Moving, IsMove}
use Rattle.etl_mover.specs.Step.{GoesTo, AreTaken, Takes, between, written_at}
use Rattle.etl_mover.proofs.Steps.{last_all, map_append}
use Rattle.pb_messages.specs.declared.info.PayloadInfo.{PayloadInfo}
use Rattle.pb_wire.specs.declared.payload.PayloadType.{PayloadType}
use Rattle.durable_write.specs.Stored.{AreHeld}
use Rattle.durable_write.proofs.Commits.{filter-map}
use Rattle.durable_write.proofs.Staying.{filed_listed}
use Rattle.tier_store.specs.Copied.{IsPartFile, WritesNext, end_after, listed_samples, samples_at}
use Rattle.tier_store.proofs.Lines.{IsFront, front_of, is_split}
use Rattle.tier_store.proofs.Showing.{from_filter, contains_filter}
use Rattle.etl_mover.specs.Growing.{IsPlaced}
use Rattle.durable_write.proofs.Written.{put_all_new}
use Rattle.partition_names.proofs.PartLemmas as parts
use Rattle.tier_store.proofs.CopyLeft.{weaker}

-- the file is set among those that are to be listed
pub record SetsFile (files more : List Filed) (f : Filed) (pending : List Entry) : Type 1 where
  pub are : pending ≡ map entry_of more
  pub put : (xs : List Filed) → put_all xs more ≡ put filed_at f (put_all xs files)
  pub rise : PlacesRise more
  pub each : (P : Filed → Type 0) → All P files → P f → All P more

comes : (l f : Filed) → l.entry.series ≡ f.entry.series → l.entry.part.start < f.entry.part.start → Comes l f
comes l f own low = grind (arith, nat_tests, own, low)

pub last_in : (rest : List Filed) (l : Filed) → Contains (rest ++ l ∷ []) l
last_in rest l = (length rest, omega (arith, length-append rest (l ∷ [])), get_or-append_seam rest l [] l)

module _ (row : ℕ) (files : List Filed) (f : Filed) (old pending : List Entry) (old_is : old ≡ map entry_of files) (all : All (λ (x : Filed). x.entry.series ≡ row) files) (own : f.entry.series ≡ row) (rise : PlacesRise files)
    (later : (rest : List Filed) (l : Filed) → files ≡ rest ++ l ∷ [] → l.entry.part.start ≢ f.entry.part.start → l.entry.part.start < f.entry.part.start) where
  own_of : (rest : List Filed) (l : Filed) → files ≡ rest ++ l ∷ [] → l.entry.series ≡ f.entry.series
  own_of rest l are = All-contains (λ (x : Filed). x.entry.series ≡ row) files l all (subst (λ (fs : List Filed). Contains fs l) (sym are) (last_in rest l)) ∙ sym own

  pub stands_behind : StandsBehind f.entry old pending → SetsFile files (files ++ f ∷ []) f pending
  stands_behind stands = record {
    are = stands.becomes ∙ (ap (λ (l : List Entry). l ++ f.entry ∷ []) old_is ∙ sym (map_append files (f ∷ [])));
    put = λ xs. put_all-push xs files f;
    rise = elim (last_view files) [
      | inl none ↦ subst (λ (fs : List Filed). PlacesRise (fs ++ f ∷ [])) (sym none) (All-nil (Comes f), tt)
      | inr (rest, l, are) ↦
          let apart = stands.other (map entry_of rest) l.entry (old_is ∙ (ap (map entry_of) are ∙ map_append rest (l ∷ []))) in
          subst (λ (fs : List Filed). PlacesRise (fs ++ f ∷ [])) (sym are) (rise_behind rest l f (subst PlacesRise are rise) (comes l f (own_of rest l are) (later rest l are apart)))
    ];
    each = λ P had here. All-push P files f had here;
  }

  in_place : (takes : TakesPlace f.entry old pending) (rest : List Filed) (l : Filed) → files ≡ rest ++ l ∷ [] → SetsFile files (rest ++ f ∷ []) f pending
  in_place takes rest l are =
      let ends = same_last (map entry_of rest) takes.rest l.entry takes.last (sym (map_append rest (l ∷ [])) ∙ (sym (old_is ∙ ap (map entry_of) are) ∙ takes.are)) in
      let start : l.entry.part.start ≡ f.entry.part.start = ap (λ (e : Entry). e.part.start) ends.1 ∙ takes.same in
      let place : filed_at f ≡ filed_at l = λ i. (sym (own_of rest l are) i, sym start i) in
      record {
        are = takes.becomes ∙ (ap (λ (es : List Entry). es ++ f.entry ∷ []) (sym ends.0) ∙ sym (map_append rest (f ∷ [])));
        put = λ xs. put_all-push xs rest f ∙ (sym (put_twice f l (put_all xs rest) place) ∙ ap (put filed_at f) (sym (ap (put_all xs) are ∙ put_all-push xs rest l)));
        rise = rise_over rest l f place (subst PlacesRise are rise);
        each = λ P had here. All-push P rest f (All-front P rest (l ∷ []) (subst (All P) are had)) here;
      }

  pub sets_file : SetsLast f.entry old pending → (more : List Filed) × SetsFile files more f pending
  sets_file (inr stands) = (files ++ f ∷ [], stands_behind stands)
  sets_file (inl takes) = elim (last_view files) [
    | inl none ↦ absurd (let long = ap length (sym (old_is ∙ ap (map entry_of) none) ∙ takes.are) in omega (arith, long, length-append takes.rest (takes.last ∷ [])))
    | inr (rest, l, are) ↦ (rest ++ f ∷ [], in_place takes rest l are)
  ]

-- a file that is to be listed stands among all then
not_itself : (x : Filed) → comes_before (filed_at x) (filed_at x) ≡ false
not_itself x = grind (arith, nat_tests)

apart : (x k : Filed) → filed_at x ≡ filed_at k → Comes x k → ⊥
apart x k same lt =
    let itself : comes_before (filed_at x) (filed_at x) ≡ true = ap (comes_before (filed_at x)) same ∙ lt in
    absurd (cc (itself, not_itself x))

-- what is true of all of them is true of those that are to be listed
pub all_in : (P : Filed → Type 0) (fs files : List Filed) → PlacesRise fs → All P (put_all files fs) → All P fs
all_in P fs files rise all = λ k d lt. All-contains P (put_all files fs) (get_or fs k d) all (put_all_new fs files (get_or fs k d) rise (Contains-get_or fs k d lt))

-- THE ENTRY

-- a line more, where there are some
entry_more : (e : Entry) (s : Sample) → 1 ≤ e.count → grown s e ≡ with_line (length s.line + 1) s.t e
entry_more e s some =
    let is : nat_eq e.count 0 ≡ false = grind (arith, nat_tests) in
    ap (λ (b : Bool). record e { len = e.len + (length s.line + 1); first = cond b s.t e.first; last = s.t; count = e.count + 1 }) (sym is)

same_series : (xs : List Sample) (e : Entry) → (with_lines xs e).series ≡ e.series
same_series [] e = refl
same_series (s ∷ xs) e = same_series xs (with_line (length s.line + 1) s.t e)

same_part : (xs : List Sample) (e : Entry) → (with_lines xs e).part ≡ e.part
same_part [] e = refl
same_part (s ∷ xs) e = same_part xs (with_line (length s.line + 1) s.t e)

-- THE FILE

-- the file with these samples more
abbrev with_samples : Filed → List Sample → Filed
with_samples f xs = record { entry = with_lines xs f.entry; head = f.head; samples = f.samples ++ xs }

at_place : (f : Filed) (xs : List Sample) → filed_at (with_samples f xs) ≡ filed_at f
at_place f xs = λ i. (same_series xs f.entry i, (same_part xs f.entry i).start)

some_counted : (g : Granularity) (rows : List Row) (f : Filed) → IsFiled g rows f → 1 ≤ f.entry.count
some_counted g rows f h = let long = ap length h.some in omega (arith, h.count, long)

grown_file : (g : Granularity) (rows : List Row) (row : Row) (xs : List Sample) (f : Filed) → IsFiled g rows f → slice_get rows f.entry.series ≡ Some row → AllByRecursion (IsSampleOf row) xs → RisesFrom (f.entry.last + 1) xs → AllByRecursion (λ (s : Sample). s.t < f.entry.part.end) xs → IsFiled g rows (with_samples f xs)
grown_file g rows row [] f h stands of_row rises within = subst (λ (l : List Sample). let x : Filed = record { entry = f.entry; head = f.head; samples = l } in IsFiled g rows x) (sym (append-nil f.samples)) h
grown_file g rows row (s ∷ xs) f h stands of_row rises within =
    let first = rises.0 in
    let one = filed_more g rows f row s h stands of_row.0 (omega (arith, first)) within.0 in
    let entry = entry_more f.entry s (some_counted g rows f h) in
    let f₁ : Filed = record { entry = with_line (length s.line + 1) s.t f.entry; head = f.head; samples = f.samples ++ s ∷ [] } in
    let h₁ : IsFiled g rows f₁ = subst (λ (e : Entry). let x : Filed = record { entry = e; head = f.head; samples = f.samples ++ s ∷ [] } in IsFiled g rows x) entry one in
    let rest = grown_file g rows row xs f₁ h₁ stands of_row.1 rises.1 within.1 in
    subst (λ (l : List Sample). let x : Filed = record { entry = with_lines xs f₁.entry; head = f.head; samples = l } in IsFiled g rows x) (append_assoc f.samples (s ∷ []) xs) rest

bytes_grown : (f : Filed) (xs : List Sample) → bytes_of (with_samples f xs) ≡ bytes_of f ++ lines_of xs
bytes_grown f xs = ap (λ (u : List ℕ). f.head ++ 10 ∷ u) (lines_of-append f.samples xs) ∙ sym (append_assoc f.head (10 ∷ lines_of f.samples) (lines_of xs))

-- A file made anew, of another file's header and one of its samples.
abbrev new_file : ℕ → Part → ℕ → List ℕ → Sample → Filed
new_file series to head_len head s = record { entry = with_line (length s.line + 1) s.t (anew series to head_len).entry; head = head; samples = s ∷ [] }

filed_new : (fine coarse : Granularity) (rows : List Row) (q : Filed) (series head_len : ℕ) (to : Part) (s : Sample) → q.entry.series ≡ series → q.entry.head_len ≡ head_len → IsPart coarse to → HoldsMoment to s.t → (h : IsFiled fine rows q) → IsSample h.info.ty h.info.year s → IsFiled coarse rows (new_file series to head_len q.head s)
filed_new fine coarse rows q series head_len to s own long is holds h sample = record {
  row = h.row;
  info = h.info;
  first = s;
  others = [];
  stands = ap (slice_get rows) (sym own) ∙ h.stands;
  part = is;
  file = record { whole = h.file.whole; header = h.file.header; lines = (sample, tt); rising = (omega arith, tt); text = refl };
  type = h.type;
  name = h.name;
  some = refl;
  inside = All-cons (λ (x : Sample). HoldsMoment to x.t) s [] holds (All-nil (λ (x : Sample). HoldsMoment to x.t));
  len = omega (arith, long, h.head_len, length-append q.head (10 ∷ (s.line ++ 10 ∷ [])), length-append s.line (10 ∷ []));
  head_len = sym long ∙ h.head_len;
  from = refl;
  to = refl;
  count = omega arith;
}

-- WHERE IT GOES

sooner : (a b : ℕ) → nat_eq a b ≡ false → nat_lt b a ≡ false → a < b
sooner a b apart not_later = grind (arith, nat_tests)

-- behind the last entry, or in a partition behind that
pub after_split : (e : Entry) (begin : ℕ) (start s : _) → after e begin start ≡ Some s → ((e.part.start ≡ begin) × (s ≡ behind e)) ⊎ ((e.part.start < begin) × (s ≡ start))
after_split e begin start s is = go (nat_eq e.part.start begin) refl (nat_lt begin e.part.start) refl is
  where
    go : (b : Bool) → nat_eq e.part.start begin ≡ b → (c : Bool) → nat_lt begin e.part.start ≡ c → (if b then Some (behind e) else (if c then None else Some start)) ≡ Some s → ((e.part.start ≡ begin) × (s ≡ behind e)) ⊎ ((e.part.start < begin) × (s ≡ start))
    go true same c other is = inl (eqb-true e.part.start begin same, cc (is))
    go false same true other is = absurd (cc (is))
    go false same false other is = inr (sooner e.part.start begin same other, cc (is))

-- the last file of a row, by the entries
pub last_file : (base : Held) (row : ℕ) (e : Entry) → IsLastOf (map entry_of base.files) row (Some e) → (earlier : List Filed) × (f : Filed) × (of_row row base.files ≡ earlier ++ f ∷ []) × (f.entry ≡ e)
last_file base row e last = elim (last_view (of_row row base.files)) [
  | inl none ↦
      let empty : last.0 ++ e ∷ [] ≡ [] = sym last.1 ∙ (filter-map (λ (x : Entry). nat_eq x.series row) base.files ∙ ap (map entry_of) none) in
      absurd (let long = ap length empty in omega (arith, long, length-append last.0 (e ∷ [])))
  | inr (earlier, f, are) ↦
      let both : last.0 ++ e ∷ [] ≡ map entry_of earlier ++ f.entry ∷ [] = sym last.1 ∙ (filter-map (λ (x : Entry). nat_eq x.series row) base.files ∙ (ap (map entry_of) are ∙ map_push earlier f)) in
      (earlier, f, are, sym (same_last last.0 (map entry_of earlier) e f.entry both).1)
]
  where
    map_push : (fs : List Filed) (f : Filed) → map entry_of (fs ++ f ∷ []) ≡ map entry_of fs ++ f.entry ∷ []
    map_push [] f = refl
    map_push (x ∷ xs) f = ap (λ (l : List Entry). x.entry ∷ l) (map_push xs f)

pub none_of_row : (base : Held) (row : ℕ) → IsLastOf (map entry_of base.files) row None → of_row row base.files ≡ []
none_of_row base row last = no_entries (of_row row base.files) (sym (filter-map (λ (x : Entry). nat_eq x.series row) base.files) ∙ last)
  where
    no_entries : (fs : List Filed) → map entry_of fs ≡ [] → fs ≡ []
    no_entries [] is = refl
    no_entries (x ∷ xs) is = absurd (cc (is))

pub before_push : (n : ℕ) (fs : List Filed) (f : Filed) → StartBefore n fs → f.entry.part.start < n → StartBefore n (fs ++ f ∷ [])
before_push n [] f all one = (one, tt)
before_push n (x ∷ xs) f all one = (all.0, before_push n xs f all.1 one)

pub within_row : (base : Held) (row : ℕ) (earlier : List Filed) (f : Filed) → of_row row base.files ≡ earlier ++ f ∷ [] → Contains base.files f
within_row base row earlier f are = from_filter (λ (x : Filed). nat_eq x.entry.series row) base.files f (subst (λ (l : List Filed). Contains l f) (sym are) (length earlier, omega (arith, length-append earlier (f ∷ [])), get_or-append_seam earlier f [] f))

-- the others of the row start before its last one
pub earlier_start : (row : ℕ) (files earlier : List Filed) (f : Filed) → PlacesRise files → of_row row files ≡ earlier ++ f ∷ [] → StartBefore f.entry.part.start earlier
earlier_start row files earlier f rise are =
    let is = last_of_rising row files earlier f rise are in
    subst (StartBefore f.entry.part.start) (same_last is.earlier earlier f f (sym is.are ∙ are)).0 is.before

-- THE LINES

empty_left : (from len : ℕ) (xs : List Sample) → from + length (lines_of xs) ≡ len → from < len → xs ≢ []
empty_left from len xs size low is = let none = ap (λ (l : List Sample). length (lines_of l)) is in omega (arith, none, size, low)

module _ (fine : Granularity) (move : Moving) (base : Held) (part : Entry) (q : Filed) (b : List ℕ) (from : ℕ) (of_part : IsPartFile fine base.rows move part b q) (n : ℕ) (split : SplitsAt q.samples n part.head_len from) (low : from < q.entry.len) where
  abbrev info : PayloadInfo
  info = of_part.filed.info

  abbrev left : List Sample
  left = split.back

  file_is : IsFile (take q.entry.len b) q.head info q.samples
  file_is = subst (λ (l : List ℕ). IsFile l q.head info q.samples) (sym of_part.begin) of_part.filed.file

  head_long : part.head_len ≡ length q.head + 1
  head_long = sym of_part.head_len ∙ of_part.filed.head_len

  head_is : take part.head_len b ≡ q.head ++ 10 ∷ []
  head_is = (is_split b q.head part.head_len q.entry.len info q.samples file_is head_long).header

  lines_are : take (q.entry.len - part.head_len) (drop part.head_len b) ≡ lines_of split.front ++ lines_of split.back
  lines_are = (is_split b q.head part.head_len q.entry.len info q.samples file_is head_long).lines ∙ (ap lines_of split.split ∙ lines_of-append split.front split.back)

  pub long_is : q.entry.len ≡ part.head_len + (length (lines_of split.front) + length (lines_of split.back))
  long_is =
      let whole = of_part.filed.len in
      let both = ap length (ap lines_of split.split ∙ lines_of-append split.front split.back) in
      omega (arith, whole, both, head_long, length-append q.head (10 ∷ lines_of q.samples), length-append (lines_of split.front) (lines_of split.back))

  -- what is left of the file are the lines of these samples
  rest_is : between from q.entry.len b ≡ lines_of split.back
  rest_is =
      let k = length (lines_of split.front) in
      let h = part.head_len in
      let len = q.entry.len in
      ap (λ (x : ℕ). take (len - x) (drop x b)) split.place
      ∙ (ap (λ (l : List ℕ). take (len - (h + k)) l) (sym (drop-drop k h b))
      ∙ (sym (drop-take k (len - (h + k)) (drop h b))
      ∙ (ap (λ (x : ℕ). drop k (take x (drop h b))) (omega (arith, long_is))
      ∙ (ap (drop k) lines_are ∙ drop-append_seam (lines_of split.front) (lines_of split.back)))))

  pub some_left : left ≢ []
  some_left = empty_left from q.entry.len split.back (let size = long_is in let at = split.place in omega (arith, size, at)) low

  are_left : AreSamples info.ty info.year left
  are_left = all_rest (IsSample info.ty info.year) split.front split.back (subst (AreSamples info.ty info.year) split.split of_part.filed.file.lines)

  starts_left : IsSampleStart info.ty info.year (between from q.entry.len b)
  starts_left = go split.back refl are_left
    where
      go : (xs : List Sample) → split.back ≡ xs → AreSamples info.ty info.year xs → IsSampleStart info.ty info.year (between from q.entry.len b)
      go [] none are = absurd (some_left none)
      go (s ∷ xs) same are = record { sample = s; rest = lines_of xs; are = rest_is ∙ ap lines_of same; is = are.0 }

  pub rises_left : RisesFrom n left
  rises_left = go split.back split.later (RisesFrom-rest 0 split.front split.back (subst (RisesFrom 0) split.split of_part.filed.file.rising))
    where
      go : (xs : List Sample) → BeginsAt n xs → RisesFrom (end_from 0 split.front) xs → RisesFrom n xs
      go [] begins rises = tt
      go (s ∷ xs) begins rises = (begins, rises.1)

  module _ (most : ℕ) (lines : List ℕ) (old entry : Entry) (takes : Takes (take part.head_len b) (between from q.entry.len b) most lines old entry) where
    taken : AreTaken info (between from q.entry.len b) lines old entry
    taken = takes.samples q.head info head_is of_part.filed.file.whole of_part.filed.file.header

    abbrev xs : List Sample
    xs = taken.samples

    all_lines : lines_of xs ++ (drop (length lines) (lines_of split.back) ++ []) ≡ lines_of split.back
    all_lines =
        ap (λ (l : List ℕ). lines_of xs ++ l) (append-nil (drop (length lines) (lines_of split.back)))
        ∙ (ap (λ (l : List ℕ). l ++ drop (length lines) (lines_of split.back)) (sym taken.text ∙ (takes.front ∙ ap (take (length lines)) rest_is))
        ∙ take-append-drop (length lines) (lines_of split.back))

    front : IsFront split.back xs
    front = front_of info.ty info.year split.back xs (drop (length lines) (lines_of split.back)) [] are_left taken.are all_lines

    abbrev row : Row
    row = of_part.filed.row

    row_stands : slice_get base.rows move.series ≡ Some row
    row_stands = ap (slice_get base.rows) (sym of_part.series) ∙ of_part.filed.stands

    -- the samples are of the row, rise, and lie where the part does
    of_row_all : AllByRecursion (IsSampleOf row) xs
    of_row_all = weaker (IsSample info.ty info.year) (IsSampleOf row) (λ s is. (info.year, subst (λ (ty : PayloadType). IsSample ty info.year s) of_part.filed.type is)) xs taken.are

    rises_all : RisesFrom n xs
    rises_all = RisesFrom-front n xs front.more (subst (RisesFrom n) front.are rises_left)

    holds_all : AllByRecursion (λ (s : Sample). HoldsMoment q.entry.part s.t) xs
    holds_all = all_front (λ (s : Sample). HoldsMoment q.entry.part s.t) xs front.more
        (subst (AllByRecursion (λ (s : Sample). HoldsMoment q.entry.part s.t)) front.are (all_rest (λ (s : Sample). HoldsMoment q.entry.part s.t) split.front split.back
        (subst (AllByRecursion (λ (s : Sample). HoldsMoment q.entry.part s.t)) split.split (recursion_from_All (λ (s : Sample). HoldsMoment q.entry.part s.t) q.samples of_part.filed.inside))))

    module _ (running : IsMove fine move) (valid : AreHeld move.granularity base) (stand : IsTrue base.stands) (at : Option ℕ) (to : Part) (is : IsPart move.granularity to) (holds : HoldsMoment to part.part.start) where
      abbrev g : Granularity
      g = move.granularity

      abbrev head : List ℕ
      head = take part.head_len b

      -- the part lies in the destination's partition
      nested : (to.start ≤ q.entry.part.start) × (q.entry.part.end ≤ to.end)
      nested =
          let some = parts.within fine q.entry.part of_part.filed.part in
          parts.nest g fine q.entry.part to q.entry.part.start running.nested of_part.filed.part is (omega arith, some.1) (subst (λ (p : Part). HoldsMoment to p.start) (sym of_part.part_is) holds)

      to_all : AllByRecursion (λ (s : Sample). HoldsMoment to s.t) xs
      to_all = weaker (λ s. HoldsMoment q.entry.part s.t) (λ s. HoldsMoment to s.t) (λ s in_part. let low = nested.0 in let high = nested.1 in (omega (arith, low, in_part.0), omega (arith, high, in_part.1))) xs holds_all

      -- they go behind the last file of the row
      behind_file : (f : Filed) → Contains base.files f → old ≡ f.entry → at ≡ Some f.entry.len → f.entry.part ≡ to → f.entry.series ≡ move.series → n ≡ f.entry.last + 1 → WritesNext g base at head lines entry split.back
      behind_file f within same here of own last =
          let had = All-contains (IsFiled g base.rows) base.files f (valid.filed.filed stand) within in
          let ends = weaker (λ s. HoldsMoment to s.t) (λ s. s.t < f.entry.part.end) (λ s in_to. let end = ap (λ (p : Part). p.end) of in omega (arith, end, in_to.1)) xs to_all in
          let filed = grown_file g base.rows row xs f had (ap (slice_get base.rows) own ∙ row_stands) of_row_all (subst (λ (k : ℕ). RisesFrom k xs) last rises_all) ends in
          let there : file_at (filed_at (with_samples f xs)) base.files ≡ Some f = ap (λ (p : Place). file_at p base.files) (at_place f xs) ∙ All-contains (λ (x : Filed). file_at (filed_at x) base.files ≡ Some x) base.files f (found base.files valid.apart) within in
          let bytes = bytes_grown f xs in
          record {
            file = with_samples f xs;
            copied = xs;
            more = front.more;
            next = front.are;
            some = taken.some starts_left;
            entry_is = ap (with_lines xs) (sym same) ∙ sym taken.grows;
            samples = ap (λ (o : Option Filed). listed_samples o ++ xs) (sym there);
            text = taken.text;
            becomes = record {
              placed = record { listed = filed_listed g base.rows (with_samples f xs) filed; place = here ∙ ap listed_len (sym there) };
              len = subst (λ (o : Option ℕ). (with_lines xs f.entry).len ≡ start_of o + length (written_at o head lines)) (sym here)
                  (let size = ap length bytes in let text = ap length taken.text in omega (arith, filed.len, size, text, had.len, length-append (bytes_of f) (lines_of xs)));
              own = λ stands. record {
                filed = filed;
                are = subst (λ (o : Option ℕ). bytes_of (with_samples f xs) ≡ bytes_at (filed_at (with_samples f xs)) base.files ++ written_at o head lines) (sym here)
                    (bytes ∙ (ap (λ (l : List ℕ). bytes_of f ++ l) (sym taken.text) ∙ ap (λ (o : Option Filed). listed_bytes o ++ lines) (sym there)));
              };
            };
          }

      -- or into a file that is made anew
      into_new : old ≡ (anew move.series to part.head_len).entry → at ≡ None → StartBefore to.start (of_row move.series base.files) → WritesNext g base at head lines entry split.back
      into_new same here before = go xs refl
        where
          go : (ys : List Sample) → taken.samples ≡ ys → WritesNext g base at head lines entry split.back
          go [] none = absurd (taken.some starts_left none)
          go (s ∷ ys) are =
              let are_ys = subst (AreSamples info.ty info.year) are taken.are in
              let of_ys = subst (AllByRecursion (IsSampleOf row)) are of_row_all in
              let rises = subst (RisesFrom n) are rises_all in
              let in_to = subst (AllByRecursion (λ (x : Sample). HoldsMoment to x.t)) are to_all in
              let first : Filed = new_file move.series to part.head_len q.head s in
              let had : IsFiled g base.rows first = filed_new fine g base.rows q move.series part.head_len to s of_part.series of_part.head_len is in_to.0 of_part.filed are_ys.0 in
              let filed = grown_file g base.rows row ys first had row_stands of_ys.1 rises.1 (weaker (λ x. HoldsMoment to x.t) (λ x. x.t < to.end) (λ x holds. holds.1) ys in_to.1) in
              let f : Filed = with_samples first ys in
              let there : file_at (filed_at f) base.files ≡ None = ap (λ (p : Place). file_at p base.files) (at_place first ys) ∙ no_file (move.series, to.start) base.files before in
              let bytes : bytes_of f ≡ head ++ lines = sym (ap (λ (h : List ℕ). h ++ lines) head_is ∙ (append_assoc q.head (10 ∷ []) lines ∙ ap (λ (l : List ℕ). q.head ++ 10 ∷ l) (taken.text ∙ ap lines_of are))) in
              record {
                file = f;
                copied = s ∷ ys;
                more = front.more;
                next = front.are ∙ ap (λ (l : List Sample). l ++ front.more) are;
                some = λ none. cc (none);
                entry_is = ap (with_lines (s ∷ ys)) (sym same) ∙ (ap (λ (l : List Sample). with_lines l old) (sym are) ∙ sym taken.grows);
                samples = ap (λ (o : Option Filed). listed_samples o ++ (s ∷ ys)) (sym there);
                text = taken.text ∙ ap lines_of are;
                becomes = record {
                  placed = record { listed = filed_listed g base.rows f filed; place = here ∙ ap listed_len (sym there) };
                  len = subst (λ (o : Option ℕ). f.entry.len ≡ start_of o + length (written_at o head lines)) (sym here) (let size = ap length bytes in omega (arith, filed.len, size));
                  own = λ stands. record {
                    filed = filed;
                    are = subst (λ (o : Option ℕ). bytes_of f ≡ bytes_at (filed_at f) base.files ++ written_at o head lines) (sym here) (bytes ∙ ap (λ (o : Option Filed). listed_bytes o ++ (head ++ lines)) (sym there));
                  };
                };
              }

-- THE STEP

-- the next samples of the part at hand, in the file where they go
pub writes_next : (fine : Granularity) (move : Moving) (base : Held) (part : Entry) (start : _) (q : Filed) (b lines : List ℕ) (from most : ℕ) (entry : Entry) → (goes : GoesTo move None part start) → IsMove fine move → AreHeld move.granularity base → IsTrue base.stands → IsLastOf (map entry_of base.files) move.series (last_of move.pending move.listed)
    → IsPartFile fine base.rows move part b q → (split : SplitsAt q.samples (end_after (last_of move.pending move.listed)) part.head_len from) → from < q.entry.len → Takes (take part.head_len b) (between from q.entry.len b) most lines start.entry entry
    → WritesNext move.granularity base start.at (take part.head_len b) lines entry split.back
writes_next fine move base part start q b lines from most entry goes running valid stand last of_part split low takes = go (last_of move.pending move.listed) refl last goes.begins
  where
    go : (o : Option Entry) → last_of move.pending move.listed ≡ o → IsLastOf (map entry_of base.files) move.series o → starts o move.series goes.to part.head_len None ≡ Some start → WritesNext move.granularity base start.at (take part.head_len b) lines entry split.back
    go None none last begins =
        let same : start ≡ anew move.series goes.to part.head_len = sym (cc (begins)) in
        into_new fine move base part q b from of_part (end_after (last_of move.pending move.listed)) split low most lines start.entry entry takes running valid stand start.at goes.to goes.is goes.holds (ap (λ x. x.entry) same) (ap (λ x. x.at) same)
        (subst (StartBefore goes.to.start) (sym (none_of_row base move.series last)) tt)
    go (Some e) here last begins =
        let f = last_file base move.series e last in
        let within = within_row base move.series f.0 f.1 f.2 in
        let known = last_all (λ (x : Entry). IsPart move.granularity x.part × (x.series ≡ move.series)) move.pending move.listed e running.pending running.listed here in
        elim (after_split e goes.to.start (anew move.series goes.to part.head_len) start begins) [
          | inl (begin, same) ↦
              let some = parts.within move.granularity e.part known.0 in
              let some₂ = parts.within move.granularity goes.to goes.is in
              let of : e.part ≡ goes.to = parts.one_part move.granularity e.part goes.to goes.to.start known.0 goes.is (omega (arith, begin), omega (arith, begin, some.1)) (omega arith, omega (arith, some₂.1)) in
              behind_file fine move base part q b from of_part (end_after (last_of move.pending move.listed)) split low most lines start.entry entry takes running valid stand start.at goes.to goes.is goes.holds
              f.1 within (ap (λ x. x.entry) same ∙ sym f.3) (ap (λ x. x.at) same ∙ ap (λ (x : Entry). Some x.len) (sym f.3)) (ap (λ (x : Entry). x.part) f.3 ∙ of) (ap (λ (x : Entry). x.series) f.3 ∙ known.1) (ap end_after here ∙ ap (λ (x : Entry). x.last + 1) (sym f.3))
          | inr (less, same) ↦
              let begin = ap (λ (x : Entry). x.part.start) f.3 in
              let low_one : f.1.entry.part.start < goes.to.start = omega (arith, begin, less) in
              into_new fine move base part q b from of_part (end_after (last_of move.pending move.listed)) split low most lines start.entry entry takes running valid stand start.at goes.to goes.is goes.holds (ap (λ x. x.entry) same) (ap (λ x. x.at) same)
              (subst (StartBefore goes.to.start) (sym f.2) (before_push goes.to.start f.0 f.1 (start_before f.1.entry.part.start goes.to.start f.0 (earlier_start move.series base.files f.0 f.1 valid.apart f.2) (omega (arith, low_one))) low_one))
        ]

-- where lines go, as etl_mover has it
abbrev start_type : (T : Type 0) × (Entry → T)
start_type = (_, behind)

abbrev pub Start : Type 0
Start = start_type.0

-- the last file of the row goes on
pub record GoesOnIn (base : Held) (row : ℕ) (start : Start) : Type 0 where
  pub earlier : List Filed
  pub file : Filed
  pub are : of_row row base.files ≡ earlier ++ file ∷ []
  pub within : Contains base.files file
  pub entry : start.entry ≡ file.entry
  pub at : start.at ≡ Some file.entry.len

-- or a file is made behind all files of the row
pub record BeginsBehind (base : Held) (row head_len : ℕ) (start : Start) : Type 0 where
  pub before : StartBefore start.entry.part.start (of_row row base.files)
  pub at : start.at ≡ None
  pub long : start.entry.len ≡ head_len

abbrev pub Where : Held → ℕ → ℕ → Start → Type 0
Where base row head_len start = GoesOnIn base row start ⊎ BeginsBehind base row head_len start

pub where_it_goes : (move : Moving) (base : Held) (part : Entry) (start : Start) → GoesTo move None part start → PlacesRise base.files → IsLastOf (map entry_of base.files) move.series (last_of move.pending move.listed) → Where base move.series part.head_len start
where_it_goes move base part start goes apart last = go (last_of move.pending move.listed) last goes.begins
  where
    new_start : Start
    new_start = anew move.series goes.to part.head_len

    made : start ≡ new_start → StartBefore goes.to.start (of_row move.series base.files) → Where base move.series part.head_len start
    made same before = inr (record {
      before = subst (λ (s : Start). StartBefore s.entry.part.start (of_row move.series base.files)) (sym same) before;
      at = ap (λ (s : Start). s.at) same;
      long = ap (λ (s : Start). s.entry.len) same;
    })

    go : (o : Option Entry) → IsLastOf (map entry_of base.files) move.series o → starts o move.series goes.to part.head_len None ≡ Some start → Where base move.series part.head_len start
    go None last begins = made (sym (cc (begins))) (subst (StartBefore goes.to.start) (sym (none_of_row base move.series last)) tt)
    go (Some e) last begins =
        let f = last_file base move.series e last in
        elim (after_split e goes.to.start new_start start begins) [
          | inl (begin, same) ↦ inl (record {
            earlier = f.0;
            file = f.1;
            are = f.2;
            within = within_row base move.series f.0 f.1 f.2;
            entry = ap (λ (s : Start). s.entry) same ∙ sym f.3;
            at = ap (λ (s : Start). s.at) same ∙ ap (λ (x : Entry). Some x.len) (sym f.3);
          })
          | inr (less, same) ↦
              let begin = ap (λ (x : Entry). x.part.start) f.3 in
              let low_one : f.1.entry.part.start < goes.to.start = omega (arith, begin, less) in
              made same (subst (StartBefore goes.to.start) (sym f.2) (before_push goes.to.start f.0 f.1 (start_before f.1.entry.part.start goes.to.start f.0 (earlier_start move.series base.files f.0 f.1 apart f.2) (omega (arith, low_one))) low_one))
        ]

-- a file of the row that is ahead starts before it, where it starts elsewhere
in_before : (n : ℕ) (xs : List Filed) (l : Filed) → StartBefore n xs → Contains xs l → l.entry.part.start < n
in_before n [] l all (k, low, is) = absurd (omega (arith, low))
in_before n (x ∷ xs) l all (zero, low, is) = subst (λ (f : Filed). f.entry.part.start < n) is all.0
in_before n (x ∷ xs) l all (suc k, low, is) = in_before n xs l all.1 (k, omega (arith, low), is)

pub last_or : (earlier : List Filed) (x l : Filed) → Contains (earlier ++ x ∷ []) l → Contains earlier l ⊎ (x ≡ l)
last_or [] x l (zero, low, is) = inr is
last_or [] x l (suc k, low, is) = absurd (omega (arith, low))
last_or (y ∷ ys) x l (zero, low, is) = inl (zero, omega arith, is)
last_or (y ∷ ys) x l (suc k, low, is) = elim (last_or ys x l (k, omega (arith, low), is)) [ inl (j, less, same) ↦ inl (suc j, omega (arith, less), same) | inr same ↦ inr same ]

pub starts_before : (base : Held) (row head_len : ℕ) (start : Start) → PlacesRise base.files → Where base row head_len start → (l : Filed) → Contains base.files l → l.entry.series ≡ row → l.entry.part.start ≢ start.entry.part.start → l.entry.part.start < start.entry.part.start
starts_before base row head_len start apart place l within own other = go place
  where
    in_row : Contains (of_row row base.files) l
    in_row = contains_filter (λ (f : Filed). nat_eq f.entry.series row) base.files l within ((Decides-eqb l.entry.series row).1 own)

    go : Where base row head_len start → l.entry.part.start < start.entry.part.start
    go (inr new) = in_before start.entry.part.start (of_row row base.files) l new.before in_row
    go (inl on) = elim (last_or on.earlier on.file l (subst (λ (fs : List Filed). Contains fs l) on.are in_row)) [
      | inl there ↦
          let begin = ap (λ (e : Entry). e.part.start) on.entry in
          let low = in_before on.file.entry.part.start on.earlier l (earlier_start row base.files on.earlier on.file apart on.are) there in
          omega (arith, begin, low)
      | inr same ↦ absurd (other (ap (λ (f : Filed). f.entry.part.start) (sym same) ∙ sym (ap (λ (e : Entry). e.part.start) on.entry)))
    ]

-- how long a file at its place is ahead
pub long_there : (g : Granularity) (base : Held) (row head_len : ℕ) (start : Start) → AreHeld g base → Where base row head_len start → (x f : Filed) → Contains base.files x → filed_at x ≡ filed_at f → start.at ≡ len_at (filed_at f) base.files → x.entry.len ≡ start.entry.len
long_there g base row head_len start valid place x f within same at = go place
  where
    there : ◌≡◌ {A = Option ℕ} start.at (Some x.entry.len)
    there = at ∙ ap listed_len (ap (λ (p : Place). file_at p base.files) (sym same) ∙ All-contains (λ (y : Filed). file_at (filed_at y) base.files ≡ Some y) base.files x (found base.files valid.apart) within)

    go : Where base row head_len start → x.entry.len ≡ start.entry.len
    go (inl on) =
        let both : ◌≡◌ {A = Option ℕ} (Some on.file.entry.len) (Some x.entry.len) = sym on.at ∙ there in
        sym (ap (λ (e : Entry). e.len) on.entry ∙ same_Some on.file.entry.len x.entry.len both)
    go (inr new) = let no : ◌≡◌ {A = Option ℕ} None (Some x.entry.len) = sym new.at ∙ there in absurd (cc (no))

-- THE FILE

map_push : (fs : List Filed) (f : Filed) → map entry_of (fs ++ f ∷ []) ≡ map entry_of fs ++ f.entry ∷ []
map_push [] f = refl
map_push (x ∷ xs) f = ap (λ (l : List Entry). x.entry ∷ l) (map_push xs f)

-- the row's last file is its last entry
pub last_then : (row : ℕ) (xs front : List Filed) (f : Filed) → of_row row xs ≡ front ++ f ∷ [] → IsLastOf (map entry_of xs) row (Some f.entry)
last_then row xs front f are = (map entry_of front, filter-map (λ (e : Entry). nat_eq e.series row) xs ∙ ap (map entry_of) are ∙ map_push front f)

module _ (g : Granularity) (base : Held) (row head_len : ℕ) (start : Start) (valid : AreHeld g base) (own : start.entry.series ≡ row) (f : Filed) (f_own : f.entry.series ≡ row) (f_part : f.entry.part ≡ start.entry.part) where
  place_of : filed_at f ≡ (row, start.entry.part.start)
  place_of = λ i. (f_own i, (f_part i).start)

  pub at_file : (on : GoesOnIn base row start) → filed_at f ≡ filed_at on.file
  at_file on =
      let series : row ≡ on.file.entry.series = sym own ∙ ap (λ (e : Entry). e.series) on.entry in
      let at : ◌≡◌ {A = Place} (row, start.entry.part.start) (filed_at on.file) = λ i. (series i, (on.entry i).part.start) in
      place_of ∙ at

  there : (on : GoesOnIn base row start) → file_at (filed_at f) base.files ≡ Some on.file
  there on = ap (λ (p : Place). file_at p base.files) (at_file on) ∙ All-contains (λ (x : Filed). file_at (filed_at x) base.files ≡ Some x) base.files on.file (found base.files valid.apart) on.within

  nowhere : BeginsBehind base row head_len start → file_at (filed_at f) base.files ≡ None
  nowhere new = ap (λ (p : Place). file_at p base.files) place_of ∙ no_file (row, start.entry.part.start) base.files new.before

  pub place_at : Where base row head_len start → start.at ≡ len_at (filed_at f) base.files
  place_at (inl on) = on.at ∙ ap listed_len (sym (there on))
  place_at (inr new) = new.at ∙ ap listed_len (sym (nowhere new))

  -- the row's files with it
  row_on : (on : GoesOnIn base row start) → of_row row (put filed_at f base.files) ≡ on.earlier ++ f ∷ []
  row_on on = put_over row f on.file base.files on.earlier f_own (ap (λ (p : Part). p.start) f_part ∙ ap (λ (e : Entry). e.part.start) on.entry) on.are (earlier_start row base.files on.earlier on.file valid.apart on.are)

  row_new : BeginsBehind base row head_len start → of_row row (put filed_at f base.files) ≡ of_row row base.files ++ f ∷ []
  row_new made = put_behind row f base.files f_own (subst (λ (p : Part). StartBefore p.start (of_row row base.files)) (sym f_part) made.before)

  pub row_then : Where base row head_len start → (front : List Filed) × (of_row row (put filed_at f base.files) ≡ front ++ f ∷ [])
  row_then (inl on) = (on.earlier, row_on on)
  row_then (inr made) = (of_row row base.files, row_new made)

  -- and its samples
  pub samples_then : Where base row head_len start → (copied : List Sample) → f.samples ≡ samples_at (filed_at f) base.files ++ copied → samples_of row (put filed_at f base.files) ≡ samples_of row base.files ++ copied
  samples_then (inl on) copied are =
      let old : f.samples ≡ on.file.samples ++ copied = are ∙ ap (λ (o : Option Filed). listed_samples o ++ copied) (there on) in
      of_last (put filed_at f base.files) row on.earlier f (row_on on)
      ∙ (ap (λ (l : List Sample). of_files on.earlier ++ l) old
      ∙ (sym (append_assoc (of_files on.earlier) on.file.samples copied) ∙ ap (λ (l : List Sample). l ++ copied) (sym (of_last base.files row on.earlier on.file on.are))))
  samples_then (inr new) copied are =
      let old : f.samples ≡ copied = are ∙ ap (λ (o : Option Filed). listed_samples o ++ copied) (nowhere new) in
      of_last (put filed_at f base.files) row (of_row row base.files) f (row_new new) ∙ ap (λ (l : List Sample). of_files (of_row row base.files) ++ l) old

  pub placed : Where base row head_len start → IsListed g base.rows f → IsPlaced g base start.at f
  placed place listed = record { listed = listed; place = place_at place }

-- THE END OF THE ROW

-- the row's samples end where its last entry says
pub end_is : (g : Granularity) (base : Held) (row : ℕ) (o : Option Entry) → AreHeld g base → IsTrue base.stands → IsLastOf (map entry_of base.files) row o → end_after o ≡ end_of (samples_of row base.files)
end_is g base row None valid stands last = sym (ap (λ (l : List Filed). end_of (of_files l)) (none_of_row base row last))
end_is g base row (Some e) valid stands last =
    let f = last_file base row e last in
    let filed = All-contains (IsFiled g base.rows) base.files f.1 (valid.filed.filed stands) (within_row base row f.0 f.1 f.2) in
    ap (λ (x : Entry). x.last + 1) (sym f.3) ∙ sym (ends_at base.files row f.1 g base.rows (last_of_rising row base.files f.0 f.1 valid.apart f.2) filed)
