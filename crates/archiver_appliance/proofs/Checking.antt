-- What the reports tell of stores, by what the journals of an image list, whose listed files opening left as they were.
use Rattle.std.proofs.Common.{◌≡◌, ◌≢◌, Bool, ℕ, ◌<◌, ◌+◌, true, List, [], ◌∷◌, ◌++◌, length, map, Option, Some, None, Result, Ok, Err, refl, sym, ◌∙◌, ap, subst, arith}
use Rattle.std.specs.List.{flat_map}
use Rattle.std.specs.Prelude.{All, slice_get}
use Rattle.std.specs.Io.KnownBytes.{Appends}
use Rattle.std.proofs.lemmas.List.Elements.{All-append, All-cons, All-head, All-map, All-nil, All-tail}
use Rattle.edge_io.specs.Stream.{AppendsFront}
use Rattle.disk_model.specs.Files.{Name, Files}
use Rattle.pv_catalog.specs.Lines.{line as line_of}
use Rattle.pv_catalog.specs.declared.row.Row.{Row}
use Rattle.store_manifest.specs.Manifest.{ManifestState}
use Rattle.store_manifest.specs.declared.entry.Entry.{Entry}
use Rattle.pins.specs.Choosing.{listed}
use Rattle.pins.specs.declared.choosing.Listed.{Listed}
use Rattle.tier_store.specs.Pinning.{entries_of}
use Rattle.tier_store.specs.Seen.{Seen}
use Rattle.tier_store.specs.Tallying.{RiseFrom, listed_count}
use Rattle.store_reopen.specs.Reopen.{entries_in, lists_of}
use Rattle.store_reopen.specs.Verdict.{Listings}
use Rattle.store_reports.specs.Check.{Checks, Inspected, Inspects, file_in, InspectsSome, IsFound, lines_of}
use Rattle.store_reports.specs.Listing.{all_entries, files_listed, name_of}
use Rattle.store_reports.specs.Status.{AreLines, IsLine, Reports, RowLines}
use Rattle.store_reports.specs.declared.report.Damage.{Damage}
use Rattle.store_reports.specs.declared.inspection.CheckErr.{CheckErr}
use Rattle.store_reports.specs.declared.inspection.CheckErr.TheVariants as checked
use Rattle.store_reports.specs.declared.summary.StatusErr.{StatusErr}
use Rattle.store_reports.specs.declared.summary.StatusErr.TheVariants as summed
use Rattle.command_words.specs.declared.status.Status.{Status}
use Rattle.command_words.specs.declared.status.Status.TheVariants.{Done, SinkFault, DiskFault, Damaged, OutOfMemory}
use Rattle.archiver_appliance.specs.Reporting.{AreRowLines, ChecksAll, IsFirstDamage, IsRowLine, TellsListed, TellsRows, checked_status, entries_of_rows, listed_files, own_entries, reported_status, row_entries}

-- THE LINES OF ROWS

own_is : (row : ℕ) (o : Option ManifestState) → entries_of row o ≡ own_entries row (entries_in o)
own_is row None = refl
own_is row (Some m) = refl

all_is : (o : Option ManifestState) → all_entries o ≡ entries_in o
all_is None = refl
all_is (Some m) = refl

module _ (tells : Bool) (at : Seen) where
  abbrev short : List Entry
  short = lists_of at.manifests 0

  abbrev medium : List Entry
  medium = lists_of at.manifests 1

  abbrev long : List Entry
  long = lists_of at.manifests 2

  entries_are : (k : ℕ) → (entries_of k (slice_get at.manifests 2) ++ entries_of k (slice_get at.manifests 1)) ++ entries_of k (slice_get at.manifests 0) ≡ row_entries k short medium long
  entries_are k =
      let a = own_is k (slice_get at.manifests 0) in
      let b = own_is k (slice_get at.manifests 1) in
      let c = own_is k (slice_get at.manifests 2) in
      rw (a, b, c) refl

  all_entries_are : (ks : List ℕ) → flat_map (λ (k : ℕ). (entries_of k (slice_get at.manifests 2) ++ entries_of k (slice_get at.manifests 1)) ++ entries_of k (slice_get at.manifests 0)) ks ≡ entries_of_rows ks short medium long
  all_entries_are [] = refl
  all_entries_are (k ∷ ks) = ap (λ (es : List Entry). es ++ flat_map (λ (j : ℕ). (entries_of j (slice_get at.manifests 2) ++ entries_of j (slice_get at.manifests 1)) ++ entries_of j (slice_get at.manifests 0)) ks) (entries_are k)
      ∙ ap (λ (es : List Entry). row_entries k short medium long ++ es) (all_entries_are ks)

  row_line_of : (i : ℕ) (line : List ℕ) → IsLine tells at i line → IsRowLine at.catalogue.rows short medium long i line
  row_line_of i line is =
      let a = own_is i (slice_get at.manifests 0) in
      let b = own_is i (slice_get at.manifests 1) in
      let c = own_is i (slice_get at.manifests 2) in
      record {
        row = is.row;
        here = is.here;
        count = is.count;
        is = subst (λ (es : List Entry). RiseFrom 0 es → is.count ≡ listed_count es) (all_entries_are (line_of at.catalogue.rows i)) is.is.listed;
        text = rw (← a, ← b, ← c) is.text;
      }

  row_lines_of : (i : ℕ) (lines : List (List ℕ)) → AreLines tells at i lines → AreRowLines at.catalogue.rows short medium long i lines
  row_lines_of i [] are = tt
  row_lines_of i (line ∷ lines) are = (row_line_of i line are.0, row_lines_of (i + 1) lines are.1)

  rows_of : (n : ℕ) (Becomes : List ℕ → Type 0) → RowLines tells at n Becomes → TellsRows at.catalogue.rows short medium long n Becomes
  rows_of n Becomes r = record { lines = r.lines; many = r.many; are = row_lines_of 0 r.lines r.are; text = r.text }

  pub told_rows : (a b : Option (List ℕ)) (came : Result Unit StatusErr) → Reports tells at a b came → TellsListed at.catalogue.rows (lists_of at.manifests 0) (lists_of at.manifests 1) (lists_of at.manifests 2) a b (reported_status came)
  told_rows a b (Ok done) r = rows_of (length at.catalogue.rows) (Appends a b) r
  told_rows a b (Err summed.SinkFault) r = (r.0, rows_of r.0 (AppendsFront a b) r.1)
  told_rows a b (Err summed.DiskFault) r = (r.0, rows_of r.0 (AppendsFront a b) r.1)
  told_rows a b (Err summed.OutOfMemory) r = (r.0, rows_of r.0 (AppendsFront a b) r.1)

-- THE LINES OF FILES

pub files_are : (ms : List ManifestState) → files_listed ms ≡ listed_files (lists_of ms 0) (lists_of ms 1) (lists_of ms 2)
files_are ms =
    let a = all_is (slice_get ms 0) in
    let b = all_is (slice_get ms 1) in
    let c = all_is (slice_get ms 2) in
    rw (a, b, c) refl

pub checks_all : {R : Type 0} (rows : List Row) (files : Files) (short medium long : List Entry) (listed : List Listed) (a b : Option (List ℕ)) (came : Result (Option Damage) (CheckErr R)) → listed ≡ listed_files short medium long
    → Checks true rows files listed a b came → ChecksAll rows files short medium long a b (checked_status came)
checks_all {R} rows files short medium long listed a b (Ok None) is c = subst (λ (l : List Listed). Inspects true rows files l None (Appends a b)) is c
checks_all {R} rows files short medium long listed a b (Ok (Some damage)) is c = subst (λ (l : List Listed). Inspects true rows files l (Some damage) (Appends a b)) is c
checks_all {R} rows files short medium long listed a b (Err checked.SinkFault) is c = subst (λ (l : List Listed). InspectsSome true rows files l (AppendsFront a b)) is c
checks_all {R} rows files short medium long listed a b (Err checked.DiskFault) is c = subst (λ (l : List Listed). InspectsSome true rows files l (AppendsFront a b)) is c
checks_all {R} rows files short medium long listed a b (Err (checked.ReadFault file)) is c = subst (λ (l : List Listed). InspectsSome true rows files l (AppendsFront a b)) is c
checks_all {R} rows files short medium long listed a b (Err checked.OutOfMemory) is c = subst (λ (l : List Listed). InspectsSome true rows files l (AppendsFront a b)) is c

-- OF AN IMAGE WHOSE FILES ARE THE SAME

-- no file of a store differs
abbrev pub Same : Files → Files → Type 0
Same a b = (n : Name) → n.0 ≢ 0 → a n ≡ b n

found_in : (rows : List Row) (a b : Files) → Same a b → (i : Inspected) → i.file.store ≢ 0 → IsFound true rows a i → IsFound true rows b i
found_in rows a b same i store found told =
    let one = found told in
    record { bytes = one.bytes; file = sym (same (name_of rows i.file) store) ∙ one.file; holds = one.holds }

All-front : {X : Type 0} (P : X → Type 0) (xs ys : List X) → All P (xs ++ ys) → All P xs
All-front {X} P [] ys all = All-nil P
All-front {X} P (x ∷ xs) ys all = All-cons P x xs (All-head P x (xs ++ ys) all) (All-front P xs ys (All-tail P x (xs ++ ys) all))

all_of : {X : Type 0} (P : Type 0) → P → (xs : List X) → All (λ (x : X). P) xs
all_of {X} P p [] = All-nil (λ (x : X). P)
all_of {X} P p (x ∷ xs) = All-cons (λ (y : X). P) x xs p (all_of P p xs)

some_stores : (short medium long : List Entry) → All (λ (l : Listed). l.store ≢ 0) (listed_files short medium long)
some_stores short medium long =
    let P : Listed → Type 0 = λ l. l.store ≢ 0 in
    let of : (store : ℕ) (entries : List Entry) → store ≢ 0 → All P (listed store entries) = λ store entries some. All-map P (λ (e : Entry). record { store = store; entry = e }) entries (all_of (store ≢ 0) some entries) in
    All-append P (listed 1 short ++ listed 2 medium) (listed 3 long) (All-append P (listed 1 short) (listed 2 medium) (of 1 short (λ is. omega (arith, is))) (of 2 medium (λ is. omega (arith, is)))) (of 3 long (λ is. omega (arith, is)))

module _ (rows : List Row) (a b : Files) (same : Same a b) where
  found_all : (inspected : List Inspected) → All (λ (l : Listed). l.store ≢ 0) (map file_in inspected) → All (IsFound true rows a) inspected → All (IsFound true rows b) inspected
  found_all [] some found = All-nil (IsFound true rows b)
  found_all (i ∷ is) some found =
      let P : Listed → Type 0 = λ l. l.store ≢ 0 in
      All-cons (IsFound true rows b) i is (found_in rows a b same i (All-head P i.file (map file_in is) some) (All-head (IsFound true rows a) i is found)) (found_all is (All-tail P i.file (map file_in is) some) (All-tail (IsFound true rows a) i is found))

  inspects_in : (listed : List Listed) (first : Option Damage) (P Q : List ℕ → Type 0) → All (λ (l : Listed). l.store ≢ 0) listed → ((text : List ℕ) → P text → Q text) → Inspects true rows a listed first P → Inspects true rows b listed first Q
  inspects_in listed first P Q some step i = record {
    inspected = i.inspected;
    are = i.are;
    found = found_all i.inspected (subst (λ (ls : List Listed). All (λ (l : Listed). l.store ≢ 0) ls) i.are some) i.found;
    damage = i.damage;
    lines = step (lines_of rows i.inspected) i.lines;
  }

  some_in : (listed : List Listed) (P : List ℕ → Type 0) → All (λ (l : Listed). l.store ≢ 0) listed → InspectsSome true rows a listed P → InspectsSome true rows b listed P
  some_in listed P some s =
      let front = All-front (λ (l : Listed). l.store ≢ 0) s.done s.rest (subst (λ (ls : List Listed). All (λ (l : Listed). l.store ≢ 0) ls) s.split some) in
      record { done = s.done; rest = s.rest; split = s.split; first = s.first; inspects = inspects_in s.done s.first P P front (λ text p. p) s.inspects }

  pub checks_in : (short medium long : List Entry) (old new : Option (List ℕ)) (status : Status) → ChecksAll rows a short medium long old new status → ChecksAll rows b short medium long old new status
  checks_in short medium long old new Done c = inspects_in (listed_files short medium long) None (Appends old new) (Appends old new) (some_stores short medium long) (λ text p. p) c
  checks_in short medium long old new (Damaged name at) c = inspects_in (listed_files short medium long) (Some (record { name = name; at = at })) (Appends old new) (Appends old new) (some_stores short medium long) (λ text p. p) c
  checks_in short medium long old new SinkFault c = some_in (listed_files short medium long) (AppendsFront old new) (some_stores short medium long) c
  checks_in short medium long old new DiskFault c = some_in (listed_files short medium long) (AppendsFront old new) (some_stores short medium long) c
  checks_in short medium long old new OutOfMemory c = some_in (listed_files short medium long) (AppendsFront old new) (some_stores short medium long) c
  checks_in short medium long old new status c = absurd c

  -- what is told of the first damage, without the text
  pub first_in : (short medium long : List Entry) (old new : Option (List ℕ)) (name : Name) (at : ℕ) → ChecksAll rows a short medium long old new (Damaged name at) → IsFirstDamage rows b short medium long name at
  first_in short medium long old new name at c = inspects_in (listed_files short medium long) (Some (record { name = name; at = at })) (Appends old new) (λ text. Unit {0}) (some_stores short medium long) (λ text p. tt) c

-- OF THE ROWS AND LISTS OF A WHOLE IMAGE

-- what is true of the lists that the stores have is true of the image's
pub with_lists : (P : List Row → List Entry → List Entry → List Entry → Type 0) (rows r₂ : List Row) (lists l₂ : Listings) → rows ≡ r₂ → ((i : ℕ) → i < 3 → lists i ≡ l₂ i) → P rows (lists 0) (lists 1) (lists 2) → P r₂ (l₂ 0) (l₂ 1) (l₂ 2)
with_lists P rows r₂ lists l₂ rows_is lists_are p =
    subst (λ (rs : List Row). P rs (l₂ 0) (l₂ 1) (l₂ 2)) rows_is
    (subst (λ (es : List Entry). P rows es (l₂ 1) (l₂ 2)) (lists_are 0 (omega arith))
    (subst (λ (es : List Entry). P rows (lists 0) es (l₂ 2)) (lists_are 1 (omega arith))
    (subst (λ (es : List Entry). P rows (lists 0) (lists 1) es) (lists_are 2 (omega arith)) p)))
