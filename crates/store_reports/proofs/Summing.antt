-- The lines of rows, and what is told in them.
use Rattle.std.proofs.Common.{◌≡◌, inl, inr, ℕ, suc, ◌+◌, ◌≤◌, Bool, List, [], ◌∷◌, ◌++◌, length, Option, None, Some, Result, Ok, Err, refl, sym, ◌∙◌, ap, subst, arith, append_assoc, append-nil}
use Rattle.std.specs.Prelude.{IsTrue, filter, nat_eq, slice_get}
use Rattle.std.specs.List.{flat_map}
use Rattle.std.specs.Io.KnownBytes.{Appends}
use Rattle.std.proofs.lemmas.List.{flat_map_more, length-append}
use Rattle.std.proofs.lemmas.List.Concat.{flat_map-cons}
use Rattle.std.proofs.lemmas.Option.{same_Some}
use Rattle.edge_io.specs.Stream.{Rose, AppendsFront}
use Rattle.disk_model.specs.declared.disk.Disk.{Ghosts}
use Rattle.disk_model.specs.declared.disk.DiskErr.TheVariants.{Memory}
use Rattle.pv_catalog.specs.Catalogue.{CatalogueState}
use Rattle.pv_catalog.specs.declared.row.Row.{Row}
use Rattle.edge_io.specs.declared.buffer.PutErr.{PutErr}
use Rattle.edge_io.specs.declared.buffer.PutErr.TheVariants as put
use Rattle.edge_io.specs.Sent.{Sends}
use Rattle.edge_io.proofs.Sending.{front_longer, front_out}
use Rattle.store_manifest.specs.Manifest.{ManifestState}
use Rattle.store_manifest.specs.declared.entry.Entry.{Entry}
use Rattle.durable_write.specs.Ends.{End, IsFailed}
use Rattle.durable_write.specs.Plan.{of_row}
use Rattle.tier_store.specs.Change.{Has}
use Rattle.tier_store.specs.Pinning.{entries_of}
use Rattle.tier_store.specs.Seen.{Seen, seen}
use Rattle.tier_store.specs.Stores.{Stores, whole_in}
use Rattle.tier_store.specs.Tallying.{RiseFrom, entries_of_line, listed_count}
use Rattle.tier_store.specs.declared.store.TierStore.{TierStore}
use Rattle.store_reports.specs.declared.summary.StatusErr.{StatusErr}
use Rattle.store_reports.specs.declared.summary.StatusErr.TheVariants.{SinkFault, DiskFault, OutOfMemory}
use Rattle.store_reports.specs.Keeping.{KeepsStores}
use Rattle.store_reports.specs.Status.{AreLines, EndsAs, Gathers, IsLine, Lines, Reports, RowLines, Writes, end_of_status, files_of, held_line, lines_from, row_line, status_of_put, status_text}
use Rattle.store_reports.proofs.Telling.{keeps_as, own_number, front_then, sends_still}

-- LINE BY LINE

abbrev pub joined : List (List ℕ) → List ℕ
joined lines = flat_map (λ (line : List ℕ). line) lines

module _ (tells : Bool) (at : Seen) where
  push_line : (i n : ℕ) (lines : List (List ℕ)) (line : List ℕ) → n ≡ i + length lines → AreLines tells at i lines → IsLine tells at n line → AreLines tells at i (lines ++ line ∷ [])
  push_line i n [] line place are is = let here : n ≡ i = omega (arith, place) in (subst (λ (k : ℕ). IsLine tells at k line) here is, tt)
  push_line i n (x ∷ xs) line place are is = (are.0, push_line (i + 1) n xs line (omega (arith, place)) are.1 is)

  pub no_lines : (P : List ℕ → Type 0) → P [] → RowLines tells at 0 P
  no_lines P empty = record { lines = []; many = refl; are = tt; text = empty }

  -- one row's more
  pub one_more : (n : ℕ) (line : List ℕ) (P Q : List ℕ → Type 0) → RowLines tells at n P → IsLine tells at n line → ((text : List ℕ) → P text → Q (text ++ line)) → RowLines tells at (n + 1) Q
  one_more n line P Q told is step =
      let long = told.many in
      record {
        lines = told.lines ++ line ∷ [];
        many = omega (arith, long, length-append told.lines (line ∷ []));
        are = push_line 0 n told.lines line (omega (arith, long)) told.are is;
        text = subst Q (flat_map_more (λ (l : List ℕ). l) [] told.lines line) (step (joined told.lines) told.text);
      }

  pub lines_as : (n : ℕ) (P Q : List ℕ → Type 0) → ((text : List ℕ) → P text → Q text) → RowLines tells at n P → RowLines tells at n Q
  lines_as n P Q step told = record { lines = told.lines; many = told.many; are = told.are; text = step (joined told.lines) told.text }

  -- its line wasn't taken
  pub line_err : (n : ℕ) (a b c : Option (List ℕ)) (left new line : List ℕ) (e : PutErr) → RowLines tells at n (λ text. Sends a b text left) → IsLine tells at n line → (e ≡ put.Memory → Sends b c left new) → AppendsFront b c (left ++ line)
      → Lines tells at (Err (status_of_put e)) (Gathers a c new (Err (status_of_put e)))
  line_err n a b c left new line put.Memory told is still front = (n, lines_as n _ _ (λ text sends. sends_still a b c text left new sends (still refl)) told)
  line_err n a b c left new line put.SinkFault told is still front = (n + 1, one_more n line _ _ told is (λ text sends. front_then a b c text left line sends front))

  -- it stopped before a line was made
  pub lines_stopped : (n : ℕ) (a b : Option (List ℕ)) (left : List ℕ) (e : StatusErr) → (e ≡ SinkFault → ⊥) → RowLines tells at n (λ text. Sends a b text left) → Lines tells at (Err e) (Gathers a b left (Err e))
  lines_stopped n a b left e other told = (n, lines_as n _ _ (λ text sends. gathers e other text sends) told)
    where
      gathers : (e : StatusErr) → (e ≡ SinkFault → ⊥) → (text : List ℕ) → Sends a b text left → Gathers a b left (Err e) text
      gathers SinkFault other text sends = absurd (other refl)
      gathers DiskFault other text sends = sends
      gathers OutOfMemory other text sends = sends

  -- what was gathered went out, or that failed
  pub reports_ended : (before now : ℕ) (told r : Result Unit StatusErr) (P Q : List ℕ → Type 0) → EndsAs before now told r → ((text : List ℕ) → P text → Q text) → Lines tells at told P → Lines tells at r Q
  reports_ended before now (Ok x) (Ok y) P Q ends step lines = lines_as (length at.catalogue.rows) P Q step lines
  reports_ended before now (Err e) (Ok y) P Q ends step lines = absurd ends
  reports_ended before now (Ok x) (Err e) P Q ends step lines = (length at.catalogue.rows, lines_as (length at.catalogue.rows) P Q step lines)
  reports_ended before now (Err d) (Err e) P Q ends step lines = (lines.0, lines_as lines.0 P Q step lines.1)

-- where what is gathered goes out, a front goes out of what was told before it stopped
pub gathered_front : (a b c : Option (List ℕ)) (left : List ℕ) (e : StatusErr) → (e ≡ SinkFault → ⊥) → AppendsFront b c left → (text : List ℕ) → Gathers a b left (Err e) text → AppendsFront a c text
gathered_front a b c left SinkFault other front text gathers = absurd (other refl)
gathered_front a b c left DiskFault other front text gathers = front_out a b c text left gathers front
gathered_front a b c left OutOfMemory other front text gathers = front_out a b c text left gathers front

-- what is seen of a store's list of a row
pub number_there : (old mid : List ManifestState) (place row : ℕ) (m : ManifestState) (entries : List Entry) → mid ≡ old → slice_get mid place ≡ Some m → entries ≡ filter (λ (e : Entry). nat_eq e.series row) m.entries → length entries ≡ length (entries_of row (slice_get old place))
number_there old mid place row m entries same here are = ap length are ∙ (ap (λ (o : Option ManifestState). length (entries_of row o)) (sym here) ∙ ap (λ (ms : List ManifestState). length (entries_of row (slice_get ms place))) same)

-- WHAT IS HELD

-- the lines of some first rows are a front of the text, and all of it where they are all
record IsFront (lines : List (List ℕ)) (rows : List Row) (text : List ℕ) : Type 0 where
  pub rest : List ℕ
  pub is : text ≡ joined lines ++ rest
  pub all : length lines ≡ length rows → rest ≡ []

module _ (tells : Bool) (at : Seen) (held : Stores) (has : Has tells at held) (stands : IsTrue held.stands) (told : IsTrue tells) where
  held_is : (i : ℕ) (line : List ℕ) (row : Row) → slice_get at.catalogue.rows i ≡ Some row → IsLine tells at i line → line ≡ held_line held i row
  held_is i line row here is =
      let same : is.row ≡ row = same_Some is.row row (sym is.here ∙ here) in
      let count : is.count ≡ length (whole_in i held) = is.is.held told held has stands in
      let short : files_of 0 i at ≡ length (of_row i held.short) = own_number tells at held has 0 i (omega arith) in
      let medium : files_of 1 i at ≡ length (of_row i held.medium) = own_number tells at held has 1 i (omega arith) in
      let long : files_of 2 i at ≡ length (of_row i held.long) = own_number tells at held has 2 i (omega arith) in
      is.text
      ∙ (ap (λ (r : Row). row_line r is.count (files_of 0 i at) (files_of 1 i at) (files_of 2 i at)) same
      ∙ (ap (λ (n : ℕ). row_line row n (files_of 0 i at) (files_of 1 i at) (files_of 2 i at)) count
      ∙ (ap (λ (n : ℕ). row_line row (length (whole_in i held)) n (files_of 1 i at) (files_of 2 i at)) short
      ∙ (ap (λ (n : ℕ). row_line row (length (whole_in i held)) (length (of_row i held.short)) n (files_of 2 i at)) medium
      ∙ ap (λ (n : ℕ). row_line row (length (whole_in i held)) (length (of_row i held.short)) (length (of_row i held.medium)) n) long))))

  front_from : (i : ℕ) (rows : List Row) (lines : List (List ℕ)) → ((k : ℕ) → slice_get rows k ≡ slice_get at.catalogue.rows (i + k)) → AreLines tells at i lines → IsFront lines rows (lines_from i rows (held_line held))
  front_from i [] [] shift are = record { rest = []; is = refl; all = λ same. refl }
  front_from i (row ∷ rows) [] shift are = record { rest = lines_from i (row ∷ rows) (held_line held); is = refl; all = λ same. absurd (omega (arith, same)) }
  front_from i [] (line ∷ lines) shift are =
      let at_start : i + 0 ≡ i = omega arith in
      let none : ◌≡◌ {A = Option Row} None (Some are.0.row) = shift 0 ∙ ap (slice_get at.catalogue.rows) at_start ∙ are.0.here in
      absurd (cc (none))
  front_from i (row ∷ rows) (line ∷ lines) shift are =
      let at_start : i + 0 ≡ i = omega arith in
      let here : slice_get at.catalogue.rows i ≡ Some row = sym (shift 0 ∙ ap (slice_get at.catalogue.rows) at_start) in
      let mine = held_is i line row here are.0 in
      let next : (k : ℕ) → slice_get rows k ≡ slice_get at.catalogue.rows ((i + 1) + k) = λ k. let place : i + suc k ≡ (i + 1) + k = omega arith in shift (suc k) ∙ ap (slice_get at.catalogue.rows) place in
      let behind = front_from (i + 1) rows lines next are.1 in
      record {
        rest = behind.rest;
        is =
            ap (λ (u : List ℕ). u ++ lines_from (i + 1) rows (held_line held)) (sym mine)
            ∙ (ap (λ (u : List ℕ). line ++ u) behind.is ∙ (sym (append_assoc line (joined lines) behind.rest) ∙ ap (λ (u : List ℕ). u ++ behind.rest) (sym (flat_map-cons (λ (l : List ℕ). l) line lines))));
        all = λ same. behind.all (omega (arith, same));
      }

  front_of : (lines : List (List ℕ)) → AreLines tells at 0 lines → IsFront lines at.catalogue.rows (status_text held)
  front_of lines are =
      let front = front_from 0 at.catalogue.rows lines (λ k. let same : k ≡ 0 + k = omega arith in ap (slice_get at.catalogue.rows) same) are in
      subst (λ (rows : List Row). IsFront lines at.catalogue.rows (lines_from 0 rows (held_line held))) has.known.rows front

  -- the text is the one of what is held, or a front of it is
  pub held_text : (a b : Option (List ℕ)) (r : Result Unit StatusErr) → Reports tells at a b r → Writes a b r (status_text held)
  held_text a b (Ok x) lines =
      let front = front_of lines.lines lines.are in
      let none : front.rest ≡ [] = front.all lines.many in
      let whole : status_text held ≡ joined lines.lines = front.is ∙ (ap (λ (u : List ℕ). joined lines.lines ++ u) none ∙ append-nil (joined lines.lines)) in
      subst (Appends a b) (sym whole) lines.text
  held_text a b (Err e) (n, lines) = let front = front_of lines.lines lines.are in subst (AppendsFront a b) (sym front.is) (front_longer a b (joined lines.lines) front.rest lines.text)

-- WHAT WAS SO BEFORE

module _ {D R : Type 0} (disk : Ghosts D R) where
  -- a line of stores that were only read is one of what they were
  pub line_before : {A E : Type 0} (old new : TierStore D R) (end : End A E) (i : ℕ) (line : List ℕ) → KeepsStores disk old new end → IsLine disk.tells (seen disk new) i line → IsLine disk.tells (seen disk old) i line
  line_before old new end i line kept is =
      let lists : ◌≡◌ {A = List ManifestState} new.manifests.items old.manifests.items = ap (λ m. m.items) kept.manifests in
      let entries : entries_of_line i new.catalogue.rows new.manifests.items ≡ entries_of_line i old.catalogue.rows old.manifests.items =
      ap (λ (c : CatalogueState). entries_of_line i c.rows new.manifests.items) kept.catalogue ∙ ap (entries_of_line i old.catalogue.rows) lists in
      let files : (k : ℕ) → files_of k i (seen disk new) ≡ files_of k i (seen disk old) = λ k. ap (λ (ms : List ManifestState). length (entries_of i (slice_get ms k))) lists in
      record {
        row = is.row;
        here = ap (λ (c : CatalogueState). slice_get c.rows i) (sym kept.catalogue) ∙ is.here;
        count = is.count;
        is = record {
          held = λ told held has stands. is.is.held told held (kept.has held has) stands;
          listed = subst (λ (es : List Entry). RiseFrom 0 es → is.count ≡ listed_count es) entries is.is.listed;
        };
        text =
            is.text
            ∙ (ap (λ (n : ℕ). row_line is.row is.count n (files_of 1 i (seen disk new)) (files_of 2 i (seen disk new))) (files 0)
            ∙ (ap (λ (n : ℕ). row_line is.row is.count (files_of 0 i (seen disk old)) n (files_of 2 i (seen disk new))) (files 1) ∙ ap (λ (n : ℕ). row_line is.row is.count (files_of 0 i (seen disk old)) (files_of 1 i (seen disk old)) n) (files 2)));
      }

  -- what a status ended as is what it came to
  pub keeps_ended : (old new : TierStore D R) (before now : ℕ) (told r : Result Unit StatusErr) → EndsAs before now told r → KeepsStores disk old new (end_of_status told) → KeepsStores disk old new (end_of_status r)
  keeps_ended old new before now (Ok x) (Ok y) ends kept = kept
  keeps_ended old new before now (Err d) (Ok y) ends kept = absurd ends
  keeps_ended old new before now told (Err e) (inl is) kept = subst (λ (r : Result Unit StatusErr). KeepsStores disk old new (end_of_status r)) is kept
  keeps_ended old new before now told (Err e) (inr (is, rose)) kept = subst (λ (x : StatusErr). KeepsStores disk old new (end_of_status (Err x))) (sym is) (keeps_as disk old new _ (end_of_status (Err SinkFault)) (λ failed. absurd failed) kept)

-- a line that wasn't taken is no failure of the disk
pub put_quiet : (e : PutErr) → IsFailed (end_of_status (Err (status_of_put e))) → ⊥
put_quiet put.SinkFault failed = failed
put_quiet put.Memory failed = failed

rose_within : (a b c d : ℕ) → a ≤ b → c ≤ d → Rose b c → Rose a d
rose_within a b c d low high rose = grind arith

pub cause_ended : (a b c : ℕ) (told r : Result Unit StatusErr) → a ≤ b → b ≤ c → EndsAs b c told r → (told ≡ Err SinkFault → Rose a b) → r ≡ Err SinkFault → Rose a c
cause_ended a b c (Ok x) (Ok y) low high ends was is = absurd (cc (is))
cause_ended a b c (Err d) (Ok y) low high ends was is = absurd ends
cause_ended a b c told (Err e) low high (inl same) was is = rose_within a a b c (omega arith) high (was (same ∙ is))
cause_ended a b c told (Err e) low high (inr (same, rose)) was is = rose_within a b c c low (omega arith) rose
