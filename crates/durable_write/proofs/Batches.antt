-- Batches: the headers of their files, how many samples they have, and one list after another.
use Rattle.std.proofs.Common.{List, [], ◌∷◌, ◌∙◌, ap, ◌≡◌, ◌++◌, get_or, sym, ℕ, ◌+◌, ◌<◌, ◌≤◌, length, map, arith, ◌⊎◌, inl, inr, Option, None, Some, refl, subst, take, append-nil, Bool, true, false, cond, drop, ◌*◌, ◌^◌}
use Rattle.std.specs.Prelude.{All, IfSome, Contains, IsTrue, filter, nat_eq, nat_lt, slice_get, FitsSigned}
use Rattle.std.proofs.lemmas.List.Elements.{All-nil, All-contains, All-cons, filter_passes, filter_agree, All-filter, Contains-push, recursion_from_All}
use Rattle.partition_names.specs.declared.granularity.Granularity.{Granularity}
use Rattle.durable_write.specs.declared.file_write.FileWrite.{FileWrite}
use Rattle.durable_write.specs.Held.{Filed, Held, filed_at, IsFiled, AreFiled, bytes_of, entry_of, samples_of}
use Rattle.durable_write.specs.Flush.{PlacesRise, put_all, Grows, GrowsOwn, HasHeaderOf, MakesFiles, file_at, listed_bytes, with_batch, with_files, HoldsBoth, Flushes, EndsRow, bytes_in}
use Rattle.std.specs.List.{AllByRecursion, AllZip, sum_by}
use Rattle.std.proofs.lemmas.List.{length-append, length-map, get_or-map, take_more, take-append-drop, map-append, get_or_default}
use Rattle.series_model.specs.declared.batch.RowSamples.{RowSamples}
use Rattle.pb_lines.proofs.FileMeaning.{begin_alike}
use Rattle.durable_write.proofs.Places.{found, listed_at, all_put_all, rise_put_all, last_of_rising, put_other, put_behind, put_over, put_within, start_before, last_view, same_last}
use Rattle.std.proofs.lemmas.Bool.{cond-true, cond-false, cases_eq, cases_order}
use Rattle.std.proofs.lemmas.Bool.Decides.{nat_tests}
use Rattle.std.specs.List.Sorted.{IsStableByKey, IsNonDecreasingBy, ties, IsPermutation}
use Rattle.std.specs.Ordering.{nat_cmp, is_lt}
use Rattle.partition_names.specs.Part.{IsPart}
use Rattle.series_model.specs.declared.sample.Sample.{Sample}
use Rattle.series_model.specs.Series.{over, IsRising}
use Rattle.series_model.proofs.OverLemmas.{over_flushed}
use Rattle.series_model.proofs.RisingLists.{RisesFrom-front}
use Rattle.store_manifest.specs.declared.entry.Entry.{Entry}
use Rattle.pv_catalog.specs.declared.row.Row.{Row}
use Rattle.durable_write.specs.declared.plan.Target.{Target}
use Rattle.store_manifest.specs.Entries.{put}
use Rattle.durable_write.specs.Plan.{of_row, StartBefore, EndsAt, IsLastOf, later_of, last_with, samples_with, Gains, HoldsRow, Adds, Plans, PlansOn, KeepsRows}
use Rattle.pb_lines.proofs.FileLines.{all-append}
use Rattle.durable_write.proofs.Written.{leads_still, leads_with}
use Rattle.std.proofs.lemmas.List.Sorted.{sum_by-IsPermutation}
use Rattle.std.proofs.lemmas.List.Sums.{sum_by-cons, sum_by_more, sum_by-take-le}
use Rattle.pb_lines.proofs.Running.{lines_long}
use Rattle.std.specs.Option.{option_map}
use Rattle.std.specs.Int.{w32}
use Rattle.arch_time.specs.YearTime.{IsSampleYear}
use Rattle.line_escape.specs.Escaping.{escaped}
use Rattle.line_escape.proofs.EscapingLemmas.{length-escaped}
use Rattle.pb_wire.specs.Payload.{row_of}
use Rattle.pb_wire.specs.Message.{varint, blob}
use Rattle.pb_wire.specs.Spelling.{field_text, number_text}
use Rattle.pb_messages.specs.declared.info.PayloadInfo.{PayloadInfo}
use Rattle.pb_messages.specs.InfoSpelling.{message_text, pair_text, pair_field, optional_field, required_fields, sign_extended, info_text, FitsInfo}
use Rattle.pb_messages.proofs.InfoSpellingLemmas.{texts_apart}

-- A flush keeps the headers of listed files, and new files have their rows' own.

-- the header of a file by what was listed at its place
abbrev Header : Held → Filed → Type 0
Header held f = HasHeaderOf held.rows f (file_at (filed_at f) held.files)

grown_header : (g : Granularity) (held : Held) (p : FileWrite) (f : Filed) → AreFiled g held → IsTrue held.stands → Grows g held p f → Header held f
grown_header g held p f filed stands grows = go (listed_at held.files (filed_at f))
  where
    own : GrowsOwn g held p f
    own = grows.own stands

    go : (file_at (filed_at f) held.files ≡ None) ⊎ ((h : Filed) × Contains held.files h × (filed_at h ≡ filed_at f) × (file_at (filed_at f) held.files ≡ Some h)) → Header held f
    go (inl none) = subst (λ (o : Option Filed). HasHeaderOf held.rows f o) (sym none) (own.anew none)
    go (inr (h, within, is, there)) =
        let old = All-contains (IsFiled g held.rows) held.files h (filed.filed stands) within in
        let bytes : bytes_of f ≡ bytes_of h ++ p.bytes.items = own.bytes ∙ ap (λ (o : Option Filed). listed_bytes o ++ p.bytes.items) there in
        let alike = begin_alike (bytes_of f) (bytes_of h) [] p.bytes.items f.head h.head own.filed.info old.info f.samples h.samples own.filed.file old.file (append-nil (bytes_of f) ∙ bytes) in
        subst (λ (o : Option Filed). HasHeaderOf held.rows f o) (sym there) alike.heads

grown_headers : (g : Granularity) (held : Held) (ps : List FileWrite) (fs : List Filed) → AreFiled g held → IsTrue held.stands → AllZip (Grows g held) ps fs → All (Header held) fs
grown_headers g held [] [] filed stands each = All-nil (Header held)
grown_headers g held [] (f ∷ fs) filed stands each = absurd each
grown_headers g held (p ∷ ps) [] filed stands each = absurd each
grown_headers g held (p ∷ ps) (f ∷ fs) filed stands each = All-cons (Header held) f fs (grown_header g held p f filed stands each.0) (grown_headers g held ps fs filed stands each.1)

pub headers_kept : (g : Granularity) (held : Held) (ps : List FileWrite) (fs : List Filed) → AreFiled g held → PlacesRise held.files → IsTrue held.stands → MakesFiles g held ps fs → All (λ (f : Filed). HasHeaderOf held.rows f (file_at (filed_at f) held.files)) (put_all held.files fs)
headers_kept g held ps fs filed apart stands makes =
    all_put_all (Header held) held.files fs
    (λ k d lt. subst (λ (o : Option Filed). HasHeaderOf held.rows (get_or held.files k d) o) (sym (found held.files apart k d lt)) refl)
    (grown_headers g held ps fs filed stands makes.each)

-- One list of a batch after another.

-- SAMPLES OF ONE ROW

pub adds_more : (target : Target) (row : Row) (xs ys : List Sample) (m n : ℕ) (a b c : List FileWrite) → Adds target row xs m a b → Adds target row ys n b c → IsRising (xs ++ ys) → Adds target row (xs ++ ys) (m + n) a c
adds_more target row xs ys m n a b c one two rising = record {
  made = λ held has fs plan.
      let first = one.made held has fs plan in
      let second = two.made held has first.0 first.1 in (
        second.0,
        second.1,
        λ is.
            let before = first.2 is in
            let after = second.2 is in
            record {
              own = after.own ∙ (ap (λ (l : List Sample). over l ys) before.own ∙ over_flushed (samples_with held fs target.series) xs ys rising);
              others = λ r other. after.others r other ∙ before.others r other;
              count = omega (arith, before.count, after.count);
            },
      );
}

-- one sample more of a list
pub adds_next : (target : Target) (row : Row) (xs : List Sample) (i m n : ℕ) (x : Sample) (a b c : List FileWrite) → i < length xs → x ≡ get_or xs i x → IsRising xs → Adds target row (take i xs) m a b → Adds target row (x ∷ []) n b c → Adds target row (take (i + 1) xs) (m + n) a c
adds_next target row xs i m n x a b c low is rising one two =
    let more : take (i + 1) xs ≡ take i xs ++ x ∷ [] = take_more xs i x low ∙ ap (λ (z : Sample). take i xs ++ z ∷ []) (sym is) in
    let P : List Sample → Type 0 = λ l. Adds target row l (m + n) a c in
    let R : List Sample → Type 0 = λ l. IsRising l in
    let front : IsRising (take (i + 1) xs) = RisesFrom-front 0 (take (i + 1) xs) (drop (i + 1) xs) (subst R (sym (take-append-drop (i + 1) xs)) rising) in
    subst P (sym more) (adds_more target row (take i xs) (x ∷ []) m n a b c one two (subst R more front))

-- THE LISTED ENTRIES OF A ROW

entries_of_row : (series : ℕ) (files : List Filed) → filter (λ (e : Entry). nat_eq e.series series) (map entry_of files) ≡ map entry_of (of_row series files)
entries_of_row series [] = refl
entries_of_row series (f ∷ files) = by_test (nat_eq f.entry.series series) (entries_of_row series files)
  where
    by_test : (b : Bool) → filter (λ (e : Entry). nat_eq e.series series) (map entry_of files) ≡ map entry_of (of_row series files) → cond b (f.entry ∷ filter (λ (e : Entry). nat_eq e.series series) (map entry_of files)) (filter (λ (e : Entry). nat_eq e.series series) (map entry_of files)) ≡ map entry_of (cond b (f ∷ of_row series files) (of_row series files))
    by_test true rest = ap (λ (l : List Entry). f.entry ∷ l) rest
    by_test false rest = rest

pub ends_listed : (series : ℕ) (entries : List Entry) (files : List Filed) (last : Option Entry) → entries ≡ map entry_of files → PlacesRise files → IsLastOf entries series last → EndsAt files series last
ends_listed series entries files None are rise is =
    let none : map entry_of (of_row series files) ≡ [] = sym (ap (filter (λ (e : Entry). nat_eq e.series series)) are ∙ entries_of_row series files) ∙ is in
    elim (last_view (of_row series files)) [
      | inl none₂ ↦ none₂
      | inr v ↦ absurd (omega (arith, ap length none, length-map (of_row series files) entry_of, ap length v.2, length-append v.0 (v.1 ∷ [])))
    ]
ends_listed series entries files (Some e) are rise is =
    let some : map entry_of (of_row series files) ≡ is.0 ++ e ∷ [] = sym (ap (filter (λ (e : Entry). nat_eq e.series series)) are ∙ entries_of_row series files) ∙ is.1 in
    elim (last_view (of_row series files)) [
      | inl none ↦ absurd (omega (arith, ap length some, length-map (of_row series files) entry_of, ap length none, length-append is.0 (e ∷ [])))
      | inr v ↦ (v.1, last_of_rising series files v.0 v.1 rise v.2, (same_last (map entry_of v.0) is.0 v.1.entry e (sym (map-append entry_of v.0 (v.1 ∷ [])) ∙ (sym (ap (map entry_of) v.2) ∙ some))).1)
    ]

-- it is of the series, and of a partition where all are
listed_target : (g : Granularity) (entries : List Entry) (series : ℕ) (last : Option Entry) → All (λ (e : Entry). IsPart g e.part) entries → IsLastOf entries series last → IfSome last (λ (e : Entry). IsPart g e.part × (e.series ≡ series))
listed_target g entries series None parts is = tt
listed_target g entries series (Some e) parts is =
    let q : Entry → Bool = λ x. nat_eq x.series series in
    let P : List Entry → Type 0 = λ l. All (λ (x : Entry). q x ≡ true) l in
    let test : q e ≡ true = All-contains (λ (x : Entry). q x ≡ true) (is.0 ++ e ∷ []) e (subst P is.1 (filter_passes q entries)) (Contains-push is.0 e) in
    let Part : Entry → Type 0 = λ x. IsPart g x.part in
    let Q : List Entry → Type 0 = λ l. All Part l in
    let part : Part e = All-contains Part (is.0 ++ e ∷ []) e (subst Q is.1 (All-filter q Part entries parts)) (Contains-push is.0 e) in
    let series_is : e.series ≡ series = grind (arith, nat_tests) in
    (part, series_is)

-- WITH ENTRIES IN LIMBO

-- P of the later of two, where it is true of both
later_has : (P : Entry → Type 0) (series : ℕ) (last : Option Entry) (e : Entry) → IfSome last P → (e.series ≡ series → P e) → IfSome (later_of series last e) P
later_has P series None e was own = by_test (nat_eq e.series series) refl
  where
    by_test : (b : Bool) → nat_eq e.series series ≡ b → IfSome (cond b (Some e) None) P
    by_test true is = own (grind (arith, nat_tests))
    by_test false is = tt
later_has P series (Some l) e was own = by_tests (nat_eq e.series series) (nat_lt e.part.start l.part.start) refl
  where
    by_tests : (a b : Bool) → nat_eq e.series series ≡ a → IfSome (cond a (cond b (Some l) (Some e)) (Some l)) P
    by_tests true true is = was
    by_tests true false is = own (grind (arith, nat_tests))
    by_tests false b is = was

with_has : (P : Entry → Type 0) (series : ℕ) (last : Option Entry) (es : List Entry) → IfSome last P → AllByRecursion (λ (e : Entry). e.series ≡ series → P e) es → IfSome (last_with series last es) P
with_has P series last [] was own = was
with_has P series last (e ∷ es) was own = with_has P series (later_of series last e) es (later_has P series last e was own.0) own.1

pub target_of : (g : Granularity) (entries limbo : List Entry) (series : ℕ) (last : Option Entry) → All (λ (e : Entry). IsPart g e.part) entries → All (λ (e : Entry). IsPart g e.part) limbo → IsLastOf entries series last → IfSome (last_with series last limbo) (λ (e : Entry). IsPart g e.part × (e.series ≡ series))
target_of g entries limbo series last parts others is =
    with_has (λ (e : Entry). IsPart g e.part × (e.series ≡ series)) series last limbo (listed_target g entries series last parts is)
    (recursion_from_All (λ (e : Entry). e.series ≡ series → IsPart g e.part × (e.series ≡ series)) limbo (λ k d lt own. (others k d lt, own)))

-- one entry after another
pub last_more : (series : ℕ) (last : Option Entry) (es : List Entry) (e : Entry) → last_with series last (es ++ e ∷ []) ≡ later_of series (last_with series last es) e
last_more series last [] e = refl
last_more series last (x ∷ es) e = last_more series (later_of series last x) es e

-- a file that is put among others is the row's last, or the last stays
ends_put : (series : ℕ) (xs : List Filed) (f : Filed) (last : Option Entry) → EndsAt xs series last → EndsAt (put filed_at f xs) series (later_of series last f.entry)
ends_put series xs f None none = by_test (nat_eq f.entry.series series) refl
  where
    by_test : (b : Bool) → nat_eq f.entry.series series ≡ b → EndsAt (put filed_at f xs) series (cond b (Some f.entry) None)
    by_test true is =
        let own : f.entry.series ≡ series = grind (arith, nat_tests) in
        (f, record { earlier = []; are = put_behind series f xs own (subst (λ (l : List Filed). StartBefore f.entry.part.start l) (sym none) tt) ∙ ap (λ (l : List Filed). l ++ f ∷ []) none; before = tt }, refl)
    by_test false is = put_other series f xs (λ same. absurd (let test : nat_eq f.entry.series series ≡ true = grind (arith, nat_tests, same) in cc (test, is))) ∙ none
ends_put series xs f (Some e) (h, last, is_e) = by_tests (nat_eq f.entry.series series) (nat_lt f.entry.part.start e.part.start) refl refl
  where
    start : h.entry.part.start ≡ e.part.start
    start = ap (λ (x : Entry). x.part.start) is_e

    by_order : f.entry.series ≡ series → e.part.start ≤ f.entry.part.start → (f.entry.part.start ≡ h.entry.part.start) ⊎ ((f.entry.part.start < h.entry.part.start) ⊎ (h.entry.part.start < f.entry.part.start)) → EndsAt (put filed_at f xs) series (Some f.entry)
    by_order own le (inl same) = (f, record { earlier = last.earlier; are = put_over series f h xs last.earlier own same last.are last.before; before = subst (λ (n : ℕ). StartBefore n last.earlier) (sym same) last.before }, refl)
    by_order own le (inr (inl lt)) = absurd (omega (arith, start, le, lt))
    by_order own le (inr (inr gt)) =
        let before : StartBefore f.entry.part.start (of_row series xs) = subst (λ (l : List Filed). StartBefore f.entry.part.start l) (sym last.are) (all-append (λ (x : Filed). x.entry.part.start < f.entry.part.start) last.earlier (h ∷ []) (start_before h.entry.part.start f.entry.part.start last.earlier last.before (omega (arith, gt))) (gt, tt)) in
        (f, record { earlier = of_row series xs; are = put_behind series f xs own before; before = before }, refl)

    by_tests : (a b : Bool) → nat_eq f.entry.series series ≡ a → nat_lt f.entry.part.start e.part.start ≡ b → EndsAt (put filed_at f xs) series (cond a (cond b (Some e) (Some f.entry)) (Some e))
    by_tests true true is is₂ =
        let own : f.entry.series ≡ series = grind (arith, nat_tests) in
        let lt : f.entry.part.start < h.entry.part.start = (let less : f.entry.part.start < e.part.start = grind (arith, nat_tests) in omega (arith, less, start)) in
        (h, put_within series f h xs own lt last, is_e)
    by_tests true false is is₂ =
        let own : f.entry.series ≡ series = grind (arith, nat_tests) in
        let le : e.part.start ≤ f.entry.part.start = grind (arith, nat_tests) in
        by_order own le (cases_order f.entry.part.start h.entry.part.start)
    by_tests false b is is₂ =
        (h, record { earlier = last.earlier; are = put_other series f xs (λ same. absurd (let test : nat_eq f.entry.series series ≡ true = grind (arith, nat_tests, same) in cc (test, is))) ∙ last.are; before = last.before }, is_e)

ends_with : (series : ℕ) (fs xs : List Filed) (last : Option Entry) → EndsAt xs series last → EndsAt (put_all xs fs) series (last_with series last (map entry_of fs))
ends_with series [] xs last ends = ends
ends_with series (f ∷ fs) xs last ends = ends_with series fs (put filed_at f xs) (later_of series last f.entry) (ends_put series xs f last ends)

-- so the row's last is found among what is listed and what is in limbo
ends_both : (g : Granularity) (rows : List Row) (entries limbo : List Entry) (held : Held) (series : ℕ) (last : Option Entry) → HoldsBoth g rows entries limbo held → IsLastOf entries series last → EndsAt held.files series (last_with series last limbo)
ends_both g rows entries limbo held series last has is =
    subst (λ (es : List Entry). EndsAt held.files series (last_with series last es)) (sym has.are_others)
    (subst (λ (l : List Filed). EndsAt l series (last_with series last (map entry_of has.others))) (sym has.both)
    (ends_with series has.others has.listed last (ends_listed series entries has.listed last has.are_listed has.apart is)))

both_rise : (g : Granularity) (rows : List Row) (entries limbo : List Entry) (held : Held) → HoldsBoth g rows entries limbo held → PlacesRise held.files
both_rise g rows entries limbo held has = subst PlacesRise (sym has.both) (rise_put_all has.listed has.others has.apart)

-- LISTS OF SEVERAL ROWS

with_batch-push : (row : ℕ) (xs : List Sample) (parts : List RowSamples) (p : RowSamples) → with_batch row xs (parts ++ p ∷ []) ≡ cond (nat_eq p.row row) (over (with_batch row xs parts) p.samples) (with_batch row xs parts)
with_batch-push row xs [] p = refl
with_batch-push row xs (q ∷ parts) p = with_batch-push row (cond (nat_eq q.row row) (over xs q.samples) xs) parts p

no_last : (rest : List Filed) (f : Filed) → [] ≡ rest ++ f ∷ [] → ⊥
no_last rest f is = omega (arith, ap length is, length-append rest (f ∷ []))

pub plans_none : (g : Granularity) (rows : List Row) (entries limbo : List Entry) → Plans g rows entries limbo [] 0 []
plans_none g rows entries limbo = record {
  made = λ held has.
      ([], record { makes = record { each = tt; apart = tt }; last = λ rest f is. absurd (no_last rest f is); ends = All-nil (EndsRow held.files) }, λ is. record { samples = λ row. refl; count = omega arith });
}

pub plans_on : (target : Target) (rows : List Row) (entries limbo : List Entry) (part : RowSamples) (row : Row) (n : ℕ) (old new : List FileWrite) (last : Option Entry) → target.series ≡ part.row → slice_get rows part.row ≡ Some row → IsLastOf entries part.row last → target.listed ≡ last_with part.row last limbo → Adds target row part.samples n old new → PlansOn target.granularity rows entries limbo part n old new
plans_on target rows entries limbo part row n old new last series stands is_last listed adds = record {
  on = λ parts m before. record {
    made = λ held has.
        let plan = before.made held has in
        let R : List Row → Type 0 = λ l. slice_get l part.row ≡ Some row in
        let S : ℕ → Type 0 = λ k. slice_get held.rows k ≡ Some row in
        let E : ℕ → Type 0 = λ k. EndsAt held.files k target.listed in
        let here : HoldsRow target row held = record {
          stands = subst S (sym series) (subst R (sym has.of_rows) stands);
          filed = has.filed;
          apart = both_rise target.granularity rows entries limbo held has;
          ends = subst E (sym series) (subst (λ (o : Option Entry). EndsAt held.files part.row o) (sym listed) (ends_both target.granularity rows entries limbo held part.row last has is_last));
        } in
        let more = adds.made held here plan.0 plan.1 in (
          more.0,
          more.1,
          λ is.
              let gains = more.2 is in
              let reached = plan.2 is in
              record {
                samples = λ r. by_row r (cases_eq r target.series) held plan.0 more.0 gains parts (reached.samples r);
                count = omega (arith, gains.count, reached.count);
              },
        );
  };
}
  where
    by_row : (r : ℕ) → (r ≡ target.series) ⊎ (r ≡ target.series → ⊥) → (held : Held) (fs more : List Filed) → Gains held target.series part.samples n fs more → (parts : List RowSamples) → samples_with held fs r ≡ with_batch r (samples_of r held.files) parts → samples_with held more r ≡ with_batch r (samples_of r held.files) (parts ++ part ∷ [])
    by_row r (inl is) held fs more gains parts before =
        let base = samples_of r held.files in
        let test : nat_eq part.row r ≡ true = grind (arith, nat_tests) in
        let P : ℕ → Type 0 = λ k. samples_with held more k ≡ over (samples_with held fs k) part.samples in
        let own = subst P (sym is) gains.own in
        own ∙ (ap (λ (l : List Sample). over l part.samples) before ∙ sym (with_batch-push r base parts part ∙ cond-true (nat_eq part.row r) (over (with_batch r base parts) part.samples) (with_batch r base parts) test))
    by_row r (inr other) held fs more gains parts before =
        let base = samples_of r held.files in
        let test : nat_eq part.row r ≡ false = grind (arith, nat_tests) in
        gains.others r other ∙ (before ∙ sym (with_batch-push r base parts part ∙ cond-false (nat_eq part.row r) (over (with_batch r base parts) part.samples) (with_batch r base parts) test))

-- a row's lists alone make what all lists make of it
of_row_alone : (row : ℕ) (xs : List Sample) (parts : List RowSamples) → with_batch row xs parts ≡ with_batch row xs (filter (λ (p : RowSamples). nat_eq p.row row) parts)
of_row_alone row xs [] = refl
of_row_alone row xs (p ∷ parts) = by_test (nat_eq p.row row) refl (of_row_alone row (over xs p.samples) parts) (of_row_alone row xs parts)
  where
    own : List RowSamples
    own = filter (λ (q : RowSamples). nat_eq q.row row) parts

    by_test : (b : Bool) → nat_eq p.row row ≡ b → with_batch row (over xs p.samples) parts ≡ with_batch row (over xs p.samples) own → with_batch row xs parts ≡ with_batch row xs own → with_batch row (cond b (over xs p.samples) xs) parts ≡ with_batch row xs (cond b (p ∷ own) own)
    by_test true is with_it without = with_it ∙ ap (λ (l : List Sample). with_batch row l own) (sym (cond-true (nat_eq p.row row) (over xs p.samples) xs is))
    by_test false is with_it without = without

-- the order of the rows doesn't count
pub plans_kept : (g : Granularity) (rows : List Row) (entries limbo : List Entry) (parts order : List RowSamples) (n : ℕ) (writes : List FileWrite) → KeepsRows parts order → Plans g rows entries limbo order n writes → Plans g rows entries limbo parts n writes
plans_kept g rows entries limbo parts order n writes same plans = record {
  made = λ held has.
      let plan = plans.made held has in (
        plan.0,
        plan.1,
        λ is. record {
          samples = λ row. (plan.2 is).samples row ∙ (of_row_alone row (samples_of row held.files) order ∙ (ap (with_batch row (samples_of row held.files)) (same row) ∙ sym (of_row_alone row (samples_of row held.files) parts)));
          count = (plan.2 is).count;
        },
      );
}

pub flushes : (g : Granularity) (rows : List Row) (entries limbo : List Entry) (batch : List RowSamples) (n : ℕ) (writes : List FileWrite) → Plans g rows entries limbo batch n writes → (held : Held) → HoldsBoth g rows entries limbo held → Flushes g held batch writes n
flushes g rows entries limbo batch n writes plans held has =
    let plan = plans.made held has in
    let apart = both_rise g rows entries limbo held has in
    record {
      files = plan.0;
      makes = plan.1.makes;
      flushed = record { store = refl; rows = refl; stands = refl; still = leads_still held (with_files held plan.0) (leads_with g held writes plan.0 has.filed.listed apart plan.1.makes); samples = λ is. (plan.2 is).samples; headers = λ is. headers_kept g held writes plan.0 has.filed apart is plan.1.makes };
      more = λ is. (plan.2 is).count;
      ends = plan.1.ends;
    }

-- one list more
pub plans_next : {X : Type 0} (seen : X → RowSamples) (g : Granularity) (rows : List Row) (entries limbo : List Entry) (order : List X) (i m n : ℕ) (x : X) (old new : List FileWrite) → i < length order → x ≡ get_or order i x → Plans g rows entries limbo (take i (map seen order)) m old → PlansOn g rows entries limbo (seen x) n old new → Plans g rows entries limbo (take (i + 1) (map seen order)) (m + n) new
plans_next {X} seen g rows entries limbo order i m n x old new low is plans on =
    let here : get_or (map seen order) i (seen x) ≡ seen x = get_or-map seen order i x (seen x) low ∙ ap seen (sym is) in
    let more : take (i + 1) (map seen order) ≡ take i (map seen order) ++ seen x ∷ [] = take_more (map seen order) i (seen x) (omega (arith, length-map order seen)) ∙ ap (λ (z : RowSamples). take i (map seen order) ++ z ∷ []) here in
    let P : List RowSamples → Type 0 = λ l. Plans g rows entries limbo l (m + n) new in
    subst P (sym more) (on.on (take i (map seen order)) m plans)

-- a stable sort by a number keeps the order of those of one number
pub keeps_ties : {X : Type 0} (key : X → ℕ) (xs ys : List X) → IsStableByKey key nat_cmp xs ys → (n : ℕ) → filter (λ (x : X). nat_eq (key x) n) ys ≡ filter (λ (x : X). nat_eq (key x) n) xs
keeps_ties {X} key xs ys stable n = elim (last_view (filter q ys)) [
  | inr v ↦ by_one ys v.0 v.1 v.2
  | inl none ↦ elim (last_view (filter q xs)) [ inr v ↦ by_one xs v.0 v.1 v.2 | inl none₂ ↦ none ∙ sym none₂ ]
]
  where
    q : X → Bool
    q x = nat_eq (key x) n

    by_one : (zs rest : List X) (x : X) → filter q zs ≡ rest ++ x ∷ [] → filter q ys ≡ filter q xs
    by_one zs rest x are =
        let P : List X → Type 0 = λ l. All (λ (z : X). q z ≡ true) l in
        let test : q x ≡ true = All-contains (λ (z : X). q z ≡ true) (rest ++ x ∷ []) x (subst P are (filter_passes q zs)) (Contains-push rest x) in
        let lt : X → X → Bool = λ a b. is_lt (nat_cmp (key a) (key b)) in
        let agree : (z : X) → ties lt x z ≡ q z = λ z. grind (arith, nat_tests) in
        sym (filter_agree (ties lt x) q agree ys) ∙ (stable x ∙ filter_agree (ties lt x) q agree xs)

filter_seen : {X : Type 0} (seen : X → RowSamples) (q : RowSamples → Bool) (xs : List X) → filter q (map seen xs) ≡ map seen (filter (λ (x : X). q (seen x)) xs)
filter_seen seen q [] = refl
filter_seen {X} seen q (x ∷ xs) = by_test (q (seen x)) (filter_seen seen q xs)
  where
    by_test : (b : Bool) → filter q (map seen xs) ≡ map seen (filter (λ (y : X). q (seen y)) xs) → cond b (seen x ∷ filter q (map seen xs)) (filter q (map seen xs)) ≡ map seen (cond b (x ∷ filter (λ (y : X). q (seen y)) xs) (filter (λ (y : X). q (seen y)) xs))
    by_test true rest = ap (λ (l : List RowSamples). seen x ∷ l) rest
    by_test false rest = rest

pub keeps_rows : {X : Type 0} (seen : X → RowSamples) (old new : List X) (parts : List RowSamples) → map seen old ≡ parts → IsStableByKey (λ x. (seen x).row) nat_cmp old new → KeepsRows parts (map seen new)
keeps_rows {X} seen old new parts are stable = λ row.
    let q : RowSamples → Bool = λ p. nat_eq p.row row in
    filter_seen seen q new ∙ (ap (map seen) (keeps_ties (λ x. (seen x).row) old new stable row) ∙ (sym (filter_seen seen q old) ∙ ap (filter q) are))

-- what holds of all lists holds of the next one, and its row isn't behind those that follow
pub each_seen : {X : Type 0} (seen : X → RowSamples) (P : RowSamples → Type 0) (xs : List X) (i : ℕ) (x : X) → All P (map seen xs) → i < length xs → x ≡ get_or xs i x → P (seen x)
each_seen seen P xs i x all low is =
    subst P (get_or-map seen xs i x (seen x) low ∙ ap seen (sym is)) (all i (seen x) (omega (arith, length-map xs seen)))

pub rows_follow : {X : Type 0} (seen : X → RowSamples) (xs : List X) (i : ℕ) (x : X) → IsNonDecreasingBy (λ y. (seen y).row) xs → i < length xs → x ≡ get_or xs i x → (k : ℕ) (d : X) → i + 1 ≤ k → k < length xs → (seen x).row ≤ (seen (get_or xs k d)).row
rows_follow seen xs i x rises low is k d behind within =
    let next = rises i k x (omega arith) within in
    let here : (seen x).row ≡ (seen (get_or xs i x)).row = ap (λ y. (seen y).row) is in
    let there : (seen (get_or xs k x)).row ≡ (seen (get_or xs k d)).row = ap (λ y. (seen y).row) (get_or_default xs k x d within) in
    omega arith

-- How many samples a batch has.

abbrev pub samples_in : RowSamples → ℕ
samples_in p = length p.samples

-- each sample takes a newline at least
bytes_long : (ps : List RowSamples) → sum_by samples_in ps ≤ bytes_in ps
bytes_long [] = omega arith
bytes_long (p ∷ ps) = omega (arith, sum_by-cons samples_in p ps, lines_long p.samples, bytes_long ps)

-- a batch that may be flushed has at most so many, in whatever order
pub few_samples : (parts order : List RowSamples) → IsPermutation parts order → bytes_in parts ≤ 67_108_864 → sum_by samples_in order ≤ 67_108_864
few_samples parts order moved few = omega (arith, sum_by-IsPermutation samples_in parts order moved, bytes_long parts, few)

-- the samples up to the next list, by what code sees of it
pub counted_next : {X : Type 0} (seen : X → RowSamples) (order : List X) (i m n : ℕ) (x : X) → i < length order → x ≡ get_or order i x → m ≤ sum_by samples_in (take i (map seen order)) → n ≤ length (seen x).samples → m + n ≤ sum_by samples_in (take (i + 1) (map seen order))
counted_next {X} seen order i m n x low is before more =
    let here : length (get_or (map seen order) i (seen x)).samples ≡ length (seen x).samples = ap samples_in (get_or-map seen order i x (seen x) low ∙ ap seen (sym is)) in
    omega (arith, sum_by_more samples_in (map seen order) i (seen x) (omega (arith, low, length-map order seen)), here, before, more)

-- so many are reached with it, in any part of the batch
pub counted_within : {X : Type 0} (seen : X → RowSamples) (order : List X) (parts : List RowSamples) (i m n : ℕ) (x : X) → IsPermutation parts (map seen order) → bytes_in parts ≤ 67_108_864 → i < length order → x ≡ get_or order i x → m ≤ sum_by samples_in (take i (map seen order)) → n ≤ length (seen x).samples → m + n ≤ 67_108_864
counted_within {X} seen order parts i m n x moved few low is before more = omega (arith, counted_next seen order i m n x low is before more, sum_by-take-le samples_in (map seen order) (i + 1), few_samples parts (map seen order) moved few)

-- A header whose line is in memory fits.

text_long : (n : ℕ) (b : List ℕ) → length b ≤ length (field_text n (blob b))
text_long n b = omega (arith, length-append (number_text (n * 8 + 2)) (number_text (length b) ++ b), length-append (number_text (length b)) b)

pairs_short : (n : ℕ) (ps : List (List ℕ × List ℕ)) → length (message_text (map (pair_field 15) ps)) < n → AllByRecursion (λ p. length (pair_text p) < n) ps
pairs_short n [] short = tt
pairs_short n (p ∷ ps) short =
    let both = length-append (field_text 15 (blob (pair_text p))) (message_text (map (pair_field 15) ps)) in
    (omega (arith, both, text_long 15 (pair_text p)), pairs_short n ps (omega (arith, both)))

pub fits_in_memory : (info : PayloadInfo) → length (escaped (info_text info)) < 2 ^ 64 → IsSampleYear info.year → IfSome info.count (FitsSigned w32) → FitsInfo info
unfolding info_text
fits_in_memory info short year count =
    let rest = optional_field 4 (option_map sign_extended info.count) in
    let pairs = map (pair_field 15) info.headers in
    let one = field_text 1 (varint (row_of info.ty).number) in
    let two = field_text 2 (blob info.name) in
    let three = field_text 3 (varint (sign_extended info.year)) in
    let whole = ap length (texts_apart (required_fields info) (rest ++ pairs)) ∙ length-append (message_text (required_fields info)) (message_text (rest ++ pairs)) in
    let tail = ap length (texts_apart rest pairs) ∙ length-append (message_text rest) (message_text pairs) in
    let head = length-append one (two ++ (three ++ [])) in
    let next = length-append two (three ++ []) in
    record {
      name = omega (arith, length-escaped (info_text info), whole, head, next, text_long 2 info.name);
      year = year;
      count = count;
      headers = pairs_short (2 ^ 64) info.headers (omega (arith, length-escaped (info_text info), whole, tail));
    }
