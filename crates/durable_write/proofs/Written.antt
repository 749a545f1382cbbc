-- What is written ahead of what is listed: write by write, beside what is listed, and beside files in limbo.
use Rattle.std.proofs.Common.{◌≡◌, ◌≢◌, inl, inr, ℕ, zero, suc, ◌≤◌, List, [], ◌∷◌, length, get_or, None, Some, refl, sym, ◌∙◌, ap, subst, arith, ◌⊎◌, ◌++◌, map, take, Bool, true, false, Option, ◌<◌, cond, ◌+◌, Result, Err}
use Rattle.std.specs.Prelude.{All, Contains, IsTrue, filter}
use Rattle.std.specs.List.{AllZip}
use Rattle.std.proofs.lemmas.List.Elements.{All-contains, All-map, Contains-get_or, Contains-append_left, Contains-append_right, All-nil, All-cons, All-head, All-tail, All-more}
use Rattle.disk_model.specs.Files.{Name, Files, HasFile, Content, At}
use Rattle.disk_model.specs.Past.{Past, Passes, MayLeave, Only}
use Rattle.disk_model.specs.declared.disk.DiskErr.{DiskErr}
use Rattle.partition_names.specs.declared.granularity.Granularity.{Granularity}
use Rattle.store_manifest.specs.declared.entry.Entry.{Entry}
use Rattle.store_manifest.specs.Entries.{Place, put, comes_before, all_changed}
use Rattle.durable_write.specs.declared.file_write.FileWrite.{FileWrite}
use Rattle.durable_write.specs.Held.{Filed, Held, IsIn, IsListed, file_of, filed_at, bytes_of, shelf_of, Shelf, IsListedTo, KeepsListed, ListsStill, entry_of, listing_of, IsFiled, AreIn}
use Rattle.durable_write.specs.Flush.{Grows, PlacesRise, file_at, start_of, listed_len, MakesFiles, put_all, with_files, is_place, listed_bytes, HoldsBoth, Flushes}
use Rattle.durable_write.specs.Relisting.{FlushesFiles, Relists, StaysBeside, TouchesOwn}
use Rattle.durable_write.specs.Stored.{AreLong, AreSafe, AreHeld, Holds, HoldsEither, KeysDiffer}
use Rattle.durable_write.specs.Writing.{Behind, LeavesListed, IsStoredAs, IsSafe, IsWritten, IsSynced, IsOfNone, WritesBehind, set_of}
use Rattle.durable_write.proofs.Places.{before_apart, found, is_place-true, is_place-same, rise_at, listed_at, all_put_all, rise_put_all}
use Rattle.durable_write.proofs.Staying.{same_file, same_place, name_cases, keeps_earlier, leaves_earlier, leaves_own, holds_behind, stored_left, not_in, still_stored_as, listed_as, AllowTo, AreApart, whole_in, step_behind, call_behind, behind_on, behind_then, own_long, safe_both, still_held, leaves_on, leaves_committed, leaves_none, behind_itself, behind_none, behind_same}
use Rattle.std.proofs.lemmas.List.{take_all, length-append, take-take, take_at, length-map, get_or-map, length-take, get_or-take, get_or_default}
use Rattle.disk_model.proofs.Passing.{passes_weaker}
use Rattle.gate_journal.specs.Journal.{JournalState}
use Rattle.store_files.specs.Fronts.{Begins, Keeps}
use Rattle.store_manifest.specs.Manifest.{ManifestState, manifest_name}
use Rattle.durable_write.specs.Ahead.{Leads, HasCopied, IsLed, CanRelist}
use Rattle.durable_write.specs.Revival.{having, AreUnlisted, AreInLimbo, ListsNoShorter, FlushesOver}
use Rattle.std.proofs.lemmas.Bool.Decides.{nat_tests}
use Rattle.store_files.proofs.Stays.{front_file}
use Rattle.std.proofs.lemmas.Option.{same_Some}
use Rattle.gate_journal.specs.Generations.{IsOwn, AtOwn}
use Rattle.gate_journal.specs.DiskShown.{DiskShown}
use Rattle.pv_catalog.specs.declared.row.Row.{Row}
use Rattle.series_model.specs.declared.batch.RowSamples.{RowSamples}
use Rattle.store_manifest.specs.declared.entry.Change.{Change}
use Rattle.durable_write.specs.Three.{Anything}
use Rattle.durable_write.proofs.Commits.{beside_commit, beside_files, beside_none, entries_are, lists_nothing, then_either}

-- What is written ahead of what is listed leaves that alone.

-- FRONTS

begins_shorter : (short long : List ℕ) (c : Content) → length short ≤ length long → take (length short) long ≡ short → Begins long c → Begins short c
begins_shorter short long None less front begins = begins
begins_shorter short long (Some b) less front begins = sym (take-take (length short) (length long) b less) ∙ ap (take (length short)) begins ∙ front

-- an image that has what is ahead has what is listed
pub leads_in : (held ahead : Held) (image : Files) → Leads held ahead → AreIn ahead image → AreIn held image
leads_in held ahead image leads was stands k d lt =
    let h : Filed = get_or held.files k d in
    let led = leads.each k d lt in
    let stands_too : IsTrue ahead.stands = subst IsTrue (sym leads.same_stands) stands in
    let is : IsIn (shelf_of ahead) image led.file = All-contains (IsIn (shelf_of ahead) image) ahead.files led.file (was stands_too) led.within in
    let own : IsIn (shelf_of held) image led.file = subst (λ (r : Shelf). IsIn r image led.file) leads.same_shelf is in
    let front = led.front stands in
    begins_shorter (bytes_of h) (bytes_of led.file) (image (file_of (shelf_of held) h.entry)) front.0 front.1 (subst (λ (n : Name). Begins (bytes_of led.file) (image n)) led.name own)

pub contains_entry : (xs : List Filed) (x : Filed) → Contains xs x → Contains (map entry_of xs) x.entry
contains_entry xs x (k, low, is) = (k, omega (arith, low, length-map xs entry_of), get_or-map entry_of xs k x x.entry low ∙ ap entry_of is)

-- what goes on from what is listed lists that still
pub leads_still : (held ahead : Held) → Leads held ahead → ListsStill (listing_of held) (listing_of ahead)
leads_still held ahead leads =
    All-map (λ (e : Entry). IsListedTo (listing_of ahead) (file_of (shelf_of held) e) e.len) entry_of held.files (λ k d lt.
    let led = leads.each k d lt in
    record { entry = led.file.entry; within = contains_entry ahead.files led.file led.within; named = ap (λ (r : Shelf). file_of r led.file.entry) leads.same_shelf ∙ led.name; longer = led.longer })

-- so calls that leave what is ahead leave what is listed
pub leads_behind : (held ahead : Held) (old : DiskShown) (new : Past) → Leads held ahead → AreSafe ahead old → Passes (Behind ahead) old.past new → Passes (Behind held) old.past new
leads_behind held ahead old new leads safe passes = passes_weaker (Behind ahead) (Behind held) old.past new passes (λ a c was step. record {
  elsewhere = λ n other. step.elsewhere n (λ is. other (is ∙ ap (λ (s : Shelf). s.0) leads.same_shelf));
  stays = λ listed. leads_in held ahead c leads (step.stays (safe.left a was));
  listed = keeps_earlier (listing_of held) (listing_of ahead) a c (leads_still held ahead leads) step.listed;
})

pub leads_long : (held ahead : Held) (files : Files) → Leads held ahead → AreLong ahead files → AreLong held files
leads_long held ahead files leads long k d lt =
    let h : Filed = get_or held.files k d in
    let led = leads.each k d lt in
    let P : Filed → Type 0 = λ f. HasFile files (file_of (shelf_of ahead) f.entry) (λ b. f.entry.len ≤ length b) in
    let there = All-contains P ahead.files led.file long led.within in
    let name : file_of (shelf_of ahead) led.file.entry ≡ file_of (shelf_of held) h.entry = ap (λ (r : Shelf). file_of r led.file.entry) leads.same_shelf ∙ led.name in
    record { bytes = there.bytes; file = ap files (sym name) ∙ there.file; holds = (let more = led.longer in let enough = there.holds in omega (arith, more, enough)) }

-- ONE AFTER ANOTHER

pub leads_on : (held mid ahead : Held) → Leads held mid → Leads mid ahead → Leads held ahead
leads_on held mid ahead one two = record {
  same_shelf = two.same_shelf ∙ one.same_shelf;
  same_stands = two.same_stands ∙ one.same_stands;
  each = λ k d lt.
      let h : Filed = get_or held.files k d in
      let first = one.each k d lt in
      let next = All-contains (IsLed mid ahead.files) mid.files first.file two.each first.within in
      record {
        file = next.file;
        within = next.within;
        name = subst (λ (r : Shelf). file_of r next.file.entry ≡ file_of r first.file.entry) one.same_shelf next.name ∙ first.name;
        longer = (let a = first.longer in let b = next.longer in omega (arith, a, b));
        front = λ stands.
            let a = first.front stands in
            let b = next.front (subst IsTrue (sym one.same_stands) stands) in
            (omega (arith, a.0, b.0), sym (take-take (length (bytes_of h)) (length (bytes_of first.file)) (bytes_of next.file) a.0) ∙ ap (take (length (bytes_of h))) b.1 ∙ a.1);
      };
}

-- WHAT PIECES MAKE

-- what passes is there still
pub contains_filter : {A : Type 0} (test : A → Bool) (xs : List A) (x : A) → Contains xs x → test x ≡ true → Contains (filter test xs) x
contains_filter {A} test [] x (k, low, is) passes = absurd (omega (arith, low))
contains_filter {A} test (y ∷ ys) x (zero, low, is) passes = subst (λ (b : Bool). Contains (cond b (y ∷ filter test ys) (filter test ys)) x) (sym (ap test is ∙ passes)) (zero, omega arith, is)
contains_filter {A} test (y ∷ ys) x (suc k, low, is) passes = by_test (test y) (contains_filter test ys x (k, omega (arith, low), is) passes)
  where
    by_test : (b : Bool) → Contains (filter test ys) x → Contains (cond b (y ∷ filter test ys) (filter test ys)) x
    by_test true rest = Contains-append_right (y ∷ []) (filter test ys) x rest
    by_test false rest = rest

-- of two places one comes before the other, or they are one
in_order : (a b : Place) → (comes_before a b ≡ true) ⊎ (comes_before b a ≡ true) ⊎ (a ≡ b)
in_order a b = go (comes_before a b) refl (comes_before b a) refl
  where
    go : (x : Bool) → comes_before a b ≡ x → (y : Bool) → comes_before b a ≡ y → (comes_before a b ≡ true) ⊎ (comes_before b a ≡ true) ⊎ (a ≡ b)
    go true is y other = inl is
    go false is true other = inr (inl other)
    go false is false other = inr (inr (is_place-true a b (grind (arith, nat_tests))))

pub put_has : (x : Filed) (xs : List Filed) (h : Filed) → Contains xs h → filed_at h ≢ filed_at x → Contains (put filed_at x xs) h
put_has x xs h there apart =
    let front : Filed → Bool = λ y. comes_before (filed_at y) (filed_at x) in
    let back : Filed → Bool = λ y. comes_before (filed_at x) (filed_at y) in
    elim (in_order (filed_at h) (filed_at x)) [
      | inl before ↦ Contains-append_left (filter front xs) (x ∷ filter back xs) h (contains_filter front xs h there before)
      | inr (inl behind) ↦ Contains-append_right (filter front xs) (x ∷ filter back xs) h (Contains-append_right (x ∷ []) (filter back xs) h (contains_filter back xs h there behind))
      | inr (inr same) ↦ absurd (apart same)
    ]

pub put_itself : (x : Filed) (xs : List Filed) → Contains (put filed_at x xs) x
put_itself x xs =
    let front : Filed → Bool = λ y. comes_before (filed_at y) (filed_at x) in
    let back : Filed → Bool = λ y. comes_before (filed_at x) (filed_at y) in
    Contains-append_right (filter front xs) (x ∷ filter back xs) x (0, omega arith, refl)

pub put_all_keeps : (fs files : List Filed) (x : Filed) → Contains files x → All (λ (f : Filed). filed_at x ≢ filed_at f) fs → Contains (put_all files fs) x
put_all_keeps [] files x there apart = there
put_all_keeps (f ∷ fs) files x there apart = put_all_keeps fs (put filed_at f files) x (put_has f files x there (apart 0 f (omega arith))) (λ k d lt. apart (suc k) d (omega (arith, lt)))

-- a listed file is listed still, or another stands in its place
pub put_all_has : (fs files : List Filed) (h : Filed) → PlacesRise fs → Contains files h → (Contains (put_all files fs) h) ⊎ ((f : Filed) × Contains fs f × (filed_at h ≡ filed_at f) × Contains (put_all files fs) f)
put_all_has [] files h rise there = inl there
put_all_has (f ∷ fs) files h rise there = go (is_place (filed_at h) (filed_at f)) refl (λ apart. put_all_has fs (put filed_at f files) h rise.1 (put_has f files h there apart))
  where
    go : (b : Bool) → is_place (filed_at h) (filed_at f) ≡ b → (filed_at h ≢ filed_at f → (Contains (put_all (put filed_at f files) fs) h) ⊎ ((k : Filed) × Contains fs k × (filed_at h ≡ filed_at k) × Contains (put_all (put filed_at f files) fs) k))
        → (Contains (put_all (put filed_at f files) fs) h) ⊎ ((k : Filed) × Contains (f ∷ fs) k × (filed_at h ≡ filed_at k) × Contains (put_all (put filed_at f files) fs) k)
    go true is more = inr (f, (0, omega arith, refl), is_place-true (filed_at h) (filed_at f) is, put_all_keeps fs (put filed_at f files) f (put_itself f files) (λ k d lt. before_apart (filed_at f) (filed_at (get_or fs k d)) (rise.0 k d lt)))
    go false is more = elim (more (λ same. absurd (differ same))) [
      | inl there ↦ inl there
      | inr (k, within, same, there) ↦ inr (k, Contains-append_right (f ∷ []) fs k within, same, there)
    ]
      where
        differ : filed_at h ≡ filed_at f → ⊥
        differ same = let itself : is_place (filed_at h) (filed_at h) ≡ true = is_place-same (filed_at h) in cc (itself, same, is)

pub write_of : (R : FileWrite → Filed → Type 0) (ps : List FileWrite) (fs : List Filed) (f : Filed) → AllZip R ps fs → Contains fs f → (p : FileWrite) × R p f
write_of R [] [] f each (k, low, is) = absurd (omega (arith, low))
write_of R [] (h ∷ fs) f each there = absurd each
write_of R (p ∷ ps) [] f each there = absurd each
write_of R (p ∷ ps) (h ∷ fs) f each (zero, low, is) = (p, subst (R p) is each.0)
write_of R (p ∷ ps) (h ∷ fs) f each (suc k, low, is) = write_of R ps fs f each.1 (k, omega (arith, low), is)

-- what writes make goes on from what they were planned against
pub leads_with : (g : Granularity) (held : Held) (ps : List FileWrite) (fs : List Filed) → All (IsListed g held.rows) held.files → PlacesRise held.files → MakesFiles g held ps fs → Leads held (with_files held fs)
leads_with g held ps fs are apart makes = record {
  same_shelf = refl;
  same_stands = refl;
  each = λ k d lt.
      let h : Filed = get_or held.files k d in
      elim (put_all_has fs held.files h makes.apart (Contains-get_or held.files k d lt)) [
        | inl there ↦ record { file = h; within = there; name = refl; longer = omega arith; front = λ stands. (omega arith, take_all (length (bytes_of h)) (bytes_of h) (omega arith)) }
        | inr (f, within, same, there) ↦
            let grows = write_of (Grows g held) ps fs f makes.each within in
            let listed : file_at (filed_at f) held.files ≡ Some h = ap (λ (q : Place). file_at q held.files) (sym same) ∙ found held.files apart k d lt in
            let at = ap start_of (grows.1.at ∙ ap listed_len listed) in
            let entry = ap (λ (e : Entry). e.len) grows.1.entry in
            let len = grows.1.len in
            record {
              file = f;
              within = there;
              name = sym (same_file g held.store held.rows h f (are k d lt) grows.1.listed same);
              longer = omega (arith, at, entry, len);
              front = λ stands.
                  let bytes : bytes_of f ≡ bytes_of h ++ grows.0.bytes.items = (grows.1.own stands).bytes ∙ ap (λ (o : Option Filed). listed_bytes o ++ grows.0.bytes.items) listed in
                  let long = ap length bytes ∙ length-append (bytes_of h) grows.0.bytes.items in
                  (omega (arith, long), ap (take (length (bytes_of h))) bytes ∙ take_at (bytes_of h) grows.0.bytes.items (length (bytes_of h)) refl);
            }
      ];
}

-- A STEP OF COPYING

pub still_copied : (catalogue : JournalState) (m : ManifestState) (rows : Shelf) (old new : DiskShown) (held ahead : Held) → HasCopied catalogue m rows old held ahead → Passes (Behind ahead) old.past new.past → AreLong ahead new.files
    → ((n : Name) → n.0 ≢ rows.0 → new.files n ≡ old.files n) → ((n : Name) → new.opened n ≤ old.opened n) → IsStoredAs catalogue m rows new held
still_copied catalogue m rows old new held ahead has passes long same fewer =
    still_stored_as catalogue m rows old new held has.stored (leads_behind held ahead old new.past has.leads has.safe.safe passes) (leads_long held ahead new.files has.leads long) same fewer

pub copied_moment : (catalogue : JournalState) (m : ManifestState) (rows : Shelf) (old : DiskShown) (new : Past) (held ahead : Held) → HasCopied catalogue m rows old held ahead → Passes (Behind ahead) old.past new → Passes (λ a c. Holds m.granularity c held) old.past new
copied_moment catalogue m rows old new held ahead has passes =
    passes_weaker (Behind held) (λ a c. Holds m.granularity c held) old.past new (leads_behind held ahead old new has.leads has.safe.safe passes) (λ a c was step. holds_behind m.granularity held a c step (stored_left m.granularity catalogue m.journal old held has.stored.stored a was))

-- the bytes of what is listed stay while files go on behind what is ahead
pub leaves_copied : (catalogue : JournalState) (m : ManifestState) (shelf : Shelf) (old : DiskShown) (later : Files) (new : Past) (held ahead : Held) → HasCopied catalogue m shelf old held ahead → Behind ahead old.files later → Passes (Behind ahead) old.past new
    → LeavesListed (shelf, m.entries) old.files later old.past new
leaves_copied catalogue m shelf old later new held ahead has now passes =
    listed_as catalogue m shelf old held has.stored (λ l. LeavesListed l old.files later old.past new)
    (leaves_earlier (listing_of held) (listing_of ahead) old.files later old.past new (leads_still held ahead has.leads)
    (record { now = now.listed; any_moment = passes_weaker (Behind ahead) (KeepsListed (listing_of ahead)) old.past new passes (λ a c was step. step.listed) }))

-- One write more.

-- THE LISTED FILE OF A PIECE

-- a listed file that has the name of a write's file is the one behind which the write goes on
pub same_listed : (g : Granularity) (held : Held) (p : FileWrite) (f : Filed) (k : ℕ) (d : Filed) → AreHeld g held → Grows g held p f → k < length held.files → file_of (shelf_of held) (get_or held.files k d).entry ≡ file_of (shelf_of held) f.entry → p.at ≡ Some (get_or held.files k d).entry.len
same_listed g held p f k d valid grows lt is =
    let h : Filed = get_or held.files k d in
    let place : filed_at h ≡ filed_at f = same_place g held.store held.rows h f valid.keys (valid.filed.listed k d lt) grows.listed is in
    grows.at ∙ ap listed_len (ap (λ (q : Place). file_at q held.files) (sym place) ∙ found held.files valid.apart k d lt)

-- a write stands behind what is held of its file
pub behind_held : (g : Granularity) (held : Held) (p : FileWrite) (f : Filed) → AreHeld g held → Grows g held p f → AllowTo (shelf_of held) (start_of p.at) (file_of (shelf_of held) f.entry) held.files
behind_held g held p f valid grows k d lt is = let at = ap start_of (same_listed g held p f k d valid grows lt is) in omega (arith, at)

-- the listed file behind which a write goes on
pub record GoesOn (held : Held) (f : Filed) (at : ℕ) : Type 0 where
  pub file : Filed
  pub within : Contains held.files file
  pub name : file_of (shelf_of held) file.entry ≡ file_of (shelf_of held) f.entry
  pub len : file.entry.len ≡ at
  pub found : file_at (filed_at f) held.files ≡ Some file

pub goes_on : (g : Granularity) (held : Held) (p : FileWrite) (f : Filed) (at : ℕ) → AreHeld g held → Grows g held p f → p.at ≡ Some at → GoesOn held f at
goes_on g held p f at valid grows some = elim (listed_at held.files (filed_at f)) [
  | inl none ↦ let no : ◌≡◌ {A = Option ℕ} (Some at) None = sym some ∙ grows.at ∙ ap listed_len none in absurd (cc (no))
  | inr (h, within, place, found) ↦
      let len : ◌≡◌ {A = Option ℕ} (Some h.entry.len) (Some at) = sym (grows.at ∙ ap listed_len found) ∙ some in
      record {
        file = h;
        within = within;
        name = same_file g held.store held.rows h f (All-contains (IsListed g held.rows) held.files h valid.filed.listed within) grows.listed place;
        len = cc (len);
        found = found;
      }
]

-- it is there, and wasn't opened further
pub can_go_on : (g : Granularity) (held : Held) (disk : DiskShown) (p : FileWrite) (f : Filed) (at : ℕ) → AreHeld g held → AreSafe held disk → Grows g held p f → p.at ≡ Some at
    → HasFile disk.files (file_of (shelf_of held) f.entry) (λ b. (disk.opened (file_of (shelf_of held) f.entry) ≤ at) × (at ≤ length b))
can_go_on g held disk p f at valid safe grows some =
    let on = goes_on g held p f at valid grows some in
    let P : Filed → Type 0 = λ h. HasFile disk.files (file_of (shelf_of held) h.entry) (λ b. h.entry.len ≤ length b) in
    let file = subst (λ (n : Name). HasFile disk.files n (λ b. on.file.entry.len ≤ length b)) on.name (All-contains P held.files on.file safe.long on.within) in
    let unopened : disk.opened (file_of (shelf_of held) f.entry) ≤ on.file.entry.len =
    subst (λ (n : Name). disk.opened n ≤ on.file.entry.len) on.name (All-contains (λ (h : Filed). disk.opened (file_of (shelf_of held) h.entry) ≤ h.entry.len) held.files on.file safe.unopened on.within) in
    record { bytes = file.bytes; file = file.file; holds = (omega (arith, on.len, unopened), omega (arith, on.len, file.holds)) }

-- the name that a write's file has by the rows that the code sees
pub write_name : (g : Granularity) (rows : Shelf) (held : Held) (disk : DiskShown) (p : FileWrite) (f : Filed) → IsSafe g rows disk held → Grows g held p f → file_of (shelf_of held) f.entry ≡ file_of rows p.entry
write_name g rows held disk p f safe grows = ap (λ (r : Shelf). file_of r f.entry) safe.of_rows ∙ ap (λ (e : Entry). file_of rows e) (sym grows.entry)

-- WHAT IS WRITTEN

-- a file that has just the write's bytes, where nothing was listed
pub made_written : (g : Granularity) (held : Held) (p : FileWrite) (f : Filed) (later : Files) (after : Name → ℕ) → Grows g held p f → p.at ≡ None → later (file_of (shelf_of held) f.entry) ≡ Some p.bytes.items
    → after (file_of (shelf_of held) f.entry) ≤ 0 → IsWritten held later after f
made_written g held p f later after grows none made closed =
    let at = ap start_of none in
    let same = ap (λ (e : Entry). e.len) grows.entry in
    record {
      long = record { bytes = p.bytes.items; file = made; holds = omega (arith, grows.len, at, same) };
      unopened = omega arith;
      just = λ stands.
          let own = grows.own stands in
          let whole : bytes_of f ≡ p.bytes.items = own.bytes ∙ ap (λ (o : Option Filed). listed_bytes o ++ p.bytes.items) (unlisted (file_at (filed_at f) held.files) (sym grows.at ∙ none)) in
          made ∙ ap (λ (l : List ℕ). Some l) (sym whole);
    }
  where
    unlisted : (o : Option Filed) → listed_len o ≡ None → o ≡ None
    unlisted None is = refl
    unlisted (Some h) is = absurd (cc (is))

-- a file that has the listed bytes and the write's
pub grown_written : (g : Granularity) (held : Held) (p : FileWrite) (f : Filed) (at : ℕ) (b : List ℕ) (old : DiskShown) (later : Files) (after : Name → ℕ) → AreHeld g held → AreSafe held old → MayLeave old.past old.files → Grows g held p f → p.at ≡ Some at
    → old.files (file_of (shelf_of held) f.entry) ≡ Some b → at ≤ length b → later (file_of (shelf_of held) f.entry) ≡ Some (take at b ++ p.bytes.items) → after (file_of (shelf_of held) f.entry) ≤ at → IsWritten held later after f
grown_written g held p f at b old later after valid safe seen grows some file enough grown open_to =
    let name : Name = file_of (shelf_of held) f.entry in
    let start = ap start_of some in
    let same = ap (λ (e : Entry). e.len) grows.entry in
    record {
      long = record { bytes = take at b ++ p.bytes.items; file = grown; holds = omega (arith, grows.len, start, same, enough, length-append (take at b) p.bytes.items, length-take at b) };
      unopened = omega (arith, grows.len, start, same, open_to);
      just = λ stands.
          let own = grows.own stands in
          let on = goes_on g held p f at valid grows some in
          let h : Filed = on.file in
          let filed : IsFiled g held.rows h = All-contains (IsFiled g held.rows) held.files h (valid.filed.filed stands) on.within in
          let began : Begins (bytes_of h) (old.files name) = subst (λ (n : Name). Begins (bytes_of h) (old.files n)) on.name (All-contains (IsIn (shelf_of held) old.files) held.files h (safe.left old.files seen stands) on.within) in
          let front = front_file old.files name (bytes_of h) began in
          let one : front.bytes ≡ b = let both : ◌≡◌ {A = Option (List ℕ)} (Some front.bytes) (Some b) = sym front.file ∙ file in cc (both) in
          let len : length (bytes_of h) ≡ at = sym filed.len ∙ on.len in
          let listed : take at b ≡ bytes_of h = ap (λ (l : List ℕ). take at l) (sym one) ∙ ap (λ (n : ℕ). take n front.bytes) (sym len) ∙ front.holds.1 in
          let whole : bytes_of f ≡ take at b ++ p.bytes.items = own.bytes ∙ ap (λ (o : Option Filed). listed_bytes o ++ p.bytes.items) on.found ∙ ap (λ (l : List ℕ). l ++ p.bytes.items) (sym listed) in
          grown ∙ ap (λ (l : List ℕ). Some l) (sym whole);
    }

-- whatever became of the write's file, it is no shorter than it was listed
pub still_long : (g : Granularity) (held : Held) (p : FileWrite) (f : Filed) (files later : Files) → AreHeld g held → AreLong held files → Grows g held p f → ((n : Name) → n ≢ file_of (shelf_of held) f.entry → later n ≡ files n)
    → ((at : ℕ) → p.at ≡ Some at → HasFile later (file_of (shelf_of held) f.entry) (λ b. at ≤ length b)) → AreLong held later
still_long g held p f files later valid long grows elsewhere here k d lt =
    let h : Filed = get_or held.files k d in
    elim (name_cases (file_of (shelf_of held) h.entry) (file_of (shelf_of held) f.entry)) [
      | inl same ↦ subst (λ (n : Name). HasFile later n (λ b. h.entry.len ≤ length b)) (sym same) (here h.entry.len (same_listed g held p f k d valid grows lt same))
      | inr apart ↦
          let was = long k d lt in
          record { bytes = was.bytes; file = elsewhere (file_of (shelf_of held) h.entry) apart ∙ was.file; holds = was.holds }
    ]

-- PIECE AFTER PIECE

-- the write at a place, and its file
pub nth_grows : (g : Granularity) (held : Held) (ps : List FileWrite) (fs : List Filed) (i : ℕ) (p : FileWrite) → AllZip (Grows g held) ps fs → i < length ps → p ≡ get_or ps i p → (f : Filed) × (i < length fs) × (get_or fs i f ≡ f) × Grows g held p f
nth_grows g held [] fs i p each within is = absurd (omega arith)
nth_grows g held (q ∷ ps) [] i p each within is = absurd each
nth_grows g held (q ∷ ps) (f ∷ fs) zero p each within is = (f, omega arith, refl, subst (λ (x : FileWrite). Grows g held x f) (sym is) each.0)
nth_grows g held (q ∷ ps) (f ∷ fs) (suc i) p each within is = let more = nth_grows g held ps fs i p each.1 (omega arith) is in (more.0, omega (arith, more.1), more.2, more.3)

-- what each write and its relation to its file say of the file
all_made_of : (Q : FileWrite → Type 0) (P : Filed → Type 0) (R : FileWrite → Filed → Type 0) (ps : List FileWrite) (fs : List Filed) → ((p : FileWrite) (f : Filed) → R p f → Q p → P f) → AllZip R ps fs → All Q ps → All P fs
all_made_of Q P R [] [] says each all = All-nil P
all_made_of Q P R [] (f ∷ fs) says each all = absurd each
all_made_of Q P R (p ∷ ps) [] says each all = absurd each
all_made_of Q P R (p ∷ ps) (f ∷ fs) says each all = All-cons P f fs (says p f each.0 (All-head Q p ps all)) (all_made_of Q P R ps fs says each.1 (All-tail Q p ps all))

-- what the relation alone says
pub all_made : (P : Filed → Type 0) (R : FileWrite → Filed → Type 0) (ps : List FileWrite) (fs : List Filed) → ((p : FileWrite) (f : Filed) → R p f → P f) → AllZip R ps fs → All P fs
all_made P R ps fs says each = all_made_of (λ (p : FileWrite). Unit {0}) P R ps fs (λ p f made any. says p f made) each (λ k d lt. tt)

pub all_listed : (g : Granularity) (held : Held) (ps : List FileWrite) (fs : List Filed) → AllZip (Grows g held) ps fs → All (IsListed g held.rows) fs
all_listed g held ps fs each = all_made (IsListed g held.rows) (Grows g held) ps fs (λ p f grows. grows.listed) each

pub all_filed : (g : Granularity) (held : Held) (ps : List FileWrite) (fs : List Filed) → AllZip (Grows g held) ps fs → IsTrue held.stands → All (IsFiled g held.rows) fs
all_filed g held ps fs each stands = all_made (IsFiled g held.rows) (Grows g held) ps fs (λ p f grows. (grows.own stands).filed) each

-- what is listed of the write's file ends where the write begins
allowed : (g : Granularity) (rows : Shelf) (held : Held) (p : FileWrite) (f : Filed) (disk : DiskShown) → IsSafe g rows disk held → Grows g held p f → AllowTo (shelf_of held) (start_of p.at) (file_of rows p.entry) held.files
allowed g rows held p f disk safe grows = subst (λ (n : Name). AllowTo (shelf_of held) (start_of p.at) n held.files) (write_name g rows held disk p f safe grows) (behind_held g held p f safe.valid grows)

-- one write more leaves what was held
pub more_behind : (g : Granularity) (rows : Shelf) (held : Held) (p : FileWrite) (f : Filed) (old : DiskShown) (mid new : Past) → IsSafe g rows old held → Grows g held p f → Passes (Behind held) old.past mid
    → Passes (At (file_of rows p.entry) (Keeps (start_of p.at))) mid new → Passes (Behind held) old.past new
more_behind g rows held p f old mid new safe grows before call =
    behind_then held old.past mid new before (call_behind g held (file_of rows p.entry) (start_of p.at) mid new safe.valid.filed (sym (ap (λ (s : Shelf). s.0) safe.of_rows)) (allowed g rows held p f old safe grows) call)

-- reads still give it
pub reads_behind : (g : Granularity) (rows : Shelf) (held : Held) (p : FileWrite) (f : Filed) (disk : DiskShown) (between later : Files) → IsSafe g rows disk held → Grows g held p f → Behind held disk.files between
    → At (file_of rows p.entry) (Keeps (start_of p.at)) between later → Behind held disk.files later
reads_behind g rows held p f disk between later safe grows before call =
    behind_on held disk.files between later before (step_behind g held (file_of rows p.entry) (start_of p.at) between later safe.valid.filed (sym (ap (λ (s : Shelf). s.0) safe.of_rows)) (allowed g rows held p f disk safe grows) call)

-- the files of the first writes aren't that of a later one
others_apart : (g : Granularity) (held : Held) (fs : List Filed) (i : ℕ) (f : Filed) → KeysDiffer held.rows → All (IsListed g held.rows) fs → PlacesRise fs → i < length fs → get_or fs i f ≡ f → AreApart (shelf_of held) (file_of (shelf_of held) f.entry) (take i fs)
others_apart g held fs i f keys listed rise within here k e lt is =
    let below : k < i = omega (arith, length-take i fs) in
    let same : get_or (take i fs) k e ≡ get_or fs k f = get_or-take i fs k e below ∙ get_or_default fs k e f (omega arith) in
    let kth : IsListed g held.rows (get_or (take i fs) k e) = subst (IsListed g held.rows) (sym same) (listed k f (omega arith)) in
    let ith : IsListed g held.rows f = subst (IsListed g held.rows) here (listed i f within) in
    let place : filed_at (get_or (take i fs) k e) ≡ filed_at f = same_place g held.store held.rows (get_or (take i fs) k e) f keys kth ith is in
    before_apart (filed_at (get_or fs k f)) (filed_at (get_or fs i f)) (rise_at fs rise k i f below within) (ap filed_at (sym same) ∙ place ∙ ap filed_at (sym here))

-- a file of another name stays as it is written
apart_written : (held : Held) (name : Name) (f : Filed) (files later : Files) (opened after : Name → ℕ) → file_of (shelf_of held) f.entry ≢ name → ((n : Name) → n ≢ name → later n ≡ files n) → ((n : Name) → after n ≤ opened n) → IsWritten held files opened f → IsWritten held later after f
apart_written held name f files later opened after apart elsewhere fewer was =
    let same : later (file_of (shelf_of held) f.entry) ≡ files (file_of (shelf_of held) f.entry) = elsewhere (file_of (shelf_of held) f.entry) apart in
    record {
      long = record { bytes = was.long.bytes; file = same ∙ was.long.file; holds = was.long.holds };
      unopened = omega (arith, was.unopened, fewer (file_of (shelf_of held) f.entry));
      just = λ stands. same ∙ was.just stands;
    }

-- one write more is written, and those before it still are
pub more_written : (g : Granularity) (held : Held) (fs : List Filed) (i : ℕ) (f : Filed) (files later : Files) (opened after : Name → ℕ) → KeysDiffer held.rows → All (IsListed g held.rows) fs → PlacesRise fs → i < length fs → get_or fs i f ≡ f
    → All (IsWritten held files opened) (take i fs) → IsWritten held later after f → ((n : Name) → n ≢ file_of (shelf_of held) f.entry → later n ≡ files n) → ((n : Name) → after n ≤ opened n) → All (IsWritten held later after) (take (i + 1) fs)
more_written g held fs i f files later opened after keys listed rise within here before one elsewhere fewer =
    let name : Name = file_of (shelf_of held) f.entry in
    let apart : AreApart (shelf_of held) name (take i fs) = others_apart g held fs i f keys listed rise within here in
    let kept : All (IsWritten held later after) (take i fs) = λ k d lt. apart_written held name (get_or (take i fs) k d) files later opened after (apart k d lt) elsewhere fewer (before k d lt) in
    All-more (IsWritten held later after) fs i f within kept (subst (IsWritten held later after) (sym here) one)

-- FILE AFTER FILE

-- the files of all writes are written and synced, so they are safe
pub synced_safe : (g : Granularity) (shelf : Shelf) (held : Held) (ps : List FileWrite) (fs : List Filed) (disk : DiskShown) → shelf_of held ≡ shelf → AllZip (Grows g held) ps fs → All (IsWritten held disk.files disk.opened) fs
    → All (IsSynced shelf disk.files disk.past) ps → AreSafe (having held fs) disk
synced_safe g shelf held ps fs disk of_rows each written synced =
    let Kept : Filed → Type 0 = λ f. Only disk.past (file_of (shelf_of held) f.entry) (disk.files (file_of (shelf_of held) f.entry)) in
    let kept : All Kept fs = all_made_of (IsSynced shelf disk.files disk.past) Kept (Grows g held) ps fs (λ p f grows one.
    subst (λ (n : Name). Only disk.past n (disk.files n)) (ap (λ (e : Entry). file_of shelf e) grows.entry ∙ ap (λ (s : Shelf). file_of s f.entry) (sym of_rows)) one) each synced in
    record {
      long = λ k d lt. (written k d lt).long;
      unopened = λ k d lt. (written k d lt).unopened;
      left = λ image left stands k d lt. whole_in (shelf_of held) image (get_or fs k d) (kept k d lt image left ∙ (written k d lt).just stands);
    }

-- A flush beside files in limbo: it is planned and written as if they were listed, and lists what was written.

-- FILES IN LIMBO AMONG THOSE THAT ARE LISTED

-- a listed file stands at the place of none in limbo
pub unlisted_apart : (files limbo : List Filed) (h : Filed) → PlacesRise files → AreUnlisted files limbo → Contains files h → All (λ (f : Filed). filed_at h ≢ filed_at f) limbo
unlisted_apart files limbo h rise unlisted there k d lt same =
    let here : file_at (filed_at h) files ≡ Some h = All-contains (λ (x : Filed). file_at (filed_at x) files ≡ Some x) files h (found files rise) there in
    let none : file_at (filed_at h) files ≡ None = ap (λ (p : Place). file_at p files) same ∙ unlisted k d lt in
    cc (here, none)

-- so it stays where they are put among the others
pub listed_stays : (files limbo : List Filed) (h : Filed) → PlacesRise files → AreUnlisted files limbo → Contains files h → Contains (put_all files limbo) h
listed_stays files limbo h rise unlisted there = put_all_keeps limbo files h there (unlisted_apart files limbo h rise unlisted there)

pub leads_beside : (held : Held) (limbo : List Filed) → PlacesRise held.files → AreUnlisted held.files limbo → Leads held (with_files held limbo)
leads_beside held limbo rise unlisted = record {
  same_shelf = refl;
  same_stands = refl;
  each = λ k d lt.
      let h : Filed = get_or held.files k d in
      record { file = h; within = listed_stays held.files limbo h rise unlisted (Contains-get_or held.files k d lt); name = refl; longer = omega arith; front = λ stands. (omega arith, take_all (length (bytes_of h)) (bytes_of h) (omega arith)) };
}

both_held : (g : Granularity) (held : Held) (limbo : List Filed) → AreHeld g held → AreInLimbo g held limbo → AreHeld g (with_files held limbo)
both_held g held limbo valid in_limbo = record {
  keys = valid.keys;
  filed = record {
    numbered = valid.filed.numbered;
    listed = all_put_all (IsListed g held.rows) held.files limbo valid.filed.listed in_limbo.listed;
    filed = λ stands. all_put_all (IsFiled g held.rows) held.files limbo (valid.filed.filed stands) (in_limbo.filed stands);
  };
  apart = rise_put_all held.files limbo valid.apart;
}

-- A file of those that are put among others is there, where no other of them is of its place.
pub put_all_one : (fs files : List Filed) (f : Filed) → All (λ (h : Filed). filed_at h ≡ filed_at f → h ≡ f) fs → Contains files f ⊎ Contains fs f → Contains (put_all files fs) f
put_all_one [] files f one (inl there) = there
put_all_one [] files f one (inr (k, low, is)) = absurd (omega (arith, low))
put_all_one (x ∷ fs) files f one there = go (is_place (filed_at x) (filed_at f)) refl there (λ more. put_all_one fs (put filed_at x files) f (λ k d lt. one (suc k) d (omega (arith, lt))) more)
  where
    go : (b : Bool) → is_place (filed_at x) (filed_at f) ≡ b → Contains files f ⊎ Contains (x ∷ fs) f → (Contains (put filed_at x files) f ⊎ Contains fs f → Contains (put_all (put filed_at x files) fs) f) → Contains (put_all (put filed_at x files) fs) f
    go true same there rest =
        let is : x ≡ f = one 0 x (omega arith) (is_place-true (filed_at x) (filed_at f) same) in
        rest (inl (subst (λ (y : Filed). Contains (put filed_at x files) y) is (put_itself x files)))
    go false other (inl there) rest = rest (inl (put_has x files f there (λ same. absurd (let itself : is_place (filed_at x) (filed_at f) ≡ true = ap (is_place (filed_at x)) same ∙ is_place-same (filed_at x) in cc (itself, other)))))
    go false other (inr (zero, low, is)) rest = absurd (let itself : is_place (filed_at x) (filed_at f) ≡ true = ap (λ (y : Filed). is_place (filed_at x) (filed_at y)) (sym is) ∙ is_place-same (filed_at x) in cc (itself, other))
    go false other (inr (suc k, low, is)) rest = rest (inr (k, omega (arith, low), is))

-- so is each in limbo
pub limbo_stays : (g : Granularity) (held : Held) (limbo : List Filed) (f : Filed) → AreInLimbo g held limbo → Contains limbo f → Contains (put_all held.files limbo) f
limbo_stays g held limbo f in_limbo within =
    put_all_one limbo held.files f (All-contains (λ (x : Filed). All (λ (h : Filed). filed_at h ≡ filed_at x → h ≡ x) limbo) limbo f in_limbo.one within) (inr within)

-- files of one place are one, where places rise
pub one_of_place : (files : List Filed) (f h : Filed) → PlacesRise files → Contains files f → Contains files h → filed_at h ≡ filed_at f → h ≡ f
one_of_place files f h rise f_in h_in same =
    let mine = All-contains (λ (x : Filed). file_at (filed_at x) files ≡ Some x) files f (found files rise) f_in in
    let theirs = All-contains (λ (x : Filed). file_at (filed_at x) files ≡ Some x) files h (found files rise) h_in in
    same_Some h f (sym theirs ∙ ap (λ (p : Place). file_at p files) same ∙ mine)

-- they stand ahead of what is listed, as what a move has copied does
pub copied_beside : (catalogue : JournalState) (m : ManifestState) (shelf : Shelf) (disk : DiskShown) (held : Held) (limbo : List Filed) → IsStoredAs catalogue m shelf disk held → AreInLimbo m.granularity held limbo → AreSafe (having held limbo) disk
    → HasCopied catalogue m shelf disk held (with_files held limbo)
copied_beside catalogue m shelf disk held limbo store in_limbo safe = record {
  stored = store;
  leads = leads_beside held limbo store.stored.tier.valid.apart in_limbo.unlisted;
  safe = record {
    of_rows = store.of_rows;
    valid = both_held m.granularity held limbo store.stored.tier.valid in_limbo;
    safe = safe_both held limbo disk store.stored.tier.safe safe;
  };
}

pub holds_both : (g : Granularity) (rows : List Row) (entries : List Entry) (held : Held) (limbo : List Filed) → held.rows ≡ rows → entries ≡ map entry_of held.files → AreHeld g held → AreInLimbo g held limbo → HoldsBoth g rows entries (map entry_of limbo) (with_files held limbo)
holds_both g rows entries held limbo of_rows are valid in_limbo = record {
  of_rows = of_rows;
  filed = (both_held g held limbo valid in_limbo).filed;
  listed = held.files;
  others = limbo;
  are_listed = are;
  are_others = refl;
  apart = valid.apart;
  both = refl;
}

-- WHAT IS WRITTEN

-- a written file is longer than the one that was there
pub longer_than : (g : Granularity) (held : Held) (writes : List FileWrite) (fs : List Filed) (f old : Filed) → AllZip (Grows g held) writes fs → Contains fs f → file_at (filed_at f) held.files ≡ Some old → old.entry.len < f.entry.len
longer_than g held writes fs f old each within here =
    let grows = write_of (Grows g held) writes fs f each within in
    let at = ap start_of (grows.1.at ∙ ap listed_len here) in
    let entry = ap (λ (e : Entry). e.len) grows.1.entry in
    let len = grows.1.len in
    let some = grows.1.some in
    omega (arith, at, entry, len, some)

-- and its header is as long
pub head_stays : (g : Granularity) (held : Held) (writes : List FileWrite) (fs : List Filed) (f old : Filed) → AllZip (Grows g held) writes fs → Contains fs f → file_at (filed_at f) held.files ≡ Some old → f.entry.head_len ≡ old.entry.head_len
head_stays g held writes fs f old each within here = let grows = write_of (Grows g held) writes fs f each within in grows.1.head old here

pub still_over : (g : Granularity) (held : Held) (limbo fs : List Filed) (writes : List FileWrite) → AreHeld g held → AreInLimbo g held limbo → MakesFiles g (with_files held limbo) writes fs → ListsStill (listing_of held) (listing_of (with_files held fs))
still_over g held limbo fs writes valid in_limbo makes =
    All-map (λ (e : Entry). IsListedTo (listing_of (with_files held fs)) (file_of (shelf_of held) e) e.len) entry_of held.files (λ k d lt.
    let h : Filed = get_or held.files k d in
    let there : Contains held.files h = Contains-get_or held.files k d lt in
    elim (put_all_has fs held.files h makes.apart there) [
      | inl stays ↦ record { entry = h.entry; within = contains_entry (put_all held.files fs) h stays; named = refl; longer = omega arith }
      | inr (f, within, same, now) ↦
          let both = put_all held.files limbo in
          let here : file_at (filed_at f) both ≡ Some h = ap (λ (p : Place). file_at p both) (sym same) ∙ All-contains (λ (x : Filed). file_at (filed_at x) both ≡ Some x) both h (found both (rise_put_all held.files limbo valid.apart)) (listed_stays held.files limbo h valid.apart in_limbo.unlisted there) in
          let more = longer_than g (with_files held limbo) writes fs f h makes.each within here in
          let listed = All-contains (IsListed g held.rows) fs f (all_listed g (with_files held limbo) writes fs makes.each) within in
          record { entry = f.entry; within = contains_entry (put_all held.files fs) f now; named = sym (same_file g held.store held.rows h f (valid.filed.listed k d lt) listed same); longer = omega (arith, more) }
    ])

-- no name of a file that is listed or in limbo is listed shorter then
pub none_shorter_over : (g : Granularity) (held : Held) (limbo fs : List Filed) (writes : List FileWrite) → AreHeld g held → AreInLimbo g held limbo → MakesFiles g (with_files held limbo) writes fs → All (ListsNoShorter (shelf_of held) (map entry_of (put_all held.files fs))) (put_all held.files limbo)
none_shorter_over g held limbo fs writes valid in_limbo makes k d lt =
    let both = put_all held.files limbo in
    let l : Filed = get_or both k d in
    let within : Contains both l = Contains-get_or both k d lt in
    let rise : PlacesRise both = rise_put_all held.files limbo valid.apart in
    let listed = all_put_all (IsListed g held.rows) held.files limbo valid.filed.listed in_limbo.listed in
    let l_is = All-contains (IsListed g held.rows) both l listed within in
    let P : Filed → Type 0 = λ (f : Filed). file_of (shelf_of held) f.entry ≡ file_of (shelf_of held) l.entry → l.entry.len ≤ f.entry.len in
    All-map (λ (e : Entry). file_of (shelf_of held) e ≡ file_of (shelf_of held) l.entry → l.entry.len ≤ e.len) entry_of (put_all held.files fs)
    (all_put_all P held.files fs
    (λ i e low named.
    let h : Filed = get_or held.files i e in
    let there = Contains-get_or held.files i e low in
    let same = same_place g held.store held.rows h l valid.keys (valid.filed.listed i e low) l_is named in
    let is : h ≡ l = one_of_place both l h rise within (listed_stays held.files limbo h valid.apart in_limbo.unlisted there) same in
    let len = ap (λ (f : Filed). f.entry.len) is in
    omega (arith, len))
    (λ i e low named.
    let f : Filed = get_or fs i e in
    let f_is = all_listed g (with_files held limbo) writes fs makes.each i e low in
    let same = same_place g held.store held.rows f l valid.keys f_is l_is named in
    let here : file_at (filed_at f) both ≡ Some l = ap (λ (p : Place). file_at p both) same ∙ All-contains (λ (x : Filed). file_at (filed_at x) both ≡ Some x) both l (found both rise) within in
    let more = longer_than g (with_files held limbo) writes fs f l makes.each (Contains-get_or fs i e low) here in
    omega (arith, more)))

-- the plan of a flush beside them
abbrev pub flushes_over : (g : Granularity) (held : Held) (limbo : List Filed) (batch : List RowSamples) (writes : List FileWrite) (n : ℕ) → AreHeld g held → AreInLimbo g held limbo → (plan : Flushes g (with_files held limbo) batch writes n) → FlushesOver held limbo batch (with_files held plan.files)
flushes_over g held limbo batch writes n valid in_limbo plan = record {
  written = plan.files;
  lists = refl;
  still = still_over g held limbo plan.files writes valid in_limbo plan.makes;
  no_shorter = none_shorter_over g held limbo plan.files writes valid in_limbo plan.makes;
  flushed = plan.flushed;
  rise = plan.makes.apart;
  ends = plan.ends;
  longer = λ k d lt old here. longer_than g (with_files held limbo) writes plan.files (get_or plan.files k d) old plan.makes.each (Contains-get_or plan.files k d lt) here;
  heads = λ k d lt old here. head_stays g (with_files held limbo) writes plan.files (get_or plan.files k d) old plan.makes.each (Contains-get_or plan.files k d lt) here;
}

-- THE COMMIT

-- what writes make of what is ahead may be listed of what is held
pub valid_over : (g : Granularity) (held ahead : Held) (ps : List FileWrite) (fs : List Filed) → Leads held ahead → AreHeld g held → MakesFiles g ahead ps fs → AreHeld g (with_files held fs)
valid_over g held ahead ps fs leads valid makes = record {
  keys = valid.keys;
  filed = record {
    numbered = valid.filed.numbered;
    listed = all_put_all (IsListed g held.rows) held.files fs valid.filed.listed (subst (λ (s : Shelf). All (IsListed g s.1) fs) leads.same_shelf (all_listed g ahead ps fs makes.each));
    filed = λ stands. all_put_all (IsFiled g held.rows) held.files fs (valid.filed.filed stands) (subst (λ (s : Shelf). All (IsFiled g s.1) fs) leads.same_shelf (all_filed g ahead ps fs makes.each (subst IsTrue (sym leads.same_stands) stands)));
  };
  apart = rise_put_all held.files fs valid.apart;
}

pub entries_over : (m : ManifestState) (held ahead : Held) (ps : List FileWrite) (fs : List Filed) (changes : List Change) → m.entries ≡ map entry_of held.files → changes ≡ map set_of ps → MakesFiles m.granularity ahead ps fs → all_changed m.entries changes ≡ map entry_of (put_all held.files fs)
entries_over m held ahead ps fs changes entries are makes =
    ap (λ (es : List Entry). all_changed es changes) entries
    ∙ ap (λ (cs : List Change). all_changed (map entry_of held.files) cs) are
    ∙ entries_are m.granularity ahead ps fs held.files makes.each

-- what is put among others is there
pub put_all_new : (fs files : List Filed) (f : Filed) → PlacesRise fs → Contains fs f → Contains (put_all files fs) f
put_all_new [] files f rise (k, low, is) = absurd (omega (arith, low))
put_all_new (x ∷ fs) files f rise (zero, low, is) = subst (λ (y : Filed). Contains (put_all files (x ∷ fs)) y) is (put_all_keeps fs (put filed_at x files) x (put_itself x files) (λ k d lt. before_apart (filed_at x) (filed_at (get_or fs k d)) (rise.0 k d lt)))
put_all_new (x ∷ fs) files f rise (suc k, low, is) = put_all_new fs (put filed_at x files) f rise.1 (k, omega (arith, low), is)

-- what is safe ahead is safe where it is listed
safe_over : (held ahead : Held) (fs : List Filed) (disk : DiskShown) → shelf_of ahead ≡ shelf_of held → ahead.stands ≡ held.stands → PlacesRise fs → AreSafe held disk → AreSafe (with_files ahead fs) disk → AreSafe (with_files held fs) disk
safe_over held ahead fs disk shelf stands rise own safe = safe_both held fs disk own (record {
  long = λ k d lt.
      let f : Filed = get_or fs k d in
      subst (λ (s : Shelf). HasFile disk.files (file_of s f.entry) (λ b. f.entry.len ≤ length b)) shelf
      (All-contains (λ (x : Filed). HasFile disk.files (file_of (shelf_of ahead) x.entry) (λ b. x.entry.len ≤ length b)) (put_all ahead.files fs) f safe.long (put_all_new fs ahead.files f rise (Contains-get_or fs k d lt)));
  unopened = λ k d lt.
      let f : Filed = get_or fs k d in
      subst (λ (s : Shelf). disk.opened (file_of s f.entry) ≤ f.entry.len) shelf
      (All-contains (λ (x : Filed). disk.opened (file_of (shelf_of ahead) x.entry) ≤ x.entry.len) (put_all ahead.files fs) f safe.unopened (put_all_new fs ahead.files f rise (Contains-get_or fs k d lt)));
  left = λ image left is_so k d lt.
      let f : Filed = get_or fs k d in
      subst (λ (s : Shelf). IsIn s image f) shelf
      (All-contains (IsIn (shelf_of ahead) image) (put_all ahead.files fs) f (safe.left image left (subst IsTrue (sym stands) is_so)) (put_all_new fs ahead.files f rise (Contains-get_or fs k d lt)));
})

-- THE BYTES OF WHAT IS AHEAD

pub leaves_ahead : (ahead : Held) (files later : Files) (old new : Past) → Behind ahead files later → Passes (Behind ahead) old new → LeavesListed (listing_of ahead) files later old new
leaves_ahead ahead files later old new now passes =
    record { now = now.listed; any_moment = passes_weaker (Behind ahead) (KeepsListed (listing_of ahead)) old new passes (λ a c was step. step.listed) }

-- where the manifest alone is changed
pub ahead_committed : (catalogue : JournalState) (m : ManifestState) (shelf : Shelf) (old : DiskShown) (between later : Files) (mid new : Past) (held ahead : Held) → HasCopied catalogue m shelf old held ahead → ((n : Name) → (IsOwn m.journal.name n → ⊥) → later n ≡ between n) → Passes (AtOwn m.journal.name Anything) mid new
    → LeavesListed (listing_of ahead) between later mid new
ahead_committed catalogue m shelf old between later mid new held ahead has elsewhere passes =
    let tier = has.stored.stored.tier in
    let other : m.journal.name.0 ≢ held.store = not_in held.store m.journal.name (manifest_name held.store) tier.valid.filed.numbered tier.named refl in
    leaves_own (listing_of ahead) m.journal.name Anything between later mid new (λ is. other (is ∙ ap (λ (s : Shelf). s.0) has.leads.same_shelf)) elsewhere passes

pub ahead_long : (catalogue : JournalState) (m : ManifestState) (shelf : Shelf) (disk : DiskShown) (between later : Files) (held ahead : Held) → HasCopied catalogue m shelf disk held ahead → ((n : Name) → (IsOwn m.journal.name n → ⊥) → later n ≡ between n) → AreLong ahead between → AreLong ahead later
ahead_long catalogue m shelf disk between later held ahead has elsewhere long =
    let tier = has.stored.stored.tier in
    let numbered : 1 ≤ ahead.store = (let own = tier.valid.filed.numbered in let same = ap (λ (s : Shelf). s.0) has.leads.same_shelf in omega (arith, own, same)) in
    own_long ahead m.journal.name between later (not_in ahead.store m.journal.name (manifest_name held.store) numbered tier.named refl) elsewhere long

-- THE FLUSH

-- files are written, and then synced
pub writes_synced : (held : Held) (old mid new : DiskShown) → Passes (Behind held) old.past mid.past → Behind held old.files mid.files → AreLong held mid.files → Passes (λ a b. b ≡ a) mid.past new.past → new.files ≡ mid.files → WritesBehind held old new
writes_synced held old mid new passes behind long synced same = record {
  any_moment = behind_same held old.past mid.past new.past passes synced;
  behind = subst (Behind held old.files) (sym same) behind;
  still = subst (AreLong held) (sym same) long;
}

pub writes_none : (held : Held) (disk : DiskShown) → AreLong held disk.files → WritesBehind held disk disk
writes_none held disk long = record { any_moment = behind_none held disk.past; behind = behind_itself held disk.files; still = long }

pub stays_none : (shelf : Shelf) (m : ManifestState) (writes : List FileWrite) (disk : DiskShown) → StaysBeside shelf m writes disk disk
stays_none shelf m writes disk = record {
  listed = leaves_none (shelf, m.entries) disk.files disk.past;
  elsewhere = λ n other apart. refl;
  others = λ n none apart. refl;
  frame = beside_none shelf.0 m.journal.name disk.past;
  no_more = λ n. omega arith;
}

-- the files are written behind what is ahead
module _ (catalogue : JournalState) (m : ManifestState) (shelf : Shelf) (old mid : DiskShown) (held ahead : Held) (fs : List Filed) (has : HasCopied catalogue m shelf old held ahead) (goes : WritesBehind ahead old mid) (fewer : (n : Name) → mid.opened n ≤ old.opened n) where
  elsewhere : (n : Name) → n.0 ≢ shelf.0 → mid.files n ≡ old.files n
  elsewhere n other = goes.behind.elsewhere n (λ is. other (is ∙ ap (λ (s : Shelf). s.0) has.safe.of_rows))

  stored : IsStoredAs catalogue m shelf mid held
  stored = still_copied catalogue m shelf old mid held ahead has goes.any_moment goes.still elsewhere fewer

  -- what was written may be listed
  pub can_list : (writes : List FileWrite) (changes : List Change) → MakesFiles m.granularity ahead writes fs → changes ≡ map set_of writes → AreSafe (with_files ahead fs) mid → CanRelist catalogue m shelf mid held (with_files held fs) changes
  can_list writes changes makes are safe = record {
    stored = stored;
    same_shelf = refl;
    same_stands = refl;
    valid = valid_over m.granularity held ahead writes fs has.leads has.stored.stored.tier.valid makes;
    safe = safe_over held ahead fs mid has.leads.same_shelf has.leads.same_stands makes.apart stored.stored.tier.safe safe;
    lists = entries_over m held ahead writes fs changes has.stored.entries are makes;
  }

  still_either : Passes (HoldsEither m.granularity held (with_files held fs)) old.past mid.past
  still_either = still_held catalogue m shelf old mid.past held (with_files held fs) has.stored (leads_behind held ahead old mid.past has.leads has.safe.safe goes.any_moment)

  -- the call fails before the commit
  pub flushes_nothing : (e : DiskErr) (r : Result (Unit {0}) DiskErr) → r ≡ Err e → m.journal.sound ≡ true → FlushesFiles catalogue m m shelf r old mid held ahead fs
  flushes_nothing e r failed sound = record {
    lists = lists_nothing e r failed m sound catalogue shelf old mid held (with_files held fs) still_either stored;
    leaves = leaves_ahead ahead old.files mid.files old.past mid.past goes.behind goes.any_moment;
    long = goes.still;
  }

  pub stays_written : (writes : List FileWrite) → ((n : Name) → IsOfNone shelf writes n → mid.files n ≡ old.files n) → StaysBeside shelf m writes old mid
  stays_written writes others = record {
    listed = leaves_copied catalogue m shelf old mid.files mid.past held ahead has goes.behind goes.any_moment;
    elsewhere = λ n other apart. elsewhere n other;
    others = λ n none apart. others n none;
    frame = beside_files shelf.0 m.journal.name ahead old.past mid.past (ap (λ (s : Shelf). s.0) has.safe.of_rows) goes.any_moment;
    no_more = fewer;
  }

  -- the commit is tried
  module _ (new : DiskShown) (touches : TouchesOwn m.journal.name mid new) where
    pub flushes_committed : (made : ManifestState) (r : Result (Unit {0}) DiskErr) → Relists catalogue m made shelf r mid new held (with_files held fs) → FlushesFiles catalogue m made shelf r old new held ahead fs
    flushes_committed made r lists = record {
      lists = record {
        any_moment = then_either m.granularity held (with_files held fs) old.past mid.past new.past still_either lists.any_moment;
        made = lists.made;
        unmade = lists.unmade;
        in_doubt = lists.in_doubt;
      };
      leaves = leaves_on (listing_of ahead) old.files mid.files new.files old.past mid.past new.past (leaves_ahead ahead old.files mid.files old.past mid.past goes.behind goes.any_moment)
          (ahead_committed catalogue m shelf old mid.files new.files mid.past new.past held ahead has touches.elsewhere touches.frame);
      long = ahead_long catalogue m shelf old mid.files new.files held ahead has touches.elsewhere goes.still;
    }

    pub stays_committed : (writes : List FileWrite) → StaysBeside shelf m writes old mid → StaysBeside shelf m writes old new
    stays_committed writes stays = record {
      listed = leaves_on (shelf, m.entries) old.files mid.files new.files old.past mid.past new.past stays.listed
          (leaves_committed catalogue m shelf old mid.files new.files mid.past new.past held has.stored touches.elsewhere touches.frame);
      elsewhere = λ n other apart. touches.elsewhere n apart ∙ stays.elsewhere n other apart;
      others = λ n none apart. touches.elsewhere n apart ∙ stays.others n none apart;
      frame = beside_commit shelf.0 m.journal.name old.past mid.past new.past stays.frame touches.frame;
      no_more = λ n. let first = stays.no_more n in let second = touches.no_more n in omega (arith, first, second);
    }
