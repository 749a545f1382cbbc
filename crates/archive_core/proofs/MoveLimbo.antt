-- The files in limbo of the store to which a move copies, and what is put among them and behind a row's list.
use Rattle.std.proofs.Common.{◌≡◌, ℕ, ◌+◌, ◌<◌, ◌≤◌, List, [], ◌∷◌, ◌++◌, Bool, true, false, cond, sym, refl, ◌∙◌, ap, arith, append_assoc, append-nil, ◌⊎◌, inl, inr, length, map, Option, Some, None, subst}
use Rattle.std.specs.List.{AllByRecursion}
use Rattle.std.specs.Prelude.{nat_le, nat_lt, ◌&&◌, Contains, filter, ◌==◌, ◌≢◌, All, IsTrue, nat_eq, slice_get}
use Rattle.std.proofs.lemmas.Bool.Decides.{nat_tests}
use Rattle.partition_names.specs.declared.part.Part.{Part}
use Rattle.series_model.specs.declared.sample.Sample.{Sample}
use Rattle.series_model.specs.Series.{RisesFrom, since, end_from, end_of}
use Rattle.act_model.specs.Limbo.{RowFile, revived, put, files_of}
use Rattle.act_model.specs.Rows.{window, holds, is_empty, RowState, Store, same_store}
use Rattle.act_model.proofs.Puts.{window-append}
use Rattle.series_model.proofs.RisingLists.{RisesFrom-lower, end_from-ge}
use Rattle.act_model.specs.MoveStep.{is_later}
use Rattle.archive_core.proofs.Lists.{contains_cases, contains_head, contains_tail, all_of, of_all}
use Rattle.std.proofs.lemmas.List.Elements.{All-contains, All-contains_itself, All-filter, All-from_recursion}
use Rattle.disk_model.specs.Files.{Name}
use Rattle.disk_model.specs.Past.{MayLeave}
use Rattle.partition_names.specs.declared.granularity.Granularity.{Granularity}
use Rattle.partition_names.specs.Part.{IsPart, HoldsMoment}
use Rattle.partition_names.proofs.PartLemmas.{one_part, within}
use Rattle.pb_lines.specs.File.{IsFile}
use Rattle.pb_lines.proofs.FileMeaning.{one_file}
use Rattle.pv_catalog.specs.declared.row.Row.{Row}
use Rattle.store_files.specs.Fronts.{Begins}
use Rattle.store_manifest.specs.Entries.{Place, place}
use Rattle.store_manifest.specs.Manifest.{ManifestState}
use Rattle.store_manifest.specs.declared.entry.Entry.{Entry}
use Rattle.durable_write.specs.Flush.{PlacesRise, file_at, is_place, put_all}
use Rattle.durable_write.specs.Held.{Filed, IsFiled, IsIn, IsListed, entry_of, file_of, filed_at}
use Rattle.durable_write.specs.Plan.{of_row}
use Rattle.durable_write.proofs.Written.{contains_entry, put_has, put_itself, one_of_place as one_of_list}
use Rattle.durable_write.proofs.Places.{all_put_all, found, is_place-same, is_place-true, listed_at, rise_put_all, rise_filter}
use Rattle.durable_write.proofs.Staying.{same_file, contains_map, same_front}
use Rattle.tier_store.specs.Change.{Has}
use Rattle.tier_store.specs.Limbo.{IsListedName, IsOfPlace, ListsPlace}
use Rattle.tier_store.specs.Pinned.{beside}
use Rattle.tier_store.specs.Revival.{AreWhole, IsOfLimbo, samples_at}
use Rattle.tier_store.specs.Seen.{Seen, granularities}
use Rattle.tier_store.specs.Stores.{Stores, list_at}
use Rattle.tier_store.specs.declared.limbo.Retired.{Retired}
use Rattle.tier_store.specs.Reviving.{AreBack}
use Rattle.tier_store.proofs.Places.{one_manifest, own_series}
use Rattle.tier_store.proofs.Removals.{as_filed, listed_place, retired_listed}
use Rattle.act_model.specs.Machine.{Machine}
use Rattle.act_model.specs.OpenPiece.{bytes_of}
use Rattle.act_model.specs.Rule.{index_of}
use Rattle.act_model.specs.Sound.{IsSound}
use Rattle.act_model.proofs.Rows.{same_store_is}
use Rattle.act_model.proofs.RowLaws.{end_from-below}
use Rattle.archive_core.specs.LimboTies.{IsRetiredOf, IsLimboOf, filed_of}
use Rattle.archive_core.specs.MoveChoice.{HaveDurable}
use Rattle.archive_core.specs.Stands.{HoldsDurable}
use Rattle.archive_core.proofs.Batches.{told_stands}
use Rattle.archive_core.proofs.LimboTying.{contains_filter, from_filter, none_starts}
use Rattle.archive_core.proofs.Opens.{told_tells}
use Rattle.archive_core.proofs.LimboSwept.{lines_same, one_store, store_itself}
use Rattle.archive_core.proofs.Windows.{AreApart, all_in, row_apart, windows}
use Rattle.durable_write.specs.Held as held_files
use Rattle.store_manifest.specs.Entries as entries

-- What a batch puts behind a row's list: what comes back before its first sample, and the batch.

-- a sample is listed: whatever partition it lies in has samples
abbrev IsSeen : Sample → List Sample → Type 0
IsSeen s xs = (part : Part) → holds part s.t ≡ true → is_empty (window part xs) ≡ false

pub some_front : (xs ys : List Sample) → is_empty xs ≡ false → is_empty (xs ++ ys) ≡ false
some_front [] ys some = absurd (cc (some))
some_front (x ∷ xs) ys some = refl

pub some_back : (xs ys : List Sample) → is_empty ys ≡ false → is_empty (xs ++ ys) ≡ false
some_back [] ys some = some
some_back (x ∷ xs) ys some = refl

pub holds_at : (part : Part) (t : ℕ) → part.start ≤ t → t < part.end → holds part t ≡ true
holds_at part t from to = grind (arith, nat_tests, from, to)

pub window_own : (part : Part) (s : Sample) → holds part s.t ≡ true → window part (s ∷ []) ≡ s ∷ []
window_own part s is =
    let to : s.t < part.end = grind (arith, nat_tests, is) in
    let from : part.start ≤ s.t = grind (arith, nat_tests, is) in
    let under : nat_lt s.t part.end ≡ true = grind (arith, nat_tests, to) in
    let above : nat_le part.start s.t ≡ true = grind (arith, nat_tests, from) in
    ap (λ (b : Bool). since part.start (cond b (s ∷ []) [])) under ∙ ap (λ (b : Bool). cond b (s ∷ []) []) above

seen_more : (s : Sample) (xs ys : List Sample) → IsSeen s xs → IsSeen s (xs ++ ys)
seen_more s xs ys seen = λ part is. ap is_empty (window-append part xs ys) ∙ some_front (window part xs) (window part ys) (seen part is)

seen_last : (s : Sample) (xs ys : List Sample) → IsSeen s (xs ++ (ys ++ s ∷ []))
seen_last s xs ys = λ part is.
    ap is_empty (window-append part xs (ys ++ s ∷ []) ∙ ap (λ (w : List Sample). window part xs ++ w) (window-append part ys (s ∷ [])))
    ∙ some_back (window part xs) (window part ys ++ window part (s ∷ [])) (some_back (window part ys) (window part (s ∷ [])) (ap is_empty (window_own part s is)))

-- none of the files' partitions starts later than n
abbrev pub StartBy : ℕ → List RowFile → Type 0
StartBy n files = AllByRecursion (λ (f : RowFile). f.part.start ≤ n) files

-- nothing comes back before a later sample
none_later : (files : List RowFile) (listed : List Sample) (s x : Sample) → StartBy s.t files → s.t ≤ x.t → IsSeen s listed → revived files listed x ≡ []
none_later [] listed s x starts late seen = refl
none_later (f ∷ files) listed s x starts late seen = by_test (holds f.part x.t) refl (none_later files listed s x starts.1 late seen)
  where
    by_test : (b : Bool) → holds f.part x.t ≡ b → revived files listed x ≡ [] → cond b (cond (is_empty (window f.part listed)) f.samples []) (revived files listed x) ≡ []
    by_test true is rest =
        let low = starts.0 in
        let end : x.t < f.part.end = grind (arith, nat_tests, is) in
        ap (λ (b : Bool). cond b f.samples []) (seen f.part (holds_at f.part s.t low (omega (arith, late, end))))
    by_test false is rest = rest

put_after : (xs : List Sample) (files : List RowFile) (listed : List Sample) (s : Sample) → StartBy s.t files → RisesFrom (s.t + 1) xs → IsSeen s listed → put xs files listed ≡ listed ++ xs
put_after [] files listed s starts rises seen = sym (append-nil listed)
put_after (x ∷ xs) files listed s starts rises seen =
    let low = rises.0 in
    let none : revived files listed x ≡ [] = none_later files listed s x starts (omega (arith, low)) seen in
    ap (λ (ys : List Sample). put xs files (listed ++ (ys ++ x ∷ []))) none
    ∙ (put_after xs files (listed ++ x ∷ []) s starts (RisesFrom-lower (s.t + 1) (x.t + 1) xs rises.1 (omega (arith, low))) (seen_more s listed (x ∷ []) seen) ∙ append_assoc listed (x ∷ []) xs)

pub put_first : (s : Sample) (xs : List Sample) (files : List RowFile) (listed : List Sample) → StartBy s.t files → RisesFrom (s.t + 1) xs → put (s ∷ xs) files listed ≡ listed ++ (revived files listed s ++ s ∷ xs)
put_first s xs files listed starts rises =
    let back = revived files listed s in
    put_after xs files (listed ++ (back ++ s ∷ [])) s starts rises (seen_last s listed back)
    ∙ (append_assoc listed (back ++ s ∷ []) xs ∙ ap (λ (ys : List Sample). listed ++ ys) (append_assoc back (s ∷ []) xs))

-- The files in limbo of the store to which a move copies: those that may come back are the machine's, and what it puts among them.

-- LISTS

-- two tests that are each passed where the other is are the same
pub same_test : (a b : Bool) → (a ≡ true → b ≡ true) → (b ≡ true → a ≡ true) → a ≡ b
same_test true b to from = sym (to refl)
same_test false true to from = from refl
same_test false false to from = refl

-- by tests that are the same for each of the samples the same ones pass
pub same_filter : (p q : Sample → Bool) (xs : List Sample) → AllByRecursion (λ (s : Sample). p s ≡ q s) xs → filter p xs ≡ filter q xs
same_filter p q [] same = refl
same_filter p q (x ∷ xs) same = (λ k. cond (same.0 k) (x ∷ filter p xs) (filter p xs)) ∙ ap (λ (ys : List Sample). cond (q x) (x ∷ ys) ys) (same_filter p q xs same.1)

-- a list that has a sample ends behind where it ends from anywhere sooner
pub end_lower : (n : ℕ) (xs : List Sample) → end_of xs ≤ end_from n xs
end_lower n [] = omega arith
end_lower n (x ∷ xs) = omega arith

-- each of rising samples is before their end
pub rises_before : (n : ℕ) (xs : List Sample) → RisesFrom n xs → AllByRecursion (λ (s : Sample). (n ≤ s.t) × (s.t < end_from n xs)) xs
rises_before n [] rises = tt
rises_before n (x ∷ xs) rises = let first = rises.0 in let end = end_from-ge (x.t + 1) xs rises.1 in ((first, omega (arith, end)), lower n xs (rises_before (x.t + 1) xs rises.1))
  where
    lower : (k : ℕ) (ys : List Sample) → AllByRecursion (λ (s : Sample). (x.t + 1 ≤ s.t) × (s.t < end_from (x.t + 1) xs)) ys → AllByRecursion (λ (s : Sample). (n ≤ s.t) × (s.t < end_from (x.t + 1) xs)) ys
    lower k [] all = tt
    lower k (y ∷ ys) all = ((let up = all.0.0 in let first = rises.0 in omega (arith, up, first), all.0.1), lower k ys all.1)

-- LATER THAN THE FILES OF LIMBO

-- a sample that is later than the file of its partition
abbrev pub IsBehind : Sample → RowFile → Type 0
IsBehind s f = holds f.part s.t ≡ true → end_from f.part.start f.samples ≤ s.t

pub later_true : (files : List RowFile) (s : Sample) → AllByRecursion (IsBehind s) files → is_later files s ≡ true
later_true [] s all = refl
later_true (f ∷ files) s all = by_test (holds f.part s.t) refl (later_true files s all.1)
  where
    by_test : (b : Bool) → holds f.part s.t ≡ b → is_later files s ≡ true → (cond b (nat_le (end_from f.part.start f.samples) s.t) true && is_later files s) ≡ true
    by_test true is rest = let low : end_from f.part.start f.samples ≤ s.t = all.0 is in let own : nat_le (end_from f.part.start f.samples) s.t ≡ true = grind (arith, nat_tests, low) in rw (own, rest) refl
    by_test false is rest = rest

pub later_each : (files : List RowFile) (s : Sample) → is_later files s ≡ true → AllByRecursion (IsBehind s) files
later_each [] s is = tt
later_each (f ∷ files) s is = by_test (holds f.part s.t) refl (later_each files s)
  where
    by_test : (b : Bool) → holds f.part s.t ≡ b → (is_later files s ≡ true → AllByRecursion (IsBehind s) files) → AllByRecursion (IsBehind s) (f ∷ files)
    by_test true test rest = let both = rw test at is in ((λ h. grind (arith, nat_tests, both)), rest (grind (arith, nat_tests, both)))
    by_test false test rest = let both = rw test at is in ((λ h. absurd (let no : true ≡ false = sym h ∙ test in cc (no))), rest both)

-- WHAT COMES BACK

-- What comes back is the file in whose partition the sample lies, where that isn't listed, and nothing where it is or there is none.
abbrev pub RevivesAs : List RowFile → List Sample → Sample → List Sample → Type 0
RevivesAs files listed s xs = ((f : RowFile) × Contains files f × (holds f.part s.t ≡ true) × (((is_empty (window f.part listed) ≡ true) × (xs ≡ f.samples)) ⊎ ((is_empty (window f.part listed) ≡ false) × (xs ≡ [])))) ⊎ (((f : RowFile) → Contains files f → holds f.part s.t ≡ true → ⊥) × (xs ≡ []))

pub revives : (files : List RowFile) (listed : List Sample) (s : Sample) → RevivesAs files listed s (revived files listed s)
revives [] listed s = inr ((λ f there is. absurd (let low = there.1 in omega (arith, low))), refl)
revives (f ∷ files) listed s = by_test (holds f.part s.t) refl (is_empty (window f.part listed)) refl (revives files listed s)
  where
    by_test : (b : Bool) → holds f.part s.t ≡ b → (c : Bool) → is_empty (window f.part listed) ≡ c → RevivesAs files listed s (revived files listed s) → RevivesAs (f ∷ files) listed s (cond b (cond c f.samples []) (revived files listed s))
    by_test true is true none rest = inl (f, contains_head f files, is, inl (none, refl))
    by_test true is false some rest = inl (f, contains_head f files, is, inr (some, refl))
    by_test false is c empty (inl (g, there, lies, as_it_is)) = inl (g, contains_tail f files g there, lies, as_it_is)
    by_test false is c empty (inr (none, same)) = inr (
      (λ g there lies. elim (contains_cases f files g there) [
        | inl own ↦ (let yes : holds f.part s.t ≡ true = ap (λ (x : RowFile). holds x.part s.t) own ∙ lies in let both : true ≡ false = sym yes ∙ is in cc (both))
        | inr later ↦ none g later lies
      ]),
      same,
    )

-- WHAT IS PUT

pub put_append : (xs ys : List Sample) (files : List RowFile) (listed : List Sample) → put (xs ++ ys) files listed ≡ put ys files (put xs files listed)
put_append [] ys files listed = refl
put_append (x ∷ xs) ys files listed = put_append xs ys files (listed ++ (revived files listed x ++ x ∷ []))

-- what has samples of a partition has some with more behind it
window_more : (part : Part) (xs ys : List Sample) → is_empty (window part xs) ≡ false → is_empty (window part (xs ++ ys)) ≡ false
window_more part xs ys some = ap is_empty (window-append part xs ys) ∙ some_front (window part xs) (window part ys) some

-- and so has what ends with one
window_last : (part : Part) (s : Sample) (xs ys : List Sample) → holds part s.t ≡ true → is_empty (window part (xs ++ (ys ++ s ∷ []))) ≡ false
window_last part s xs ys is =
    ap is_empty (window-append part xs (ys ++ s ∷ []) ∙ ap (λ (w : List Sample). window part xs ++ w) (window-append part ys (s ∷ [])))
    ∙ some_back (window part xs) (window part ys ++ window part (s ∷ [])) (some_back (window part ys) (window part (s ∷ [])) (ap is_empty (window_own part s is)))

-- a sample in the partition makes it no empty one
pub window_has : (part : Part) (xs : List Sample) (s : Sample) → Contains xs s → holds part s.t ≡ true → is_empty (window part xs) ≡ false
window_has part [] s there is = absurd (let low = there.1 in omega (arith, low))
window_has part (x ∷ xs) s there is = elim (contains_cases x xs s there) [
  | inl own ↦ window_more part (x ∷ []) xs (ap is_empty (window_own part x (ap (λ (y : Sample). holds part y.t) own ∙ is)))
  | inr later ↦ ap is_empty (window-append part (x ∷ []) xs) ∙ some_back (window part (x ∷ [])) (window part xs) (window_has part xs s later is)
]

-- a file into whose partition a sample comes has samples in the list already
abbrev AreListed : List RowFile → List Sample → Sample → Type 0
AreListed files listed x = AllByRecursion (λ (f : RowFile). holds f.part x.t ≡ true → is_empty (window f.part listed) ≡ false) files

none_listed : (files : List RowFile) (listed : List Sample) (x : Sample) → AreListed files listed x → revived files listed x ≡ []
none_listed [] listed x are = refl
none_listed (f ∷ files) listed x are = by_test (holds f.part x.t) refl (none_listed files listed x are.1)
  where
    by_test : (b : Bool) → holds f.part x.t ≡ b → revived files listed x ≡ [] → cond b (cond (is_empty (window f.part listed)) f.samples []) (revived files listed x) ≡ []
    by_test true is rest = ap (λ (b : Bool). cond b f.samples []) (are.0 is)
    by_test false is rest = rest

listed_more : (files : List RowFile) (listed ys : List Sample) (x : Sample) → AreListed files listed x → AreListed files (listed ++ ys) x
listed_more [] listed ys x are = tt
listed_more (f ∷ files) listed ys x are = ((λ is. window_more f.part listed ys (are.0 is)), listed_more files listed ys x are.1)

all_more : (xs : List Sample) (files : List RowFile) (listed ys : List Sample) → AllByRecursion (AreListed files listed) xs → AllByRecursion (AreListed files (listed ++ ys)) xs
all_more [] files listed ys are = tt
all_more (x ∷ xs) files listed ys are = (listed_more files listed ys x are.0, all_more xs files listed ys are.1)

put_behind : (xs : List Sample) (files : List RowFile) (listed : List Sample) → AllByRecursion (AreListed files listed) xs → put xs files listed ≡ listed ++ xs
put_behind [] files listed are = sym (append-nil listed)
put_behind (x ∷ xs) files listed are =
    ap (λ (ys : List Sample). put xs files (listed ++ (ys ++ x ∷ []))) (none_listed files listed x are.0)
    ∙ (put_behind xs files (listed ++ x ∷ []) (all_more xs files listed (x ∷ []) are.1) ∙ append_assoc listed (x ∷ []) xs)

-- A file that has the one sample in its partition has the other there too, or has samples in the list.
abbrev pub GoesWith : List RowFile → List Sample → Sample → Sample → Type 0
GoesWith files listed s x = AllByRecursion (λ (f : RowFile). holds f.part x.t ≡ true → (holds f.part s.t ≡ true) ⊎ (is_empty (window f.part listed) ≡ false)) files

with_listed : (files : List RowFile) (listed back : List Sample) (s x : Sample) → GoesWith files listed s x → AreListed files (listed ++ (back ++ s ∷ [])) x
with_listed [] listed back s x alike = tt
with_listed (f ∷ files) listed back s x alike = (
  (λ is. elim (alike.0 is) [
    | inl own ↦ window_last f.part s listed back own
    | inr some ↦ window_more f.part listed (back ++ s ∷ []) some
  ]),
  with_listed files listed back s x alike.1,
)

-- all samples but the first go with it
abbrev pub GoTogether : List RowFile → List Sample → List Sample → Type 0
GoTogether files listed [] = Unit {0}
GoTogether files listed (s ∷ xs) = AllByRecursion (GoesWith files listed s) xs

-- they go behind what comes back before the first of them
pub put_together : (s : Sample) (xs : List Sample) (files : List RowFile) (listed : List Sample) → AllByRecursion (GoesWith files listed s) xs → put (s ∷ xs) files listed ≡ listed ++ (revived files listed s ++ s ∷ xs)
put_together s xs files listed alike =
    let back = revived files listed s in
    put_behind xs files (listed ++ (back ++ s ∷ [])) (all_listed xs alike)
    ∙ (append_assoc listed (back ++ s ∷ []) xs ∙ ap (λ (ys : List Sample). listed ++ ys) (append_assoc back (s ∷ []) xs))
  where
    all_listed : (ys : List Sample) → AllByRecursion (GoesWith files listed s) ys → AllByRecursion (AreListed files (listed ++ (revived files listed s ++ s ∷ []))) ys
    all_listed [] all = tt
    all_listed (y ∷ ys) all = (with_listed files listed (revived files listed s) s y all.0, all_listed ys all.1)

-- FILES THAT ARE PUT AMONG OTHERS

-- where a file stood one stands still
still_at : (fs xs : List Filed) (f : Filed) → Contains xs f → (h : Filed) × Contains (put_all xs fs) h × (filed_at h ≡ filed_at f)
still_at [] xs f there = (f, there, refl)
still_at (x ∷ fs) xs f there = by_test (is_place (filed_at x) (filed_at f)) refl (λ g got. still_at fs (entries.put filed_at x xs) g got)
  where
    by_test : (b : Bool) → is_place (filed_at x) (filed_at f) ≡ b → ((g : Filed) → Contains (entries.put filed_at x xs) g → (h : Filed) × Contains (put_all (entries.put filed_at x xs) fs) h × (filed_at h ≡ filed_at g))
        → (h : Filed) × Contains (put_all (entries.put filed_at x xs) fs) h × (filed_at h ≡ filed_at f)
    by_test true same rest = let own = rest x (put_itself x xs) in (own.0, own.1, own.2 ∙ is_place-true (filed_at x) (filed_at f) same)
    by_test false other rest = rest f (put_has x xs f there (λ same. absurd (let itself : is_place (filed_at x) (filed_at f) ≡ true = ap (is_place (filed_at x)) same ∙ is_place-same (filed_at x) in let both : true ≡ false = sym itself ∙ other in cc (both))))

-- where none stands then none stood
pub none_put : (fs xs : List Filed) (p : Place) → PlacesRise xs → file_at p (put_all xs fs) ≡ None → file_at p xs ≡ None
none_put fs xs p rise none = elim (listed_at xs p) [
  | inl is ↦ is
  | inr (f, there, at_place, is) ↦ absurd (
      let h = still_at fs xs f there in
      let own = All-contains (λ (x : Filed). file_at (filed_at x) (put_all xs fs) ≡ Some x) (put_all xs fs) h.0 (found (put_all xs fs) (rise_put_all xs fs rise)) h.1 in
      let there_too : file_at p (put_all xs fs) ≡ Some h.0 = ap (λ (q : Place). file_at q (put_all xs fs)) (sym (h.2 ∙ at_place)) ∙ own in
      cc (there_too, none)
      )
]

-- each of them is one of the others or of those that are put
pub from_put : (fs xs : List Filed) (f : Filed) → Contains (put_all xs fs) f → Contains xs f ⊎ Contains fs f
from_put fs xs f there =
    let P : Filed → Type 0 = λ x. Contains xs x ⊎ Contains fs x in
    All-contains P (put_all xs fs) f (all_put_all P xs fs (λ k d lt. inl (All-contains_itself xs k d lt)) (λ k d lt. inr (All-contains_itself fs k d lt))) there

-- STORES AND A MACHINE

-- The stores have what is durable of a machine that is sound, and what they have in limbo is the machine's.
pub record HaveMachine (tells : Bool) (at : Seen) (limbo : List Retired) (m : Machine) (held : Stores) : Type 0 where
  pub has : Has tells at held
  pub seen_now : IsTrue tells → MayLeave at.past at.files
  pub holds : HoldsDurable held m
  pub told_is : m.told ≡ (tells && held.stands)
  pub sound : IsSound m
  pub tie : IsLimboOf tells (beside at limbo) m.told m.rows m.limbo

pub have_durable : (tells : Bool) (at : Seen) (limbo : List Retired) (m : Machine) (held : Stores) → HaveMachine tells at limbo m held → m.rule.granularity ≡ granularities at.manifests → HaveDurable at.catalogue at.manifests held m
have_durable tells at limbo m held have rule = record { known = have.has.known; holds = have.holds; rule = rule; stands = told_stands tells m.told held.stands have.told_is }

-- FILES BY A MOMENT

abbrev StandsAt : List Filed → ℕ → ℕ → List Sample → Type 0
StandsAt files row t xs = ((f : Filed) × Contains files f × (f.entry.series ≡ row) × HoldsMoment f.entry.part t × (xs ≡ f.samples)) ⊎ (((f : Filed) → Contains files f → f.entry.series ≡ row → HoldsMoment f.entry.part t → ⊥) × (xs ≡ []))

module _ (tells : Bool) (at : Seen) (limbo : List Retired) (m : Machine) (held : Stores) (have : HaveMachine tells at limbo m held) (told : m.told ≡ true) (store : Store) (n : ManifestState) (managed : slice_get at.manifests (index_of store) ≡ Some n) (row : ℕ) (r : RowState) (here : slice_get m.rows row ≡ Some r)
    (retired : List Filed) (whole : AreWhole (index_of store) tells at limbo held.stands retired) (ahead : List Filed) (leads : (p : Place) → file_at p ahead ≡ None → file_at p (list_at (index_of store) held) ≡ None) (back : List Filed) (in_limbo : AreBack (index_of store) limbo retired ahead back) where
  abbrev i : ℕ
  i = index_of store

  stands : IsTrue held.stands
  stands = told_stands tells m.told held.stands have.told_is told

  tells_now : IsTrue tells
  tells_now = told_tells tells m.told held.stands have.told_is told

  abbrev unit : Granularity
  unit = n.granularity

  filed : All (IsFiled unit at.catalogue.rows) retired
  filed = (whole.filed n managed).filed stands

  are_in : All (IsIn (i + 1, at.catalogue.rows) at.files) retired
  are_in = (whole.safe tells_now).left at.files (have.seen_now tells_now) stands

  -- THOSE OF THE MACHINE

  abbrev own : List RowFile
  own = files_of row store m.limbo

  abbrev is_own : RowFile → Bool
  is_own f = f.row == row && same_store f.store store

  pub own_is : (f : RowFile) → Contains own f → Contains m.limbo f × (f.row ≡ row) × (f.store ≡ store)
  own_is f there = let from = from_filter is_own m.limbo f there in let both = by_test (f.row == row) refl (same_store f.store store) refl from.1 in (from.0, both.0, both.1)
    where
      by_test : (a : Bool) → (f.row == row) ≡ a → (b : Bool) → same_store f.store store ≡ b → (a && b) ≡ true → (f.row ≡ row) × (f.store ≡ store)
      by_test true is b same both = (grind (arith, nat_tests, is), same_store_is f.store store (same ∙ both))
      by_test false is b same both = absurd (cc (both))

  -- THEIR NAMES

  place_is : (file : Retired) → (within : Contains limbo file) → file.name.0 ≡ i + 1 → (All-contains (IsOfPlace at) limbo file have.tie.stands.0 within).place ≡ i
  place_is file there number =
      let of : IsOfPlace at file = All-contains (IsOfPlace at) limbo file have.tie.stands.0 there in
      let own_number : of.place + 1 ≡ file.name.0 = ap (λ (n : Name). n.0) of.named in
      omega (arith, own_number, number)

  -- a retired file of the store is named by its entry
  named_by : (file : Retired) → Contains limbo file → file.name.0 ≡ i + 1 → file_of (i + 1, at.catalogue.rows) file.entry ≡ file.name
  named_by file there number =
      let of : IsOfPlace at file = All-contains (IsOfPlace at) limbo file have.tie.stands.0 there in
      subst (λ (k : ℕ). file_of (k + 1, at.catalogue.rows) file.entry ≡ file.name) (place_is file there number) of.named

  -- it may be listed there
  as_listed : (file : Retired) → Contains limbo file → file.name.0 ≡ i + 1 → IsListed unit at.catalogue.rows (as_filed file)
  as_listed file there number = retired_listed at file (All-contains (IsOfPlace at) limbo file have.tie.stands.0 there) n (ap (slice_get at.manifests) (place_is file there number) ∙ managed)

  -- and what may be listed in its place is named so too
  placed_named : (file : Retired) → Contains limbo file → file.name.0 ≡ i + 1 → (h : Filed) → IsListed unit held.rows h → filed_at h ≡ place file.entry → file_of (i + 1, held.rows) h.entry ≡ file.name
  placed_named file there number h h_is same =
      let file_is : IsListed unit held.rows (as_filed file) = subst (λ (rows : List Row). IsListed unit rows (as_filed file)) have.has.known.rows (as_listed file there number) in
      same_file unit (i + 1) held.rows h (as_filed file) h_is file_is same ∙ (ap (λ (rows : List Row). file_of (i + 1, rows) file.entry) (sym have.has.known.rows) ∙ named_by file there number)

  -- a retired file that no store lists has no place in the store's list
  no_place : (file : Retired) → Contains limbo file → file.name.0 ≡ i + 1 → (IsListedName at file.name → ⊥) → file_at (place file.entry) (list_at (index_of store) held) ≡ None
  no_place file there number free = elim (listed_at (list_at (index_of store) held) (place file.entry)) [
    | inl none ↦ none
    | inr (h, within, same, is) ↦ absurd (free (record {
      place = index_of store;
      manifest = n;
      here = managed;
      entry = h.entry;
      within = subst (λ (es : List Entry). Contains es h.entry) (sym (have.has.known.each (index_of store) n managed).entries) (contains_entry (list_at (index_of store) held) h within);
      named = ap (λ (rows : List Row). file_of (i + 1, rows) h.entry) have.has.known.rows
          ∙ placed_named file there number h (All-contains (IsListed unit held.rows) (list_at (index_of store) held) h (have.has.known.each (index_of store) n managed).valid.filed.listed within) same;
    }))
  ]

  -- one that has no place there isn't listed
  not_listed : (file : Retired) → Contains limbo file → file.name.0 ≡ i + 1 → file_at (place file.entry) (list_at (index_of store) held) ≡ None → IsListedName at file.name → ⊥
  not_listed file there number none listed =
      let known = have.has.known.each (index_of store) n managed in
      let lists : ListsPlace at.manifests file = listed_place at held file have.has.known (All-contains (IsOfPlace at) limbo file have.tie.stands.0 there) listed in
      let is : lists.place ≡ index_of store = (let number_too = lists.store in omega (arith, number_too, number)) in
      let same : lists.manifest ≡ n = one_manifest at.manifests (index_of store) lists.place n lists.manifest is managed lists.here in
      let there_listed : Contains (map entry_of (list_at (index_of store) held)) lists.entry = subst (λ (es : List Entry). Contains es lists.entry) known.entries (subst (λ (x : ManifestState). Contains x.entries lists.entry) same lists.within) in
      let h = contains_map (list_at (index_of store) held) lists.entry there_listed in
      let series : h.0.entry.series ≡ file.entry.series = ap (λ (e : Entry). e.series) h.2 ∙ lists.series in
      let start : h.0.entry.part.start ≡ file.entry.part.start = ap (λ (e : Entry). e.part.start) h.2 ∙ lists.start in
      let at_place : filed_at h.0 ≡ place file.entry = λ j. (series j, start j) in
      let one = All-contains (λ (x : Filed). file_at (filed_at x) (list_at (index_of store) held) ≡ Some x) (list_at (index_of store) held) h.0 (found (list_at (index_of store) held) known.valid.apart) h.1 in
      let there_too : file_at (place file.entry) (list_at (index_of store) held) ≡ Some h.0 = ap (λ (p : Place). file_at p (list_at (index_of store) held)) (sym at_place) ∙ one in
      cc (there_too, none)

  -- THE ONES AND THE OTHERS

  -- one that is whole has the samples that the machine has
  one_image : (f : RowFile) (file : Retired) (h : Filed) → Contains limbo file → file.name.0 ≡ i + 1 → IsRetiredOf tells (beside at limbo) m.rows f file → Contains retired h → file.entry ≡ h.entry → h.samples ≡ f.samples
  one_image f file h there number is inside same =
      let h_is : IsFiled unit at.catalogue.rows h = All-contains (IsFiled unit at.catalogue.rows) retired h filed inside in
      let h_in : Begins (held_files.bytes_of h) (at.files (file_of (i + 1, at.catalogue.rows) h.entry)) = All-contains (IsIn (i + 1, at.catalogue.rows) at.files) retired h are_in inside in
      let name : file_of (i + 1, at.catalogue.rows) h.entry ≡ file.name = ap (file_of (i + 1, at.catalogue.rows)) (sym same) ∙ named_by file there number in
      let h_front : Begins (held_files.bytes_of h) (at.files file.name) = subst (λ (n : Name). Begins (held_files.bytes_of h) (at.files n)) name h_in in
      let plain : bytes_of f ≡ held_files.bytes_of (filed_of file.entry f) = ap (λ (rest : List ℕ). f.head ++ (10 ∷ rest)) (lines_same f.samples) in
      let f_front : Begins (held_files.bytes_of (filed_of file.entry f)) (at.files file.name) = subst (λ (b : List ℕ). Begins b (at.files file.name)) plain (is.shows.front tells_now) in
      let long : length (held_files.bytes_of h) ≡ length (held_files.bytes_of (filed_of file.entry f)) = sym h_is.len ∙ (ap (λ (e : Entry). e.len) (sym same) ∙ is.filed.len) in
      let bytes : held_files.bytes_of h ≡ held_files.bytes_of (filed_of file.entry f) = same_front (held_files.bytes_of h) (held_files.bytes_of (filed_of file.entry f)) (at.files file.name) long h_front f_front in
      (one_file (held_files.bytes_of h) h.head f.head h_is.info is.filed.info h.samples f.samples h_is.file (subst (λ (b : List ℕ). IsFile b f.head is.filed.info f.samples) (sym bytes) is.filed.file)).2

  in_retired : (h : Filed) → Contains back h → Contains retired h
  in_retired h inside = All-contains (Contains retired) back h in_limbo.known inside

  -- the retired file of one of the machine's, and where it stands
  pub record HasFile (f : RowFile) : Type 0 where
    pub file : Retired
    pub inside : Contains limbo file
    pub is : IsRetiredOf tells (beside at limbo) m.rows f file
    pub number : file.name.0 ≡ i + 1
    pub at_place : place file.entry ≡ (row, f.part.start)

  pub has_file : (f : RowFile) → Contains own f → HasFile f
  has_file f there =
      let of = own_is f there in
      let is = (have.tie.retired told).each f of.0 in
      let series : is.file.entry.series ≡ row = is.is.series ∙ of.1 in
      let start : is.file.entry.part.start ≡ f.part.start = ap (λ (p : Part). p.start) is.is.part in
      record {
        file = is.file;
        inside = is.within;
        is = is.is;
        number = ap (λ (n : Name). n.0) is.is.named ∙ ap (λ (s : Store). index_of s + 1) of.2;
        at_place = λ j. (series j, start j);
      }

  -- a file of limbo is of a partition of the store
  pub own_part : (f : RowFile) → Contains own f → IsPart unit f.part
  own_part f there = let has = has_file f there in subst (λ (p : Part). IsPart unit p) has.is.part (as_listed has.file has.inside has.number).part

  -- what may be listed in its place has its name
  pub own_named : (f : RowFile) (there : Contains own f) (h : Filed) → IsListed unit held.rows h → filed_at h ≡ (row, f.part.start) → file_of (i + 1, held.rows) h.entry ≡ (has_file f there).file.name
  own_named f there h h_is same = let has = has_file f there in placed_named has.file has.inside has.number h h_is (same ∙ sym has.at_place)

  -- nothing is listed in the place of one of the machine's
  pub own_free : (f : RowFile) → Contains own f → file_at (row, f.part.start) (list_at (index_of store) held) ≡ None
  own_free f there =
      let of = own_is f there in
      let has = has_file f there in
      let free : IsListedName at has.file.name → ⊥ = λ listed. have.tie.unlisted told f has.is.row of.0 has.is.here (subst (λ (n : Name). IsListedName at n) has.is.named listed) in
      ap (λ (p : Place). file_at p (list_at (index_of store) held)) (sym has.at_place) ∙ no_place has.file has.inside has.number free

  -- each of the machine's in whose place nothing is ahead has its file among those that come back
  pub record HasBack (f : RowFile) : Type 0 where
    pub h : Filed
    pub within : Contains back h
    pub series : h.entry.series ≡ row
    pub part : h.entry.part ≡ f.part
    pub samples : h.samples ≡ f.samples

  has_back : (f : RowFile) → Contains own f → file_at (row, f.part.start) ahead ≡ None → HasBack f
  has_back f there none =
      let has = has_file f there in
      let entry = in_limbo.every has.file has.inside has.number (ap (λ (p : Place). file_at p ahead) has.at_place ∙ none) in
      let h = contains_map back has.file.entry entry in
      record {
        h = h.0;
        within = h.1;
        series = ap (λ (e : Entry). e.series) h.2 ∙ ap (λ (p : Place). p.0) has.at_place;
        part = ap (λ (e : Entry). e.part) h.2 ∙ has.is.part;
        samples = one_image f has.file h.0 has.inside has.number has.is (in_retired h.0 h.1) (sym h.2);
      }

  -- and the other way round
  pub record IsOwn (h : Filed) : Type 0 where
    pub f : RowFile
    pub there : Contains own f
    pub part : h.entry.part ≡ f.part
    pub samples : h.samples ≡ f.samples

  pub is_of_machine : (h : Filed) → Contains back h → h.entry.series ≡ row → IsOwn h
  is_of_machine h inside series =
      let of = All-contains (λ (x : Filed). IsOfLimbo i limbo x.entry) back h in_limbo.from inside in
      let none : file_at (filed_at h) ahead ≡ None = All-contains (λ (x : Filed). file_at (filed_at x) ahead ≡ None) back h in_limbo.unlisted inside in
      let none_of : file_at (place of.file.entry) (list_at (index_of store) held) ≡ None = ap (λ (e : Entry). file_at (place e) (list_at (index_of store) held)) of.is ∙ leads (filed_at h) none in
      let one = (have.tie.retired told).others of.file of.within (not_listed of.file of.within of.store none_of) in
      let own_row : one.f.row ≡ row = sym one.is.series ∙ (ap (λ (e : Entry). e.series) of.is ∙ series) in
      let number : index_of one.f.store + 1 ≡ i + 1 = sym (ap (λ (n : Name). n.0) one.is.named) ∙ of.store in
      let own_store = one_store one.f.store store (omega (arith, number)) in
      record {
        f = one.f;
        there = contains_filter is_own m.limbo one.f one.within (own_test one.f own_row own_store);
        part = ap (λ (e : Entry). e.part) (sym of.is) ∙ one.is.part;
        samples = one_image one.f of.file h of.within of.store one.is (in_retired h inside) of.is;
      }
    where
      own_test : (f : RowFile) → f.row ≡ row → f.store ≡ store → is_own f ≡ true
      own_test f own_row own_store =
          let rows : (f.row == row) ≡ true = grind (arith, nat_tests, own_row) in
          ap (λ (b : Bool). b && same_store f.store store) rows ∙ (ap (λ (s : Store). same_store s store) own_store ∙ store_itself store)

  -- BY A MOMENT

  abbrev is_at : ℕ → Filed → Bool
  is_at t f = nat_eq f.entry.series row && (nat_le f.entry.part.start t && nat_lt t f.entry.part.end)

  at_true : (t : ℕ) (f : Filed) → f.entry.series ≡ row → f.entry.part.start ≤ t → t < f.entry.part.end → is_at t f ≡ true
  at_true t f same from to = grind (arith, nat_tests, same, from, to)

  stands_at : (files : List Filed) (t : ℕ) → StandsAt files row t (samples_at files row t)
  stands_at [] t = inr ((λ f there same lies. absurd (let low = there.1 in omega (arith, low))), refl)
  stands_at (f ∷ files) t = by_test (is_at t f) refl (stands_at files t)
    where
      by_test : (b : Bool) → is_at t f ≡ b → StandsAt files row t (samples_at files row t) → StandsAt (f ∷ files) row t (cond b f.samples (samples_at files row t))
      by_test true is rest = inl (f, contains_head f files, grind (arith, nat_tests, is), (grind (arith, nat_tests, is), grind (arith, nat_tests, is)), refl)
      by_test false is (inl (g, there, same, lies, are)) = inl (g, contains_tail f files g there, same, lies, are)
      by_test false is (inr (none, are)) = inr (
        (λ g there same lies. elim (contains_cases f files g there) [
          | inl one ↦ (let yes : is_at t f ≡ true = ap (is_at t) one ∙ at_true t g same lies.0 lies.1 in let both : true ≡ false = sym yes ∙ is in cc (both))
          | inr later ↦ none g later same lies
        ]),
        are,
      )

  lies_in : (part : Part) (t : ℕ) → holds part t ≡ true → HoldsMoment part t
  lies_in part t is = (grind (arith, nat_tests, is), grind (arith, nat_tests, is))

  holds_in : (part : Part) (t : ℕ) → HoldsMoment part t → holds part t ≡ true
  holds_in part t lies = let from = lies.0 in let to = lies.1 in grind (arith, nat_tests, from, to)

  -- files of the row in whose partitions one moment lies are one
  one_moment : (h g : Filed) (t : ℕ) → Contains retired h → Contains retired g → h.entry.series ≡ row → g.entry.series ≡ row → HoldsMoment h.entry.part t → HoldsMoment g.entry.part t → h ≡ g
  one_moment h g t h_in g_in h_row g_row h_lies g_lies =
      let part = one_part unit h.entry.part g.entry.part t (All-contains (IsFiled unit at.catalogue.rows) retired h filed h_in).part (All-contains (IsFiled unit at.catalogue.rows) retired g filed g_in).part h_lies g_lies in
      let series : h.entry.series ≡ g.entry.series = h_row ∙ sym g_row in
      let start : h.entry.part.start ≡ g.entry.part.start = ap (λ (p : Part). p.start) part in
      let same : filed_at h ≡ filed_at g = λ k. (series k, start k) in
      one_of_list retired g h whole.rise g_in h_in same

  -- the samples of one that comes back at a moment are those of the machine's
  pub back_at : (f : RowFile) → Contains own f → (t : ℕ) → holds f.part t ≡ true → file_at (row, f.part.start) ahead ≡ None → samples_at back row t ≡ f.samples
  back_at f there t is none = by_case (stands_at back t)
    where
      b : HasBack f
      b = has_back f there none

      b_lies : HoldsMoment b.h.entry.part t
      b_lies = subst (λ (p : Part). HoldsMoment p t) (sym b.part) (lies_in f.part t is)

      by_case : {xs : List Sample} → StandsAt back row t xs → xs ≡ f.samples
      by_case {xs} (inl (h, inside, series, lies, are)) =
          let one : h ≡ b.h = one_moment h b.h t (in_retired h inside) (in_retired b.h b.within) series b.series lies b_lies in
          are ∙ (ap (λ (x : Filed). x.samples) one ∙ b.samples)
      by_case {xs} (inr (none_at, are)) = absurd (none_at b.h b.within b.series b_lies)

  -- in the partition of one in whose place a file is ahead nothing comes back
  pub ahead_at : (f : RowFile) → Contains own f → (t : ℕ) → holds f.part t ≡ true → (g : Filed) → file_at (row, f.part.start) ahead ≡ Some g → samples_at back row t ≡ []
  ahead_at f there t is g stands_there = by_case (stands_at back t)
    where
      by_case : {xs : List Sample} → StandsAt back row t xs → xs ≡ []
      by_case {xs} (inl (h, inside, series, lies, are)) =
          let o = is_of_machine h inside series in
          let same : h.entry.part ≡ f.part = one_part unit h.entry.part f.part t (All-contains (IsFiled unit at.catalogue.rows) retired h filed (in_retired h inside)).part (own_part f there) lies (lies_in f.part t is) in
          let start : h.entry.part.start ≡ f.part.start = ap (λ (p : Part). p.start) same in
          let at_place : filed_at h ≡ (row, f.part.start) = λ j. (series j, start j) in
          let none : file_at (filed_at h) ahead ≡ None = All-contains (λ (x : Filed). file_at (filed_at x) ahead ≡ None) back h in_limbo.unlisted inside in
          let gone : file_at (row, f.part.start) ahead ≡ None = ap (λ (p : Place). file_at p ahead) (sym at_place) ∙ none in
          absurd (cc (gone, stands_there))
      by_case {xs} (inr (none, are)) = are

  -- where no file of the machine has the moment in its partition nothing comes back
  pub none_at : (t : ℕ) → ((f : RowFile) → Contains own f → holds f.part t ≡ true → ⊥) → samples_at back row t ≡ []
  none_at t none = by_case (stands_at back t)
    where
      by_case : {xs : List Sample} → StandsAt back row t xs → xs ≡ []
      by_case {xs} (inl (h, inside, series, lies, are)) =
          let o = is_of_machine h inside series in
          absurd (none o.f o.there (holds_in o.f.part t (subst (λ (p : Part). HoldsMoment p t) o.part lies)))
      by_case {xs} (inr (none_too, are)) = are

  -- what comes back at a moment is of the machine
  some_at : (t : ℕ) → ((f : RowFile) → Contains own f → holds f.part t ≡ true → end_of f.samples ≤ t) → end_of (samples_at back row t) ≤ t
  some_at t ends = by_case (stands_at back t)
    where
      by_case : {xs : List Sample} → StandsAt back row t xs → end_of xs ≤ t
      by_case {xs} (inl (h, inside, series, lies, are)) =
          let o = is_of_machine h inside series in
          let end = ends o.f o.there (holds_in o.f.part t (subst (λ (p : Part). HoldsMoment p t) o.part lies)) in
          let same = ap end_of (are ∙ o.samples) in
          omega (arith, end, same)
      by_case {xs} (inr (none, are)) = let same = ap end_of are in omega (arith, same)

  -- a sample that comes back at a moment lies in a partition with it
  pub back_inside : (t : ℕ) (y : Sample) → Contains (samples_at back row t) y → (f : RowFile) → Contains own f → holds f.part y.t ≡ true → holds f.part t ≡ true
  back_inside t y has f there is = by_case (stands_at back t) has
    where
      by_case : {xs : List Sample} → StandsAt back row t xs → Contains xs y → holds f.part t ≡ true
      by_case {xs} (inl (h, inside, series, lies, are)) among =
          let h_is = All-contains (IsFiled unit at.catalogue.rows) retired h filed (in_retired h inside) in
          let y_lies : HoldsMoment h.entry.part y.t = All-contains (λ (s : Sample). HoldsMoment h.entry.part s.t) h.samples y h_is.inside (subst (λ (ys : List Sample). Contains ys y) are among) in
          let same : h.entry.part ≡ f.part = one_part unit h.entry.part f.part y.t h_is.part (own_part f there) y_lies (lies_in f.part y.t is) in
          holds_in f.part t (subst (λ (p : Part). HoldsMoment p t) same lies)
      by_case {xs} (inr (none, are)) among = absurd (let low = (subst (λ (ys : List Sample). Contains ys y) are among).1 in omega (arith, low))

  -- WHAT IS LATER THAN THE FILES

  -- the same samples are held back, where what is ahead ends no sooner than a file in whose place it has one
  pub later_same : (end : ℕ) → ((f : RowFile) (g : Filed) → Contains own f → file_at (row, f.part.start) ahead ≡ Some g → end_from f.part.start f.samples ≤ end) → (s : Sample) → end ≤ s.t → nat_le (end_of (samples_at back row s.t)) s.t ≡ is_later own s
  later_same end covers s late = same_test (nat_le (end_of (samples_at back row s.t)) s.t) (is_later own s) to from
    where
      one : (f : RowFile) → Contains own f → end_of (samples_at back row s.t) ≤ s.t → (o : Option Filed) → file_at (row, f.part.start) ahead ≡ o → IsBehind s f
      one f there low None none = λ is.
          let start : f.part.start ≤ s.t = (lies_in f.part s.t is).0 in
          let same = ap end_of (back_at f there s.t is none) in
          end_from-below f.part.start s.t f.samples start (omega (arith, low, same))
      one f there low (Some g) is_ahead = λ is. let low_end = covers f g there is_ahead in omega (arith, low_end, late)

      to : nat_le (end_of (samples_at back row s.t)) s.t ≡ true → is_later own s ≡ true
      to is = let low : end_of (samples_at back row s.t) ≤ s.t = grind (arith, nat_tests, is) in later_true own s (all_of (IsBehind s) own (λ f there. one f there low (file_at (row, f.part.start) ahead) refl))

      from : is_later own s ≡ true → nat_le (end_of (samples_at back row s.t)) s.t ≡ true
      from is =
          let each = later_each own s is in
          let low = some_at s.t (λ f there lies. let own_end = of_all (IsBehind s) own f each there lies in let lower = end_lower f.part.start f.samples in omega (arith, own_end, lower)) in
          grind (arith, nat_tests, low)

  -- WHAT COMES BACK BEFORE A SAMPLE

  module _ (ahead_filed : All (IsFiled unit held.rows) ahead) (rise : PlacesRise ahead) where
    of_ahead : All (IsFiled unit held.rows) (of_row row ahead)
    of_ahead = All-filter (λ (f : Filed). nat_eq f.entry.series row) (IsFiled unit held.rows) ahead ahead_filed

    apart : AreApart (of_row row ahead)
    apart = row_apart unit held.rows row (of_row row ahead) of_ahead (rise_filter (λ (f : Filed). nat_eq f.entry.series row) ahead rise) (own_series row ahead)

    -- a partition has samples just where a file of it is ahead
    pub some_window : (p : Part) → IsPart unit p → (g : Filed) → file_at (row, p.start) ahead ≡ Some g → is_empty (window p (all_in (of_row row ahead))) ≡ false
    some_window p part g stands_there = by_case (listed_at ahead (row, p.start))
      where
        by_case : (file_at (row, p.start) ahead ≡ None) ⊎ ((f : Filed) × Contains ahead f × (filed_at f ≡ (row, p.start)) × (file_at (row, p.start) ahead ≡ Some f)) → is_empty (window p (all_in (of_row row ahead))) ≡ false
        by_case (inl none) = absurd (cc (none, stands_there))
        by_case (inr (f, there, at_place, is)) =
            let series : f.entry.series ≡ row = ap (λ (q : Place). q.0) at_place in
            let start : f.entry.part.start ≡ p.start = ap (λ (q : Place). q.1) at_place in
            let f_is = All-contains (IsFiled unit held.rows) ahead f ahead_filed there in
            let mine = (within unit f.entry.part f_is.part).1 in
            let theirs = (within unit p part).1 in
            let same : f.entry.part ≡ p = one_part unit f.entry.part p p.start f_is.part part (omega (arith, start), omega (arith, start, mine)) (omega arith, theirs) in
            let W : Filed → Type 0 = λ x. window x.entry.part (all_in (of_row row ahead)) ≡ x.samples in
            let inside = contains_filter (λ (x : Filed). nat_eq x.entry.series row) ahead f there (grind (arith, nat_tests, series)) in
            let cut : window f.entry.part (all_in (of_row row ahead)) ≡ f.samples = All-contains W (of_row row ahead) f (All-from_recursion W (of_row row ahead) (windows unit held.rows (of_row row ahead) of_ahead apart)) inside in
            ap (λ (q : Part). is_empty (window q (all_in (of_row row ahead)))) (sym same) ∙ ap is_empty (cut ∙ f_is.some)

    pub none_window : (p : Part) → IsPart unit p → file_at (row, p.start) ahead ≡ None → is_empty (window p (all_in (of_row row ahead))) ≡ true
    none_window p part none = ap is_empty (none_starts unit held.rows p (of_row row ahead) part of_ahead (all_of (λ (h : Filed). h.entry.part.start ≢ p.start) (of_row row ahead) (λ h there start.
        let from = from_filter (λ (x : Filed). nat_eq x.entry.series row) ahead h there in
        let test = from.1 in
        let series : h.entry.series ≡ row = grind (arith, nat_tests, test) in
        let at_place : filed_at h ≡ (row, p.start) = λ j. (series j, start j) in
        let one = All-contains (λ (x : Filed). file_at (filed_at x) ahead ≡ Some x) ahead h (found ahead rise) from.0 in
        let there_too : file_at (row, p.start) ahead ≡ Some h = ap (λ (q : Place). file_at q ahead) (sym at_place) ∙ one in
        cc (there_too, none))))

    -- the same comes back
    pub same_back : (s : Sample) → samples_at back row s.t ≡ revived own (all_in (of_row row ahead)) s
    same_back s = by_case (revives own (all_in (of_row row ahead)) s)
      where
        some_there : (f : RowFile) → Contains own f → is_empty (window f.part (all_in (of_row row ahead))) ≡ true → (o : Option Filed) → file_at (row, f.part.start) ahead ≡ o → file_at (row, f.part.start) ahead ≡ None
        some_there f there bare None none = none
        some_there f there bare (Some g) is = absurd (let some = some_window f.part (own_part f there) g is in let both : true ≡ false = sym bare ∙ some in cc (both))

        in_place : (f : RowFile) → Contains own f → is_empty (window f.part (all_in (of_row row ahead))) ≡ false → (o : Option Filed) → file_at (row, f.part.start) ahead ≡ o → (g : Filed) × (file_at (row, f.part.start) ahead ≡ Some g)
        in_place f there some None none = absurd (let bare = none_window f.part (own_part f there) none in let both : true ≡ false = sym bare ∙ some in cc (both))
        in_place f there some (Some g) is = (g, is)

        by_case : {ys : List Sample} → RevivesAs own (all_in (of_row row ahead)) s ys → samples_at back row s.t ≡ ys
        by_case {ys} (inl (f, there, lies, inl (bare, are))) = back_at f there s.t lies (some_there f there bare (file_at (row, f.part.start) ahead) refl) ∙ sym are
        by_case {ys} (inl (f, there, lies, inr (some, are))) = let g = in_place f there some (file_at (row, f.part.start) ahead) refl in ahead_at f there s.t lies g.0 g.1 ∙ sym are
        by_case {ys} (inr (none, are)) = none_at s.t none ∙ sym are
