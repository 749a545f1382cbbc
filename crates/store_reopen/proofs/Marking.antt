-- The file `adopt` while it changes, which is no journal's: files that go, the sweep of strays, and what the stores have through all that.
use Rattle.std.proofs.Common.{◌≡◌, inl, inr, sym, arith, ◌∙◌, ap, subst, refl, List, ℕ, None, ◌≢◌, ◌≤◌, ◌+◌, get_or, Some, [], Ok, Err, true, map, ◌⊎◌, Bool, false, ◌<◌, length, take}
use Rattle.disk_model.specs.Files.{Files, Name, Content, At, KeptOr, Becomes, size_of, Lists}
use Rattle.disk_model.specs.Past.{Passes, Past, Only}
use Rattle.disk_model.specs.declared.disk.Disk.{Ghosts}
use Rattle.store_manifest.specs.Manifest.{ManifestState, manifest_name}
use Rattle.store_reopen.specs.Strays.{OnlyGo, Removes, adoption_name, IsStrayBelow, AreGone, IsGone, IsGoneIf, IsStrayOf}
use Rattle.std.specs.Prelude.{IsTrue, IsSome, Result, OnOk, OnErr, All, ◌↔◌, slice_get}
use Rattle.partition_names.specs.declared.granularity.Granularity.{Granularity}
use Rattle.disk_model.proofs.Passing.{passes_then, passes_weaker, passes_none}
use Rattle.pv_catalog.specs.Catalogue.{CatalogueState, catalogue_name}
use Rattle.tier_store.specs.Stores.{Stores, tier}
use Rattle.tier_store.specs.Change.{Has, IsEither}
use Rattle.store_reopen.specs.Reopen.{loaded, AllIn, IsNoJournals, StillHolds, ChangesJournals, HoldsEither, OnlyJournals, OpensEither, KeepsSite, LeavesSite}
use Rattle.durable_write.proofs.Staying.{name_cases, Untouched, catalogue_stays, tier_stays, safe_stays}
use Rattle.store_reopen.specs.Leaving.{Leaves}
use Rattle.disk_model.specs.declared.disk.DiskErr.{DiskErr}
use Rattle.gate_journal.specs.Generations.{IsOwn}
use Rattle.durable_write.specs.Held.{Held, Filed, AreIn, bytes_of, entry_of, file_of, shelf_of}
use Rattle.store_reopen.specs.Marking.{IsThereForGood, LeavesOthers, Marks, Begins as BeginsAdoption}
use Rattle.std.proofs.lemmas.Bool.{cases_lt}
use Rattle.store_reopen.specs.Loading.{StillSay, Catalogue, Manifest, KeepsSaid, name_of}
use Rattle.pv_catalog.specs.declared.row.Row.{Row}
use Rattle.gate_journal.specs.Journal.{JournalState}
use Rattle.gate_journal.specs.DiskShown.{shown_by}
use Rattle.gate_journal.proofs.Keeping.{says_stays}
use Rattle.pv_catalog.specs.Rows.{IsCatalogue}
use Rattle.store_files.specs.Fronts.{Begins}
use Rattle.store_manifest.specs.Batches.{Folds}
use Rattle.durable_write.specs.Stored.{Holds, AreLong}
use Rattle.tier_store.specs.Seen.{AtEach, granularities}
use Rattle.gate_journal.proofs.FileNames.{first_generation, own_apart}
use Rattle.tier_store.specs.Stored.{HoldsAll}
use Rattle.tier_store.proofs.Holding.{has_left}
use Rattle.store_reopen.specs.Adoption.{IsAdoption, IsMarked, IsMarkedOf}
use Rattle.store_reopen.specs.Steps.{Step, made_by}
use Rattle.store_reopen.proofs.Having.{still_one, journal_none, journal_then, of_zero}
use Rattle.gate_journal.proofs.Owning.{own_store}
use Rattle.std.proofs.lemmas.List.Elements.{All-contains, All-more}
use Rattle.std.proofs.lemmas.Option.{same_Some}
use Rattle.tier_store.proofs.Removals.{none_not_some}

-- Runs of calls that leave a disk by a relation.

module _ {D R : Type 0} (disk : Ghosts D R) (Step : Files → Files → Type 0) where
  pub leaves_none : ((a : Files) → Step a a) → (d : D) → Leaves disk Step d d
  leaves_none same d = record { any_moment = passes_none Step (disk.past d) (λ a left. same a); now = same (disk.files d); fewer = λ n. omega arith }

  -- calls that only read
  pub leaves_read : ((a : Files) → Step a a) → (old new : D) → disk.files new ≡ disk.files old → disk.opened new ≡ disk.opened old → Passes (λ a b. b ≡ a) (disk.past old) (disk.past new) → Leaves disk Step old new
  leaves_read same old new files opened passes = record {
    any_moment = passes_weaker (λ a b. b ≡ a) Step (disk.past old) (disk.past new) passes (λ a c left is. subst (Step a) (sym is) (same a));
    now = subst (Step (disk.files old)) (sym files) (same (disk.files old));
    fewer = λ n. let is : disk.opened new n ≡ disk.opened old n = ap (λ (o : Name → ℕ). o n) opened in omega (arith, is);
  }

  pub leaves_then : ((a b c : Files) → Step a b → Step b c → Step a c) → (old mid new : D) → Leaves disk Step old mid → Leaves disk Step mid new → Leaves disk Step old new
  leaves_then both old mid new one two = record {
    any_moment = passes_then Step Step (disk.past old) (disk.past mid) (disk.past new) one.any_moment two.any_moment (λ a b c was first left second. both a b c first second);
    now = both (disk.files old) (disk.files mid) (disk.files new) one.now two.now;
    fewer = λ n. let a = one.fewer n in let b = two.fewer n in omega (arith, a, b);
  }

  pub leaves_by : (Also : Files → Files → Type 0) → ((a b : Files) → Step a b → Also a b) → (old new : D) → Leaves disk Step old new → Leaves disk Also old new
  leaves_by Also to old new leaves = record {
    any_moment = passes_weaker Step Also (disk.past old) (disk.past new) leaves.any_moment (λ a c left step. to a c step);
    now = to (disk.files old) (disk.files new) leaves.now;
    fewer = leaves.fewer;
  }

  -- a call that changes one name
  pub leaves_one : (Change : Content → Content → Type 0) (name : Name) → ((a b : Files) → At name Change a b → Step a b) → (old new : D) → At name Change (disk.files old) (disk.files new) → Passes (At name Change) (disk.past old) (disk.past new)
      → ((n : Name) → n ≢ name → disk.opened new n ≡ disk.opened old n) → disk.opened new name ≤ disk.opened old name → Leaves disk Step old new
  leaves_one Change name to old new now crash others here = record {
    any_moment = passes_weaker (At name Change) Step (disk.past old) (disk.past new) crash (λ a c left step. to a c step);
    now = to (disk.files old) (disk.files new) now;
    fewer = λ n. elim (name_cases n name) [
      | inl is ↦ subst (λ (m : Name). disk.opened new m ≤ disk.opened old m) (sym is) here
      | inr apart ↦ let same = others n apart in omega (arith, same)
    ];
  }

-- Files that go, one after another.

pub goes_none : (Goes : Name → Type 0) (a : Files) → OnlyGo Goes a a
goes_none Goes a n = inl refl

pub goes_then : (Goes : Name → Type 0) (a b c : Files) → OnlyGo Goes a b → OnlyGo Goes b c → OnlyGo Goes a c
goes_then Goes a b c one two n = elim (two n) [
  | inr gone ↦ inr gone
  | inl is ↦ elim (one n) [ inl was ↦ inl (is ∙ was) | inr gone ↦ inr (gone.0, is ∙ gone.1) ]
]

pub goes_by : (Goes Also : Name → Type 0) (a b : Files) → ((n : Name) → Goes n → Also n) → OnlyGo Goes a b → OnlyGo Also a b
goes_by Goes Also a b to goes n = elim (goes n) [ inl is ↦ inl is | inr gone ↦ inr (to n gone.0, gone.1) ]

pub goes_at : (name : Name) (a b : Files) → At name (KeptOr None) a b → OnlyGo (λ (n : Name). n ≡ name) a b
goes_at name a b step n = elim (name_cases n name) [
  | inr apart ↦ inl (step.elsewhere n apart)
  | inl is ↦ elim step.here [ inl kept ↦ inl (ap b is ∙ kept ∙ sym (ap a is)) | inr none ↦ inr (is, ap b is ∙ none) ]
]

-- what has no file gets none
pub none_goes : (Goes : Name → Type 0) (a b : Files) (n : Name) → OnlyGo Goes a b → a n ≡ None → b n ≡ None
none_goes Goes a b n goes was = elim (goes n) [ inl is ↦ is ∙ was | inr gone ↦ gone.1 ]

-- nor does a crash bring it back
pub only_goes : (Goes : Name → Type 0) (old new : Past) (n : Name) → Passes (OnlyGo Goes) old new → Only old n None → Only new n None
only_goes Goes old new n passes only image left =
    let come = passes.each new.now image passes.later (omega arith) left in none_goes Goes come.0 image n come.2 (only come.0 come.1)

-- RUNS OF CALLS

-- whatever a call answers, one name was kept or became so
pub kept_or : {B : Type 0} (r : Result B DiskErr) (to : Content) (name : Name) (a b : Files) → OnOk r (At name (Becomes to) a b) → OnErr r (At name (KeptOr to) a b) → At name (KeptOr to) a b
kept_or {B} (Ok x) to name a b done failed = record { here = inr done.here; elsewhere = done.elsewhere }
kept_or {B} (Err e) to name a b done failed = failed

module _ {D R : Type 0} (disk : Ghosts D R) (Goes : Name → Type 0) where
  pub removes_none : (d : D) → Removes disk Goes d d
  removes_none d = leaves_none disk (OnlyGo Goes) (goes_none Goes) d

  pub removes_read : (old new : D) → disk.files new ≡ disk.files old → disk.opened new ≡ disk.opened old → Passes (λ a b. b ≡ a) (disk.past old) (disk.past new) → Removes disk Goes old new
  removes_read old new files opened passes = leaves_read disk (OnlyGo Goes) (goes_none Goes) old new files opened passes

  pub removes_then : (old mid new : D) → Removes disk Goes old mid → Removes disk Goes mid new → Removes disk Goes old new
  removes_then old mid new one two = leaves_then disk (OnlyGo Goes) (goes_then Goes) old mid new one two

  pub removes_by : (Also : Name → Type 0) → ((n : Name) → Goes n → Also n) → (old new : D) → Removes disk Goes old new → Removes disk Also old new
  removes_by Also to old new removes = leaves_by disk (OnlyGo Goes) (OnlyGo Also) (λ a b goes. goes_by Goes Also a b to goes) old new removes

-- one file, whatever its removal answers
pub removes_one : {D R B : Type 0} (disk : Ghosts D R) (r : Result B DiskErr) (name : Name) (old new : D) → OnOk r (At name (Becomes None) (disk.files old) (disk.files new)) → OnErr r (At name (KeptOr None) (disk.files old) (disk.files new)) → Passes (At name (KeptOr None)) (disk.past old) (disk.past new)
    → ((n : Name) → n ≢ name → disk.opened new n ≡ disk.opened old n) → disk.opened new name ≤ disk.opened old name → Removes disk (λ (n : Name). n ≡ name) old new
removes_one {D} {R} {B} disk r name old new done failed crash others here =
    leaves_one disk (OnlyGo (λ (n : Name). n ≡ name)) (KeptOr None) name (goes_at name) old new (kept_or r None name (disk.files old) (disk.files new) done failed) crash others here

-- What the stores have stays while other files change than those of their journals and lists.

-- each file that the store lists is one of these
abbrev pub AreSpared : (Name → Type 0) → Held → Type 0
AreSpared Spared t = All (λ (f : Filed). Spared (file_of (shelf_of t) f.entry)) t.files

module _ (Step : Files → Files → Type 0) (Spared : Name → Type 0) (kept : (a c : Files) (n : Name) → Step a c → Spared n → c n ≡ a n) (own_rows : (n : Name) → IsOwn catalogue_name n → Spared n) (own_lists : (store : ℕ) (n : Name) → IsOwn (manifest_name store) n → Spared n) where
  pub in_spared : (t : Held) (a c : Files) → AreSpared Spared t → Step a c → AreIn t a → AreIn t c
  in_spared t a c spared step was stands k d lt =
      let f : Filed = get_or t.files k d in subst (Begins (bytes_of f)) (sym (kept a c (file_of (shelf_of t) f.entry) step (spared k d lt))) (was stands k d lt)

  long_spared : (t : Held) (a c : Files) → AreSpared Spared t → Step a c → AreLong t a → AreLong t c
  long_spared t a c spared step long k d lt =
      let was = long k d lt in record { bytes = was.bytes; file = kept a c (file_of (shelf_of t) (get_or t.files k d).entry) step (spared k d lt) ∙ was.file; holds = was.holds }

  pub holds_spared : (g : Granularity) (t : Held) (a c : Files) → AreSpared Spared t → Step a c → Holds g a t → Holds g c t
  holds_spared g t a c spared step holds = record {
    rows = says_stays IsCatalogue t.rows catalogue_name a c (λ n own. kept a c n step (own_rows n own)) holds.rows;
    lists = says_stays (Folds g) (map entry_of t.files) (manifest_name t.store) a c (λ n own. kept a c n step (own_lists t.store n own)) holds.lists;
    filed = holds.filed;
    files = in_spared t a c spared step holds.files;
  }

  module _ {D R : Type 0} (disk : Ghosts D R) (old new : D) where
    untouched : Leaves disk Step old new → (journal : JournalState) (own : Name) → journal.name ≡ own → ((n : Name) → IsOwn own n → Spared n) → Untouched Step journal (disk.files old) (disk.files new) (disk.opened old) (disk.opened new)
    untouched leaves journal own is its =
        let mine : (n : Name) → IsOwn journal.name n → Spared n = λ n owned. its n (subst (λ (m : Name). IsOwn m n) is owned) in
        record { step = λ a c step n owned. kept a c n step (mine n owned); same = λ n owned. kept (disk.files old) (disk.files new) n leaves.now (mine n owned); fewer = λ n owned. leaves.fewer n }

    -- the stores have what they had
    pub has_spared : (catalogue : CatalogueState) (ms : List ManifestState) → (IsTrue disk.tells → Leaves disk Step old new) → (held : Stores) → AtEach ms (λ i m. AreSpared Spared (tier i held)) → Has disk.tells (loaded disk catalogue ms old) held → Has disk.tells (loaded disk catalogue ms new) held
    has_spared catalogue ms leaves held spared has = record {
      known = record { three = has.known.three; rows = has.known.rows; each = has.known.each };
      settled = record { catalogue = has.settled.catalogue; manifests = has.settled.manifests };
      disk = λ told.
          let stored = has.disk told in
          let left = leaves told in
          record {
            rows =
                catalogue_stays Step catalogue.journal (shown_by disk old) (shown_by disk new) left.any_moment (untouched left catalogue.journal catalogue_name stored.rows.named own_rows) held.rows stored.rows;
            each = λ k m here.
                let own = stored.each k m here in
                let files = spared k m here in
                tier_stays Step m.journal (shown_by disk old) (shown_by disk new) left.any_moment (untouched left m.journal (manifest_name (k + 1)) own.named (own_lists (k + 1))) m.granularity (tier k held) own
                (safe_stays (tier k held) Step (shown_by disk old) (shown_by disk new) own.safe left.any_moment (λ a c step. in_spared (tier k held) a c files step)
                (long_spared (tier k held) (disk.files old) (disk.files new) files left.now own.safe.long) left.fewer);
          };
    }

-- What the stores have while the file `adopt` changes, which is no journal's.

-- IT IS NO OTHER FILE

abbrev pub IsOther : Name → Type 0
IsOther n = n ≢ adoption_name

other_kept : (a c : Files) (n : Name) → LeavesOthers a c → IsOther n → c n ≡ a n
other_kept a c n step apart = step n apart

pub catalogue_apart : (n : Name) → IsOwn catalogue_name n → IsOther n
catalogue_apart n own is =
    own_apart catalogue_name adoption_name n (inr (0, omega arith, omega arith, λ same. let first : get_or catalogue_name.1 0 0 ≡ get_or adoption_name.1 0 0 = same in absurd (omega (arith, first)))) own (inr (0, omega arith, is ∙ sym (first_generation adoption_name)))

pub manifest_apart : (store : ℕ) (n : Name) → IsOwn (manifest_name store) n → IsOther n
manifest_apart store n own is =
    own_apart (manifest_name store) adoption_name n (inr (0, omega arith, omega arith, λ same. let first : get_or (manifest_name store).1 0 0 ≡ get_or adoption_name.1 0 0 = same in absurd (omega (arith, first)))) own (inr (0, omega arith, is ∙ sym (first_generation adoption_name)))

-- it is no journal's
pub no_journals : IsNoJournals adoption_name
no_journals Catalogue own = catalogue_apart adoption_name own refl
no_journals (Manifest i) own = manifest_apart (i + 1) adoption_name own refl

listed_apart : (t : Held) → 1 ≤ t.store → AreSpared IsOther t
listed_apart t from_one k d lt is = let none : t.store ≡ 0 = ap (λ (n : Name). n.0) is in absurd (omega (arith, from_one, none))

-- WHAT STAYS

numbered : (i : ℕ) → 1 ≤ i + 1
numbered i = omega arith

pub marked_holds : (gs : List Granularity) (a c : Files) → LeavesOthers a c → StillHolds gs a c
marked_holds gs a c step held holds i g here = holds_spared LeavesOthers IsOther other_kept catalogue_apart manifest_apart g (tier i held) a c (listed_apart (tier i held) (numbered i)) step (holds i g here)

pub marked_all_in : (a c : Files) (s : Stores) → LeavesOthers a c → AllIn s a → AllIn s c
marked_all_in a c s step was i low = in_spared LeavesOthers IsOther other_kept catalogue_apart manifest_apart (tier i s) a c (listed_apart (tier i s) (numbered i)) step (was i low)

-- the stores have what they had
pub has_marked : {D R : Type 0} (disk : Ghosts D R) (catalogue : CatalogueState) (ms : List ManifestState) (old new : D) → (IsTrue disk.tells → Marks disk old new) → (held : Stores) → Has disk.tells (loaded disk catalogue ms old) held → Has disk.tells (loaded disk catalogue ms new) held
has_marked {D} {R} disk catalogue ms old new marks held has = has_spared LeavesOthers IsOther other_kept catalogue_apart manifest_apart disk old new catalogue ms marks held (λ i m here. listed_apart (tier i held) (numbered i)) has

-- RUNS OF CALLS

module _ {D R : Type 0} (disk : Ghosts D R) where
  pub marks_read : (old new : D) → disk.files new ≡ disk.files old → disk.opened new ≡ disk.opened old → Passes (λ a b. b ≡ a) (disk.past old) (disk.past new) → Marks disk old new
  marks_read old new files opened passes = leaves_read disk LeavesOthers (λ a n apart. refl) old new files opened passes

  pub marks_then : (old mid new : D) → Marks disk old mid → Marks disk mid new → Marks disk old new
  marks_then old mid new one two = leaves_then disk LeavesOthers (λ a b c first second n apart. second n apart ∙ first n apart) old mid new one two

  -- it is made, whatever its creation answers
  pub marks_made : {B : Type 0} (r : Result B DiskErr) (old new : D) → OnOk r (At adoption_name (Becomes (Some [])) (disk.files old) (disk.files new)) → OnErr r (At adoption_name (KeptOr (Some [])) (disk.files old) (disk.files new)) → Passes (At adoption_name (KeptOr (Some []))) (disk.past old) (disk.past new)
      → ((n : Name) → n ≢ adoption_name → disk.opened new n ≡ disk.opened old n) → disk.opened new adoption_name ≤ disk.opened old adoption_name → Marks disk old new
  marks_made {B} r old new done failed crash others here =
      leaves_one disk LeavesOthers (KeptOr (Some [])) adoption_name (λ a b step. step.elsewhere) old new (kept_or r (Some []) adoption_name (disk.files old) (disk.files new) done failed) crash others here

  -- it alone goes
  pub marks_gone : (old new : D) → Removes disk (λ (n : Name). n ≡ adoption_name) old new → Marks disk old new
  marks_gone old new removes = leaves_by disk (OnlyGo (λ (n : Name). n ≡ adoption_name)) LeavesOthers (λ a b step n apart. elim (step n) [ inl same ↦ same | inr gone ↦ absurd (apart gone.0) ]) old new removes

-- WHETHER IT IS THERE

pub some_of : (c : Content) (n : ℕ) → size_of c ≡ Some n → IsSome c
some_of None n is = absurd (cc (is))
some_of (Some bytes) n is = refl

pub made_there : {B : Type 0} (r : Result B DiskErr) (a b : Files) → OnOk r (At adoption_name (Becomes (Some [])) a b) → OnOk r (IsSome (b adoption_name))
made_there {B} (Ok x) a b made = subst IsSome (sym made.here) refl
made_there {B} (Err e) a b made = tt

pub for_good : {B : Type 0} (r : Result B DiskErr) (now later : Files) (past : Past) → later ≡ now → IsSome (now adoption_name) → OnOk r (Only past adoption_name (now adoption_name)) → OnOk r (IsThereForGood later past)
for_good {B} (Ok x) now later past same there only = (subst (λ (f : Files). IsSome (f adoption_name)) (sym same) there, subst (λ (f : Files). Only past adoption_name (f adoption_name)) (sym same) only)
for_good {B} (Err e) now later past same there only = tt

-- The file `adopt`, and what a crash leaves without it.

some_none : (c : Content) → IsSome c → c ≡ None → ⊥
some_none None some none = absurd (cc (some))
some_none (Some bytes) some none = absurd (cc (none))

-- one run behind another, where what both come to is another relation
passes_join : (R S T : Files → Files → Type 0) (old mid new : Past) → Passes R old mid → Passes S mid new → ((a b : Files) → R a b → T a b) → ((a b c : Files) → R a b → S b c → T a c) → Passes T old new
passes_join R S T old mid new first second weak step = record {
  later = omega (arith, first.later, second.later);
  kept = λ k image le left. second.kept k image (omega (arith, le, first.later)) (first.kept k image le left);
  nothing_else = λ k image le left. first.nothing_else k image le (second.nothing_else k image (omega (arith, le, first.later)) left);
  each = λ k image from to left. elim (cases_lt mid.now k) [
    | inl after ↦
        let come = second.each k image (omega (arith, after)) to left in
        let begun = first.each mid.now come.0 first.later (omega arith) come.1 in
        (begun.0, begun.1, step begun.0 come.0 image begun.2 come.2)
    | inr before ↦ let one = first.each k image from before (second.nothing_else k image before left) in (one.0, one.1, weak one.0 image one.2)
  ];
}

-- IT IS MADE

begins_none : (a : Files) → BeginsAdoption a a
begins_none a = (λ n apart. refl, λ none. none)

begins_both : (a b c : Files) → BeginsAdoption a b → BeginsAdoption b c → BeginsAdoption a c
begins_both a b c one two = (λ n apart. two.0 n apart ∙ one.0 n apart, λ none. one.1 (two.1 none))

pub begins_then : (old mid new : Past) → Passes BeginsAdoption old mid → Passes BeginsAdoption mid new → Passes BeginsAdoption old new
begins_then old mid new one two = passes_then BeginsAdoption BeginsAdoption old mid new one two (λ a b c was first left second. begins_both a b c first second)

pub begins_read : (old new : Past) → Passes (λ a b. b ≡ a) old new → Passes BeginsAdoption old new
begins_read old new passes = passes_weaker (λ a b. b ≡ a) BeginsAdoption old new passes (λ a b left is. subst (BeginsAdoption a) (sym is) (begins_none a))

made_one : (a b : Content) → KeptOr (Some []) a b → b ≡ None → a ≡ None
made_one a b (inl is) none = sym is ∙ none
made_one a b (inr is) none = absurd (cc (is, none))

pub begins_made : (old new : Past) → Passes (At adoption_name (KeptOr (Some []))) old new → Passes BeginsAdoption old new
begins_made old new passes = passes_weaker (At adoption_name (KeptOr (Some []))) BeginsAdoption old new passes (λ a b left step. (step.elsewhere, made_one (a adoption_name) (b adoption_name) step.here))

-- THE LOAD

-- what a load leaves
abbrev Loads : List Granularity → Stores → Stores → Files → Files → Type 0
Loads gs before after a b = (b adoption_name ≡ None → a adoption_name ≡ None) × HoldsEither gs before after b

loads : (gs : List Granularity) (old new : Past) (before after : Stores) → OpensEither gs old before after → Passes (StillSay gs) old new → Passes (Loads gs before after) old new
loads gs old new before after opens passes = passes_weaker (StillSay gs) (Loads gs before after) old new passes (λ a c was step. (
  λ none. sym (step.others adoption_name no_journals) ∙ none,
  elim (opens.holds a was) [ inl holds ↦ inl (still_one gs a c step before holds) | inr holds ↦ inr (still_one gs a c step after holds) ],
))

-- a load alone
pub loads_marked : (gs : List Granularity) (image : Files) (old new : Past) (before after : Stores) → OpensEither gs old before after → Passes (StillSay gs) old new → Passes (IsMarkedOf gs image before after) old new
loads_marked gs image old new before after opens passes =
    passes_weaker (Loads gs before after) (IsMarkedOf gs image before after) old new (loads gs old new before after opens passes) (λ a b left step none. inl (step.0 none, step.1))

either_holds : (gs : List Granularity) (image : Files) (before after held : Stores) → IsEither before after held → HoldsAll gs image held → HoldsEither gs before after image
either_holds gs image before after held (inl is) holds = inl (subst (HoldsAll gs image) is holds)
either_holds gs image before after held (inr is) holds = inr (subst (HoldsAll gs image) is holds)

-- and an adoption behind it
pub loaded_marked : (gs : List Granularity) (image : Files) (old mid new : Past) (before after held : Stores) → OpensEither gs old before after → Passes (StillSay gs) old mid → IsEither before after held → Passes (IsMarked gs image held) mid new → Passes (IsMarkedOf gs image before after) old new
loaded_marked gs image old mid new before after held opens passes either marked =
    passes_join (Loads gs before after) (IsMarked gs image held) (IsMarkedOf gs image before after) old mid new (loads gs old mid before after opens passes) marked (λ a b step none. inl (step.0 none, step.1))
    (λ a b c one two none. elim (two none) [ inl (gone, holds) ↦ inl (one.0 gone, either_holds gs c before after held either holds) | inr all ↦ inr (held, either, all) ])

-- THE STEPS

module _ {D R : Type 0} (disk : Ghosts D R) (gs : List Granularity) (told : IsTrue disk.tells) where
  -- what is held stays so while the file is made
  held_begun : (c : CatalogueState) (ms : List ManifestState) (held : Stores) (old mid : D) → granularities ms ≡ gs → Passes BeginsAdoption (disk.past old) (disk.past mid) → Has disk.tells (loaded disk c ms old) held → Passes (λ a b. (b adoption_name ≡ None → a adoption_name ≡ None) × HoldsAll gs b held) (disk.past old) (disk.past mid)
  held_begun c ms held old mid of_gs begins has = passes_weaker BeginsAdoption (λ a b. (b adoption_name ≡ None → a adoption_name ≡ None) × HoldsAll gs b held) (disk.past old) (disk.past mid) begins (λ a b left step.
      (step.1, marked_holds gs a b step.0 held (subst (λ (l : List Granularity). HoldsAll l a held) of_gs (has_left disk.tells (loaded disk c ms old) held has told a left))))

  -- and while it goes
  held_ended : (c : CatalogueState) (ms : List ManifestState) (held : Stores) (old new : D) → granularities ms ≡ gs → Marks disk old new → Has disk.tells (loaded disk c ms old) held → Passes (λ a b. HoldsAll gs b held) (disk.past old) (disk.past new)
  held_ended c ms held old new of_gs marks has = passes_weaker LeavesOthers (λ a b. HoldsAll gs b held) (disk.past old) (disk.past new) marks.any_moment (λ a b left step.
      marked_holds gs a b step held (subst (λ (l : List Granularity). HoldsAll l a held) of_gs (has_left disk.tells (loaded disk c ms old) held has told a left)))

  abbrev Never : Files → Files → Type 0
  Never a b = b adoption_name ≡ None → ⊥

  -- while it is there for good it is in each image
  stays : (mid made : D) → IsThereForGood (disk.files mid) (disk.past mid) → ChangesJournals disk mid made → Passes Never (disk.past mid) (disk.past made)
  stays mid made there changes = passes_weaker OnlyJournals Never (disk.past mid) (disk.past made) changes.any_moment (λ a b left step none.
      some_none (disk.files mid adoption_name) there.0 (sym (there.1 a left) ∙ sym (step adoption_name no_journals) ∙ none))

  module _ (image : Files) (c : CatalogueState) (ms : List ManifestState) (held : Stores) (old mid : D) (of_gs : granularities ms ≡ gs) (begins : Passes BeginsAdoption (disk.past old) (disk.past mid)) (has : Has disk.tells (loaded disk c ms old) held) where
    pub marked_begun : Passes (IsMarked gs image held) (disk.past old) (disk.past mid)
    marked_begun =
        passes_weaker (λ a b. (b adoption_name ≡ None → a adoption_name ≡ None) × HoldsAll gs b held) (IsMarked gs image held) (disk.past old) (disk.past mid) (held_begun c ms held old mid of_gs begins has)
        (λ a b left step none. inl (step.0 none, step.1))

    module _ (made : D) (there : IsThereForGood (disk.files mid) (disk.past mid)) (changes : ChangesJournals disk mid made) where
      -- so it is while steps are made
      pub marked_made : Passes (IsMarked gs image held) (disk.past old) (disk.past made)
      marked_made =
          passes_then (IsMarked gs image held) Never (disk.past old) (disk.past mid) (disk.past made) marked_begun (stays mid made there changes) (λ a b e was one now two none. absurd (two none))

      -- and once they are, while it goes
      pub marked_end : (steps : List Step) → IsAdoption true gs image held steps → (c₁ : CatalogueState) (m₁ : List ManifestState) (new : D) → granularities m₁ ≡ gs → Has disk.tells (loaded disk c₁ m₁ made) (made_by steps held) → Marks disk made new
          → Passes (IsMarked gs image held) (disk.past old) (disk.past new)
      marked_end steps rule c₁ m₁ new same have ends =
          passes_then (IsMarked gs image held) (λ a b. HoldsAll gs b (made_by steps held)) (disk.past old) (disk.past made) (disk.past new) marked_made
          (held_ended c₁ m₁ (made_by steps held) made new same ends have) (λ a b e was one now two none. inr (steps, rule, two))

-- What opening leaves of the files of store 0.

-- where every file of store 0 stays
store_stays : (gs : List Granularity) (a b : Files) → ((n : Name) → n.0 ≡ 0 → b n ≡ a n) → KeepsSite gs a b
store_stays gs a b same = record {
  adoption = same adoption_name refl;
  others = λ n zero apart. same n zero;
  journals = λ j. journal_none gs j a b (λ n own. same n (own_store (name_of j) n own ∙ of_zero j));
}

-- where journals keep what they hold
still_kept : (gs : List Granularity) (a b : Files) → StillSay gs a b → KeepsSite gs a b
still_kept gs a b step = record { adoption = step.others adoption_name no_journals; others = λ n zero apart. step.others n apart; journals = step.journals }

keeps_both : (gs : List Granularity) (a b c : Files) → KeepsSite gs a b → KeepsSite gs b c → KeepsSite gs a c
keeps_both gs a b c one two = record {
  adoption = two.adoption ∙ one.adoption;
  others = λ n zero apart. two.others n zero apart ∙ one.others n zero apart;
  journals = λ j. journal_then gs j a b c (one.journals j) (two.journals j);
}

module _ {D R : Type 0} (disk : Ghosts D R) (gs : List Granularity) where
  -- calls that only read
  pub site_read : (old new : D) → disk.files new ≡ disk.files old → Passes (λ a b. b ≡ a) (disk.past old) (disk.past new) → LeavesSite disk gs old new
  site_read old new same passes = (
    store_stays gs (disk.files old) (disk.files new) (λ n zero. ap (λ (f : Files). f n) same),
    passes_weaker (λ a b. b ≡ a) (KeepsSite gs) (disk.past old) (disk.past new) passes (λ a c left is. store_stays gs a c (λ n zero. ap (λ (f : Files). f n) is)),
  )

  -- a load of the journals
  pub site_loaded : (old new : D) → KeepsSaid gs (shown_by disk old) (shown_by disk new) → LeavesSite disk gs old new
  site_loaded old new keeps =
      (still_kept gs (disk.files old) (disk.files new) keeps.now, passes_weaker (StillSay gs) (KeepsSite gs) (disk.past old) (disk.past new) keeps.passes (λ a c left step. still_kept gs a c step))

  pub site_then : (old mid new : D) → LeavesSite disk gs old mid → LeavesSite disk gs mid new → LeavesSite disk gs old new
  site_then old mid new one two = (
    keeps_both gs (disk.files old) (disk.files mid) (disk.files new) one.0 two.0,
    passes_then (KeepsSite gs) (KeepsSite gs) (disk.past old) (disk.past mid) (disk.past new) one.1 two.1 (λ a b c was first left second. keeps_both gs a b c first second),
  )

  -- strays are of other stores
  pub site_swept : (rows : List Row) (ms : List ManifestState) (old new : D) → Removes disk (IsStrayBelow 3 rows ms) old new → LeavesSite disk gs old new
  site_swept rows ms old new removes =
      (goes (disk.files old) (disk.files new) removes.now, passes_weaker (OnlyGo (IsStrayBelow 3 rows ms)) (KeepsSite gs) (disk.past old) (disk.past new) removes.any_moment (λ a c left step. goes a c step))
    where
      goes : (a b : Files) → OnlyGo (IsStrayBelow 3 rows ms) a b → KeepsSite gs a b
      goes a b step = store_stays gs a b (λ n zero. elim (step n) [ inl is ↦ is | inr gone ↦ absurd (let store = gone.0.stray.store in omega (arith, store, zero)) ])

-- The sweep of all stores, and what the stores have after it.

-- ONE STORE

some_or_none : (content : Content) → (content ≡ None) ⊎ IsSome content
some_or_none None = inl refl
some_or_none (Some b) = inr refl

-- whatever was gone stays so
pub gone_still : (Goes Now : Name → Type 0) (mid later : Files) (now new : Past) (n : Name) → OnlyGo Now mid later → Passes (OnlyGo Now) now new → IsGoneIf Goes mid now n → IsGoneIf Goes later new n
gone_still Goes Now mid later now new n goes passes gone is =
    let was = gone is in (none_goes Now mid later n goes was.0, only_goes Now now new n passes was.1)

pub all_gone_still : (Goes Now : Name → Type 0) (mid later : Files) (now new : Past) (names : List Name) → OnlyGo Now mid later → Passes (OnlyGo Now) now new → All (IsGoneIf Goes mid now) names → All (IsGoneIf Goes later new) names
all_gone_still Goes Now mid later now new names goes passes all k d lt = gone_still Goes Now mid later now new (get_or names k d) goes passes (all k d lt)

-- all that a store has was looked at
pub store_gone : (Goes : Name → Type 0) (store : ℕ) (files mid later : Files) (names : List Name) (past : Past) → ((n : Name) → Goes n → n.0 ≡ store) → mid ≡ files → Lists store files names → OnlyGo Goes mid later → All (IsGoneIf Goes later past) names → AreGone Goes files later past
store_gone Goes store files mid later names past own same lists goes gone n is = elim (some_or_none (files n)) [
  | inl none ↦ (none_goes Goes mid later n goes (ap (λ (f : Files). f n) same ∙ none), λ some. absurd (none_not_some (files n) none some))
  | inr some ↦
      let here = All-contains (IsGoneIf Goes later past) names n gone (lists.all n (own n is) some) is in
      (here.0, λ s. here.1)
]

pub in_store : (store : ℕ) (files : Files) (names : List Name) → Lists store files names → All (λ (n : Name). n.0 ≡ store) names
in_store store files names lists k d lt = (lists.each k d lt).0

-- ALL STORES

module _ (rows : List Row) (ms : List ManifestState) where
  abbrev Below : ℕ → Name → Type 0
  Below p = IsStrayBelow p rows ms

  abbrev Here : ℕ → ManifestState → Name → Type 0
  Here p m = IsStrayOf p m.granularity rows m.entries

  pub lower : (p : ℕ) (n : Name) → Below p n → Below (p + 1) n
  lower p n s = record { place = s.place; low = let low = s.low in omega (arith, low); manifest = s.manifest; here = s.here; stray = s.stray }

  pub of_place : (p : ℕ) (m : ManifestState) → slice_get ms p ≡ Some m → (n : Name) → Here p m n → Below (p + 1) n
  of_place p m here n stray = record { place = p; low = omega arith; manifest = m; here = here; stray = stray }

  -- those of the first stores are among those of all
  pub below_all : (p : ℕ) (n : Name) → p < 4 → Below p n → Below 3 n
  below_all p n few s = record { place = s.place; low = let low = s.low in omega (arith, low, few); manifest = s.manifest; here = s.here; stray = s.stray }

  -- one of a later store isn't one of those before
  later_place : (p : ℕ) (m : ManifestState) (n : Name) → Here p m n → Below p n → ⊥
  later_place p m n here s = let low = s.low in let one = s.stray.store in let other = here.store in absurd (omega (arith, low, one, other))

  pub stores_gone : (p : ℕ) (m : ManifestState) (files mid later : Files) (now new : Past) → slice_get ms p ≡ Some m → OnlyGo (Below p) files mid → AreGone (Below p) files mid now → OnlyGo (Here p m) mid later → Passes (OnlyGo (Here p m)) now new → AreGone (Here p m) mid later new
      → AreGone (Below (p + 1)) files later new
  stores_gone p m files mid later now new here before gone goes passes now_gone n s = elim (cases_lt s.place p) [
    | inl low ↦
        let was = gone n (record { place = s.place; low = low; manifest = s.manifest; here = s.here; stray = s.stray }) in
        (none_goes (Here p m) mid later n goes was.0, λ some. only_goes (Here p m) now new n passes (was.1 some))
    | inr high ↦
        let place : s.place ≡ p = let top = s.low in omega (arith, top, high) in
        let own : s.manifest ≡ m = same_Some s.manifest m (sym s.here ∙ ap (slice_get ms) place ∙ here) in
        let stray : Here p m n = subst (λ (x : ManifestState). Here p x n) own (subst (λ (k : ℕ). Here k s.manifest n) place s.stray) in
        let is = now_gone n stray in
        (is.0, λ some. is.1 (subst IsSome (sym (kept n stray)) some))
  ]
    where
      kept : (n : Name) → Here p m n → mid n ≡ files n
      kept n stray = elim (before n) [ inl same ↦ same | inr other ↦ absurd (later_place p m n stray other.0) ]

-- ONE NAME AFTER ANOTHER

-- one more was a stray, and was removed
pub one_more : (Goes : Name → Type 0) (names : List Name) (i : ℕ) (n : Name) (files later : Files) (now new : Past) → i < length names → n ≡ get_or names i n → OnlyGo Goes files later → Passes (OnlyGo Goes) now new → IsGone later new n → All (IsGoneIf Goes files now) (take i names)
    → All (IsGoneIf Goes later new) (take (i + 1) names)
one_more Goes names i n files later now new low is goes passes gone so_far = All-more (IsGoneIf Goes later new) names i n low (all_gone_still Goes Goes files later now new (take i names) goes passes so_far) (subst (IsGoneIf Goes later new) is (λ stray. gone))

-- one more was none
pub not_one : (Goes : Name → Type 0) (names : List Name) (i : ℕ) (n : Name) (files : Files) (past : Past) → i < length names → n ≡ get_or names i n → (Goes n → ⊥) → All (IsGoneIf Goes files past) (take i names) → All (IsGoneIf Goes files past) (take (i + 1) names)
not_one Goes names i n files past low is none so_far = All-more (IsGoneIf Goes files past) names i n low so_far (subst (IsGoneIf Goes files past) is (λ stray. absurd (none stray)))

pub is_none : (P : Type 0) (b : Bool) → IsTrue b ↔ P → b ≡ false → P → ⊥
is_none P b both is p = let yes : b ≡ true = both.1 p in absurd (cc (yes, is))

-- the name of one of these is in their store
pub at_store : (store : ℕ) (names : List Name) (i : ℕ) (n : Name) → i < length names → n ≡ get_or names i n → All (λ (m : Name). m.0 ≡ store) names → n.0 ≡ store
at_store store names i n low is all = subst (λ (m : Name). m.0 ≡ store) (sym is) (all i n low)
