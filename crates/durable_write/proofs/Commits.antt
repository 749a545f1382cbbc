-- A commit that lists other files: how it ends, and a retirement, which drops parts.
use Rattle.std.proofs.Common.{◌≡◌, ℕ, List, map, refl, sym, ◌∙◌, arith, true, false, inl, inr, ◌≤◌, [], ◌∷◌, ◌++◌, Bool, ap, subst, ◌≢◌, get_or, cond, suc, Result, Ok, Err}
use Rattle.disk_model.specs.Files.{Name, Files}
use Rattle.disk_model.specs.declared.disk.DiskErr.{DiskErr}
use Rattle.disk_model.specs.declared.disk.DiskErr.TheVariants.{Fault, Memory}
use Rattle.disk_model.specs.Past.{Past, Passes}
use Rattle.gate_journal.specs.Journal.{JournalState}
use Rattle.store_manifest.specs.declared.entry.Entry.{Entry}
use Rattle.store_manifest.specs.Entries.{all_changed, place, comes_before, put, AllCanFollow, changed, Place, without}
use Rattle.durable_write.specs.Held.{Held, entry_of, Shelf, Filed, filed_at, AreIn, shelf_of}
use Rattle.std.specs.Prelude.{All, filter, IsTrue, OnOk}
use Rattle.std.proofs.lemmas.List.{map-append}
use Rattle.disk_model.proofs.Passing.{passes_then, passes_none, passes_weaker}
use Rattle.gate_journal.specs.Generations.{IsOwn, AtOwn}
use Rattle.partition_names.specs.declared.granularity.Granularity.{Granularity}
use Rattle.store_manifest.specs.Batches.{Configured, Folds}
use Rattle.store_manifest.specs.Manifest.{EndsEntries, manifest_name, ManifestState, CommitsEntries, IsKept as IsManifestKept, IsUnsure as IsManifestUnsure}
use Rattle.durable_write.specs.Stored.{HoldsEither, IsStored, IsInDoubt, AreHeld, AreSafe, CatalogueStored}
use Rattle.durable_write.proofs.Staying.{stored_left, not_in, catalogue_stays, own_stay, own_long, safe_stays}
use Rattle.store_manifest.specs.declared.entry.Change.{Change}
use Rattle.durable_write.specs.Ahead.{CanRelist, HasCopied, drop_of, without_all}
use Rattle.std.specs.List.{AllZip}
use Rattle.std.proofs.lemmas.List.Elements.{All-head, All-tail, All-append, All-filter, filter_passes}
use Rattle.gate_journal.specs.Kept.{Says, SaysEither, IsKept, IsUnsure}
use Rattle.gate_journal.proofs.FileNames.{own_apart}
use Rattle.gate_journal.proofs.Keeping.{says_stays, kept_unopened, unsure_unopened}
use Rattle.partition_names.specs.Part.{IsPart}
use Rattle.durable_write.specs.declared.file_write.FileWrite.{FileWrite}
use Rattle.pv_catalog.specs.Rows.{IsCatalogue}
use Rattle.pv_catalog.specs.Catalogue.{catalogue_name}
use Rattle.durable_write.specs.Flush.{Grows, put_all, PlacesRise}
use Rattle.durable_write.specs.Writing.{set_of, Behind, IsStoredAs, IsDoubtedAs}
use Rattle.std.proofs.lemmas.Bool.{cases_lt}
use Rattle.durable_write.specs.Relisting.{ManifestEnds, Relists, TouchesOwn}
use Rattle.durable_write.specs.Three.{Anything, Beside}
use Rattle.gate_journal.specs.Kept as journal
use Rattle.gate_journal.specs.DiskShown.{DiskShown}
use Rattle.std.proofs.lemmas.Bool.Decides.{nat_tests}
use Rattle.durable_write.proofs.Places.{rise_filter}

-- The commit that ends a flush.

-- WHAT THE CHANGES LIST

pub filter-map : (test : Entry → Bool) (xs : List Filed) → filter test (map entry_of xs) ≡ map entry_of (filter (λ f. test (entry_of f)) xs)
filter-map test [] = refl
filter-map test (x ∷ xs) = go (filter-map test xs) (test (entry_of x))
  where
    go : filter test (map entry_of xs) ≡ map entry_of (filter (λ f. test (entry_of f)) xs) → (b : Bool) → cond b (entry_of x ∷ filter test (map entry_of xs)) (filter test (map entry_of xs)) ≡ map entry_of (cond b (x ∷ filter (λ f. test (entry_of f)) xs) (filter (λ f. test (entry_of f)) xs))
    go more true = ap (λ (l : List Entry). entry_of x ∷ l) more
    go more false = more

pub map-put : (x : Filed) (xs : List Filed) → map entry_of (put filed_at x xs) ≡ put place (entry_of x) (map entry_of xs)
map-put x xs =
    map-append entry_of (filter (λ y. comes_before (filed_at y) (filed_at x)) xs) (x ∷ filter (λ y. comes_before (filed_at x) (filed_at y)) xs)
    ∙ ap (λ (l : List Entry). l ++ (entry_of x ∷ map entry_of (filter (λ y. comes_before (filed_at x) (filed_at y)) xs))) (sym (filter-map (λ e. comes_before (place e) (filed_at x)) xs))
    ∙ ap (λ (l : List Entry). filter (λ e. comes_before (place e) (filed_at x)) (map entry_of xs) ++ (entry_of x ∷ l)) (sym (filter-map (λ e. comes_before (filed_at x) (place e)) xs))

-- the entries of all files, with those of the writes set
pub entries_are : (g : Granularity) (held : Held) (ps : List FileWrite) (fs files : List Filed) → AllZip (Grows g held) ps fs → all_changed (map entry_of files) (map set_of ps) ≡ map entry_of (put_all files fs)
entries_are g held [] [] files each = refl
entries_are g held [] (f ∷ fs) files each = absurd each
entries_are g held (p ∷ ps) [] files each = absurd each
entries_are g held (p ∷ ps) (f ∷ fs) files each =
    let first : put place p.entry (map entry_of files) ≡ map entry_of (put filed_at f files) = ap (λ (e : Entry). put place e (map entry_of files)) each.0.entry ∙ sym (map-put f files) in
    ap (λ (es : List Entry). all_changed es (map set_of ps)) first ∙ entries_are g held ps fs (put filed_at f files) each.1

-- and they may be set
pub all_follow : (g : Granularity) (ps : List FileWrite) (entries : List Entry) → All (λ (p : FileWrite). IsPart g p.entry.part) ps → AllCanFollow g entries (map set_of ps)
all_follow g [] entries parts = tt
all_follow g (p ∷ ps) entries parts =
    (All-head (λ (q : FileWrite). IsPart g q.entry.part) p ps parts, all_follow g ps (changed entries (set_of p)) (All-tail (λ (q : FileWrite). IsPart g q.entry.part) p ps parts))

-- WHAT THE COMMIT LEAVES

-- a commit of the manifest that is to list other files of the same rows, all of them safe
pub record Lists (g : Granularity) (catalogue manifest : JournalState) (old new : DiskShown) (held next : Held) : Type 0 where
  pub stored : IsStored g catalogue manifest old held
  pub same_shelf : shelf_of next ≡ shelf_of held
  pub same_stands : next.stands ≡ held.stands
  pub valid : AreHeld g next
  pub safe : AreSafe next old
  pub passes : Passes (AtOwn (manifest_name held.store) (SaysEither (Folds g) (map entry_of held.files) (map entry_of next.files) (manifest_name held.store))) old.past new.past
  pub elsewhere : (n : Name) → (IsOwn (manifest_name held.store) n → ⊥) → new.files n ≡ old.files n
  pub fewer : (n : Name) → new.opened n ≤ old.opened n

abbrev Step : Granularity → Held → Held → Files → Files → Type 0
Step g held next = AtOwn (manifest_name held.store) (SaysEither (Folds g) (map entry_of held.files) (map entry_of next.files) (manifest_name held.store))

-- the catalogue and a manifest have no file in common
pub other_journal : (store : ℕ) (n : Name) → IsOwn catalogue_name n → IsOwn (manifest_name store) n → ⊥
other_journal store n own too =
    own_apart catalogue_name (manifest_name store) n (inr (0, omega arith, omega arith, λ is. let first : get_or catalogue_name.1 0 0 ≡ get_or (manifest_name store).1 0 0 = is in absurd (omega (arith, first)))) own too

-- a journal named so is in no store
pub journal_out : (store : ℕ) (name : Name) → 1 ≤ store → name.0 ≡ 0 → name.0 ≢ store
journal_out store name numbered zero_store = not_in store name name numbered refl zero_store

in_elsewhere : (g : Granularity) (held next kept : Held) (b c : Files) → 1 ≤ kept.store → Step g held next b c → AreIn kept b → AreIn kept c
in_elsewhere g held next kept b c numbered step =
    own_stay kept (manifest_name held.store) (SaysEither (Folds g) (map entry_of held.files) (map entry_of next.files) (manifest_name held.store)) b c (journal_out kept.store (manifest_name held.store) numbered refl) step

-- within the commit and behind it
pub lists_either : (g : Granularity) (catalogue manifest : JournalState) (first : Past) (old new : DiskShown) (held next : Held) → Lists g catalogue manifest old new held next
    → Passes (HoldsEither g held next) first old.past → Passes (HoldsEither g held next) first new.past
lists_either g catalogue manifest first old new held next commit before = passes_then (HoldsEither g held next) (Step g held next) first old.past new.past before commit.passes (λ a b c was one now two.
    let holds = stored_left g catalogue manifest old held commit.stored b now in
    let rows : Says IsCatalogue held.rows catalogue_name c = says_stays IsCatalogue held.rows catalogue_name b c (λ n own. two.elsewhere n (other_journal held.store n own)) holds.rows in
    elim two.here [
      | inl lists ↦ inl (record {
        rows = rows;
        lists = lists;
        filed = holds.filed;
        files = in_elsewhere g held next held b c commit.stored.tier.valid.filed.numbered two holds.files;
      })
      | inr lists ↦ inr (record {
        rows = subst (λ (s : Shelf). Says IsCatalogue s.1 catalogue_name c) (sym commit.same_shelf) rows;
        lists = subst (λ (s : Shelf). Says (Folds g) (map entry_of next.files) (manifest_name s.0) c) (sym commit.same_shelf) lists;
        filed = commit.valid.filed;
        files = in_elsewhere g held next next b c commit.valid.filed.numbered two (commit.safe.left b now);
      })
    ])

still_there : (g : Granularity) (held next kept : Held) (numbered : 1 ≤ kept.store) (old new : DiskShown) → Passes (Step g held next) old.past new.past → ((n : Name) → (IsOwn (manifest_name held.store) n → ⊥) → new.files n ≡ old.files n) → ((n : Name) → new.opened n ≤ old.opened n)
    → AreSafe kept old → AreSafe kept new
still_there g held next kept numbered old new passes elsewhere fewer safe =
    safe_stays kept (Step g held next) old new safe passes (λ a c step. in_elsewhere g held next kept a c numbered step) (own_long kept (manifest_name held.store) old.files new.files (journal_out kept.store (manifest_name held.store) numbered refl) elsewhere safe.long) fewer

catalogue_still : (g : Granularity) (catalogue manifest : JournalState) (old new : DiskShown) (held next : Held) → Lists g catalogue manifest old new held next → CatalogueStored catalogue new held.rows
catalogue_still g catalogue manifest old new held next commit =
    let other = λ (n : Name) (own : IsOwn catalogue.name n). other_journal held.store n (subst (λ (m : Name). IsOwn m n) commit.stored.rows.named own) in
    catalogue_stays (Step g held next) catalogue old new commit.passes (record { step = λ a c step n own. step.elsewhere n (other n own); same = λ n own. commit.elsewhere n (other n own); fewer = λ n own. commit.fewer n }) held.rows
    commit.stored.rows

pub lists_stored : (g : Granularity) (catalogue manifest listing : JournalState) (old new : DiskShown) (held next : Held) → Lists g catalogue manifest old new held next
    → listing.name ≡ manifest_name held.store → listing.sound ≡ true → IsKept (Configured g) listing new (map entry_of next.files) → IsStored g catalogue listing new next
lists_stored g catalogue manifest listing old new held next commit is sound kept = record {
  rows = subst (λ (s : Shelf). CatalogueStored catalogue new s.1) (sym commit.same_shelf) (catalogue_still g catalogue manifest old new held next commit);
  tier = record { named = is ∙ ap (λ (s : Shelf). manifest_name s.0) (sym commit.same_shelf); sound = sound; kept = kept; valid = commit.valid; safe = still_there g held next next commit.valid.filed.numbered old new commit.passes commit.elsewhere commit.fewer commit.safe };
}

-- nothing was listed, and the manifest lists what it listed
pub lists_unmade : (g : Granularity) (catalogue manifest listing : JournalState) (old new : DiskShown) (held next : Held) → Lists g catalogue manifest old new held next
    → listing.name ≡ manifest_name held.store → listing.sound ≡ true → IsKept (Configured g) listing new (map entry_of held.files) → IsStored g catalogue listing new held
lists_unmade g catalogue manifest listing old new held next commit is sound kept = record {
  rows = catalogue_still g catalogue manifest old new held next commit;
  tier = record {
    named = is;
    sound = sound;
    kept = kept;
    valid = commit.stored.tier.valid;
    safe = still_there g held next held commit.stored.tier.valid.filed.numbered old new commit.passes commit.elsewhere commit.fewer commit.stored.tier.safe;
  };
}

pub lists_in_doubt : (g : Granularity) (catalogue manifest listing : JournalState) (old new : DiskShown) (held next : Held) → Lists g catalogue manifest old new held next
    → listing.name ≡ manifest_name held.store → listing.sound ≡ false → IsUnsure (Configured g) listing new (map entry_of held.files) (map entry_of next.files) → IsInDoubt g catalogue listing new held next
lists_in_doubt g catalogue manifest listing old new held next commit is unsound unsure = record {
  doubt = inr (record {
    rows = catalogue_still g catalogue manifest old new held next commit;
    tier = record {
      named = is;
      unsound = unsound;
      unsure = unsure;
      valid = commit.stored.tier.valid;
      valid_after = commit.valid;
      safe = still_there g held next held commit.stored.tier.valid.filed.numbered old new commit.passes commit.elsewhere commit.fewer commit.stored.tier.safe;
      safe_after = still_there g held next next commit.valid.filed.numbered old new commit.passes commit.elsewhere commit.fewer commit.safe;
    };
    same = commit.same_shelf;
  });
  stand = commit.same_stands;
}

-- no name is opened further: no reader of the journal's files was opened, and none is
pub none_further : (name : Name) (opened after : Name → ℕ) → ((n : Name) → (IsOwn name n → ⊥) → after n ≡ opened n) → ((n : Name) → IsOwn name n → after n ≡ 0) → (n : Name) → after n ≤ opened n
none_further name opened after others own n = elim (cases_lt (opened n) (after n)) [
  | inl more ↦
      let not_own : IsOwn name n → ⊥ = λ is. let none = own n is in omega (arith, none, more) in
      let same = others n not_own in absurd (omega (arith, same, more))
  | inr le ↦ le
]

-- whatever a commit of the manifest answers
pub made_further : (made : ManifestState) (name : Name) (disk : DiskShown) (opened : Name → ℕ) → made.journal.name ≡ name → ((n : Name) → (IsOwn name n → ⊥) → disk.opened n ≡ opened n) → IsManifestKept made disk → (n : Name) → disk.opened n ≤ opened n
made_further made name disk opened is others kept =
    none_further name opened disk.opened others (λ n own. kept_unopened (Configured made.granularity) made.journal disk made.entries kept n (subst (λ (m : Name). IsOwn m n) (sym is) own))

pub unsure_further : (made : ManifestState) (name : Name) (disk : DiskShown) (opened : Name → ℕ) → made.journal.name ≡ name → ((n : Name) → (IsOwn name n → ⊥) → disk.opened n ≡ opened n) → IsManifestUnsure made disk → (n : Name) → disk.opened n ≤ opened n
unsure_further made name disk opened is others unsure =
    none_further name opened disk.opened others (λ n own. unsure_unopened (Configured made.granularity) made.journal disk made.entries made.next unsure n (subst (λ (m : Name). IsOwn m n) (sym is) own))

further : (m made : ManifestState) (after : List Entry) (r : Result (Unit {0}) DiskErr) (old new : DiskShown) → made.journal.name ≡ m.journal.name → CommitsEntries Folds after r m made old new → (n : Name) → new.opened n ≤ old.opened n
further m made after (Ok a) old new name commits = made_further made m.journal.name new old.opened name commits.opened commits.made
further m made after (Err Fault) old new name commits = unsure_further made m.journal.name new old.opened name commits.opened (commits.doubt refl)
further m made after (Err Memory) old new name commits = made_further made m.journal.name new old.opened name commits.opened (commits.unchanged refl)

-- One commit that lists other files.

module _ (catalogue : JournalState) (m made : ManifestState) (shelf : Shelf) (old new : DiskShown) (held next : Held) (changes : List Change) (can : CanRelist catalogue m shelf old held next changes) (r : Result (Unit {0}) DiskErr)
    (commits : CommitsEntries Folds (all_changed m.entries changes) r m made old new) (ends : ManifestEnds m made (all_changed m.entries changes) r) where
  commit : Lists m.granularity catalogue m.journal old new held next
  commit = record {
    stored = can.stored.stored;
    same_shelf = can.same_shelf;
    same_stands = can.same_stands;
    valid = can.valid;
    safe = can.safe;
    passes =
        let named = subst (λ (n : Name). Passes (AtOwn n (journal.SaysEither (Folds m.granularity) m.entries (all_changed m.entries changes) n)) old.past new.past) can.stored.stored.tier.named commits.any_moment in
        let both = subst (λ (es : List Entry). Passes (AtOwn (manifest_name held.store) (journal.SaysEither (Folds m.granularity) m.entries es (manifest_name held.store))) old.past new.past) can.lists named in
        subst (λ (es : List Entry). Passes (AtOwn (manifest_name held.store) (journal.SaysEither (Folds m.granularity) es (map entry_of next.files) (manifest_name held.store))) old.past new.past) can.stored.entries both;
    elsewhere = λ n other. commits.elsewhere n (λ own. other (subst (λ (m : Name). IsOwn m n) can.stored.stored.tier.named own));
    fewer = further m made (all_changed m.entries changes) r old new ends.name commits;
  }

  moment : Passes (HoldsEither m.granularity held next) old.past new.past
  moment = lists_either m.granularity catalogue m.journal old.past old new held next commit (passes_none (HoldsEither m.granularity held next) old.past (λ a left. inl (stored_left m.granularity catalogue m.journal old held can.stored.stored a left)))

  named : made.journal.name ≡ manifest_name held.store
  named = ends.name ∙ can.stored.stored.tier.named

  listed : made.journal.sound ≡ true → made.entries ≡ all_changed m.entries changes → IsManifestKept made new → IsStoredAs catalogue made shelf new next
  listed sound entries kept =
      let now : made.entries ≡ map entry_of next.files = entries ∙ can.lists in
      let k = subst (λ (g : Granularity). journal.IsKept (Configured g) made.journal new made.entries) ends.granularity kept in
      let stored = lists_stored m.granularity catalogue m.journal made.journal old new held next commit named sound (subst (journal.IsKept (Configured m.granularity) made.journal new) now k) in
      record { stored = subst (λ (g : Granularity). IsStored g catalogue made.journal new next) (sym ends.granularity) stored; of_rows = can.same_shelf ∙ can.stored.of_rows; entries = now }

  -- the commit took no effect
  unlisted : made.journal.sound ≡ true → made.entries ≡ m.entries → IsManifestKept made new → IsStoredAs catalogue made shelf new held
  unlisted sound entries kept =
      let now : made.entries ≡ map entry_of held.files = entries ∙ can.stored.entries in
      let k = subst (λ (g : Granularity). journal.IsKept (Configured g) made.journal new made.entries) ends.granularity kept in
      let stored = lists_unmade m.granularity catalogue m.journal made.journal old new held next commit named sound (subst (journal.IsKept (Configured m.granularity) made.journal new) now k) in
      record { stored = subst (λ (g : Granularity). IsStored g catalogue made.journal new held) (sym ends.granularity) stored; of_rows = can.stored.of_rows; entries = now }

  doubted : made.journal.sound ≡ false → made.entries ≡ m.entries → made.next ≡ all_changed m.entries changes → IsManifestUnsure made new → IsDoubtedAs catalogue made shelf new held next
  doubted unsound entries after unsure =
      let now : made.entries ≡ map entry_of held.files = entries ∙ can.stored.entries in
      let then : made.next ≡ map entry_of next.files = after ∙ can.lists in
      let a = subst (λ (g : Granularity). journal.IsUnsure (Configured g) made.journal new made.entries made.next) ends.granularity unsure in
      let b = subst (λ (es : List Entry). journal.IsUnsure (Configured m.granularity) made.journal new es made.next) now a in
      let c = subst (λ (es : List Entry). journal.IsUnsure (Configured m.granularity) made.journal new (map entry_of held.files) es) then b in
      let doubt = lists_in_doubt m.granularity catalogue m.journal made.journal old new held next commit named unsound c in
      record {
        in_doubt = subst (λ (g : Granularity). IsInDoubt g catalogue made.journal new held next) (sym ends.granularity) doubt;
        of_rows = (can.stored.of_rows, can.same_shelf ∙ can.stored.of_rows);
        entries = (now, then);
      }

-- what the manifest in memory is then
pub commit_ends : (m made : ManifestState) (after : List Entry) (r : Result (Unit {0}) DiskErr) → EndsEntries m made after r → ManifestEnds m made after r
commit_ends m made after (Ok a) e = record { granularity = e.granularity; name = e.name; entries = e.entries; sound = e.sound; unchanged = tt; next = tt; memory = λ is. e.sound }
commit_ends m made after (Err Fault) e = record {
  granularity = e.granularity;
  name = e.name;
  entries = tt;
  sound = tt;
  unchanged = (e.doubtful refl).0;
  next = λ unsound. (e.doubtful refl).1;
  memory = λ is. (e.memory is).0;
}
commit_ends m made after (Err Memory) e = record {
  granularity = e.granularity;
  name = e.name;
  entries = tt;
  sound = tt;
  unchanged = (e.memory refl).1;
  next = λ unsound. let still : made.journal.sound ≡ true = (e.memory refl).0 in absurd (cc (still, unsound));
  memory = λ is. (e.memory is).0;
}

-- what it leaves of other names
pub commit_touches : (m made : ManifestState) (after : List Entry) (r : Result (Unit {0}) DiskErr) (old new : DiskShown) → made.journal.name ≡ m.journal.name → CommitsEntries Folds after r m made old new → TouchesOwn m.journal.name old new
commit_touches m made after r old new name commits = record {
  elsewhere = commits.elsewhere;
  frame = passes_weaker (AtOwn m.journal.name (journal.SaysEither (Folds m.granularity) m.entries after m.journal.name)) (AtOwn m.journal.name Anything) old.past new.past commits.any_moment (λ a b was step. record { here = tt; elsewhere = step.elsewhere });
  opened = commits.opened;
  no_more = further m made after r old new name commits;
}

-- and what the store has
pub commit_lists : (catalogue : JournalState) (m made : ManifestState) (shelf : Shelf) (old new : DiskShown) (held next : Held) (changes : List Change) → CanRelist catalogue m shelf old held next changes → (r : Result (Unit {0}) DiskErr) → CommitsEntries Folds (all_changed m.entries changes) r m made old new
    → ManifestEnds m made (all_changed m.entries changes) r → (r ≡ Err Fault → made.journal.sound ≡ false) → Relists catalogue m made shelf r old new held next
commit_lists catalogue m made shelf old new held next changes can (Ok a) commits ends fault = record {
  any_moment = moment catalogue m made shelf old new held next changes can (Ok a) commits ends;
  made = listed catalogue m made shelf old new held next changes can (Ok a) commits ends ends.sound ends.entries commits.made;
  unmade = tt;
  in_doubt = tt;
}
commit_lists catalogue m made shelf old new held next changes can (Err Fault) commits ends fault = record {
  any_moment = moment catalogue m made shelf old new held next changes can (Err Fault) commits ends;
  made = tt;
  unmade = λ sound. let unsound : made.journal.sound ≡ false = fault refl in absurd (cc (sound, unsound));
  in_doubt = λ unsound. doubted catalogue m made shelf old new held next changes can (Err Fault) commits ends unsound ends.unchanged (ends.next unsound) (commits.doubt refl);
}
commit_lists catalogue m made shelf old new held next changes can (Err Memory) commits ends fault = record {
  any_moment = moment catalogue m made shelf old new held next changes can (Err Memory) commits ends;
  made = tt;
  unmade = λ sound. unlisted catalogue m made shelf old new held next changes can (Err Memory) commits ends sound ends.unchanged (commits.unchanged refl);
  in_doubt = λ unsound. let sound : made.journal.sound ≡ true = ends.memory refl in absurd (cc (sound, unsound));
}

-- no commit was made: the call failed before
module _ (e : DiskErr) (r : Result (Unit {0}) DiskErr) (failed : r ≡ Err e) (m : ManifestState) (sound : m.journal.sound ≡ true) where
  pub ends_early : (after : List Entry) → ManifestEnds m m after r
  ends_early after = subst (λ (x : Result (Unit {0}) DiskErr). ManifestEnds m m after x) (sym failed) (record {
    granularity = refl;
    name = refl;
    entries = tt;
    sound = tt;
    unchanged = refl;
    next = λ unsound. absurd (cc (sound, unsound));
    memory = λ is. sound;
  })

  pub lists_nothing : (catalogue : JournalState) (shelf : Shelf) (old new : DiskShown) (held next : Held) → Passes (HoldsEither m.granularity held next) old.past new.past → IsStoredAs catalogue m shelf new held → Relists catalogue m m shelf r old new held next
  lists_nothing catalogue shelf old new held next passes store = subst (λ (x : Result (Unit {0}) DiskErr). Relists catalogue m m shelf x old new held next) (sym failed) (record {
    any_moment = passes;
    made = tt;
    unmade = λ still. store;
    in_doubt = λ unsound. absurd (cc (sound, unsound));
  })

pub touches_nothing : (name : Name) (disk : DiskShown) → TouchesOwn name disk disk
touches_nothing name disk = record {
  elsewhere = λ n other. refl;
  frame = passes_none (AtOwn name Anything) disk.past (λ a left. record { here = tt; elsewhere = λ n other. refl });
  opened = λ n other. refl;
  no_more = λ n. omega arith;
}

-- THE FLUSH

pub then_either : (g : Granularity) (one other : Held) (old mid new : Past) → Passes (HoldsEither g one other) old mid → Passes (HoldsEither g one other) mid new → Passes (HoldsEither g one other) old new
then_either g one other old mid new first second = passes_then (HoldsEither g one other) (HoldsEither g one other) old mid new first second (λ a b c was step left now. now)

-- WHAT STANDS BESIDE IT

pub beside_none : (store : ℕ) (name : Name) (past : Past) → Passes (Beside store name) past past
beside_none store name past = passes_none (Beside store name) past (λ a was n other apart. refl)

-- the files of one store are written
pub beside_files : (store : ℕ) (name : Name) (held : Held) (old new : Past) → held.store ≡ store → Passes (Behind held) old new → Passes (Beside store name) old new
beside_files store name held old new is passes = passes_weaker (Behind held) (Beside store name) old new passes (λ a c was step n other apart. step.elsewhere n (λ same. other (same ∙ is)))

-- and then its manifest is
pub beside_commit : (store : ℕ) (name : Name) (old mid new : Past) → Passes (Beside store name) old mid → Passes (AtOwn name Anything) mid new → Passes (Beside store name) old new
beside_commit store name old mid new first second = passes_then (Beside store name) (AtOwn name Anything) old mid new first second (λ a b c was one now two n other apart. two.elsewhere n apart ∙ one n other apart)

-- A retirement: the parts are dropped, and the rest is as safe as it was.

map-without : (p : Place) (xs : List Filed) → map entry_of (without filed_at p xs) ≡ without place p (map entry_of xs)
map-without p xs =
    map-append entry_of (filter (λ y. comes_before (filed_at y) p) xs) (filter (λ y. comes_before p (filed_at y)) xs)
    ∙ ap (λ (l : List Entry). l ++ map entry_of (filter (λ y. comes_before p (filed_at y)) xs)) (sym (filter-map (λ e. comes_before (place e) p) xs))
    ∙ ap (λ (l : List Entry). filter (λ e. comes_before (place e) p) (map entry_of xs) ++ l) (sym (filter-map (λ e. comes_before p (place e)) xs))

-- the entries of all files, with the parts dropped
pub entries_without : (parts files : List Filed) → all_changed (map entry_of files) (map drop_of parts) ≡ map entry_of (without_all files parts)
entries_without [] files = refl
entries_without (f ∷ fs) files = ap (λ (es : List Entry). all_changed es (map drop_of fs)) (sym (map-without (filed_at f) files)) ∙ entries_without fs (without filed_at (filed_at f) files)

pub all_without_all : (P : Filed → Type 0) (files parts : List Filed) → All P files → All P (without_all files parts)
all_without_all P files [] all = all
all_without_all P files (f ∷ fs) all = all_without_all P (without filed_at (filed_at f) files) fs
    (All-append P (filter (λ y. comes_before (filed_at y) (filed_at f)) files) (filter (λ y. comes_before (filed_at f) (filed_at y)) files)
    (All-filter (λ y. comes_before (filed_at y) (filed_at f)) P files all) (All-filter (λ y. comes_before (filed_at f) (filed_at y)) P files all))

rise_both : (fs gs : List Filed) → PlacesRise fs → PlacesRise gs → All (λ (f : Filed). All (λ (h : Filed). IsTrue (comes_before (filed_at f) (filed_at h))) gs) fs → PlacesRise (fs ++ gs)
rise_both [] gs front back before = back
rise_both (f ∷ fs) gs front back before = (
  All-append (λ (h : Filed). IsTrue (comes_before (filed_at f) (filed_at h))) fs gs front.0 (before 0 f (omega arith)),
  rise_both fs gs front.1 back (λ k d lt. before (suc k) d (omega (arith, lt))),
)

rise_without : (p : Place) (xs : List Filed) → PlacesRise xs → PlacesRise (without filed_at p xs)
rise_without p xs rise =
    let front : Filed → Bool = λ y. comes_before (filed_at y) p in
    let back : Filed → Bool = λ y. comes_before p (filed_at y) in
    rise_both (filter front xs) (filter back xs) (rise_filter front xs rise) (rise_filter back xs rise)
    (λ k d lt j e low.
    let a = filter_passes front xs k d lt in
    let b = filter_passes back xs j e low in
    grind (arith, nat_tests, a, b))

pub rise_without_all : (files parts : List Filed) → PlacesRise files → PlacesRise (without_all files parts)
rise_without_all files [] rise = rise
rise_without_all files (f ∷ fs) rise = rise_without_all (without filed_at (filed_at f) files) fs (rise_without (filed_at f) files rise)

-- and what a move has copied may be listed
pub can_publish : (catalogue : JournalState) (m : ManifestState) (rows : Shelf) (disk : DiskShown) (held ahead : Held) (changes : List Change) → HasCopied catalogue m rows disk held ahead → all_changed m.entries changes ≡ map entry_of ahead.files
    → CanRelist catalogue m rows disk held ahead changes
can_publish catalogue m rows disk held ahead changes has lists = record {
  stored = has.stored;
  same_shelf = has.leads.same_shelf;
  same_stands = has.leads.same_stands;
  valid = has.safe.valid;
  safe = has.safe.safe;
  lists = lists;
}
