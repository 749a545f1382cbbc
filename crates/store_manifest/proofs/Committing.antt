-- A commit of changes, a checkpoint before it, and what a load finds.
use Rattle.std.proofs.Common.{◌≡◌, ◌≢◌, ◌⊎◌, inl, inr, ℕ, ◌+◌, ◌<◌, ◌≤◌, ◌==◌, Bool, true, false, IsTrue, cond, List, [], ◌∷◌, ◌++◌, length, All, Result, Err, OnOk, OnErr, IsErrOf, refl, sym, ◌∙◌, ap, subst, arith}
use Rattle.std.proofs.lemmas.Bool.{cases_lt}
use Rattle.std.proofs.lemmas.Result.{on_err_weaker, IfErr-at_err}
use Rattle.disk_model.specs.Files.{Name, Files}
use Rattle.disk_model.specs.Past.{Past, Passes, MayLeave}
use Rattle.disk_model.specs.declared.disk.DiskErr.{DiskErr}
use Rattle.disk_model.specs.declared.disk.DiskErr.TheVariants.{Fault, Memory}
use Rattle.disk_model.proofs.Passing.{passes_then, passes_weaker}
use Rattle.gate_journal.specs.Commits.{CommitsBatches}
use Rattle.gate_journal.specs.Generations.{IsOwn, HasBatchesOf, AtOwn, HasOneOf, KeepsBatches}
use Rattle.gate_journal.specs.Journal.{JournalState, IsSettledWith, is_of_commit}
use Rattle.gate_journal.specs.Kept as of_batches
use Rattle.gate_journal.specs.Load as load
use Rattle.gate_journal.specs.Kept.{Says, SaysEither, CommitsValue}
use Rattle.gate_journal.specs.DiskShown.{DiskShown}
use Rattle.gate_journal.proofs.Keeping.{commits_mean, change_says, nothing_said, one_value}
use Rattle.gate_journal.proofs.Results.{on_ok_always, on_err_always}
use Rattle.gate_journal.proofs.Holding.{holds_left}
use Rattle.partition_names.specs.declared.granularity.Granularity.{Granularity}
use Rattle.store_manifest.specs.declared.entry.Entry.{Entry}
use Rattle.store_manifest.specs.declared.entry.Change.{Change}
use Rattle.store_manifest.specs.Batches.{config, batch_of, whole, Configured, Folds, IsBadBatch}
use Rattle.store_manifest.specs.Entries.{all_changed, AllCanFollow}
use Rattle.store_manifest.specs.declared.folding.Folded.{Folded}
use Rattle.store_manifest.specs.declared.folding.Folded.TheVariants.{Nothing, Good, Bad}
use Rattle.store_manifest.specs.declared.lists.SeriesLists.{SeriesLists}
use Rattle.store_manifest.specs.Folded.{IsFolded}
use Rattle.store_manifest.specs.Listing.{entries_of, AreLists}
use Rattle.store_manifest.specs.Manifest.{LeavesLoaded, Lists, ManifestState, CommitsEntries, IsKept, StaysOrBegins, IsLong, limit_of}
use Rattle.store_manifest.specs.Numbers.{HasSizes}
use Rattle.store_manifest.proofs.Meaning.{some_bytes, written_batch, begun_empty, configured_more, configured_folds, one_fold, one_granularity}
use Rattle.store_manifest.proofs.Order.{folds_entries, folds_sized}
use Rattle.store_manifest.proofs.WholeBatch.{whole_lists}

long : (l : List ℕ) → l ≢ [] → 1 ≤ length l
long [] some = absurd (some refl)
long (x ∷ l) some = omega arith

pub written_long : (cs : List Change) (batch : List ℕ) → batch ≡ batch_of cs → cs ≢ [] → 1 ≤ length batch
written_long cs batch is some = long batch (λ none. some_bytes cs some (sym is ∙ none))

pub some_from_test : (cs : List Change) → (length cs == 0) ≡ false → cs ≢ []
some_from_test [] test = let wrong : true ≡ false = test in absurd (cc wrong)
some_from_test (c ∷ cs) test = λ none. let wrong : c ∷ cs ≡ [] = none in cc wrong

pub folds_says : (g : Granularity) (es : List Entry) (name : Name) (image : Files) → Says (Configured g) es name image → Says (Folds g) es name image
folds_says g es name image says = record { batches = says.batches; has = says.has; means = configured_folds g says.batches es says.means }

either_folds : (g : Granularity) (one other : List Entry) (name : Name) (old new : Files) → SaysEither (Configured g) one other name old new → SaysEither (Folds g) one other name old new
either_folds g one other name old new (inl says) = inl (folds_says g one name new says)
either_folds g one other name old new (inr says) = inr (folds_says g other name new says)

-- THE BATCH OF CHANGES

module _ (g : Granularity) (bs : List (List ℕ)) (entries : List Entry) (changes : List Change) (batch : List ℕ) (is : batch ≡ batch_of changes) (some : changes ≢ []) (sizes : All HasSizes changes) (follow : AllCanFollow g entries changes)
    (means : Configured g bs entries) where
  pub commit_means : Configured g (bs ++ batch ∷ []) (all_changed entries changes)
  commit_means = configured_more g bs entries (all_changed entries changes) batch means (written_batch g entries changes batch is some sizes follow)

  pub add_commits : (journal now : JournalState) (listed later next : List Entry) (result : Result (Unit {0}) DiskErr) (old new : DiskShown) → next ≡ all_changed entries changes → is_of_commit now.pending ≡ true → OnOk result (listed ≡ next)
      → OnErr result ((listed ≡ entries) × (later ≡ next)) → CommitsBatches bs (bs ++ batch ∷ []) result journal now old new
      → CommitsValue (Configured g) entries next listed later (OnOk result) (IsErrOf result Fault) (IsErrOf result Memory) journal now old new
  add_commits journal now listed later next result old new is_next of_commit done failed commits =
      let Lists : List Entry → Type 0 = λ l. Configured g (bs ++ batch ∷ []) l in
      let OfCommit : Bool → Type 0 = λ b. Configured g (bs ++ batch ∷ []) (cond b later listed) in
      let after = subst Lists (sym is_next) commit_means in
      commits_mean (Configured g) entries next listed later journal now bs (bs ++ batch ∷ []) result old new means after done (on_err_weaker result (λ still. still.0) failed)
      (λ fault. subst OfCommit (sym of_commit) (subst Lists (sym (IfErr-at_err (λ (e : DiskErr). (listed ≡ entries) × (later ≡ next)) fault failed).1) after)) commits

-- A CHECKPOINT

pub whole_means : (g : Granularity) (bs : List (List ℕ)) (entries : List Entry) (batch : List ℕ) → batch ≡ whole g entries → Configured g bs entries → Configured g (batch ∷ []) entries
whole_means g bs entries batch is means =
    let folds = configured_folds g bs entries means in
    let P : List ℕ → Type 0 = λ b. Configured g (b ∷ []) entries in subst P (sym is) (whole_lists g entries (folds_entries g bs entries folds) (folds_sized g bs entries folds))

pub whole_commits : (g : Granularity) (bs : List (List ℕ)) (entries next : List Entry) (batch : List ℕ) → batch ≡ whole g entries → Configured g bs entries → (journal now : JournalState) (result : Result (Unit {0}) DiskErr) (old new : DiskShown)
    → (IsErrOf result Fault → is_of_commit now.pending ≡ false) → CommitsBatches bs (batch ∷ []) result journal now old new
    → CommitsValue (Configured g) entries entries entries next (OnOk result) (IsErrOf result Fault) (IsErrOf result Memory) journal now old new
whole_commits g bs entries next batch is means journal now result old new of_checkpoint commits =
    let OfCommit : Bool → Type 0 = λ b. Configured g (batch ∷ []) (cond b next entries) in
    let after = whole_means g bs entries batch is means in
    commits_mean (Configured g) entries entries entries next journal now bs (batch ∷ []) result old new means after (on_ok_always result refl) (on_err_always result refl) (λ fault. subst OfCommit (sym (of_checkpoint fault)) after) commits

-- THE WHOLE OF A COMMIT

module _ (g : Granularity) (journal : JournalState) (entries : List Entry) (now : ManifestState) (next : List Entry) (result : Result (Unit {0}) DiskErr) where
  abbrev was : ManifestState
  was = record { journal = journal; granularity = g; entries = entries; next = entries }

  -- the disk was left alone
  pub nothing_configured : (at : DiskShown) → of_batches.IsKept (Configured g) journal at entries → IsKept now at → (IsErrOf result Fault → ⊥) → CommitsEntries Configured next result was now at at
  nothing_configured at kept still no_fault = record {
    made = on_ok_always result still;
    doubt = λ fault. absurd (no_fault fault);
    unchanged = λ memory. still;
    any_moment = nothing_said (Configured g) entries next journal at kept;
    elsewhere = λ n other. refl;
    opened = λ n other. refl;
  }

  pub commits_folds : (old new : DiskShown) → CommitsEntries Configured next result was now old new → CommitsEntries Folds next result was now old new
  commits_folds old new commits = record {
    made = commits.made;
    doubt = commits.doubt;
    unchanged = commits.unchanged;
    any_moment =
        passes_weaker (AtOwn journal.name (SaysEither (Configured g) entries next journal.name)) (AtOwn journal.name (SaysEither (Folds g) entries next journal.name)) old.past new.past commits.any_moment
        (λ a c left step. record { here = either_folds g entries next journal.name a c step.here; elsewhere = step.elsewhere });
    elsewhere = commits.elsewhere;
    opened = commits.opened;
  }

-- entries that go over to themselves are among any others
once : (g : Granularity) (entries next : List Entry) (name : Name) (old new : Files) → SaysEither (Configured g) entries entries name old new → SaysEither (Configured g) entries next name old new
once g entries next name old new (inl says) = inl says
once g entries next name old new (inr says) = inl says

module _ (was : ManifestState) (next later : List Entry) (short : ManifestState) (old mid : DiskShown) (failed : Result (Unit {0}) DiskErr)
    (first : CommitsEntries Configured was.entries failed (record { journal = was.journal; granularity = was.granularity; entries = was.entries; next = later }) short old mid) where
  short_moment : Passes (AtOwn was.journal.name (SaysEither (Configured was.granularity) was.entries next was.journal.name)) old.past mid.past
  short_moment =
      passes_weaker (AtOwn was.journal.name (SaysEither (Configured was.granularity) was.entries was.entries was.journal.name)) (AtOwn was.journal.name (SaysEither (Configured was.granularity) was.entries next was.journal.name)) old.past mid.past
      first.any_moment (λ a c left step. record { here = once was.granularity was.entries next was.journal.name a c step.here; elsewhere = step.elsewhere })

  -- the journal could not begin anew
  pub short_commits : (result : Result (Unit {0}) DiskErr) (e : DiskErr) → result ≡ Err e → failed ≡ Err e → CommitsEntries Configured next result was short old mid
  short_commits result e is was_failed = rw is (record {
    made = tt;
    doubt = λ fault. first.doubt (was_failed ∙ fault);
    unchanged = λ memory. first.unchanged (was_failed ∙ memory);
    any_moment = short_moment;
    elsewhere = first.elsewhere;
    opened = first.opened;
  })

  -- and then the changes are added
  pub both_commits : (result : Result (Unit {0}) DiskErr) (now : ManifestState) (new : DiskShown) → short.granularity ≡ was.granularity → short.journal.name ≡ was.journal.name → short.entries ≡ was.entries → short.next ≡ next
      → CommitsEntries Configured short.next result short now mid new → CommitsEntries Configured next result was now old new
  both_commits result now new same_g same_name same_entries same_next second = record {
    made = second.made;
    doubt = second.doubt;
    unchanged = λ memory. second.unchanged memory;
    any_moment =
        let P : Granularity → Type 0 = λ k. Passes (AtOwn short.journal.name (SaysEither (Configured k) short.entries short.next short.journal.name)) mid.past new.past in
        let Q : Name → Type 0 = λ n. Passes (AtOwn n (SaysEither (Configured was.granularity) short.entries short.next n)) mid.past new.past in
        let R : List Entry → Type 0 = λ l. Passes (AtOwn was.journal.name (SaysEither (Configured was.granularity) l short.next was.journal.name)) mid.past new.past in
        let S : List Entry → Type 0 = λ l. Passes (AtOwn was.journal.name (SaysEither (Configured was.granularity) was.entries l was.journal.name)) mid.past new.past in
        let E : Files → Files → Type 0 = AtOwn was.journal.name (SaysEither (Configured was.granularity) was.entries next was.journal.name) in
        passes_then E E old.past mid.past new.past short_moment (subst S same_next (subst R same_entries (subst Q same_name (subst P same_g second.any_moment))))
        (λ a b c left before now_left step. record { here = step.here; elsewhere = λ n other. step.elsewhere n other ∙ before.elsewhere n other });
    elsewhere = λ n other. second.elsewhere n (λ own. other (subst (λ (m : Name). IsOwn m n) same_name own)) ∙ first.elsewhere n other;
    opened = λ n other. second.opened n (λ own. other (subst (λ (m : Name). IsOwn m n) same_name own)) ∙ first.opened n other;
  }

-- A REVIEW

pub sure_means : (g : Granularity) (of_commit : Bool) (after : List (List ℕ)) (entries next : List Entry) → of_commit ≡ false → Configured g after (cond of_commit next entries) → Configured g after entries
sure_means g of_commit after entries next is means = let P : Bool → Type 0 = λ b. Configured g after (cond b next entries) in subst P is means

pub review_moment : (g : Granularity) (of_commit : Bool) (before after : List (List ℕ)) (entries next : List Entry) (name : Name) (old new : Past) → Configured g before entries → Configured g after (cond of_commit next entries)
    → Passes (AtOwn name (HasOneOf name before after)) old new → Passes (AtOwn name (SaysEither (Configured g) entries next name)) old new
review_moment g true before after entries next name old new means means_after passes = change_says (Configured g) before after entries next name old new means means_after passes
review_moment g false before after entries next name old new means means_after passes =
    passes_weaker (AtOwn name (HasOneOf name before after)) (AtOwn name (SaysEither (Configured g) entries next name)) old new passes (λ a c was step. record {
      here = elim step.here [
        | inl has ↦ inl (record { batches = before; has = has; means = means })
        | inr has ↦ inl (record { batches = after; has = has; means = means_after })
      ];
      elsewhere = step.elsewhere;
    })

-- a review that makes no changes in memory: the batches list the entries from before
pub review_kept : (g : Granularity) (of_commit made : Bool) (journal : JournalState) (disk : DiskShown) (before after : List (List ℕ)) (entries next : List Entry) → Configured g before entries → Configured g after (cond of_commit next entries)
    → (IsTrue made → IsSettledWith journal disk after) → (made ≡ false → IsSettledWith journal disk before) → ((made ≡ true) × (of_commit ≡ false)) ⊎ (made ≡ false) → of_batches.IsKept (Configured g) journal disk entries
review_kept g of_commit made journal disk before after entries next means means_after taken left which = elim which [
  | inl both ↦ record { batches = after; settled = taken both.0; means = sure_means g of_commit after entries next both.1 means_after }
  | inr unmade ↦ record { batches = before; settled = left unmade; means = means }
]

-- where the closed gate stands, so that it stays below the limit
pub stays_short : (place last size batch : ℕ) → size ≤ 1073741824 → (IsLong (place + 1) size → last ≡ (size + 5) + (5 + batch)) → ((IsLong (place + 1) size → ⊥) → last ≡ place + (5 + batch)) → last + 1 < limit_of size + batch + 5
stays_short place last size batch small begun grown = elim (cases_lt (place + 1) (limit_of size)) [
  | inl below ↦ let is = grown (λ long. let limit = long.0 in omega (arith, below, limit)) in omega (arith, is, below)
  | inr above ↦ let is = begun (above, small) in omega (arith, is)
]

-- A LOAD

pub one_listing : (g h : Granularity) (name : Name) (image : Files) (x y : List Entry) → Says (Folds g) x name image → Says (Folds h) y name image → x ≡ y
one_listing g h name image x y one two =
    let Means : List (List ℕ) → List Entry → Type 0 = λ bs xs. (k : Granularity) × Folds k bs xs in
    one_value Means (λ bs a b m n. one_fold m.0 n.0 bs a b m.1 n.1) name image x y (record { batches = one.batches; has = one.has; means = (g, one.means) }) (record { batches = two.batches; has = two.has; means = (h, two.means) })

pub same_granularity : (g h : Granularity) (name : Name) (image : Files) (x y : List Entry) → Says (Configured g) x name image → Says (Configured h) y name image → g ≡ h
same_granularity g h name image x y one two =
    let Means : List (List ℕ) → Granularity → Type 0 = λ bs k. (xs : List Entry) × Configured k bs xs in
    one_value Means (λ bs k l m n. one_granularity k l bs m.0 n.0 m.1 n.1) name image g h (record { batches = one.batches; has = one.has; means = (x, one.means) }) (record { batches = two.batches; has = two.has; means = (y, two.means) })

-- what is said of a name that the journal was loaded by
load_opened : (name own : Name) → own ≡ name → (first mid last : Name → ℕ) → last ≡ mid → ((n : Name) → (IsOwn own n → ⊥) → mid n ≡ first n) → (n : Name) → (IsOwn name n → ⊥) → last n ≡ first n
load_opened name own is first mid last same opened n other = ap (λ (f : Name → ℕ). f n) same ∙ opened n (λ files. other (let P : Name → Type 0 = λ m. IsOwn m n in subst P is files))

load_unopened : (name own : Name) → own ≡ name → (mid last : Name → ℕ) → last ≡ mid → ((n : Name) → IsOwn own n → mid n ≡ 0) → (n : Name) → IsOwn name n → last n ≡ 0
load_unopened name own is mid last same unopened n files = ap (λ (f : Name → ℕ). f n) same ∙ unopened n (let P : Name → Type 0 = λ m. IsOwn m n in subst P (sym is) files)

pub load_means : (g k h : Granularity) (bs : List (List ℕ)) (es entries : List Entry) → k ≡ g → h ≡ g → entries ≡ es → Configured k bs es → Configured h bs entries
load_means g k h bs es entries same_k same_h same means =
    let P : Granularity → Type 0 = λ z. Configured z bs es in
    let Q : List Entry → Type 0 = λ l. Configured h bs l in subst Q (sym same) (subst P (same_k ∙ sym same_h) means)

pub load_kept : (m : ManifestState) (g k : Granularity) (journal : JournalState) (disk : DiskShown) (bs : List (List ℕ)) (es : List Entry) → m.journal ≡ journal → m.granularity ≡ g → k ≡ g → m.entries ≡ es
    → IsSettledWith journal disk bs → Configured k bs es → of_batches.IsKept (Configured m.granularity) m.journal disk m.entries
load_kept m g k journal disk bs es same_journal same_m same_k same settled means =
    let P : JournalState → Type 0 = λ j. IsSettledWith j disk bs in record { batches = bs; settled = subst P (sym same_journal) settled; means = load_means g k m.granularity bs es m.entries same_k same_m same means }

module _ (g : Granularity) (name own : Name) (is : own ≡ name) where
  pub load_reads : (files later : Files) → AtOwn own (KeepsBatches own) files later → AtOwn name (StaysOrBegins g name) files later
  load_reads files later step =
      let P : Name → Type 0 = λ n. AtOwn n (KeepsBatches n) files later in
      let here : AtOwn name (KeepsBatches name) files later = subst P is step in record { here = inl here.here; elsewhere = here.elsewhere }

  pub load_moment : (old new : Past) → Passes (AtOwn own (KeepsBatches own)) old new → Passes (AtOwn name (StaysOrBegins g name)) old new
  load_moment old new passes = passes_weaker (AtOwn own (KeepsBatches own)) (AtOwn name (StaysOrBegins g name)) old new passes (λ a c was step. load_reads a c step)

  pub load_leaves : (old new : DiskShown) → load.LeavesLoaded own old new → LeavesLoaded g name old new
  load_leaves old new leaves = record {
    reads = load_reads old.files new.files leaves.kept;
    any_moment = load_moment old.past new.past leaves.any_moment;
    opened = load_opened name own is old.opened new.opened new.opened refl leaves.opened;
    unopened = load_unopened name own is new.opened new.opened refl leaves.unopened;
  }

  was_empty : (a b : Files) → HasBatchesOf name b [] → StaysOrBegins g name a b → HasBatchesOf name a []
  was_empty a b empty (inl keeps) = (keeps.batches []).1 empty
  was_empty a b empty (inr begun) = begun.0

  -- a journal without batches, in which the granularity is then said
  said_or_not : (image : Files) → HasOneOf name [] (config g ∷ []) image image → Lists g [] name image
  said_or_not image (inl has) = record { batches = []; has = has; means = refl }
  said_or_not image (inr has) = record { batches = config g ∷ []; has = has; means = ([], begun_empty g (config g) refl, refl) }

  module _ (journal : JournalState) (named : journal.name ≡ own) (disk : DiskShown) (bs : List (List ℕ)) (none : bs ≡ []) (settled : IsSettledWith journal disk bs) where
    both : journal.name ≡ name
    both = named ∙ is

    first_moment : (old new : Past) → Passes (AtOwn own (KeepsBatches own)) old disk.past → Passes (AtOwn journal.name (HasOneOf journal.name [] (config g ∷ []))) disk.past new → Passes (AtOwn name (StaysOrBegins g name)) old new
    first_moment old new loads commits =
        let Q : Name → Type 0 = λ n. Passes (AtOwn n (HasOneOf n [] (config g ∷ []))) disk.past new in
        passes_then (AtOwn name (StaysOrBegins g name)) (AtOwn name (HasOneOf name [] (config g ∷ []))) old disk.past new (load_moment old disk.past loads) (subst Q both commits) (λ a b c was before now step.
        let R : Name → Type 0 = λ n. HasBatchesOf n b bs in
        let S : List (List ℕ) → Type 0 = λ l. HasBatchesOf name b l in
        let empty : HasBatchesOf name b [] = subst S none (subst R both (holds_left journal disk bs settled b now)) in
        record {
          here = inr (was_empty a b empty before.here, said_or_not c step.here);
          elsewhere = λ n other. step.elsewhere n other ∙ before.elsewhere n other;
        })

    first_reads : (seen later : Files) (new : Past) → AtOwn own (KeepsBatches own) seen disk.files → HasBatchesOf own seen bs → Passes (AtOwn journal.name (HasOneOf journal.name [] (config g ∷ []))) disk.past new → MayLeave new later
        → ((n : Name) → (IsOwn journal.name n → ⊥) → later n ≡ disk.files n) → AtOwn name (StaysOrBegins g name) seen later
    first_reads seen later new loads has commits left elsewhere =
        let Q : Name → Type 0 = λ n. Passes (AtOwn n (HasOneOf n [] (config g ∷ []))) disk.past new in
        let passes : Passes (AtOwn name (HasOneOf name [] (config g ∷ []))) disk.past new = subst Q both commits in
        let come = passes.each new.now later passes.later (omega arith) left in
        let R : Name → Type 0 = λ n. HasBatchesOf n seen bs in
        let S : List (List ℕ) → Type 0 = λ l. HasBatchesOf name seen l in
        let P : Name → Type 0 = λ n. AtOwn n (KeepsBatches n) seen disk.files in
        let kept : AtOwn name (KeepsBatches name) seen disk.files = subst P is loads in
        let T : Name → Type 0 = λ n. (m : Name) → (IsOwn n m → ⊥) → later m ≡ disk.files m in
        let others : (m : Name) → (IsOwn name m → ⊥) → later m ≡ disk.files m = subst T both elsewhere in
        record {
          here = inr (subst S none (subst R is has), said_or_not later come.2.here);
          elsewhere = λ n other. others n other ∙ kept.elsewhere n other;
        }

    pub begun_leaves : (old new : DiskShown) → load.LeavesLoaded own old disk → HasBatchesOf own old.files bs → Passes (AtOwn journal.name (HasOneOf journal.name [] (config g ∷ []))) disk.past new.past → MayLeave new.past new.files
        → ((n : Name) → (IsOwn journal.name n → ⊥) → new.files n ≡ disk.files n) → new.opened ≡ disk.opened → LeavesLoaded g name old new
    begun_leaves old new leaves has commits left elsewhere opened = record {
      reads = first_reads old.files new.files new.past leaves.kept has commits left elsewhere;
      any_moment = first_moment old.past new.past leaves.any_moment commits;
      opened = load_opened name own is old.opened disk.opened new.opened opened leaves.opened;
      unopened = load_unopened name own is disk.opened new.opened opened leaves.unopened;
    }

-- WHAT WAS FOLDED

pub nothing_folded : (bs : List (List ℕ)) (f : Folded) → f ≡ Nothing → IsFolded bs f → bs ≡ []
nothing_folded bs f is folded = let P : Folded → Type 0 = λ x. IsFolded bs x in subst P is folded

pub good_folded : (bs : List (List ℕ)) (f : Folded) (g : Granularity) (lists : SeriesLists) → f ≡ Good g lists → IsFolded bs f → AreLists lists.listed.entries × Configured g bs (entries_of lists.listed.entries)
good_folded bs f g lists is folded = let P : Folded → Type 0 = λ x. IsFolded bs x in subst P is folded

pub bad_folded : (bs : List (List ℕ)) (f : Folded) (n : ℕ) → f ≡ Bad n → IsFolded bs f → IsBadBatch bs n
bad_folded bs f n is folded = let P : Folded → Type 0 = λ x. IsFolded bs x in subst P is folded
