-- What a disk has that is opened: what one journal says and where it is bad, what all four hold through loads and reads, and what the stores have.
use Rattle.std.proofs.Common.{◌≡◌, ◌≢◌, ◌+◌, inl, inr, ℕ, List, [], get_or, refl, sym, ◌∙◌, ap, subst, arith, Some, ◌⊎◌, zero, suc, ◌∷◌, length, ◌++◌, take, None, length-append, add-one, Option, ◌<◌, ◌≤◌, map, Bool, true, false}
use Rattle.disk_model.specs.Files.{Name, Files, Content}
use Rattle.disk_model.specs.Past.{Past, Passes, MayLeave}
use Rattle.gate_journal.specs.Kept.{Says, StillSays, IsKept as IsJournalKept}
use Rattle.partition_names.specs.declared.granularity.Granularity.{Granularity}
use Rattle.store_manifest.specs.Manifest.{manifest_name, StaysOrBegins, ManifestState, IsKept, LeavesLoaded as LeavesManifest}
use Rattle.pv_catalog.specs.Catalogue.{CatalogueState, catalogue_name, IsStored}
use Rattle.pv_catalog.specs.Rows.{IsCatalogue, AreRows}
use Rattle.std.specs.Prelude.{slice_get, unwrap_or, All, IsTrue}
use Rattle.gate_journal.specs.Generations.{IsOwn, AtOwn, KeepsBatches, at_name, generation_batches, generation_name, HasBatchesOf, IsBadOf}
use Rattle.gate_journal.proofs.Keeping.{keeps_says, kept_stays, one_value}
use Rattle.gate_journal.proofs.Owning.{says_of, own_store}
use Rattle.store_manifest.specs.declared.entry.Entry.{Entry}
use Rattle.store_manifest.specs.Batches.{Folds, Configured}
use Rattle.store_manifest.proofs.Committing.{one_listing}
use Rattle.pv_catalog.specs.declared.row.Row.{Row}
use Rattle.durable_write.proofs.Commits.{other_journal}
use Rattle.store_reopen.specs.OneJournal.{NoneOpened, IsGate, IsBadFile}
use Rattle.std.proofs.lemmas.Option.{same_Some, none-some, slice_get_cases, slice_get_within}
use Rattle.gate_journal.specs.Batches.{HasBatches, IsBadJournal, IsShort, open_gates, framed_bytes}
use Rattle.disk_model.proofs.Passing.{passes_weaker, passes_then}
use Rattle.store_reopen.specs.Loading.{Catalogue, Manifest, granularity_at, StillSay, KeepsSaid, WhichJournal, Value, Means, KeepsJournal, name_of}
use Rattle.gate_journal.specs.Journal.{JournalState, IsSettledWith}
use Rattle.pv_catalog.proofs.Meaning.{one_meaning}
use Rattle.std.specs.Int.{to_le_bytes, w32}
use Rattle.gate_journal.proofs.Holding.{settled_seen}
use Rattle.gate_journal.proofs.OneReading.{one_list}
use Rattle.gate_journal.proofs.Telling.{none_told, one_generation_told}
use Rattle.store_manifest.specs.Batches as manifest
use Rattle.pv_catalog.specs.Rows as catalogue
use Rattle.std.proofs.lemmas.Bool.{cases_eq, false≢true}
use Rattle.partition_names.specs.declared.granularity.Granularity.TheVariants.{Hour}
use Rattle.durable_write.proofs.Staying.{manifests_differ}
use Rattle.std.specs.List.{AllByRecursion}
use Rattle.std.proofs.lemmas.List.Elements.{All-from_recursion, All-map, All-head, All-tail, All-nil, All-cons}
use Rattle.pv_name.specs.Key.{key_of}
use Rattle.disk_model.specs.declared.disk.Disk.{Ghosts}
use Rattle.partition_names.specs.Part.{IsPart}
use Rattle.etl_rules.specs.Config.{ConfigState}
use Rattle.store_files.specs.Fronts.{Begins}
use Rattle.store_manifest.specs.Entries.{InOrder, place, comes_before}
use Rattle.durable_write.specs.Held.{Shelf, Filed, Held, IsListed, AreFiled, AreIn, entry_of, file_of, shelf_of, bytes_of, filed_at}
use Rattle.durable_write.specs.Flush.{PlacesRise}
use Rattle.durable_write.specs.Stored.{KeysDiffer, AreHeld, TierStored}
use Rattle.tier_store.specs.Stores.{Stores, list_at, tier}
use Rattle.tier_store.specs.Seen.{Seen, AtEach, granularities, on_disk}
use Rattle.tier_store.specs.Stored.{HoldsAll}
use Rattle.tier_store.specs.Change.{IsKnown, Has, IsEither}
use Rattle.tier_store.proofs.Places.{within_three, granularity_at as granularity_of}
use Rattle.store_reopen.specs.Verdict.{AreSaid, IsThere, Listings, HasRow}
use Rattle.store_reopen.specs.Reopen.{AreLoaded, IsReady, IsUnopened, OpensEither, HoldsEither, AllIn, StillHolds, Reopens, loaded, stores_of, lists_of, entries_in, SameStores}
use Rattle.gate_journal.specs.Kept as in_journal
use Rattle.gate_journal.specs.Load.{LeavesLoaded}
use Rattle.gate_journal.specs.DiskShown.{DiskShown, shown_by}

-- One journal: what it says goes on through loads and reads, and where it is bad.

pub one_list_of_rows : (image : Files) (a b : List Row) → Says IsCatalogue a catalogue_name image → Says IsCatalogue b catalogue_name image → a ≡ b
one_list_of_rows image a b one two = one_value IsCatalogue (one_meaning []) catalogue_name image a b one two

-- JOURNALS HAVE NO FILE IN COMMON

pub journals_differ : (store : ℕ) → catalogue_name ≢ manifest_name store
journals_differ store is = let first : get_or catalogue_name.1 0 0 ≡ get_or (manifest_name store).1 0 0 = ap (λ (n : Name). get_or n.1 0 0) is in absurd (omega (arith, first))

-- ONE CALL AFTER ANOTHER

-- what is kept of a journal stays while calls only read
pub kept_reads : {A : Type 0} (Means : List (List ℕ) → A → Type 0) (journal : JournalState) (old new : DiskShown) (value : A) → IsJournalKept Means journal old value → new.files ≡ old.files → Passes (λ a b. b ≡ a) old.past new.past → new.opened ≡ old.opened
    → IsJournalKept Means journal new value
kept_reads {A} Means journal old new value kept same passes opened_same =
    kept_stays Means journal old new (λ a b. b ≡ a) passes (λ a c is n own. ap (λ (f : Files). f n) is) (λ n own. ap (λ (f : Files). f n) same)
    (λ n own. let fewer : new.opened n ≡ old.opened n = ap (λ (o : Name → ℕ). o n) opened_same in omega (arith, fewer)) value kept

-- the catalogue stays while a manifest is loaded
pub catalogue_stays : (store : ℕ) (R : Files → Files → Type 0) (journal : JournalState) (old new : DiskShown) (rows : List Row) → journal.name ≡ catalogue_name → IsJournalKept IsCatalogue journal old rows
    → ((n : Name) → (IsOwn (manifest_name store) n → ⊥) → new.files n ≡ old.files n) → Passes (AtOwn (manifest_name store) R) old.past new.past → ((n : Name) → (IsOwn (manifest_name store) n → ⊥) → new.opened n ≡ old.opened n) → IsJournalKept IsCatalogue journal new rows
catalogue_stays store R journal old new rows named kept others passes others_opened =
    kept_stays IsCatalogue journal old new (AtOwn (manifest_name store) R) passes (λ a c step n own. step.elsewhere n (apart n own)) (λ n own. others n (apart n own))
    (λ n own. let fewer = others_opened n (apart n own) in omega (arith, fewer)) rows kept
  where
    apart : (n : Name) → IsOwn journal.name n → IsOwn (manifest_name store) n → ⊥
    apart n own too = other_journal store n (subst (λ (m : Name). IsOwn m n) named own) too

-- A MANIFEST

-- it says what it said, also where it had no batch and lists nothing still
pub begins_says : (g : Granularity) (name : Name) (old new : Files) → StaysOrBegins g name old new → StillSays (Folds g) name old new
begins_says g name old new (inl keeps) = keeps_says (Folds g) name old new keeps
begins_says g name old new (inr begun) = λ entries. (onward entries, backward entries)
  where
    nothing : Says (Folds g) [] name old
    nothing = record { batches = []; has = begun.0; means = refl }

    onward : (entries : List Entry) → Says (Folds g) entries name old → Says (Folds g) entries name new
    onward entries says = subst (λ (es : List Entry). Says (Folds g) es name new) (sym (one_listing g g name old entries [] says nothing)) begun.1

    backward : (entries : List Entry) → Says (Folds g) entries name new → Says (Folds g) entries name old
    backward entries says = subst (λ (es : List Entry). Says (Folds g) es name old) (sym (one_listing g g name new entries [] says begun.1)) nothing

pub says_before : (g h : Granularity) (name : Name) (old new : Files) (entries : List Entry) → StaysOrBegins g name old new → Says (Folds h) entries name new → Says (Folds h) entries name old
says_before g h name old new entries (inl keeps) says = (keeps_says (Folds h) name old new keeps entries).1 says
says_before g h name old new entries (inr begun) says =
    let empty : entries ≡ [] = one_listing h g name new entries [] says begun.1 in
    record { batches = []; has = begun.0; means = empty }

-- A JOURNAL THAT IS LOADED ONCE MORE

pub stays_at : (g : Granularity) (name : Name) (a c : Files) → AtOwn name (KeepsBatches name) a c → AtOwn name (StaysOrBegins g name) a c
stays_at g name a c step = record { here = inl step.here; elsewhere = step.elsewhere }

-- WHERE A BATCH STANDS

length_gate : (b rest : List ℕ) → length (1 ∷ framed_bytes b ++ rest) ≡ length rest + (length b + 5)
unfolding framed_bytes
length_gate b rest = let long : length (to_le_bytes w32 (length b)) ≡ 4 = omega arith in omega (arith, long, length-append (1 ∷ (to_le_bytes w32 (length b) ++ b)) rest, length-append (to_le_bytes w32 (length b)) b)

gates_more_at : (bs : List (List ℕ)) (i : ℕ) (b : List ℕ) → slice_get bs i ≡ Some b → length (open_gates (take (suc i) bs)) ≡ length (open_gates (take i bs)) + (length b + 5)
gates_more_at [] i b here = absurd (none-some b here)
gates_more_at (x ∷ bs) zero b here = let is : x ≡ b = same_Some x b here in subst (λ (y : List ℕ). length (open_gates (x ∷ take 0 bs)) ≡ 0 + (length y + 5)) is (length_gate x (open_gates (take 0 bs)))
gates_more_at (x ∷ bs) (suc i) b here =
    let more = gates_more_at bs i b here in
    omega (arith, more, length_gate x (open_gates (take (suc i) bs)), length_gate x (open_gates (take i bs)))

-- the next batch's gate stands behind the batch
pub gates_more : (bs : List (List ℕ)) (i : ℕ) (b : List ℕ) → slice_get bs i ≡ Some b → length (open_gates (take (i + 1) bs)) ≡ length (open_gates (take i bs)) + (length b + 5)
gates_more bs i b here = rw add-one (gates_more_at bs i b here)

-- the file of a settled journal's current generation, where its load has kept the batches
pub settled_file_of : (journal : JournalState) (name : Name) (old : Files) (new : DiskShown) (bs cs : List (List ℕ)) → journal.name ≡ name → IsSettledWith journal new cs → KeepsBatches name old new.files
    → (has : HasBatchesOf name old bs) → journal.current.name ≡ generation_name name has.generation
settled_file_of journal name old new bs cs named settled keeps has =
    let at_is : journal.at.name ≡ at_name name = settled.named.at ∙ ap at_name named in
    let told : HasBatches (new.files (at_name name)) (generation_batches settled.generation) = subst (λ (n : Name). HasBatches (new.files n) (generation_batches settled.generation)) at_is (settled_seen journal.at new (generation_batches settled.generation) settled.at) in
    let same = one_generation_told (new.files (at_name name)) settled.generation has.generation told (keeps.told has.generation has.told) in
    settled.named.current ∙ ap (λ (n : Name). generation_name n settled.generation) named ∙ ap (λ (k : ℕ). generation_name name k) same

-- the journal that is loaded once more has the batch, since what has no batch has no bad one
pub bad_again : (IsBad : List (List ℕ) → ℕ → Type 0) → ((n : ℕ) → IsBad [] n → ⊥) → (name : Name) (old new : Files) (X : Type 0) (bs : List (List ℕ)) (n : ℕ) (file : Name) (at : ℕ) → HasBatchesOf name old bs → IsBad bs n
    → KeepsBatches name old new ⊎ (HasBatchesOf name old [] × X) → IsGate name new n file at → IsBadFile IsBad name old file at
bad_again IsBad none name old new X bs n file at has bad (inl keeps) gate =
    let now = (keeps.batches bs).0 has in
    let is = gate bs now in
    let same = one_generation_told (new (at_name name)) now.generation has.generation now.told (keeps.told has.generation has.told) in
    inr (record { batches = bs; number = n; has = has; bad = bad; current = is.0 ∙ ap (λ (k : ℕ). generation_name name k) same; gate = is.1 })
bad_again IsBad none name old new X bs n file at has bad (inr empty) gate = absurd (none n (subst (λ (l : List (List ℕ)). IsBad l n) (one_list name old bs [] has empty.0) bad))

-- A JOURNAL'S FILES ARE THE SAME IN TWO IMAGES

bad_here : (name : Name) (old new : Files) (file : Name) (at : ℕ) → ((n : Name) → IsOwn name n → new n ≡ old n) → IsBadOf name old file at → IsBadOf name new file at
bad_here name old new file at same (inl (is, inl bad)) = inl (is, inl (subst (λ (c : Content). IsBadJournal c at) (sym (same file (inl is))) bad))
bad_here name old new file at same (inl (is, inr bad)) = inl (
  is,
  inr (record {
    batches = bad.batches;
    generation = bad.generation;
    has = subst (λ (c : Content). HasBatches c bad.batches) (sym (same (at_name name) (inl refl))) bad.has;
    out_of_turn = bad.out_of_turn;
    is_at = bad.is_at;
  }),
)
bad_here name old new file at same (inr bad) =
    let here : new file ≡ old file = same file (inr (bad.generation, bad.small, bad.is)) in
    inr (record {
      generation = bad.generation;
      small = bad.small;
      told = subst (λ (c : Content). HasBatches c (generation_batches bad.generation)) (sym (same (at_name name) (inl refl))) bad.told;
      is = bad.is;
      bad = elim bad.bad [
        | inl broken ↦ inl (subst (λ (c : Content). IsBadJournal c at) (sym here) broken)
        | inr short ↦ inr (short.0, subst (λ (c : Content). IsShort c) (sym here) short.1, short.2)
      ];
    })

pub bad_in : (IsBad : List (List ℕ) → ℕ → Type 0) (name : Name) (old new : Files) (file : Name) (at : ℕ) → ((n : Name) → IsOwn name n → new n ≡ old n) → IsBadFile IsBad name old file at → IsBadFile IsBad name new file at
bad_in IsBad name old new file at same (inl bad) = inl (bad_here name old new file at same bad)
bad_in IsBad name old new file at same (inr bad) =
    let has = says_of name old new bad.batches same bad.has in
    let told : HasBatches (new (at_name name)) (generation_batches bad.has.generation) = subst (λ (c : Content). HasBatches c (generation_batches bad.has.generation)) (sym (same (at_name name) (inl refl))) bad.has.told in
    let generation = one_generation_told (new (at_name name)) bad.has.generation has.generation told has.told in
    inr (record { batches = bad.batches; number = bad.number; has = has; bad = bad.bad; current = bad.current ∙ ap (λ (k : ℕ). generation_name name k) generation; gate = bad.gate })

pub no_bad_rows : (n : ℕ) → catalogue.IsBadBatch [] n → ⊥
no_bad_rows n bad = let long = ap length bad.split in omega (arith, long, length-append bad.front (bad.batch ∷ bad.rest))

pub no_bad_entries : (n : ℕ) → manifest.IsBadBatch [] n → ⊥
no_bad_entries n bad = let long = ap length bad.split in omega (arith, long, length-append bad.front (bad.batch ∷ bad.rest))

-- WHERE THERE IS NO FILE

pub no_batch : (name : Name) (files : Files) → ((n : Name) → files n ≡ None) → HasBatchesOf name files []
no_batch name files none = record {
  generation = 0;
  small = omega arith;
  told = subst (λ (c : Content). HasBatches c (generation_batches 0)) (sym (none (at_name name))) none_told;
  batches = subst (λ (c : Content). HasBatches c []) (sym (none (generation_name name 0))) refl;
  there = λ later. absurd (omega (arith, later));
}

-- What the four journals hold and say goes on through loads and reads.

-- the granularity at a place that has one
pub is_at : (gs : List Granularity) (i : ℕ) (g : Granularity) → slice_get gs i ≡ Some g → granularity_at gs i ≡ g
is_at gs i g here = ap (λ (o : Option Granularity). unwrap_or o Hour) here

-- JOURNALS HAVE NO FILE IN COMMON

pub one_store : (s t : ℕ) → manifest_name s ≡ manifest_name t → s ≡ t
one_store s t is = let digit : 48 + s ≡ 48 + t = ap (λ (n : Name). get_or n.1 8 0) is in omega (arith, digit)

pub journal_cases : (i j : WhichJournal) → (i ≡ j) ⊎ (i ≢ j)
journal_cases Catalogue Catalogue = inl refl
journal_cases Catalogue (Manifest t) = inr (λ is. journals_differ (t + 1) (ap name_of is))
journal_cases (Manifest s) Catalogue = inr (λ is. journals_differ (s + 1) (sym (ap name_of is)))
journal_cases (Manifest s) (Manifest t) = elim (cases_eq s t) [
  | inl same ↦ inl (ap (λ (n : ℕ). Manifest n) same)
  | inr apart ↦ inr (λ is. let same = one_store (s + 1) (t + 1) (ap name_of is) in apart (omega (arith, same)))
]

pub journals_apart : (i j : WhichJournal) → i ≢ j → (n : Name) → IsOwn (name_of i) n → IsOwn (name_of j) n → ⊥
journals_apart Catalogue Catalogue apart n own too = apart refl
journals_apart Catalogue (Manifest t) apart n own too = other_journal (t + 1) n own too
journals_apart (Manifest s) Catalogue apart n own too = other_journal (s + 1) n too own
journals_apart (Manifest s) (Manifest t) apart n own too = manifests_differ (s + 1) (t + 1) (λ is. let same : s ≡ t = omega (arith, is) in apart (ap (λ (k : ℕ). Manifest k) same)) n own too

pub of_zero : (j : WhichJournal) → (name_of j).0 ≡ 0
of_zero Catalogue = refl
of_zero (Manifest i) = refl

-- a name of another store is no journal's
pub no_journal : (n : Name) (j : WhichJournal) → n.0 ≢ 0 → IsOwn (name_of j) n → ⊥
no_journal n j other own = other (own_store (name_of j) n own ∙ of_zero j)

-- ONE CALL AFTER ANOTHER

keeps_none : (name : Name) (a c : Files) → ((n : Name) → IsOwn name n → c n ≡ a n) → KeepsBatches name a c
keeps_none name a c same = record {
  batches = λ bs. (says_of name a c bs same, says_of name c a bs (λ n own. sym (same n own)));
  told = λ g has. subst (λ (f : Content). HasBatches f (generation_batches g)) (sym (same (at_name name) (inl refl))) has;
}

keeps_then : (name : Name) (a b c : Files) → KeepsBatches name a b → KeepsBatches name b c → KeepsBatches name a c
keeps_then name a b c one two = record {
  batches = λ bs. (λ has. (two.batches bs).0 ((one.batches bs).0 has), λ has. (one.batches bs).1 ((two.batches bs).1 has));
  told = λ g has. two.told g (one.told g has);
}

begins_then : (g : Granularity) (name : Name) (a b c : Files) → StaysOrBegins g name a b → StaysOrBegins g name b c → StaysOrBegins g name a c
begins_then g name a b c (inl one) (inl two) = inl (keeps_then name a b c one two)
begins_then g name a b c (inl one) (inr two) = inr ((one.batches []).1 two.0, two.1)
begins_then g name a b c (inr one) two = inr (one.0, (begins_says g name b c two []).0 one.1)

-- where its files are as they were
pub journal_none : (gs : List Granularity) (j : WhichJournal) (a c : Files) → ((n : Name) → IsOwn (name_of j) n → c n ≡ a n) → KeepsJournal gs j a c
journal_none gs Catalogue a c same = keeps_none catalogue_name a c same
journal_none gs (Manifest i) a c same = inl (keeps_none (manifest_name (i + 1)) a c same)

pub journal_then : (gs : List Granularity) (j : WhichJournal) (a b c : Files) → KeepsJournal gs j a b → KeepsJournal gs j b c → KeepsJournal gs j a c
journal_then gs Catalogue a b c one two = keeps_then catalogue_name a b c one two
journal_then gs (Manifest i) a b c one two = begins_then (granularity_at gs i) (manifest_name (i + 1)) a b c one two

-- it says what it said
pub journal_says : (gs : List Granularity) (j : WhichJournal) (a c : Files) → KeepsJournal gs j a c → StillSays (Means gs j) (name_of j) a c
journal_says gs Catalogue a c keeps = keeps_says IsCatalogue catalogue_name a c keeps
journal_says gs (Manifest i) a c keeps = begins_says (granularity_at gs i) (manifest_name (i + 1)) a c keeps

-- and nothing more, whatever the granularities are
pub no_more : (gs hs : List Granularity) (j : WhichJournal) (a c : Files) (value : Value j) → KeepsJournal gs j a c → Says (Means hs j) value (name_of j) c → Says (Means hs j) value (name_of j) a
no_more gs hs Catalogue a c value keeps says = (keeps_says IsCatalogue catalogue_name a c keeps value).1 says
no_more gs hs (Manifest i) a c value keeps says = says_before (granularity_at gs i) (granularity_at hs i) (manifest_name (i + 1)) a c value keeps says

still_none : (gs : List Granularity) (a : Files) → StillSay gs a a
still_none gs a = record { journals = λ j. journal_none gs j a a (λ n own. refl); elsewhere = λ n other. refl; others = λ n apart. refl }

still_then : (gs : List Granularity) (a b c : Files) → StillSay gs a b → StillSay gs b c → StillSay gs a c
still_then gs a b c one two = record {
  journals = λ j. journal_then gs j a b c (one.journals j) (two.journals j);
  elsewhere = λ n other. two.elsewhere n other ∙ one.elsewhere n other;
  others = λ n apart. two.others n apart ∙ one.others n apart;
}

pub kept_then : (gs : List Granularity) (f₀ f₁ f₂ : DiskShown) → KeepsSaid gs f₀ f₁ → KeepsSaid gs f₁ f₂ → KeepsSaid gs f₀ f₂
kept_then gs f₀ f₁ f₂ one two = record {
  passes = passes_then (StillSay gs) (StillSay gs) f₀.past f₁.past f₂.past one.passes two.passes (λ a b c was before now step. still_then gs a b c before step);
  now = still_then gs f₀.files f₁.files f₂.files one.now two.now;
  same_opened = λ n other. two.same_opened n other ∙ one.same_opened n other;
  none_opened = λ j none. two.none_opened j (one.none_opened j none);
}

-- calls that only read
pub kept_reading : (gs : List Granularity) (old new : DiskShown) → new.files ≡ old.files → Passes (λ a b. b ≡ a) old.past new.past → new.opened ≡ old.opened → KeepsSaid gs old new
kept_reading gs old new same passes opened_same = record {
  passes = passes_weaker (λ a b. b ≡ a) (StillSay gs) old.past new.past passes (λ a c was is. subst (StillSay gs a) (sym is) (still_none gs a));
  now = subst (StillSay gs old.files) (sym same) (still_none gs old.files);
  same_opened = λ n other. ap (λ (o : Name → ℕ). o n) opened_same;
  none_opened = λ j none. subst (λ (o : Name → ℕ). NoneOpened (name_of j) o) (sym opened_same) none;
}

-- no call at all
pub kept_same : (gs : List Granularity) (disk : DiskShown) → Passes (λ a b. b ≡ a) disk.past disk.past → KeepsSaid gs disk disk
kept_same gs disk passes = kept_reading gs disk disk refl passes refl

-- what is kept of a manifest stays while that of another store is loaded
pub manifest_stays : (store : ℕ) (R : Files → Files → Type 0) (other : ℕ) (m : ManifestState) (old new : DiskShown) → m.journal.name ≡ manifest_name other → other ≢ store → IsKept m old
    → ((n : Name) → (IsOwn (manifest_name store) n → ⊥) → new.files n ≡ old.files n) → Passes (AtOwn (manifest_name store) R) old.past new.past → ((n : Name) → (IsOwn (manifest_name store) n → ⊥) → new.opened n ≡ old.opened n) → IsKept m new
manifest_stays store R other m old new named distinct kept others passes others_opened =
    kept_stays (Configured m.granularity) m.journal old new (AtOwn (manifest_name store) R) passes (λ a c step n own. step.elsewhere n (apart n own)) (λ n own. others n (apart n own))
    (λ n own. let fewer = others_opened n (apart n own) in omega (arith, fewer)) m.entries kept
  where
    apart : (n : Name) → IsOwn m.journal.name n → IsOwn (manifest_name store) n → ⊥
    apart n own too = manifests_differ other store distinct n (subst (λ (k : Name). IsOwn k n) named own) too

-- ONE JOURNAL IS LOADED

-- it keeps its batches, and every name that isn't one of its files is as it was
record LoadsOne (gs : List Granularity) (j : WhichJournal) (old new : DiskShown) : Type 0 where
  passes : Passes (AtOwn (name_of j) (KeepsJournal gs j)) old.past new.past
  kept : AtOwn (name_of j) (KeepsJournal gs j) old.files new.files
  others_opened : (n : Name) → (IsOwn (name_of j) n → ⊥) → new.opened n ≡ old.opened n
  is : NoneOpened (name_of j) new.opened

kept_load : (gs : List Granularity) (j : WhichJournal) (old new : DiskShown) → LoadsOne gs j old new → KeepsSaid gs old new
kept_load gs j old new load = record {
  passes = passes_weaker (AtOwn (name_of j) (KeepsJournal gs j)) (StillSay gs) old.past new.past load.passes (λ a c left step. still a c step);
  now = still old.files new.files load.kept;
  same_opened = λ n other. load.others_opened n (no_journal n j other);
  none_opened = λ i. unopened i (journal_cases i j);
}
  where
    journal : (i : WhichJournal) (a c : Files) → AtOwn (name_of j) (KeepsJournal gs j) a c → (i ≡ j) ⊎ (i ≢ j) → KeepsJournal gs i a c
    journal i a c step (inl is) = subst (λ (k : WhichJournal). KeepsJournal gs k a c) (sym is) step.here
    journal i a c step (inr apart) = journal_none gs i a c (λ n own. step.elsewhere n (journals_apart i j apart n own))

    still : (a c : Files) → AtOwn (name_of j) (KeepsJournal gs j) a c → StillSay gs a c
    still a c step = record {
      journals = λ i. journal i a c step (journal_cases i j);
      elsewhere = λ n other. step.elsewhere n (no_journal n j other);
      others = λ n apart. step.elsewhere n (apart j);
    }

    unopened : (i : WhichJournal) → (i ≡ j) ⊎ (i ≢ j) → NoneOpened (name_of i) old.opened → NoneOpened (name_of i) new.opened
    unopened i (inl is) none = subst (λ (k : WhichJournal). NoneOpened (name_of k) new.opened) (sym is) load.is
    unopened i (inr apart) none = λ n own. load.others_opened n (journals_apart i j apart n own) ∙ none n own

module _ (gs : List Granularity) (old new : DiskShown) where
  -- the catalogue alone
  pub kept_rows : LeavesLoaded catalogue_name old new → KeepsSaid gs old new
  kept_rows leaves = kept_load gs Catalogue old new (record { passes = leaves.any_moment; kept = leaves.kept; others_opened = leaves.opened; is = leaves.unopened })

  pub rows_again : (name : Name) → name ≡ catalogue_name → LeavesLoaded name old new → KeepsSaid gs old new
  rows_again name named leaves = kept_rows (subst (λ (n : Name). LeavesLoaded n old new) named leaves)

  -- one manifest alone
  pub kept_list : (i : ℕ) (g : Granularity) → slice_get gs i ≡ Some g → LeavesManifest g (manifest_name (i + 1)) old new → KeepsSaid gs old new
  kept_list i g here leaves =
      let at = subst (λ (h : Granularity). LeavesManifest h (manifest_name (i + 1)) old new) (sym (is_at gs i g here)) leaves in
      kept_load gs (Manifest i) old new (record { passes = at.any_moment; kept = at.reads; others_opened = at.opened; is = at.unopened })

  pub list_again : (i : ℕ) (g : Granularity) → slice_get gs i ≡ Some g → (name : Name) → name ≡ manifest_name (i + 1) → LeavesLoaded name old new → KeepsSaid gs old new
  list_again i g here name named leaves =
      let own : Name = manifest_name (i + 1) in
      let at = subst (λ (n : Name). LeavesLoaded n old new) named leaves in
      kept_list i g here (record {
        reads = stays_at g own old.files new.files at.kept;
        any_moment = passes_weaker (AtOwn own (KeepsBatches own)) (AtOwn own (StaysOrBegins g own)) old.past new.past at.any_moment (λ a c was step. stays_at g own a c step);
        opened = at.opened;
        unopened = at.unopened;
      })

-- The stores that are opened have what reads give of the image.

-- no partition's file is a journal
pub listed_elsewhere : (shelf : Shelf) (e : Entry) → 1 ≤ shelf.0 → (file_of shelf e).0 ≢ 0
listed_elsewhere shelf e numbered is = let none : shelf.0 ≡ 0 = is in omega (arith, numbered, none)

-- PLACES

pub low_of : (gs : List Granularity) (i : ℕ) (g : Granularity) → length gs ≡ 3 → slice_get gs i ≡ Some g → i < 3
low_of gs i g three here = let low = slice_get_within gs i g here in omega (arith, low, three)

pub granularity_here : (gs : List Granularity) (i : ℕ) → i < length gs → (g : Granularity) × (slice_get gs i ≡ Some g)
granularity_here gs i within = elim (slice_get_cases gs i).1 [
  | inl found ↦ (found.0, found.2)
  | inr behind ↦ absurd (omega (arith, within, behind.0))
]

-- what a manifest lists at its place
pub listed_at : (ms : List ManifestState) (i : ℕ) (m : ManifestState) → slice_get ms i ≡ Some m → lists_of ms i ≡ m.entries
listed_at ms i m here = ap entries_in here

-- the granularity at the place of a manifest
pub own_granularity : (gs : List Granularity) (ms : List ManifestState) (i : ℕ) (m : ManifestState) → granularities ms ≡ gs → slice_get ms i ≡ Some m → slice_get gs i ≡ Some m.granularity
own_granularity gs ms i m same here = ap (λ (l : List Granularity). slice_get l i) (sym same) ∙ granularity_of ms i m here

pub count_of : (gs : List Granularity) (ms : List ManifestState) → length gs ≡ 3 → granularities ms ≡ gs → length ms ≡ 3
count_of gs ms three same = count ms ∙ ap length same ∙ three
  where
    count : (ms : List ManifestState) → length ms ≡ length (granularities ms)
    count [] = refl
    count (m ∷ ms) = ap suc (count ms)

-- LISTS OF FILES

keys_differ : (rows : List Row) → AreRows rows → KeysDiffer rows
keys_differ rows are i j a b here there same = are.one_key i j (key_of a.name) (record { row = a; here = here; is = refl }) (record { row = b; here = there; is = sym same })

rises : (f : Filed) (fs : List Filed) → AllByRecursion (λ (d : Entry). comes_before (place f.entry) (place d) ≡ true) (map entry_of fs) → AllByRecursion (λ (h : Filed). IsTrue (comes_before (filed_at f) (filed_at h))) fs
rises f [] all = tt
rises f (h ∷ fs) all = (all.0, rises f fs all.1)

places_rise : (fs : List Filed) → InOrder (map entry_of fs) → PlacesRise fs
places_rise [] in_order = tt
places_rise (f ∷ fs) in_order = (All-from_recursion (λ (h : Filed). IsTrue (comes_before (filed_at f) (filed_at h))) fs (rises f fs in_order.0), places_rise fs in_order.1)

-- what holds of the entries of files
all_entries : (P : Entry → Type 0) (fs : List Filed) → All P (map entry_of fs) → All (λ (f : Filed). P f.entry) fs
all_entries P [] all = All-nil (λ (f : Filed). P f.entry)
all_entries P (f ∷ fs) all = All-cons (λ (h : Filed). P h.entry) f fs (All-head P f.entry (map entry_of fs) all) (all_entries P fs (All-tail P f.entry (map entry_of fs) all))

-- WHAT WAS LOADED

-- what was loaded of a disk, and what is known of its files
pub record IsLoaded (s : Seen) : Type 0 where
  pub stored : IsStored s.catalogue (on_disk s)
  pub kept : AtEach s.manifests (λ i m. IsKept m (on_disk s))
  pub named : s.catalogue.journal.name ≡ catalogue_name
  pub named_manifests : AtEach s.manifests (λ i m. m.journal.name ≡ manifest_name (i + 1))
  pub there : AtEach s.manifests (λ i m. All (IsThere i s.files s.catalogue.rows) m.entries)
  pub unopened : AtEach s.manifests (λ i m. All (λ (e : Entry). s.opened (file_of (i + 1, s.catalogue.rows) e) ≤ e.len) m.entries)

-- what has the rows and the entries that were loaded
record IsOf (s : Seen) (held : Stores) : Type 0 where
  of_rows : held.rows ≡ s.catalogue.rows
  listed : AtEach s.manifests (λ i m. m.entries ≡ map entry_of (list_at i held))

-- each store's files are of its granularity and of the rows
abbrev AreAllFiled : Seen → Stores → Type 0
AreAllFiled s held = AtEach s.manifests (λ i m. AreFiled m.granularity (tier i held))

known_again : (gs : List Granularity) (s : Seen) (held : Stores) → length gs ≡ 3 → IsReady gs s.catalogue s.manifests → IsOf s held → AreAllFiled s held → IsKnown s.catalogue s.manifests held
known_again gs s held three ready of filed = record {
  three = count_of gs s.manifests three ready.granularity;
  rows = sym of.of_rows;
  each = λ i m here. record {
    entries = of.listed i m here;
    valid = record {
      keys = subst KeysDiffer (sym of.of_rows) (keys_differ s.catalogue.rows ready.rows);
      filed = filed i m here;
      apart = places_rise (list_at i held) (subst InOrder (of.listed i m here) (ready.entries i m here).in_order);
    };
  };
}

-- one store is stored
stored_at : (gs : List Granularity) (s : Seen) (held : Stores) (i : ℕ) (m : ManifestState) → slice_get s.manifests i ≡ Some m → IsReady gs s.catalogue s.manifests → IsOf s held → AreHeld m.granularity (tier i held) → IsLoaded s → ((image : Files) → MayLeave s.past image → AreIn (tier i held) image) → TierStored m.granularity m.journal (on_disk s) (tier i held)
stored_at gs s held i m here ready of valid loaded left =
    let Safe : List Row → List Entry → Type 0 = λ rows es. All (IsThere i s.files rows) es × All (λ (e : Entry). s.opened (file_of (i + 1, rows) e) ≤ e.len) es in
    let safe : Safe held.rows (map entry_of (list_at i held)) = subst (λ (r : List Row). Safe r (map entry_of (list_at i held))) (sym of.of_rows) (subst (Safe s.catalogue.rows) (of.listed i m here) (loaded.there i m here, loaded.unopened i m here)) in
    record {
      named = loaded.named_manifests i m here;
      sound = ready.sound_lists i m here;
      kept = subst (λ (es : List Entry). in_journal.IsKept (Configured m.granularity) m.journal (on_disk s) es) (of.listed i m here) (loaded.kept i m here);
      valid = valid;
      safe = record {
        long = all_entries (IsThere i s.files held.rows) (list_at i held) safe.0;
        unopened = all_entries (λ (e : Entry). s.opened (file_of (i + 1, held.rows) e) ≤ e.len) (list_at i held) safe.1;
        left = left;
      };
    }

-- the stores have whatever has their rows and entries, and is left by crashes
has_again : (tells : Bool) (gs : List Granularity) (s : Seen) (held : Stores) → length gs ≡ 3 → IsReady gs s.catalogue s.manifests → IsOf s held → AreAllFiled s held → (IsTrue tells → IsLoaded s × ((image : Files) → MayLeave s.past image → AllIn held image)) → Has tells s held
has_again tells gs s held three ready of filed disk = record {
  known = known;
  settled = record { catalogue = ready.sound; manifests = ready.sound_lists };
  disk = λ told.
      let on = disk told in
      record {
        rows = record { named = on.0.named; sound = ready.sound; kept = subst (λ (r : List Row). in_journal.IsKept IsCatalogue s.catalogue.journal (on_disk s) r) (sym of.of_rows) on.0.stored };
        each = λ i m here. stored_at gs s held i m here ready of (known.each i m here).valid on.0 (λ image left. on.1 image left i (within_three s.manifests i m known.three here));
      };
}
  where
    known : IsKnown s.catalogue s.manifests held
    known = known_again gs s held three ready of filed

-- STORES OF WHOSE FILES NOTHING IS KNOWN

abbrev blank : Entry → Filed
blank e = record { entry = e; head = []; samples = [] }

entries_of_blank : (es : List Entry) → es ≡ map entry_of (map blank es)
entries_of_blank [] = refl
entries_of_blank (e ∷ es) = ap (λ (l : List Entry). e ∷ l) (entries_of_blank es)

abbrev blanks : List Row → List ManifestState → Stores
blanks rows ms = record { rows = rows; short = map blank (lists_of ms 0); medium = map blank (lists_of ms 1); long = map blank (lists_of ms 2); stands = false }

blank_list : (rows : List Row) (ms : List ManifestState) (i : ℕ) → i < 3 → list_at i (blanks rows ms) ≡ map blank (lists_of ms i)
blank_list rows ms zero low = refl
blank_list rows ms (suc zero) low = refl
blank_list rows ms (suc (suc zero)) low = refl
blank_list rows ms (suc (suc (suc i))) low = absurd (omega (arith, low))

pub row_at : (rows : List Row) (i : ℕ) → i < length rows → (row : Row) × (slice_get rows i ≡ Some row)
row_at rows i within = elim (slice_get_cases rows i).1 [
  | inl found ↦ (found.0, found.2)
  | inr behind ↦ absurd (omega (arith, within, behind.0))
]

listed_of : (g : Granularity) (rows : List Row) (e : Entry) → HasRow rows e → IsPart g e.part → IsListed g rows (blank e)
listed_of g rows e has part = let found = row_at rows e.series has in record { row = found.0; stands = found.1; part = part }

pub has_some : (tells : Bool) (gs : List Granularity) (s : Seen) → length gs ≡ 3 → IsReady gs s.catalogue s.manifests → length s.manifests ≡ 3 → (IsTrue tells → IsLoaded s) → (held : Stores) × Has tells s held
has_some tells gs s three ready count loaded =
    let rows = s.catalogue.rows in
    (blanks rows s.manifests, has_again tells gs s (blanks rows s.manifests) three ready (record { of_rows = refl; listed = λ i m here. entries_of_blank m.entries ∙ ap (map entry_of) (sym (list i m here)) }) filed (λ told. (loaded told, λ image left i low stands. absurd (false≢true stands))))
  where
    list : (i : ℕ) (m : ManifestState) → slice_get s.manifests i ≡ Some m → list_at i (blanks s.catalogue.rows s.manifests) ≡ map blank m.entries
    list i m here = blank_list s.catalogue.rows s.manifests i (within_three s.manifests i m count here) ∙ ap (map blank) (listed_at s.manifests i m here)

    filed : AreAllFiled s (blanks s.catalogue.rows s.manifests)
    filed i m here = record {
      numbered = omega arith;
      listed = subst (λ (fs : List Filed). All (IsListed m.granularity s.catalogue.rows) fs) (sym (list i m here)) (All-map (IsListed m.granularity s.catalogue.rows) blank m.entries (λ k d lt.
          listed_of m.granularity s.catalogue.rows (get_or m.entries k d) (ready.of_rows i m here k d lt) ((ready.entries i m here).parts k d lt)));
      filed = λ stands. absurd (false≢true stands);
    }

-- WHAT THE IMAGE HOLDS

-- files of an image are in another that differs in its journals alone
still_in : (held : Held) (a b : Files) → 1 ≤ held.store → ((n : Name) → n.0 ≢ 0 → b n ≡ a n) → AreIn held a → AreIn held b
still_in held a b numbered same was stands = λ k d lt.
    let f = get_or held.files k d in
    subst (Begins (bytes_of f)) (sym (same (file_of (shelf_of held) f.entry) (listed_elsewhere (shelf_of held) f.entry numbered))) (was stands k d lt)

all_still_in : (held : Stores) (a b : Files) → ((n : Name) → n.0 ≢ 0 → b n ≡ a n) → AllIn held a → AllIn held b
all_still_in held a b same was i low = still_in (tier i held) a b (omega arith) same (was i low)

-- the entries of the lists of files
abbrev pub listing : Stores → Listings
listing held i = map entry_of (list_at i held)

-- what is held is said
pub said_of : (gs : List Granularity) (image : Files) (held : Stores) → length gs ≡ 3 → HoldsAll gs image held → AreSaid gs image held.rows (listing held)
said_of gs image held three holds =
    let first = granularity_here gs 0 (omega (arith, three)) in
    record { rows_said = (holds 0 first.0 first.1).rows; lists_said = λ i g here. (holds i g here).lists }

-- reads give the one or the other
pub reads_one : (gs : List Granularity) (files : Files) (past : Past) (before after : Stores) → MayLeave past files → OpensEither gs past before after → (held : Stores) × IsEither before after held × HoldsAll gs files held
reads_one gs files past before after here opens = elim (opens.holds files here) [
  | inl holds ↦ (before, inl refl, holds)
  | inr holds ↦ (after, inr refl, holds)
]

is_in : (before after held : Stores) (image : Files) → IsEither before after held → AllIn before image × AllIn after image → AllIn held image
is_in before after held image (inl is) both = subst (λ (h : Stores). AllIn h image) (sym is) both.0
is_in before after held image (inr is) both = subst (λ (h : Stores). AllIn h image) (sym is) both.1

-- the stores have what reads gave
pub has_read : (tells : Bool) (gs : List Granularity) (s : Seen) (files : Files) (old : Past) (before after held : Stores) → length gs ≡ 3 → IsReady gs s.catalogue s.manifests → OpensEither gs old before after → IsEither before after held → HoldsAll gs files held
    → (IsTrue tells → IsLoaded s × Passes (StillSay gs) old s.past) → AreSaid gs files s.catalogue.rows (lists_of s.manifests) → Has tells s held
has_read tells gs s files old before after held three ready opens either holds disk said =
    let own = said_of gs files held three holds in
    has_again tells gs s held three ready
    (record {
      of_rows = one_list_of_rows files held.rows s.catalogue.rows own.rows_said said.rows_said;
      listed = λ i m here.
          let g = own_granularity gs s.manifests i m ready.granularity here in
          sym (listed_at s.manifests i m here) ∙ one_listing m.granularity m.granularity (manifest_name (i + 1)) files (lists_of s.manifests i) (listing held i) (said.lists_said i m.granularity g) (own.lists_said i m.granularity g);
    })
    (λ i m here. (holds i m.granularity (own_granularity gs s.manifests i m ready.granularity here)).filed)
    (λ told.
    let on = disk told in (
      on.0,
      λ image left.
          let come = on.1.each s.past.now image on.1.later (omega arith) left in
          all_still_in held come.0 image come.2.elsewhere (is_in before after held come.0 either (opens.files come.0 come.1)),
    ))

-- AT EACH MOMENT

-- a manifest still says what it said, in its own granularity
list_step : (gs : List Granularity) (a c : Files) (i : ℕ) (g : Granularity) → slice_get gs i ≡ Some g → StillSay gs a c → StillSays (Folds g) (manifest_name (i + 1)) a c
list_step gs a c i g here step = subst (λ (h : Granularity). StillSays (Folds h) (manifest_name (i + 1)) a c) (is_at gs i g here) (journal_says gs (Manifest i) a c (step.journals (Manifest i)))

-- an image goes on to hold what it held
pub still_one : (gs : List Granularity) (a c : Files) → StillSay gs a c → StillHolds gs a c
still_one gs a c step held holds i g here =
    let was = holds i g here in
    record {
      rows = (journal_says gs Catalogue a c (step.journals Catalogue) held.rows).0 was.rows;
      lists = (list_step gs a c i g here step (listing held i)).0 was.lists;
      filed = was.filed;
      files = still_in (tier i held) a c (omega arith) step.elsewhere was.files;
    }

pub still_holds : (gs : List Granularity) (old new : Past) → Passes (StillSay gs) old new → Passes (StillHolds gs) old new
still_holds gs old new passes = passes_weaker (StillSay gs) (StillHolds gs) old new passes (λ a c was step. still_one gs a c step)

pub still_either : (gs : List Granularity) (old new : Past) (before after : Stores) → OpensEither gs old before after → Passes (StillSay gs) old new → Passes (λ a b. HoldsEither gs before after b) old new
still_either gs old new before after opens passes = passes_weaker (StillSay gs) (λ a b. HoldsEither gs before after b) old new passes (λ a c was step. elim (opens.holds a was) [
  | inl holds ↦ inl (still_one gs a c step before holds)
  | inr holds ↦ inr (still_one gs a c step after holds)
])

-- and so it may be opened again
pub opens_again : (gs : List Granularity) (old new : Past) (before after : Stores) → Passes (StillSay gs) old new → OpensEither gs old before after → OpensEither gs new before after
opens_again gs old new before after passes opens = record {
  one_change = opens.one_change;
  holds = λ image left.
      let come = either.each new.now image either.later (omega arith) left in
      come.2;
  files = λ image left.
      let come = passes.each new.now image passes.later (omega arith) left in
      let both = opens.files come.0 come.1 in
      (all_still_in before come.0 image come.2.elsewhere both.0, all_still_in after come.0 image come.2.elsewhere both.1);
}
  where
    either : Passes (λ a b. HoldsEither gs before after b) old new
    either = still_either gs old new before after opens passes

-- THE DISK AFTERWARDS

there_in : (i : ℕ) (files seen : Files) (rows : List Row) (e : Entry) → ((n : Name) → n.0 ≢ 0 → files n ≡ seen n) → IsThere i files rows e → IsThere i seen rows e
there_in i files seen rows e same there = record { bytes = there.bytes; file = sym (same (file_of (i + 1, rows) e) (listed_elsewhere (i + 1, rows) e (omega arith))) ∙ there.file; holds = there.holds }

-- files of the other stores that are there in one image are there in another that has the same
pub all_there_in : (i : ℕ) (files seen : Files) (rows : List Row) (entries : List Entry) → ((n : Name) → n.0 ≢ 0 → files n ≡ seen n) → All (IsThere i files rows) entries → All (IsThere i seen rows) entries
all_there_in i files seen rows entries same there = λ k d lt. there_in i files seen rows (get_or entries k d) same (there k d lt)

unopened_later : (i : ℕ) (rows : List Row) (entries : List Entry) (opened after : Name → ℕ) → ((n : Name) → n.0 ≢ 0 → after n ≡ opened n) → All (λ (e : Entry). opened (file_of (i + 1, rows) e) ≤ e.len) entries → All (λ (e : Entry). after (file_of (i + 1, rows) e) ≤ e.len) entries
unopened_later i rows entries opened after same was = λ k d lt.
    let e = get_or entries k d in
    omega (arith, was k d lt, same (file_of (i + 1, rows) e) (listed_elsewhere (i + 1, rows) e (omega arith)))

-- a list of the one granularity at this place
abbrev only : Granularity → List Granularity
only g = g ∷ g ∷ g ∷ []

only_at : (g : Granularity) (i : ℕ) → i < 3 → granularity_at (only g) i ≡ g
only_at g zero low = refl
only_at g (suc zero) low = refl
only_at g (suc (suc zero)) low = refl
only_at g (suc (suc (suc i))) low = absurd (omega (arith, low))

pub still_unopened : (gs : List Granularity) (old new : DiskShown) → KeepsSaid gs old new → IsUnopened old.files old.opened → IsUnopened new.files new.opened
still_unopened gs old new keeps unopened = record {
  catalogue = keeps.none_opened Catalogue unopened.catalogue;
  manifests = λ i low. keeps.none_opened (Manifest i) (unopened.manifests i low);
  listed = λ rows rows_said i low g entries said.
      let own = subst (λ (h : Granularity). Says (Folds h) entries (manifest_name (i + 1)) new.files) (sym (only_at g i low)) said in
      let was = subst (λ (h : Granularity). Says (Folds h) entries (manifest_name (i + 1)) old.files) (only_at g i low) (no_more gs (only g) (Manifest i) old.files new.files entries (keeps.now.journals (Manifest i)) own) in
      unopened_later i rows entries old.opened new.opened keeps.same_opened (unopened.listed rows (no_more gs gs Catalogue old.files new.files rows (keeps.now.journals Catalogue) rows_said) i low g entries was);
}

pub loaded_again : {D R : Type 0} (disk : Ghosts D R) (gs : List Granularity) (old new : D) (c : CatalogueState) (ms : List ManifestState) → length gs ≡ 3 → KeepsSaid gs (shown_by disk old) (shown_by disk new) → IsUnopened (disk.files old) (disk.opened old) → AreLoaded disk gs old c ms new → IsTrue disk.tells
    → IsLoaded (loaded disk c ms new)
loaded_again {D} {R} disk gs old new c ms three keeps unopened load told = record {
  stored = load.stored told;
  kept = load.kept told;
  named = load.name;
  named_manifests = load.names;
  there = λ i m here. all_there_in i (disk.files old) (disk.files new) c.rows m.entries (λ n other. sym (keeps.now.elsewhere n other)) (load.there told i m here);
  unopened = λ i m here.
      let said = load.said told in
      let g = own_granularity gs ms i m load.ready.granularity here in
      let lists : Says (Folds m.granularity) m.entries (manifest_name (i + 1)) (disk.files old) = subst (λ (es : List Entry). Says (Folds m.granularity) es (manifest_name (i + 1)) (disk.files old)) (listed_at ms i m here) (said.lists_said i m.granularity g) in
      unopened_later i c.rows m.entries (disk.opened old) (disk.opened new) keeps.same_opened (unopened.listed c.rows said.rows_said i (low_of gs i m.granularity three g) m.granularity m.entries lists);
}

pub reopened : {D R : Type 0} (disk : Ghosts D R) (gs : List Granularity) (old new : D) → IsUnopened (disk.files old) (disk.opened old)
    → KeepsSaid gs (shown_by disk old) (shown_by disk new) → Reopens disk gs old new
reopened {D} {R} disk gs old new unopened keeps = record {
  any_moment = still_holds gs (disk.past old) (disk.past new) keeps.passes;
  either = λ before after opens. still_either gs (disk.past old) (disk.past new) before after opens keeps.passes;
  opens = λ before after opens. opens_again gs (disk.past old) (disk.past new) before after keeps.passes opens;
  elsewhere = keeps.now.elsewhere;
  stores = passes_weaker (StillSay gs) SameStores (disk.past old) (disk.past new) keeps.passes (λ a c left step. step.elsewhere);
  unopened = still_unopened gs (shown_by disk old) (shown_by disk new) keeps unopened;
}

-- the settings

-- the configured granularity of a store is that at its place
pub is_config : (config : ConfigState) (i : ℕ) (g : Granularity) → i < 3 → slice_get config.granularity i ≡ Some g → slice_get (stores_of config) i ≡ Some g
is_config config zero g low here = ap (λ (h : Granularity). Some h) (is_at config.granularity 0 g here)
is_config config (suc zero) g low here = ap (λ (h : Granularity). Some h) (is_at config.granularity 1 g here)
is_config config (suc (suc zero)) g low here = ap (λ (h : Granularity). Some h) (is_at config.granularity 2 g here)
is_config config (suc (suc (suc i))) g low here = absurd (omega (arith, low))

pub here_at : (config : ConfigState) (i k : ℕ) (g : Granularity) → i < 3 → k ≡ i → slice_get config.granularity k ≡ Some g → slice_get (stores_of config) i ≡ Some g
here_at config i k g low same here = is_config config i g low (ap (slice_get config.granularity) (sym same) ∙ here)

-- manifests of three places have their granularities
pub same_granularities : (gs : List Granularity) (ms : List ManifestState) → length ms ≡ length gs → AtEach ms (λ i m. slice_get gs i ≡ Some m.granularity) → granularities ms ≡ gs
same_granularities [] [] same each = refl
same_granularities [] (m ∷ ms) same each = absurd (omega (arith, same))
same_granularities (g ∷ gs) [] same each = absurd (omega (arith, same))
same_granularities (g ∷ gs) (m ∷ ms) same each = λ i. sym (same_Some g m.granularity (each 0 m refl)) i ∷ same_granularities gs ms (omega (arith, same)) (λ k n here. each (suc k) n here) i
