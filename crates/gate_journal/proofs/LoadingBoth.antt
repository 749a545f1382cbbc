-- A journal with checkpoints is loaded: the file that tells the generation, that generation's file, and the removal of the one before.
use Rattle.std.proofs.Common.{◌≡◌, ◌≢◌, ◌⊎◌, inl, inr, ℕ, zero, suc, ◌+◌, ◌-◌, ◌<◌, ◌≤◌, ◌^◌, List, length, Some, None, refl, sym, ◌∙◌, ap, subst, arith}
use Rattle.disk_model.specs.Files.{Name, Content, Files, At, size_of}
use Rattle.disk_model.specs.Past.{Passes, Only}
use Rattle.gate_journal.specs.Batches.{HasBatches, IsBadJournal, IsShort}
use Rattle.gate_journal.specs.Journal.{JournalState, state_of, IsThere, IsSettledWith, HasNoneBefore}
use Rattle.gate_journal.specs.declared.journal.Pending.{Pending}
use Rattle.gate_journal.specs.Generations.{at_name, generation_name, generation_batches, IsOwn, HasBatchesOf, IsBadOf, IsBefore}
use Rattle.gate_journal.specs.Load.{StaysOrShort, OnlyClears}
use Rattle.gate_journal.specs.Plain.{PlainState, IsSettled}
use Rattle.gate_journal.specs.DiskShown.{DiskShown, ChangesUnopened}
use Rattle.gate_journal.proofs.Elsewhere.{settled_stays}
use Rattle.gate_journal.proofs.FileNames.{at_apart, one_generation, is_next}
use Rattle.gate_journal.proofs.Synced.{own_decides, stays_there}

pub opened_none : (name file : Name) (opened later : Name → ℕ) → IsOwn name file → ((n : Name) → n ≢ file → later n ≡ opened n) → later file ≡ 0 → ((n : Name) → IsOwn name n → opened n ≡ 0) → (n : Name) → IsOwn name n → later n ≡ 0
opened_none name file opened later own others here none n too = elim (own_decides name file n own too) [ inl same ↦ ap later same ∙ here | inr other ↦ others n other ∙ none n too ]

module _ (name : Name) (g : ℕ) (small : g < 2 ^ 64) where
  pub before_own : (n : Name) → IsBefore name g n → IsOwn name n
  before_own n before = let less = before.before in inr (before.number, omega (arith, less, small), before.is)

  pub at_not_before : IsBefore name g (at_name name) → ⊥
  at_not_before before = let less = before.before in at_apart name before.number (omega (arith, less, small)) (sym before.is)

  pub current_not_before : IsBefore name g (generation_name name g) → ⊥
  current_not_before before =
      let less = before.before in
      let same = one_generation name g before.number small (omega (arith, less, small)) before.is in omega (arith, same, less)

  pub before_from : (h : ℕ) → h + 1 ≡ g → (n : Name) → IsOwn name n → IsBefore name g n ⊎ (IsBefore name g n → ⊥)
  before_from h is n own = elim (is_next name n h (omega (arith, is, small)) own) [
    | inl same ↦ inl (record { number = h; before = is; is = same })
    | inr other ↦ inr (λ before.
        let less = before.before in
        let number : before.number ≡ h = omega (arith, less, is) in other (before.is ∙ ap (λ (k : ℕ). generation_name name k) number))
  ]

  pub opened_cleared : (opened later : Name → ℕ) → ((n : Name) → (IsBefore name g n → ⊥) → later n ≡ opened n) → ((n : Name) → IsBefore name g n → later n ≡ 0) → ((n : Name) → IsOwn name n → opened n ≡ 0) → (n : Name) → IsOwn name n → later n ≡ 0
  opened_cleared opened later others here none n own = go g refl
    where
      go : (k : ℕ) → k ≡ g → later n ≡ 0
      go zero is = others n (λ before. let less = before.before in omega (arith, less, is)) ∙ none n own
      go (suc h) is = elim (before_from h (omega (arith, is)) n own) [ inl before ↦ here n before | inr other ↦ others n other ∙ none n own ]

  -- while the current generation's file is loaded, the file that tells the generation stays
  module _ (at : PlainState) (is_at : at.name ≡ at_name name) (first mid : DiskShown) (at_first : IsSettled at first (generation_batches g)) (two : ChangesUnopened (generation_name name g) StaysOrShort first mid) where
    at_not_current : at.name ≢ generation_name name g
    at_not_current same = at_apart name g small (sym same ∙ is_at)

    pub at_mid : IsSettled at mid (generation_batches g)
    at_mid =
        settled_stays at first mid (generation_batches g) (At (generation_name name g) StaysOrShort) at_first two.any_moment (λ a c step. step.elsewhere at.name at_not_current) (two.files.elsewhere at.name at_not_current)
        (let fewer = two.opened at.name at_not_current in omega (arith, fewer))

    pub all_loaded : (current : PlainState) (pending : Pending) (last : DiskShown) (bs : List (List ℕ)) → current.name ≡ generation_name name g → IsSettled current mid bs → IsThere g (first.files (generation_name name g))
        → OnlyClears name g mid.files last.files → Passes (OnlyClears name g) mid.past last.past → ((n : Name) → IsOwn name n → last.opened n ≡ 0) → IsSettledWith (state_of name at current pending) last bs
    all_loaded current pending last bs is_current current_settled there clears passes unopened =
        let at_stays = λ (a c : Files) (step : OnlyClears name g a c). (step at.name).1 (λ before. at_not_before (subst (IsBefore name g) is_at before)) in
        let current_stays = λ (a c : Files) (step : OnlyClears name g a c). (step current.name).1 (λ before. current_not_before (subst (IsBefore name g) is_current before)) in
        let none_at = unopened at.name (inl is_at) in
        let none_current = unopened current.name (inr (g, small, is_current)) in
        record {
          generation = g;
          named = record { small = small; at = is_at; current = is_current; unopened = unopened };
          at = settled_stays at mid last (generation_batches g) (OnlyClears name g) at_mid passes at_stays (at_stays mid.files last.files clears) (omega (arith, none_at));
          current = settled_stays current mid last bs (OnlyClears name g) current_settled passes current_stays (current_stays mid.files last.files clears) (omega (arith, none_current));
          there =
              let same = current_stays mid.files last.files clears ∙ ap mid.files is_current in
              subst (λ (x : Content). IsThere g x) (sym same) (stays_there g (first.files (generation_name name g)) (mid.files (generation_name name g)) two.files.here there);
        }

-- the journal that is loaded has none before
pub loaded_none_before : (name : Name) (g : ℕ) → g < 2 ^ 64 → (journal : JournalState) (disk : DiskShown) → journal.name ≡ name → journal.current.name ≡ generation_name name g
    → ((n : Name) → IsBefore name g n → (disk.files n ≡ None) × Only disk.past n None) → HasNoneBefore journal disk
loaded_none_before name g small journal disk is current gone h small_h named =
    let same = one_generation name (h + 1) g small_h small (ap (λ (m : Name). generation_name m (h + 1)) (sym is) ∙ sym named ∙ current) in
    let P : Name → Type 0 = λ n. (disk.files n ≡ None) × Only disk.past n None in
    subst P (ap (λ (m : Name). generation_name m h) (sym is)) (gone (generation_name name h) (record { number = h; before = same; is = refl }))

-- the one file before a generation
pub no_before : (name : Name) (g : ℕ) (n : Name) → g ≡ 0 → IsBefore name g n → ⊥
no_before name g n none before = let less = before.before in omega (arith, less, none)

pub before_is : (name : Name) (g : ℕ) (old n : Name) → old ≡ generation_name name (g - 1) → IsBefore name g n → n ≡ old
before_is name g old n is before =
    let less = before.before in
    let number : before.number ≡ g - 1 = omega (arith, less) in before.is ∙ ap (λ (k : ℕ). generation_name name k) number ∙ sym is

pub is_before : (name : Name) (g : ℕ) (old : Name) → 0 < g → old ≡ generation_name name (g - 1) → IsBefore name g old
is_before name g old some is = record { number = g - 1; before = omega (arith, some); is = is }

-- how many bytes tell of a file
pub sized_long : (c : Content) (n : ℕ) → size_of c ≡ Some n → 2 ≤ n → IsShort c → ⊥
sized_long None n size long short = cc size
sized_long (Some b) n size long short = let is : length b ≡ n = cc size in omega (arith, is, long, short)

pub sized_short : (c : Content) (n : ℕ) → size_of c ≡ Some n → n < 2 → IsShort c
sized_short None n size few = tt
sized_short (Some b) n size few = let is : length b ≡ n = cc size in omega (arith, is, few)

-- what reads gave
pub all_read : (name : Name) (g : ℕ) (files first : Files) (bs : List (List ℕ)) → g < 2 ^ 64 → At (at_name name) StaysOrShort files first → HasBatches (files (at_name name)) (generation_batches g) → HasBatches (first (generation_name name g)) bs
    → IsThere g (first (generation_name name g)) → HasBatchesOf name files bs
all_read name g files first bs small kept told has there =
    let same = kept.elsewhere (generation_name name g) (at_apart name g small) in
    record { generation = g; small = small; told = told; batches = subst (λ (x : Content). HasBatches x bs) same has; there = subst (λ (x : Content). IsThere g x) same there }

-- and where the current generation's file is bad
pub bad_read : (name : Name) (g : ℕ) (files first : Files) (file : Name) (place : ℕ) → g < 2 ^ 64 → At (at_name name) StaysOrShort files first → HasBatches (files (at_name name)) (generation_batches g) → file ≡ generation_name name g
    → IsBadJournal (first file) place ⊎ ((1 ≤ g) × IsShort (first file) × (place ≡ 0)) → IsBadOf name files file place
bad_read name g files first file place small kept told is bad =
    let same = kept.elsewhere file (λ at. at_apart name g small (sym is ∙ at)) in
    inr (record { generation = g; small = small; told = told; is = is; bad = subst (λ (x : Content). IsBadJournal x place ⊎ ((1 ≤ g) × IsShort x × (place ≡ 0))) same bad })
