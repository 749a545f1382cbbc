-- Settled files hold their batches, in each image that a crash may leave, and so do they while other files change.
use Rattle.std.proofs.Common.{◌≡◌, ◌≢◌, inl, inr, ℕ, ◌<◌, ◌^◌, List, [], ◌∷◌, ◌++◌, length, sym, ◌∙◌, ap, subst, arith}
use Rattle.std.proofs.lemmas.List.{length_push}
use Rattle.disk_model.specs.Files.{Name, Content, Files}
use Rattle.disk_model.specs.Past.{MayLeave, Passes}
use Rattle.gate_journal.specs.Batches.{HasBatches, IsShort}
use Rattle.gate_journal.specs.Journal.{JournalState, IsThere, IsSettledWith}
use Rattle.gate_journal.specs.Generations.{at_name, generation_name, IsOwn, generation_batches, HasBatchesOf}
use Rattle.gate_journal.specs.Plain.{PlainState, IsSettled}
use Rattle.gate_journal.specs.DiskShown.{DiskShown}
use Rattle.gate_journal.proofs.Begin.{batches_short}
use Rattle.gate_journal.proofs.Elsewhere.{settled_stays, journal_left}
use Rattle.gate_journal.proofs.FileNames.{at_apart}

-- a file that has a batch isn't short
pub not_short : (c : Content) (bs : List (List ℕ)) (b : List ℕ) → HasBatches c (bs ++ b ∷ []) → IsShort c → ⊥
not_short c bs b has short = let none = ap length (batches_short c (bs ++ b ∷ []) short has) in omega (arith, none, length_push bs b)

-- the parts of an image's batches
pub holds_at : (name at current : Name) (image : Files) (g : ℕ) (bs : List (List ℕ)) → g < 2 ^ 64 → at ≡ at_name name → current ≡ generation_name name g
    → HasBatches (image at) (generation_batches g) → HasBatches (image current) bs → IsThere g (image current) → HasBatchesOf name image bs
holds_at name at current image g bs small is_at is_current told batches there = record {
  generation = g;
  small = small;
  told = subst (λ (n : Name). HasBatches (image n) (generation_batches g)) is_at told;
  batches = subst (λ (n : Name). HasBatches (image n) bs) is_current batches;
  there = subst (λ (n : Name). IsThere g (image n)) is_current there;
}

pub settled_seen : (journal : PlainState) (disk : DiskShown) (bs : List (List ℕ)) → IsSettled journal disk bs → HasBatches (disk.files journal.name) bs
settled_seen journal disk bs settled = subst (λ (c : Content). HasBatches c bs) (sym settled.file) (inr settled.reads)

-- what a crash leaves of a settled file is what reads give
pub same_left : (journal : PlainState) (disk : DiskShown) (bs : List (List ℕ)) → IsSettled journal disk bs → (image : Files) → MayLeave disk.past image → image journal.name ≡ disk.files journal.name
same_left journal disk bs settled image left = settled.durable image left ∙ sym settled.file

module _ (journal : JournalState) (disk : DiskShown) (bs : List (List ℕ)) (s : IsSettledWith journal disk bs) where
  pub names_apart : journal.at.name ≢ journal.current.name
  names_apart same = at_apart journal.name s.generation s.named.small (sym s.named.current ∙ sym same ∙ s.named.at)

  pub at_is_own : IsOwn journal.name journal.at.name
  at_is_own = inl s.named.at

  pub current_is_own : IsOwn journal.name journal.current.name
  current_is_own = inr (s.generation, s.named.small, s.named.current)

  pub holds_left : (image : Files) → MayLeave disk.past image → HasBatchesOf journal.name image bs
  holds_left image left =
      holds_at journal.name journal.at.name journal.current.name image s.generation bs s.named.small s.named.at s.named.current (journal_left journal.at disk (generation_batches s.generation) s.at image left)
      (journal_left journal.current disk bs s.current image left)
      (subst (IsThere s.generation) (sym (same_left journal.current disk bs s.current image left)) s.there)

  -- and so does an image in which the two files are the same
  pub holds_behind : (b c : Files) → MayLeave disk.past b → c journal.at.name ≡ b journal.at.name → c journal.current.name ≡ b journal.current.name → HasBatchesOf journal.name c bs
  holds_behind b c was at_same current_same =
      let at_is = at_same ∙ same_left journal.at disk (generation_batches s.generation) s.at b was in
      let current_is = current_same ∙ same_left journal.current disk bs s.current b was in
      holds_at journal.name journal.at.name journal.current.name c s.generation bs s.named.small s.named.at s.named.current
      (subst (λ (x : Content). HasBatches x (generation_batches s.generation)) (sym at_is) (settled_seen journal.at disk (generation_batches s.generation) s.at))
      (subst (λ (x : Content). HasBatches x bs) (sym current_is) (settled_seen journal.current disk bs s.current)) (subst (IsThere s.generation) (sym current_is) s.there)

  -- while the two files stay, so does the journal
  abbrev pub settled_with_stays : (new : DiskShown) (R : Files → Files → Type 0) → Passes R disk.past new.past
      → ((a c : Files) → R a c → c journal.at.name ≡ a journal.at.name) → ((a c : Files) → R a c → c journal.current.name ≡ a journal.current.name)
      → new.files journal.at.name ≡ disk.files journal.at.name → new.files journal.current.name ≡ disk.files journal.current.name
      → ((n : Name) → IsOwn journal.name n → new.opened n ≡ 0)
      → IsSettledWith journal new bs
  settled_with_stays new R passes at_stays current_stays at_same current_same unopened = record {
    generation = s.generation;
    named = record { small = s.named.small; at = s.named.at; current = s.named.current; unopened = unopened };
    at = settled_stays journal.at disk new (generation_batches s.generation) R s.at passes at_stays at_same (let none = unopened journal.at.name at_is_own in omega (arith, none));
    current = settled_stays journal.current disk new bs R s.current passes current_stays current_same (let none = unopened journal.current.name current_is_own in omega (arith, none));
    there = subst (IsThere s.generation) (sym current_same) s.there;
  }

-- it doesn't matter what else the journal knows
abbrev pub settled_as : (one other : JournalState) (disk : DiskShown) (bs : List (List ℕ)) → other.name ≡ one.name → other.at ≡ one.at → other.current ≡ one.current
    → IsSettledWith one disk bs → IsSettledWith other disk bs
settled_as one other disk bs same_name same_at same_current s = record {
  generation = s.generation;
  named = record {
    small = s.named.small;
    at = ap (λ (j : PlainState). j.name) same_at ∙ s.named.at ∙ ap at_name (sym same_name);
    current = ap (λ (j : PlainState). j.name) same_current ∙ s.named.current ∙ ap (λ (n : Name). generation_name n s.generation) (sym same_name);
    unopened = subst (λ (m : Name). (n : Name) → IsOwn m n → disk.opened n ≡ 0) (sym same_name) s.named.unopened;
  };
  at = subst (λ (j : PlainState). IsSettled j disk (generation_batches s.generation)) (sym same_at) s.at;
  current = subst (λ (j : PlainState). IsSettled j disk bs) (sym same_current) s.current;
  there = subst (λ (j : PlainState). IsThere s.generation (disk.files j.name)) (sym same_current) s.there;
}
