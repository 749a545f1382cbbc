-- The file of the generation before is removed.
use Rattle.std.proofs.Common.{◌≡◌, ◌≢◌, inl, inr, ℕ, ◌+◌, ◌<◌, ◌^◌, List, None, sym, ◌∙◌, ap, subst, arith}
use Rattle.disk_model.specs.Files.{Name, Files, At, KeptOr}
use Rattle.disk_model.specs.Past.{Past, MayLeave, Passes, Only}
use Rattle.gate_journal.specs.Journal.{JournalState, IsSettledWith, HasNoneBefore}
use Rattle.gate_journal.specs.Generations.{generation_name, IsOwn, AtOwn, HasBatchesOf}
use Rattle.gate_journal.specs.DiskShown.{DiskShown, ChangesUnopened}
use Rattle.gate_journal.proofs.FileNames.{at_apart, one_generation, is_next}
use Rattle.gate_journal.proofs.Holding.{holds_behind, settled_with_stays}
use Rattle.gate_journal.proofs.Owned.{own_then, leaves_at}

module _ (journal : JournalState) (disk : DiskShown) (bs : List (List ℕ)) (s : IsSettledWith journal disk bs)
    (g : ℕ) (before : g + 1 ≡ s.generation) (old : Name) (named : old ≡ generation_name journal.name g) where
  pub small : g < 2 ^ 64
  small = let whole = s.named.small in omega (arith, before, whole)

  pub at_not_old : journal.at.name ≢ old
  at_not_old same = at_apart journal.name g small (sym named ∙ sym same ∙ s.named.at)

  pub current_not_old : journal.current.name ≢ old
  current_not_old same = let is = one_generation journal.name g s.generation small s.named.small (sym named ∙ sym same ∙ s.named.current) in omega (arith, is, before)

  pub old_is_own : IsOwn journal.name old
  old_is_own = inr (g, small, named)

  pub removal_passes : (R : Files → Files → Type 0) (start new : Past) → Passes (AtOwn journal.name R) start disk.past → Passes (At old (KeptOr None)) disk.past new
      → ((a b c : Files) → R a b → MayLeave disk.past b → HasBatchesOf journal.name c bs → R a c) → Passes (AtOwn journal.name R) start new
  removal_passes R start new first second keeps =
      own_then journal.name R (At old (KeptOr None)) start disk.past new first second
      (λ a b c so_far was step. keeps a b c so_far was (holds_behind journal disk bs s b c was (step.elsewhere journal.at.name at_not_old) (step.elsewhere journal.current.name current_not_old)))
      (leaves_at journal.name old (KeptOr None) old_is_own)

  module _ (new : DiskShown) (gone : ChangesUnopened old (KeptOr None) disk new) where
    pub all_unopened : (n : Name) → IsOwn journal.name n → new.opened n ≡ 0
    all_unopened n own = elim (is_next journal.name n g small own) [
      | inl is ↦ ap new.opened (is ∙ sym named) ∙ gone.unopened
      | inr other ↦ gone.opened n (λ is. other (is ∙ named)) ∙ s.named.unopened n own
    ]

    abbrev pub removed : IsSettledWith journal new bs
    removed =
        settled_with_stays journal disk bs s new (At old (KeptOr None)) gone.any_moment (λ a c step. step.elsewhere journal.at.name at_not_old) (λ a c step. step.elsewhere journal.current.name current_not_old)
        (gone.files.elsewhere journal.at.name at_not_old) (gone.files.elsewhere journal.current.name current_not_old) all_unopened

-- the file of the generation before is gone
pub none_before : (journal : JournalState) (disk : DiskShown) (g : ℕ) (old : Name) → g + 1 < 2 ^ 64 → journal.current.name ≡ generation_name journal.name (g + 1) → old ≡ generation_name journal.name g
    → (disk.files old ≡ None) × Only disk.past old None → HasNoneBefore journal disk
none_before journal disk g old small named is gone h small_h named_h =
    let same = one_generation journal.name (h + 1) (g + 1) small_h small (sym named_h ∙ named) in
    let number : g ≡ h = omega (arith, same) in
    let P : Name → Type 0 = λ n. (disk.files n ≡ None) × Only disk.past n None in subst P (is ∙ ap (λ (k : ℕ). generation_name journal.name k) number) gone
