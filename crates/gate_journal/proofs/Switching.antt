-- The next generation's file is made, and then the file that tells the generation tells it.
use Rattle.std.proofs.Common.{◌≡◌, ◌≢◌, inl, inr, ℕ, List, Some, Result, Err, refl, sym, ◌∙◌, ap, subst, arith}
use Rattle.disk_model.specs.Files.{Name, Files, At}
use Rattle.disk_model.specs.Past.{Past, MayLeave, Passes, Only}
use Rattle.disk_model.proofs.Passing.{passes_then, passes_weaker, only_elsewhere}
use Rattle.disk_model.specs.declared.disk.DiskErr.{DiskErr}
use Rattle.gate_journal.specs.Journal.{Switches, SwitchesTo, IsLeft}
use Rattle.gate_journal.specs.Plain.{PlainState, IsJournal, BeforeOrAfter, IsSettled}
use Rattle.gate_journal.specs.DiskShown.{DiskShown}
use Rattle.gate_journal.proofs.Elsewhere.{settled_stays}
use Rattle.gate_journal.proofs.Files.{Anyhow}

pub settled_journal : (journal : PlainState) (disk : DiskShown) (bs : List (List ℕ)) → IsSettled journal disk bs → (image : Files) → MayLeave disk.past image → IsJournal bs (image journal.name)
settled_journal journal disk bs settled image left = subst (IsJournal bs) (sym (settled.durable image left)) settled.reads

module _ (at : PlainState) (disk : DiskShown) (bs : List (List ℕ)) (settled : IsSettled at disk bs) (next : Name) (apart : at.name ≢ next) (batch bytes : List ℕ) (mid : DiskShown) (one : Passes (Anyhow next) disk.past mid.past) where
  making_passes : Passes (Switches at.name next bs batch bytes) disk.past mid.past
  making_passes = passes_weaker (Anyhow next) (Switches at.name next bs batch bytes) disk.past mid.past one (λ a c was step. record {
    here = inl (subst (IsJournal bs) (sym (step.elsewhere at.name apart)) (settled_journal at disk bs settled a was));
    elsewhere = λ n not_at not_next. step.elsewhere n not_next;
  })

  -- the file that tells the generation is as it was
  pub made_settled : mid.files at.name ≡ disk.files at.name → mid.opened at.name ≡ disk.opened at.name → IsSettled at mid bs
  made_settled same same_opened =
      settled_stays at disk mid bs (Anyhow next) settled one (λ a c step. step.elsewhere at.name apart) same (omega (arith, same_opened))

  -- it wasn't made, and nothing was committed
  pub not_made : (result : Result (Unit {0}) DiskErr) (e : DiskErr) → result ≡ Err e → ((n : Name) → n ≢ next → mid.files n ≡ disk.files n) → ((n : Name) → n ≢ next → mid.opened n ≡ disk.opened n) → mid.opened next ≡ 0
      → SwitchesTo next bs batch bytes result at at disk mid
  not_made result e failed elsewhere opened unopened =
      let left : IsLeft at at mid bs = record { same = refl; settled = made_settled (elsewhere at.name apart) (opened at.name apart) } in
      rw failed (record {
        told = tt;
        made = tt;
        any_moment = making_passes;
        left = λ memory. left;
        in_doubt = λ fault. inl left;
        elsewhere = λ n not_at not_next. elsewhere n not_next;
        untold = λ memory. (elsewhere, one);
        opened = opened;
        unopened = unopened;
      })

  module _ (durable : Only mid.past next (Some bytes)) (new : Past) (two : Passes (At at.name (BeforeOrAfter bs batch)) mid.past new) where
    pub switch_passes : Passes (Switches at.name next bs batch bytes) disk.past new
    switch_passes = passes_then (Switches at.name next bs batch bytes) (At at.name (BeforeOrAfter bs batch)) disk.past mid.past new making_passes two (λ a b c was before now step. record {
      here = elim step.here [
        | inl without ↦ inl without
        | inr with_it ↦ inr (with_it, step.elsewhere next (λ is. apart (sym is)) ∙ durable b now)
      ];
      elsewhere = λ n not_at not_next. step.elsewhere n not_at ∙ before.elsewhere n not_at not_next;
    })

    pub still_durable : Only new next (Some bytes)
    still_durable = only_elsewhere (BeforeOrAfter bs batch) mid.past new at.name next (Some bytes) two (λ is. apart (sym is)) durable

-- the call behind it did nothing
pub files_same : {S : Type 0} (files : S → Files) (mid new : S) (n : Name) → new ≡ mid → files new n ≡ files mid n
files_same {S} files mid new n same = ap (λ (d : S). files d n) same

pub passes_same : {S : Type 0} (past : S → Past) (R : Files → Files → Type 0) (old : Past) (mid new : S) → new ≡ mid → Passes R old (past mid) → Passes R old (past new)
passes_same {S} past R old mid new same passes = subst (λ (d : S). Passes R old (past d)) (sym same) passes

-- nothing was committed to it
pub left_same : {S : Type 0} (shows : S → DiskShown) (mid new : S) (at after : PlainState) (bs : List (List ℕ)) → new ≡ mid → after ≡ at
    → IsSettled at (shows mid) bs → IsLeft at after (shows new) bs
left_same {S} shows mid new at after bs same same_state settled = record {
  same = same_state;
  settled =
      subst (λ (d : S). IsSettled after (shows d) bs) (sym same) (subst (λ (j : PlainState). IsSettled j (shows mid) bs) (sym same_state) settled);
}
