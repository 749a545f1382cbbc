-- What an act that carries no samples leaves of what is durable, and what in doubt.
use Rattle.std.proofs.Common.{◌≡◌, ℕ, List, [], Option, Some, None, true, refl, ap, sym, ◌∙◌, inl, inr}
use Rattle.std.specs.Prelude.{◌⊎◌, slice_get}
use Rattle.std.proofs.lemmas.Option.{same_Some}
use Rattle.std.specs.Ordering.{nat_cmp}
use Rattle.std.specs.FinMap.{FinMap}
use Rattle.series_model.specs.Series.{over}
use Rattle.act_model.specs.Changes.{Settles, no_doubt, as_not_made, as_made, made}
use Rattle.act_model.specs.Machine.{Machine, MoveState, Change, Renames}
use Rattle.act_model.specs.Outcome.{Acts, refused_at_once, refused, runs, faults_first, faults_between, faults_within, faults_removing, wants_memory, wants_memory_settled}
use Rattle.act_model.specs.Reply.{Reply}
use Rattle.act_model.specs.Rows.{RowState, durable}
use Rattle.act_model.specs.Sound.{IsSound}
use Rattle.act_model.proofs.Onward.{onward_settled}
use Rattle.act_model.proofs.StepLaws.{settled_sound, settled_none}
use Rattle.two_histories.specs.ArchiveStore.{appended, doubted}
use Rattle.two_histories.proofs.Closing.{IsClosed, is_base, may_be_base, bases_same, closed_settled}
use Rattle.two_histories.proofs.Durables.{durable_in, made_durable}
use Rattle.two_histories.proofs.Retailed.{IsBase}
use Rattle.two_histories.proofs.Keeping.{KeepsDurable, keep_same, none_durable, past_durable}

-- the machine's tails are the samples in doubt
abbrev pub HasDoubtedTails : Machine → Type 0
HasDoubtedTails m = (i : ℕ) (row : RowState) → slice_get m.rows i ≡ Some row → row.tail ≡ doubted m.doubt i

-- a row's durable samples are as they were, or have what was in doubt behind them
abbrev pub SettledAt : Machine → List RowState → ℕ → Type 0
SettledAt old rows i = (durable_in rows i ≡ durable_in old.rows i) ⊎ ((row : RowState) × (slice_get old.rows i ≡ Some row) × (durable_in rows i ≡ over (durable row) (doubted old.doubt i)))

pub settled_durable : {old mid : Machine} → Settles old mid → IsSound old → old.told ≡ true → HasDoubtedTails old → (i : ℕ) → SettledAt old mid.rows i
settled_durable (no_doubt none) s t tails i = inl refl
settled_durable (as_not_made change is) s t tails i = inl refl
settled_durable {old} (as_made change into is retires) s t tails i = by_row (slice_get old.rows i) refl
  where
    by_row : (o : Option RowState) → slice_get old.rows i ≡ o → SettledAt old (made into change old).rows i
    by_row (Some row) here =
        let same : doubted old.doubt i ≡ appended change i = ap (λ d. doubted d i) is in
        inr (row, here, made_durable old into change s t (s.doubted change is).0 i row here (tails i row here ∙ same) ∙ ap (λ w. over (durable row) w) (sym same))
    by_row None none = inl (past_durable old.told old.limbo change old.rows i none ∙ sym (none_durable old.rows i none))

-- nothing is in doubt that appends samples
abbrev pub NoneDoubted : Option Change → Type 0
NoneDoubted doubt = (i : ℕ) → doubted doubt i ≡ []

-- what is left: a doubt was settled, and no samples are in doubt; or nothing was, and the doubt is as it was
pub record Went (old new : Machine) : Type 0 where
  pub settled : (i : ℕ) → SettledAt old new.rows i
  pub doubt : NoneDoubted new.doubt ⊎ ((new.doubt ≡ old.doubt) × (new.rows ≡ old.rows))

pub no_samples : (doubt : Option Change) → doubt ≡ None → NoneDoubted doubt
no_samples doubt none i = ap (λ d. doubted d i) none

-- rows that keep what a settled doubt left
further : (old : Machine) (mid news : List RowState) → ((i : ℕ) → SettledAt old mid i) → KeepsDurable mid news → (i : ℕ) → SettledAt old news i
further old mid news settled keeps i = by_kind (settled i)
  where
    by_kind : SettledAt old mid i → SettledAt old news i
    by_kind (inl same) = inl (keeps i ∙ same)
    by_kind (inr more) = inr (more.0, more.1, keeps i ∙ more.2)

-- each row that is closed was so before
abbrev pub ClosesNone : Machine → Machine → Type 0
ClosesNone old new = (i : ℕ) → IsClosed new.rows new.doubt i → IsClosed old.rows old.doubt i

pub closed_same : (old new : Machine) → new.rows ≡ old.rows → new.doubt ≡ old.doubt → ClosesNone old new
closed_same old new rows doubt i (is_base b) = is_base (bases_same old.rows new.rows rows i b)
closed_same old new rows doubt i (may_be_base name row here is) = may_be_base name row (ap (λ w. slice_get w i) (sym rows) ∙ here) (sym doubt ∙ is)

-- nothing was settled
pub went_nowhere : (old new : Machine) → new.rows ≡ old.rows → new.doubt ≡ old.doubt → Went old new
went_nowhere old new rows doubt = record { settled = λ i. inl (keep_same old.rows new.rows rows i); doubt = inr (doubt, rows) }

-- A row was closed before, or the act closes it, which isn't refused once a doubt is settled.
pub data Closes (refuse : Machine → Option Reply) (closes : Machine → ℕ → Type 0) (old new : Machine) (i : ℕ) : Type 0 where
  was_closed : IsClosed old.rows old.doubt i → Closes refuse closes old new i
  is_closed : (mid : Machine) → Settles old mid → refuse mid ≡ None → closes mid i → durable_in new.rows i ≡ durable_in mid.rows i → Closes refuse closes old new i

module _ (refuse : Machine → Option Reply) (run : Machine → Reply → Machine → Type 0) (change : Machine → Option Change) (stopped : FinMap nat_cmp MoveState → FinMap nat_cmp MoveState) (closes : Machine → ℕ → Type 0)
    (run_keeps : (mid : Machine) (answer : Reply) (new : Machine) → IsSound mid → mid.told ≡ true → run mid answer new → KeepsDurable mid.rows new.rows × ((i : ℕ) → IsBase new.rows i → IsBase mid.rows i ⊎ closes mid i) × (new.doubt ≡ mid.doubt))
    (no_batch : (m : Machine) (one : Change) → change m ≡ Some one → ((i : ℕ) → appended one i ≡ []) × ((k : ℕ) (name : List ℕ) → one ≡ Renames k name → closes m k)) where
  abbrev ClosesEach : Machine → Machine → Type 0
  ClosesEach old new = (i : ℕ) → IsClosed new.rows new.doubt i → Closes refuse closes old new i

  settled_to : {old mid : Machine} (new : Machine) → Settles old mid → IsSound old → old.told ≡ true → HasDoubtedTails old → KeepsDurable mid.rows new.rows → NoneDoubted new.doubt → Went old new
  settled_to {old} {mid} new settles s t tails keeps none = record { settled = further old mid.rows new.rows (settled_durable settles s t tails) keeps; doubt = inl none }

  ran_to : {old mid : Machine} (answer : Reply) (new : Machine) → Settles old mid → IsSound old → old.told ≡ true → HasDoubtedTails old → refuse mid ≡ None → run mid answer new → Went old new × ClosesEach old new
  ran_to {old} {mid} answer new settles s t tails free ran = (settled_to new settles s t tails kept.0 (no_samples new.doubt none), by_kind)
    where
      kept : KeepsDurable mid.rows new.rows × ((i : ℕ) → IsBase new.rows i → IsBase mid.rows i ⊎ closes mid i) × (new.doubt ≡ mid.doubt)
      kept = run_keeps mid answer new (settled_sound settles s) ((onward_settled s settles).told ∙ t) ran

      none : new.doubt ≡ None
      none = kept.2 ∙ settled_none settles

      by_base : (i : ℕ) → IsBase mid.rows i ⊎ closes mid i → Closes refuse closes old new i
      by_base i (inl was) = was_closed (closed_settled settles i (is_base was))
      by_base i (inr now) = is_closed mid settles free now (kept.0 i)

      by_kind : ClosesEach old new
      by_kind i (is_base b) = by_base i (kept.1 i b)
      by_kind i (may_be_base name row here is) = absurd (let bad = sym none ∙ is in cc)

  same_to : {old mid : Machine} (new : Machine) → Settles old mid → IsSound old → old.told ≡ true → HasDoubtedTails old → new.rows ≡ mid.rows → new.doubt ≡ mid.doubt → Went old new × ClosesEach old new
  same_to {old} {mid} new settles s t tails rows doubt =
      (settled_to new settles s t tails (keep_same mid.rows new.rows rows) (no_samples new.doubt (doubt ∙ settled_none settles)), λ i c. was_closed (closed_settled settles i (closed_same mid new rows doubt i c)))

  fails_to : {old mid : Machine} (one : Change) (new : Machine) → Settles old mid → IsSound old → old.told ≡ true → HasDoubtedTails old → refuse mid ≡ None → change mid ≡ Some one → new.rows ≡ mid.rows → new.doubt ≡ Some one → Went old new × ClosesEach old new
  fails_to {old} {mid} one new settles s t tails free makes rows doubt =
      (settled_to new settles s t tails (keep_same mid.rows new.rows rows) (λ i. ap (λ d. doubted d i) doubt ∙ (no_batch mid one makes).0 i), by_kind)
    where
      by_kind : ClosesEach old new
      by_kind i (is_base b) = was_closed (closed_settled settles i (is_base (bases_same mid.rows new.rows rows i b)))
      by_kind i (may_be_base name row here is) = is_closed mid settles free ((no_batch mid one makes).1 i name (same_Some one (Renames i name) (sym doubt ∙ is))) (keep_same mid.rows new.rows rows i)

  nowhere : (old new : Machine) → new.rows ≡ old.rows → new.doubt ≡ old.doubt → Went old new × ClosesEach old new
  nowhere old new rows doubt = (went_nowhere old new rows doubt, λ i c. was_closed (closed_same old new rows doubt i c))

  pub acts_went : {old new : Machine} {answer : Reply} → IsSound old → old.told ≡ true → HasDoubtedTails old → Acts refuse run change stopped old answer new → Went old new × ClosesEach old new
  acts_went {old} {new} s t tails (refused_at_once answer p) = nowhere old new refl refl
  acts_went {old} {new} s t tails (refused answer p settles q same r) = same_to new settles s t tails (ap (λ (m : Machine). m.rows) same) (ap (λ (m : Machine). m.doubt) same)
  acts_went {old} {new} s t tails (runs answer p settles q ran r) = ran_to answer new settles s t tails q ran
  acts_went {old} {new} s t tails (faults_first p same q) = nowhere old new (ap (λ (m : Machine). m.rows) same) (ap (λ (m : Machine). m.doubt) same)
  acts_went {old} {new} s t tails (faults_between p settles same q) = same_to new settles s t tails (ap (λ (m : Machine). m.rows) same) (ap (λ (m : Machine). m.doubt) same)
  acts_went {old} {new} s t tails (faults_within one p settles q r same u) = fails_to one new settles s t tails q r (ap (λ (m : Machine). m.rows) same) (ap (λ (m : Machine). m.doubt) same)
  acts_went {old} {new} s t tails (faults_removing answer removes p settles q ran r) = ran_to answer new settles s t tails q ran
  acts_went {old} {new} s t tails (wants_memory same q) = nowhere old new (ap (λ (m : Machine). m.rows) same) (ap (λ (m : Machine). m.doubt) same)
  acts_went {old} {new} s t tails (wants_memory_settled p settles same q) = same_to new settles s t tails (ap (λ (m : Machine). m.rows) same) (ap (λ (m : Machine). m.doubt) same)
