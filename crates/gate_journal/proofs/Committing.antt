-- A commit to the current generation's file.
use Rattle.std.proofs.Common.{◌≡◌, ◌⊎◌, inl, inr, ℕ, List, [], ◌∷◌, ◌++◌, Bool, true, Some, None, refl, sym, ◌∙◌, ap, subst, arith}
use Rattle.disk_model.specs.Files.{Name, Content, Files, At}
use Rattle.disk_model.specs.Past.{Past, MayLeave, Passes}
use Rattle.gate_journal.specs.Batches.{HasBatches}
use Rattle.gate_journal.specs.Journal.{JournalState, state_of, IsThere, IsSettledWith, IsUncommitted, IsOpen, IsUndecided, IsOrderly, is_sound_with}
use Rattle.gate_journal.specs.declared.journal.Pending.{Pending}
use Rattle.gate_journal.specs.declared.journal.Pending.TheVariants.{Nothing, Switch, Removal}
use Rattle.gate_journal.specs.Generations.{IsOwn, AtOwn, HasOneOf, HasBatchesOf, generation_batches}
use Rattle.gate_journal.specs.Plain.{PlainState, IsEither, BeforeOrAfter, NoShorter, IsSettled, IsInDoubt}
use Rattle.gate_journal.specs.DiskShown.{DiskShown}
use Rattle.gate_journal.proofs.Elsewhere.{settled_stays}
use Rattle.gate_journal.proofs.Holding.{holds_at, settled_seen, same_left, names_apart, at_is_own, current_is_own, not_short}
use Rattle.gate_journal.proofs.Begin.{journal_has}
use Rattle.gate_journal.proofs.Owned.{passes_joined, left_now}

-- a journal that may commit has nothing open
pub sound_parts : (pending : Pending) (at current : PlainState) → is_sound_with pending current.sound ≡ true → IsOrderly pending at current → (at.sound ≡ true) × (current.sound ≡ true) × (pending ≡ Nothing)
sound_parts Nothing at current sound orderly = (orderly, sound, refl)
sound_parts (Switch next) at current sound orderly = absurd (cc sound)
sound_parts (Removal old) at current sound orderly = absurd (cc sound)

-- an open checkpoint has one journal
pub same_next : (pending : Pending) (next other : PlainState) → pending ≡ Switch next → pending ≡ Switch other → next ≡ other
same_next pending next other one two = let same : Switch next ≡ Switch other = sym one ∙ two in cc same

pub state_same : (name : Name) (at current other : PlainState) (pending also : Pending) → current ≡ other → pending ≡ also → state_of name at current pending ≡ state_of name at other also
state_same name at current other pending also same too = ap (λ (j : PlainState). state_of name at j pending) same ∙ ap (λ (p : Pending). state_of name at other p) too

pub orderly_nothing : (pending : Pending) (at current : PlainState) → pending ≡ Nothing → at.sound ≡ true → IsOrderly pending at current
orderly_nothing pending at current is sound = subst (λ (p : Pending). IsOrderly p at current) (sym is) sound

pub nothing_sound : (pending : Pending) (sound : Bool) → pending ≡ Nothing → is_sound_with pending sound ≡ sound
nothing_sound pending sound is = ap (λ (p : Pending). is_sound_with p sound) is

pub no_shorter_there : (g : ℕ) (x y : Content) → NoShorter x y → IsThere g x → IsThere g y
no_shorter_there g None None grown there = there
no_shorter_there g None (Some c) grown there = absurd grown
no_shorter_there g (Some b) None grown there = absurd grown
no_shorter_there g (Some b) (Some c) grown there = λ later short. there later (omega (arith, grown, short))

module _ (journal : JournalState) (disk : DiskShown) (bs : List (List ℕ)) (s : IsSettledWith journal disk bs) (batch : List ℕ) where
  either_holds : (c : Files) → c journal.at.name ≡ disk.files journal.at.name → IsEither bs batch (c journal.current.name) → IsThere s.generation (c journal.current.name)
      → HasBatchesOf journal.name c bs ⊎ HasBatchesOf journal.name c (bs ++ batch ∷ [])
  either_holds c at_same either there =
      let told : HasBatches (c journal.at.name) (generation_batches s.generation) =
      subst (λ (x : Content). HasBatches x (generation_batches s.generation)) (sym at_same) (settled_seen journal.at disk (generation_batches s.generation) s.at) in
      let holds = λ (cs : List (List ℕ)) (has : HasBatches (c journal.current.name) cs). holds_at journal.name journal.at.name journal.current.name c s.generation cs s.named.small s.named.at s.named.current told has there in
      elim either [
        | inl without ↦ inl (holds bs (journal_has bs (c journal.current.name) without))
        | inr with_it ↦ inr (holds (bs ++ batch ∷ []) (journal_has (bs ++ batch ∷ []) (c journal.current.name) with_it))
      ]

  there_after : (a c : Files) → MayLeave disk.past a → At journal.current.name NoShorter a c → IsThere s.generation (c journal.current.name)
  there_after a c was step =
      no_shorter_there s.generation (a journal.current.name) (c journal.current.name) step.here (subst (IsThere s.generation) (sym (same_left journal.current disk bs s.current a was)) s.there)

  at_stays : (a c : Files) → At journal.current.name (BeforeOrAfter bs batch) a c → c journal.at.name ≡ a journal.at.name
  at_stays a c step = step.elsewhere journal.at.name (names_apart journal disk bs s)

  pub commit_passes : (new : Past) → Passes (At journal.current.name (BeforeOrAfter bs batch)) disk.past new → Passes (At journal.current.name NoShorter) disk.past new
      → Passes (AtOwn journal.name (HasOneOf journal.name bs (bs ++ batch ∷ []))) disk.past new
  commit_passes new one two =
      passes_joined (At journal.current.name (BeforeOrAfter bs batch)) (At journal.current.name NoShorter) (AtOwn journal.name (HasOneOf journal.name bs (bs ++ batch ∷ []))) disk.past new one two (λ a b c was step too grown. record {
        here = either_holds c (at_stays a c step ∙ same_left journal.at disk (generation_batches s.generation) s.at a was) step.here (there_after b c too grown);
        elsewhere = λ n other. step.elsewhere n (λ is. other (subst (IsOwn journal.name) (sym is) (current_is_own journal disk bs s)));
      })

  module _ (current : PlainState) (pending : Pending) (new : DiskShown) (same_name : current.name ≡ journal.current.name)
      (at_same : new.files journal.at.name ≡ disk.files journal.at.name) (same_opened : new.opened ≡ disk.opened) (one : Passes (At journal.current.name (BeforeOrAfter bs batch)) disk.past new.past) where
    abbrev after : JournalState
    after = state_of journal.name journal.at current pending

    unopened : (n : Name) → IsOwn journal.name n → new.opened n ≡ 0
    unopened n own = ap (λ (f : Name → ℕ). f n) same_opened ∙ s.named.unopened n own

    at_settled : IsSettled journal.at new (generation_batches s.generation)
    at_settled =
        settled_stays journal.at disk new (generation_batches s.generation) (At journal.current.name (BeforeOrAfter bs batch)) s.at one at_stays at_same
        (let none = unopened journal.at.name (at_is_own journal disk bs s) in omega (arith, none))

    pub committed : IsSettled current new (bs ++ batch ∷ []) → IsSettledWith after new (bs ++ batch ∷ [])
    committed settled = record {
      generation = s.generation;
      named = record { small = s.named.small; at = s.named.at; current = same_name ∙ s.named.current; unopened = unopened };
      at = at_settled;
      current = settled;
      there = λ later_one short. not_short (new.files current.name) bs batch (settled_seen current new (bs ++ batch ∷ []) settled) short;
    }

    pub uncommitted : pending ≡ Nothing → IsInDoubt current new bs batch → MayLeave new.past new.files → Passes (At journal.current.name NoShorter) disk.past new.past → IsUndecided after new bs (bs ++ batch ∷ [])
    uncommitted nothing doubt seen two =
        let left : (image : Files) → MayLeave new.past image → IsThere s.generation (image current.name) = λ image now.
        let come = left_now (At journal.current.name NoShorter) disk.past new.past image two now in subst (λ (n : Name). IsThere s.generation (image n)) (sym same_name) (there_after come.0 image come.1 come.2) in
        let is : IsUncommitted after new bs (bs ++ batch ∷ []) = record {
          generation = s.generation;
          batch = batch;
          more = refl;
          named = record { small = s.named.small; at = s.named.at; current = same_name ∙ s.named.current; unopened = unopened };
          at = at_settled;
          current = doubt;
          there = left new.files seen;
          there_left = left;
        } in
        subst (λ (p : Pending). IsOpen p after new bs (bs ++ batch ∷ [])) (sym nothing) is

-- a call that did nothing
pub settled_same : {D : Type 0} (shows : D → DiskShown) (old new : D) (journal after : JournalState) (bs : List (List ℕ)) → after ≡ journal → new ≡ old
    → IsSettledWith journal (shows old) bs → IsSettledWith after (shows new) bs
settled_same {D} shows old new journal after bs same_state same settled =
    subst (λ (d : D). IsSettledWith after (shows d) bs) (sym same) (subst (λ (j : JournalState). IsSettledWith j (shows old) bs) (sym same_state) settled)
