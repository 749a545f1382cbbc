-- What a crash may leave of a journal in doubt, and what a review finds.
use Rattle.std.proofs.Common.{◌≡◌, ◌≢◌, ◌⊎◌, inl, inr, ℕ, ◌+◌, List, [], ◌∷◌, ◌++◌, Bool, IsTrue, true, false, None, Result, Ok, Err, IfOk, OnErr, refl, sym, ◌∙◌, ap, subst, arith}
use Rattle.std.proofs.lemmas.Result.{on_err_weaker}
use Rattle.std.specs.Int.{to_le_bytes, w64}
use Rattle.disk_model.specs.declared.disk.DiskErr.{DiskErr}
use Rattle.disk_model.specs.Files.{Name, Files, KeptOr}
use Rattle.disk_model.specs.Past.{Past, MayLeave, Passes}
use Rattle.gate_journal.specs.Batches.{HasBatches, IsShort}
use Rattle.gate_journal.specs.Commits.{Reviews}
use Rattle.gate_journal.specs.Journal.{JournalState, state_of, IsThere, IsSettledWith, IsUncommitted, IsHalfSwitched, IsSwitching, IsRemoving, IsOpen, IsUndecided}
use Rattle.gate_journal.specs.declared.journal.Pending.{Pending}
use Rattle.gate_journal.specs.declared.journal.Pending.TheVariants.{Nothing, Switch, Removal}
use Rattle.gate_journal.specs.Generations.{IsOwn, AtOwn, HasOneOf, HasBatchesOf, generation_batches}
use Rattle.gate_journal.specs.Plain.{PlainState, IsSettled, IsInDoubt}
use Rattle.gate_journal.specs.DiskShown.{DiskShown, ChangesUnopened}
use Rattle.gate_journal.proofs.Results.{if_ok}
use Rattle.gate_journal.proofs.Elsewhere.{settled_stays, journal_left}
use Rattle.gate_journal.proofs.Holding.{holds_at, same_left, holds_left, settled_as}
use Rattle.gate_journal.proofs.Begin.{journal_has}
use Rattle.gate_journal.proofs.Owned.{own_none, own_first, leaves_all, left_now}
use Rattle.gate_journal.proofs.Removing.{removed, removal_passes, old_is_own}
use Rattle.gate_journal.proofs.Telling.{next_told}

abbrev Same : Files → Files → Type 0
Same a b = b ≡ a

stays_same : (n : Name) (a c : Files) → Same a c → c n ≡ a n
stays_same n a c same = ap (λ (f : Files). f n) same

pub open_as : (pending other : Pending) (journal : JournalState) (disk : DiskShown) (before after : List (List ℕ)) → pending ≡ other → IsOpen pending journal disk before after → IsOpen other journal disk before after
open_as pending other journal disk before after is = subst (λ (p : Pending). IsOpen p journal disk before after) is

module _ (journal : JournalState) (disk : DiskShown) (before after : List (List ℕ)) where
  pub uncommitted_left : IsUncommitted journal disk before after → (image : Files) → MayLeave disk.past image → HasBatchesOf journal.name image before ⊎ HasBatchesOf journal.name image after
  uncommitted_left u image left =
      let holds = λ (cs : List (List ℕ)) (has : HasBatches (image journal.current.name) cs).
      holds_at journal.name journal.at.name journal.current.name image u.generation cs u.named.small u.named.at u.named.current (journal_left journal.at disk (generation_batches u.generation) u.at image left) has (u.there_left image left) in
      elim (u.current.left image left) [
        | inl without ↦ inl (holds before (journal_has before (image journal.current.name) without))
        | inr with_it ↦ inr (subst (HasBatchesOf journal.name image) (sym u.more) (holds (before ++ u.batch ∷ []) (journal_has (before ++ u.batch ∷ []) (image journal.current.name) with_it)))
      ]

  pub switching_left : (next : PlainState) → IsSwitching journal next disk before after → (image : Files) → MayLeave disk.past image → HasBatchesOf journal.name image before ⊎ HasBatchesOf journal.name image after
  switching_left next w image left =
      let old = λ (told : HasBatches (image journal.at.name) (generation_batches w.generation)).
      holds_at journal.name journal.at.name journal.current.name image w.generation before w.named.small w.named.at w.named.current told (journal_left journal.current disk before w.current image left)
      (subst (IsThere w.generation) (sym (same_left journal.current disk before w.current image left)) w.there) in
      elim w.switch [
        | inl un ↦ inl (old (journal_left journal.at disk (generation_batches w.generation) un.at image left))
        | inr half ↦ elim (half.at.left image left) [
          | inl without ↦ inl (old (journal_has (generation_batches w.generation) (image journal.at.name) without))
          | inr with_it ↦
              let told : HasBatches (image journal.at.name) (generation_batches (w.generation + 1)) =
              subst (λ (cs : List (List ℕ)). HasBatches (image journal.at.name) cs) (sym (next_told w.generation (w.generation + 1) refl)) (journal_has (generation_batches w.generation ++ to_le_bytes w64 (w.generation + 1) ∷ []) (image journal.at.name) with_it) in
              inr (
              holds_at journal.name journal.at.name next.name image (w.generation + 1) after half.small w.named.at half.named told (journal_left next disk after half.made image left)
              (λ one_on few. half.there (subst IsShort (same_left next disk after half.made image left) few))
              )
        ]
      ]

  pub removing_left : (old : PlainState) → IsRemoving journal old disk after → (image : Files) → MayLeave disk.past image → HasBatchesOf journal.name image before ⊎ HasBatchesOf journal.name image after
  removing_left old r image left = inr (holds_left journal disk after r.settled image left)

  pub open_left : (pending : Pending) → IsOpen pending journal disk before after → (image : Files) → MayLeave disk.past image → HasBatchesOf journal.name image before ⊎ HasBatchesOf journal.name image after
  open_left Nothing u = uncommitted_left u
  open_left (Switch next) w = switching_left next w
  open_left (Removal old) r = removing_left old r

  -- nothing is written
  pub undecided_passes : (new : Past) → IsUndecided journal disk before after → Passes Same disk.past new → Passes (AtOwn journal.name (HasOneOf journal.name before after)) disk.past new
  undecided_passes new doubt passes =
      own_first journal.name (HasOneOf journal.name before after) Same disk.past new passes
      (λ a c was same. subst (λ (f : Files). HasBatchesOf journal.name f before ⊎ HasBatchesOf journal.name f after) (sym same) (open_left journal.pending doubt a was)) (leaves_all journal.name)

  pub undecided_none : IsUndecided journal disk before after → Passes (AtOwn journal.name (HasOneOf journal.name before after)) disk.past disk.past
  undecided_none doubt = own_none journal.name (HasOneOf journal.name before after) disk.past (λ a was. open_left journal.pending doubt a was)

  -- the current generation's file was reviewed
  module _ (u : IsUncommitted journal disk before after) (current : PlainState) (pending : Pending) (new : DiskShown) (same_name : current.name ≡ journal.current.name) (same : new.files ≡ disk.files) (same_opened : new.opened ≡ disk.opened) (passes : Passes Same disk.past new.past) where
    abbrev reviewed : JournalState
    reviewed = state_of journal.name journal.at current pending

    unopened : (n : Name) → IsOwn journal.name n → new.opened n ≡ 0
    unopened n own = ap (λ (f : Name → ℕ). f n) same_opened ∙ u.named.unopened n own

    at_settled : IsSettled journal.at new (generation_batches u.generation)
    at_settled =
        settled_stays journal.at disk new (generation_batches u.generation) Same u.at passes (stays_same journal.at.name) (ap (λ (f : Files). f journal.at.name) same)
        (let fewer = ap (λ (f : Name → ℕ). f journal.at.name) same_opened in omega (arith, fewer))

    there : IsThere u.generation (new.files current.name)
    there = subst (IsThere u.generation) (sym (ap new.files same_name ∙ ap (λ (f : Files). f journal.current.name) same)) u.there

    reviewed_settled : (cs : List (List ℕ)) → IsSettled current new cs → IsSettledWith reviewed new cs
    reviewed_settled cs settled = record {
      generation = u.generation;
      named = record { small = u.named.small; at = u.named.at; current = same_name ∙ u.named.current; unopened = unopened };
      at = at_settled;
      current = settled;
      there = there;
    }

    reviewed_made : IsSettled current new (before ++ u.batch ∷ []) → IsSettledWith reviewed new after
    reviewed_made settled = subst (λ (cs : List (List ℕ)). IsSettledWith reviewed new cs) (sym u.more) (reviewed_settled (before ++ u.batch ∷ []) settled)

    reviewed_doubtful : pending ≡ Nothing → IsInDoubt current new before u.batch → IsUndecided reviewed new before after
    reviewed_doubtful nothing doubt =
        let is : IsUncommitted reviewed new before after = record {
          generation = u.generation;
          batch = u.batch;
          more = u.more;
          named = record { small = u.named.small; at = u.named.at; current = same_name ∙ u.named.current; unopened = unopened };
          at = at_settled;
          current = doubt;
          there = there;
          there_left = λ image left.
              let come = left_now Same disk.past new.past image passes left in
              subst (IsThere u.generation) (sym (ap image same_name ∙ ap (λ (f : Files). f journal.current.name) come.2)) (u.there_left come.0 come.1);
        } in
        subst (λ (p : Pending). IsOpen p reviewed new before after) (sym nothing) is

    pub current_reviews : (result : Result Bool DiskErr) → pending ≡ Nothing → IsUndecided journal disk before after → IfOk result (λ found. IsTrue found → IsSettled current new (before ++ u.batch ∷ []))
        → IfOk result (λ found. found ≡ false → IsSettled current new before) → OnErr result (IsInDoubt current new before u.batch)
        → Reviews before after result journal reviewed disk new
    current_reviews result nothing doubt made unmade doubtful = record {
      made = if_ok result (λ found so yes. reviewed_made (so yes)) made;
      unmade = if_ok result (λ found so no. reviewed_settled before (so no)) unmade;
      doubtful = on_err_weaker result (reviewed_doubtful nothing) doubtful;
      any_moment = undecided_passes new.past doubt passes;
      elsewhere = λ n other. ap (λ (f : Files). f n) same;
      opened = λ n other. ap (λ (f : Name → ℕ). f n) same_opened;
    }

  -- the file that tells the generation was reviewed
  module _ (next : PlainState) (w : IsSwitching journal next disk before after) where
    pub half_switched : journal.at.sound ≡ false → IsHalfSwitched journal next disk w.generation after
    half_switched unsound = elim w.switch [ inl un ↦ let wrong : true ≡ false = sym un.sound ∙ unsound in absurd (cc wrong) | inr half ↦ half ]

    open_switch : journal.pending ≡ Switch next → IsUndecided journal disk before after
    open_switch is = open_as (Switch next) journal.pending journal disk before after (sym is) w

    -- it was never written
    unswitched : (pending : Pending) → journal.at.sound ≡ true → IsSettledWith (state_of journal.name journal.at journal.current pending) disk before
    unswitched pending sound = elim w.switch [
      | inl un ↦ record { generation = w.generation; named = record { small = w.named.small; at = w.named.at; current = w.named.current; unopened = w.named.unopened }; at = un.at; current = w.current; there = w.there }
      | inr half ↦ let wrong : true ≡ false = sym sound ∙ half.unsound in absurd (cc wrong)
    ]

    pub unswitched_reviews : (pending : Pending) → journal.pending ≡ Switch next → journal.at.sound ≡ true → Reviews before after (Ok false) journal (state_of journal.name journal.at journal.current pending) disk disk
    unswitched_reviews pending is sound = record {
      made = λ told. absurd (cc told);
      unmade = λ untold. unswitched pending sound;
      doubtful = tt;
      any_moment = undecided_none (open_switch is);
      elsewhere = λ n other. refl;
      opened = λ n other. refl;
    }

    module _ (is : journal.pending ≡ Switch next) (half : IsHalfSwitched journal next disk w.generation after) (at : PlainState) (new : DiskShown) (same_name : at.name ≡ journal.at.name) (same : new.files ≡ disk.files) (same_opened : new.opened ≡ disk.opened) (passes : Passes Same disk.past new.past) where
      unopened_still : (n : Name) → IsOwn journal.name n → new.opened n ≡ 0
      unopened_still n own = ap (λ (f : Name → ℕ). f n) same_opened ∙ w.named.unopened n own

      stays : (j : PlainState) (cs : List (List ℕ)) → IsSettled j disk cs → IsSettled j new cs
      stays j cs settled =
          settled_stays j disk new cs Same settled passes (stays_same j.name) (ap (λ (f : Files). f j.name) same)
          (let fewer = ap (λ (f : Name → ℕ). f j.name) same_opened in omega (arith, fewer))

      -- it tells the old generation
      pub not_switched : (pending : Pending) → IsSettled at new (generation_batches w.generation) → Reviews before after (Ok false) journal (state_of journal.name at journal.current pending) disk new
      not_switched pending told = record {
        made = λ yes. absurd (cc yes);
        unmade = λ no. record {
          generation = w.generation;
          named = record { small = w.named.small; at = same_name ∙ w.named.at; current = w.named.current; unopened = unopened_still };
          at = told;
          current = stays journal.current before w.current;
          there = subst (IsThere w.generation) (sym (ap (λ (f : Files). f journal.current.name) same)) w.there;
        };
        doubtful = tt;
        any_moment = undecided_passes new.past (open_switch is) passes;
        elsewhere = λ n other. ap (λ (f : Files). f n) same;
        opened = λ n other. ap (λ (f : Name → ℕ). f n) same_opened;
      }

      -- it tells the next one
      abbrev is_switched : (pending : Pending) → IsSettled at new (generation_batches w.generation ++ to_le_bytes w64 (w.generation + 1) ∷ []) → IsSettledWith (state_of journal.name at next pending) new after
      is_switched pending told = record {
        generation = w.generation + 1;
        named = record { small = half.small; at = same_name ∙ w.named.at; current = half.named; unopened = unopened_still };
        at = subst (λ (cs : List (List ℕ)). IsSettled at new cs) (sym (next_told w.generation (w.generation + 1) refl)) told;
        current = stays next after half.made;
        there = λ one_on few. half.there (subst IsShort (ap (λ (f : Files). f next.name) same) few);
      }

      -- it wasn't told
      still_switching : (pending : Pending) → at ≡ journal.at → pending ≡ Switch next → IsInDoubt at new (generation_batches w.generation) (to_le_bytes w64 (w.generation + 1))
          → IsUndecided (state_of journal.name at journal.current pending) new before after
      still_switching pending is_at is_pending doubt =
          let state : JournalState = state_of journal.name at journal.current pending in
          let so : IsSwitching state next new before after = record {
            generation = w.generation;
            named = record { small = w.named.small; at = same_name ∙ w.named.at; current = w.named.current; unopened = unopened_still };
            current = stays journal.current before w.current;
            there = subst (IsThere w.generation) (sym (ap (λ (f : Files). f journal.current.name) same)) w.there;
            switch = inr (record {
              unsound = ap (λ (j : PlainState). j.sound) is_at ∙ half.unsound;
              small = half.small;
              named = half.named;
              at = doubt;
              made = stays next after half.made;
              there = λ few. half.there (subst IsShort (ap (λ (f : Files). f next.name) same) few);
            });
          } in
          subst (λ (p : Pending). IsOpen p state new before after) (sym is_pending) so

      pub still_reviews : (pending : Pending) (result : Result Bool DiskErr) (e : DiskErr) → result ≡ Err e → at ≡ journal.at → pending ≡ Switch next
          → IsInDoubt at new (generation_batches w.generation) (to_le_bytes w64 (w.generation + 1)) → Reviews before after result journal (state_of journal.name at journal.current pending) disk new
      still_reviews pending result e failed is_at is_pending doubt = rw failed (record {
        made = tt;
        unmade = tt;
        doubtful = still_switching pending is_at is_pending doubt;
        any_moment = undecided_passes new.past (open_switch is) passes;
        elsewhere = λ n other. ap (λ (f : Files). f n) same;
        opened = λ n other. ap (λ (f : Name → ℕ). f n) same_opened;
      })

      -- and then the old file is removed
      module _ (told : IsSettled at new (generation_batches w.generation ++ to_le_bytes w64 (w.generation + 1) ∷ []))
          (last : DiskShown) (gone : ChangesUnopened journal.current.name (KeptOr None) new last) where
        abbrev over : Pending → JournalState
        over pending = state_of journal.name at next pending

        abbrev behind : (pending : Pending) → IsSettledWith (over pending) last after
        behind pending = removed (over pending) new after (is_switched pending told) w.generation refl journal.current.name w.named.current last gone

        over_passes : Passes (AtOwn journal.name (HasOneOf journal.name before after)) disk.past last.past
        over_passes =
            removal_passes (over Nothing) new after (is_switched Nothing told) w.generation refl journal.current.name w.named.current (HasOneOf journal.name before after) disk.past last.past (undecided_passes new.past (open_switch is) passes) gone.any_moment
            (λ a b e so_far was has. inr has)

        not_current : (m : Name) → (IsOwn journal.name m → ⊥) → m ≢ journal.current.name
        not_current m other here = other (inr (w.generation, w.named.small, here ∙ w.named.current))

        pub over_reviews : (final : JournalState) → final ≡ over Nothing → Reviews before after (Ok true) journal final disk last
        over_reviews final is_over = record {
          made = λ yes. subst (λ (j : JournalState). IsSettledWith j last after) (sym is_over) (behind Nothing);
          unmade = λ no. absurd (cc no);
          doubtful = tt;
          any_moment = over_passes;
          elsewhere = λ m other. gone.files.elsewhere m (not_current m other) ∙ ap (λ (f : Files). f m) same;
          opened = λ m other. gone.opened m (not_current m other) ∙ ap (λ (f : Name → ℕ). f m) same_opened;
        }

        pub half_over_reviews : (final : JournalState) (result : Result Bool DiskErr) (e : DiskErr) → result ≡ Err e → final ≡ over (Removal journal.current) → Reviews before after result journal final disk last
        half_over_reviews final result e failed is_left = rw failed (record {
          made = tt;
          unmade = tt;
          doubtful =
              subst (λ (j : JournalState). IsUndecided j last before after) (sym is_left) (record { settled = behind (Removal journal.current); generation = w.generation; before = refl; named = w.named.current });
          any_moment = over_passes;
          elsewhere = λ m other. gone.files.elsewhere m (not_current m other) ∙ ap (λ (f : Files). f m) same;
          opened = λ m other. gone.opened m (not_current m other) ∙ ap (λ (f : Name → ℕ). f m) same_opened;
        })

  -- the file of the generation before is removed once more
  module _ (old : PlainState) (r : IsRemoving journal old disk after) (file : Name) (is_file : file ≡ old.name) (new : DiskShown) (doubt : IsUndecided journal disk before after)
      (gone : ChangesUnopened file (KeptOr None) disk new) where
    abbrev removed_still : IsSettledWith journal new after
    removed_still = removed journal disk after r.settled r.generation r.before file (is_file ∙ r.named) new gone

    removing_passes : Passes (AtOwn journal.name (HasOneOf journal.name before after)) disk.past new.past
    removing_passes =
        removal_passes journal disk after r.settled r.generation r.before file (is_file ∙ r.named) (HasOneOf journal.name before after) disk.past new.past (undecided_none doubt) gone.any_moment
        (λ a b e so_far was has. inr has)

    not_file : (n : Name) → (IsOwn journal.name n → ⊥) → n ≢ file
    not_file n other here = other (subst (IsOwn journal.name) (sym here) (old_is_own journal disk after r.settled r.generation r.before file (is_file ∙ r.named)))

    pub removed_reviews : (final : JournalState) → final.name ≡ journal.name → final.at ≡ journal.at → final.current ≡ journal.current → Reviews before after (Ok true) journal final disk new
    removed_reviews final same_name same_at same_current = record {
      made = λ yes. settled_as journal final new after same_name same_at same_current removed_still;
      unmade = λ no. absurd (cc no);
      doubtful = tt;
      any_moment = removing_passes;
      elsewhere = λ n other. gone.files.elsewhere n (not_file n other);
      opened = λ n other. gone.opened n (not_file n other);
    }

    pub removing_reviews : (result : Result Bool DiskErr) (e : DiskErr) → result ≡ Err e → journal.pending ≡ Removal old → Reviews before after result journal journal disk new
    removing_reviews result e failed is = rw failed (record {
      made = tt;
      unmade = tt;
      doubtful =
          subst (λ (p : Pending). IsOpen p journal new before after) (sym is) (record { settled = removed_still; generation = r.generation; before = r.before; named = r.named });
      any_moment = removing_passes;
      elsewhere = λ n other. gone.files.elsewhere n (not_file n other);
      opened = λ n other. gone.opened n (not_file n other);
    })
