-- A checkpoint: the next generation's file counts once the file that tells the generation tells it.
use Rattle.std.proofs.Common.{◌≡◌, ◌≢◌, ◌⊎◌, inl, inr, ℕ, ◌+◌, ◌/◌, ◌<◌, ◌≤◌, ◌^◌, List, [], ◌∷◌, ◌++◌, length, true, None, Some, Result, Err, OnOk, OnErr, IsErrOf, refl, sym, ◌∙◌, ap, subst, arith, length-append}
use Rattle.std.proofs.lemmas.Result.{on_ok_weaker, IfErr-at_err}
use Rattle.std.specs.Int.{to_le_bytes, w64}
use Rattle.disk_model.specs.declared.disk.DiskErr.{DiskErr}
use Rattle.disk_model.specs.declared.disk.DiskErr.TheVariants.{Fault, Memory}
use Rattle.disk_model.specs.Files.{Name, Content, Files, HasFile, At, KeptOr}
use Rattle.disk_model.specs.Past.{Past, MayLeave, Passes, Only}
use Rattle.disk_model.proofs.Passing.{passes_none, passes_then, passes_weaker}
use Rattle.gate_journal.specs.Batches.{open_gates, framed_bytes, Reads, HasBatches}
use Rattle.gate_journal.specs.Commits.{CommitsBatches, GoesOver}
use Rattle.gate_journal.specs.Journal.{JournalState, state_of, IsThere, IsSettledWith, IsUndecided, Switches, SwitchesTo, IsLeft, IsTold, OnlyGoesOn, OnlyMakes}
use Rattle.gate_journal.specs.declared.journal.Pending.{Pending}
use Rattle.gate_journal.specs.declared.journal.Pending.TheVariants.{Nothing, Switch, Removal}
use Rattle.gate_journal.specs.Generations.{generation_name, IsOwn, AtOwn, HasOneOf, generation_batches}
use Rattle.gate_journal.specs.Plain.{PlainState, IsSettled, IsInDoubt}
use Rattle.gate_journal.specs.DiskShown.{DiskShown, ChangesUnopened}
use Rattle.gate_journal.proofs.Bytes.{one, length-framed_bytes}
use Rattle.gate_journal.proofs.Elsewhere.{settled_stays}
use Rattle.gate_journal.proofs.FileNames.{at_apart, one_generation, is_next}
use Rattle.gate_journal.proofs.Files.{Anyhow}
use Rattle.gate_journal.proofs.Holding.{holds_at, settled_seen, same_left, names_apart, at_is_own, current_is_own, not_short, holds_left}
use Rattle.gate_journal.proofs.Begin.{journal_has}
use Rattle.gate_journal.proofs.Owned.{own_none, own_first}
use Rattle.gate_journal.proofs.Removing.{removed, removal_passes}
use Rattle.gate_journal.proofs.Telling.{next_told, length_told}

-- the place of the gate that isn't open tells the generation
pub told_by_length : (at : PlainState) (disk : DiskShown) (g n : ℕ) → IsSettled at disk (generation_batches g) → n ≡ at.place + 1 → n / 13 + 1 ≡ g + 1
told_by_length at disk g n settled is = let place = settled.place in omega (arith, is, place, length_told g)

-- a file of one batch
pub first_settled : (next : PlainState) (disk : DiskShown) (batch bytes : List ℕ) → length batch < 2 ^ 32 → bytes ≡ open_gates (batch ∷ []) ++ 0 ∷ [] → next.place ≡ length batch + 5 → disk.files next.name ≡ Some bytes
    → Only disk.past next.name (Some bytes) → disk.opened next.name ≡ 0 → IsSettled next disk (batch ∷ [])
first_settled next disk batch bytes short is place file only unopened = record {
  bytes = bytes;
  file = file;
  reads = record { gate = 0; rest = []; shut = λ e. cc; split = is; fit = one batch short };
  place = omega (arith, place, length-framed_bytes batch, length-append (1 ∷ framed_bytes batch) []);
  durable = only;
  unopened = unopened;
}

module _ (journal : JournalState) (disk : DiskShown) (bs : List (List ℕ)) (s : IsSettledWith journal disk bs)
    (n : ℕ) (counted : n ≡ s.generation + 1) (next : Name) (small : n < 2 ^ 64) (named : next ≡ generation_name journal.name n) where
  pub at_not_next : journal.at.name ≢ next
  at_not_next same = at_apart journal.name n small (sym named ∙ sym same ∙ s.named.at)

  pub current_not_next : journal.current.name ≢ next
  current_not_next same = let is = one_generation journal.name n s.generation small s.named.small (sym named ∙ sym same ∙ s.named.current) in omega (arith, is, counted)

  pub next_is_own : IsOwn journal.name next
  next_is_own = inr (n, small, named)

  module _ (k : ℕ) (small_k : k < 2 ^ 64) (current : journal.current.name ≡ generation_name journal.name k) where
    next_behind : next ≡ generation_name journal.name (k + 1)
    next_behind =
        let same : s.generation ≡ k = one_generation journal.name s.generation k s.named.small small_k (sym s.named.current ∙ current) in
        let number : n ≡ k + 1 = omega (arith, counted, same) in named ∙ ap (λ (m : ℕ). generation_name journal.name m) number

    -- only the three files change
    pub goes_on : (a b : Files) → ((m : Name) → m ≢ journal.at.name → m ≢ journal.current.name → m ≢ next → b m ≡ a m) → OnlyGoesOn journal.name k a b
    goes_on a b same m not_at not_current not_next = same m (λ is. not_at (is ∙ s.named.at)) (λ is. not_current (is ∙ current)) (λ is. not_next (is ∙ next_behind))

    -- only the next one's file does
    pub makes : (a b : Files) → ((m : Name) → m ≢ next → b m ≡ a m) → OnlyMakes journal.name k a b
    makes a b same m not_next = same m (λ is. not_next (is ∙ next_behind))

    pub switch_goes_on : (cs : List (List ℕ)) (batch bytes : List ℕ) (mid : Past) → Passes (Switches journal.at.name next cs batch bytes) disk.past mid → Passes (OnlyGoesOn journal.name k) disk.past mid
    switch_goes_on cs batch bytes mid passes =
        passes_weaker (Switches journal.at.name next cs batch bytes) (OnlyGoesOn journal.name k) disk.past mid passes (λ a c was step. goes_on a c (λ m not_at not_current not_next. step.elsewhere m not_at not_next))

    -- and then the old file is removed
    pub removal_goes_on : (mid new : Past) → Passes (OnlyGoesOn journal.name k) disk.past mid → Passes (At journal.current.name (KeptOr None)) mid new → Passes (OnlyGoesOn journal.name k) disk.past new
    removal_goes_on mid new first second =
        passes_then (OnlyGoesOn journal.name k) (At journal.current.name (KeptOr None)) disk.past mid new first second
        (λ a b c was before now step m not_at not_current not_next. step.elsewhere m (λ is. not_current (is ∙ current)) ∙ before m not_at not_current not_next)

    pub only_makes : (mid : Past) → Passes (Anyhow next) disk.past mid → Passes (OnlyMakes journal.name k) disk.past mid
    only_makes mid passes = passes_weaker (Anyhow next) (OnlyMakes journal.name k) disk.past mid passes (λ a c was step. makes a c step.elsewhere)

  module _ (batch bytes : List ℕ) (long : length batch ≤ 1073741824) (is_file : bytes ≡ open_gates (batch ∷ []) ++ 0 ∷ []) (new : DiskShown)
      (came : Result (Unit {0}) DiskErr) (at : PlainState) (switched : SwitchesTo next (generation_batches s.generation) (to_le_bytes w64 n) bytes came journal.at at disk new) where
    short : length batch < 2 ^ 32
    short = omega (arith, long)

    abbrev S : Files → Files → Type 0
    S = Switches journal.at.name next (generation_batches s.generation) (to_le_bytes w64 n) bytes

    current_same : new.files journal.current.name ≡ disk.files journal.current.name
    current_same = switched.elsewhere journal.current.name (λ is. names_apart journal disk bs s (sym is)) current_not_next

    not_at : (m : Name) → (IsOwn journal.name m → ⊥) → m ≢ journal.at.name
    not_at m other is = other (subst (IsOwn journal.name) (sym is) (at_is_own journal disk bs s))

    not_current : (m : Name) → (IsOwn journal.name m → ⊥) → m ≢ journal.current.name
    not_current m other is = other (subst (IsOwn journal.name) (sym is) (current_is_own journal disk bs s))

    not_the_next : (m : Name) → (IsOwn journal.name m → ⊥) → m ≢ next
    not_the_next m other is = other (subst (IsOwn journal.name) (sym is) next_is_own)

    pub current_file : HasFile new.files journal.current.name (λ b. Unit {0})
    current_file = record { bytes = s.current.bytes; file = current_same ∙ s.current.file; holds = tt }

    current_stays : (a c : Files) → S a c → c journal.current.name ≡ a journal.current.name
    current_stays a c step = step.elsewhere journal.current.name (λ is. names_apart journal disk bs s (sym is)) current_not_next

    pub all_unopened : (m : Name) → IsOwn journal.name m → new.opened m ≡ 0
    all_unopened m own = elim (is_next journal.name m n small own) [
      | inl is ↦ ap new.opened (is ∙ sym named) ∙ switched.unopened
      | inr other ↦ switched.opened m (λ is. other (is ∙ named)) ∙ s.named.unopened m own
    ]

    pub current_settled : IsSettled journal.current new bs
    current_settled =
        settled_stays journal.current disk new bs S s.current switched.any_moment current_stays current_same
        (let none = all_unopened journal.current.name (current_is_own journal disk bs s) in omega (arith, none))

    current_there : IsThere s.generation (new.files journal.current.name)
    current_there = subst (IsThere s.generation) (sym current_same) s.there

    -- the old batches, or the new one alone
    here_after : (a c : Files) → MayLeave disk.past a → S a c → HasOneOf journal.name bs (batch ∷ []) a c
    here_after a c was step =
        let same = current_stays a c step ∙ same_left journal.current disk bs s.current a was in
        elim step.here [
          | inl before ↦ inl (
              holds_at journal.name journal.at.name journal.current.name c s.generation bs s.named.small s.named.at s.named.current (journal_has (generation_batches s.generation) (c journal.at.name) before)
              (subst (λ (x : Content). HasBatches x bs) (sym same) (settled_seen journal.current disk bs s.current)) (subst (IsThere s.generation) (sym same) s.there)
              )
          | inr after ↦
              let told : HasBatches (c journal.at.name) (generation_batches n) =
              subst (λ (cs : List (List ℕ)). HasBatches (c journal.at.name) cs) (sym (next_told s.generation n counted)) (journal_has (generation_batches s.generation ++ to_le_bytes w64 n ∷ []) (c journal.at.name) after.0) in
              let reads : Reads bytes (batch ∷ []) = record { gate = 0; rest = []; shut = λ e. cc; split = is_file; fit = one batch short } in
              let has : HasBatches (c next) (batch ∷ []) = subst (λ (x : Content). HasBatches x (batch ∷ [])) (sym after.1) (inr reads) in
              inr (holds_at journal.name journal.at.name next c n (batch ∷ []) small s.named.at named told has (λ one_on few. not_short (c next) [] batch has few))
        ]

    pub switch_passes_own : Passes (AtOwn journal.name (HasOneOf journal.name bs (batch ∷ []))) disk.past new.past
    switch_passes_own =
        own_first journal.name (HasOneOf journal.name bs (batch ∷ [])) S disk.past new.past switched.any_moment here_after
        (λ b c step m other. step.elsewhere m (not_at m other) (not_the_next m other))

    -- at Memory it is as it was
    pub left_commits : (after : JournalState) → after ≡ journal → IsLeft journal.at at new (generation_batches s.generation) → CommitsBatches bs (batch ∷ []) (Err Memory) journal after disk new
    left_commits after same left = record {
      made = tt;
      doubt = λ failed. absurd (cc failed);
      unchanged = λ failed. subst (λ (j : JournalState). IsSettledWith j new bs) (sym same) (record {
        generation = s.generation;
        named = record { small = s.named.small; at = s.named.at; current = s.named.current; unopened = all_unopened };
        at = subst (λ (j : PlainState). IsSettled j new (generation_batches s.generation)) left.same left.settled;
        current = current_settled;
        there = current_there;
      });
      any_moment = switch_passes_own;
      elsewhere = λ m other. switched.elsewhere m (not_at m other) (not_the_next m other);
      opened = λ m other. switched.opened m (not_the_next m other);
    }

    module _ (first : PlainState) (at_same_name : at.name ≡ journal.at.name) (first_name : first.name ≡ next) (first_place : first.place ≡ length batch + 5) where
      pub next_settled : new.files next ≡ Some bytes → Only new.past next (Some bytes) → IsSettled first new (batch ∷ [])
      next_settled made durable =
          first_settled first new batch bytes short is_file first_place (ap new.files first_name ∙ made) (λ image left. ap image first_name ∙ durable image left) (ap new.opened first_name ∙ switched.unopened)

      -- the file tells the next generation
      abbrev pub gone_over : (pending : Pending) → IsSettled at new (generation_batches s.generation ++ to_le_bytes w64 n ∷ []) → new.files next ≡ Some bytes → Only new.past next (Some bytes)
          → IsSettledWith (state_of journal.name at first pending) new (batch ∷ [])
      gone_over pending told made durable = record {
        generation = n;
        named = record { small = small; at = at_same_name ∙ s.named.at; current = first_name ∙ named; unopened = all_unopened };
        at = subst (λ (cs : List (List ℕ)). IsSettled at new cs) (sym (next_told s.generation n counted)) told;
        current = next_settled made durable;
        there = λ one_on few. not_short (new.files first.name) [] batch (settled_seen first new (batch ∷ []) (next_settled made durable)) few;
      }

      -- it isn't known which it tells
      switch_open : IsLeft journal.at at new (generation_batches s.generation) ⊎ IsTold at next new (generation_batches s.generation) (to_le_bytes w64 n) bytes
          → journal.at.sound ≡ true → IsUndecided (state_of journal.name at journal.current (Switch first)) new bs (batch ∷ [])
      switch_open failed was_sound = record {
        generation = s.generation;
        named = record { small = s.named.small; at = at_same_name ∙ s.named.at; current = s.named.current; unopened = all_unopened };
        current = current_settled;
        there = current_there;
        switch = elim failed [
          | inl left ↦ inl (record { sound = ap (λ (j : PlainState). j.sound) left.same ∙ was_sound; at = left.settled })
          | inr told ↦ inr (record {
            unsound = told.unsound;
            small = subst (λ (k : ℕ). k < 2 ^ 64) counted small;
            named = first_name ∙ named ∙ ap (λ (k : ℕ). generation_name journal.name k) counted;
            at = subst (λ (k : ℕ). IsInDoubt at new (generation_batches s.generation) (to_le_bytes w64 k)) counted told.in_doubt;
            made = next_settled told.made told.durable;
            there = λ few. not_short (new.files first.name) [] batch (settled_seen first new (batch ∷ []) (next_settled told.made told.durable)) few;
          })
        ];
      }

      pub open_commits : IsLeft journal.at at new (generation_batches s.generation) ⊎ IsTold at next new (generation_batches s.generation) (to_le_bytes w64 n) bytes
          → journal.at.sound ≡ true → CommitsBatches bs (batch ∷ []) (Err Fault) journal (state_of journal.name at journal.current (Switch first)) disk new
      open_commits failed was_sound = record {
        made = tt;
        doubt = λ fault. switch_open failed was_sound;
        unchanged = λ failed. absurd (cc failed);
        any_moment = switch_passes_own;
        elsewhere = λ m other. switched.elsewhere m (not_at m other) (not_the_next m other);
        opened = λ m other. switched.opened m (not_the_next m other);
      }

      -- and then the old file is removed
      module _ (told : IsSettled at new (generation_batches s.generation ++ to_le_bytes w64 n ∷ [])) (made : new.files next ≡ Some bytes) (durable : Only new.past next (Some bytes))
          (last : DiskShown) (removal : ChangesUnopened journal.current.name (KeptOr None) new last) where
        abbrev over : Pending → JournalState
        over pending = state_of journal.name at first pending

        abbrev behind : (pending : Pending) → IsSettledWith (over pending) last (batch ∷ [])
        behind pending = removed (over pending) new (batch ∷ []) (gone_over pending told made durable) s.generation (sym counted) journal.current.name s.named.current last removal

        pub gone_commits : (result : Result (Unit {0}) DiskErr) (after : JournalState) → OnOk result (after ≡ over Nothing) → OnErr result (after ≡ over (Removal journal.current)) → (IsErrOf result Memory → ⊥)
            → CommitsBatches bs (batch ∷ []) result journal after disk last
        gone_commits result after is_over is_left no_memory = record {
          made = on_ok_weaker result (λ is. subst (λ (j : JournalState). IsSettledWith j last (batch ∷ [])) (sym is) (behind Nothing)) is_over;
          doubt = λ failed.
              subst (λ (j : JournalState). IsUndecided j last bs (batch ∷ [])) (sym (IfErr-at_err (λ (e : DiskErr). after ≡ over (Removal journal.current)) failed is_left))
              (record { settled = behind (Removal journal.current); generation = s.generation; before = sym counted; named = s.named.current });
          unchanged = λ failed. absurd (no_memory failed);
          any_moment =
              removal_passes (over Nothing) new (batch ∷ []) (gone_over Nothing told made durable) s.generation (sym counted) journal.current.name s.named.current (HasOneOf journal.name bs (batch ∷ [])) disk.past last.past switch_passes_own removal.any_moment
              (λ a b d so_far was has. inr has);
          elsewhere = λ m other. removal.files.elsewhere m (not_current m other) ∙ switched.elsewhere m (not_at m other) (not_the_next m other);
          opened = λ m other. removal.opened m (not_current m other) ∙ switched.opened m (not_the_next m other);
        }

        pub gone_over_goes : (k : ℕ) (small_k : k < 2 ^ 64) (current : journal.current.name ≡ generation_name journal.name k) (result : Result (Unit {0}) DiskErr) (after : JournalState) → OnOk result (after ≡ over Nothing) → (IsErrOf result Memory → ⊥)
            → OnOk result ((last.files journal.current.name ≡ None) × Only last.past journal.current.name None) → GoesOver k result journal after disk last
        gone_over_goes k small_k current result after is_over no_memory gone = record {
          next = on_ok_weaker result (λ is. ap (λ (j : JournalState). j.current.name) is ∙ first_name ∙ next_behind k small_k current) is_over;
          gone = gone;
          files = goes_on k small_k current disk.files last.files (λ m other_at other_current other_next. removal.files.elsewhere m other_current ∙ switched.elsewhere m other_at other_next);
          any_moment = removal_goes_on k small_k current new.past last.past (switch_goes_on k small_k current (generation_batches s.generation) (to_le_bytes w64 n) bytes new.past switched.any_moment) removal.any_moment;
          untold = λ failed. absurd (no_memory failed);
        }

    -- of the files by their generations
    pub left_goes : (k : ℕ) (small_k : k < 2 ^ 64) (current : journal.current.name ≡ generation_name journal.name k) (after : JournalState) → ((m : Name) → m ≢ next → new.files m ≡ disk.files m) → Passes (Anyhow next) disk.past new.past → GoesOver k (Err Memory) journal after disk new
    left_goes k small_k current after same made = record {
      next = tt;
      gone = tt;
      files = goes_on k small_k current disk.files new.files (λ m other_at other_current other_next. switched.elsewhere m other_at other_next);
      any_moment = switch_goes_on k small_k current (generation_batches s.generation) (to_le_bytes w64 n) bytes new.past switched.any_moment;
      untold = λ failed. (makes k small_k current disk.files new.files same, only_makes k small_k current new.past made);
    }

    pub open_goes : (k : ℕ) (small_k : k < 2 ^ 64) (current : journal.current.name ≡ generation_name journal.name k) (after : JournalState) → GoesOver k (Err Fault) journal after disk new
    open_goes k small_k current after = record {
      next = tt;
      gone = tt;
      files = goes_on k small_k current disk.files new.files (λ m other_at other_current other_next. switched.elsewhere m other_at other_next);
      any_moment = switch_goes_on k small_k current (generation_batches s.generation) (to_le_bytes w64 n) bytes new.past switched.any_moment;
      untold = λ failed. absurd (cc failed);
    }

-- NOTHING IS WRITTEN

pub nothing_commits : (journal : JournalState) (at : DiskShown) (bs cs : List (List ℕ)) (result : Result (Unit {0}) DiskErr) → IsErrOf result Memory → IsSettledWith journal at bs → CommitsBatches bs cs result journal journal at at
nothing_commits journal at bs cs result failed s = rw failed (record {
  made = tt;
  doubt = λ fault. absurd (cc fault);
  unchanged = λ memory. s;
  any_moment = own_none journal.name (HasOneOf journal.name bs cs) at.past (λ a was. inl (holds_left journal at bs s a was));
  elsewhere = λ n other. refl;
  opened = λ n other. refl;
})

pub nothing_goes : (k : ℕ) (journal : JournalState) (at : DiskShown) (result : Result (Unit {0}) DiskErr) → IsErrOf result Memory → GoesOver k result journal journal at at
nothing_goes k journal at result failed = rw failed (record {
  next = tt;
  gone = tt;
  files = λ m other_at other_current other_next. refl;
  any_moment = passes_none (OnlyGoesOn journal.name k) at.past (λ a was m other_at other_current other_next. refl);
  untold = λ memory. (λ m other. refl, passes_none (OnlyMakes journal.name k) at.past (λ a was m other. refl));
})
