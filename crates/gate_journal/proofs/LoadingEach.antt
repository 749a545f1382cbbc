-- What becomes of each of a journal's files while it is loaded.
use Rattle.std.proofs.Common.{◌≡◌, ◌≢◌, ◌⊎◌, inl, inr, ℕ, zero, suc, ◌-◌, ◌<◌, ◌^◌, List, [], ◌∷◌, Some, None, refl, sym, ◌∙◌, ap, subst, arith}
use Rattle.disk_model.specs.Files.{Name, Content, Files, At, KeptOr}
use Rattle.disk_model.specs.Past.{Past, MayLeave, Passes}
use Rattle.disk_model.proofs.Passing.{passes_none, passes_weaker}
use Rattle.gate_journal.specs.Batches.{HasBatches, IsShort}
use Rattle.gate_journal.specs.Journal.{IsThere}
use Rattle.gate_journal.specs.Generations.{at_name, generation_name, generation_batches, IsOwn, HasBatchesOf, AtOwn, KeepsBatches, IsBefore}
use Rattle.gate_journal.specs.Load.{StaysOrShort, IsCurrent, IsSpent, IsLoaded, OnlyLoads, OnlyClears, LeavesLoaded}
use Rattle.gate_journal.specs.Plain.{PlainState, IsSettled}
use Rattle.gate_journal.specs.DiskShown.{DiskShown, ChangesUnopened}
use Rattle.gate_journal.proofs.Begin.{stays_has}
use Rattle.gate_journal.proofs.Elsewhere.{journal_left}
use Rattle.gate_journal.proofs.FileNames.{at_apart}
use Rattle.gate_journal.proofs.Files.{passes_over}
use Rattle.gate_journal.proofs.Holding.{holds_at, settled_seen, same_left}
use Rattle.gate_journal.proofs.LoadingBoth.{at_mid, opened_none, opened_cleared, before_own, before_from, before_is, is_before, at_not_before, current_not_before}
use Rattle.gate_journal.proofs.Synced.{own_decides, stays_back, stays_there, files_stay}
use Rattle.gate_journal.proofs.Telling.{one_generation_told}

-- the file that tells the generation stays or is short again, and so does this generation's file where it is told
pub record BothLoaded (name : Name) (g : ℕ) (a c : Files) : Type 0 where
  pub at : StaysOrShort (a (at_name name)) (c (at_name name))
  pub current : (c (generation_name name g) ≡ a (generation_name name g)) ⊎ (HasBatches (a (at_name name)) (generation_batches g) × IsShort (a (generation_name name g)) × IsShort (c (generation_name name g)))
  pub elsewhere : (n : Name) → n ≢ at_name name → n ≢ generation_name name g → c n ≡ a n

current_then : (T : Type 0) (x y z : Content) → T → (y ≡ x) ⊎ (T × IsShort x × IsShort y) → StaysOrShort y z → (z ≡ x) ⊎ (T × IsShort x × IsShort z)
current_then T x y z t (inl one) (inl two) = inl (two ∙ one)
current_then T x y z t (inl one) (inr (short, still)) = inr (t, subst IsShort one short, still)
current_then T x y z t (inr (told, short, still)) (inl two) = inr (told, short, subst IsShort (sym two) still)
current_then T x y z t (inr (told, short, still)) (inr (again, now)) = inr (told, short, now)

current_stays : (T : Type 0) (x y : Content) → (y ≡ x) ⊎ (T × IsShort x × IsShort y) → StaysOrShort x y
current_stays T x y (inl same) = inl same
current_stays T x y (inr (told, short, still)) = inr (short, still)

at_loaded : (name : Name) (a : Files) (x : Content) → StaysOrShort (a (at_name name)) x → IsLoaded name a (at_name name) x
at_loaded name a x (inl same) = inl same
at_loaded name a x (inr (short, still)) = inr (inl (inl refl, short, still))

current_loaded : (name : Name) (g : ℕ) → g < 2 ^ 64 → (a : Files) (x : Content) → (x ≡ a (generation_name name g)) ⊎ (HasBatches (a (at_name name)) (generation_batches g) × IsShort (a (generation_name name g)) × IsShort x)
    → IsLoaded name a (generation_name name g) x
current_loaded name g small a x (inl same) = inl same
current_loaded name g small a x (inr (told, short, still)) = inr (inl (inr (g, small, told, refl), short, still))

-- a file that isn't spent stays, or is short again
unspent : (name : Name) (a : Files) (n : Name) (x : Content) → (IsSpent name a n → ⊥) → IsLoaded name a n x → StaysOrShort (a n) x
unspent name a n x never (inl same) = inl same
unspent name a n x never (inr (inl (which, short, still))) = inr (short, still)
unspent name a n x never (inr (inr (gone, spent))) = absurd (never spent)

-- so the batches are kept
module _ (name : Name) (a c : Files) (loads : AtOwn name (OnlyLoads name) a c) where
  at_stays : StaysOrShort (a (at_name name)) (c (at_name name))
  at_stays = unspent name a (at_name name) (c (at_name name)) (λ spent. at_not_before name spent.1.generation spent.1.small spent.2) (loads.here (at_name name) (inl refl))

  told_stays : (g : ℕ) → HasBatches (c (at_name name)) (generation_batches g) → HasBatches (a (at_name name)) (generation_batches g)
  told_stays g told = stays_has (generation_batches g) (c (at_name name)) (a (at_name name)) (stays_back (a (at_name name)) (c (at_name name)) at_stays) told

  told_current : (g : ℕ) → g < 2 ^ 64 → HasBatches (a (at_name name)) (generation_batches g) → StaysOrShort (a (generation_name name g)) (c (generation_name name g))
  told_current g small told =
      unspent name a (generation_name name g) (c (generation_name name g)) (λ spent.
      let same : spent.1.generation ≡ g = one_generation_told (a (at_name name)) spent.1.generation g spent.1.told told in
      current_not_before name g small (subst (λ (k : ℕ). IsBefore name k (generation_name name g)) same spent.2)) (loads.here (generation_name name g) (inr (g, small, refl)))

  pub loads_keep : AtOwn name (KeepsBatches name) a c
  loads_keep = record {
    here = record {
      batches = λ bs. (
        λ has. files_stay name a c bs has at_stays (told_current has.generation has.small has.told),
        λ has.
            let file = generation_name name has.generation in
            files_stay name c a bs has (stays_back (a (at_name name)) (c (at_name name)) at_stays) (stays_back (a file) (c file) (told_current has.generation has.small (told_stays has.generation has.told))),
      );
      told = λ g told. stays_has (generation_batches g) (a (at_name name)) (c (at_name name)) at_stays told;
    };
    elsewhere = loads.elsewhere;
  }

leaves : (name : Name) (old new : DiskShown) → AtOwn name (OnlyLoads name) old.files new.files → Passes (AtOwn name (OnlyLoads name)) old.past new.past → ((n : Name) → (IsOwn name n → ⊥) → new.opened n ≡ old.opened n)
    → ((n : Name) → IsOwn name n → new.opened n ≡ 0) → LeavesLoaded name old new
leaves name old new each moments opened unopened = record {
  kept = loads_keep name old.files new.files each;
  any_moment = passes_weaker (AtOwn name (OnlyLoads name)) (AtOwn name (KeepsBatches name)) old.past new.past moments (λ a c was step. loads_keep name a c step);
  each_file = each;
  each_moment = moments;
  opened = opened;
  unopened = unopened;
}

module _ (name : Name) (g : ℕ) (small : g < 2 ^ 64) where
  both_first : (a c : Files) → At (at_name name) StaysOrShort a c → BothLoaded name g a c
  both_first a c step = record {
    at = step.here;
    current = inl (step.elsewhere (generation_name name g) (at_apart name g small));
    elsewhere = λ n other too. step.elsewhere n other;
  }

  told_before : (a b : Files) → BothLoaded name g a b → HasBatches (b (at_name name)) (generation_batches g) → HasBatches (a (at_name name)) (generation_batches g)
  told_before a b before told = stays_has (generation_batches g) (b (at_name name)) (a (at_name name)) (stays_back (a (at_name name)) (b (at_name name)) before.at) told

  both_then : (a b c : Files) → BothLoaded name g a b → HasBatches (b (at_name name)) (generation_batches g) → At (generation_name name g) StaysOrShort b c → BothLoaded name g a c
  both_then a b c before told step = record {
    at = subst (λ (x : Content). StaysOrShort (a (at_name name)) x) (sym (step.elsewhere (at_name name) (λ is. at_apart name g small (sym is)))) before.at;
    current = current_then (HasBatches (a (at_name name)) (generation_batches g)) (a (generation_name name g)) (b (generation_name name g)) (c (generation_name name g)) (told_before a b before told) before.current step.here;
    elsewhere = λ n other too. step.elsewhere n too ∙ before.elsewhere n other too;
  }

  both_each : (a c : Files) → BothLoaded name g a c → (n : Name) → IsOwn name n → StaysOrShort (a n) (c n)
  both_each a c both n own = elim (own_decides name (at_name name) n (inl refl) own) as (λ _. StaysOrShort (a n) (c n)) [
    | inl same ↦ subst (λ (m : Name). StaysOrShort (a m) (c m)) (sym same) both.at
    | inr other ↦ elim (own_decides name (generation_name name g) n (inr (g, small, refl)) own) as (λ _. StaysOrShort (a n) (c n)) [
      | inl same ↦ subst (λ (m : Name). StaysOrShort (a m) (c m)) (sym same) (current_stays (HasBatches (a (at_name name)) (generation_batches g)) (a (generation_name name g)) (c (generation_name name g)) both.current)
      | inr apart ↦ inl (both.elsewhere n other apart)
    ]
  ]

  both_loaded : (a c : Files) → BothLoaded name g a c → (n : Name) → IsOwn name n → IsLoaded name a n (c n)
  both_loaded a c both n own = elim (own_decides name (at_name name) n (inl refl) own) as (λ _. IsLoaded name a n (c n)) [
    | inl same ↦ subst (λ (m : Name). IsLoaded name a m (c m)) (sym same) (at_loaded name a (c (at_name name)) both.at)
    | inr other ↦ elim (own_decides name (generation_name name g) n (inr (g, small, refl)) own) as (λ _. IsLoaded name a n (c n)) [
      | inl same ↦ subst (λ (m : Name). IsLoaded name a m (c m)) (sym same) (current_loaded name g small a (c (generation_name name g)) both.current)
      | inr apart ↦ inl (both.elsewhere n other apart)
    ]
  ]

  both_loads : (a c : Files) → BothLoaded name g a c → AtOwn name (OnlyLoads name) a c
  both_loads a c both = record {
    here = both_loaded a c both;
    elsewhere = λ n other. both.elsewhere n (λ is. other (inl is)) (λ is. other (inr (g, small, is)));
  }

  before_or_not : (n : Name) → IsOwn name n → IsBefore name g n ⊎ (IsBefore name g n → ⊥)
  before_or_not n own = go g refl
    where
      go : (k : ℕ) → k ≡ g → IsBefore name g n ⊎ (IsBefore name g n → ⊥)
      go zero is = inr (λ before. let less = before.before in omega (arith, less, is))
      go (suc h) is = before_from name g small h (omega (arith, is)) n own

  -- the current generation's file was read, so the one before is spent
  is_spent : (a b : Files) (bs : List (List ℕ)) → BothLoaded name g a b → HasBatches (b (at_name name)) (generation_batches g) → HasBatchesOf name b bs → (n : Name) → IsBefore name g n → IsSpent name a n
  is_spent a b bs both told has n before =
      let file = generation_name name has.generation in
      let was = files_stay name b a bs has (stays_back (a (at_name name)) (b (at_name name)) both.at) (stays_back (a file) (b file) (both_each a b both file (inr (has.generation, has.small, refl)))) in
      let same : was.generation ≡ g = one_generation_told (a (at_name name)) was.generation g was.told (told_before a b both told) in
      (bs, was, subst (λ (k : ℕ). IsBefore name k n) (sym same) before)

  kept_loaded : (a b c : Files) (n : Name) → IsLoaded name a n (b n) → IsSpent name a n → KeptOr None (b n) (c n) → IsLoaded name a n (c n)
  kept_loaded a b c n loaded spent (inl same) = subst (λ (x : Content). IsLoaded name a n x) (sym same) loaded
  kept_loaded a b c n loaded spent (inr gone) = inr (inr (gone, spent))

  cleared_loads : (a b c : Files) (bs : List (List ℕ)) → BothLoaded name g a b → HasBatches (b (at_name name)) (generation_batches g) → HasBatchesOf name b bs → OnlyClears name g b c → AtOwn name (OnlyLoads name) a c
  cleared_loads a b c bs both told has clears = record {
    here = λ n own. elim (before_or_not n own) as (λ _. IsLoaded name a n (c n)) [
      | inl before ↦ kept_loaded a b c n (both_loaded a b both n own) (is_spent a b bs both told has n before) ((clears n).0 before)
      | inr other ↦ subst (λ (x : Content). IsLoaded name a n x) (sym ((clears n).1 other)) (both_loaded a b both n own)
    ];
    elsewhere = λ n other. (clears n).1 (λ before. other (before_own name g small n before)) ∙ both.elsewhere n (λ is. other (inl is)) (λ is. other (inr (g, small, is)));
  }

-- how far a load has come
module _ (name : Name) (start : DiskShown) (closed : (n : Name) → IsOwn name n → start.opened n ≡ 0) where
  pub not_begun : LeavesLoaded name start start
  not_begun =
      let same = λ (a : Files). let here : AtOwn name (OnlyLoads name) a a = record { here = λ n own. inl refl; elsewhere = λ n other. refl } in here in
      leaves name start start (same start.files) (passes_none (AtOwn name (OnlyLoads name)) start.past (λ a was. same a)) (λ n other. refl) closed

  module _ (first : DiskShown) (one : ChangesUnopened (at_name name) StaysOrShort start first) where
    closed_first : (n : Name) → IsOwn name n → first.opened n ≡ 0
    closed_first = opened_none name (at_name name) start.opened first.opened (inl refl) one.opened one.unopened closed

    first_each : (a c : Files) → At (at_name name) StaysOrShort a c → AtOwn name (OnlyLoads name) a c
    first_each a c step = both_loads name 0 (omega arith) a c (both_first name 0 (omega arith) a c step)

    pub told_only : LeavesLoaded name start first
    told_only =
        leaves name start first (first_each start.files first.files one.files) (passes_weaker (At (at_name name) StaysOrShort) (AtOwn name (OnlyLoads name)) start.past first.past one.any_moment (λ a c was step. first_each a c step))
        (λ n other. one.opened n (λ is. other (inl is))) closed_first

    module _ (g : ℕ) (small : g < 2 ^ 64) (at : PlainState) (is_at : at.name ≡ at_name name) (at_first : IsSettled at first (generation_batches g)) (mid : DiskShown) (two : ChangesUnopened (generation_name name g) StaysOrShort first mid) where
      told_left : (disk : DiskShown) → IsSettled at disk (generation_batches g) → (b : Files) → MayLeave disk.past b → HasBatches (b (at_name name)) (generation_batches g)
      told_left disk settled b left = subst (λ (n : Name). HasBatches (b n) (generation_batches g)) is_at (journal_left at disk (generation_batches g) settled b left)

      told_seen : (disk : DiskShown) → IsSettled at disk (generation_batches g) → HasBatches (disk.files (at_name name)) (generation_batches g)
      told_seen disk settled = subst (λ (n : Name). HasBatches (disk.files n) (generation_batches g)) is_at (settled_seen at disk (generation_batches g) settled)

      still : IsSettled at mid (generation_batches g)
      still = at_mid name g small at is_at first mid at_first two

      both_passes : Passes (BothLoaded name g) start.past mid.past
      both_passes =
          passes_over (At (at_name name) StaysOrShort) (BothLoaded name g) (At (generation_name name g) StaysOrShort) start.past first.past mid.past one.any_moment two.any_moment (λ a c was step. both_first name g small a c step)
          (λ a b c was so_far now step. both_then name g small a b c (both_first name g small a b so_far) (told_left first at_first b now) step)

      both_seen : BothLoaded name g start.files mid.files
      both_seen = both_then name g small start.files first.files mid.files (both_first name g small start.files first.files one.files) (told_seen first at_first) two.files

      pub closed_mid : (n : Name) → IsOwn name n → mid.opened n ≡ 0
      closed_mid = opened_none name (generation_name name g) first.opened mid.opened (inr (g, small, refl)) two.opened two.unopened closed_first

      opened_mid : (n : Name) → (IsOwn name n → ⊥) → mid.opened n ≡ start.opened n
      opened_mid n other = two.opened n (λ is. other (inr (g, small, is))) ∙ one.opened n (λ is. other (inl is))

      pub both_only : LeavesLoaded name start mid
      both_only =
          leaves name start mid (both_loads name g small start.files mid.files both_seen) (passes_weaker (BothLoaded name g) (AtOwn name (OnlyLoads name)) start.past mid.past both_passes (λ a c was step. both_loads name g small a c step))
          opened_mid closed_mid

      module _ (last : DiskShown) (opened : (n : Name) → (IsBefore name g n → ⊥) → last.opened n ≡ mid.opened n) (unopened : (n : Name) → IsBefore name g n → last.opened n ≡ 0) where
        pub closed_last : (n : Name) → IsOwn name n → last.opened n ≡ 0
        closed_last = opened_cleared name g small mid.opened last.opened opened unopened closed_mid

        -- the current generation's file has batches, so the one before may go
        pub all_cleared : (current : PlainState) (bs : List (List ℕ)) → current.name ≡ generation_name name g → IsSettled current mid bs → IsThere g (first.files (generation_name name g)) → OnlyClears name g mid.files last.files
            → Passes (OnlyClears name g) mid.past last.past → LeavesLoaded name start last
        all_cleared current bs is_current settled there clears moments =
            let there_mid : IsThere g (mid.files current.name) =
            subst (λ (n : Name). IsThere g (mid.files n)) (sym is_current) (stays_there g (first.files (generation_name name g)) (mid.files (generation_name name g)) two.files.here there) in
            let left = λ (b : Files) (now : MayLeave mid.past b).
            holds_at name at.name current.name b g bs small is_at is_current (journal_left at mid (generation_batches g) still b now) (journal_left current mid bs settled b now) (subst (IsThere g) (sym (same_left current mid bs settled b now)) there_mid) in
            let seen = holds_at name at.name current.name mid.files g bs small is_at is_current (settled_seen at mid (generation_batches g) still) (settled_seen current mid bs settled) there_mid in
            leaves name start last (cleared_loads name g small start.files mid.files last.files bs both_seen (told_seen mid still) seen clears)
            (passes_over (BothLoaded name g) (AtOwn name (OnlyLoads name)) (OnlyClears name g) start.past mid.past last.past both_passes moments (λ a c was step. both_loads name g small a c step)
            (λ a b c was so_far now step. cleared_loads name g small a b c bs so_far (told_left mid still b now) (left b now) step))
            (λ n other. opened n (λ before. other (before_own name g small n before)) ∙ opened_mid n other) closed_last

-- the file of the generation before is cleared
pub clears_none : (name : Name) (g : ℕ) (past : Past) → Passes (OnlyClears name g) past past
clears_none name g past = passes_none (OnlyClears name g) past (λ a was n. (λ before. inl refl, λ other. refl))

module _ (name : Name) (g : ℕ) (old : Name) (some : 0 < g) (is : old ≡ generation_name name (g - 1)) where
  pub clears_at : (a c : Files) → At old (KeptOr None) a c → OnlyClears name g a c
  clears_at a c step n = (
    λ before. subst (λ (m : Name). KeptOr None (a m) (c m)) (sym (before_is name g old n is before)) step.here,
    λ other. step.elsewhere n (λ same. other (subst (IsBefore name g) (sym same) (is_before name g old some is))),
  )

  pub clears_passes : (was now : Past) → Passes (At old (KeptOr None)) was now → Passes (OnlyClears name g) was now
  clears_passes was now passes = passes_weaker (At old (KeptOr None)) (OnlyClears name g) was now passes (λ a c left step. clears_at a c step)

-- the files that are begun are there with their one byte
module _ (name : Name) (g : ℕ) (small : g < 2 ^ 64) (files first mid last : Files) (at_kept : At (at_name name) StaysOrShort files first) (current_kept : At (generation_name name g) StaysOrShort first mid) (clears : OnlyClears name g mid last)
    (told : HasBatches (files (at_name name)) (generation_batches g)) (at_made : IsShort (files (at_name name)) → first (at_name name) ≡ Some (0 ∷ [])) (current_made : IsShort (first (generation_name name g)) → mid (generation_name name g) ≡ Some (0 ∷ [])) where
  pub all_made : (n : Name) → (n ≡ at_name name) ⊎ IsCurrent name files n → IsShort (files n) → last n ≡ Some (0 ∷ [])
  all_made n (inl is) short =
      subst (λ (m : Name). last m ≡ Some (0 ∷ [])) (sym is)
      ((clears (at_name name)).1 (at_not_before name g small) ∙ current_kept.elsewhere (at_name name) (λ same. at_apart name g small (sym same)) ∙ at_made (subst (λ (m : Name). IsShort (files m)) is short))
  all_made n (inr (k, small_k, told_k, is)) short =
      let same : k ≡ g = one_generation_told (files (at_name name)) k g told_k told in
      let here : n ≡ generation_name name g = is ∙ ap (λ (m : ℕ). generation_name name m) same in
      let was : IsShort (files (generation_name name g)) = subst (λ (m : Name). IsShort (files m)) here short in
      let now : IsShort (first (generation_name name g)) = subst IsShort (sym (at_kept.elsewhere (generation_name name g) (at_apart name g small))) was in
      subst (λ (m : Name). last m ≡ Some (0 ∷ [])) (sym here) ((clears (generation_name name g)).1 (current_not_before name g small) ∙ current_made now)
