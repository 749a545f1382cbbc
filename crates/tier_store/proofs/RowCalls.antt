-- A change of the rows where nothing stands in doubt, by what the catalogue's call says.
use Rattle.std.proofs.Common.{◌≡◌, ◌≢◌, ◌⊎◌, inl, inr, true, false, Bool, ℕ, ◌≤◌, ◌<◌, ◌+◌, ◌++◌, ◌∷◌, [], List, length, map, Ok, Err, refl, sym, ◌∙◌, ap, subst, arith}
use Rattle.std.specs.Prelude.{IsTrue, Result, OnOk, OnErr, IfOk, IfErr, ◌↔◌}
use Rattle.disk_model.specs.Files.{Name, Files, Rose}
use Rattle.disk_model.specs.Past.{Passes}
use Rattle.disk_model.specs.declared.disk.DiskErr.TheVariants.{Fault, Memory}
use Rattle.disk_model.proofs.Passing.{passes_none, passes_weaker}
use Rattle.pb_messages.specs.declared.about.About.{About}
use Rattle.pb_messages.specs.declared.about.State.{State}
use Rattle.pb_messages.specs.declared.about.State.TheVariants.{Running, Paused}
use Rattle.gate_journal.specs.Generations.{IsOwn, AtOwn}
use Rattle.gate_journal.specs.Journal.{JournalState}
use Rattle.gate_journal.specs.Kept as journal
use Rattle.gate_journal.specs.Kept.{Says, SaysEither}
use Rattle.gate_journal.specs.DiskShown.{DiskShown}
use Rattle.gate_journal.proofs.Keeping.{says_stays}
use Rattle.partition_names.specs.declared.granularity.Granularity.{Granularity}
use Rattle.pv_catalog.specs.Catalogue as catalogue
use Rattle.pv_catalog.specs.Catalogue.{EndsRows, CatalogueState, HasState, Refuses, IsRefusal, IsNameRefusal, IsOfRows, RefusesName, registered, renamed, catalogue_name}
use Rattle.pv_catalog.specs.Rows.{IsCatalogue, KeepsRows, switched}
use Rattle.pv_catalog.specs.declared.error.RegisterErr.{RegisterErr}
use Rattle.pv_catalog.specs.declared.error.RegisterErr.TheVariants as of_register
use Rattle.pv_catalog.specs.declared.error.RenameErr.{RenameErr}
use Rattle.pv_catalog.specs.declared.error.RenameErr.TheVariants as of_rename
use Rattle.pv_catalog.specs.declared.error.StateErr.{StateErr}
use Rattle.pv_catalog.specs.declared.error.StateErr.TheVariants as of_state
use Rattle.pv_catalog.specs.declared.row.Row.{Row}
use Rattle.pv_catalog.proofs.Refusing.{same_name_err}
use Rattle.pv_catalog.proofs.Standing.{keeps_more, keeps_switched}
use Rattle.store_manifest.specs.Batches.{Folds}
use Rattle.store_manifest.specs.Manifest.{ManifestState, manifest_name}
use Rattle.durable_write.specs.Held.{Held, AreIn, entry_of}
use Rattle.durable_write.specs.Ends.{End, Done, Refused, Failed, Spent, IsFailed, end_of_register, end_of_rename, end_of_switch}
use Rattle.durable_write.specs.Stored.{Holds, KeysDiffer, AreHeld, CatalogueStored, TierStored}
use Rattle.durable_write.proofs.Commits.{other_journal}
use Rattle.durable_write.proofs.Staying.{tier_stays, filed_still, held_grows, in_grows, safe_grows, not_in, own_stay, own_long, safe_stays}
use Rattle.durable_write.proofs.Places.{keeps_renamed, keys_pushed, keys_renamed, keys_switched, of_disk, has_state}
use Rattle.tier_store.specs.Stores.{Stores, tier, with_rows}
use Rattle.tier_store.specs.Seen.{Seen, seen_on, AtEach, granularities}
use Rattle.tier_store.specs.Change.{IsKnown, Has, HoldsBy, StoreCall, EndsFrom, Changes, registering, renaming, pausing, resuming, Registers, Renames, Switches}
use Rattle.tier_store.proofs.Holding.{all_left, has_left}

registers : (c : List Row) (name : List ℕ) (about : About) → ((e : RegisterErr) → Refuses c name e → ⊥) → (held : Stores) → held.rows ≡ c → Registers name about held (with_rows held (c ++ registered c name about ∷ []))
registers c name about free held same = (λ e refuses. free e (subst (λ (rs : List Row). Refuses rs name e) same refuses), ap (λ (rs : List Row). with_rows held (rs ++ registered rs name about ∷ [])) (sym same))

renames : (row : ℕ) (name : List ℕ) (c : List Row) → HasState c row Paused → ((e : RenameErr) → RefusesName c row name e → ⊥) → (held : Stores) → held.rows ≡ c → Renames row name held (with_rows held (renamed row name c))
renames row name c has free held same = (
  subst (λ (rs : List Row). HasState rs row Paused) (sym same) has,
  λ e refuses. free e (subst (λ (rs : List Row). RefusesName rs row name e) same refuses),
  ap (λ (rs : List Row). with_rows held (renamed row name rs)) (sym same),
)

switches : (row : ℕ) (from to : State) (c : List Row) (held : Stores) → held.rows ≡ c → HasState c row from → Switches row from to held (with_rows held (switched row to c))
switches row from to c held same has = (subst (λ (rs : List Row). HasState rs row from) (sym same) has, ap (λ (rs : List Row). with_rows held (switched row to rs)) (sym same))

-- BESIDE A COMMIT OF THE CATALOGUE

module _ (name : Name) (R : Files → Files → Type 0) (named : name ≡ catalogue_name) where
  -- no listed file is the catalogue's, and no manifest has one of its files
  name_out : (t : Held) → 1 ≤ t.store → name.0 ≢ t.store
  name_out t numbered = not_in t.store name catalogue_name numbered named refl

  manifest_out : (store : ℕ) (n : Name) → IsOwn (manifest_name store) n → IsOwn name n → ⊥
  manifest_out store n own its = other_journal store n (subst (λ (m : Name). IsOwn m n) named its) own

  in_still : (t : Held) (a c : Files) → 1 ≤ t.store → AtOwn name R a c → AreIn t a → AreIn t c
  in_still t a c numbered step was = own_stay t name R a c (name_out t numbered) step was

  -- an image holds a store under the rows that it has now
  holds_old : (g : Granularity) (t : Held) (a c : Files) → AtOwn name R a c → Says IsCatalogue t.rows catalogue_name c → Holds g a t → Holds g c t
  holds_old g t a c step says holds = record {
    rows = says;
    lists = says_stays (Folds g) (map entry_of t.files) (manifest_name t.store) a c (λ n own. step.elsewhere n (manifest_out t.store n own)) holds.lists;
    filed = holds.filed;
    files = in_still t a c holds.filed.numbered step holds.files;
  }

  holds_new : (g : Granularity) (s : Stores) (i : ℕ) (later : List Row) (a c : Files) → KeepsRows s.rows later → AtOwn name R a c → Says IsCatalogue later catalogue_name c → Holds g a (tier i s) → Holds g c (tier i (with_rows s later))
  holds_new g s i later a c keeps step says holds = record {
    rows = says;
    lists = says_stays (Folds g) (map entry_of (tier i s).files) (manifest_name (i + 1)) a c (λ n own. step.elsewhere n (manifest_out (i + 1) n own)) holds.lists;
    filed = filed_still g (tier i s) later keeps holds.filed;
    files = in_grows g (tier i s) later c keeps holds.filed (in_still (tier i s) a c holds.filed.numbered step holds.files);
  }

  module _ (old new : DiskShown) (passes : Passes (AtOwn name R) old.past new.past) (elsewhere : (n : Name) → (IsOwn name n → ⊥) → new.files n ≡ old.files n) (same : new.opened ≡ old.opened) where
    fewer : (n : Name) → new.opened n ≤ old.opened n
    fewer n = let here : new.opened n ≡ old.opened n = ap (λ (f : Name → ℕ). f n) same in omega (arith, here)

    tier_beside : (g : Granularity) (m : JournalState) (t : Held) → TierStored g m old t → TierStored g m new t
    tier_beside g m t stored =
        let numbered = stored.valid.filed.numbered in
        let other : (n : Name) → IsOwn m.name n → IsOwn name n → ⊥ = λ n own its. manifest_out t.store n (subst (λ (k : Name). IsOwn k n) stored.named own) its in
        tier_stays (AtOwn name R) m old new passes (record { step = λ a c step n own. step.elsewhere n (other n own); same = λ n own. elsewhere n (other n own); fewer = λ n own. fewer n }) g t stored
        (safe_stays t (AtOwn name R) old new stored.safe passes (λ a c step. in_still t a c numbered step) (own_long t name old.files new.files (name_out t numbered) elsewhere stored.safe.long) fewer)

    tier_grown : (g : Granularity) (m : JournalState) (s : Stores) (i : ℕ) (later : List Row) → KeepsRows s.rows later → AreHeld g (tier i (with_rows s later)) → TierStored g m old (tier i s) → TierStored g m new (tier i (with_rows s later))
    tier_grown g m s i later keeps valid stored =
        let now = tier_beside g m (tier i s) stored in
        record { named = now.named; sound = now.sound; kept = now.kept; valid = valid; safe = safe_grows g (tier i s) later new keeps now.valid.filed now.safe }

-- THE CALL

module _ {S : Type 0} (shows : S → DiskShown) (faults_of : S → ℕ) (tells : Bool) (c made : CatalogueState) (ms : List ManifestState) (d after : S) where
  abbrev before : Seen
  before = seen_on shows faults_of c ms d

  abbrev behind : Seen
  behind = seen_on shows faults_of made ms after

  -- the rows and the disk are as they were
  rows_same : {A E : Type 0} (call : StoreCall A E) (end : End A E) → made.journal ≡ c.journal → made.rows ≡ c.rows → after ≡ d → ((held : Stores) → Has tells behind held → held.rows ≡ c.rows → EndsFrom tells call behind held end) → (IsFailed end → ⊥) → Changes tells call before behind end
  rows_same {A} {E} call end journal rows same ends not_failed = record {
    ends = λ held has. ends held (still held has) (sym has.known.rows);
    any_moment = λ told held has.
        subst (λ (x : S). Passes (HoldsBy (granularities ms) call.by held) (shows d).past (shows x).past) (sym same) (passes_none (HoldsBy (granularities ms) call.by held) (shows d).past (λ image left. inl (has_left tells before held has told image left)));
    costs = record { granularity = refl; faults = subst (λ (x : S). faults_of d ≤ faults_of x) (sym same) (omega arith); cause = λ failed. absurd (not_failed failed) };
  }
    where
      still : (held : Stores) → Has tells before held → Has tells behind held
      still held has = subst (λ (x : S). Has tells (seen_on shows faults_of made ms x) held) (sym same) (record {
        known = record { three = has.known.three; rows = rows ∙ has.known.rows; each = has.known.each };
        settled = record { catalogue = ap (λ (j : JournalState). j.sound) journal ∙ has.settled.catalogue; manifests = has.settled.manifests };
        disk = λ told. record {
          rows = subst (λ (j : JournalState). CatalogueStored j (shows d) held.rows) (sym journal) (has.disk told).rows;
          each = (has.disk told).each;
        };
      })

  module _ (next : List Row) (keeps : KeepsRows c.rows next) (name : made.journal.name ≡ c.journal.name) (passes : IsTrue tells → Passes (AtOwn c.journal.name (SaysEither IsCatalogue c.rows next c.journal.name)) (shows d).past (shows after).past) (elsewhere : IsTrue tells → (n : Name) → (IsOwn c.journal.name n → ⊥) → (shows after).files n ≡ (shows d).files n)
      (opened : IsTrue tells → (shows after).opened ≡ (shows d).opened) (faults : faults_of d ≤ faults_of after) {A E : Type 0} (call : StoreCall A E) (by : (held : Stores) → held.rows ≡ c.rows → call.by held (with_rows held next)) (keys : KeysDiffer c.rows → KeysDiffer next) where
    abbrev R : Files → Files → Type 0
    R = SaysEither IsCatalogue c.rows next c.journal.name

    keeps_held : (held : Stores) → IsKnown c ms held → KeepsRows held.rows next
    keeps_held held known = subst (λ (r : List Row). KeepsRows r next) known.rows keeps

    grows : (held : Stores) → IsKnown c ms held → AtEach ms (λ i m. AreHeld m.granularity (tier i (with_rows held next)))
    grows held known i m here =
        let valid = (known.each i m here).valid in
        held_grows m.granularity (tier i held) next (keeps_held held known) (keys (subst KeysDiffer (sym known.rows) valid.keys)) valid

    any_moment : IsTrue tells → (held : Stores) → Has tells before held → Passes (HoldsBy (granularities ms) call.by held) (shows d).past (shows after).past
    any_moment told held has =
        passes_weaker (AtOwn c.journal.name R) (HoldsBy (granularities ms) call.by held) (shows d).past (shows after).past (passes told) (λ a image left step.
        let stored = has.disk told in
        let was = all_left before held a stored left in
        let named = stored.rows.named in
        elim step.here [
          | inl says ↦
              let rows = subst (λ (n : Name). Says IsCatalogue c.rows n image) named says in
              inl (λ i g here. holds_old c.journal.name R named g (tier i held) a image step (subst (λ (rs : List Row). Says IsCatalogue rs catalogue_name image) has.known.rows rows) (was i g here))
          | inr says ↦
              let rows = subst (λ (n : Name). Says IsCatalogue next n image) named says in
              inr (with_rows held next, by held (sym has.known.rows), λ i g here. holds_new c.journal.name R named g held i next a image (keeps_held held has.known) step rows (was i g here))
        ])

    rows_done : (a : A) → ((held : Stores) → held.rows ≡ c.rows → call.says a held (with_rows held next)) → made.rows ≡ next → made.journal.sound ≡ true → (IsTrue tells → catalogue.IsStored made (shows after)) → Changes tells call before behind (Done a)
    rows_done a says rows sound stored = record {
      ends = λ held has. (
        with_rows held next,
        by held (sym has.known.rows),
        says held (sym has.known.rows),
        record {
          known = record { three = has.known.three; rows = rows; each = λ i m here. record { entries = (has.known.each i m here).entries; valid = grows held has.known i m here } };
          settled = record { catalogue = sound; manifests = has.settled.manifests };
          disk = λ told.
              let had = has.disk told in
              record {
                rows = record { named = name ∙ had.rows.named; sound = sound; kept = subst (journal.IsKept IsCatalogue made.journal (shows after)) rows (stored told) };
                each = λ i m here. tier_grown c.journal.name R had.rows.named (shows d) (shows after) (passes told) (elsewhere told) (opened told) m.granularity m.journal held i next (keeps_held held has.known) (grows held has.known i m here) (had.each i m here);
              };
        },
      );
      any_moment = any_moment;
      costs = record { granularity = refl; faults = faults; cause = λ failed. absurd failed };
    }

    rows_failed : made.rows ≡ c.rows → made.next ≡ next → made.journal.sound ≡ false → (IsTrue tells → catalogue.IsInDoubt made (shows after)) → Rose (faults_of d) (faults_of after) → Changes tells call before behind Failed
    rows_failed rows is unsound doubt rose = record {
      ends = λ held has. inr (
        with_rows held next,
        by held (sym has.known.rows),
        record {
          known = record { three = has.known.three; rows = rows ∙ has.known.rows; each = has.known.each };
          valid_after = grows held has.known;
          change = inl (record {
            unsound = unsound;
            sound = has.settled.manifests;
            next = is;
            same = refl;
            disk = λ told.
                let had = has.disk told in
                record {
                  rows = record {
                    named = name ∙ had.rows.named;
                    unsound = unsound;
                    unsure = subst (λ (rs : List Row). journal.IsUnsure IsCatalogue made.journal (shows after) rs next) (rows ∙ has.known.rows)
                        (subst (journal.IsUnsure IsCatalogue made.journal (shows after) made.rows) is (doubt told));
                  };
                  each = λ i m here. tier_beside c.journal.name R had.rows.named (shows d) (shows after) (passes told) (elsewhere told) (opened told) m.granularity m.journal (tier i held) (had.each i m here);
                  each_after = λ i m here. tier_grown c.journal.name R had.rows.named (shows d) (shows after) (passes told) (elsewhere told) (opened told) m.granularity m.journal held i next (keeps_held held has.known) (grows held has.known i m here) (had.each i m here);
                };
          });
        },
      );
      any_moment = any_moment;
      costs = record { granularity = refl; faults = faults; cause = λ failed. rose };
    }

  -- REGISTERING

  pub register_changes : (name : List ℕ) (about : About) (r : Result ℕ RegisterErr)
      → (IsTrue tells → Passes (AtOwn c.journal.name (SaysEither IsCatalogue c.rows (c.rows ++ registered c.rows name about ∷ []) c.journal.name)) (shows d).past (shows after).past) → (IsTrue tells → (n : Name) → (IsOwn c.journal.name n → ⊥) → (shows after).files n ≡ (shows d).files n)
      → (IsTrue tells → (shows after).opened ≡ (shows d).opened) → faults_of d ≤ faults_of after
      → IfOk r (λ id. id ≡ length c.rows) → EndsRows r (r ≡ Err (of_register.Disk Fault)) (r ≡ Err (of_register.Disk Memory)) (c.rows ++ registered c.rows name about ∷ []) c made → (IsTrue tells → OnOk r (catalogue.IsStored made (shows after)))
      → IfErr r (IsRefusal c.rows name) → ((e : RegisterErr) → Refuses c.rows name e → (r ≡ Err e) ⊎ (r ≡ Err (of_register.Disk Memory))) → IfErr r (λ e. IsOfRows e → (made ≡ c) × (after ≡ d))
      → (IsTrue tells → r ≡ Err (of_register.Disk Fault) → catalogue.IsInDoubt made (shows after)) → (r ≡ Err (of_register.Disk Fault) → Rose (faults_of d) (faults_of after)) → (r ≡ Err (of_register.Disk Memory) → after ≡ d)
      → Changes tells (registering name about) before behind (end_of_register r)
  register_changes name about (Ok id) passes elsewhere opened faults is_id ends stored refusal exactly unchanged doubt cause untouched =
      let free : (e : RegisterErr) → Refuses c.rows name e → ⊥ = λ e refuses. elim (exactly e refuses) [ inl is ↦ absurd (cc (is)) | inr is ↦ absurd (cc (is)) ] in
      rows_done (c.rows ++ registered c.rows name about ∷ []) (keeps_more c.rows (registered c.rows name about ∷ [])) ends.name passes elsewhere opened faults (registering name about) (registers c.rows name about free) (keys_pushed c.rows name about free) id (λ held same. is_id ∙ ap (λ (rs : List Row). length rs) (sym same)) ends.rows ends.sound stored
  register_changes name about (Err (of_register.NameTaken i)) passes elsewhere opened faults is_id ends stored refusal exactly unchanged doubt cause untouched =
      rows_same (registering name about) (Refused (of_register.NameTaken i)) (ap (λ (s : CatalogueState). s.journal) (unchanged tt).0) ends.kept (unchanged tt).1 (λ held has same. (has, subst (λ (rs : List Row). Refuses rs name (of_register.NameTaken i)) (sym same) refusal)) (λ failed. failed)
  register_changes name about (Err (of_register.KeyTaken i)) passes elsewhere opened faults is_id ends stored refusal exactly unchanged doubt cause untouched =
      rows_same (registering name about) (Refused (of_register.KeyTaken i)) (ap (λ (s : CatalogueState). s.journal) (unchanged tt).0) ends.kept (unchanged tt).1 (λ held has same. (has, subst (λ (rs : List Row). Refuses rs name (of_register.KeyTaken i)) (sym same) refusal)) (λ failed. failed)
  register_changes name about (Err of_register.Full) passes elsewhere opened faults is_id ends stored refusal exactly unchanged doubt cause untouched =
      rows_same (registering name about) (Refused of_register.Full) (ap (λ (s : CatalogueState). s.journal) (unchanged tt).0) ends.kept (unchanged tt).1 (λ held has same. (has, subst (λ (rs : List Row). Refuses rs name of_register.Full) (sym same) refusal)) (λ failed. failed)
  register_changes name about (Err (of_register.Disk Fault)) passes elsewhere opened faults is_id ends stored refusal exactly unchanged doubt cause untouched =
      let free : (e : RegisterErr) → Refuses c.rows name e → ⊥ = λ e refuses. elim (exactly e refuses) [ inl is ↦ of_disk c.rows name e Fault is refuses | inr is ↦ absurd (cc (is)) ] in
      rows_failed (c.rows ++ registered c.rows name about ∷ []) (keeps_more c.rows (registered c.rows name about ∷ [])) ends.name passes elsewhere opened faults (registering name about) (registers c.rows name about free) (keys_pushed c.rows name about free) ends.kept (ends.next refl) (ends.unsound refl) (λ told. doubt told refl) (cause refl)
  register_changes name about (Err (of_register.Disk Memory)) passes elsewhere opened faults is_id ends stored refusal exactly unchanged doubt cause untouched =
      rows_same (registering name about) Spent (ends.memory refl) ends.kept (untouched refl) (λ held has same. has) (λ failed. failed)

  -- RENAMING

  module _ (row : ℕ) (within : row < length c.rows) (name : List ℕ) (r : Result ℕ RenameErr) (ends : EndsRows r (r ≡ Err (of_rename.Disk Fault)) (r ≡ Err (of_rename.Disk Memory)) (renamed row name c.rows) c made)
      (passes : IsTrue tells → Passes (AtOwn c.journal.name (SaysEither IsCatalogue c.rows (renamed row name c.rows) c.journal.name)) (shows d).past (shows after).past)
      (elsewhere : IsTrue tells → (n : Name) → (IsOwn c.journal.name n → ⊥) → (shows after).files n ≡ (shows d).files n) (opened : IsTrue tells → (shows after).opened ≡ (shows d).opened) (faults : faults_of d ≤ faults_of after)
      (exactly : (e : RenameErr) → RefusesName c.rows row name e → (r ≡ Err e) × (made ≡ c) × (after ≡ d)) where
    -- where the name was not refused, the change is made
    taken : ((e : RenameErr) → r ≡ Err e → RefusesName c.rows row name e → ⊥) → HasState c.rows row Paused × ((e : RenameErr) → RefusesName c.rows row name e → ⊥)
    taken not =
        let free : (e : RenameErr) → RefusesName c.rows row name e → ⊥ = λ e refuses. not e (exactly e refuses).0 refuses in
        (elim (has_state c.rows row Paused within) [ inl has ↦ has | inr other ↦ absurd (free of_rename.NotPaused other) ], free)

    refused : (e : RenameErr) → made.rows ≡ c.rows → RefusesName c.rows row name e → Changes tells (renaming row name) before behind (Refused e)
    refused e kept refuses =
        let same = exactly e refuses in
        rows_same (renaming row name) (Refused e) (ap (λ (s : CatalogueState). s.journal) same.1) kept same.2 (λ held has rows. (has, subst (λ (rs : List Row). RefusesName rs row name e) (sym rows) refuses)) (λ failed. failed)

    pub rename_changes : IfOk r (λ id. id ≡ length c.rows) → (IsTrue tells → OnOk r (catalogue.IsStored made (shows after)))
        → IfErr r (IsNameRefusal c.rows row name) → (IsTrue tells → r ≡ Err (of_rename.Disk Fault) → catalogue.IsInDoubt made (shows after))
        → (r ≡ Err (of_rename.Disk Fault) → Rose (faults_of d) (faults_of after)) → (r ≡ Err (of_rename.Disk Memory) → after ≡ d) → Changes tells (renaming row name) before behind (end_of_rename r)
    rename_changes is_id stored refusal doubt cause untouched = go r refl is_id ends.rows ends.sound stored refusal ends.kept
      where
        go : (x : Result ℕ RenameErr) → r ≡ x → IfOk x (λ id. id ≡ length c.rows) → OnOk x (made.rows ≡ renamed row name c.rows) → OnOk x (made.journal.sound ≡ true) → (IsTrue tells → OnOk x (catalogue.IsStored made (shows after)))
            → IfErr x (IsNameRefusal c.rows row name) → OnErr x (made.rows ≡ c.rows) → Changes tells (renaming row name) before behind (end_of_rename x)
        go (Ok id) is is_id rows sound stored refusal kept =
            let may = taken (λ e not. let wrong : ◌≡◌ {A = Result ℕ RenameErr} (Ok id) (Err e) = sym is ∙ not in absurd (cc wrong)) in
            rows_done (renamed row name c.rows) (keeps_renamed c.rows row name may.0) ends.name passes elsewhere opened faults (renaming row name) (renames row name c.rows may.0 may.1) (keys_renamed c.rows row name may.0 may.1) id
            (λ held same. is_id ∙ ap (λ (rs : List Row). length rs) (sym same)) rows sound stored
        go (Err of_rename.NotPaused) is is_id rows sound stored refusal kept = refused of_rename.NotPaused kept refusal
        go (Err (of_rename.NameTaken i)) is is_id rows sound stored refusal kept = refused (of_rename.NameTaken i) kept refusal
        go (Err (of_rename.KeyTaken i)) is is_id rows sound stored refusal kept = refused (of_rename.KeyTaken i) kept refusal
        go (Err of_rename.Full) is is_id rows sound stored refusal kept = refused of_rename.Full kept refusal
        go (Err (of_rename.Disk Fault)) is is_id rows sound stored refusal kept =
            let may = taken (λ e not refuses. subst (RefusesName c.rows row name) (same_name_err e (of_rename.Disk Fault) (sym not ∙ is)) refuses) in
            rows_failed (renamed row name c.rows) (keeps_renamed c.rows row name may.0) ends.name passes elsewhere opened faults (renaming row name) (renames row name c.rows may.0 may.1) (keys_renamed c.rows row name may.0 may.1) kept (ends.next is) (ends.unsound is) (λ told. doubt told is) (cause is)
        go (Err (of_rename.Disk Memory)) is is_id rows sound stored refusal kept = rows_same (renaming row name) Spent (ends.memory is) kept (untouched is) (λ held has same. has) (λ failed. failed)

  -- SWITCHING

  module _ (row : ℕ) (within : row < length c.rows) (elsewhere : IsTrue tells → (n : Name) → (IsOwn c.journal.name n → ⊥) → (shows after).files n ≡ (shows d).files n) (opened : IsTrue tells → (shows after).opened ≡ (shows d).opened) (faults : faults_of d ≤ faults_of after) (r : Result (Unit {0}) StateErr)
      (stored : IsTrue tells → OnOk r (catalogue.IsStored made (shows after))) (doubt : IsTrue tells → r ≡ Err (of_state.Disk Fault) → catalogue.IsInDoubt made (shows after))
      (cause : r ≡ Err (of_state.Disk Fault) → Rose (faults_of d) (faults_of after)) (untouched : r ≡ Err (of_state.Disk Memory) → after ≡ d) where
    pub pause_changes : (IsTrue tells → Passes (AtOwn c.journal.name (SaysEither IsCatalogue c.rows (switched row Paused c.rows) c.journal.name)) (shows d).past (shows after).past) → EndsRows r (r ≡ Err (of_state.Disk Fault)) (r ≡ Err (of_state.Disk Memory)) (switched row Paused c.rows) c made → ((r ≡ Err of_state.NotRunning) ↔ (HasState c.rows row Running → ⊥)) → (r ≡ Err of_state.NotPaused → ⊥)
        → (r ≡ Err of_state.NotRunning → (made ≡ c) × (after ≡ d)) → Changes tells (pausing row) before behind (end_of_switch r)
    pause_changes passes ends exactly never unchanged = go r refl ends.sound stored ends.kept ends.rows
      where
        by : (r ≡ Err of_state.NotRunning → ⊥) → (held : Stores) → held.rows ≡ c.rows → Switches row Running Paused held (with_rows held (switched row Paused c.rows))
        by other held same = switches row Running Paused c.rows held same (elim (has_state c.rows row Running within) [ inl has ↦ has | inr not ↦ absurd (other (exactly.1 not)) ])

        go : (x : Result (Unit {0}) StateErr) → r ≡ x → OnOk x (made.journal.sound ≡ true) → (IsTrue tells → OnOk x (catalogue.IsStored made (shows after))) → OnErr x (made.rows ≡ c.rows) → OnOk x (made.rows ≡ switched row Paused c.rows) → Changes tells (pausing row) before behind (end_of_switch x)
        go (Ok a) is sound stored kept rows =
            rows_done (switched row Paused c.rows) (keeps_switched row Paused c.rows) ends.name passes elsewhere opened faults (pausing row) (by (λ other. absurd (cc (is, other)))) (keys_switched row Paused c.rows) a (λ held same. tt) rows sound stored
        go (Err of_state.NotRunning) is sound stored kept rows =
            rows_same (pausing row) (Refused of_state.NotRunning) (ap (λ (s : CatalogueState). s.journal) (unchanged is).0) kept (unchanged is).1 (λ held has same. (has, λ state. exactly.0 is (subst (λ (rs : List Row). HasState rs row Running) same state))) (λ failed. failed)
        go (Err of_state.NotPaused) is sound stored kept rows = absurd (never is)
        go (Err (of_state.Disk Fault)) is sound stored kept rows =
            rows_failed (switched row Paused c.rows) (keeps_switched row Paused c.rows) ends.name passes elsewhere opened faults (pausing row) (by (λ other. absurd (cc (is, other)))) (keys_switched row Paused c.rows) kept (ends.next is) (ends.unsound is) (λ told. doubt told is) (cause is)
        go (Err (of_state.Disk Memory)) is sound stored kept rows = rows_same (pausing row) Spent (ends.memory is) kept (untouched is) (λ held has same. has) (λ failed. failed)

    pub resume_changes : (IsTrue tells → Passes (AtOwn c.journal.name (SaysEither IsCatalogue c.rows (switched row Running c.rows) c.journal.name)) (shows d).past (shows after).past) → EndsRows r (r ≡ Err (of_state.Disk Fault)) (r ≡ Err (of_state.Disk Memory)) (switched row Running c.rows) c made → ((r ≡ Err of_state.NotPaused) ↔ (HasState c.rows row Paused → ⊥)) → (r ≡ Err of_state.NotRunning → ⊥)
        → (r ≡ Err of_state.NotPaused → (made ≡ c) × (after ≡ d)) → Changes tells (resuming row) before behind (end_of_switch r)
    resume_changes passes ends exactly never unchanged = go r refl ends.sound stored ends.kept ends.rows
      where
        by : (r ≡ Err of_state.NotPaused → ⊥) → (held : Stores) → held.rows ≡ c.rows → Switches row Paused Running held (with_rows held (switched row Running c.rows))
        by other held same = switches row Paused Running c.rows held same (elim (has_state c.rows row Paused within) [ inl has ↦ has | inr not ↦ absurd (other (exactly.1 not)) ])

        go : (x : Result (Unit {0}) StateErr) → r ≡ x → OnOk x (made.journal.sound ≡ true) → (IsTrue tells → OnOk x (catalogue.IsStored made (shows after))) → OnErr x (made.rows ≡ c.rows) → OnOk x (made.rows ≡ switched row Running c.rows) → Changes tells (resuming row) before behind (end_of_switch x)
        go (Ok a) is sound stored kept rows =
            rows_done (switched row Running c.rows) (keeps_switched row Running c.rows) ends.name passes elsewhere opened faults (resuming row) (by (λ other. absurd (cc (is, other)))) (keys_switched row Running c.rows) a (λ held same. tt) rows sound stored
        go (Err of_state.NotPaused) is sound stored kept rows =
            rows_same (resuming row) (Refused of_state.NotPaused) (ap (λ (s : CatalogueState). s.journal) (unchanged is).0) kept (unchanged is).1 (λ held has same. (has, λ state. exactly.0 is (subst (λ (rs : List Row). HasState rs row Paused) same state))) (λ failed. failed)
        go (Err of_state.NotRunning) is sound stored kept rows = absurd (never is)
        go (Err (of_state.Disk Fault)) is sound stored kept rows =
            rows_failed (switched row Running c.rows) (keeps_switched row Running c.rows) ends.name passes elsewhere opened faults (resuming row) (by (λ other. absurd (cc (is, other)))) (keys_switched row Running c.rows) kept (ends.next is) (ends.unsound is) (λ told. doubt told is) (cause is)
        go (Err (of_state.Disk Memory)) is sound stored kept rows = rows_same (resuming row) Spent (ends.memory is) kept (untouched is) (λ held has same. has) (λ failed. failed)
