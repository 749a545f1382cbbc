-- Rows that are asked for by name, a row that is added, and a variable that gets a new name.
use Rattle.std.proofs.Common.{◌≡◌, List, Bool, Option, Some, None, Err, refl, sym, ◌∙◌, subst, Result, ℕ, ◌<◌, [], ◌∷◌, ◌++◌, length, take, true, false, ap, zero, suc, ◌≤◌, arith, append-nil, ◌≢◌, ◌⊎◌, inl, inr}
use Rattle.durable_write.specs.Ends.{Done, Refused}
use Rattle.act_model.specs.Machine.{Machine, find_row, AddsRow, place, with_key, same_bytes, Renames}
use Rattle.archive_core.specs.Parts.{Parts}
use Rattle.archive_core.specs.Stands.{Stands, Rests}
use Rattle.act_model.specs.Reply.{Reply, reply_of}
use Rattle.archive_core.specs.Acting.{Acted}
use Rattle.act_model.specs.declared.acts.Answer.TheVariants as answer
use Rattle.std.specs.Prelude.{slice_get, nat_le, ◌-◌, slice_set}
use Rattle.std.proofs.lemmas.Option.{slice_get_within, same_Some}
use Rattle.pb_messages.specs.declared.about.About.{About}
use Rattle.pv_catalog.specs.Catalogue.{Refuses, HasState, RefusesName, renamed}
use Rattle.pv_catalog.specs.declared.error.RegisterErr.{RegisterErr}
use Rattle.pv_catalog.specs.declared.row.Row.{Row}
use Rattle.tier_store.specs.Change.{Changes, registering, EndsFrom, renaming}
use Rattle.tier_store.specs.Seen.{Seen}
use Rattle.tier_store.specs.Stores.{Stores}
use Rattle.act_model.specs.Register.{register_refused, Registers}
use Rattle.act_model.specs.Rows.{RowState, is_empty, is_paused, durable as durable_of}
use Rattle.act_model.proofs.RowActs.{register_may, same_bytes_is, same_bytes-refl}
use Rattle.act_model.proofs.StepLaws.{with_doubt}
use Rattle.intake_half.specs.declared.memory.RowMemory.{RowMemory}
use Rattle.archive_core.specs.Ends.{register_reply, disk_reply}
use Rattle.archive_core.specs.Memory.{IsCleared, AreRowsOf, IsRowOf}
use Rattle.intake_half.specs.Memory.{fresh_memory, cleared, renamed_memory}
use Rattle.archive_core.proofs.Acting.{Makes, IsAct, Went, acted}
use Rattle.archive_core.proofs.KeptRows.{row_at, Placed, placed, place_some, place_none, memory_there}
use Rattle.archive_core.proofs.Settled.{rests_has, open_known}
use Rattle.archive_core.specs.declared.memory.Doubt.TheVariants as kind
use Rattle.archive_core.specs.Switching.{IsFound}
use Rattle.archive_core.proofs.Switched.{found_row, clears, switched_has}
use Rattle.std.proofs.lemmas.Bool.Decides.{nat_tests}
use Rattle.intake.specs.Tails.{TailState}
use Rattle.pv_name.specs.Key.{key_of}
use Rattle.pv_catalog.specs.Rows.{HasName, HasKey, switched, renamed_row as added_row}
use Rattle.pv_catalog.specs.declared.error.RegisterErr.TheVariants.{NameTaken, KeyTaken, Full, Disk}
use Rattle.archive_core.proofs.Lists.{register_grows, rename_grows, element, get_front}
use Rattle.archive_core.proofs.Windows.{register_holds, rename_holds, whole_held}
use Rattle.act_model.specs.declared.acts.Act.TheVariants.{Register, Rename}
use Rattle.pb_messages.specs.declared.about.State.{State}
use Rattle.pb_messages.specs.declared.about.State.TheVariants.{Running, Paused, Retired}
use Rattle.pv_catalog.specs.declared.error.RenameErr.{RenameErr}
use Rattle.act_model.specs.Details.{last_time, details_refused}
use Rattle.act_model.specs.Rename.{IsRenamed, changed_within, last_durable, rename_refused}
use Rattle.act_model.specs.Sound.{MayRename}
use Rattle.act_model.specs.Whole.{whole}
use Rattle.act_model.specs.Step.{change_by}
use Rattle.archive_core.specs.declared.renaming.Unnamed.{Unnamed}
use Rattle.archive_core.specs.Renaming.{CanRename, HasTail, IsLastDurable, IsUnnamed, IsUnpaused, has_tail, is_taken, is_unpaused, rename_reply, taken_as}
use Rattle.archive_core.proofs.Batches.{told_stands}
use Rattle.pv_catalog.specs.declared.error.RegisterErr.TheVariants as refusal
use Rattle.pv_catalog.specs.declared.error.RenameErr.TheVariants as rename
use Rattle.archive_core.specs.declared.renaming.Unnamed.TheVariants as unnamed
use Rattle.disk_model.specs.declared.disk.DiskErr.{DiskErr}
use Rattle.disk_model.specs.declared.disk.DiskErr.TheVariants.{Fault, Memory}
use Rattle.tier_store.specs.Opening.{answer_of, end_of_answer}
use Rattle.act_model.specs.declared.acts.Act.{Act}
use Rattle.act_model.specs.declared.acts.Answer.{Answer}

-- A row is added: as the machine has it, in memory, and as an act.

-- PLACES

unique_place : (f : RowState → Bool) (rs : List RowState) (i : ℕ) (r : RowState) → slice_get rs i ≡ Some r → f r ≡ true → ((j : ℕ) (q : RowState) → slice_get rs j ≡ Some q → f q ≡ true → j ≡ i) → place f 0 rs ≡ Some i
unique_place f rs i r here passes one = by_place (place f 0 rs) refl
  where
    by_placed : (n : ℕ) → Placed f 0 rs n → n ≡ i
    by_placed n (placed j q n_is got is) = let same = one j q got is in omega (arith, n_is, same)

    by_place : (o : Option ℕ) → place f 0 rs ≡ o → place f 0 rs ≡ Some i
    by_place None none = absurd (let fails = place_none f 0 rs none i r here in cc (passes, fails))
    by_place (Some n) some = some ∙ ap (λ (k : ℕ). Some k) (by_placed n (place_some f 0 rs n some))

none_place : (f : RowState → Bool) (rs : List RowState) → ((j : ℕ) (q : RowState) → slice_get rs j ≡ Some q → f q ≡ true → ⊥) → place f 0 rs ≡ None
none_place f rs none = by_place (place f 0 rs) refl
  where
    by_placed : (n : ℕ) → Placed f 0 rs n → ⊥
    by_placed n (placed j q n_is got is) = none j q got is

    by_place : (o : Option ℕ) → place f 0 rs ≡ o → place f 0 rs ≡ None
    by_place None none = none
    by_place (Some n) some = absurd (by_placed n (place_some f 0 rs n some))

-- REFUSALS

module _ (tells : Bool) (p : Parts) (m : Machine) (s : Stands tells p m) (name : List ℕ) where
  abbrev rows : List Row
  rows = p.at.catalogue.rows

  -- a row of the machine has the name or key that the catalogue's row has
  has_name : (j : ℕ) (q : RowState) → slice_get m.rows j ≡ Some q → q.name ≡ name → HasName rows j name
  has_name j q got is = let at = s.rows.each j q got in record { row = at.row; here = at.here; is = sym at.is.name ∙ is }

  has_key : (j : ℕ) (q : RowState) → slice_get m.rows j ≡ Some q → key_of q.name ≡ key_of name → HasKey rows j (key_of name)
  has_key j q got is = let at = s.rows.each j q got in record { row = at.row; here = at.here; is = ap key_of (sym at.is.name) ∙ is }

  key_there : (i : ℕ) → HasKey rows i (key_of name) → (r : RowState) × (slice_get m.rows i ≡ Some r) × (key_of r.name ≡ key_of name)
  key_there i has = let at = row_at rows p.kept p.tails m.rows s.rows i has.row has.here in (at.0, at.1, ap key_of at.4.name ∙ has.is)

  name_there : (i : ℕ) → HasName rows i name → (r : RowState) × (slice_get m.rows i ≡ Some r) × (r.name ≡ name)
  name_there i has = let at = row_at rows p.kept p.tails m.rows s.rows i has.row has.here in (at.0, at.1, at.4.name ∙ has.is)

  same_key : (i : ℕ) (r : RowState) → slice_get m.rows i ≡ Some r → key_of r.name ≡ key_of name → (j : ℕ) (q : RowState) → slice_get m.rows j ≡ Some q → key_of q.name ≡ key_of name → j ≡ i
  same_key i r here is j q got own = s.sound.keys j i q r got here (own ∙ sym is)

  pub find_some : (i : ℕ) → HasName rows i name → find_row m name ≡ Some i
  find_some i has =
      let r = name_there i has in
      unique_place (λ (q : RowState). same_bytes q.name name) m.rows i r.0 r.1 (ap (λ (n : List ℕ). same_bytes n name) r.2 ∙ same_bytes-refl name)
      (λ j q got is. same_key i r.0 r.1 (ap key_of r.2) j q got (ap key_of (same_bytes_is q.name name is)))

  find_none : ((j : ℕ) → HasName rows j name → ⊥) → find_row m name ≡ None
  find_none none = none_place (λ (q : RowState). same_bytes q.name name) m.rows (λ j q got is. none j (has_name j q got (same_bytes_is q.name name is)))

  key_some : (i : ℕ) → HasKey rows i (key_of name) → with_key m name ≡ Some i
  key_some i has =
      let r = key_there i has in
      unique_place (λ (q : RowState). same_bytes (key_of q.name) (key_of name)) m.rows i r.0 r.1 (ap (λ (n : List ℕ). same_bytes n (key_of name)) r.2 ∙ same_bytes-refl (key_of name))
      (λ j q got is. same_key i r.0 r.1 r.2 j q got (same_bytes_is (key_of q.name) (key_of name) is))

  key_none : ((j : ℕ) → HasKey rows j (key_of name) → ⊥) → with_key m name ≡ None
  key_none none = none_place (λ (q : RowState). same_bytes (key_of q.name) (key_of name)) m.rows (λ j q got is. none j (has_key j q got (same_bytes_is (key_of q.name) (key_of name) is)))

  name_key : (i : ℕ) → HasName rows i name → HasKey rows i (key_of name)
  name_key i has = record { row = has.row; here = has.here; is = ap key_of has.is }

  -- what the rows refuse the machine refuses
  pub refused_as : (e : RegisterErr) → Refuses rows name e → register_refused name m ≡ Some (register_reply (Err e))
  refused_as (NameTaken i) has = let found = find_some i has in rw found refl
  refused_as (KeyTaken i) (has, other) =
      let found = key_some i has in
      let none : find_row m name ≡ None = find_none (λ j own.
      let r = key_there i has in
      let q = name_there j own in
      let same : j ≡ i = same_key i r.0 r.1 r.2 j q.0 q.1 (ap key_of q.2) in
      other (subst (λ (k : ℕ). HasName rows k name) same own)) in
      rw (none, found) refl
  refused_as Full (free, full) =
      let none : find_row m name ≡ None = find_none (λ j own. free j (name_key j own)) in
      let no_key = key_none free in
      let count : length m.rows ≡ length rows = s.rows.count in
      let many : nat_le 65536 (length m.rows) ≡ true = grind (arith, nat_tests) in
      rw (none, no_key, many) refl
  refused_as (Disk e) is = absurd is

  -- and what they don't refuse it doesn't
  pub free_as : ((e : RegisterErr) → Refuses rows name e → ⊥) → register_refused name m ≡ None
  free_as free = by_key (with_key m name) refl
    where
      no_name : (j : ℕ) → HasName rows j name → ⊥
      no_name j has = free (NameTaken j) has

      by_room : (b : Bool) → nat_le 65536 (length m.rows) ≡ b → with_key m name ≡ None → ((j : ℕ) → HasKey rows j (key_of name) → ⊥) → register_refused name m ≡ None
      by_room false is no_key none_has = let none : find_row m name ≡ None = find_none no_name in rw (none, no_key, is) refl
      by_room true is no_key none_has =
          let count : length m.rows ≡ length rows = s.rows.count in
          let few = s.sound.few in
          let full : length rows ≡ 65536 = grind (arith, nat_tests) in
          absurd (free Full (none_has, full))

      keyless : (j : ℕ) → HasKey rows j (key_of name) → ⊥
      keyless j has = free (KeyTaken j) (has, λ own. no_name j own)

      by_key : (o : Option ℕ) → with_key m name ≡ o → register_refused name m ≡ None
      by_key o is = by_room (nat_le 65536 (length m.rows)) refl (key_none keyless) keyless

-- MEMORY

pub take_get : {A : Type 0} (n : ℕ) (xs ys : List A) (i : ℕ) (x : A) → i < n → slice_get xs i ≡ Some x → slice_get (take n xs ++ ys) i ≡ Some x
take_get {A} zero xs ys i x low here = absurd (omega (arith, low))
take_get {A} (suc n) [] ys i x low here = absurd (cc (here))
take_get {A} (suc n) (y ∷ xs) ys zero x low here = here
take_get {A} (suc n) (y ∷ xs) ys (suc i) x low here = take_get n xs ys i x (omega (arith, low)) here

pub take_last : {A : Type 0} (n : ℕ) (xs : List A) (x : A) → n ≤ length xs → slice_get (take n xs ++ x ∷ []) n ≡ Some x
take_last {A} zero xs x low = refl
take_last {A} (suc n) [] x low = absurd (omega (arith, low))
take_last {A} (suc n) (y ∷ xs) x low = take_last n xs x (omega (arith, low))

-- what is kept of rows that aren't there doesn't matter
pub rows_cut : (rows : List Row) (kept more : List RowMemory) (ts : List TailState) (rs : List RowState) → AreRowsOf rows kept ts rs → AreRowsOf rows (take (length rows) kept ++ more) ts rs
rows_cut rows kept more ts rs are = record {
  count = are.count;
  each = λ i r here.
      let old = are.each i r here in
      let low : i < length rows = slice_get_within rows i old.row old.here in
      record { row = old.row; memory = old.memory; here = old.here; there = take_get (length rows) kept more i old.memory low old.there; is = old.is };
  beyond = are.beyond;
}

-- each row has its memory
pub many_kept : (rows : List Row) (kept : List RowMemory) (ts : List TailState) (rs : List RowState) → AreRowsOf rows kept ts rs → length rows ≤ length kept
many_kept rows kept ts rs are = by_count (length rows) refl
  where
    last : (n : ℕ) → length rows ≡ suc n → length rows ≤ length kept
    last n is =
        let count = are.count in
        let r = element rs n (omega (arith, count, is)) in
        let at = are.each n r.0 r.1 in
        let low : n < length kept = slice_get_within kept n at.memory at.there in
        omega (arith, low, is)

    by_count : (n : ℕ) → length rows ≡ n → length rows ≤ length kept
    by_count zero is = omega (arith, is)
    by_count (suc n) is = last n is

-- so where there was no memory for one more
pub rows_cut_short : (rows : List Row) (kept : List RowMemory) (ts : List TailState) (rs : List RowState) → AreRowsOf rows kept ts rs → AreRowsOf rows (take (length rows) kept) ts rs
rows_cut_short rows kept ts rs are = subst (λ (ks : List RowMemory). AreRowsOf rows ks ts rs) (append-nil (take (length rows) kept)) (rows_cut rows kept [] ts rs are)

-- THE STORES' CALL

module _ (tells : Bool) (p : Parts) (m : Machine) (r : Rests tells p m) (name : List ℕ) (about : About) (free : (e : RegisterErr) → Refuses p.at.catalogue.rows name e → ⊥) where
  -- with the memory of one row more
  abbrev pub more_kept : List RowMemory
  more_kept = take (length p.at.catalogue.rows) p.kept ++ fresh_memory about ∷ []

  pub makes_row : Makes tells (registering name about) (AddsRow name about) kind.Row more_kept p m r.stands.store.before
  makes_row =
      let held = r.stands.store.before in
      let known = (rests_has tells p m r).known in
      let count : length p.at.catalogue.rows ≡ length m.rows = sym r.stands.rows.count in
      record {
        sound = with_doubt m.rule m.told m.rows m.limbo m.pins m.moves m.doubt (AddsRow name about) r.stands.sound (register_may name m (free_as tells p m r.stands name free), tt);
        rows = rows_cut p.at.catalogue.rows p.kept (fresh_memory about ∷ []) p.tails m.rows r.stands.rows;
        is = (name, about, refl);
        ready = ap (slice_get more_kept) (sym count) ∙ take_last (length p.at.catalogue.rows) p.kept (fresh_memory about) (many_kept p.at.catalogue.rows p.kept p.tails m.rows r.stands.rows);
        stand = λ after by. ap (λ (s : Stores). s.stands) by.1;
        grow = λ after by filed. register_grows m.moves p.at name about held after known by;
        holds = λ after by filed. register_holds p.at.catalogue p.at.manifests name about held after m known by r.stands.store.holds;
      }

  -- of that doubt nothing is cleared in memory
  pub row_unclear : (rows : List Row) → IsCleared rows (Some kind.Row) more_kept more_kept
  row_unclear rows = record { other = λ none. refl; own = λ k state is. absurd (cc (is)) }

  -- what the call tells of a row that was added, and that it refuses none that may be added
  pub row_number : (new : Seen) (id : ℕ) → Changes tells (registering name about) p.at new (Done id) → id ≡ length p.at.catalogue.rows
  row_number new id changes = (changes.ends r.stands.store.before (rests_has tells p m r)).2 ∙ ap length (sym (rests_has tells p m r).known.rows)

  pub row_unrefused : (new : Seen) (e : RegisterErr) → Changes tells (registering name about) p.at new (Refused e) → ⊥
  row_unrefused new e changes = free e (subst (λ (rs : List Row). Refuses rs name e) (sym (rests_has tells p m r).known.rows) (changes.ends r.stands.store.before (rests_has tells p m r)).1)

-- THE ACT

-- the count of faults is nothing to the refusals
pub counted : (name : List ℕ) (m : Machine) (f : ℕ) → register_refused name (record m { faults = f }) ≡ register_refused name m
counted name m f = by_found (find_row m name) refl
  where
    by_key : find_row m name ≡ None → (o : Option ℕ) → with_key m name ≡ o → register_refused name (record m { faults = f }) ≡ register_refused name m
    by_key is None key = rw (is, key) refl
    by_key is (Some i) key = rw (is, key) refl

    by_found : (o : Option ℕ) → find_row m name ≡ o → register_refused name (record m { faults = f }) ≡ register_refused name m
    by_found None is = by_key is (with_key m name) refl
    by_found (Some i) is = rw is refl

-- no refusal is want of memory
pub never_wants : (name : List ℕ) (m : Machine) → register_refused name m ≡ Some answer.Memory → ⊥
never_wants name m is = by_found (find_row m name) refl
  where
    by_room : (b : Bool) → nat_le 65536 (length m.rows) ≡ b → find_row m name ≡ None → with_key m name ≡ None → ⊥
    by_room true full none free = let told : register_refused name m ≡ Some answer.CatalogueFull = rw (none, free, full) refl in let both = sym told ∙ is in cc (both)
    by_room false full none free = let told : register_refused name m ≡ None = rw (none, free, full) refl in let both = sym told ∙ is in cc (both)

    by_key : (o : Option ℕ) → with_key m name ≡ o → find_row m name ≡ None → ⊥
    by_key None key none = by_room (nat_le 65536 (length m.rows)) refl none key
    by_key (Some i) key none = let told : register_refused name m ≡ Some (answer.KeyTaken i) = rw (none, key) refl in let both = sym told ∙ is in cc (both)

    by_found : (o : Option ℕ) → find_row m name ≡ o → ⊥
    by_found None found = by_key (with_key m name) refl found
    by_found (Some i) found = let told : register_refused name m ≡ Some (answer.NameTaken i) = rw found refl in let both = sym told ∙ is in cc (both)

-- nor is the answer that a row was added
pub registers_tells : (name : List ℕ) (about : About) (m : Machine) (given : Reply) (new : Machine) → Registers name about m given new → given ≡ answer.Memory → ⊥
registers_tells name about m given new ran told = let both = sym ran.0 ∙ told in cc (both)

abbrev pub registers_act : (who : ℕ) (name : List ℕ) (about : About) → IsAct who (Register name about) (Registers name about)
registers_act who name about = record { refuse = λ old. register_refused name; passes = λ old m is. is; counts = λ old. counted name; refuses = counted name; changes = λ m f. refl; goes = λ m f given new ran. ran; never = λ old. never_wants name; tells_more = registers_tells name about; steps = λ m given new acts. acts; wants = λ m n none. none }

-- how it is answered
abbrev pub RegisterEnds : Bool → ℕ → List ℕ → About → Parts → Result ℕ RegisterErr → Parts → Type 0
RegisterEnds tells who name about p r q = Acted tells who (Register name about) p (register_reply r) q

-- as the machine's act goes
pub registered_so : (tells : Bool) (who : ℕ) (name : List ℕ) (about : About) (p q : Parts) (r : Result ℕ RegisterErr) → Went tells who (Register name about) p (register_reply r) q → RegisterEnds tells who name about p r q
registered_so tells who name about p q r went = acted tells who (Register name about) p (register_reply r) q went went.fronts tt tt

-- nothing refuses the name
abbrev pub IsFree : List ℕ → Parts → Type 0
IsFree name q = (e : RegisterErr) → Refuses q.at.catalogue.rows name e → ⊥

-- A variable gets a new name: as the machine has it, in memory, and as an act.

-- WHY A VARIABLE GETS NO NEW NAME

-- what is known of it, in the order in which it is looked at
data Looked (name newname : List ℕ) (m : Machine) : Type 0 where
  no_name : find_row m name ≡ None → Looked name newname m
  no_row : (i : ℕ) → find_row m name ≡ Some i → slice_get m.rows i ≡ None → Looked name newname m
  is_running : (i : ℕ) (row : RowState) → find_row m name ≡ Some i → slice_get m.rows i ≡ Some row → is_paused row.state ≡ false → Looked name newname m
  refuses : (i : ℕ) (row : RowState) (reply : Reply) → find_row m name ≡ Some i → slice_get m.rows i ≡ Some row → is_paused row.state ≡ true → register_refused newname m ≡ Some reply → Looked name newname m
  takes : (i : ℕ) (row : RowState) (empty : Bool) → find_row m name ≡ Some i → slice_get m.rows i ≡ Some row → is_paused row.state ≡ true → register_refused newname m ≡ None → is_empty row.tail ≡ empty → Looked name newname m

looked : (name newname : List ℕ) (m : Machine) → Looked name newname m
looked name newname m = by_name (find_row m name) refl
  where
    by_newname : (i : ℕ) (row : RowState) → find_row m name ≡ Some i → slice_get m.rows i ≡ Some row → is_paused row.state ≡ true → (o : Option Reply) → register_refused newname m ≡ o → Looked name newname m
    by_newname i row found here paused None free = takes i row (is_empty row.tail) found here paused free refl
    by_newname i row found here paused (Some reply) taken = refuses i row reply found here paused taken

    by_paused : (i : ℕ) (row : RowState) → find_row m name ≡ Some i → slice_get m.rows i ≡ Some row → (b : Bool) → is_paused row.state ≡ b → Looked name newname m
    by_paused i row found here true paused = by_newname i row found here paused (register_refused newname m) refl
    by_paused i row found here false other = is_running i row found here other

    by_row : (i : ℕ) → find_row m name ≡ Some i → (o : Option RowState) → slice_get m.rows i ≡ o → Looked name newname m
    by_row i found None none = no_row i found none
    by_row i found (Some row) here = by_paused i row found here (is_paused row.state) refl

    by_name : (o : Option ℕ) → find_row m name ≡ o → Looked name newname m
    by_name None none = no_name none
    by_name (Some i) found = by_row i found (slice_get m.rows i) refl

module _ (name newname : List ℕ) (m : Machine) where
  -- the count of faults is nothing to it
  pub rename_counted : (changed : ℕ) (found : Option ℕ) (f : ℕ) → rename_refused changed found name newname (record m { faults = f }) ≡ rename_refused changed found name newname m
  rename_counted changed found f = by_looked (looked name newname m)
    where
      by_looked : Looked name newname m → rename_refused changed found name newname (record m { faults = f }) ≡ rename_refused changed found name newname m
      by_looked (no_name none) = rw none refl
      by_looked (no_row i is none) = rw (is, none) refl
      by_looked (is_running i row is here other) = rw (is, here, other) refl
      by_looked (refuses i row reply is here paused taken) = rw (is, here, paused, taken) refl
      by_looked (takes i row true is here paused free empty) = rw (is, here, paused, free, empty) refl
      by_looked (takes i row false is here paused free empty) = rw (is, here, paused, free, empty) refl

  -- it is no want of memory
  pub rename_never : (changed : ℕ) (found : Option ℕ) → rename_refused changed found name newname m ≡ Some answer.Memory → ⊥
  rename_never changed found wants = by_looked (looked name newname m)
    where
      by_looked : Looked name newname m → ⊥
      by_looked (no_name none) = let told = rw none at wants in cc (told)
      by_looked (no_row i is none) = let told = rw (is, none) at wants in cc (told)
      by_looked (is_running i row is here other) = let told = rw (is, here, other) at wants in cc (told)
      by_looked (refuses i row reply is here paused taken) = let told = rw (is, here, paused, taken) at wants in never_wants newname m (taken ∙ told)
      by_looked (takes i row true is here paused free empty) = let told = rw (is, here, paused, free, empty) at wants in cc (told)
      by_looked (takes i row false is here paused free empty) = let told = rw (is, here, paused, free, empty) at wants in cc (told)

  -- what is told with it is nothing to whether it is refused
  pub rename_free : (changed other : ℕ) (found more : Option ℕ) → rename_refused changed found name newname m ≡ None → rename_refused other more name newname m ≡ None
  rename_free changed other found more free = by_looked (looked name newname m)
    where
      by_looked : Looked name newname m → rename_refused other more name newname m ≡ None
      by_looked (no_name none) = absurd (let told = rw none at free in cc (told))
      by_looked (no_row i is none) = absurd (let told = rw (is, none) at free in cc (told))
      by_looked (is_running i row is here running) = absurd (let told = rw (is, here, running) at free in cc (told))
      by_looked (refuses i row reply is here paused taken) = absurd (let told = rw (is, here, paused, taken) at free in cc (told))
      by_looked (takes i row true is here paused none empty) = rw (is, here, paused, none, empty) refl
      by_looked (takes i row false is here paused none some) = absurd (let told = rw (is, here, paused, none, some) at free in cc (told))

  -- before its doubt is settled the act has changed no row
  rename_first : (found : Option ℕ) → rename_refused (changed_within name m) found name newname m ≡ rename_refused 0 found name newname m
  rename_first found = by_looked (looked name newname m)
    where
      by_looked : Looked name newname m → rename_refused (changed_within name m) found name newname m ≡ rename_refused 0 found name newname m
      by_looked (no_name none) = rw none refl
      by_looked (no_row i is none) = rw (is, none) refl
      by_looked (is_running i row is here other) = rw (is, here, other) refl
      by_looked (refuses i row reply is here paused taken) = rw (is, here, paused, taken) refl
      by_looked (takes i row true is here paused free empty) = rw (is, here, paused, free, empty) refl
      by_looked (takes i row false is here paused free empty) = rw (is, here, paused, free, empty) refl

-- a row that isn't paused
not_paused : (state : State) → state ≢ Paused → is_paused state ≡ false
not_paused Running other = refl
not_paused Paused other = absurd (other refl)
not_paused Retired other = refl

-- the last durable moment that a refusal tells
abbrev pub told_in : Unnamed → Option ℕ
told_in (unnamed.NotDurable last durable) = durable
told_in e = None

taken_reply : (e : RegisterErr) → Some (register_reply (Err e)) ≡ Some (rename_reply (Err (taken_as e)))
taken_reply (refusal.NameTaken row) = refl
taken_reply (refusal.KeyTaken row) = refl
taken_reply refusal.Full = refl
taken_reply (refusal.Disk e) = refl

module _ (tells : Bool) (p : Parts) (m : Machine) (s : Stands tells p m) (name newname : List ℕ) where
  abbrev row_list : List Row
  row_list = p.at.catalogue.rows

  -- a row that isn't paused, or none
  refused_unpaused : (changed : ℕ) (e : Unnamed) → IsUnpaused row_list name changed e → rename_refused changed (told_in e) name newname m ≡ Some (rename_reply (Err e))
  refused_unpaused changed unnamed.NoSuchVariable why = let none = found_row tells p m name None s why in rw none refl
  refused_unpaused changed (unnamed.NotPaused state number) (i, found, has, other, same) =
      let at = row_at row_list p.kept p.tails m.rows s.rows i has.row has.here in
      let is = found_row tells p m name (Some i) s found in
      let here = at.1 in
      let own : at.0.state ≡ state = at.4.state ∙ has.is in
      let off : is_paused at.0.state ≡ false = ap is_paused own ∙ not_paused state other in
      rw (is, here, off) (cc (own, same))
  refused_unpaused changed (unnamed.NameTaken row) why = absurd why
  refused_unpaused changed (unnamed.KeyTaken row) why = absurd why
  refused_unpaused changed unnamed.CatalogueFull why = absurd why
  refused_unpaused changed (unnamed.NotDurable last durable) why = absurd why
  refused_unpaused changed (unnamed.Disk e) why = absurd why

  -- a row that has a tail
  last_told : (i : ℕ) (r : RowState) (durable : Option ℕ) → slice_get m.rows i ≡ Some r → IsLastDurable p i durable → last_durable durable m i ≡ durable
  last_told i r durable here is = by_told m.told refl
    where
      by_told : (b : Bool) → m.told ≡ b → last_durable durable m i ≡ durable
      by_told false off = rw off refl
      by_told true on =
          let held = s.store.before in
          let known = open_known tells p.at held m s.store.is_open in
          let same : last_time (whole durable_of m.rows i) ≡ durable = ap last_time (sym (whole_held m s.sound held s.store.holds on i r here)) ∙ sym (is held known (told_stands tells m.told held.stands s.store.told on)) in
          rw on same

  refused_tail : (i : ℕ) (changed : ℕ) (e : Unnamed) → IsFound row_list name (Some i) → HasState row_list i Paused → ((other : RegisterErr) → Refuses row_list newname other → ⊥) → HasTail p i e → rename_refused changed (told_in e) name newname m ≡ Some (rename_reply (Err e))
  refused_tail i changed (unnamed.NotDurable last durable) found has free (some, last_is, durable_is) =
      let at = row_at row_list p.kept p.tails m.rows s.rows i has.row has.here in
      let is = found_row tells p m name (Some i) s found in
      let here = at.1 in
      let paused : is_paused at.0.state ≡ true = ap is_paused (at.4.state ∙ has.is) in
      let none = free_as tells p m s newname free in
      let tail : is_empty at.0.tail ≡ false = ap is_empty at.4.tail ∙ some in
      let there = at.3 in
      let own : last ≡ at.2.next - 1 = rw there at last_is in
      let next : at.0.next - 1 ≡ last = ap (λ (n : ℕ). n - 1) at.4.next ∙ sym own in
      let moment = last_told i at.0 durable here durable_is in
      rw (is, here, paused, none, tail) (ap (λ (n : ℕ). Some (answer.NotDurable n (last_durable durable m i))) next ∙ ap (λ (d : Option ℕ). Some (answer.NotDurable last d)) moment)
  refused_tail i changed unnamed.NoSuchVariable found has free tail = absurd tail
  refused_tail i changed (unnamed.NotPaused state number) found has free tail = absurd tail
  refused_tail i changed (unnamed.NameTaken row) found has free tail = absurd tail
  refused_tail i changed (unnamed.KeyTaken row) found has free tail = absurd tail
  refused_tail i changed unnamed.CatalogueFull found has free tail = absurd tail
  refused_tail i changed (unnamed.Disk e) found has free tail = absurd tail

  -- what is refused by what is in memory the machine refuses
  pub unnamed_as : (changed : ℕ) (e : Unnamed) → IsUnnamed p name newname changed e → rename_refused changed (told_in e) name newname m ≡ Some (rename_reply (Err e))
  unnamed_as changed e (is_unpaused why) = refused_unpaused changed e why
  unnamed_as changed _ (is_taken i e found has why) =
      let at = row_at row_list p.kept p.tails m.rows s.rows i has.row has.here in
      let is = found_row tells p m name (Some i) s found in
      let here = at.1 in
      let paused : is_paused at.0.state ≡ true = ap is_paused (at.4.state ∙ has.is) in
      let taken = refused_as tells p m s newname e why in
      rw (is, here, paused, taken) (taken_reply e)
  unnamed_as changed e (has_tail i found has free tail) = refused_tail i changed e found has free tail

  -- and what isn't refused is the row's
  module _ (i : ℕ) (found : IsFound row_list name (Some i)) (can : CanRename p newname i) where
    pub can_as : (changed : ℕ) (told : Option ℕ) → rename_refused changed told name newname m ≡ None
    can_as changed told =
        let at = row_at row_list p.kept p.tails m.rows s.rows i can.paused.row can.paused.here in
        let is = found_row tells p m name (Some i) s found in
        let here = at.1 in
        let paused : is_paused at.0.state ≡ true = ap is_paused (at.4.state ∙ can.paused.is) in
        let none = free_as tells p m s newname can.free in
        let empty : is_empty at.0.tail ≡ true = ap is_empty (at.4.tail ∙ can.none) in
        rw (is, here, paused, none, empty) refl

    -- it was paused, so where it isn't any more once the doubt is settled this act has changed it
    pub was_paused : changed_within name m ≡ 1
    was_paused =
        let at = row_at row_list p.kept p.tails m.rows s.rows i can.paused.row can.paused.here in
        let is = found_row tells p m name (Some i) s found in
        let here = at.1 in
        let paused : is_paused at.0.state ≡ true = ap is_paused (at.4.state ∙ can.paused.is) in
        rw (is, here, paused) refl

    pub rename_change : change_by (Rename name newname) m ≡ Some (Renames i newname)
    rename_change = let is = found_row tells p m name (Some i) s found in rw is refl

-- THE STORES' CALL

-- the row is there, in the catalogue and in memory
pub can_low : (p : Parts) (newname : List ℕ) (i : ℕ) → CanRename p newname i → i < length p.at.catalogue.rows
can_low p newname i can = slice_get_within p.at.catalogue.rows i can.paused.row can.paused.here

pub can_kept : (tells : Bool) (p : Parts) (m : Machine) → Rests tells p m → (newname : List ℕ) (i : ℕ) → CanRename p newname i → i < length p.kept
can_kept tells p m r newname i can = memory_there p.at.catalogue.rows p.kept p.tails m.rows r.stands.rows i (can_low p newname i can)

-- a row whose variable may get the name isn't refused
not_refused : (p : Parts) (newname : List ℕ) (i : ℕ) (e : RenameErr) → CanRename p newname i → RefusesName p.at.catalogue.rows i newname e → ⊥
not_refused p newname i rename.NotPaused can why = why can.paused
not_refused p newname i (rename.NameTaken k) can (paused, why) = can.free (refusal.NameTaken k) why
not_refused p newname i (rename.KeyTaken k) can (paused, why) = can.free (refusal.KeyTaken k) why
not_refused p newname i rename.Full can (paused, why) = can.free refusal.Full why
not_refused p newname i (rename.Disk e) can why = why

module _ (tells : Bool) (p : Parts) (m : Machine) (r : Rests tells p m) (i : ℕ) (newname : List ℕ) (can : CanRename p newname i) (memory : RowMemory) (there : slice_get p.kept i ≡ Some memory) where
  abbrev row : Row
  row = can.paused.row

  -- with the memory of the new row
  abbrev pub with_new : List RowMemory
  with_new = take (length p.at.catalogue.rows) p.kept ++ renamed_memory row.about memory.next ∷ []

  may : MayRename m.rows i newname
  may = record {
    add = register_may newname m (free_as tells p m r.stands newname can.free);
    paused = λ q here. (own q here).state ∙ can.paused.is;
    none = λ q here. (own q here).tail ∙ can.none;
  }
    where
      own : (q : RowState) → slice_get m.rows i ≡ Some q → IsRowOf p.tails i row memory q
      own q here =
          let at = row_at p.at.catalogue.rows p.kept p.tails m.rows r.stands.rows i row can.paused.here in
          let kept = subst (λ (w : RowMemory). IsRowOf p.tails i row w at.0) (same_Some at.2 memory (sym at.3 ∙ there)) at.4 in
          subst (λ (w : RowState). IsRowOf p.tails i row memory w) (same_Some at.0 q (sym at.1 ∙ here)) kept

  pub makes_rename : Makes tells (renaming i newname) (Renames i newname) (kind.Rename i) with_new p m r.stands.store.before
  makes_rename =
      let held = r.stands.store.before in
      let known = (rests_has tells p m r).known in
      let count : length p.at.catalogue.rows ≡ length m.rows = sym r.stands.rows.count in
      let at = row_at p.at.catalogue.rows p.kept p.tails m.rows r.stands.rows i row can.paused.here in
      let next : memory.next ≡ at.0.next = sym (at.4.next ∙ ap (λ (w : RowMemory). w.next) (same_Some at.2 memory (sym at.3 ∙ there))) in
      let same : renamed_memory row.about memory.next ≡ renamed_memory at.0.about at.0.next = ap (λ (a : About). renamed_memory a memory.next) (sym at.4.about) ∙ ap (λ (n : ℕ). renamed_memory at.0.about n) next in
      let last = take_last (length p.at.catalogue.rows) p.kept (renamed_memory row.about memory.next) (many_kept p.at.catalogue.rows p.kept p.tails m.rows r.stands.rows) in
      record {
        sound = with_doubt m.rule m.told m.rows m.limbo m.pins m.moves m.doubt (Renames i newname) r.stands.sound (may, tt);
        rows = rows_cut p.at.catalogue.rows p.kept (renamed_memory row.about memory.next ∷ []) p.tails m.rows r.stands.rows;
        is = (newname, refl);
        ready = (at.0, at.1, ap (slice_get with_new) (sym count) ∙ (last ∙ ap (λ (w : RowMemory). Some w) same));
        stand = λ after by. ap (λ (s : Stores). s.stands) by.2;
        grow = λ after by filed. rename_grows m.moves p.at i newname held after known by;
        holds = λ after by filed. rename_holds p.at.catalogue p.at.manifests i newname held after m known by r.stands.store.holds;
      }

  -- the old row's memory is cleared then
  pub old_kept : slice_get with_new i ≡ Some memory
  old_kept = take_get (length p.at.catalogue.rows) p.kept (renamed_memory row.about memory.next ∷ []) i memory (can_low p newname i can) there

  pub rename_clears : (new : Seen) (id : ℕ) → Changes tells (renaming i newname) p.at new (Done id) → IsCleared new.catalogue.rows (Some (kind.Rename i)) with_new (slice_set with_new i (cleared memory))
  rename_clears new id changes = clears new.catalogue.rows (Some (kind.Rename i)) i Retired with_new memory refl old_kept (record {
    row = record row { state = Retired };
    here = ap (λ (rs : List Row). slice_get rs i) (end.3.known.rows ∙ (ap (λ (s : Stores). s.rows) end.1.2 ∙ rows_are)) ∙ get_front (switched i Retired held.rows) (added_row i (length held.rows) newname row ∷ []) i (record row { state = Retired }) (switched_has i Retired held.rows row here);
    is = refl;
  })
    where
      held : Stores
      held = r.stands.store.before

      end : EndsFrom tells (renaming i newname) new held (Done id)
      end = changes.ends held (rests_has tells p m r)

      here : slice_get held.rows i ≡ Some row
      here = ap (λ (rs : List Row). slice_get rs i) (sym (rests_has tells p m r).known.rows) ∙ can.paused.here

      rows_are : renamed i newname held.rows ≡ switched i Retired held.rows ++ added_row i (length held.rows) newname row ∷ []
      rows_are = rw here refl

  -- what the call tells of the new row, and that it refuses none that may be added
  pub rename_number : (new : Seen) (id : ℕ) → Changes tells (renaming i newname) p.at new (Done id) → id ≡ length p.at.catalogue.rows
  rename_number new id changes = (changes.ends r.stands.store.before (rests_has tells p m r)).2 ∙ ap length (sym (rests_has tells p m r).known.rows)

  pub rename_unrefused : (new : Seen) (e : RenameErr) → Changes tells (renaming i newname) p.at new (Refused e) → ⊥
  rename_unrefused new e changes = not_refused p newname i e can (subst (λ (rs : List Row). RefusesName rs i newname e) (sym (rests_has tells p m r).known.rows) (changes.ends r.stands.store.before (rests_has tells p m r)).1)

-- THE ACT

-- as it is refused with this last durable moment
abbrev pub renames_act : (who : ℕ) (name newname : List ℕ) → Option ℕ → IsAct who (Rename name newname) (IsRenamed name newname)
renames_act who name newname found = record {
  refuse = λ old. rename_refused (changed_within name old) found name newname;
  passes = λ old m none. rename_free name newname m 0 (changed_within name old) None found none;
  counts = λ old m f. rename_counted name newname m (changed_within name old) found f;
  refuses = λ m f. rename_counted name newname m 0 None f;
  changes = λ m f. refl;
  goes = λ m f given new ran. ran;
  never = λ old m. rename_never name newname m (changed_within name old) found;
  tells_more = λ m given new ran told. (let both = sym ran.0 ∙ told in cc (both));
  steps = λ m given new acts. (found, acts);
  wants = λ m n none. none;
}

-- how it is answered
abbrev pub RenameEnds : Bool → ℕ → List ℕ → List ℕ → Parts → Result ℕ Unnamed → Parts → Type 0
RenameEnds tells who name newname p r q = Acted tells who (Rename name newname) p (rename_reply r) q

-- as the machine's act goes
pub renamed_so : (tells : Bool) (who : ℕ) (name newname : List ℕ) (p q : Parts) (r : Result ℕ Unnamed) → Went tells who (Rename name newname) p (rename_reply r) q → RenameEnds tells who name newname p r q
renamed_so tells who name newname p q r went = acted tells who (Rename name newname) p (rename_reply r) q went went.fronts tt tt

-- what refuses the new name before a doubt is settled
pub refused_now : (tells : Bool) (p : Parts) (name newname : List ℕ) (e : Unnamed) → IsUnnamed p name newname 0 e → (m : Machine) → Stands tells p m → rename_refused (changed_within name m) (told_in e) name newname m ≡ Some (rename_reply (Err e))
refused_now tells p name newname e why m s = rename_first name newname m (told_in e) ∙ unnamed_as tells p m s name newname 0 e why

-- and then
pub refused_later : (tells : Bool) (p q : Parts) (name newname : List ℕ) (i : ℕ) → IsFound p.at.catalogue.rows name (Some i) → CanRename p newname i → (e : Unnamed) → IsUnnamed q name newname 1 e → (old : Machine) → Stands tells p old → (m : Machine) → Stands tells q m → rename_refused (changed_within name old) (told_in e) name newname m ≡ Some (rename_reply (Err e))
refused_later tells p q name newname i found can e why old was m s = ap (λ (n : ℕ). rename_refused n (told_in e) name newname m) (was_paused tells p old was name newname i found can) ∙ unnamed_as tells q m s name newname 1 e why

-- Acts that only ask the stores of the row that has a name.

-- the disk failed, or memory was wanting, or it is answered
pub end_kind : {R : Type 0} (given : Answer R) → (given ≡ answer.DiskFault) ⊎ ((given ≡ answer.Memory) ⊎ (end_of_answer given ≡ Done given))
end_kind {R} answer.DiskFault = inl refl
end_kind {R} answer.Memory = inr (inl refl)
end_kind {R} given = inr (inr refl)

-- how a failed call is told
reply_failed : (R : Type 0) (reader_tells : Bool) (bytes : R → List ℕ) (faults : R → ℕ) (e : DiskErr) → reply_of {R = R} reader_tells bytes faults (answer_of (Err e)) ≡ disk_reply e
reply_failed R reader_tells bytes faults Fault = refl
reply_failed R reader_tells bytes faults Memory = refl

-- so it is told of a call whose result is known
pub failed_told : (R : Type 0) (reader_tells : Bool) (bytes : R → List ℕ) (faults : R → ℕ) (tells : Bool) (who : ℕ) (act : Act) (p q : Parts) (r : Result (Answer R) DiskErr) (e : DiskErr) → r ≡ Err e → Acted tells who act p (disk_reply e) q → Acted tells who act p (reply_of reader_tells bytes faults (answer_of r)) q
failed_told R reader_tells bytes faults tells who act p q r e is done =
    subst (λ (x : Result (Answer R) DiskErr). Acted tells who act p (reply_of reader_tells bytes faults (answer_of x)) q) (sym is) (subst (λ (given : Reply). Acted tells who act p given q) (sym (reply_failed R reader_tells bytes faults e)) done)

-- no row has the name
pub unknown : (tells : Bool) (name : List ℕ) (q : Parts) → IsFound q.at.catalogue.rows name None → (m : Machine) → Stands tells q m → details_refused name m ≡ Some answer.NoSuchVariable
unknown tells name q found m s = let none = found_row tells q m name None s found in rw none refl

-- one has it
pub known : (tells : Bool) (name : List ℕ) (q : Parts) (i : ℕ) → IsFound q.at.catalogue.rows name (Some i) → (m : Machine) → Stands tells q m → details_refused name m ≡ None
known tells name q i found m s = let some = found_row tells q m name (Some i) s found in rw some refl

-- that is no want of memory
pub details_never_want : (name : List ℕ) (m : Machine) → details_refused name m ≡ Some answer.Memory → ⊥
details_never_want name m is = by_found (find_row m name) refl
  where
    by_found : (o : Option ℕ) → find_row m name ≡ o → ⊥
    by_found None found = let told : details_refused name m ≡ Some answer.NoSuchVariable = rw found refl in let both = sym told ∙ is in cc (both)
    by_found (Some i) found = let told : details_refused name m ≡ None = rw found refl in let both = sym told ∙ is in cc (both)
