-- A row's state is set: as the machine has it, in memory, and as an act.
use Rattle.std.proofs.Common.{◌≡◌, ◌≢◌, zero, suc, List, [], ◌∷◌, Bool, Option, Some, None, Err, refl, sym, ◌∙◌, ap, subst, Result, ℕ}
use Rattle.std.specs.Prelude.{slice_get, slice_set}
use Rattle.std.proofs.lemmas.Option.{same_Some}
use Rattle.pb_messages.specs.declared.about.State.{State}
use Rattle.pb_messages.specs.declared.about.State.TheVariants.{Running, Paused, Retired}
use Rattle.pv_catalog.specs.Catalogue.{HasState}
use Rattle.pv_catalog.specs.Rows.{switched}
use Rattle.pv_catalog.specs.declared.error.StateErr.{StateErr}
use Rattle.pv_catalog.specs.declared.error.StateErr.TheVariants as of_state
use Rattle.pv_catalog.specs.declared.row.Row.{Row}
use Rattle.durable_write.specs.Ends.{Done, Refused}
use Rattle.tier_store.specs.Change.{EndsFrom, Switches, Changes}
use Rattle.tier_store.specs.Seen.{Seen}
use Rattle.tier_store.specs.Stores.{Stores}
use Rattle.act_model.specs.Machine.{Machine, SetsState, find_row}
use Rattle.act_model.specs.Pause.{state_refused, Sets, sets_of, not_running}
use Rattle.act_model.specs.Sound.{IsLive}
use Rattle.act_model.proofs.StepLaws.{with_doubt}
use Rattle.archive_core.specs.declared.memory.Doubt.{Doubt}
use Rattle.archive_core.specs.declared.memory.Doubt.TheVariants as kind
use Rattle.intake_half.specs.declared.memory.RowMemory.{RowMemory}
use Rattle.archive_core.specs.declared.switching.Switch.{Switch}
use Rattle.archive_core.specs.declared.switching.Switch.TheVariants.{Pause, Resume}
use Rattle.archive_core.specs.declared.switching.Unset.{Unset}
use Rattle.archive_core.specs.declared.switching.Unset.TheVariants as unset
use Rattle.archive_core.specs.Memory.{IsCleared, set_by}
use Rattle.intake_half.specs.Memory.{cleared}
use Rattle.archive_core.specs.Parts.{Parts}
use Rattle.archive_core.specs.Stands.{Stands, Rests}
use Rattle.archive_core.specs.Wanting.{NoneRefuses, Wants}
use Rattle.archive_core.proofs.Lists.{switch_grows}
use Rattle.archive_core.specs.Switching.{IsFound, IsUnset, act_of, from_of, to_of, wrong_of, wrong_reply, switching, switch_reply}
use Rattle.archive_core.proofs.Acting.{Makes, IsAct, Went, acted}
use Rattle.archive_core.proofs.KeptRows.{find_is, row_at}
use Rattle.archive_core.proofs.Windows.{switch_holds}
use Rattle.archive_core.proofs.Settled.{rests_has}
use Rattle.act_model.specs.Reply.{Reply}
use Rattle.act_model.specs.Rows.{RowState}
use Rattle.archive_core.specs.Acting.{Acted}
use Rattle.act_model.specs.Outcome.{Acts, all_go}
use Rattle.act_model.specs.Step.{Step, refuse_by, change_by}
use Rattle.act_model.specs.declared.acts.Act.TheVariants.{Pause as PauseAct, Resume as ResumeAct}
use Rattle.act_model.specs.Resume.{not_paused}
use Rattle.act_model.specs.declared.acts.Answer.TheVariants as answer

-- REFUSALS

pub found_row : (tells : Bool) (p : Parts) (m : Machine) (name : List ℕ) (found : Option ℕ) → Stands tells p m → IsFound p.at.catalogue.rows name found → find_row m name ≡ found
found_row tells p m name found s is = sym (find_is m p.at.catalogue.rows p.kept p.tails name found s.rows is.there is.only)

right_state : (switch : Switch) → wrong_of switch (from_of switch) ≡ None
right_state Pause = refl
right_state Resume = refl

wrong_state : (switch : Switch) (state : State) → state ≢ from_of switch → wrong_of switch state ≡ Some (wrong_reply switch)
wrong_state Pause Running apart = absurd (apart refl)
wrong_state Pause Paused apart = refl
wrong_state Pause Retired apart = refl
wrong_state Resume Running apart = refl
wrong_state Resume Paused apart = absurd (apart refl)
wrong_state Resume Retired apart = refl

-- what is refused of the known rows the machine refuses
pub unset_as : (tells : Bool) (p : Parts) (m : Machine) (name : List ℕ) (switch : Switch) (e : Unset) → Stands tells p m → IsUnset p.at.catalogue.rows name switch e → state_refused (wrong_of switch) name m ≡ Some (switch_reply switch (Err e))
unset_as tells p m name switch unset.NoSuchVariable s is = let none = found_row tells p m name None s is in rw none refl
unset_as tells p m name switch unset.WrongState s (i, found, wrong) =
    let here = found_row tells p m name (Some i) s found in
    let has = found.there in
    let at = row_at p.at.catalogue.rows p.kept p.tails m.rows s.rows i has.row has.here in
    let there = at.1 in
    let apart : at.0.state ≢ from_of switch = λ is. wrong (record { row = has.row; here = has.here; is = sym at.4.state ∙ is }) in
    rw (here, there) (wrong_state switch at.0.state apart)
unset_as tells p m name switch (unset.Disk e) s is = absurd is

-- and what isn't refused is the row's
pub set_as : (tells : Bool) (p : Parts) (m : Machine) (name : List ℕ) (switch : Switch) (i : ℕ) → Stands tells p m → IsFound p.at.catalogue.rows name (Some i) → HasState p.at.catalogue.rows i (from_of switch) → state_refused (wrong_of switch) name m ≡ None
set_as tells p m name switch i s found has =
    let here = found_row tells p m name (Some i) s found in
    let at = row_at p.at.catalogue.rows p.kept p.tails m.rows s.rows i has.row has.here in
    let there = at.1 in
    let state : at.0.state ≡ from_of switch = at.4.state ∙ has.is in
    rw (here, there) (ap (wrong_of switch) state ∙ right_state switch)

-- THE STORES' CALL

switches_by : (switch : Switch) (i : ℕ) (old new : Stores) → (switching switch i).by old new → Switches i (from_of switch) (to_of switch) old new
switches_by Pause i old new by = by
switches_by Resume i old new by = by

apart : (switch : Switch) → from_of switch ≢ to_of switch
apart Pause is = absurd (cc (is))
apart Resume is = absurd (cc (is))

in_use : (switch : Switch) → from_of switch ≢ Retired
in_use Pause is = absurd (cc (is))
in_use Resume is = absurd (cc (is))

-- a row that may be set isn't refused
not_refused : (switch : Switch) (i : ℕ) (rows : List Row) (e : StateErr) → HasState rows i (from_of switch) → (switching switch i).refuses e rows → ⊥
not_refused Pause i rows of_state.NotRunning has refuses = refuses has
not_refused Pause i rows of_state.NotPaused has refuses = refuses
not_refused Pause i rows (of_state.Disk e) has refuses = refuses
not_refused Resume i rows of_state.NotRunning has refuses = refuses
not_refused Resume i rows of_state.NotPaused has refuses = refuses has
not_refused Resume i rows (of_state.Disk e) has refuses = refuses

-- the memory of the row whose state was set is cleared
pub clears : (rows : List Row) (d : Option Doubt) (i : ℕ) (to : State) (kept : List RowMemory) (memory : RowMemory) → set_by d ≡ Some (i, to) → slice_get kept i ≡ Some memory → HasState rows i to → IsCleared rows d kept (slice_set kept i (cleared memory))
clears rows d i to kept memory set there has = record {
  other = λ none. absurd (none i to set has);
  own = λ k state is own was here.
      let place : i ≡ k = ap (λ (x : ℕ × State). x.0) (same_Some (i, to) (k, state) (sym set ∙ is)) in
      let one : memory ≡ was = same_Some memory was (sym there ∙ (ap (slice_get kept) place ∙ here)) in
      ap (λ (n : ℕ). slice_set kept n (cleared memory)) place ∙ ap (λ (w : RowMemory). slice_set kept k (cleared w)) one;
}

pub switched_has : (i : ℕ) (to : State) (rows : List Row) (row : Row) → slice_get rows i ≡ Some row → slice_get (switched i to rows) i ≡ Some (record row { state = to })
switched_has i to [] row here = absurd (cc (here))
switched_has zero to (x ∷ rows) row here = ap (λ (w : Row). Some (record w { state = to })) (same_Some x row here)
switched_has (suc i) to (x ∷ rows) row here = switched_has i to rows row here

module _ (tells : Bool) (p : Parts) (m : Machine) (r : Rests tells p m) (i : ℕ) (switch : Switch) (state : HasState p.at.catalogue.rows i (from_of switch)) where
  pub makes_switch : Makes tells (switching switch i) (SetsState i (to_of switch)) (kind.State i (to_of switch)) p.kept p m r.stands.store.before
  makes_switch =
      let held = r.stands.store.before in
      let known = (rests_has tells p m r).known in
      let at = row_at p.at.catalogue.rows p.kept p.tails m.rows r.stands.rows i state.row state.here in
      let live : IsLive m.rows i = λ q here is. in_use switch (sym state.is ∙ (sym at.4.state ∙ (ap (λ (w : RowState). w.state) (same_Some at.0 q (sym at.1 ∙ here)) ∙ is))) in
      record {
        sound = with_doubt m.rule m.told m.rows m.limbo m.pins m.moves m.doubt (SetsState i (to_of switch)) r.stands.sound (live, tt);
        rows = r.stands.rows;
        is = refl;
        ready = (at.0, at.1, λ is. apart switch (sym state.is ∙ (sym at.4.state ∙ is)));
        stand = λ after by. ap (λ (s : Stores). s.stands) (switches_by switch i held after by).1;
        grow = λ after by filed. switch_grows m.moves p.at i (from_of switch) (to_of switch) held after known (switches_by switch i held after by);
        holds = λ after by filed. switch_holds i (from_of switch) (to_of switch) held after m (switches_by switch i held after by) r.stands.store.holds;
      }

  -- the memory of the row is cleared then
  pub switch_clears : (new : Seen) (a : Unit {0}) (memory : RowMemory) → slice_get p.kept i ≡ Some memory → Changes tells (switching switch i) p.at new (Done a) → IsCleared new.catalogue.rows (Some (kind.State i (to_of switch))) p.kept (slice_set p.kept i (cleared memory))
  switch_clears new a memory there changes = clears new.catalogue.rows (Some (kind.State i (to_of switch))) i (to_of switch) p.kept memory refl there (record {
    row = record state.row { state = to_of switch };
    here = ap (λ (rs : List Row). slice_get rs i) (end.3.known.rows ∙ ap (λ (s : Stores). s.rows) (switches_by switch i held end.0 end.1).1) ∙ switched_has i (to_of switch) held.rows state.row (ap (λ (rs : List Row). slice_get rs i) (sym (rests_has tells p m r).known.rows) ∙ state.here);
    is = refl;
  })
    where
      held : Stores
      held = r.stands.store.before

      end : EndsFrom tells (switching switch i) new held (Done a)
      end = changes.ends held (rests_has tells p m r)

  pub switch_unrefused : (new : Seen) (e : StateErr) → Changes tells (switching switch i) p.at new (Refused e) → ⊥
  switch_unrefused new e changes =
      let has = rests_has tells p m r in
      not_refused switch i r.stands.store.before.rows e (subst (λ (rs : List Row). HasState rs i (from_of switch)) has.known.rows state) (changes.ends r.stands.store.before has).1

-- THE ACT

-- the count of faults is nothing to the refusals
counted : (wrong : State → Option Reply) (name : List ℕ) (m : Machine) (f : ℕ) → state_refused wrong name (record m { faults = f }) ≡ state_refused wrong name m
counted wrong name m f = by_found (find_row m name) refl
  where
    by_row : (i : ℕ) → find_row m name ≡ Some i → (o : Option RowState) → slice_get m.rows i ≡ o → state_refused wrong name (record m { faults = f }) ≡ state_refused wrong name m
    by_row i is None here = rw (is, here) refl
    by_row i is (Some r) here = rw (is, here) refl

    by_found : (o : Option ℕ) → find_row m name ≡ o → state_refused wrong name (record m { faults = f }) ≡ state_refused wrong name m
    by_found None is = rw is refl
    by_found (Some i) is = by_row i is (slice_get m.rows i) refl

-- no refusal is want of memory
wrong_never : (switch : Switch) (state : State) → wrong_of switch state ≡ Some answer.Memory → ⊥
wrong_never Pause Running is = cc (is)
wrong_never Pause Paused is = cc (is)
wrong_never Pause Retired is = cc (is)
wrong_never Resume Running is = cc (is)
wrong_never Resume Paused is = cc (is)
wrong_never Resume Retired is = cc (is)

never_wants : (switch : Switch) (name : List ℕ) (m : Machine) → state_refused (wrong_of switch) name m ≡ Some answer.Memory → ⊥
never_wants switch name m is = by_found (find_row m name) refl
  where
    by_row : (i : ℕ) → find_row m name ≡ Some i → (o : Option RowState) → slice_get m.rows i ≡ o → ⊥
    by_row i found None here = let told : state_refused (wrong_of switch) name m ≡ Some answer.NoSuchVariable = rw (found, here) refl in let both = sym told ∙ is in cc (both)
    by_row i found (Some row) here = let told : state_refused (wrong_of switch) name m ≡ wrong_of switch row.state = rw (found, here) refl in wrong_never switch row.state (sym told ∙ is)

    by_found : (o : Option ℕ) → find_row m name ≡ o → ⊥
    by_found None found = let told : state_refused (wrong_of switch) name m ≡ Some answer.NoSuchVariable = rw found refl in let both = sym told ∙ is in cc (both)
    by_found (Some i) found = by_row i found (slice_get m.rows i) refl

-- nor is the answer that the state was set
pub sets_tells : (to : State) (name : List ℕ) (m : Machine) (given : Reply) (new : Machine) → Sets to name m given new → given ≡ answer.Memory → ⊥
sets_tells to name m given new ran told = let both = sym ran.0 ∙ told in cc (both)

-- so it is of both switches
pub set_counts : (switch : Switch) (name : List ℕ) (m : Machine) (f : ℕ) → refuse_by (act_of switch name) (record m { faults = f }) ≡ refuse_by (act_of switch name) m
set_counts Pause name = counted not_running name
set_counts Resume name = counted not_paused name

pub set_changes : (switch : Switch) (name : List ℕ) (m : Machine) (f : ℕ) → change_by (act_of switch name) (record m { faults = f }) ≡ change_by (act_of switch name) m
set_changes Pause name m f = refl
set_changes Resume name m f = refl

pub set_never : (switch : Switch) (name : List ℕ) (m : Machine) → refuse_by (act_of switch name) m ≡ Some answer.Memory → ⊥
set_never Pause name = never_wants Pause name
set_never Resume name = never_wants Resume name

pub set_steps : (who : ℕ) (switch : Switch) (name : List ℕ) (m : Machine) (given : Reply) (new : Machine) → Acts (refuse_by (act_of switch name)) (Sets (to_of switch) name) (change_by (act_of switch name)) all_go m given new → Step who (act_of switch name) m given new
set_steps who Pause name m given new acts = acts
set_steps who Resume name m given new acts = acts

pub set_wants : (who : ℕ) (switch : Switch) (name : List ℕ) (m n : Machine) → NoneRefuses (refuse_by (act_of switch name)) m n → Wants who (act_of switch name) m n
set_wants who Pause name m n none = none
set_wants who Resume name m n none = none

abbrev pub sets_act : (who : ℕ) (switch : Switch) (name : List ℕ) → IsAct who (act_of switch name) (Sets (to_of switch) name)
sets_act who switch name = record {
  refuse = λ old. refuse_by (act_of switch name);
  passes = λ old m is. is;
  counts = λ old. set_counts switch name;
  refuses = set_counts switch name;
  changes = set_changes switch name;
  goes = λ m f given new ran. ran;
  never = λ old. set_never switch name;
  tells_more = sets_tells (to_of switch) name;
  steps = set_steps who switch name;
  wants = set_wants who switch name;
}

-- how it is answered
abbrev pub SetEnds : Bool → ℕ → Switch → List ℕ → Parts → Result (Unit {0}) Unset → Parts → Type 0
SetEnds tells who switch name p r q = Acted tells who (act_of switch name) p (switch_reply switch r) q

-- as the machine's act goes
pub set_so : (tells : Bool) (who : ℕ) (switch : Switch) (name : List ℕ) (p q : Parts) (r : Result (Unit {0}) Unset) → Went tells who (act_of switch name) p (switch_reply switch r) q → SetEnds tells who switch name p r q
set_so tells who Pause name p q r went = acted tells who (PauseAct name) p (switch_reply Pause r) q went went.fronts tt tt
set_so tells who Resume name p q r went = acted tells who (ResumeAct name) p (switch_reply Resume r) q went went.fronts tt tt

-- a row of the name has the state before
abbrev pub CanSet : Switch → List ℕ → Parts → ℕ → Type 0
CanSet switch name q i = IsFound q.at.catalogue.rows name (Some i) × HasState q.at.catalogue.rows i (from_of switch)

pub can_set : (tells : Bool) (switch : Switch) (name : List ℕ) (q : Parts) (i : ℕ) → CanSet switch name q i → (m : Machine) → Stands tells q m → refuse_by (act_of switch name) m ≡ None
can_set tells Pause name q i can m s = set_as tells q m name Pause i s can.0 can.1
can_set tells Resume name q i can m s = set_as tells q m name Resume i s can.0 can.1

pub refused_set : (tells : Bool) (switch : Switch) (name : List ℕ) (q : Parts) (e : Unset) → IsUnset q.at.catalogue.rows name switch e → (m : Machine) → Stands tells q m → refuse_by (act_of switch name) m ≡ Some (switch_reply switch (Err e))
refused_set tells Pause name q e is m s = unset_as tells q m name Pause e s is
refused_set tells Resume name q e is m s = unset_as tells q m name Resume e s is

pub set_change : (tells : Bool) (switch : Switch) (name : List ℕ) (q : Parts) (i : ℕ) → CanSet switch name q i → (m : Machine) → Stands tells q m → change_by (act_of switch name) m ≡ Some (SetsState i (to_of switch))
set_change tells Pause name q i can m s = ap (sets_of Paused) (found_row tells q m name (Some i) s can.0)
set_change tells Resume name q i can m s = ap (sets_of Running) (found_row tells q m name (Some i) s can.0)
