-- Acts that settle a doubt first and then change the stores or ask them, one after another, and what a crash leaves of each.
use Rattle.std.proofs.Common.{◌≡◌, Bool, [], sym, subst, inl, inr, true, List, Some, refl, ◌∙◌, ap, arith, ℕ, ◌⊎◌, Option, None, Result, Ok, Err, ◌≤◌, zero, suc, ◌+◌, ◌<◌, length, get_or, ◌∷◌, ◌++◌, append_assoc, append-nil}
use Rattle.disk_model.proofs.Passing.{passes_weaker, passes_none, passes_then}
use Rattle.tier_store.specs.Seen.{granularities, Seen, IsSettled}
use Rattle.act_model.specs.Machine.{Machine, Change}
use Rattle.archive_core.specs.Parts.{Parts}
use Rattle.archive_core.specs.Stands.{Stands, InDoubt, Rests, StoresGo, StoresGrow, IsDoubtOf, IsReady, HoldsDurable}
use Rattle.disk_model.specs.Files.{Files, Rose}
use Rattle.disk_model.specs.Past.{Passes, MayLeave}
use Rattle.act_model.specs.Changes.{made}
use Rattle.partition_names.specs.declared.granularity.Granularity.{Granularity}
use Rattle.std.specs.Prelude.{IsTrue, slice_get, ◌&&◌, OnOk}
use Rattle.tier_store.specs.Change.{Has, HoldsEither, IsOpen, StoreCall, Changes, Costs, EndsFrom, HoldsBy}
use Rattle.tier_store.specs.Stores.{Stores, tier}
use Rattle.tier_store.proofs.Holding.{has_left, open_left}
use Rattle.archive_core.specs.Ends.{LeavesBetween, ChangesTo, HoldsChanged, LeavesWithin, LeavesByAct, AskEnds, is_spent, is_failed, is_answered, Steps, SettlesTo, StandsStill, disk_reply, HoldsMachine}
use Rattle.archive_core.proofs.Batches.{told_stands, tidy_stores, disk_not_well, tidy_none, tidy_then}
use Rattle.disk_model.specs.declared.disk.DiskErr.TheVariants.{Fault, Memory}
use Rattle.act_model.specs.Sound.{IsSound}
use Rattle.archive_core.specs.Leaving.{files_of, Leaves, LeavesFiles, LeavesMove, LeavesPins, ReadsAlone}
use Rattle.archive_core.proofs.Settled.{rests_has, Takes, doubt_stands, grew, made_stands, no_own}
use Rattle.act_model.specs.Crash.{before_it, as_it_is, with_doubt, settled_there, with_change, LeftWithin, Between, of_row_there, of_no_row}
use Rattle.act_model.specs.Reply.{Reply, reply_of}
use Rattle.act_model.specs.Step.{Step, refuse_by, change_by, MayAsk}
use Rattle.act_model.specs.declared.acts.Act.{Act}
use Rattle.tier_store.specs.Stored.{HoldsAll}
use Rattle.intake.specs.Tails.{TailState}
use Rattle.durable_write.specs.Ends.{End, Done, Failed, Spent, IsFailed, end_of_disk}
use Rattle.durable_write.specs.Held.{AreFiled, Held}
use Rattle.store_manifest.specs.Manifest.{ManifestState}
use Rattle.tier_store.specs.Given.{ChangesGiven}
use Rattle.tier_store.specs.Frame.{Frame}
use Rattle.tier_store.specs.Pinned.{beside, SeenAll, LeavesFronts}
use Rattle.tier_store.specs.Strays.{LeavesTidy}
use Rattle.tier_store.proofs.Frames.{frame_same, fronts_on, nothing_fronts}
use Rattle.tier_store.proofs.Places.{manifest_of}
use Rattle.archive_core.specs.Memory.{AreRowsOf, IsCleared}
use Rattle.archive_core.specs.Strays.{Tidies, ActsTidily}
use Rattle.archive_core.specs.declared.memory.Doubt.{Doubt}
use Rattle.intake_half.specs.declared.memory.RowMemory.{RowMemory}
use Rattle.disk_model.specs.declared.disk.DiskErr.{DiskErr}
use Rattle.durable_write.proofs.Staying.{rose_after}
use Rattle.act_model.specs.Outcome.{Acts, all_go, refused_at_once, refused, runs as runs_act, faults_first, faults_between, faults_within, wants_memory, wants_memory_settled}
use Rattle.archive_core.specs.Acting.{Acted, Changed, Settling}
use Rattle.archive_core.specs.Wanting.{NoneRefuses, Wants, WithWants, before_settling, behind_settling}
use Rattle.act_model.specs.declared.acts.Answer.TheVariants as answer
use Rattle.std.specs.List.{AllByRecursion}
use Rattle.std.proofs.lemmas.List.{map-append}
use Rattle.series_model.specs.Archive.{IsPrefix}
use Rattle.act_model.specs.declared.acts.Act.TheVariants.{Doors}
use Rattle.act_model.specs.Alone.{Chain}
use Rattle.act_model.specs.declared.acts.Answer.{Answer}
use Rattle.archive_actors.specs.Steps.{SharedStep, kept, all_kept}
use Rattle.archive_actors.specs.declared.shared.Shared.{Shared}
use Rattle.turn_rooms.specs.Histories.{Legal, LegalFrom, end_of}
use Rattle.act_model.specs.Growth.{Onward}
use Rattle.act_model.specs.History.{Entry, Runs}
use Rattle.act_model.specs.Rows.{RowState, accepted, durable}
use Rattle.act_model.proofs.Histories.{runs_append, runs_onward, runs_sound}
use Rattle.act_model.proofs.Onward.{prefix_trans}
use Rattle.act_model.proofs.StepOnward.{crash_within, left_on}
use Rattle.act_model.proofs.WholeLaws.{wholes_between, wholes_on}
use Rattle.archive_core.specs.Running.{HoldsBetween, LeftIn, MakesAll, RunsOn, asked}
use Rattle.turn_rooms.specs.declared.room.RoomEntry.{RoomEntry}

-- What a crash between acts leaves, and one while a doubt is settled.

-- at each moment of a settling the image holds what was before the change that stood in doubt, or what is after it
abbrev pub HoldsDoubted : Bool → Parts → Parts → Type 0
HoldsDoubted tells p q = IsTrue tells → (before after : Stores) → IsOpen tells p.at before after → Passes (HoldsEither (granularities p.at.manifests) before after) p.at.past q.at.past

module _ (tells : Bool) (p : Parts) (m : Machine) (told : IsTrue tells) (s : Stands tells p m) where
  abbrev IsLeft : Files → Type 0
  IsLeft image = LeavesBetween (granularities p.at.manifests) m image

  stands : m.told ≡ true → IsTrue s.store.before.stands
  stands = told_stands tells m.told s.store.before.stands s.store.told

  as_before : (image : Files) → HoldsAll (granularities p.at.manifests) image s.store.before → IsLeft image
  as_before image holds = (m, as_it_is, record { stores = s.store.before; holds = holds; durable = s.store.holds; stands = stands })

  as_after : (d : InDoubt tells p.at p.limbo s.store.before m) (image : Files) → HoldsAll (granularities p.at.manifests) image d.after → IsLeft image
  as_after d image holds = (made [] d.change m, with_doubt d.change d.is, record { stores = d.after; holds = holds; durable = d.holds; stands = λ is. subst IsTrue (sym d.stand) (stands is) })

  left_of : (image : Files) → MayLeave p.at.past image → Has tells p.at s.store.before ⊎ InDoubt tells p.at p.limbo s.store.before m → IsLeft image
  left_of image left (inl has) = as_before image (has_left tells p.at s.store.before has told image left)
  left_of image left (inr d) = elim (open_left tells p.at s.store.before d.after (inr d.doubts) told image left) [ inl holds ↦ as_before image holds | inr holds ↦ as_after d image holds ]

  settling_of : (q : Parts) → HoldsDoubted tells p q → Has tells p.at s.store.before ⊎ InDoubt tells p.at p.limbo s.store.before m → Passes (λ a image. IsLeft image) p.at.past q.at.past
  settling_of q settles (inl has) =
      passes_weaker (HoldsEither (granularities p.at.manifests) s.store.before s.store.before) (λ a image. IsLeft image) p.at.past q.at.past (settles told s.store.before s.store.before (inl has))
      (λ a image left holds. elim holds [ inl is ↦ as_before image is | inr is ↦ as_before image is ])
  settling_of q settles (inr d) =
      passes_weaker (HoldsEither (granularities p.at.manifests) s.store.before d.after) (λ a image. IsLeft image) p.at.past q.at.past (settles told s.store.before d.after (inr d.doubts))
      (λ a image left holds. elim holds [ inl is ↦ as_before image is | inr is ↦ as_after d image is ])

  -- at each moment of a settling
  pub settling_leaves : (q : Parts) → HoldsDoubted tells p q → Passes (λ a image. IsLeft image) p.at.past q.at.past
  settling_leaves q settles = settling_of q settles s.store.is_open

pub crash_leaves : (tells : Bool) (p : Parts) (m : Machine) (image : Files) → IsTrue tells → Stands tells p m → MayLeave p.at.past image → LeavesBetween (granularities p.at.manifests) m image
crash_leaves tells p m image told s left = left_of tells p m told s image left s.store.is_open

-- A call that changes the stores where nothing stands in doubt: what the archive stands for then.

-- THE CALL

-- how a call ended of what the stores had
pub record Called {A E : Type 0} (tells : Bool) (call : StoreCall A E) (old new : Seen) (held : Stores) (end : End A E) : Type 0 where
  pub ends : EndsFrom tells call new held end
  pub any_moment : IsTrue tells → Passes (HoldsBy (granularities old.manifests) call.by held) old.past new.past
  pub costs : Costs old new end

pub called : {A E : Type 0} (tells : Bool) (call : StoreCall A E) (old new : Seen) (held : Stores) (end : End A E) → Has tells old held → Changes tells call old new end → Called tells call old new held end
called {A} {E} tells call old new held end has changes = record { ends = changes.ends held has; any_moment = λ told. changes.any_moment told held has; costs = changes.costs }

pub called_given : {A E : Type 0} (tells : Bool) (call : StoreCall A E) (old new : Seen) (held : Stores) (end : End A E) (Is : Stores → Type 0) → Has tells old held → Is held → ChangesGiven Is tells call old new end → Called tells call old new held end
called_given {A} {E} tells call old new held end Is has is changes = record { ends = changes.ends held has is; any_moment = λ told. changes.any_moment told held has is; costs = changes.costs }

-- of each granularity that the place has, the files are of it
abbrev pub IsFiledAt : List Granularity → ℕ → Held → Type 0
IsFiledAt gs i t = (g : Granularity) → slice_get gs i ≡ Some g → AreFiled g t

-- so are the files of each place
abbrev pub AreFiledAll : List Granularity → Stores → Type 0
AreFiledAll gs s = (i : ℕ) → IsFiledAt gs i (tier i s)

-- what is listed of each manifest is of its granularity
pub filed_each : (gs : List Granularity) (ms : List ManifestState) (s : Stores) → granularities ms ≡ gs → ((i : ℕ) (n : ManifestState) → slice_get ms i ≡ Some n → AreFiled n.granularity (tier i s)) → AreFiledAll gs s
filed_each gs ms s same_g each i g here =
    let n = manifest_of ms i g (ap (λ (xs : List Granularity). slice_get xs i) same_g ∙ here) in
    subst (λ (u : Granularity). AreFiled u (tier i s)) n.2 (each i n.0 n.1)

-- A change of the machine is what the call makes of the stores. With the change in doubt the archive keeps this of it, and this of each row.
pub record Makes {A E : Type 0} (tells : Bool) (call : StoreCall A E) (c : Change) (d : Doubt) (kept : List RowMemory) (p : Parts) (m : Machine) (held : Stores) : Type 0 where
  pub sound : IsSound (record m { doubt = Some c })
  pub rows : AreRowsOf p.at.catalogue.rows kept p.tails m.rows
  pub is : IsDoubtOf (Some d) (Some c)
  pub ready : IsReady kept m.rows m.moves (Some c)
  pub stand : (after : Stores) → call.by held after → after.stands ≡ held.stands
  pub grow : (after : Stores) → call.by held after → AreFiledAll (granularities p.at.manifests) after → StoresGrow m.moves held after
  pub holds : (after : Stores) → call.by held after → AreFiledAll (granularities p.at.manifests) after → HoldsDurable after (made [] c m)

-- all is as it was
pub rests_again : (tells : Bool) (p : Parts) (m : Machine) (r : Rests tells p m) (new : Seen) → granularities new.manifests ≡ granularities p.at.manifests → Frame tells (beside p.at p.limbo) (beside new p.limbo) → Has tells new r.stands.store.before → Stands tells (record p { at = new }) (record m { faults = new.faults })
rests_again tells p m r new same_g shown has = let s = r.stands in doubt_stands tells p m s new p.kept p.doubt m.doubt same_g shown s.sound s.rows s.doubt s.ready (inl has)

-- the archive keeps nothing of a doubt
pub none_kept : (tells : Bool) (p : Parts) (m : Machine) → Rests tells p m → p.doubt ≡ None
none_kept tells p m r = no_own p.doubt (subst (λ (o : Option Change). IsDoubtOf p.doubt o) r.settled r.stands.doubt)

module _ {A E : Type 0} (tells : Bool) (call : StoreCall A E) (c : Change) (d : Doubt) (kept : List RowMemory) (p : Parts) (m : Machine) (r : Rests tells p m) (makes : Makes tells call c d kept p m r.stands.store.before)
    (go : (new : Seen) (after : Stores) → StoresGrow m.moves r.stands.store.before after → StoresGo tells (beside new p.limbo) m.told m.rows m.moves r.stands.store.before after c) (new : Seen) (frame : Frame tells (beside p.at p.limbo) (beside new p.limbo)) where
  abbrev held : Stores
  held = r.stands.store.before

  stands_now : m.told ≡ true → IsTrue held.stands
  stands_now = told_stands tells m.told held.stands r.stands.store.told

  -- at each moment the disk has what is durable, or that with the change
  passes : (end : End A E) → Called tells call p.at new held end → IsTrue tells → Passes (λ a image. HoldsChanged (granularities p.at.manifests) c m image) p.at.past new.past
  passes end by told =
      passes_weaker (HoldsBy (granularities p.at.manifests) call.by held) (λ a image. HoldsChanged (granularities p.at.manifests) c m image) p.at.past new.past (by.any_moment told) (λ a image left holds. elim holds [
        | inl same ↦ inl (record { stores = held; holds = same; durable = r.stands.store.holds; stands = stands_now })
        | inr with_it ↦ inr (record { stores = with_it.0; holds = with_it.2; durable = makes.holds with_it.0 with_it.1 (λ i g here. (with_it.2 i g here).filed); stands = λ is. subst IsTrue (sym (makes.stand with_it.0 with_it.1)) (stands_now is) })
      ])

  -- with the change in doubt
  doubting : (at : Seen) → granularities at.manifests ≡ granularities p.at.manifests → Frame tells (beside p.at p.limbo) (beside at p.limbo) → Has tells at held ⊎ InDoubt tells at p.limbo held (record m { doubt = Some c; faults = at.faults })
      → Stands tells (record p { at = at; kept = kept; doubt = Some d }) (record m { doubt = Some c; faults = at.faults })
  doubting at same_g stay is_open = doubt_stands tells p m r.stands at kept (Some d) (Some c) same_g stay makes.sound makes.rows makes.is makes.ready is_open

  pub call_done : (a : A) (kept_then : List RowMemory) (tails : List TailState) → IsCleared new.catalogue.rows (Some d) kept kept_then → Takes c p.tails tails → Called tells call p.at new held (Done a) → ChangesTo tells c p m (record p { at = new; kept = kept_then; tails = tails }) (Ok a)
  call_done a kept_then tails clears takes by = record {
    ends = subst (λ (o : Option Doubt). Stands tells (record p { at = new; kept = kept_then; tails = tails; doubt = o }) (record (made [] c m) { faults = new.faults })) (sym (none_kept tells p m r))
        (subst (λ (o : Option Change). Stands tells (record p { at = new; kept = kept_then; tails = tails; doubt = None }) (record (made [] c m) { doubt = o; faults = new.faults })) (sym r.settled) stands);
    any_moment = passes (Done a) by;
    faults = by.costs.faults;
    cause = λ is. absurd (cc (is));
  }
    where
      end : EndsFrom tells call new held (Done a)
      end = by.ends

      stand : end.0.stands ≡ held.stands
      stand = makes.stand end.0 end.1

      filed : AreFiledAll (granularities p.at.manifests) end.0
      filed = filed_each (granularities p.at.manifests) new.manifests end.0 by.costs.granularity (λ i n here. (end.3.known.each i n here).valid.filed)

      stands : Stands tells (record p { at = new; kept = kept_then; tails = tails; doubt = None }) (record (made [] c m) { doubt = None; faults = new.faults })
      stands =
          let was = doubting p.at refl (frame_same tells (beside p.at p.limbo)) (inl (rests_has tells p m r)) in
          (made_stands tells (record p { kept = kept; doubt = Some d }) (record m { doubt = Some c; faults = p.at.faults }) was new kept_then by.costs.granularity frame tails c refl end.0 (grew tells p m r.stands new by.costs.granularity frame end.0 stand (makes.grow end.0 end.1 filed))
          (r.stands.store.told ∙ ap (λ (b : Bool). tells && b) (sym stand)) (makes.holds end.0 end.1 filed) clears takes end.3).stands

  pub call_failed : Called tells call p.at new held Failed → ChangesTo {A = A} tells c p m (record p { at = new; kept = kept; doubt = Some d }) (Err Fault)
  call_failed by = record {
    ends = doubting new by.costs.granularity frame (by_end by.ends);
    any_moment = passes Failed by;
    faults = by.costs.faults;
    cause = λ is. by.costs.cause tt;
  }
    where
      by_end : EndsFrom tells call new held Failed → Has tells new held ⊎ InDoubt tells new p.limbo held (record m { doubt = Some c; faults = new.faults })
      by_end (inl has) = inl has
      by_end (inr (after, by_it, doubts)) =
          let filed = filed_each (granularities p.at.manifests) new.manifests after by.costs.granularity (λ i n here. (doubts.valid_after i n here).filed) in
          inr (record { change = c; is = refl; after = after; doubts = doubts; stand = makes.stand after by_it; go = go new after (makes.grow after by_it filed); holds = makes.holds after by_it filed })

  pub call_spent : Called tells call p.at new held Spent → ChangesTo {A = A} tells c p m (record p { at = new; kept = kept }) (Err Memory)
  call_spent by = record {
    ends = doubt_stands tells p m r.stands new kept p.doubt m.doubt by.costs.granularity frame r.stands.sound makes.rows r.stands.doubt (subst (λ (o : Option Change). IsReady kept m.rows m.moves o) (sym r.settled) tt) (inl by.ends);
    any_moment = passes Spent by;
    faults = by.costs.faults;
    cause = λ is. absurd (cc (is));
  }

-- there was no memory for the call
pub not_called : {A : Type 0} (tells : Bool) (c : Change) (p : Parts) (m : Machine) (r : Rests tells p m) (kept : List RowMemory) → AreRowsOf p.at.catalogue.rows kept p.tails m.rows → ChangesTo {A = A} tells c p m (record p { kept = kept }) (Err Memory)
not_called {A} tells c p m r kept rows =
    let s = r.stands in
    record {
      ends = doubt_stands tells p m s p.at kept p.doubt m.doubt refl (frame_same tells (beside p.at p.limbo)) s.sound rows s.doubt (subst (λ (o : Option Change). IsReady kept m.rows m.moves o) (sym r.settled) tt) (inl (rests_has tells p m r));
      any_moment = λ told. passes_none (λ a image. HoldsChanged (granularities p.at.manifests) c m image) p.at.past
          (λ image left. inl (record { stores = s.store.before; holds = has_left tells p.at s.store.before (rests_has tells p m r) told image left; durable = s.store.holds; stands = told_stands tells m.told s.store.before.stands s.store.told }));
      faults = omega arith;
      cause = λ is. absurd (cc (is));
    }

-- the stores' call made no stray
pub call_tidy : {A E : Type 0} (tells : Bool) (p q : Parts) (r : Result A E) (a : A) → r ≡ Ok a → q.slots ≡ p.slots → OnOk r (LeavesTidy tells (files_of p) (files_of q)) → Tidies tells p q
call_tidy {A} {E} tells p q r a is slots tidy = let done = subst (λ (x : Result A E). OnOk x (LeavesTidy tells (files_of p) (files_of q))) is tidy in tidy_stores tells p q slots done.0 done.1

-- An act that settles a doubt first and then changes the stores or asks them: how it ends, what a crash within it leaves, and what it leaves of files.

-- WHAT IS SAID OF THE STEP ALONE, AND OF WANT OF MEMORY

pub step_alone : (tells : Bool) (Wanting : Machine → Machine → Type 0) (Step : Machine → Reply → Machine → Type 0) (p q : Parts) (given : Reply) → Steps tells (WithWants Wanting Step) p given q → Steps tells Step p given q
step_alone tells Wanting Step p q given steps = λ m s. (let one = steps m s in (one.0, one.1.0, one.2))

pub want_alone : (tells : Bool) (Wanting : Machine → Machine → Type 0) (Step : Machine → Reply → Machine → Type 0) (p q : Parts) (given : Reply) → Steps tells (WithWants Wanting Step) p given q → given ≡ answer.Memory → (m : Machine) → Stands tells p m → (n : Machine) × Wanting m n × Stands tells q n
want_alone tells Wanting Step p q given steps told = λ m s. (let one = steps m s in (one.0, one.1.1 told, one.2))

-- WHAT A CRASH LEAVES

module _ (tells : Bool) (refuse : Machine → Option Reply) (change : Machine → Option Change) (refuses : (m : Machine) (f : ℕ) → refuse (record m { faults = f }) ≡ refuse m) (changes : (m : Machine) (f : ℕ) → change (record m { faults = f }) ≡ change m) (p : Parts) where
  abbrev Within : Machine → Files → Type 0
  Within m image = LeavesWithin refuse change (granularities p.at.manifests) m image

  between : (m : Machine) (image : Files) → LeavesBetween (granularities p.at.manifests) m image → Within m image
  between m image (left, is, holds) = (left, before_it is, holds)

  -- nothing was done
  pub crash_none : LeavesByAct tells refuse change p p
  crash_none = λ m told s. passes_none (λ a image. Within m image) p.at.past (λ image left. between m image (crash_leaves tells p m image told s left))

  -- the doubt is settled
  pub crash_settling : (q : Parts) → HoldsDoubted tells p q → LeavesByAct tells refuse change p q
  crash_settling q settles = λ m told s.
      passes_weaker (λ a image. LeavesBetween (granularities p.at.manifests) m image) (λ a image. Within m image) p.at.past q.at.past (settling_leaves tells p m told s q settles) (λ a image left is. between m image is)

  -- and then the change is made
  pub crash_changing : {A : Type 0} (q new : Parts) (c : Change) (r : Result A DiskErr) → HoldsDoubted tells p q → granularities q.at.manifests ≡ granularities p.at.manifests → SettlesTo tells p q → ((m : Machine) → Stands tells q m → refuse m ≡ None) → ((m : Machine) → Stands tells q m → change m ≡ Some c)
      → ((m : Machine) → Rests tells q m → ChangesTo tells c q m new r) → LeavesByAct tells refuse change p new
  crash_changing {A} q new c r reads same_g settles passed own ends = λ m told s.
      let mid = settles m s in
      let n : Machine = record mid.0 { faults = q.at.faults } in
      let second = subst (λ (gs : List Granularity). Passes (λ a image. HoldsChanged gs c n image) q.at.past new.at.past) same_g ((ends n mid.2).any_moment told) in
      let none : refuse mid.0 ≡ None = sym (refuses mid.0 q.at.faults) ∙ passed n mid.2.stands in
      let one : change mid.0 ≡ Some c = sym (changes mid.0 q.at.faults) ∙ own n mid.2.stands in
      passes_then (λ a image. Within m image) (λ a image. HoldsChanged (granularities p.at.manifests) c n image) p.at.past q.at.past new.at.past (crash_settling q reads m told s) second (λ a b image was within left holds. elim holds [
        | inl same ↦ (mid.0, settled_there mid.1, same)
        | inr with_it ↦ (made [] c mid.0, with_change c mid.1 none one, with_it)
      ])

  -- or the stores are asked, where the disk is only read
  pub crash_asking : (q new : Parts) → HoldsDoubted tells p q → SettlesTo tells p q → ReadsAlone tells q new → LeavesByAct tells refuse change p new
  crash_asking q new doubted settles reads = λ m told s.
      let mid = settles m s in
      let settled = (rests_has tells q (record mid.0 { faults = q.at.faults }) mid.2).settled in
      passes_then (λ a image. Within m image) (λ a b. b ≡ a) p.at.past q.at.past new.at.past (crash_settling q doubted m told s) ((reads.quiet settled).1 told).1 (λ a b image was within left same. subst (λ (x : Files). Within m x) (sym same) within)

-- WHAT THE SETTLING OF A DOUBT LEAVES

-- so it is by a call that fails only where the other does
settling_as : {A B E : Type 0} (tells : Bool) (p q : Parts) (by : End A E) (end : End B E) → (IsFailed end → IsFailed by) → Settling tells p q by → Settling tells p q end
settling_as {A} {B} {E} tells p q by end failed s =
    let own = s.settles in
    record {
      granularity = s.granularity;
      settles = record { files = own.files; frame = own.frame; any_moment = own.any_moment; quiet = own.quiet; faults = own.faults; cause = λ is. own.cause (failed is) };
      fronts = s.fronts;
      pins = s.pins;
      slots = s.slots;
    }

-- a call that answers something else where the other is done
pub settling_done : {A B : Type 0} (tells : Bool) (p q : Parts) (r : Result A DiskErr) (b : B) → Settling tells p q (end_of_disk r) → Settling tells p q (end_of_disk (Ok b))
settling_done {A} {B} tells p q r b s = settling_as tells p q (end_of_disk r) (Done b) (λ is. absurd is) s

-- and passes its error on
pub settling_failed : {A B : Type 0} (tells : Bool) (p q : Parts) (r : Result A DiskErr) (s : Result B DiskErr) (e : DiskErr) → r ≡ Err e → s ≡ Err e → Settling tells p q (end_of_disk r) → Settling tells p q (end_of_disk s)
settling_failed {A} {B} tells p q r s e was is settling =
    subst (λ (x : Result B DiskErr). Settling tells p q (end_of_disk x)) (sym is) (by_error e (subst (λ (x : Result A DiskErr). Settling tells p q (end_of_disk x)) was settling))
  where
    by_error : (d : DiskErr) → Settling tells p q (end_of_disk {A = A} (Err d)) → Settling tells p q (end_of_disk {A = B} (Err d))
    by_error Fault left = settling_as tells p q Failed Failed (λ is. is) left
    by_error Memory left = settling_as tells p q Spent Spent (λ is. absurd is) left

-- AN ACT

-- What refuses such an act where it is asked of one state and is at another, once its doubt is settled: it refuses no more than the act's
-- refusals. The count of faults is nothing to these, to the change that it may make and to what it runs, and none of them tells want of memory.
pub record IsAct (who : ℕ) (act : Act) (run : Machine → Reply → Machine → Type 0) : Type 0 where
  pub refuse : Machine → Machine → Option Reply
  pub passes : (old m : Machine) → refuse_by act m ≡ None → refuse old m ≡ None
  pub counts : (old m : Machine) (f : ℕ) → refuse old (record m { faults = f }) ≡ refuse old m
  pub refuses : (m : Machine) (f : ℕ) → refuse_by act (record m { faults = f }) ≡ refuse_by act m
  pub changes : (m : Machine) (f : ℕ) → change_by act (record m { faults = f }) ≡ change_by act m
  pub goes : (m : Machine) (f : ℕ) (given : Reply) (new : Machine) → run (record m { faults = f }) given new → run m given new
  pub never : (old m : Machine) → refuse old m ≡ Some answer.Memory → ⊥
  pub tells_more : (m : Machine) (given : Reply) (new : Machine) → run m given new → given ≡ answer.Memory → ⊥
  pub steps : (m : Machine) (given : Reply) (new : Machine) → Acts (refuse m) run (change_by act) all_go m given new → Step who act m given new
  pub wants : (m n : Machine) → NoneRefuses (refuse_by act) m n → Wants who act m n

-- how it went
pub record Went (tells : Bool) (who : ℕ) (act : Act) (p : Parts) (given : Reply) (q : Parts) : Type 0 where
  pub step : Steps tells (WithWants (Wants who act) (Step who act)) p given q
  pub crash : LeavesByAct tells (refuse_by act) (change_by act) p q
  pub fronts : LeavesFronts tells (files_of p) (files_of q)
  pub tidy : ActsTidily tells p given q

-- of an act of which no more is said
pub acted : (tells : Bool) (who : ℕ) (act : Act) (p : Parts) (given : Reply) (q : Parts) → Went tells who act p given q → LeavesFiles tells act p q → LeavesPins tells p act given q → LeavesMove tells p act given q → Acted tells who act p given q
acted tells who act p given q went files pins moves = record { step = went.step; crash = went.crash; files = files; pins = pins; moves = moves; tidy = went.tidy }

module _ (tells : Bool) (who : ℕ) (act : Act) (run : Machine → Reply → Machine → Type 0) (is : IsAct who act run) (p : Parts) where
  -- no refusal applies to what the archive stands for
  abbrev pub Passed : Parts → Type 0
  Passed q = (m : Machine) → Stands tells q m → refuse_by act m ≡ None

  abbrev Ran : Machine → Reply → Parts → Type 0
  Ran m given q = (n : Machine) × WithWants (NoneRefuses (refuse_by act)) (Acts (is.refuse m) run (change_by act) all_go) m given n × Stands tells q n

  steps_so : (q : Parts) (given : Reply) → ((m : Machine) → Stands tells p m → Ran m given q) → Steps tells (WithWants (Wants who act) (Step who act)) p given q
  steps_so q given ran = λ m s. (let one = ran m s in (one.0, (is.steps m given one.0 one.1.0, λ told. is.wants m one.0 (one.1.1 told)), one.2))

  pub refused_first : (given : Reply) → ((m : Machine) → Stands tells p m → is.refuse m m ≡ Some given) → Went tells who act p given p
  refused_first given why = record {
    step = steps_so p given (λ m s. (m, (refused_at_once given (why m s), λ told. absurd (is.never m m (why m s ∙ ap (λ (r : Reply). Some r) told))), s));
    crash = crash_none tells (refuse_by act) (change_by act) is.refuses is.changes p;
    fronts = nothing_fronts tells (files_of p);
    tidy = λ settled well. tidy_none tells p p refl refl settled;
  }

  module _ (q : Parts) (done : Result (Unit {0}) DiskErr) (settling : Settling tells p q (end_of_disk done)) (same : IsSettled p.at → files_of q ≡ files_of p) (pass : Passed p) where
    more : p.at.faults ≤ q.at.faults
    more = settling.settles.faults

    -- nothing refused it at first
    began : (m : Machine) → Stands tells p m → is.refuse m m ≡ None
    began m s = is.passes m m (pass m s)

    -- the doubt couldn't be settled
    pub cut : (e : DiskErr) → done ≡ Err e → StandsStill tells p q → Went tells who act p (disk_reply e) q
    cut e failed still = record {
      step = steps_so q (disk_reply e) (λ m s. by_error e (λ fault. settling.settles.cause (subst (λ (x : Result (Unit {0}) DiskErr). IsFailed (end_of_disk x)) (sym (failed ∙ ap (λ (d : DiskErr). Err d) fault)) tt)) m s);
      crash = crash_settling tells (refuse_by act) (change_by act) is.refuses is.changes p q settling.settles.any_moment;
      fronts = settling.fronts;
      tidy = λ settled well. absurd (disk_not_well e well);
    }
      where
        by_error : (d : DiskErr) → (d ≡ Fault → Rose p.at.faults q.at.faults) → (m : Machine) → Stands tells p m → Ran m (disk_reply d) q
        by_error Fault rose m s =
            let rises : Rose m.faults q.at.faults = rw s.faults (rose refl) in
            (record m { faults = q.at.faults }, (faults_first (began m s) refl rises, λ told. absurd (cc (told))), still m s)
        by_error Memory rose m s =
            let was : m.faults ≡ p.at.faults = s.faults in
            (record m { faults = q.at.faults }, (wants_memory refl (omega (arith, was, more)), λ told. before_settling (pass m s) refl), still m s)

    module _ (settles : SettlesTo tells p q) where
      -- what is left of strays by what follows
      tidy_on : (given : Reply) (new : Parts) → ActsTidily tells q given new → ActsTidily tells p given new
      tidy_on given new tidy settled well = tidy_then tells p q new (same settled) settling.slots (tidy (subst (λ (all : SeenAll). IsSettled all.stores) (sym (same settled)) settled) well)

      pub refused_then : (given : Reply) → ((old : Machine) → Stands tells p old → (m : Machine) → Stands tells q m → is.refuse old m ≡ Some given) → Went tells who act p given q
      refused_then given why = record {
        step = steps_so q given (λ m s.
            let mid = settles m s in
            let was : m.faults ≡ p.at.faults = s.faults in
            let one : is.refuse m mid.0 ≡ Some given = sym (is.counts m mid.0 q.at.faults) ∙ why m s (record mid.0 { faults = q.at.faults }) mid.2.stands in
            (record mid.0 { faults = q.at.faults }, (refused given (began m s) mid.1 one refl (omega (arith, was, more)), λ told. absurd (is.never m mid.0 (one ∙ ap (λ (r : Reply). Some r) told))), mid.2.stands));
        crash = crash_settling tells (refuse_by act) (change_by act) is.refuses is.changes p q settling.settles.any_moment;
        fronts = settling.fronts;
        tidy = tidy_on given q (λ settled well. tidy_none tells q q refl refl settled);
      }

      module _ (passed : Passed q) where
        free : (m : Machine) (s : Stands tells p m) → refuse_by act (settles m s).0 ≡ None
        free m s = let mid = settles m s in sym (is.refuses mid.0 q.at.faults) ∙ passed (record mid.0 { faults = q.at.faults }) mid.2.stands

        free_there : (m : Machine) (s : Stands tells p m) → is.refuse m (settles m s).0 ≡ None
        free_there m s = is.passes m (settles m s).0 (free m s)

        -- there was no memory for what follows
        pub spent_then : Went tells who act p answer.Memory q
        spent_then = record {
          step = steps_so q answer.Memory (λ m s.
              let mid = settles m s in
              let was : m.faults ≡ p.at.faults = s.faults in
              (record mid.0 { faults = q.at.faults }, (wants_memory_settled (began m s) mid.1 refl (omega (arith, was, more)), λ told. behind_settling (pass m s) mid.1 (free m s) refl), mid.2.stands));
          crash = crash_settling tells (refuse_by act) (change_by act) is.refuses is.changes p q settling.settles.any_moment;
          fronts = settling.fronts;
          tidy = λ settled well. absurd well;
        }

        -- the stores were asked: they answer, the disk failed, or memory was wanting
        pub asked_then : (new : Parts) (given : Reply) → q.at.faults ≤ new.at.faults → ((m : Machine) → Rests tells q m → AskEnds tells run q m new given) → ReadsAlone tells q new → ActsTidily tells q given new → Went tells who act p given new
        asked_then new given later ends reads tidy = record {
          step = steps_so new given (λ m s. let mid = settles m s in by_end m s given (ends (record mid.0 { faults = q.at.faults }) mid.2));
          crash = crash_asking tells (refuse_by act) (change_by act) is.refuses is.changes p q new settling.settles.any_moment settles reads;
          fronts = fronts_on tells (files_of p) (files_of q) (files_of new) settling.fronts reads.fronts;
          tidy = tidy_on given new tidy;
        }
          where
            by_end : (m : Machine) (s : Stands tells p m) (told : Reply) → AskEnds tells run q (record (settles m s).0 { faults = q.at.faults }) new told → Ran m told new
            by_end m s _ (is_spent stands) =
                let was : m.faults ≡ p.at.faults = s.faults in
                let mid = settles m s in
                (record mid.0 { faults = new.at.faults }, (wants_memory_settled (began m s) mid.1 refl (omega (arith, was, more, later)), λ told. behind_settling (pass m s) mid.1 (free m s) refl), stands)
            by_end m s _ (is_failed stands rose) =
                let rises : Rose m.faults new.at.faults = rw s.faults (rose_after p.at.faults q.at.faults new.at.faults more rose) in
                let mid = settles m s in
                (record mid.0 { faults = new.at.faults }, (faults_between (began m s) mid.1 refl rises, λ told. absurd (cc (told))), stands)
            by_end m s told (is_answered n ran stands) =
                let was : m.faults ≡ p.at.faults = s.faults in
                let now : n.faults ≡ new.at.faults = stands.faults in
                let mid = settles m s in
                let goes_on = is.goes mid.0 q.at.faults told n ran in
                (n, (runs_act told (began m s) mid.1 (free_there m s) goes_on (omega (arith, was, more, later, now)), λ spent. absurd (is.tells_more mid.0 told n goes_on spent)), stands)

        module _ (new : Parts) (c : Change) (own : (m : Machine) → Stands tells q m → change_by act m ≡ Some c) where
          -- the change was made
          pub done_then : {A : Type 0} (a : A) (given : Reply) → Changed tells c q new (Ok a) → ((m : Machine) → Rests tells q m → run m given (record (made [] c m) { faults = new.at.faults })) → Went tells who act p given new
          done_then {A} a given changed ran = record {
            step = steps_so new given (λ m s.
                let mid = settles m s in
                let n : Machine = record mid.0 { faults = q.at.faults } in
                let end = changed.changes n mid.2 in
                let was : m.faults ≡ p.at.faults = s.faults in
                let later = end.faults in
                let then : Machine = record (made [] c n) { faults = new.at.faults } in
                let goes_on = is.goes mid.0 q.at.faults given then (ran n mid.2) in
                (then, (runs_act given (began m s) mid.1 (free_there m s) goes_on (omega (arith, was, more, later)), λ told. absurd (is.tells_more mid.0 given then goes_on told)), end.ends));
            crash = crash_changing tells (refuse_by act) (change_by act) is.refuses is.changes p q new c (Ok a) settling.settles.any_moment settling.granularity settles passed own changed.changes;
            fronts = fronts_on tells (files_of p) (files_of q) (files_of new) settling.fronts changed.fronts;
            tidy = tidy_on given new (λ settled well. changed.tidy);
          }

          -- it stands in doubt, or memory was wanting for it
          pub failed_then : {A : Type 0} (e : DiskErr) → Changed {A = A} tells c q new (Err e) → Went tells who act p (disk_reply e) new
          failed_then {A} e changed = record {
            step = steps_so new (disk_reply e) (λ m s. let mid = settles m s in by_error e m s (changed.changes (record mid.0 { faults = q.at.faults }) mid.2));
            crash = crash_changing tells (refuse_by act) (change_by act) is.refuses is.changes p q new c (Err e) settling.settles.any_moment settling.granularity settles passed own changed.changes;
            fronts = fronts_on tells (files_of p) (files_of q) (files_of new) settling.fronts changed.fronts;
            tidy = λ settled well. absurd (disk_not_well e well);
          }
            where
              by_error : (d : DiskErr) (m : Machine) (s : Stands tells p m) → ChangesTo {A = A} tells c q (record (settles m s).0 { faults = q.at.faults }) new (Err d) → Ran m (disk_reply d) new
              by_error Fault m s end =
                  let mid = settles m s in
                  let n : Machine = record mid.0 { faults = q.at.faults } in
                  let rises : Rose m.faults new.at.faults = rw s.faults (rose_after p.at.faults q.at.faults new.at.faults more (end.cause refl)) in
                  (record n { doubt = Some c; faults = new.at.faults }, (faults_within c (began m s) mid.1 (free_there m s) (sym (is.changes mid.0 q.at.faults) ∙ own n mid.2.stands) refl rises, λ told. absurd (cc (told))), end.ends)
              by_error Memory m s end =
                  let mid = settles m s in
                  let was : m.faults ≡ p.at.faults = s.faults in
                  let later = end.faults in
                  (record (settles m s).0 { faults = new.at.faults }, (wants_memory_settled (began m s) mid.1 refl (omega (arith, was, more, later)), λ told. behind_settling (pass m s) mid.1 (free m s) refl), end.ends)

-- AN ACT, BY WHAT WAS ASKED

-- the act that was asked
pub acted_as : (tells : Bool) (who : ℕ) (act asked : Act) (p : Parts) (answer : Reply) (q : Parts) → act ≡ asked → Acted tells who asked p answer q → Acted tells who act p answer q
acted_as tells who act asked p answer q same acted = subst (λ (a : Act). Acted tells who a p answer q) (sym same) acted

-- what it is answered
pub answered_as : (tells : Bool) (who : ℕ) (act : Act) (p : Parts) (answer told : Reply) (q : Parts) → answer ≡ told → Acted tells who act p told q → Acted tells who act p answer q
answered_as tells who act p answer told q same acted = subst (λ (r : Reply). Acted tells who act p r q) (sym same) acted

-- it is a step
pub step_of : (tells : Bool) (who : ℕ) (act : Act) (p : Parts) (answer : Reply) (q : Parts) → Acted tells who act p answer q → Steps tells (Step who act) p answer q
step_of tells who act p answer q acted = step_alone tells (Wants who act) (Step who act) p q answer acted.step

-- what it leaves
pub leaves_of : (tells : Bool) (who : ℕ) (act : Act) (p : Parts) (answer : Reply) (q : Parts) → Acted tells who act p answer q → Leaves tells p (record { who = who; act = act; answer = answer }) q
leaves_of tells who act p answer q acted = record { crash = acted.crash; files = acted.files; pins = acted.pins; moves = acted.moves; memory = want_alone tells (Wants who act) (Step who act) p q answer acted.step }

-- an act that calls no disk
pub acted_alone : (tells : Bool) (who : ℕ) (act : Act) (p : Parts) (answer : Reply) (q : Parts) → ((m : Machine) (f : ℕ) → refuse_by act (record m { faults = f }) ≡ refuse_by act m) → ((m : Machine) (f : ℕ) → change_by act (record m { faults = f }) ≡ change_by act m) → files_of q ≡ files_of p → q.slots ≡ p.slots
    → Steps tells (WithWants (Wants who act) (Step who act)) p answer q → LeavesFiles tells act p q → LeavesPins tells p act answer q → LeavesMove tells p act answer q → Acted tells who act p answer q
acted_alone tells who act p answer q refuses changes same slots step files pins moves = record {
  step = step;
  crash = λ m told s. subst (λ (all : SeenAll). Passes (λ x image. LeavesWithin (refuse_by act) (change_by act) (granularities p.at.manifests) m image) p.at.past all.stores.past) (sym same) (crash_none tells (refuse_by act) (change_by act) refuses changes p m told s);
  files = files;
  pins = pins;
  moves = moves;
  tidy = λ settled well. tidy_none tells p q same slots settled;
}

-- Acts that are made one after another.

-- what a crash within an act leaves lies between the start of a run to it and the end of a run from it
holds_within : (gs : List Granularity) (start mid end left : Machine) (act : Act) (image : Files) (xs ys : List Entry) → start.told ≡ true → IsSound start → Runs start xs mid → Runs mid ys end
    → LeftWithin (refuse_by act) (change_by act) mid left → LeftIn mid ys left → HoldsMachine gs image left → HoldsBetween gs start (xs ++ ys) end image
holds_within gs start mid end left act image xs ys t s before after is own holds =
    let sound : IsSound mid = runs_sound xs start mid s before in
    let first_on : Onward start mid = runs_onward xs start mid s before in
    let later : Onward mid end = runs_onward ys mid end sound after in
    let told : mid.told ≡ true = first_on.told ∙ t in
    let further : Onward mid left = left_on act mid left sound is in
    record {
      left = left;
      along = record { front = xs; back = ys; split = refl; at = mid; to = before; is = own };
      told = further.told ∙ told;
      holds = holds;
      extends = λ i first here.
          let one = first_on.rows t i first here in
          let two = further.rows told i one.0 one.1 in
          (two.0, two.1, two.2.base ∙ one.2.base, prefix_trans (durable first) (durable one.0) (durable two.0) one.2.durable_on two.2.durable_on);
      extended = λ i row here some. by_row told later i row some (crash_within act mid left told sound is i row here);
      wholes = wholes_between xs ys act start mid end left t s before after is;
    }
  where
    by_row : mid.told ≡ true → Onward mid end → (i : ℕ) (row : RowState) → (durable row ≡ [] → ⊥) → Between mid.rows i row → (last : RowState) × (slice_get end.rows i ≡ Some last) × (last.base ≡ row.base) × IsPrefix (durable row) (accepted last)
    by_row told later i row some (of_no_row none) = absurd (some none)
    by_row told later i row some (of_row_there m there base p q) = let step = later.rows told i m there in (step.0, step.1, step.2.base ∙ sym base, prefix_trans (durable row) (accepted m) (accepted step.0) q step.2.accepted_on)

-- a crash within an act is one within the same act of a longer run
in_more : (at : Machine) (back : List Entry) (e : Entry) (left : Machine) → LeftIn at back left → LeftIn at (back ++ e ∷ []) left
in_more at [] e left is = before_it is
in_more at (x ∷ back) e left is = is

-- what lies between two states lies before any later one
holds_on : (gs : List Granularity) (start mid end : Machine) (done : List Entry) (e : Entry) (image : Files) → mid.told ≡ true → IsSound mid → Onward mid end → HoldsBetween gs start done mid image → HoldsBetween gs start (done ++ e ∷ []) end image
holds_on gs start mid end done e image told sound later h = record {
  left = h.left;
  along = (let w = h.along in record {
    front = w.front;
    back = w.back ++ e ∷ [];
    split = ap (λ (es : List Entry). es ++ e ∷ []) w.split ∙ append_assoc w.front w.back (e ∷ []);
    at = w.at;
    to = w.to;
    is = in_more w.at w.back e h.left w.is;
  });
  told = h.told;
  holds = h.holds;
  extends = h.extends;
  extended = λ i row here some.
      let one = h.extended i row here some in
      let two = later.rows told i one.0 one.1 in
      (two.0, two.1, two.2.base ∙ one.2, prefix_trans (durable row) (accepted one.0) (accepted two.0) one.3 two.2.accepted_on);
  wholes = wholes_on start h.left mid end told sound later h.wholes;
}

-- no act was made
pub runs_none : (tells : Bool) (p : Parts) (m : Machine) → Stands tells p m → RunsOn tells p m [] p
runs_none tells p m s = record {
  after = m;
  runs = refl;
  stands = s;
  any_moment = λ told t. passes_none (λ a image. HoldsBetween (granularities p.at.manifests) m [] m image) p.at.past (λ image left.
      let is = crash_leaves tells p m image told s left in
      holds_within (granularities p.at.manifests) m m m is.0 Doors image [] [] t s.sound refl refl (before_it is.1) is.1 is.2);
}

-- one act more
pub runs_more : (tells : Bool) (p q r : Parts) (m : Machine) (done : List Entry) (e : Entry) → Stands tells p m → RunsOn tells p m done q → MayAsk e.act
    → ((n : Machine) → Stands tells q n → (n' : Machine) × Step e.who e.act n e.answer n' × Stands tells r n') → LeavesByAct tells (refuse_by e.act) (change_by e.act) q r → RunsOn tells p m (done ++ e ∷ []) r
runs_more tells p q r m done e s ran may step crash =
    let one = step ran.after ran.stands in
    let last : Runs ran.after (e ∷ []) one.0 = (may, one.0, one.1, refl) in
    let sound : IsSound ran.after = ran.stands.sound in
    let on : Onward ran.after one.0 = runs_onward (e ∷ []) ran.after one.0 sound last in
    let same : granularities q.at.manifests ≡ granularities p.at.manifests = sym ran.stands.rule.granularity ∙ (ap (λ rule. rule.granularity) (runs_onward done m ran.after s.sound ran.runs).rule ∙ s.rule.granularity) in
    record {
      after = one.0;
      runs = runs_append done (e ∷ []) m ran.after one.0 ran.runs last;
      stands = one.2;
      any_moment = λ told t.
          let known : ran.after.told ≡ true = (runs_onward done m ran.after s.sound ran.runs).told ∙ t in
          let gs = granularities p.at.manifests in
          passes_then (λ a image. HoldsBetween gs m (done ++ e ∷ []) one.0 image) (λ a image. LeavesWithin (refuse_by e.act) (change_by e.act) (granularities q.at.manifests) ran.after image) p.at.past q.at.past r.at.past
          (passes_weaker (λ a image. HoldsBetween gs m done ran.after image) (λ a image. HoldsBetween gs m (done ++ e ∷ []) one.0 image) p.at.past q.at.past (ran.any_moment told t) (λ a c left h. holds_on gs m ran.after one.0 done e c known sound on h))
          (crash ran.after told ran.stands)
          (λ a b c left h left' l. holds_within gs m ran.after one.0 l.0 e.act c done (e ∷ []) t s.sound ran.runs last l.1 l.1 (subst (λ (x : List Granularity). HoldsMachine x c l.0) same l.2));
    }

pub makes_none : (tells : Bool) (p : Parts) → MakesAll tells p [] [] p
makes_none tells p = record { entries = []; acts_are = refl; answers_are = refl; run = λ m s. runs_none tells p m s }

pub makes_more : (tells : Bool) (p q r : Parts) (done : List (ℕ × Act)) (told : List Reply) (who : ℕ) (act : Act) (answer : Reply) → MakesAll tells p done told q → MayAsk act
    → ((n : Machine) → Stands tells q n → (n' : Machine) × Step who act n answer n' × Stands tells r n') → LeavesByAct tells (refuse_by act) (change_by act) q r → MakesAll tells p (done ++ (who, act) ∷ []) (told ++ answer ∷ []) r
makes_more tells p q r done told who act answer made may step crash =
    let e : Entry = record { who = who; act = act; answer = answer } in
    record {
      entries = made.entries ++ e ∷ [];
      acts_are = map-append asked made.entries (e ∷ []) ∙ ap (λ (xs : List (ℕ × Act)). xs ++ (who, act) ∷ []) made.acts_are;
      answers_are = map-append (λ (x : Entry). x.answer) made.entries (e ∷ []) ∙ ap (λ (xs : List Reply). xs ++ answer ∷ []) made.answers_are;
      run = λ m s. runs_more tells p q r m made.entries e s (made.run m s) may step crash;
    }

-- what holds of each of a list holds of the one at a place
pub all_at : {A : Type 0} (P : A → Type 0) (xs : List A) (k : ℕ) (d : A) → AllByRecursion P xs → k < length xs → P (get_or xs k d)
all_at P [] k d all low = absurd (omega (arith, low))
all_at P (x ∷ xs) zero d all low = all.0
all_at P (x ∷ xs) (suc k) d all low = all_at P xs k d all.1 (omega (arith, low))

-- A chain of values that lead from one to the next by acts, where some acts were made before it.
module _ {A : Type 0} (tells : Bool) (see : A → Parts) where
  abbrev StandsFor : A → Machine → Type 0
  StandsFor a m = Stands tells (see a) m

  abbrev Left : A → Entry → A → Type 0
  Left a e b = Leaves tells (see a) e (see b)

  runs_behind : (p : Parts) (m : Machine) (done rest : List Entry) (a b : A) → Stands tells p m → RunsOn tells p m done (see a) → Chain StandsFor Left a rest b → RunsOn tells p m (done ++ rest) (see b)
  runs_behind p m done [] a b s ran chain = subst (λ (es : List Entry). RunsOn tells p m es (see b)) (sym (append-nil done)) (subst (λ (x : A). RunsOn tells p m done (see x)) (sym chain) ran)
  runs_behind p m done (e ∷ rest) a b s ran chain =
      let one = runs_more tells p (see a) (see chain.0) m done e s ran chain.1.0 chain.1.1 chain.2.crash in
      subst (λ (es : List Entry). RunsOn tells p m es (see b)) (append_assoc done (e ∷ []) rest) (runs_behind p m (done ++ e ∷ []) rest chain.0 b s one chain.3)

  -- the same of one chain from its start
  pub chain_runs_on : (entries : List Entry) (a b : A) (m : Machine) → Stands tells (see a) m → Chain StandsFor Left a entries b → RunsOn tells (see a) m entries (see b)
  chain_runs_on entries a b m s chain = runs_behind (see a) m [] entries a b s (runs_none tells (see a) m s) chain

-- The acts of a room that many share, where some acts were made before them.
module _ {X R : Type 0} (tells : Bool) (see : X → Parts) (reads : Bool) (bytes : R → List ℕ) (faults : R → ℕ) where
  abbrev RoomSteps : Shared X R → ℕ → ℕ → Act → Answer R → Shared X R → Type 0
  RoomSteps = SharedStep (StandsFor tells see) (Left tells see) reads bytes faults

  abbrev Kept : List (RoomEntry (Shared X R) Act (Answer R)) → List Entry
  Kept acts = all_kept (reply_of reads bytes faults) acts

  runs_in_room : (p : Parts) (m : Machine) (done : List Entry) (n : ℕ) (acts : List (RoomEntry (Shared X R) Act (Answer R))) (s : Shared X R) → Stands tells p m → RunsOn tells p m done (see s.archive) → LegalFrom RoomSteps n s acts
      → RunsOn tells p m (done ++ Kept acts) (see (end_of s acts).archive)
  runs_in_room p m done n [] s stands ran legal = subst (λ (es : List Entry). RunsOn tells p m es (see s.archive)) (sym (append-nil done)) ran
  runs_in_room p m done n (e ∷ rest) s stands ran legal =
      let first = kept (reply_of reads bytes faults) e.who e.act e.answer in
      let one = runs_more tells p (see s.archive) (see e.after.archive) m done first stands ran legal.0.0.0 legal.0.0.1 legal.0.1.crash in
      subst (λ (es : List Entry). RunsOn tells p m es (see (end_of e.after rest).archive)) (append_assoc done (first ∷ []) (Kept rest)) (runs_in_room p m (done ++ first ∷ []) (n + 1) rest e.after stands one legal.1)

  -- a legal history from its start
  pub room_runs_on : (acts : List (RoomEntry (Shared X R) Act (Answer R))) (s : Shared X R) (m : Machine) → Stands tells (see s.archive) m → Legal RoomSteps s acts → RunsOn tells (see s.archive) m (Kept acts) (see (end_of s acts).archive)
  room_runs_on acts s m stands legal = runs_in_room (see s.archive) m [] 0 acts s stands (runs_none tells (see s.archive) m stands) legal
