-- The act that sweeps: how it ends, and what a crash within it leaves.
use Rattle.std.proofs.Common.{◌≡◌, ◌⊎◌, inl, inr, ℕ, ◌≤◌, List, [], ◌∷◌, length, Bool, true, false, Some, None, Result, Ok, Err, refl, sym, ◌∙◌, ap, subst, arith}
use Rattle.std.specs.FinMap.{FinMap}
use Rattle.std.specs.Ordering.{nat_cmp}
use Rattle.std.specs.Prelude.{◌↔◌, Contains, IfOk, IsErr, IsTrue, OnErr, filter, not, slice_get}
use Rattle.disk_model.specs.Files.{Name, Rose}
use Rattle.disk_model.specs.Past.{Passes}
use Rattle.disk_model.specs.declared.disk.DiskErr.{DiskErr}
use Rattle.disk_model.specs.declared.disk.DiskErr.TheVariants.{Fault, Memory}
use Rattle.disk_model.proofs.Passing.{passes_then, passes_weaker}
use Rattle.partition_names.specs.declared.granularity.Granularity.{Granularity}
use Rattle.pins.specs.Pieces.{PinOf}
use Rattle.pv_catalog.specs.Catalogue.{CatalogueState}
use Rattle.pv_catalog.specs.Rows.{KeepsRows}
use Rattle.durable_write.specs.Ends.{end_of_disk}
use Rattle.durable_write.proofs.Staying.{rose_after}
use Rattle.tier_store.specs.Change.{EndsFrom, Has, Changes, HoldsBy}
use Rattle.tier_store.specs.Limbo.{IsListedName, IsNeeded, IsSwept as IsSweptOf, LimboStands, staying, LeavesKept, IsKeptName, IsPinnedFile}
use Rattle.tier_store.specs.Moving.{LeavesLater, LeavesNames}
use Rattle.tier_store.specs.Pinned.{SeenAll, beside, KeepsShown, LeavesFronts}
use Rattle.tier_store.specs.Revival.{KeepsWhole}
use Rattle.tier_store.specs.Seen.{granularities}
use Rattle.tier_store.specs.Stored.{HoldsAll}
use Rattle.tier_store.specs.Stores.{Stores}
use Rattle.tier_store.specs.declared.limbo.Retired.{Retired}
use Rattle.tier_store.specs.declared.removing.StoreSwept.{StoreSwept}
use Rattle.act_model.specs.Changes.{Settles, no_doubt}
use Rattle.act_model.specs.Crash.{settled_there}
use Rattle.act_model.specs.Limbo.{RowFile}
use Rattle.act_model.specs.Machine.{Machine}
use Rattle.act_model.specs.OpenPiece.{name_of}
use Rattle.act_model.specs.Outcome.{runs, faults_between, faults_removing, wants_memory_settled}
use Rattle.act_model.specs.Reply.{Reply}
use Rattle.act_model.specs.Rows.{RowState}
use Rattle.act_model.specs.Sweep.{IsPinned, IsCopiedInto, IsSwept, Sweeps, SweepStep}
use Rattle.act_model.specs.declared.acts.Answer.TheVariants as answer
use Rattle.act_model.proofs.MoveActs.{sweep_sound}
use Rattle.archive_core.specs.Ends.{Steps, SettlesTo, HoldsMachine, LeavesByAct, LeavesWithin}
use Rattle.archive_core.specs.LimboTies.{AreRetired, AreUnlisted, IsLimboOf, NamesDiffer}
use Rattle.archive_core.specs.Memory.{AreRowsOf}
use Rattle.archive_core.specs.MoveTies.{AreMovesOf}
use Rattle.archive_core.specs.Parts.{Parts}
use Rattle.archive_core.specs.Pins.{ArePinsOf}
use Rattle.archive_core.specs.Stands.{Stands, Rests, IsDoubtOf, IsReady}
use Rattle.archive_core.specs.Sweeping.{removal_reply, sweep_reply}
use Rattle.archive_core.specs.Written.{AreWritten}
use Rattle.archive_core.proofs.Acting.{HoldsDoubted, crash_settling, IsAct, Went, acted}
use Rattle.archive_core.proofs.Lists.{rows_go_on, same_grow, stays_listed}
use Rattle.archive_core.proofs.LimboSwept.{just, left_is, stay_differ, stays, swept_count, swept_ties, pinned_stay}
use Rattle.archive_core.proofs.LimboTying.{KeepsFiles, ListsSame, names_stay}
use Rattle.archive_core.proofs.Batches.{told_stands}
use Rattle.archive_core.proofs.MovesKept.{goes_still, moves_stay, moves_left, same_later}
use Rattle.archive_core.proofs.MoveTable.{copied_named, names_left, swept_put}
use Rattle.archive_core.proofs.Opens.{undoubted}
use Rattle.archive_core.proofs.Settled.{rests_has, doubt_beside, KeepsLimbo, stands_after, with_same}
use Rattle.archive_core.proofs.Windows.{count_of}
use Rattle.archive_core.specs.Growing.{HasRunning}
use Rattle.archive_core.specs.Acting.{Acted, Settling}
use Rattle.tier_store.specs.Strays.{SweepsFiles}
use Rattle.archive_core.specs.Strays.{ActsTidily}
use Rattle.act_model.specs.declared.acts.Act.TheVariants.{Sweep}
use Rattle.tier_store.proofs.Frames.{fronts_shown}
use Rattle.archive_core.specs.Leaving.{KeepsListed, files_of}

-- WHAT THE STORES' SWEEP COMES TO

-- What the stores say of a sweep, with these files copied into. Where it fails, limbo and all that was shown are as before.
pub record StoresSwept (tells : Bool) (copied : List Name) (q new : Parts) (result : Result StoreSwept DiskErr) : Type 0 where
  pub changes : Changes tells staying q.at new.at (end_of_disk result)
  pub sweeps : IfOk result (SweepsFiles tells q.pinned copied (beside q.at q.limbo) (beside new.at new.limbo))
  pub failed : OnErr result ((new.limbo ≡ q.limbo) × KeepsShown tells (beside q.at q.limbo) (beside new.at q.limbo) × LeavesLater tells (beside q.at q.limbo) (beside new.at q.limbo))
  pub leaves : LeavesKept tells q.pinned copied (beside q.at q.limbo) (beside new.at new.limbo)
  pub left : LeavesNames copied tells (beside q.at q.limbo) (beside new.at new.limbo)
  pub whole : KeepsWhole tells (beside q.at q.limbo) (beside new.at new.limbo)
  pub stands : LimboStands new.at new.limbo
  pub same : (new.at.catalogue ≡ q.at.catalogue) × (new.at.manifests ≡ q.at.manifests) × (new.pinned ≡ q.pinned)

-- these are just the files that running moves have copied into
abbrev pub AreCopied : List Name → Machine → Type 0
AreCopied copied m = (f : RowFile) (row : RowState) → Contains m.limbo f → slice_get m.rows f.row ≡ Some row → Contains copied (name_of row f) ↔ IsCopiedInto m f

module _ (tells : Bool) (copied : List Name) (q new : Parts) (result : Result StoreSwept DiskErr) (s : StoresSwept tells copied q new result) (same : new ≡ record q { at = new.at; limbo = new.limbo; pinned = new.pinned }) (m : Machine) (r : Rests tells q m) where
  abbrev held : Stores
  held = r.stands.store.before

  has : Has tells q.at held
  has = rests_has tells q m r

  -- the stores have what they had
  has_by : (given : Result StoreSwept DiskErr) → EndsFrom {A = StoreSwept} tells staying new.at held (end_of_disk given) → Has tells new.at held
  has_by (Ok said) (made, is, says, now) = subst (λ (x : Stores). Has tells new.at x) is now
  has_by (Err Fault) (inl now) = now
  has_by (Err Fault) (inr (made, is, doubts)) = absurd (undoubted tells q.at new.at held made has.settled s.same.0 s.same.1 doubts)
  has_by (Err Memory) now = now

  has_still : Has tells new.at held
  has_still = has_by result (s.changes.ends held has)

  stands_now : m.told ≡ true → IsTrue held.stands
  stands_now = told_stands tells m.told held.stands r.stands.store.told

  -- where limbo and all that was shown stay, the archive stands for the same machine
  stands_still : (new.limbo ≡ q.limbo) × KeepsShown tells (beside q.at q.limbo) (beside new.at q.limbo) × LeavesLater tells (beside q.at q.limbo) (beside new.at q.limbo) → Stands tells new (record m { faults = new.at.faults })
  stands_still stay =
      let limbo : KeepsLimbo tells (beside q.at q.limbo) (beside new.at q.limbo) = record { shown = stay.1; whole = subst (λ (l : List Retired). KeepsWhole tells (beside q.at q.limbo) (beside new.at l)) stay.0 s.whole } in
      let moves = moves_left tells (beside q.at q.limbo) (beside new.at q.limbo) m.told m.rows m.rows m.limbo m.limbo held s.changes.costs.granularity stands_now m.moves q.slots (same_later (HasRunning m.moves) m.rows m.limbo) (count_of held m r.stands.store.holds) stay.2 r.stands.store.moves in
      let again = doubt_beside tells q m r.stands new.at q.kept q.doubt m.doubt s.changes.costs.granularity limbo moves r.stands.sound r.stands.rows r.stands.doubt r.stands.ready (inl has_still) in
      subst (λ (p : Parts). Stands tells p (record m { faults = new.at.faults })) (sym same) (with_same (λ (p : Parts). Stands tells p (record m { faults = new.at.faults })) (record q { at = new.at }) new.limbo new.pinned stay.0 s.same.2 again)

  -- at each moment the disk has what is durable
  pub sweep_passes : IsTrue tells → Passes (λ a image. HoldsMachine (granularities q.at.manifests) image m) q.at.past new.at.past
  sweep_passes told = passes_weaker (HoldsBy (granularities q.at.manifests) (staying {A = StoreSwept}).by held) (λ a image. HoldsMachine (granularities q.at.manifests) image m) q.at.past new.at.past (s.changes.any_moment told held has) (λ a image left holds. elim holds [
    | inl one ↦ record { stores = held; holds = one; durable = r.stands.store.holds; stands = stands_now }
    | inr made ↦ record { stores = held; holds = subst (λ (x : Stores). HoldsAll (granularities q.at.manifests) image x) made.1 made.2; durable = r.stands.store.holds; stands = stands_now }
  ])

module _ (tells : Bool) (copied : List Name) (q new : Parts) (said : StoreSwept) (s : StoresSwept tells copied q new (Ok said)) (same : new ≡ record q { at = new.at; limbo = new.limbo; pinned = new.pinned }) (m : Machine) (r : Rests tells q m) (written : AreWritten q.at.catalogue.rows q.slots copied) where
  copied_is : AreCopied copied m
  copied_is = copied_named tells q m r copied written

  abbrev before : Stores
  before = r.stands.store.before

  abbrev files : ℕ
  files = said.files

  abbrev old_all : SeenAll
  old_all = beside q.at q.limbo

  abbrev new_all : SeenAll
  new_all = beside new.at new.limbo

  was : Has tells q.at before
  was = rests_has tells q m r

  now : Has tells new.at before
  now = has_still tells copied q new (Ok said) s same m r

  swept : IsSweptOf new.at q.pinned copied q.limbo new.limbo files
  swept = s.sweeps.counted

  variables : KeepsRows q.at.catalogue.rows new.at.catalogue.rows
  variables = rows_go_on q.at new.at before before was.known now.known (same_grow m.moves before)

  lists : ListsSame q.at new.at q.limbo
  lists = λ file there. (λ listed. stays_listed new.at q.at before before file.name now.known was.known (same_grow m.moves before) listed, λ listed. stays_listed q.at new.at before before file.name was.known now.known (same_grow m.moves before) listed)

  -- no two files left in limbo have one name
  left_apart : NamesDiffer (λ (file : Retired). file.name) new.limbo
  left_apart =
      stay_differ (λ r. IsNeeded q.pinned copied r.name) (λ r. IsNeeded q.pinned copied r.name → ⊥) swept.retired new.limbo swept.needed
      (stay_differ (λ r. IsListedName new.at r.name → ⊥) (λ r. IsListedName new.at r.name) q.limbo swept.retired swept.unlisted r.stands.limbo.differ)

  -- what is pinned is kept
  pins_kept : ArePinsOf tells new_all m.told m.rows m.pins q.pinned
  pins_kept = pinned_stay tells old_all new_all m.told m.rows m.pins q.pinned (λ name bytes pinned. s.leaves.shown name bytes (inr (inl pinned))) r.stands.pins

  -- the files that stay in the machine's limbo, and limbo then
  pub record Left : Type 0 where
    pub stays : RowFile → Bool
    pub just : IsSwept m stays m.limbo
    pub number : m.told ≡ true → files ≡ length (filter (λ (f : RowFile). not (stays f)) m.limbo)
    pub tie : IsLimboOf tells new_all m.told m.rows (filter stays m.limbo)

  told_left : m.told ≡ true → Left
  told_left on = record {
    stays = stays tells old_all new_all m r.stands.sound on ties free r.stands.limbo.differ q.pinned r.stands.pins lists copied copied_is files swept;
    just = just tells old_all new_all m r.stands.sound on ties free r.stands.limbo.differ q.pinned r.stands.pins lists copied copied_is files swept;
    number = λ told. swept_count tells old_all new_all m r.stands.sound on ties free r.stands.limbo.differ q.pinned r.stands.pins lists copied copied_is files swept;
    tie = record {
      stands = s.stands;
      differ = left_apart;
      retired = λ told. both.0;
      unlisted = λ told. both.1;
      none = λ off. absurd (let both : true ≡ false = sym on ∙ off in cc (both));
      bare = r.stands.limbo.bare;
    };
  }
    where
      ties : AreRetired tells old_all m.rows m.limbo
      ties = r.stands.limbo.retired on

      free : AreUnlisted old_all m.rows m.limbo
      free = r.stands.limbo.unlisted on

      -- a file that is left is needed, and so it is shown
      keeps : KeepsFiles tells old_all new_all m.rows m.rows
      keeps = record {
        shown = λ file bytes there. s.leaves.shown file.name bytes (inr (left_is tells old_all new_all m r.stands.sound on ties free r.stands.limbo.differ q.pinned r.stands.pins lists copied copied_is files swept file there).1);
        variables = variables;
        names = names_stay m.rows;
        granularity = s.changes.costs.granularity;
      }

      both : AreRetired tells new_all m.rows (filter (stays tells old_all new_all m r.stands.sound on ties free r.stands.limbo.differ q.pinned r.stands.pins lists copied copied_is files swept) m.limbo) × AreUnlisted new_all m.rows (filter (stays tells old_all new_all m r.stands.sound on ties free r.stands.limbo.differ q.pinned r.stands.pins lists copied copied_is files swept) m.limbo)
      both = swept_ties tells old_all new_all m r.stands.sound on ties free r.stands.limbo.differ q.pinned r.stands.pins lists copied copied_is files swept keeps

  -- of an untold machine no file is there
  untold_left : m.told ≡ false → Left
  untold_left off = record {
    stays = λ f. true;
    just = subst (λ (l : List RowFile). IsSwept m (λ f. true) l) (sym none) tt;
    number = λ told. absurd (let both : true ≡ false = sym told ∙ off in cc (both));
    tie = record {
      stands = s.stands;
      differ = left_apart;
      retired = λ told. absurd (let both : true ≡ false = sym told ∙ off in cc (both));
      unlisted = λ told. absurd (let both : true ≡ false = sym told ∙ off in cc (both));
      none = λ off. ap (λ (l : List RowFile). filter (λ f. true) l) none;
      bare = r.stands.limbo.bare;
    };
  }
    where
      none : m.limbo ≡ []
      none = r.stands.limbo.none off

  pub left : Left
  left = by_told m.told refl
    where
      by_told : (b : Bool) → m.told ≡ b → Left
      by_told true on = told_left on
      by_told false off = untold_left off

  -- the machine without the files that go
  abbrev pub swept_machine : Machine
  swept_machine = record m { limbo = filter left.stays m.limbo; faults = new.at.faults }

  pub sweeps : Sweeps m (answer.Swept files) swept_machine
  sweeps = record { stays = left.stays; just = left.just; files = files; number = left.number; answered = refl; same = refl }

  -- what running moves have written stays
  moves_then : AreMovesOf tells new_all m.told m.rows (filter left.stays m.limbo) before m.moves q.slots
  moves_then =
      let stands_now = told_stands tells m.told before.stands r.stands.store.told in
      moves_stay tells old_all new_all m.told m.rows m.rows m.limbo (filter left.stays m.limbo) before before s.changes.costs.granularity stands_now m.moves q.slots
      (λ n move running here there is. goes_still tells old_all new_all m.told m.rows m.rows m.limbo (filter left.stays m.limbo) before s.changes.costs.granularity stands_now move running is.files
      (λ on copying. swept_put m left.stays n move here left.just) (names_left tells q m r copied written new_all s.left n move running there is))
      r.stands.store.moves

  pub swept_stands : Stands tells new swept_machine
  swept_stands = stands_after tells q m r.stands new swept_machine (record { config = ap (λ (p : Parts). p.config) same; doors = ap (λ (p : Parts). p.doors) same; rule = refl; own_doors = refl; faults = refl; granularity = s.changes.costs.granularity })
      (sweep_sound m swept_machine (answer.Swept files) r.stands.sound (runs (answer.Swept files) refl (no_doubt r.settled) refl sweeps (let same_faults : m.faults ≡ q.at.faults = r.stands.faults in let more = s.changes.costs.faults in omega (arith, same_faults, more))))
      left.tie (subst (λ (pinned : FinMap nat_cmp PinOf). ArePinsOf tells new_all m.told m.rows m.pins pinned) (sym s.same.2) pins_kept)
      (subst (λ (p : Parts). AreRowsOf new.at.catalogue.rows p.kept p.tails m.rows) (sym same) (subst (λ (c : CatalogueState). AreRowsOf c.rows q.kept q.tails m.rows) (sym s.same.0) r.stands.rows))
      (subst (λ (p : Parts). IsDoubtOf p.doubt m.doubt) (sym same) r.stands.doubt) (subst (λ (p : Parts). IsReady p.kept m.rows m.moves m.doubt) (sym same) r.stands.ready)
      (record { before = before; told = r.stands.store.told; disk = r.stands.store.disk; holds = r.stands.store.holds; whole = λ i low. (let limbo_was = r.stands.store.whole i low in s.whole i before.stands limbo_was.0 low limbo_was.1); moves = subst (λ (p : Parts). AreMovesOf tells new_all m.told m.rows (filter left.stays m.limbo) before m.moves p.slots) (sym same) moves_then; is_open = inl now })

-- THE ACT

-- the count of faults is nothing to what is needed
swept_goes : (m : Machine) (k : ℕ) (stays : RowFile → Bool) (limbo : List RowFile) → IsSwept (record m { faults = k }) stays limbo → IsSwept m stays limbo
swept_goes m k stays [] each = tt
swept_goes m k stays (f ∷ limbo) each = ((λ test. forth (each.0.0 test), λ needed. each.0.1 (back needed)), swept_goes m k stays limbo each.1)
  where
    forth : IsPinned (record m { faults = k }) f ⊎ IsCopiedInto (record m { faults = k }) f → IsPinned m f ⊎ IsCopiedInto m f
    forth (inl is) = inl (record { number = is.number; pin = is.pin; here = is.here; names = is.names })
    forth (inr is) = inr (record { number = is.number; move = is.move; here = is.here; place = is.place; some = is.some })

    back : IsPinned m f ⊎ IsCopiedInto m f → IsPinned (record m { faults = k }) f ⊎ IsCopiedInto (record m { faults = k }) f
    back (inl is) = inl (record { number = is.number; pin = is.pin; here = is.here; names = is.names })
    back (inr is) = inr (record { number = is.number; move = is.move; here = is.here; place = is.place; some = is.some })

-- it isn't told as want of memory
sweeps_tell : (m : Machine) (given : Reply) (new : Machine) → Sweeps m given new → given ≡ answer.Memory → ⊥
sweeps_tell m given new is told = let both = sym is.answered ∙ told in cc (both)

pub sweeps_act : (who : ℕ) → IsAct who Sweep Sweeps
sweeps_act who = record {
  refuse = λ old m. None;
  passes = λ old m is. is;
  counts = λ old m f. refl;
  refuses = λ m f. refl;
  changes = λ m f. refl;
  goes = λ m f given new is. record { stays = is.stays; just = swept_goes m f is.stays m.limbo is.just; files = is.files; number = is.number; answered = is.answered; same = is.same };
  never = λ old m none. cc (none);
  tells_more = sweeps_tell;
  steps = λ m given new acts. acts;
  wants = λ m n none. tt;
}

-- whatever was shown is shown still where all is listed still or in limbo
fronts_kept : (tells : Bool) (p q : Parts) → LeavesFronts tells (files_of p) (files_of q) → KeepsListed tells p q
fronts_kept tells p q fronts name bytes kept was = fronts_shown tells (files_of p) (files_of q) fronts name bytes was

-- as the machine's act goes
pub swept_so : (tells : Bool) (who : ℕ) (p q : Parts) (r : Result StoreSwept DiskErr) → Went tells who Sweep p (sweep_reply r) q → Acted tells who Sweep p (sweep_reply r) q
swept_so tells who p q r went = acted tells who Sweep p (sweep_reply r) q went (fronts_kept tells p q went.fronts) tt tt

module _ (tells : Bool) (p q : Parts) (settles : SettlesTo tells p q) (more : p.at.faults ≤ q.at.faults) (new : Parts) (copied : List Name) (same : new ≡ record q { at = new.at; limbo = new.limbo; pinned = new.pinned }) (written : AreWritten q.at.catalogue.rows q.slots copied) where
  sweep_ends : (result : Result StoreSwept DiskErr) → StoresSwept tells copied q new result → Steps tells SweepStep p (sweep_reply result) new
  sweep_ends (Ok said) swept = λ m s.
      let mid = settles m s in
      let n : Machine = record mid.0 { faults = q.at.faults } in
      let own = left tells copied q new said swept same n mid.2 written in
      let after = swept_machine tells copied q new said swept same n mid.2 written in
      let ran : Sweeps mid.0 (answer.Swept said.files) after = record { stays = own.stays; just = swept_goes mid.0 q.at.faults own.stays mid.0.limbo own.just; files = said.files; number = own.number; answered = refl; same = refl } in
      by_removal m s said.removed mid.1 ran (swept_stands tells copied q new said swept same n mid.2 written) swept.changes.costs.faults swept.sweeps.cause
    where
      by_removal : (m : Machine) (s : Stands tells p m) (removed : Result (Unit {0}) DiskErr) {mid after : Machine} → Settles m mid → Sweeps mid (answer.Swept said.files) after → Stands tells new after → q.at.faults ≤ new.at.faults → (IsErr removed → Rose q.at.faults new.at.faults)
          → (next : Machine) × SweepStep m (removal_reply said.files removed) next × Stands tells new next
      by_removal m s (Ok done) {mid} {after} settled ran stands later cause =
          let was : m.faults ≡ p.at.faults = s.faults in
          let now : after.faults ≡ new.at.faults = stands.faults in
          (after, runs (answer.Swept said.files) refl settled refl ran (omega (arith, was, now, more, later)), stands)
      by_removal m s (Err e) {mid} {after} settled ran stands later cause =
          let rises : Rose m.faults new.at.faults = rw s.faults (rose_after p.at.faults q.at.faults new.at.faults more (cause refl)) in
          let now : after.faults ≡ new.at.faults = stands.faults in
          (after, faults_removing (answer.Swept said.files) refl refl settled refl ran (subst (λ (k : ℕ). Rose m.faults k) (sym now) rises), stands)
  sweep_ends (Err Fault) swept = λ m s.
      let mid = settles m s in
      let n : Machine = record mid.0 { faults = q.at.faults } in
      let rises : Rose m.faults new.at.faults = rw s.faults (rose_after p.at.faults q.at.faults new.at.faults more (swept.changes.costs.cause tt)) in
      (record mid.0 { faults = new.at.faults }, faults_between refl mid.1 refl rises, stands_still tells copied q new (Err Fault) swept same n mid.2 swept.failed)
  sweep_ends (Err Memory) swept = λ m s.
      let mid = settles m s in
      let n : Machine = record mid.0 { faults = q.at.faults } in
      let was : m.faults ≡ p.at.faults = s.faults in
      let later = swept.changes.costs.faults in
      (record mid.0 { faults = new.at.faults }, wants_memory_settled refl mid.1 refl (omega (arith, was, more, later)), stands_still tells copied q new (Err Memory) swept same n mid.2 swept.failed)

  -- at each moment a crash leaves what was there, or what is settled
  crash_sweep : (result : Result StoreSwept DiskErr) → StoresSwept tells copied q new result → HoldsDoubted tells p q → granularities q.at.manifests ≡ granularities p.at.manifests → LeavesByAct tells (λ m. None) (λ m. None) p new
  crash_sweep result swept reads same_g = λ m told s.
      let mid = settles m s in
      let n : Machine = record mid.0 { faults = q.at.faults } in
      let second = subst (λ (gs : List Granularity). Passes (λ a image. HoldsMachine gs image n) q.at.past new.at.past) same_g (sweep_passes tells copied q new result swept same n mid.2 told) in
      let first = crash_settling tells (λ m. None) (λ m. None) (λ m f. refl) (λ m f. refl) p q reads m told s in
      passes_then (λ a image. LeavesWithin (λ m. None) (λ m. None) (granularities p.at.manifests) m image) (λ a image. HoldsMachine (granularities p.at.manifests) image n) p.at.past q.at.past new.at.past first second (λ a b image was within left holds. (mid.0, settled_there mid.1, holds))

  -- what is listed then or pinned is shown still
  kept_files : (result : Result StoreSwept DiskErr) → StoresSwept tells copied q new result → LeavesFronts tells (files_of p) (files_of q) → q.pinned ≡ p.pinned → KeepsListed tells p new
  kept_files result swept fronts pins name bytes kept was = swept.leaves.shown name bytes (by_kind kept) (fronts_shown tells (files_of p) (files_of q) fronts name bytes was)
    where
      by_kind : IsKeptName new.at p.pinned [] name → IsKeptName new.at q.pinned copied name
      by_kind (inl listed) = inl listed
      by_kind (inr (inl pinned)) = inr (inl (subst (λ (x : FinMap nat_cmp PinOf). IsPinnedFile x name) (sym pins) pinned))
      by_kind (inr (inr (k, lt, is))) = absurd (omega (arith, lt))

  -- the act, where a doubt was settled
  pub sweep_acts : (who : ℕ) (done : Result (Unit {0}) DiskErr) → Settling tells p q (end_of_disk done) → (result : Result StoreSwept DiskErr) → StoresSwept tells copied q new result → ActsTidily tells p (sweep_reply result) new → Acted tells who Sweep p (sweep_reply result) new
  sweep_acts who done settling result swept tidy = record {
    step = λ m s. (let one = sweep_ends result swept m s in (one.0, (one.1, λ told. tt), one.2));
    crash = crash_sweep result swept settling.settles.any_moment settling.granularity;
    files = kept_files result swept settling.fronts settling.pins;
    pins = tt;
    moves = tt;
    tidy = tidy;
  }
