use Rattle.std.proofs.Common.{◌≡◌, ℕ, Some, Ok, Err, Result, refl, sym, ◌∙◌, ap, subst}
use Rattle.std.specs.Prelude.{slice_get, slice_set}
use Rattle.disk_model.specs.declared.disk.DiskErr.{DiskErr}
use Rattle.disk_model.specs.declared.disk.DiskErr.TheVariants.{Fault, Memory}
use Rattle.pv_catalog.specs.declared.error.RenameErr.{RenameErr}
use Rattle.pv_catalog.specs.declared.error.RenameErr.TheVariants.{NotPaused, NameTaken, KeyTaken, Full, Disk}
use Rattle.durable_write.specs.Ends.{Refused, end_of_rename}
use Rattle.tier_store.specs.Change.{Changes, renaming}
use Rattle.tier_store.specs.Frame.{Frame}
use Rattle.tier_store.specs.Pinned.{beside}
use Rattle.tier_store.specs.Seen.{seen}
use Rattle.act_model.specs.Machine.{Machine, Renames}
use Rattle.archive_core.specs.Ends.{ChangesTo}
use Rattle.archive_core.specs.Leaving.{files_of}
use Rattle.archive_core.specs.Memory.{with_row}
use Rattle.intake_half.specs.Memory.{cleared}
use Rattle.archive_core.specs.Parts.{InMemory, Parts, parts_beside}
use Rattle.archive_core.specs.Renaming.{CanRename}
use Rattle.archive_core.specs.Stands.{Rests}
use Rattle.archive_core.specs.declared.memory.Doubt.TheVariants as kind
use Rattle.intake_half.specs.declared.memory.RowMemory.{RowMemory}
use Rattle.archive_core.proofs.Settled.{with_same, frame_with, rests_has}
use Rattle.archive_core.proofs.Acting.{call_done, call_failed, call_spent, call_tidy, called}
use Rattle.archive_core.proofs.Lists.{element}
use Rattle.archive_core.proofs.Registered.{can_kept, can_low, makes_rename, old_kept, rename_clears, rename_number, rename_unrefused}
use Rattle.archive_core.proofs.archive.StoreHalf.rename_row.Goals.{After-rename}
use Rattle.archive_core.proofs.archive.StoreHalf.rename_row.Goals as goal

-- what the stores' call did, by what it answered
told : (g : _) (c : After-rename g) (r : Result ℕ RenameErr) → c.rename.result ≡ r → Changes g.D.Disk.tells (renaming c.args.row c.args.newname.now) (seen g.D.Disk c.args.self.now.store) (seen g.D.Disk c.rename.new.self) (end_of_rename r)
told g c r is = subst (λ (x : Result ℕ RenameErr). Changes g.D.Disk.tells (renaming c.args.row c.args.newname.now) (seen g.D.Disk c.args.self.now.store) (seen g.D.Disk c.rename.new.self) (end_of_rename x)) is c.rename.ensures.changes

-- what it left where limbo is as it was
frame : (g : _) (c : After-rename g) (w : InMemory) → Frame g.D.Disk.tells (files_of (parts_beside g.D.Disk c.args.self.now w)) (beside (seen g.D.Disk c.rename.new.self) c.args.self.now.store.limbo.items)
frame g c w = frame_with g.D.Disk.tells (files_of (parts_beside g.D.Disk c.args.self.now w)) (seen g.D.Disk c.rename.new.self) c.rename.new.self.limbo.items c.args.self.now.store.limbo.items (ap (λ l. l.items) c.rename.ensures.limbo) c.rename.ensures.frame

-- with the stores' limbo and pins
with_all : (g : _) (c : After-rename g) (P : Parts → Type 0) (q : Parts) → q.limbo ≡ c.args.self.now.store.limbo.items → q.pinned ≡ c.args.self.now.store.pinned → P q → P (record q { limbo = c.rename.new.self.limbo.items; pinned = c.rename.new.self.pinned })
with_all g c P q limbo pinned is = with_same P q c.rename.new.self.limbo.items c.rename.new.self.pinned (ap (λ l. l.items) c.rename.ensures.limbo ∙ sym limbo) (c.rename.ensures.pins ∙ sym pinned) is

-- what is kept of the row
there : (g : _) (c : After-rename g) (w : InMemory) (m : Machine) → Rests g.D.Disk.tells (parts_beside g.D.Disk c.args.self.now w) m → CanRename (parts_beside g.D.Disk c.args.self.now w) c.args.newname.now c.args.row → (memory : RowMemory) × (slice_get w.kept c.args.row ≡ Some memory)
there g c w m r can = element w.kept c.args.row (can_kept g.D.Disk.tells (parts_beside g.D.Disk c.args.self.now w) m r c.args.newname.now c.args.row can)

-- no refusal is told
refused : (g : _) (c : After-rename g) (e : RenameErr) → c.rename.result ≡ Err e → end_of_rename (Err e) ≡ Refused e → ⊥
refused g c e is end =
    let was = c.requires.rests in
    let own = there g c was.0 was.1 was.3 was.2 in
    rename_unrefused g.D.Disk.tells (parts_beside g.D.Disk c.args.self.now was.0) was.1 was.3 c.args.row c.args.newname.now was.2 own.0 own.1 (seen g.D.Disk c.rename.new.self) e
    (subst (Changes g.D.Disk.tells (renaming c.args.row c.args.newname.now) (seen g.D.Disk c.args.self.now.store) (seen g.D.Disk c.rename.new.self)) end (told g c (Err e) is))

pub rename-requires-clause-row : goal.rename-requires-clause-row
rename-requires-clause-row g c = let was = c.requires.rests in can_low (parts_beside g.D.Disk c.args.self.now was.0) c.args.newname.now c.args.row was.2

pub rename-requires-clause-has : goal.rename-requires-clause-has
rename-requires-clause-has g c = let was = c.requires.rests in (was.3.stands.store.before, rests_has g.D.Disk.tells (parts_beside g.D.Disk c.args.self.now was.0) was.1 was.3)

pub unreachable-requires : goal.unreachable-requires
unreachable-requires g c = refused g (goal.at.unreachable-requires g c).After-rename NotPaused (c.in-Err-NotPaused.is ∙ ap (λ (x : RenameErr). Err x) c.in-Err-NotPaused.field-0-is) refl

pub unreachable-requires-in-Err-NameTaken : goal.unreachable-requires-in-Err-NameTaken
unreachable-requires-in-Err-NameTaken g c =
    let e = c.in-Err-NameTaken in
    refused g (goal.at.unreachable-requires-in-Err-NameTaken g c).After-rename (NameTaken e.field-0-0) (e.is ∙ ap (λ (x : RenameErr). Err x) e.field-0-is) refl

pub unreachable-requires-in-Err-KeyTaken : goal.unreachable-requires-in-Err-KeyTaken
unreachable-requires-in-Err-KeyTaken g c =
    let e = c.in-Err-KeyTaken in
    refused g (goal.at.unreachable-requires-in-Err-KeyTaken g c).After-rename (KeyTaken e.field-0-0) (e.is ∙ ap (λ (x : RenameErr). Err x) e.field-0-is) refl

pub unreachable-requires-in-Err-Full : goal.unreachable-requires-in-Err-Full
unreachable-requires-in-Err-Full g c = refused g (goal.at.unreachable-requires-in-Err-Full g c).After-rename Full (c.in-Err-Full.is ∙ ap (λ (x : RenameErr). Err x) c.in-Err-Full.field-0-is) refl

pub returns-in-Ok-clause-changed : goal.returns-in-Ok-clause-changed
returns-in-Ok-clause-changed g c = λ w after can renames.
    let a = (goal.at.returns-in-Ok-clause-changed g c).After-rename in
    let p = parts_beside g.D.Disk c.args.self.now w in
    let new = seen g.D.Disk c.rename.new.self in
    let call = renaming c.args.row c.args.newname.now in
    let change = Renames c.args.row c.args.newname.now in
    let done = told g a (Ok c.in-Ok.id) c.in-Ok.is in
    record {
      changes = λ m r.
          let own = there g a w m r can in
          let kept = (with_row c.args.self.now.store.catalogue.rows can.paused.row.about own.0.next w).kept in
          let still = old_kept g.D.Disk.tells p m r c.args.row c.args.newname.now can own.0 own.1 in
          subst (λ (x : InMemory). ChangesTo {A = ℕ} g.D.Disk.tells change p m (parts_beside g.D.Disk (record c.args.self.now { store = c.rename.new.self }) x) (Ok c.in-Ok.id)) (sym (renames can.paused.row own.0 can.paused.here own.1 own.0 still))
          (with_all g a (λ (q : Parts). ChangesTo {A = ℕ} g.D.Disk.tells change p m q (Ok c.in-Ok.id)) (record p { at = new; kept = slice_set kept c.args.row (cleared own.0) }) refl refl
          (call_done g.D.Disk.tells call change (kind.Rename c.args.row) kept p m r (makes_rename g.D.Disk.tells p m r c.args.row c.args.newname.now can own.0 own.1) (λ at after grow. grow) new (frame g a w) c.in-Ok.id _ p.tails
          (rename_clears g.D.Disk.tells p m r c.args.row c.args.newname.now can own.0 own.1 new c.in-Ok.id done) refl (called g.D.Disk.tells call p.at new r.stands.store.before (end_of_rename (Ok c.in-Ok.id)) (rests_has g.D.Disk.tells p m r) done)));
      fronts = c.rename.ensures.frame.fronts;
      tidy = call_tidy g.D.Disk.tells p _ c.rename.result c.in-Ok.id c.in-Ok.is refl c.rename.ensures.tidy;
    }

pub returns-in-Ok-clause-number : goal.returns-in-Ok-clause-number
returns-in-Ok-clause-number g c =
    let a = (goal.at.returns-in-Ok-clause-number g c).After-rename in
    let was = c.requires.rests in
    let own = there g a was.0 was.1 was.3 was.2 in
    rename_number g.D.Disk.tells (parts_beside g.D.Disk c.args.self.now was.0) was.1 was.3 c.args.row c.args.newname.now was.2 own.0 own.1 (seen g.D.Disk c.rename.new.self) c.in-Ok.id (told g a (Ok c.in-Ok.id) c.in-Ok.is)

pub returns-in-Err-Disk-Fault-clause-changed : goal.returns-in-Err-Disk-Fault-clause-changed
returns-in-Err-Disk-Fault-clause-changed g c = λ w after can renames.
    let a = (goal.at.returns-in-Err-Disk-Fault-clause-changed g c).After-rename in
    let p = parts_beside g.D.Disk c.args.self.now w in
    let new = seen g.D.Disk c.rename.new.self in
    let call = renaming c.args.row c.args.newname.now in
    let change = Renames c.args.row c.args.newname.now in
    let is = c.in-Err-Disk-Fault.is ∙ ap (λ (x : RenameErr). Err x) (c.in-Err-Disk-Fault.field-0-is ∙ ap (λ (d : DiskErr). Disk d) c.in-Err-Disk-Fault.field-0-0-is) in
    record {
      changes = λ m r.
          let own = there g a w m r can in
          let kept = (with_row c.args.self.now.store.catalogue.rows can.paused.row.about own.0.next w).kept in
          subst (λ (x : InMemory). ChangesTo {A = ℕ} g.D.Disk.tells change p m (parts_beside g.D.Disk (record c.args.self.now { store = c.rename.new.self; doubt = Some (kind.Rename c.args.row) }) x) (Err Fault)) (sym (renames can.paused.row own.0 can.paused.here own.1))
          (with_all g a (λ (q : Parts). ChangesTo {A = ℕ} g.D.Disk.tells change p m q (Err Fault)) (record p { at = new; kept = kept; doubt = Some (kind.Rename c.args.row) }) refl refl
          (call_failed g.D.Disk.tells call change (kind.Rename c.args.row) kept p m r (makes_rename g.D.Disk.tells p m r c.args.row c.args.newname.now can own.0 own.1) (λ at after grow. grow) new (frame g a w)
          (called g.D.Disk.tells call p.at new r.stands.store.before (end_of_rename (Err (Disk Fault))) (rests_has g.D.Disk.tells p m r) (told g a (Err (Disk Fault)) is))));
      fronts = c.rename.ensures.frame.fronts;
      tidy = tt;
    }

pub returns-in-Err-Disk-Memory-clause-changed : goal.returns-in-Err-Disk-Memory-clause-changed
returns-in-Err-Disk-Memory-clause-changed g c = λ w after can renames.
    let a = (goal.at.returns-in-Err-Disk-Memory-clause-changed g c).After-rename in
    let p = parts_beside g.D.Disk c.args.self.now w in
    let new = seen g.D.Disk c.rename.new.self in
    let call = renaming c.args.row c.args.newname.now in
    let change = Renames c.args.row c.args.newname.now in
    let is = c.in-Err-Disk-Memory.is ∙ ap (λ (x : RenameErr). Err x) (c.in-Err-Disk-Memory.field-0-is ∙ ap (λ (d : DiskErr). Disk d) c.in-Err-Disk-Memory.field-0-0-is) in
    record {
      changes = λ m r.
          let own = there g a w m r can in
          let kept = (with_row c.args.self.now.store.catalogue.rows can.paused.row.about own.0.next w).kept in
          subst (λ (x : InMemory). ChangesTo {A = ℕ} g.D.Disk.tells change p m (parts_beside g.D.Disk (record c.args.self.now { store = c.rename.new.self }) x) (Err Memory)) (sym (renames can.paused.row own.0 can.paused.here own.1))
          (with_all g a (λ (q : Parts). ChangesTo {A = ℕ} g.D.Disk.tells change p m q (Err Memory)) (record p { at = new; kept = kept }) refl refl
          (call_spent g.D.Disk.tells call change (kind.Rename c.args.row) kept p m r (makes_rename g.D.Disk.tells p m r c.args.row c.args.newname.now can own.0 own.1) (λ at after grow. grow) new (frame g a w)
          (called g.D.Disk.tells call p.at new r.stands.store.before (end_of_rename (Err (Disk Memory))) (rests_has g.D.Disk.tells p m r) (told g a (Err (Disk Memory)) is))));
      fronts = c.rename.ensures.frame.fronts;
      tidy = tt;
    }
