use Rattle.std.proofs.Common.{◌≡◌, ℕ, Some, Ok, Err, Result, refl, sym, ◌∙◌, ap, subst}
use Rattle.disk_model.specs.declared.disk.DiskErr.{DiskErr}
use Rattle.disk_model.specs.declared.disk.DiskErr.TheVariants.{Fault, Memory}
use Rattle.pv_catalog.specs.declared.error.RegisterErr.{RegisterErr}
use Rattle.pv_catalog.specs.declared.error.RegisterErr.TheVariants.{NameTaken, KeyTaken, Full, Disk}
use Rattle.durable_write.specs.Ends.{end_of_register}
use Rattle.tier_store.specs.Change.{Changes, registering}
use Rattle.tier_store.specs.Frame.{Frame}
use Rattle.tier_store.specs.Pinned.{beside}
use Rattle.tier_store.specs.Seen.{seen}
use Rattle.act_model.specs.Machine.{AddsRow}
use Rattle.archive_core.specs.Ends.{ChangesTo}
use Rattle.archive_core.specs.Leaving.{files_of}
use Rattle.archive_core.specs.Memory.{with_row}
use Rattle.archive_core.specs.Parts.{InMemory, Parts, parts_beside}
use Rattle.archive_core.specs.declared.memory.Doubt.TheVariants as kind
use Rattle.archive_core.proofs.Settled.{with_same, frame_with, rests_has}
use Rattle.archive_core.proofs.Acting.{call_done, call_failed, call_spent, call_tidy, called}
use Rattle.archive_core.proofs.Registered.{makes_row, more_kept, row_number, row_unclear, row_unrefused}
use Rattle.archive_core.proofs.archive.StoreHalf.add_row.Goals.{After-register}
use Rattle.archive_core.proofs.archive.StoreHalf.add_row.Goals as goal

-- what the stores' call did, by what it answered
told : (g : _) (c : After-register g) (r : Result ℕ RegisterErr) → c.register.result ≡ r → Changes g.D.Disk.tells (registering c.args.name.now c.args.about.now) (seen g.D.Disk c.args.self.now.store) (seen g.D.Disk c.register.new.self) (end_of_register r)
told g c r is = subst (λ (x : Result ℕ RegisterErr). Changes g.D.Disk.tells (registering c.args.name.now c.args.about.now) (seen g.D.Disk c.args.self.now.store) (seen g.D.Disk c.register.new.self) (end_of_register x)) is c.register.ensures.changes

-- what it left where limbo is as it was
frame : (g : _) (c : After-register g) (w : InMemory) → Frame g.D.Disk.tells (files_of (parts_beside g.D.Disk c.args.self.now w)) (beside (seen g.D.Disk c.register.new.self) c.args.self.now.store.limbo.items)
frame g c w = frame_with g.D.Disk.tells (files_of (parts_beside g.D.Disk c.args.self.now w)) (seen g.D.Disk c.register.new.self) c.register.new.self.limbo.items c.args.self.now.store.limbo.items (ap (λ l. l.items) c.register.ensures.limbo) c.register.ensures.frame

-- with the stores' limbo and pins
with_all : (g : _) (c : After-register g) (P : Parts → Type 0) (q : Parts) → q.limbo ≡ c.args.self.now.store.limbo.items → q.pinned ≡ c.args.self.now.store.pinned → P q → P (record q { limbo = c.register.new.self.limbo.items; pinned = c.register.new.self.pinned })
with_all g c P q limbo pinned is = with_same P q c.register.new.self.limbo.items c.register.new.self.pinned (ap (λ l. l.items) c.register.ensures.limbo ∙ sym limbo) (c.register.ensures.pins ∙ sym pinned) is

pub register-requires : goal.register-requires
register-requires g c = let was = c.requires.rests in record { has = (was.2.stands.store.before, rests_has g.D.Disk.tells (parts_beside g.D.Disk c.args.self.now was.0) was.1 was.2) }

pub unreachable-requires : goal.unreachable-requires
unreachable-requires g c =
    let was = c.requires.rests in
    let e = c.in-Err-NameTaken in
    row_unrefused g.D.Disk.tells (parts_beside g.D.Disk c.args.self.now was.0) was.1 was.2 c.args.name.now c.args.about.now c.requires.free (seen g.D.Disk c.register.new.self) (NameTaken e.field-0-0)
    (told g (goal.at.unreachable-requires g c).After-register (Err (NameTaken e.field-0-0)) (e.is ∙ ap (λ (x : RegisterErr). Err x) e.field-0-is))

pub unreachable-requires-in-Err-KeyTaken : goal.unreachable-requires-in-Err-KeyTaken
unreachable-requires-in-Err-KeyTaken g c =
    let was = c.requires.rests in
    let e = c.in-Err-KeyTaken in
    row_unrefused g.D.Disk.tells (parts_beside g.D.Disk c.args.self.now was.0) was.1 was.2 c.args.name.now c.args.about.now c.requires.free (seen g.D.Disk c.register.new.self) (KeyTaken e.field-0-0)
    (told g (goal.at.unreachable-requires-in-Err-KeyTaken g c).After-register (Err (KeyTaken e.field-0-0)) (e.is ∙ ap (λ (x : RegisterErr). Err x) e.field-0-is))

pub unreachable-requires-in-Err-Full : goal.unreachable-requires-in-Err-Full
unreachable-requires-in-Err-Full g c =
    let was = c.requires.rests in
    let e = c.in-Err-Full in
    row_unrefused g.D.Disk.tells (parts_beside g.D.Disk c.args.self.now was.0) was.1 was.2 c.args.name.now c.args.about.now c.requires.free (seen g.D.Disk c.register.new.self) Full (told g (goal.at.unreachable-requires-in-Err-Full g c).After-register (Err Full) (e.is ∙ ap (λ (x : RegisterErr). Err x) e.field-0-is))

pub returns-in-Ok-clause-changed : goal.returns-in-Ok-clause-changed
returns-in-Ok-clause-changed g c = λ w.
    let a = (goal.at.returns-in-Ok-clause-changed g c).After-register in
    let p = parts_beside g.D.Disk c.args.self.now w in
    let more = (with_row c.args.self.now.store.catalogue.rows c.args.about.now 0 w).kept in
    let new = seen g.D.Disk c.register.new.self in
    let call = registering c.args.name.now c.args.about.now in
    let change = AddsRow c.args.name.now c.args.about.now in
    record {
      changes = λ m r. with_all g a (λ (q : Parts). ChangesTo {A = ℕ} g.D.Disk.tells change p m q (Ok c.in-Ok.row)) (record p { kept = more; at = new }) refl refl
          (call_done g.D.Disk.tells call change kind.Row (more_kept g.D.Disk.tells p m r c.args.name.now c.args.about.now c.requires.free) p m r (makes_row g.D.Disk.tells p m r c.args.name.now c.args.about.now c.requires.free) (λ at after grow. grow) new (frame g a w) c.in-Ok.row _ p.tails
          (row_unclear g.D.Disk.tells p m r c.args.name.now c.args.about.now c.requires.free new.catalogue.rows) refl (called g.D.Disk.tells call p.at new r.stands.store.before (end_of_register (Ok c.in-Ok.row)) (rests_has g.D.Disk.tells p m r) (told g a (Ok c.in-Ok.row) c.in-Ok.is)));
      fronts = c.register.ensures.frame.fronts;
      tidy = call_tidy g.D.Disk.tells p _ c.register.result c.in-Ok.row c.in-Ok.is refl c.register.ensures.tidy;
    }

pub returns-in-Ok-clause-number : goal.returns-in-Ok-clause-number
returns-in-Ok-clause-number g c =
    let was = c.requires.rests in
    row_number g.D.Disk.tells (parts_beside g.D.Disk c.args.self.now was.0) was.1 was.2 c.args.name.now c.args.about.now c.requires.free (seen g.D.Disk c.register.new.self) c.in-Ok.row (told g (goal.at.returns-in-Ok-clause-number g c).After-register (Ok c.in-Ok.row) c.in-Ok.is)

pub returns-in-Err-Disk-Fault-clause-changed : goal.returns-in-Err-Disk-Fault-clause-changed
returns-in-Err-Disk-Fault-clause-changed g c = λ w.
    let a = (goal.at.returns-in-Err-Disk-Fault-clause-changed g c).After-register in
    let p = parts_beside g.D.Disk c.args.self.now w in
    let more = (with_row c.args.self.now.store.catalogue.rows c.args.about.now 0 w).kept in
    let new = seen g.D.Disk c.register.new.self in
    let call = registering c.args.name.now c.args.about.now in
    let change = AddsRow c.args.name.now c.args.about.now in
    let is = c.in-Err-Disk-Fault.is ∙ ap (λ (x : RegisterErr). Err x) (c.in-Err-Disk-Fault.field-0-is ∙ ap (λ (d : DiskErr). Disk d) c.in-Err-Disk-Fault.field-0-0-is) in
    record {
      changes = λ m r. with_all g a (λ (q : Parts). ChangesTo {A = ℕ} g.D.Disk.tells change p m q (Err Fault)) (record p { kept = more; at = new; doubt = Some kind.Row }) refl refl
          (call_failed g.D.Disk.tells call change kind.Row (more_kept g.D.Disk.tells p m r c.args.name.now c.args.about.now c.requires.free) p m r (makes_row g.D.Disk.tells p m r c.args.name.now c.args.about.now c.requires.free) (λ at after grow. grow) new (frame g a w)
          (called g.D.Disk.tells call p.at new r.stands.store.before (end_of_register (Err (Disk Fault))) (rests_has g.D.Disk.tells p m r) (told g a (Err (Disk Fault)) is)));
      fronts = c.register.ensures.frame.fronts;
      tidy = tt;
    }

pub returns-in-Err-Disk-Memory-clause-changed : goal.returns-in-Err-Disk-Memory-clause-changed
returns-in-Err-Disk-Memory-clause-changed g c = λ w.
    let a = (goal.at.returns-in-Err-Disk-Memory-clause-changed g c).After-register in
    let p = parts_beside g.D.Disk c.args.self.now w in
    let more = (with_row c.args.self.now.store.catalogue.rows c.args.about.now 0 w).kept in
    let new = seen g.D.Disk c.register.new.self in
    let call = registering c.args.name.now c.args.about.now in
    let change = AddsRow c.args.name.now c.args.about.now in
    let is = c.in-Err-Disk-Memory.is ∙ ap (λ (x : RegisterErr). Err x) (c.in-Err-Disk-Memory.field-0-is ∙ ap (λ (d : DiskErr). Disk d) c.in-Err-Disk-Memory.field-0-0-is) in
    record {
      changes = λ m r. with_all g a (λ (q : Parts). ChangesTo {A = ℕ} g.D.Disk.tells change p m q (Err Memory)) (record p { kept = more; at = new }) refl refl
          (call_spent g.D.Disk.tells call change kind.Row (more_kept g.D.Disk.tells p m r c.args.name.now c.args.about.now c.requires.free) p m r (makes_row g.D.Disk.tells p m r c.args.name.now c.args.about.now c.requires.free) (λ at after grow. grow) new (frame g a w)
          (called g.D.Disk.tells call p.at new r.stands.store.before (end_of_register (Err (Disk Memory))) (rests_has g.D.Disk.tells p m r) (told g a (Err (Disk Memory)) is)));
      fronts = c.register.ensures.frame.fronts;
      tidy = tt;
    }
