use Rattle.std.proofs.Common.{◌∙◌, ◌-◌, ◌≤◌, ℕ, ap, subst, sym}
use Rattle.std.specs.Prelude.{Ok, Err}
use Rattle.disk_model.specs.declared.disk.DiskErr.{DiskErr}
use Rattle.tier_store.specs.Seen.{seen}
use Rattle.tier_store.specs.declared.copying.CopyEnd.{CopyEnd}
use Rattle.archive_core.specs.Parts.{InMemory, parts_beside}
use Rattle.archive_core.proofs.CopyTaken.{StoresCopied, limbo_stands, on_copied, on_damaged, on_failed, on_more, on_spent, runs_there, some_store, within}
use Rattle.archive_core.proofs.archive.StoreHalf.copy_taken.Goals.{After-copy}
use Rattle.archive_core.proofs.archive.StoreHalf.copy_taken.Goals as goal

pub overflow_sub-place : goal.overflow_sub-place
overflow_sub-place g c =
    let t = c.requires.taken.1 in
    subst (λ (k : ℕ). 1 ≤ k) (sym c.from-place.ensures) (some_store g.D.Disk.tells (parts_beside g.D.Disk c.args.self.now c.requires.taken.0) c.args.number c.args.running t.0 t.1 t.2 t.3 c.requires.copies c.requires.left (g.met.D.Disk.seen c.args.self.now.store.disk))

pub copy-requires-clause-within : goal.copy-requires-clause-within
copy-requires-clause-within g c =
    let t = c.requires.taken.1 in
    within g.D.Disk.tells (parts_beside g.D.Disk c.args.self.now c.requires.taken.0) c.args.number c.args.running t.0 t.1 t.2 t.3 c.requires.copies c.requires.left (g.met.D.Disk.seen c.args.self.now.store.disk) (c.from-place.result - 1) (ap (λ (k : ℕ). k - 1) c.from-place.ensures)

pub copy-requires-clause-stands : goal.copy-requires-clause-stands
copy-requires-clause-stands g c =
    let t = c.requires.taken.1 in
    limbo_stands g.D.Disk.tells (parts_beside g.D.Disk c.args.self.now c.requires.taken.0) c.args.number c.args.running t.0 t.1 t.2 t.3 c.requires.copies c.requires.left (g.met.D.Disk.seen c.args.self.now.store.disk)

pub copy-requires-clause-runs : goal.copy-requires-clause-runs
copy-requires-clause-runs g c =
    let t = c.requires.taken.1 in
    runs_there g.D.Disk.tells (parts_beside g.D.Disk c.args.self.now c.requires.taken.0) c.args.number c.args.running t.0 t.1 t.2 t.3 c.requires.copies c.requires.left (g.met.D.Disk.seen c.args.self.now.store.disk) (c.from-place.result - 1) (ap (λ (k : ℕ). k - 1) c.from-place.ensures)

-- what the stores say
said : (g : _) (w : InMemory) (c : After-copy g) → StoresCopied g.D.Disk.tells (c.from-place.result - 1) c.args.running.moving c.copy.new.moving (parts_beside g.D.Disk c.args.self.now w) (seen g.D.Disk c.copy.new.self) c.copy.new.self.limbo.items c.copy.result
said g w c = let call = c.copy.ensures in record { copies = call.copies; changes = call.changes; moves_on = call.moves_on; shown = call.rest.shown; leaves = call.rest.leaves; whole = call.rest.whole; tidy = call.tidy }

pub returns-in-Ok-More : goal.returns-in-Ok-More
returns-in-Ok-More g c = λ w slots m takes r.
    on_more g.D.Disk.tells (parts_beside g.D.Disk c.args.self.now w) c.args.number c.args.running slots m takes r c.requires.copies c.requires.left (g.met.D.Disk.seen c.args.self.now.store.disk) (seen g.D.Disk c.copy.new.self) c.copy.new.self.limbo.items c.copy.new.self.pinned
    (ap (λ l. l.items) c.copy.ensures.same.2) c.copy.ensures.same.1 c.copy.new.moving c.copy.result (c.from-place.result - 1) (ap (λ (k : ℕ). k - 1) c.from-place.ensures) (said g w (goal.at.returns-in-Ok-More g c).After-copy) (g.met.D.Disk.seen c.copy.new.self.disk)
    c.put_back.new.self.slots.items (c.in-Ok-More.is ∙ ap (λ (e : CopyEnd). Ok e) c.in-Ok-More.field-0-is) c.put_back.ensures

pub returns-in-Ok-Copied : goal.returns-in-Ok-Copied
returns-in-Ok-Copied g c = λ w slots m takes r.
    on_copied g.D.Disk.tells (parts_beside g.D.Disk c.args.self.now w) c.args.number c.args.running slots m takes r c.requires.copies c.requires.left (g.met.D.Disk.seen c.args.self.now.store.disk) (seen g.D.Disk c.copy.new.self) c.copy.new.self.limbo.items c.copy.new.self.pinned
    (ap (λ l. l.items) c.copy.ensures.same.2) c.copy.ensures.same.1 c.copy.new.moving c.copy.result (c.from-place.result - 1) (ap (λ (k : ℕ). k - 1) c.from-place.ensures) (said g w (goal.at.returns-in-Ok-Copied g c).After-copy) (g.met.D.Disk.seen c.copy.new.self.disk)
    c.put_back-in-Ok-Copied.new.self.slots.items (c.in-Ok-Copied.is ∙ ap (λ (e : CopyEnd). Ok e) c.in-Ok-Copied.field-0-is) c.put_back-in-Ok-Copied.ensures

pub returns-in-Ok-Damaged : goal.returns-in-Ok-Damaged
returns-in-Ok-Damaged g c = λ w slots m takes r.
    on_damaged g.D.Disk.tells (parts_beside g.D.Disk c.args.self.now w) c.args.number c.args.running slots m takes r c.requires.copies c.requires.left (g.met.D.Disk.seen c.args.self.now.store.disk) (seen g.D.Disk c.copy.new.self) c.copy.new.self.limbo.items c.copy.new.self.pinned
    (ap (λ l. l.items) c.copy.ensures.same.2) c.copy.ensures.same.1 c.copy.new.moving c.copy.result (c.from-place.result - 1) (ap (λ (k : ℕ). k - 1) c.from-place.ensures) (said g w (goal.at.returns-in-Ok-Damaged g c).After-copy) (g.met.D.Disk.seen c.copy.new.self.disk)
    c.in-Ok-Damaged.name c.in-Ok-Damaged.at (c.in-Ok-Damaged.is ∙ ap (λ (e : CopyEnd). Ok e) c.in-Ok-Damaged.field-0-is)

pub returns-in-Err-Fault : goal.returns-in-Err-Fault
returns-in-Err-Fault g c = λ w slots m takes r.
    on_failed g.D.Disk.tells (parts_beside g.D.Disk c.args.self.now w) c.args.number c.args.running slots m takes r c.requires.copies c.requires.left (g.met.D.Disk.seen c.args.self.now.store.disk) (seen g.D.Disk c.copy.new.self) c.copy.new.self.limbo.items c.copy.new.self.pinned
    (ap (λ l. l.items) c.copy.ensures.same.2) c.copy.ensures.same.1 c.copy.new.moving c.copy.result (c.from-place.result - 1) (ap (λ (k : ℕ). k - 1) c.from-place.ensures) (said g w (goal.at.returns-in-Err-Fault g c).After-copy) (g.met.D.Disk.seen c.copy.new.self.disk)
    (c.in-Err-Fault.is ∙ ap (λ (e : DiskErr). Err e) c.in-Err-Fault.field-0-is)

pub returns-in-Err-Memory : goal.returns-in-Err-Memory
returns-in-Err-Memory g c = λ w slots m takes r.
    on_spent g.D.Disk.tells (parts_beside g.D.Disk c.args.self.now w) c.args.number c.args.running slots m takes r c.requires.copies c.requires.left (g.met.D.Disk.seen c.args.self.now.store.disk) (seen g.D.Disk c.copy.new.self) c.copy.new.self.limbo.items c.copy.new.self.pinned
    (ap (λ l. l.items) c.copy.ensures.same.2) c.copy.ensures.same.1 c.copy.new.moving c.copy.result (c.from-place.result - 1) (ap (λ (k : ℕ). k - 1) c.from-place.ensures) (said g w (goal.at.returns-in-Err-Memory g c).After-copy) (g.met.D.Disk.seen c.copy.new.self.disk)
    c.put_back-in-Err-Memory.new.self.slots.items (c.in-Err-Memory.is ∙ ap (λ (e : DiskErr). Err e) c.in-Err-Memory.field-0-is) c.put_back-in-Err-Memory.ensures
