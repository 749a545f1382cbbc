use Rattle.std.proofs.Common.{◌∙◌, ap}
use Rattle.std.specs.Prelude.{Err}
use Rattle.disk_model.specs.declared.disk.DiskErr.{DiskErr}
use Rattle.tier_store.specs.Seen.{seen}
use Rattle.archive_core.specs.Parts.{InMemory, parts_beside}
use Rattle.archive_core.proofs.Publishing.{StoresListed, on_done, on_failed, on_spent, runs_there}
use Rattle.archive_core.proofs.archive.StoreHalf.publish_taken.Goals.{After-publish}
use Rattle.archive_core.proofs.archive.StoreHalf.publish_taken.Goals as goal

pub publish-requires-clause-runs : goal.publish-requires-clause-runs
publish-requires-clause-runs g c =
    let taken = c.requires.taken.1 in
    rw c.from.ensures (runs_there g.D.Disk.tells (parts_beside g.D.Disk c.args.self.now c.requires.taken.0) c.args.number c.args.running taken.0 taken.1 taken.2 taken.3 c.requires.copied)

-- what the stores say
said : (g : _) (w : InMemory) (c : After-publish g) → StoresListed g.D.Disk.tells c.from.result c.args.running.moving (parts_beside g.D.Disk c.args.self.now w) (seen g.D.Disk c.publish.new.self) c.publish.new.self.limbo.items c.publish.result
said g w c = let call = c.publish.ensures in record { changes = call.changes; keeps = call.frame; tidy = call.tidy }

pub returns-in-Ok : goal.returns-in-Ok
returns-in-Ok g c = λ w slots m takes r.
    on_done g.D.Disk.tells (parts_beside g.D.Disk c.args.self.now w) c.args.number c.args.running slots m takes r c.requires.copied (seen g.D.Disk c.publish.new.self) c.publish.new.self.limbo.items c.publish.new.self.pinned (ap (λ l. l.items) c.publish.ensures.same.2) c.publish.ensures.same.1
    c.publish.result c.from.result c.from.ensures (said g w (goal.at.returns-in-Ok g c).After-publish) c.in-Ok.field-0 c.publish.new.moving c.put_back.new.self.slots.items c.in-Ok.is c.in-Ok.ensures.published c.put_back.ensures

pub returns-in-Err-Fault : goal.returns-in-Err-Fault
returns-in-Err-Fault g c = λ w slots m takes r.
    on_failed g.D.Disk.tells (parts_beside g.D.Disk c.args.self.now w) c.args.number c.args.running slots m takes r c.requires.copied (seen g.D.Disk c.publish.new.self) c.publish.new.self.limbo.items c.publish.new.self.pinned (ap (λ l. l.items) c.publish.ensures.same.2) c.publish.ensures.same.1
    c.publish.result c.from.result c.from.ensures (said g w (goal.at.returns-in-Err-Fault g c).After-publish) (c.in-Err-Fault.is ∙ ap (λ (e : DiskErr). Err e) c.in-Err-Fault.field-0-is)

pub returns-in-Err-Memory : goal.returns-in-Err-Memory
returns-in-Err-Memory g c = λ w slots m takes r.
    on_spent g.D.Disk.tells (parts_beside g.D.Disk c.args.self.now w) c.args.number c.args.running slots m takes r c.requires.copied (seen g.D.Disk c.publish.new.self) c.publish.new.self.limbo.items c.publish.new.self.pinned (ap (λ l. l.items) c.publish.ensures.same.2) c.publish.ensures.same.1
    c.publish.result c.from.result c.from.ensures (said g w (goal.at.returns-in-Err-Memory g c).After-publish) c.publish.new.moving c.put_back-in-Err-Memory.new.self.slots.items (c.in-Err-Memory.is ∙ ap (λ (e : DiskErr). Err e) c.in-Err-Memory.field-0-is) c.in-Err-Memory.ensures.unpublished c.put_back-in-Err-Memory.ensures
