use Rattle.std.proofs.Common.{◌∙◌, ◌-◌, ap, sym}
use Rattle.std.specs.Prelude.{Ok, Err, Result}
use Rattle.disk_model.specs.declared.disk.DiskErr.{DiskErr}
use Rattle.tier_store.specs.Seen.{seen}
use Rattle.tier_store.specs.declared.retirement.RetireEnd.{RetireEnd}
use Rattle.tier_store.specs.declared.retirement.RetireEnd.TheVariants as ends
use Rattle.archive_core.specs.Parts.{InMemory, parts_beside}
use Rattle.archive_core.proofs.Retirement.{StoresRetired, few, has_there, limbo_stands, none_done, on_again, on_failed, on_retired, on_spent, on_unremoved, some_store, within}
use Rattle.archive_core.proofs.archive.StoreHalf.retire_taken.Goals.{After-retire}
use Rattle.archive_core.proofs.archive.StoreHalf.retire_taken.Goals as goal

pub returns-in_default : goal.returns-in_default
returns-in_default g c = λ w slots m takes r. none_done g.D.Disk.tells (parts_beside g.D.Disk c.args.self.now w) c.args.number c.args.running slots m takes r c.requires.published c.put_back.new.self.slots.items c.put_back.ensures

pub overflow_sub-from : goal.overflow_sub-from
overflow_sub-from g c = let t = c.requires.taken.1 in some_store g.D.Disk.tells (parts_beside g.D.Disk c.args.self.now c.requires.taken.0) c.args.number c.args.running t.0 t.1 t.2 t.3 c.requires.published c.from.result c.from.ensures

pub retire-requires-clause-within : goal.retire-requires-clause-within
retire-requires-clause-within g c = let t = c.requires.taken.1 in within g.D.Disk.tells (parts_beside g.D.Disk c.args.self.now c.requires.taken.0) c.args.number c.args.running t.0 t.1 t.2 t.3 c.requires.published c.from.result c.from.ensures

pub retire-requires-clause-few : goal.retire-requires-clause-few
retire-requires-clause-few g c = let t = c.requires.taken.1 in few g.D.Disk.tells (parts_beside g.D.Disk c.args.self.now c.requires.taken.0) c.args.number c.args.running t.0 t.1 t.2 t.3 c.requires.published c.deref.result.now (c.deref.ensures.value ∙ c.in-Ok.ensures)

pub retire-requires-clause-has : goal.retire-requires-clause-has
retire-requires-clause-has g c = let t = c.requires.taken.1 in has_there g.D.Disk.tells (parts_beside g.D.Disk c.args.self.now c.requires.taken.0) c.args.number c.args.running t.0 t.1 t.2 t.3 c.requires.published

pub retire-requires-clause-stands : goal.retire-requires-clause-stands
retire-requires-clause-stands g c = let t = c.requires.taken.1 in limbo_stands g.D.Disk.tells (parts_beside g.D.Disk c.args.self.now c.requires.taken.0) c.args.number c.args.running t.0 t.1 t.2 t.3 c.requires.published

-- what the stores say
said : (g : _) (w : InMemory) (c : After-retire g) → StoresRetired g.D.Disk.tells (c.from.result - 1) c.args.running.series c.deref.result.now (parts_beside g.D.Disk c.args.self.now w) (seen g.D.Disk c.retire.new.self) c.retire.new.self.limbo.items c.retire.result
said g w c =
    let call = c.retire.ensures in
    record {
      changes = call.changes;
      again = λ len copied is. ap (λ l. l.items) (call.again len copied is);
      fails = call.fails;
      cause = call.cause;
      shown = call.shown;
      whole = call.whole;
      leaves = call.leaves;
      stands = call.stands;
      tidy = call.tidy;
    }

pub returns-in-Ok-Retired-Ok : goal.returns-in-Ok-Retired-Ok
returns-in-Ok-Retired-Ok g c = λ w slots m takes r.
    on_retired g.D.Disk.tells (parts_beside g.D.Disk c.args.self.now w) c.args.number c.args.running slots m takes r c.requires.published (g.met.D.Disk.seen c.args.self.now.store.disk) c.from.result c.from.ensures c.deref.result.now (c.deref.ensures.value ∙ c.in-Ok.ensures)
    (seen g.D.Disk c.retire.new.self) c.retire.new.self.limbo.items c.retire.new.self.pinned c.retire.ensures.same.1 c.retire.result (said g w (goal.at.returns-in-Ok-Retired-Ok g c).After-retire) c.len.result (c.in-Ok-Retired-Ok.is ∙ ap (λ (e : RetireEnd). Ok e) (c.in-Ok-Retired-Ok.field-0-is ∙ ap (λ (x : Result (Unit {0}) DiskErr). ends.Retired x) c.in-Ok-Retired-Ok.field-0-0-is)) (c.len.ensures ∙ sym c.deref.ensures.len)

pub returns-in-Ok-Retired-Err : goal.returns-in-Ok-Retired-Err
returns-in-Ok-Retired-Err g c = λ w slots m takes r.
    on_unremoved g.D.Disk.tells (parts_beside g.D.Disk c.args.self.now w) c.args.number c.args.running slots m takes r c.requires.published (g.met.D.Disk.seen c.args.self.now.store.disk) c.from.result c.from.ensures c.deref.result.now (c.deref.ensures.value ∙ c.in-Ok.ensures)
    (seen g.D.Disk c.retire.new.self) c.retire.new.self.limbo.items c.retire.new.self.pinned c.retire.ensures.same.1 c.retire.result (said g w (goal.at.returns-in-Ok-Retired-Err g c).After-retire) c.in-Ok-Retired-Err.field-0-0-0 (c.in-Ok-Retired-Err.is ∙ ap (λ (e : RetireEnd). Ok e) (c.in-Ok-Retired-Err.field-0-is ∙ ap (λ (x : Result (Unit {0}) DiskErr). ends.Retired x) c.in-Ok-Retired-Err.field-0-0-is))

pub returns-in-Ok-Again : goal.returns-in-Ok-Again
returns-in-Ok-Again g c = λ w slots m takes r.
    on_again g.D.Disk.tells (parts_beside g.D.Disk c.args.self.now w) c.args.number c.args.running slots m takes r c.requires.published (g.met.D.Disk.seen c.args.self.now.store.disk) c.from.result c.from.ensures c.deref.result.now (c.deref.ensures.value ∙ c.in-Ok.ensures)
    (seen g.D.Disk c.retire.new.self) c.retire.new.self.limbo.items c.retire.new.self.pinned c.retire.ensures.same.1 c.retire.result (said g w (goal.at.returns-in-Ok-Again g c).After-retire) c.in-Ok-Again.len c.in-Ok-Again.copied (c.in-Ok-Again.is ∙ ap (λ (e : RetireEnd). Ok e) c.in-Ok-Again.field-0-is)

pub returns-in-Err-Fault : goal.returns-in-Err-Fault
returns-in-Err-Fault g c = λ w slots m takes r.
    on_failed g.D.Disk.tells (parts_beside g.D.Disk c.args.self.now w) c.args.number c.args.running slots m takes r c.requires.published (g.met.D.Disk.seen c.args.self.now.store.disk) c.from.result c.from.ensures c.deref.result.now (c.deref.ensures.value ∙ c.in-Ok.ensures)
    (seen g.D.Disk c.retire.new.self) c.retire.new.self.limbo.items c.retire.new.self.pinned c.retire.ensures.same.1 c.retire.result (said g w (goal.at.returns-in-Err-Fault g c).After-retire) (c.in-Err-Fault.is ∙ ap (λ (e : DiskErr). Err e) c.in-Err-Fault.field-0-is)

pub returns : goal.returns
returns g c = λ w slots m takes r.
    on_spent g.D.Disk.tells (parts_beside g.D.Disk c.args.self.now w) c.args.number c.args.running slots m takes r c.requires.published (g.met.D.Disk.seen c.args.self.now.store.disk) c.from.result c.from.ensures c.deref.result.now (c.deref.ensures.value ∙ c.in-Ok.ensures)
    (seen g.D.Disk c.retire.new.self) c.retire.new.self.limbo.items c.retire.new.self.pinned c.retire.ensures.same.1 c.retire.result (said g w (goal.at.returns g c).After-retire) c.put_back-in-Err-Memory.new.self.slots.items (c.in-Err-Memory.is ∙ ap (λ (e : DiskErr). Err e) c.in-Err-Memory.field-0-is) c.put_back-in-Err-Memory.ensures
