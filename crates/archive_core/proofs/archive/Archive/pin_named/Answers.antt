use Rattle.std.proofs.Common.{ℕ, Option, Err, refl, ◌∙◌, ap, subst}
use Rattle.std.proofs.lemmas.Result.{err_from_is_err_and}
use Rattle.disk_model.specs.declared.disk.DiskErr.{DiskErr}
use Rattle.disk_model.specs.declared.disk.DiskErr.TheVariants.{Memory}
use Rattle.pv_catalog.specs.Catalogue.{CatalogueState}
use Rattle.durable_write.specs.Ends.{end_of_disk}
use Rattle.tier_store.specs.Pinned.{SeenAll, seen_all}
use Rattle.act_model.specs.Pin.{MakesPin}
use Rattle.act_model.specs.Reply.{reply_of}
use Rattle.act_model.specs.declared.acts.Act.TheVariants.{Pin}
use Rattle.act_model.specs.declared.acts.Answer.TheVariants.{NoSuchVariable}
use Rattle.archive_core.proofs.Opens.{pins_act, pins_failed, pins_then}
use Rattle.archive_core.proofs.Opened.{reads_none, reads_settling, reads_then}
use Rattle.archive_core.specs.Parts.{memory_in, parts, parts_beside}
use Rattle.archive_core.specs.Switching.{IsFound}
use Rattle.archive_core.proofs.Acting.{acted, asked_then, cut, refused_first, refused_then, spent_then}
use Rattle.archive_core.proofs.Registered.{failed_told, known, unknown}
use Rattle.archive_core.proofs.archive.Archive.pin_named.Goals.{After-find, After-find-2}
use Rattle.archive_core.proofs.archive.Archive.pin_named.Goals as goal

-- the row of the name, if one has it, before a doubt is settled
found : (g : _) (c : After-find g) → IsFound c.args.self.now.half.store.catalogue.rows c.args.name.now c.find.result
found g c = subst (λ (x : CatalogueState). IsFound x.rows c.args.name.now c.find.result) c.catalogue.ensures (record { there = c.find.ensures.found; only = c.find.ensures.only })

-- and then
found_then : (g : _) (c : After-find-2 g) → IsFound c.settle.new.self.half.store.catalogue.rows c.args.name.now c.find-2.result
found_then g c = subst (λ (x : CatalogueState). IsFound x.rows c.args.name.now c.find-2.result) c.catalogue-2.ensures (record { there = c.find-2.ensures.found; only = c.find-2.ensures.only })

pub returns-in_default-clause-acted : goal.returns-in_default-clause-acted
returns-in_default-clause-acted g c =
    let p = parts g.D.Disk c.args.self.now in
    let none = subst (λ (o : Option ℕ). IsFound p.at.catalogue.rows c.args.name.now o) c.in_default.is (found g (goal.at.returns-in_default-clause-acted g c).After-find) in
    acted g.D.Disk.tells c.args.who (Pin c.args.name.now c.args.query) p NoSuchVariable p (refused_first g.D.Disk.tells c.args.who (Pin c.args.name.now c.args.query) (MakesPin c.args.who c.args.name.now c.args.query) (pins_act c.args.who c.args.name.now c.args.query) p NoSuchVariable (unknown g.D.Disk.tells c.args.name.now p none)) (reads_none g.D.Disk.tells p p refl) tt tt

pub returns-in_err-settle-clause-acted : goal.returns-in_err-settle-clause-acted
returns-in_err-settle-clause-acted g c =
    let p = parts g.D.Disk c.args.self.now in
    let q = parts g.D.Disk c.settle.new.self in
    let some = subst (λ (o : Option ℕ). IsFound p.at.catalogue.rows c.args.name.now o) c.in-Some.is (found g (goal.at.returns-in_err-settle-clause-acted g c).After-find) in
    let e = err_from_is_err_and c.from_residual.result c.from_residual.ensures.1 in
    failed_told g.row.D-Reader.Denot g.D.Reader.ReadAt.tells g.D.Reader.ReadAt.bytes g.D.Reader.ReadAt.faults g.D.Disk.tells c.args.who (Pin c.args.name.now c.args.query) p q c.from_residual.result c.in_err-settle.field-0.0 (e.1 ∙ ap (λ (d : DiskErr). Err d) e.2)
    (acted g.D.Disk.tells c.args.who (Pin c.args.name.now c.args.query) p _ q (cut g.D.Disk.tells c.args.who (Pin c.args.name.now c.args.query) (MakesPin c.args.who c.args.name.now c.args.query) (pins_act c.args.who c.args.name.now c.args.query) p q c.settle.result c.settle.ensures.settling (λ settled. ap (seen_all g.D.Disk) (c.settle.ensures.quiet settled)) (known g.D.Disk.tells c.args.name.now p c.in-Some.field-0 some) c.in_err-settle.field-0.0 c.in_err-settle.was c.in_err-settle.ensures.still)
    (reads_settling g.D.Disk.tells p q (end_of_disk c.settle.result) c.settle.ensures.settling (λ settled. ap (seen_all g.D.Disk) (c.settle.ensures.quiet settled))) (pins_failed g.D.Disk.tells p q c.args.name.now c.args.query c.in_err-settle.field-0.0) tt)

pub returns-in_default-find-clause-acted : goal.returns-in_default-find-clause-acted
returns-in_default-find-clause-acted g c =
    let p = parts g.D.Disk c.args.self.now in
    let q = parts g.D.Disk c.settle.new.self in
    let some = subst (λ (o : Option ℕ). IsFound p.at.catalogue.rows c.args.name.now o) c.in-Some.is (found g (goal.at.returns-in_default-find-clause-acted g c).After-find) in
    let none = subst (λ (o : Option ℕ). IsFound q.at.catalogue.rows c.args.name.now o) c.in_default-find.is (found_then g (goal.at.returns-in_default-find-clause-acted g c).After-find-2) in
    acted g.D.Disk.tells c.args.who (Pin c.args.name.now c.args.query) p NoSuchVariable q (refused_then g.D.Disk.tells c.args.who (Pin c.args.name.now c.args.query) (MakesPin c.args.who c.args.name.now c.args.query) (pins_act c.args.who c.args.name.now c.args.query) p q c.settle.result c.settle.ensures.settling (λ settled. ap (seen_all g.D.Disk) (c.settle.ensures.quiet settled)) (known g.D.Disk.tells c.args.name.now p c.in-Some.field-0 some) c.in_ok-settle.ensures.settled NoSuchVariable (λ old was. unknown g.D.Disk.tells c.args.name.now q none))
    (reads_settling g.D.Disk.tells p q (end_of_disk c.settle.result) c.settle.ensures.settling (λ settled. ap (seen_all g.D.Disk) (c.settle.ensures.quiet settled))) tt tt

pub returns-in_err-tail-clause-acted : goal.returns-in_err-tail-clause-acted
returns-in_err-tail-clause-acted g c =
    let p = parts g.D.Disk c.args.self.now in
    let q = parts g.D.Disk c.settle.new.self in
    let some = subst (λ (o : Option ℕ). IsFound p.at.catalogue.rows c.args.name.now o) c.in-Some.is (found g (goal.at.returns-in_err-tail-clause-acted g c).After-find) in
    let some_then = subst (λ (o : Option ℕ). IsFound q.at.catalogue.rows c.args.name.now o) c.in-Some-find.is (found_then g (goal.at.returns-in_err-tail-clause-acted g c).After-find-2) in
    let e = err_from_is_err_and c.from_residual-in_err-tail.result c.from_residual-in_err-tail.ensures.1 in
    failed_told g.row.D-Reader.Denot g.D.Reader.ReadAt.tells g.D.Reader.ReadAt.bytes g.D.Reader.ReadAt.faults g.D.Disk.tells c.args.who (Pin c.args.name.now c.args.query) p q c.from_residual-in_err-tail.result Memory (e.1 ∙ ap (λ (d : DiskErr). Err d) e.2)
    (acted g.D.Disk.tells c.args.who (Pin c.args.name.now c.args.query) p _ q (spent_then g.D.Disk.tells c.args.who (Pin c.args.name.now c.args.query) (MakesPin c.args.who c.args.name.now c.args.query) (pins_act c.args.who c.args.name.now c.args.query) p q c.settle.result c.settle.ensures.settling (λ settled. ap (seen_all g.D.Disk) (c.settle.ensures.quiet settled)) (known g.D.Disk.tells c.args.name.now p c.in-Some.field-0 some) c.in_ok-settle.ensures.settled (known g.D.Disk.tells c.args.name.now q c.in-Some-find.row some_then))
    (reads_settling g.D.Disk.tells p q (end_of_disk c.settle.result) c.settle.ensures.settling (λ settled. ap (seen_all g.D.Disk) (c.settle.ensures.quiet settled))) tt tt)

pub pin-requires : goal.pin-requires
pin-requires g c =
    let was = c.requires.stands in
    let then = c.in_ok-settle.ensures.settled was.0 was.1 in
    record { rests = (memory_in c.settle.new.self, record then.0 { faults = (parts g.D.Disk c.settle.new.self).at.faults }, then.2) }

pub returns-clause-acted : goal.returns-clause-acted
returns-clause-acted g c =
    let p = parts g.D.Disk c.args.self.now in
    let q = parts g.D.Disk c.settle.new.self in
    let w = memory_in c.settle.new.self in
    let new = parts_beside g.D.Disk c.pin.new.self w in
    let some = subst (λ (o : Option ℕ). IsFound p.at.catalogue.rows c.args.name.now o) c.in-Some.is (found g (goal.at.returns-clause-acted g c).After-find) in
    let some_then = subst (λ (o : Option ℕ). IsFound q.at.catalogue.rows c.args.name.now o) c.in-Some-find.is (found_then g (goal.at.returns-clause-acted g c).After-find-2) in
    let asked = c.pin.ensures.asked w c.in-Some-find.row some_then.there (c.in_ok-tail.ensures ∙ c.tail.ensures) in
    let given = reply_of g.D.Reader.ReadAt.tells g.D.Reader.ReadAt.bytes g.D.Reader.ReadAt.faults c.pin.result in
    acted g.D.Disk.tells c.args.who (Pin c.args.name.now c.args.query) p given new (asked_then g.D.Disk.tells c.args.who (Pin c.args.name.now c.args.query) (MakesPin c.args.who c.args.name.now c.args.query) (pins_act c.args.who c.args.name.now c.args.query) p q c.settle.result c.settle.ensures.settling (λ settled. ap (seen_all g.D.Disk) (c.settle.ensures.quiet settled)) (known g.D.Disk.tells c.args.name.now p c.in-Some.field-0 some) c.in_ok-settle.ensures.settled (known g.D.Disk.tells c.args.name.now q c.in-Some-find.row some_then) new given asked.faults asked.asks
    asked.reads (λ settled well. asked.tidy settled))
    (reads_then g.D.Disk.tells p q new (reads_settling g.D.Disk.tells p q (end_of_disk c.settle.result) c.settle.ensures.settling (λ settled. ap (seen_all g.D.Disk) (c.settle.ensures.quiet settled))) asked.reads)
    (pins_then g.D.Disk.tells p q new c.args.name.now c.args.query given (λ settled. ap (λ (all : SeenAll). all.stores) (ap (seen_all g.D.Disk) (c.settle.ensures.quiet settled))) (c.pin.ensures.made w)) tt
