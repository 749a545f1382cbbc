use Rattle.std.proofs.Common.{◌≡◌, List, refl, sym, subst, arith}
use Rattle.series_model.specs.declared.sample.Sample.{Sample}
use Rattle.tier_store.specs.Opening.{end_of_answer}
use Rattle.tier_store.specs.Pinned.{SeenAll, PinsStand, seen_all}
use Rattle.tier_store.specs.Pinning.{SaysPinned}
use Rattle.tier_store.specs.Telling.{SaysOf}
use Rattle.act_model.specs.Pin.{MakesPin}
use Rattle.act_model.specs.Reply.{reply_of}
use Rattle.act_model.specs.declared.acts.Act.TheVariants.{Pin}
use Rattle.archive_core.specs.Acting.{Asked}
use Rattle.archive_core.specs.Leaving.{LeavesPins, files_of}
use Rattle.archive_core.specs.Parts.{InMemory, parts_beside}
use Rattle.archive_core.proofs.Opens.{pin_ends, pins_files}
use Rattle.archive_core.proofs.Opened.{reads_none}
use Rattle.archive_core.proofs.Settled.{rests_has}
use Rattle.archive_core.proofs.Batches.{tidy_reads}
use Rattle.archive_core.proofs.archive.StoreHalf.pin.Goals.{After-pin}
use Rattle.archive_core.proofs.archive.StoreHalf.pin.Goals as goal

pub pin-requires : goal.pin-requires
pin-requires g c = let was = c.requires.rests in record { has = (was.2.stands.store.before, rests_has g.D.Disk.tells (parts_beside g.D.Disk c.args.self.now was.0) was.1 was.2) }

-- the stores are what they were, but for their pins
still : (g : _) (c : After-pin g) (w : InMemory) → seen_all g.D.Disk c.pin.new.self ≡ files_of (parts_beside g.D.Disk c.args.self.now w)
still g c w = let call = c.pin.ensures in rw (call.same.0, call.same.1, call.same.2, call.limbo) refl

pub returns-clause-asked : goal.returns-clause-asked
returns-clause-asked g c = λ w row named tail.
    let q = parts_beside g.D.Disk c.args.self.now w in
    let pinned = c.pin.new.self.pinned in
    let call = c.pin.ensures in
    let same = still g (goal.at.returns-clause-asked g c).After-pin w in
    let given = reply_of g.D.Reader.ReadAt.tells g.D.Reader.ReadAt.bytes g.D.Reader.ReadAt.faults c.pin.result in
    let alone = reads_none g.D.Disk.tells q (record q { pinned = pinned }) refl in
    subst (λ (all : SeenAll). Asked g.D.Disk.tells (MakesPin c.args.who c.args.name.now c.args.query) q given (record q { at = all.stores; limbo = all.limbo; pinned = pinned })) (sym same) (record {
      asks = λ m r.
          let has = rests_has g.D.Disk.tells q m r in
          let says = subst (λ (xs : List Sample). SaysOf (SaysPinned {R = g.row.D-Reader.Denot} c.args.who c.args.name.now c.args.query xs q.pinned pinned) (end_of_answer c.pin.result) r.stands.store.before) tail (call.says r.stands.store.before has) in
          pin_ends g.row.D-Reader.Denot g.D.Disk.tells g.D.Reader.ReadAt.tells g.D.Reader.ReadAt.bytes g.D.Reader.ReadAt.faults q m r c.args.who row c.args.name.now c.args.query named c.pin.result pinned says call.unchanged
          (λ stand. subst (λ (all : SeenAll). PinsStand g.D.Disk.tells all pinned) same (call.stand stand)) (g.met.D.Disk.seen c.args.self.now.store.disk);
      reads = alone;
      faults = omega arith;
      tidy = λ settled. tidy_reads g.D.Disk.tells q (record q { pinned = pinned }) alone refl settled;
    })

pub returns-clause-made : goal.returns-clause-made
returns-clause-made g c = λ w.
    let was = c.requires.rests in
    let q = parts_beside g.D.Disk c.args.self.now w in
    let pinned = c.pin.new.self.pinned in
    let has = rests_has g.D.Disk.tells (parts_beside g.D.Disk c.args.self.now was.0) was.1 was.2 in
    let held = was.2.stands.store.before in
    let given = reply_of g.D.Reader.ReadAt.tells g.D.Reader.ReadAt.bytes g.D.Reader.ReadAt.faults c.pin.result in
    subst (λ (all : SeenAll). LeavesPins g.D.Disk.tells q (Pin c.args.name.now c.args.query) given (record q { at = all.stores; limbo = all.limbo; pinned = pinned })) (sym (still g (goal.at.returns-clause-made g c).After-pin w))
    (pins_files g.row.D-Reader.Denot g.D.Disk.tells g.D.Reader.ReadAt.tells g.D.Reader.ReadAt.bytes g.D.Reader.ReadAt.faults q pinned held has.known c.args.who c.args.name.now c.args.query _ c.pin.result (c.pin.ensures.says held has))
