use Rattle.std.proofs.Common.{ap, subst}
use Rattle.gate_journal.specs.DiskShown.{shown_by}
use Rattle.tier_store.specs.Opening.{end_of_answer}
use Rattle.tier_store.specs.Pinned.{PinsStand, SeenAll}
use Rattle.tier_store.specs.Seen.{seen}
use Rattle.durable_write.specs.Ends.{IsCut}
use Rattle.tier_store.proofs.PinnedFiles.{same_pins, says, stands}
use Rattle.tier_store.proofs.Retirements.{same_all, same_seen}
use Rattle.tier_store.proofs.store.TierStore.pin.Goals as goal

pub pin_named-requires : goal.pin_named-requires
pin_named-requires g c = record { three = c.requires.has.1.known.three }

pub returns-clause-says : goal.returns-clause-says
returns-clause-says g c held has =
    let told = c.pin_named.ensures in
    rw c.told.ensures (says g.D.Disk.tells (seen g.D.Disk c.args.self.now) held c.args.who c.args.name.now c.args.query c.args.tail c.args.self.now.pinned c.pin_named.new.self.pinned has c.pin_named.result told.pinned told.memory)

pub returns-clause-unchanged : goal.returns-clause-unchanged
returns-clause-unchanged g c cut =
    let told = c.pin_named.ensures in
    let held = c.requires.has in
    same_pins g.D.Disk.tells (seen g.D.Disk c.args.self.now) held.0 c.args.who c.args.name.now c.args.query c.args.tail c.args.self.now.pinned c.pin_named.new.self.pinned held.1 c.pin_named.result told.pinned told.memory
    (subst (λ a. IsCut (end_of_answer a)) c.told.ensures cut)

pub returns-clause-stand : goal.returns-clause-stand
returns-clause-stand g c stand =
    let old = c.args.self.now in
    let new = c.pin_named.new.self in
    let disk = g.D.Disk in
    let told = c.pin_named.ensures in
    let same = told.same in
    let held = c.requires.has in
    subst (λ (s : SeenAll). PinsStand disk.tells s new.pinned)
    (same_all (seen disk old) _ old.limbo.items new.limbo.items (same_seen (shown_by disk) disk.faults old.catalogue new.catalogue old.manifests.items new.manifests.items old.disk new.disk same.0 (ap (λ m. m.items) same.1) same.2) (ap (λ l. l.items) told.limbo))
    (stands disk.tells (seen disk old) held.0 c.args.who c.args.name.now c.args.query c.args.tail old.pinned new.pinned held.1 old.limbo.items c.pin_named.result told.pinned told.memory stand)
