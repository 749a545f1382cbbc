use Rattle.std.proofs.Common.{refl, ap, subst}
use Rattle.gate_journal.specs.DiskShown.{shown_by}
use Rattle.tier_store.specs.Change.{Has}
use Rattle.tier_store.specs.Seen.{Seen}
use Rattle.tier_store.proofs.OnePlace.{only_reads}
use Rattle.tier_store.proofs.ReadCalls.{has_read}
use Rattle.tier_store.proofs.Retirements.{same_seen}
use Rattle.tier_store.proofs.Frames.{read_frame}
use Rattle.tier_store.proofs.store.TierStore.tally.Goals as goal

pub tally_line-requires-clause-three : goal.tally_line-requires-clause-three
tally_line-requires-clause-three g c = c.requires.has.1.known.three

pub returns-clause-kept : goal.returns-clause-kept
returns-clause-kept g c held has =
    let old = c.args.self.now in
    let new = c.tally_line.new.self in
    let disk = g.D.Disk in
    let told = c.tally_line.ensures in
    subst (λ (s : Seen). Has disk.tells s held)
    (same_seen (shown_by disk) disk.faults old.catalogue new.catalogue old.manifests.items new.manifests.items new.disk new.disk told.same.0 (ap (λ m. m.items) told.same.1) refl)
    (has_read (shown_by disk) disk.faults disk.tells old.catalogue old.manifests.items old.disk new.disk told.reads held has)

pub returns-clause-reads : goal.returns-clause-reads
returns-clause-reads g c =
    let told = c.tally_line.ensures in
    only_reads g.D.Disk.tells _ _ c.tally_line.result (λ tells. (told.reads tells).same) (λ tells. (told.reads tells).any_moment) told.faults told.cause

pub returns-clause-frame : goal.returns-clause-frame
returns-clause-frame g c =
    let says = c.tally_line.ensures in
    read_frame g.D.Disk.tells _ _ c.requires.has.1.known.three says.same.0 (ap (λ v. v.items) says.same.1) (ap (λ v. v.items) says.same.3) (λ told. (says.reads told).same) (λ told. (says.reads told).same_opened) (λ told. (says.reads told).any_moment)
