use Rattle.std.proofs.Common.{refl, ap, subst}
use Rattle.gate_journal.specs.DiskShown.{shown_by}
use Rattle.tier_store.specs.Change.{Has, OnlyReads}
use Rattle.tier_store.specs.Opening.{answer_of, end_of_answer}
use Rattle.tier_store.specs.Seen.{Seen, seen}
use Rattle.tier_store.proofs.ReadCalls.{described_cause, has_read, says_described}
use Rattle.tier_store.proofs.Retirements.{same_seen}
use Rattle.tier_store.proofs.Frames.{read_frame}
use Rattle.tier_store.proofs.store.TierStore.details.Goals as goal

pub describe_named-requires : goal.describe_named-requires
describe_named-requires g c = record { three = c.requires.has.1.known.three; has = c.requires.has }

pub returns-clause-says : goal.returns-clause-says
returns-clause-says g c held has = rw c.told.ensures (says_described g.D.Disk.tells c.args.name.now c.args.tail.now held c.describe_named.result (c.describe_named.ensures.says held has))

pub returns-clause-kept : goal.returns-clause-kept
returns-clause-kept g c held has =
    let old = c.args.self.now in
    let new = c.describe_named.new.self in
    let disk = g.D.Disk in
    let says = c.describe_named.ensures in
    subst (λ (s : Seen). Has disk.tells s held)
    (same_seen (shown_by disk) disk.faults old.catalogue new.catalogue old.manifests.items new.manifests.items new.disk new.disk says.same.0 (ap (λ m. m.items) says.same.1) refl)
    (has_read (shown_by disk) disk.faults disk.tells old.catalogue old.manifests.items old.disk new.disk says.reads held has)

pub returns-clause-reads : goal.returns-clause-reads
returns-clause-reads g c =
    let disk = g.D.Disk in
    let was = seen disk c.args.self.now in
    let now = seen disk c.describe_named.new.self in
    let says = c.describe_named.ensures in
    let held = c.requires.has in
    let reads : OnlyReads disk.tells was now (end_of_answer (answer_of c.describe_named.result)) = record {
      files = λ told. (says.reads told).same;
      any_moment = λ told. (says.reads told).any_moment;
      faults = says.faults;
      cause = described_cause disk.tells c.args.name.now c.args.tail.now held.0 was.faults now.faults c.describe_named.result (says.says held.0 held.1) says.cause;
    } in
    rw c.told.ensures reads

pub returns-clause-frame : goal.returns-clause-frame
returns-clause-frame g c =
    let says = c.describe_named.ensures in
    read_frame g.D.Disk.tells _ _ c.requires.has.1.known.three says.same.0 (ap (λ v. v.items) says.same.1) (ap (λ v. v.items) says.same.3) (λ told. (says.reads told).same) (λ told. (says.reads told).same_opened) (λ told. (says.reads told).any_moment)
