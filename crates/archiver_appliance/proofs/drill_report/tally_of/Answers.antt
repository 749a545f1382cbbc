use Rattle.std.proofs.Common.{rules, ℕ, List, Option, sym, subst}
use Rattle.drill_feed.specs.declared.report.Tally.{Tally}
use Rattle.archiver_appliance.specs.Drilling.{CameTo, HasTally, TellsOn}
use Rattle.archiver_appliance.proofs.DrillReads.{retrieval_acts, stands_behind, tells_tally}
use Rattle.archiver_appliance.proofs.drill_report.tally_of.Goals.{in-Finished, in_default}
use Rattle.archiver_appliance.proofs.drill_report.tally_of.Goals as goal

pub retrieve-requires : goal.retrieve-requires
retrieve-requires g c = rw c.new-actor.ensures.archive c.requires

pub returns-clause-stands : goal.returns-clause-stands
returns-clause-stands g c =
    let R = g.D.Reader.ReadAt in
    let acts = retrieval_acts g.D.Disk c.args.archive.now c.archive-1.given.0 c.new-actor.result c.retrieve.new.actor c.new-actor.ensures.number c.new-actor.ensures.archive (λ same. search (rules, same, c.new-actor.ensures.same_reference)) R.tells R.faults _ c.as_bytes.result.now c.args.query c.new-out.result c.retrieve.new.out c.retrieve.result c.retrieve.ensures.acts in
    stands_behind g.D.Disk c.args.archive.now c.archive-1.given.0 acts.0 c.requires.stands acts.1

pub returns-clause-tally : goal.returns-clause-tally
returns-clause-tally g c = elim c.match-retrieve.branch [
  | in-Finished w ↦
      let R = g.D.Reader.ReadAt in
      let out = c.retrieve.new.out in
      let told = tells_tally g.D.Disk c.args.archive.now c.archive-1.given.0 c.new-actor.result c.retrieve.new.actor c.new-actor.ensures.number c.new-actor.ensures.archive (λ same. search (rules, same, c.new-actor.ensures.same_reference)) R.tells R.faults ⊥ c.as_bytes.result.now c.args.query c.new-out.result out _ (λ t. g.met.D.Disk.readers_tell t) (λ t m stands is reads. w.in-Finished.ensures.whole t m stands is reads) in
      rw w.result-is
      (subst (λ (t : Option Tally). TellsOn g.D.Disk c.args.archive.now c.archive-1.given.0 (λ m entries. CameTo m entries (HasTally c.args.name.now c.args.query t))) (sym w.tally.ensures.value)
      (subst (λ (n : List ℕ). TellsOn g.D.Disk c.args.archive.now c.archive-1.given.0 (λ m entries. CameTo m entries (HasTally n c.args.query out.tally))) c.as_bytes.ensures.value told))
  | in_default w ↦ search (rules, w.result-is)
]
