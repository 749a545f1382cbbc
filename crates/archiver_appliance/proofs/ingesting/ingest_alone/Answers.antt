use Rattle.std.proofs.Common.{rules}
use Rattle.archiver_appliance.proofs.Acting.{acts_alone}
use Rattle.archiver_appliance.proofs.ingesting.ingest_alone.Goals as goal

pub ingest-requires : goal.ingest-requires
ingest-requires g c = rw c.new-actor.ensures.archive c.requires

pub returns-clause-session : goal.returns-clause-session
returns-clause-session g c =
    let i = c.ingest.ensures.ingests in
    let made = i.ended.made in (
      i.taken,
      i.ended.mine,
      i.ended.session,
      acts_alone g.D.Disk c.new-actor.result.archive.now c.args.archive.now c.ingest.new.actor.archive.now _ c.new-actor.result.who i.ended.mine made.entries made.just_these c.new-actor.ensures.number made.leads.2 c.new-actor.ensures.archive
          (search (rules, made.leads.0, c.new-actor.ensures.same_reference)),
    )

pub returns-clause-not_spent : goal.returns-clause-not_spent
returns-clause-not_spent g c is = c.ingest.ensures.spent is
