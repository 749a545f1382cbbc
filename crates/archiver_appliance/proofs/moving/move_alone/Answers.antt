use Rattle.std.proofs.Common.{rules}
use Rattle.archiver_appliance.proofs.Acting.{acts_alone}
use Rattle.archiver_appliance.proofs.moving.move_alone.Goals as goal

pub move_all_due-requires : goal.move_all_due-requires
move_all_due-requires g c = rw c.new-actor.ensures.archive c.requires

pub returns-clause-moves : goal.returns-clause-moves
returns-clause-moves g c =
    let does = c.move_all_due.ensures.moves in
    let made = does.1 in (
      does.0,
      does.2,
      acts_alone g.D.Disk c.new-actor.result.archive.now c.args.archive.now c.move_all_due.new.actor.archive.now _ c.new-actor.result.who does.0 made.entries made.just_these c.new-actor.ensures.number made.leads.2 c.new-actor.ensures.archive
          (search (rules, made.leads.0, c.new-actor.ensures.same_reference)),
    )

pub returns-clause-not_spent : goal.returns-clause-not_spent
returns-clause-not_spent g c is = c.move_all_due.ensures.spent is
