use Rattle.std.proofs.Common.{rules}
use Rattle.archiver_appliance.proofs.DrillReads.{acts_given_back}
use Rattle.archiver_appliance.proofs.drilling.moved.Goals.{in-Ok, in-Err}
use Rattle.archiver_appliance.proofs.drilling.moved.Goals as goal

pub move_all_due-requires : goal.move_all_due-requires
move_all_due-requires g c = rw c.new-actor.ensures.archive c.requires

pub returns : goal.returns
returns g c = elim c.match-move_all_due.branch [
  | in-Ok w ↦
      let does = w.in-Ok.ensures.moves in
      let made = acts_given_back g.D.Disk c.args.archive.now c.archive-1.given.0 c.new-actor.result c.move_all_due.new.actor c.new-actor.ensures.number c.new-actor.ensures.archive (λ same. search (rules, same, c.new-actor.ensures.same_reference)) does.0 does.1 in
      rw w.result-is (does.0, w.in-Ok.field-0, does.2, made)
  | in-Err w ↦ search (rules, w.result-is)
]
