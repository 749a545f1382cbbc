use Rattle.std.proofs.Common.{◌-◌, ◌<◌}
use Rattle.act_model.specs.Machine.{Machine}
use Rattle.admin_commands.proofs.Gathering.{Gathered}
use Rattle.admin_commands.proofs.calls.gather_names.Given as goal

abbrev pub invariant-pages : goal.invariant-pages
invariant-pages g l = record {
  stands : (m : Machine) × g.A.Actor.stands l.actor m;
  below : l.from < 65536;
  gathered : Gathered g.A.Actor.number g.A.Actor.between l.fn.actor l.names.items l.from l.actor;
}

abbrev pub decreases-pages : goal.decreases-pages
decreases-pages g l = 65536 - l.from
