use Rattle.archiver_appliance.proofs.Acting.{nested_in}
use Rattle.archiver_appliance.proofs.Services.{begins_with}
use Rattle.archiver_appliance.proofs.drilling.on_stores.Goals as goal

pub of-requires-clause-nested : goal.of-requires-clause-nested
of-requires-clause-nested g c = nested_in g.D.Disk c.args.store c.requires.fresh

pub returns-in-Ok : goal.returns-in-Ok
returns-in-Ok g c = λ held has. begins_with g.D.Disk c.args.store c.requires.fresh c.args.doors c.in-Ok.archive c.in-Ok.ensures.opened held has
