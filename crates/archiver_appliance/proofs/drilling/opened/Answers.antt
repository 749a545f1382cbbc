use Rattle.archiver_appliance.proofs.DrillRuns.{opened_by, stands_by}
use Rattle.archiver_appliance.proofs.drilling.opened.Goals as goal

pub returns-in-Ok-clause-stands : goal.returns-in-Ok-clause-stands
returns-in-Ok-clause-stands g c = stands_by g.D.Disk c.in-Ok.store c.args.doors c.on_stores.result c.in-Ok.ensures.opened.has c.on_stores.ensures

pub returns-in-Ok-clause-begun : goal.returns-in-Ok-clause-begun
returns-in-Ok-clause-begun g c = opened_by g.D.Disk c.in-Ok.store c.args.config.now c.args.disk c.args.doors c.on_stores.result c.in-Ok.ensures.settings c.in-Ok.ensures.opened.stands c.on_stores.ensures
