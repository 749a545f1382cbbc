use Rattle.std.proofs.Common.{rules}
use Rattle.archiver_appliance.proofs.DrillRuns.{feeds_left, served_unopened, were_fed, were_spent}
use Rattle.archiver_appliance.proofs.drilling.served.Goals as goal

pub returns-clause-unopened : goal.returns-clause-unopened
returns-clause-unopened g c =
    let leaves = c.in-Ok.ensures.leaves in
    served_unopened g.D.Disk c.args.disk c.args.drill.hours c.in_ok-archive.archive c.in-Ok.archive leaves.0 c.in-Ok.told c.serve_archive.new.posts c.in_ok-archive.ensures.begun _ leaves.1 (feeds_left c.args.drill.hours leaves.0 c.in-Ok.told _ _ leaves.2 (search rules)) c.into_store.result c.into_disk.result c.into_store.ensures c.into_disk.ensures c.in_ok-archive.ensures.stands
    (λ told. (g.met.D.Disk g.world.𝓛 g.world.𝓜 g.world.𝓡 ((λ s x. x), (λ x. x), (λ x. x), λ x. x)).seen c.in-Ok.archive.half.store.disk told)

pub returns-clause-fed : goal.returns-clause-fed
returns-clause-fed g c =
    let leaves = c.in-Ok.ensures.leaves in
    were_fed g.D.Disk c.args.disk c.args.drill.hours c.in_ok-archive.archive c.in-Ok.archive leaves.0 c.in-Ok.told c.serve_archive.new.posts c.in_ok-archive.ensures.begun _ leaves.1 (feeds_left c.args.drill.hours leaves.0 c.in-Ok.told _ _ leaves.2 (search rules)) c.into_store.result c.into_disk.result c.into_store.ensures c.into_disk.ensures (search rules)

pub returns-then-told-clause-spent : goal.returns-then-told-clause-spent
returns-then-told-clause-spent g c is told =
    let leaves = c.in-Ok.ensures.leaves in
    were_spent g.D.Disk c.args.disk c.args.drill.hours c.in_ok-archive.archive c.in-Ok.archive leaves.0 c.in-Ok.told c.serve_archive.new.posts c.in_ok-archive.ensures.begun _ leaves.1 (feeds_left c.args.drill.hours leaves.0 c.in-Ok.told _ _ leaves.2 (search rules)) c.if-told.true told
