use Rattle.tier_store.proofs.ReadCalls.{stand_none, stand_kept, stand_fewer}
use Rattle.tier_store.proofs.Retirements.{pins_kept}
use Rattle.tier_store.proofs.laws.pins_stand.Goals as goal

pub returns-clause-none : goal.returns-clause-none
returns-clause-none g c disk catalogue ms limbo = stand_none g.D.Disk.tells _

pub returns-clause-kept : goal.returns-clause-kept
returns-clause-kept g c old new catalogue later ms ns limbo left pins keeps stand = stand_kept g.D.Disk.tells _ _ pins keeps stand

pub returns-clause-swept : goal.returns-clause-swept
returns-clause-swept g c old new catalogue later ms ns limbo left pins copied leaves stand = pins_kept g.D.Disk.tells pins copied _ _ leaves stand

pub returns-clause-fewer : goal.returns-clause-fewer
returns-clause-fewer g c disk catalogue ms limbo pins n stand = stand_fewer g.D.Disk.tells _ pins n stand
