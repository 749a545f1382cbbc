use Rattle.tier_store.proofs.RunningMoves.{runs_begun, runs_listed, runs_still, fewer_names}
use Rattle.tier_store.proofs.laws.a_move_runs_beside.Goals as goal

pub returns-clause-begun : goal.returns-clause-begun
returns-clause-begun g c disk catalogue ms limbo held i from source dest row n move has next here there stands begun running lists = runs_begun i from g.D.Disk.tells _ held source dest row n move has next here there stands begun running lists

pub returns-clause-stays : goal.returns-clause-stays
returns-clause-stays g c old new catalogue later ms ns limbo left i move files held made same goes leaves runs = runs_still i g.D.Disk.tells _ _ move files held made same goes leaves runs

pub returns-clause-listed : goal.returns-clause-listed
returns-clause-listed g c old new catalogue later ms ns limbo left i move files held same low copied leaves runs = runs_listed i g.D.Disk.tells _ _ move files held same low copied leaves runs

pub returns-clause-fewer : goal.returns-clause-fewer
returns-clause-fewer g c old new catalogue later ms ns limbo left names more among leaves = fewer_names names more g.D.Disk.tells _ _ among leaves
