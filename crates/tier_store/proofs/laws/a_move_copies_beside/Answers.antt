use Rattle.tier_store.proofs.RunningMoves.{copies_begun, copies_still}
use Rattle.tier_store.proofs.laws.a_move_copies_beside.Goals as goal

pub returns-clause-begun : goal.returns-clause-begun
returns-clause-begun g c disk catalogue ms limbo held from source dest row n move told has here there stands begun running lists some = copies_begun from g.D.Disk.tells _ held source dest row n move told has here there stands begun running lists some

pub returns-clause-stays : goal.returns-clause-stays
returns-clause-stays g c old new catalogue later ms ns limbo left from move files held made same goes leaves heads firsts is = copies_still from g.D.Disk.tells _ _ move files held made same goes leaves heads firsts is
