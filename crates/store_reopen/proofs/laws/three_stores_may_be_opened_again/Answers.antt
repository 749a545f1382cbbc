use Rattle.tier_store.specs.Seen.{seen}
use Rattle.store_reopen.proofs.Swept.{has_opens, doubt_opens, open_unopened}
use Rattle.store_reopen.proofs.laws.three_stores_may_be_opened_again.Goals as goal

pub returns-clause-settled : goal.returns-clause-settled
returns-clause-settled g c store held told has = has_opens g.D.Disk.tells (seen g.D.Disk store) held told has

pub returns-clause-in_doubt : goal.returns-clause-in_doubt
returns-clause-in_doubt g c store before after told doubt = doubt_opens g.D.Disk.tells (seen g.D.Disk store) before after told doubt

pub returns-clause-unopened : goal.returns-clause-unopened
returns-clause-unopened g c store before after told was = open_unopened g.D.Disk.tells (seen g.D.Disk store) before after told (g.met.D.Disk.seen store.disk told) was
