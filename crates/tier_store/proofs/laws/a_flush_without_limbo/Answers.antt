use Rattle.std.proofs.Common.{[]}
use Rattle.tier_store.specs.Revival.{AreWhole}
use Rattle.tier_store.specs.Seen.{seen_by}
use Rattle.tier_store.specs.Stores.{Stores}
use Rattle.tier_store.proofs.Revived.{none_whole, plain_changes}
use Rattle.tier_store.proofs.laws.a_flush_without_limbo.Goals as goal

pub returns-clause-whole : goal.returns-clause-whole
returns-clause-whole g c disk catalogue ms limbo stands none = none_whole 0 g.D.Disk.tells (seen_by g.D.Disk catalogue ms disk) limbo stands none

pub returns-clause-changes : goal.returns-clause-changes
returns-clause-changes g c disk after catalogue later ms ns limbo batch end none changes =
    let at = seen_by g.D.Disk catalogue ms disk in
    plain_changes g.D.Disk.tells limbo [] batch none (λ (held : Stores). AreWhole 0 g.D.Disk.tells at limbo held.stands []) (λ held. none_whole 0 g.D.Disk.tells at limbo held.stands none) at (seen_by g.D.Disk later ns after) end changes
