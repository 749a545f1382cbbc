use Rattle.tier_store.specs.Seen.{seen_by}
use Rattle.tier_store.proofs.Revival.{settled_whole}
use Rattle.tier_store.proofs.laws.limbo_is_whole.Goals as goal

pub returns : goal.returns
returns g c disk after catalogue later ms ns limbo i stands files before next low was settled keeps same_g same fewer passes =
    settled_whole g.D.Disk.tells (seen_by g.D.Disk catalogue ms disk) (seen_by g.D.Disk later ns after) limbo before next was settled keeps same_g same fewer passes i stands files low
