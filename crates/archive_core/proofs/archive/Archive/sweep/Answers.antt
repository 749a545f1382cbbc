use Rattle.act_model.specs.declared.acts.Act.TheVariants.{Sweep}
use Rattle.archive_core.specs.Parts.{parts}
use Rattle.archive_core.proofs.Acting.{answered_as}
use Rattle.archive_core.proofs.archive.Archive.sweep.Goals as goal

pub returns : goal.returns
returns g c who = answered_as g.D.Disk.tells who Sweep (parts g.D.Disk c.args.self.now) _ _ (parts g.D.Disk c.sweep_stores.new.self) c.swept.ensures (c.sweep_stores.ensures who)
