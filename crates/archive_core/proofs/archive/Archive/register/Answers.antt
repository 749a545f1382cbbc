use Rattle.act_model.specs.declared.acts.Act.TheVariants.{Register}
use Rattle.archive_core.specs.Parts.{parts}
use Rattle.archive_core.proofs.Acting.{answered_as}
use Rattle.archive_core.proofs.archive.Archive.register.Goals as goal

pub returns : goal.returns
returns g c who = answered_as g.D.Disk.tells who (Register c.args.name.now c.args.about.now) (parts g.D.Disk c.args.self.now) _ _ (parts g.D.Disk c.register_name.new.self) c.registered.ensures (c.register_name.ensures who)
