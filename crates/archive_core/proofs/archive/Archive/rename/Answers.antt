use Rattle.act_model.specs.declared.acts.Act.TheVariants.{Rename}
use Rattle.archive_core.specs.Parts.{parts}
use Rattle.archive_core.proofs.Acting.{answered_as}
use Rattle.archive_core.proofs.archive.Archive.rename.Goals as goal

pub returns : goal.returns
returns g c who = answered_as g.D.Disk.tells who (Rename c.args.name.now c.args.newname.now) (parts g.D.Disk c.args.self.now) _ _ (parts g.D.Disk c.rename_name.new.self) c.renamed.ensures (c.rename_name.ensures who)
