use Rattle.act_model.specs.declared.acts.Act.TheVariants.{Pause}
use Rattle.archive_core.specs.Parts.{parts}
use Rattle.archive_core.proofs.Acting.{answered_as}
use Rattle.archive_core.proofs.archive.Archive.pause.Goals as goal

pub returns : goal.returns
returns g c who = answered_as g.D.Disk.tells who (Pause c.args.name.now) (parts g.D.Disk c.args.self.now) _ _ (parts g.D.Disk c.set_state.new.self) c.set.ensures (c.set_state.ensures who)
