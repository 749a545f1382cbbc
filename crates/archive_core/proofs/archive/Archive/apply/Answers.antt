use Rattle.act_model.specs.Reply.{reply_of}
use Rattle.archive_core.specs.Parts.{parts}
use Rattle.archive_core.proofs.Acting.{leaves_of, step_of}
use Rattle.archive_core.proofs.archive.Archive.apply.Goals as goal

pub returns-clause-step : goal.returns-clause-step
returns-clause-step g c = step_of g.D.Disk.tells c.args.who c.args.act (parts g.D.Disk c.args.self.now) (reply_of g.D.Reader.ReadAt.tells g.D.Reader.ReadAt.bytes g.D.Reader.ReadAt.faults c.act.result) (parts g.D.Disk c.act.new.self) c.act.ensures

pub returns-clause-leaves : goal.returns-clause-leaves
returns-clause-leaves g c = leaves_of g.D.Disk.tells c.args.who c.args.act (parts g.D.Disk c.args.self.now) (reply_of g.D.Reader.ReadAt.tells g.D.Reader.ReadAt.bytes g.D.Reader.ReadAt.faults c.act.result) (parts g.D.Disk c.act.new.self) c.act.ensures
