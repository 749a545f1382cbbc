use Rattle.std.proofs.Common.{subst}
use Rattle.std.specs.Prelude.{OnOk}
use Rattle.disk_model.specs.Files.{Name}
use Rattle.disk_model.specs.Past.{Only}
use Rattle.store_reopen.proofs.Marking.{begins_read, begins_then, for_good, marks_read, marks_then}
use Rattle.store_reopen.proofs.unfinished.begin_adoption.Goals as goal

pub returns-clause-there : goal.returns-clause-there
returns-clause-there g c tells =
    for_good c.sync.result (g.D.Disk.files c.make_file.new.disk) (g.D.Disk.files c.sync.new.self) (g.D.Disk.past c.sync.new.self) (c.sync.ensures.same tells) (c.in_ok-make_file.ensures.there tells)
    (subst (λ (n : Name). OnOk c.sync.result (Only (g.D.Disk.past c.sync.new.self) n (g.D.Disk.files c.make_file.new.disk n))) c.in_ok-name.ensures (c.sync.ensures.durable tells))

pub returns-clause-marks : goal.returns-clause-marks
returns-clause-marks g c tells =
    marks_then g.D.Disk c.args.disk.now c.make_file.new.disk c.sync.new.self (c.make_file.ensures.marks tells) (marks_read g.D.Disk c.make_file.new.disk c.sync.new.self (c.sync.ensures.same tells) (c.sync.ensures.opened tells) (c.sync.ensures.crash tells))

pub returns-clause-stays : goal.returns-clause-stays
returns-clause-stays g c tells =
    begins_then (g.D.Disk.past c.args.disk.now) (g.D.Disk.past c.make_file.new.disk) (g.D.Disk.past c.sync.new.self) (c.make_file.ensures.stays tells) (begins_read (g.D.Disk.past c.make_file.new.disk) (g.D.Disk.past c.sync.new.self) (c.sync.ensures.crash tells))
