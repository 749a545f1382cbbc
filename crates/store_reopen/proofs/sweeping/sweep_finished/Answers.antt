use Rattle.store_reopen.proofs.Marking.{removes_none}
use Rattle.store_reopen.proofs.sweeping.sweep_finished.Goals as goal

pub returns-then-unfinished-clause-removes : goal.returns-then-unfinished-clause-removes
returns-then-unfinished-clause-removes g c tells = removes_none g.D.Disk _ c.args.disk.now
