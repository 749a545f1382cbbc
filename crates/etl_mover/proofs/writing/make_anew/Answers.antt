use Rattle.std.proofs.Common.{◌++◌, refl}
use Rattle.gate_journal.specs.DiskShown.{shown_by}
use Rattle.etl_mover.proofs.Written.{made_leaves, made_makes}
use Rattle.etl_mover.proofs.writing.make_anew.Goals as goal

pub returns-in_err-extend-clause-leaves : goal.returns-in_err-extend-clause-leaves
returns-in_err-extend-clause-leaves g c tells =
    let fronts = c.extend.ensures.fronts tells in
    made_leaves c.args.name.now _ _ fronts.kept fronts.any_moment fronts.no_more fronts.others

pub returns-clause-leaves : goal.returns-clause-leaves
returns-clause-leaves g c tells =
    let fronts = c.extend.ensures.fronts tells in
    made_leaves c.args.name.now _ _ fronts.kept fronts.any_moment fronts.no_more fronts.others

pub returns-clause-makes : goal.returns-clause-makes
returns-clause-makes g c tells =
    made_makes c.args.name.now (c.args.head.now ++ c.args.lines.now) (g.D.Disk.files c.args.disk.now) (shown_by g.D.Disk c.extend.new.disk) (c.in_ok-extend.ensures.made tells refl) (c.in_ok-extend.ensures.open_to tells) (c.in_ok-extend.ensures.durable tells)
