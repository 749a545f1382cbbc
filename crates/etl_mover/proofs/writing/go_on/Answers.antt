use Rattle.std.proofs.Common.{inr, length}
use Rattle.gate_journal.specs.DiskShown.{shown_by}
use Rattle.etl_mover.proofs.Written.{cut_to, settled_leaves, torn_leaves, written_leaves, written_grows, there_long}
use Rattle.etl_mover.proofs.writing.go_on.Goals as goal

pub returns-in_err-settle-clause-leaves : goal.returns-in_err-settle-clause-leaves
returns-in_err-settle-clause-leaves g c tells =
    let name = c.args.name.now in
    let old = c.args.disk.now in
    let new = c.settle.new.disk in
    let was = there_long (g.D.Disk.files old) name (g.D.Disk.opened old) c.args.len (c.requires tells) in
    settled_leaves name c.args.len (shown_by g.D.Disk old) (shown_by g.D.Disk new) (cut_to name c.args.len (g.D.Disk.files old) (g.D.Disk.files new) was (c.in_err-settle.ensures.unsettled tells)) (c.settle.ensures.any_moment tells) (c.settle.ensures.opened tells)

pub returns-in_err-append-clause-leaves : goal.returns-in_err-append-clause-leaves
returns-in_err-append-clause-leaves g c tells =
    let name = c.args.name.now in
    let old = c.args.disk.now in
    let mid = c.settle.new.disk in
    let new = c.append.new.disk in
    let was = there_long (g.D.Disk.files old) name (g.D.Disk.opened old) c.args.len (c.requires tells) in
    let cut = cut_to name c.args.len (g.D.Disk.files old) (g.D.Disk.files mid) was (inr (c.in_ok-settle.ensures.settled tells)) in
    torn_leaves name c.args.len (length c.args.lines.now) (shown_by g.D.Disk old) (shown_by g.D.Disk mid) (shown_by g.D.Disk new) cut (c.in_err-append.ensures.torn tells) (c.settle.ensures.any_moment tells) (c.append.ensures.any_moment tells) (c.settle.ensures.opened tells) (c.append.ensures.opened tells)

pub returns-clause-leaves : goal.returns-clause-leaves
returns-clause-leaves g c tells =
    let name = c.args.name.now in
    let old = c.args.disk.now in
    let mid = c.settle.new.disk in
    let new = c.append.new.disk in
    let was = there_long (g.D.Disk.files old) name (g.D.Disk.opened old) c.args.len (c.requires tells) in
    let cut = cut_to name c.args.len (g.D.Disk.files old) (g.D.Disk.files mid) was (inr (c.in_ok-settle.ensures.settled tells)) in
    written_leaves name c.args.len c.args.lines.now (shown_by g.D.Disk old) (shown_by g.D.Disk mid) (shown_by g.D.Disk new) cut (c.in_ok-append.ensures.written tells) (c.settle.ensures.any_moment tells) (c.append.ensures.any_moment tells) (c.settle.ensures.opened tells) (c.append.ensures.opened tells)

pub returns-clause-grows : goal.returns-clause-grows
returns-clause-grows g c tells =
    let name = c.args.name.now in
    let old = c.args.disk.now in
    let mid = c.settle.new.disk in
    let new = c.append.new.disk in
    let was = there_long (g.D.Disk.files old) name (g.D.Disk.opened old) c.args.len (c.requires tells) in
    written_grows name c.args.len c.args.lines.now (g.D.Disk.files old) (g.D.Disk.files mid) (shown_by g.D.Disk new) was (c.in_ok-settle.ensures.settled tells) (c.in_ok-append.ensures.written tells) (c.in_ok-append.ensures.durable tells)
