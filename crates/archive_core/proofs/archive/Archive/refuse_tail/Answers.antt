use Rattle.std.proofs.Common.{◌<◌, length, rules}
use Rattle.archive_core.specs.Parts.{parts}
use Rattle.archive_core.proofs.KeptRows.{memory_there}
use Rattle.archive_core.proofs.Settled.{open_known}
use Rattle.archive_core.proofs.archive.Archive.refuse_tail.Goals as goal

pub index-requires : goal.index-requires
index-requires g c =
    let was = c.requires.stands in
    let low : c.args.row < length c.args.self.now.rows.items = memory_there c.args.self.now.half.store.catalogue.rows _ _ was.0.rows was.1.rows c.args.row c.requires.row in
    search rules

pub last_of-requires-clause-known : goal.last_of-requires-clause-known
last_of-requires-clause-known g c =
    let was = c.requires.stands in
    (was.1.store.before, open_known g.D.Disk.tells (parts g.D.Disk c.args.self.now).at was.1.store.before was.0 was.1.store.is_open)
