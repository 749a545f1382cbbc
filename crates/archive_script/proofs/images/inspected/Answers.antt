use Rattle.archive_script.proofs.images.inspected.Goals as goal

pub check-requires : goal.check-requires
check-requires c = (c.requires.0, c.status.ensures.stores.has c.requires.0 c.requires.1)
