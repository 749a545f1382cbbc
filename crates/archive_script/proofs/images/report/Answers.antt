use Rattle.archive_script.proofs.images.report.Goals as goal

pub inspected-requires : goal.inspected-requires
inspected-requires c = c.in-Ok.ensures.opened.has
