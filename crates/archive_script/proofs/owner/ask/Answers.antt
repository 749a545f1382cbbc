use Rattle.archive_script.proofs.owner.ask.Goals as goal

pub returns : goal.returns
returns c = let next = c.apply.ensures.step c.requires.stands.0 c.requires.stands.1 in (next.0, next.2)
