use Rattle.pv_catalog.proofs.table.Table.name_refusal.Goals as goal

pub returns-in-None-clause-free : goal.returns-in-None-clause-free
returns-in-None-clause-free c told = c.refusal.ensures.none c.in-None.is
