use Rattle.unit_cases.proofs.merges.told.Given as goal

-- the counter is of a ledger of its own
abbrev pub ghosts-told_by : goal.ghosts-told_by
ghosts-told_by g a = record { name = a.blank.name; parts = a.blank.parts }
