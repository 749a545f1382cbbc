use Rattle.pb_file.proofs.check.check_file.Given as goal

-- the counter is of a ledger of its own
abbrev pub ghosts-check_lines : goal.ghosts-check_lines
ghosts-check_lines g a = record { name = a.blank.name; parts = a.blank.parts }
