use Rattle.pb_file.proofs.good.good_front.Given as goal

-- the counter is of a ledger of its own
abbrev pub ghosts-read_front : goal.ghosts-read_front
ghosts-read_front g a = record { name = a.blank.name; parts = a.blank.parts }
