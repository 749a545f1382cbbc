use Rattle.retrieval_query.proofs.retrieval.read_pieces.Given as goal

-- the counter is of a ledger of its own
abbrev pub ghosts-give_pinned : goal.ghosts-give_pinned
ghosts-give_pinned g a = record { name = a.blank.name; parts = a.blank.parts }
