use Rattle.service.proofs.text.give_text.Goals as goal

pub give_raw-requires-clause-wide : goal.give_raw-requires-clause-wide
give_raw-requires-clause-wide g c = rw c.in-Raw.is at c.requires.wide

pub give_json-requires-clause-wide : goal.give_json-requires-clause-wide
give_json-requires-clause-wide g c = rw c.in-Json.is at c.requires.wide

pub returns-in-Raw-clause-answers : goal.returns-in-Raw-clause-answers
returns-in-Raw-clause-answers g c = rw c.in-Raw.is c.give_raw.ensures.answers

pub returns-in-Json-clause-answers : goal.returns-in-Json-clause-answers
returns-in-Json-clause-answers g c = rw c.in-Json.is c.give_json.ensures.answers
