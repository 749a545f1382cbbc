use Rattle.pb_messages.proofs.InfoTypeLemmas.{type_of-unique}
use Rattle.pb_messages.proofs.info_reading.type_of.Goals as goal

pub returns : goal.returns
returns c = rw (type_of-unique c.args.number c.from_number.result c.from_number.ensures.found c.from_number.ensures.only) c.ok_or.ensures.value
