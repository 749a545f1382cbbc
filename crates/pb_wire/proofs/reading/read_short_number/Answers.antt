use Rattle.std.proofs.Common.{rules}
use Rattle.pb_wire.proofs.ShortLemmas.{number_short}
use Rattle.pb_wire.proofs.reading.read_short_number.Goals as goal

pub returns-clause-read : goal.returns-clause-read
returns-clause-read c =
    rw c.in_ok-tag.ensures.cases.0 (number_short c.args.end c.args.number c.in_ok-tag.tag.now c.in_ok-value.value c.in_ok-tag.rest.now c.in_ok-value.rest.now c.requires.number (search rules) c.in_ok-value.ensures.read)
