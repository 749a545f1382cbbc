use Rattle.std.proofs.Common.{rules}
use Rattle.pb_wire.proofs.ShortLemmas.{fixed64_short}
use Rattle.pb_wire.proofs.reading.read_short_fixed64.Goals as goal

pub returns-in-Ok-clause-read : goal.returns-in-Ok-clause-read
returns-in-Ok-clause-read c =
    rw c.in_ok-tag.ensures.cases.0 (fixed64_short c.args.end c.args.number c.in_ok-tag.tag.now c.in-Ok.value c.in_ok-tag.rest.now c.in-Ok.rest.now c.requires.number (search rules) c.in-Ok.ensures.read)
