use Rattle.std.proofs.Common.{◌<◌}
use Rattle.std.proofs.lemmas.List.Elements.{recursion_from_All}
use Rattle.pb_wire.proofs.GrammarLemmas.{varint_found, varint_only, varint_written}
use Rattle.pb_wire.proofs.LengthLemmas.{varint_shortest}
use Rattle.pb_wire.proofs.laws.varints.Goals as goal

pub returns-clause-found : goal.returns-clause-found
returns-clause-found c = varint_found

pub returns-clause-only : goal.returns-clause-only
returns-clause-only c = varint_only

pub returns-clause-written : goal.returns-clause-written
returns-clause-written c = varint_written

pub returns-clause-shortest : goal.returns-clause-shortest
returns-clause-shortest c = λ s v bytes h. varint_shortest s v (recursion_from_All (λ b. b < 256) s bytes) h
