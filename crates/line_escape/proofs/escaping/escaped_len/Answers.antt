use Rattle.std.proofs.Common.{arith}
use Rattle.std.proofs.lemmas.List.Sums.{count_by-le-length}
use Rattle.line_escape.specs.Escaping.{needs_pair}
use Rattle.line_escape.proofs.EscapingLemmas.{length-escaped}
use Rattle.line_escape.proofs.escaping.escaped_len.Goals as goal

pub overflow_add-result : goal.overflow_add-result
overflow_add-result c = omega (arith, count_by-le-length needs_pair c.args.bytes.now)

pub returns : goal.returns
returns c = omega (arith, length-escaped c.args.bytes.now)
