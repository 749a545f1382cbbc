use Rattle.std.proofs.Common.{eqb, arith, w8}
use Rattle.std.proofs.lemmas.Simd.{bitmask_splat}
use Rattle.edge_io.proofs.lines.byte_marks.Goals as goal

pub returns : goal.returns
returns c = bitmask_splat w8 eqb c.args.bytes 32 c.args.byte c.fits-bytes.0 (omega (arith, c.ranges.byte))
