use Rattle.std.proofs.Common.{arith}
use Rattle.std.proofs.lemmas.Int.{to_z-of_z, ints}
use Rattle.std.specs.Prelude.{FitsSigned}
use Rattle.std.specs.Int.{w32}
use Rattle.pb_lines.proofs.reader.ChunkReader.take_header.Goals as goal

pub unreachable-requires : goal.unreachable-requires
unreachable-requires c =
    let fits : FitsSigned w32 c.in-Ok.info.year = omega (arith, ints, c.in-Ok.ensures.year) in
    let good = rw (to_z-of_z w32 c.in-Ok.info.year fits) at c.in_default.ensures.good in
    let e = good.1 c.in-Ok.ensures.year in cc
