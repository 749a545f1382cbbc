use Rattle.std.proofs.Common.{◌∙◌, ap, arith, w64, ℕ}
use Rattle.std.specs.Int.{bit_at}
use Rattle.std.proofs.lemmas.Nat.Bits.{bit_at-trailing_zeros, bit_at-zero}
use Rattle.edge_io.proofs.Marks.{unmarked}
use Rattle.edge_io.proofs.lines.is_free_below.Goals as goal

pub returns-then-marks-eq0 : goal.returns-then-marks-eq0
returns-then-marks-eq0 c = λ _. unmarked c.args.mark c.args.bytes c.byte_marks-marks.result c.args.count (omega (arith, c.fits-bytes.0, c.requires)) c.byte_marks-marks.ensures (λ j _. ap (λ (n : ℕ). bit_at n j) c.if-marks-eq0.true ∙ bit_at-zero j)

pub returns : goal.returns
returns c = λ _.
    let m = c.byte_marks-marks.result in
    let h = bit_at-trailing_zeros w64 m (omega arith) c.byte_marks-marks.type_inv in
    unmarked c.args.mark c.args.bytes m c.args.count (omega (arith, c.fits-bytes.0, c.requires)) c.byte_marks-marks.ensures (λ j l. h.2 j (omega (arith, c.if-first-count.false, l)))
