use Rattle.std.proofs.Common.{◌≡◌, ◌∙◌, List, ℕ, map, take, ap, arith, w64}
use Rattle.std.specs.Simd.Lanes.{mask_l}
use Rattle.std.proofs.lemmas.Nat.Bits.{bit_at-trailing_zeros}
use Rattle.edge_io.proofs.Marks.{is_newline, near}
use Rattle.edge_io.proofs.lines.near_newline.Goals as goal

pub returns : goal.returns
returns c =
    let m = c.newline_marks-marks.result in
    let h = bit_at-trailing_zeros w64 m (omega arith) c.newline_marks-marks.type_inv in
    let is : m ≡ mask_l (map is_newline (take 32 c.args.bytes.now)) = c.newline_marks-marks.ensures ∙ ap (λ (v : List ℕ). mask_l (map is_newline v)) c.in_ok-near.ensures.cases.0 in
    near c.args.bytes.now m _ (omega (arith, c.in_ok-near.ensures.cases.2)) is h.1 h.2
