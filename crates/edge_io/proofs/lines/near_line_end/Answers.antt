use Rattle.std.proofs.Common.{◌≡◌, ◌∙◌, List, ℕ, map, take, ap, arith, w64}
use Rattle.std.specs.Simd.Lanes.{mask_l}
use Rattle.std.proofs.lemmas.Nat.Bits.{bit_at-trailing_zeros}
use Rattle.edge_io.proofs.Ahead.{line_end_at}
use Rattle.edge_io.proofs.Marks.{is_newline, near, unmarked_front, marked_within}
use Rattle.edge_io.proofs.lines.near_line_end.Goals as goal

pub returns : goal.returns
returns c =
    let m = c.newline_marks-marks.result in
    let bytes = c.args.bytes.now in
    let h = bit_at-trailing_zeros w64 m (omega arith) c.newline_marks-marks.type_inv in
    let is : m ≡ mask_l (map is_newline (take 32 bytes)) = c.newline_marks-marks.ensures ∙ ap (λ (v : List ℕ). mask_l (map is_newline v)) c.in_ok-near.ensures.cases.0 in
    let found = near bytes m _ (omega (arith, c.in_ok-near.ensures.cases.2)) is h.1 h.2 in
    let few = marked_within bytes m _ is h.1 in
    line_end_at bytes c.args.mark _ c.is_free_below.result found.0 found.1 found.2 (λ free. unmarked_front c.args.mark bytes _ _ c.in_ok-near.ensures.cases.0 (omega (arith, few)) (c.is_free_below.ensures free))

pub is_free_below-requires : goal.is_free_below-requires
is_free_below-requires c =
    let m = c.newline_marks-marks.result in
    let bytes = c.args.bytes.now in
    let h = bit_at-trailing_zeros w64 m (omega arith) c.newline_marks-marks.type_inv in
    let is : m ≡ mask_l (map is_newline (take 32 bytes)) = c.newline_marks-marks.ensures ∙ ap (λ (v : List ℕ). mask_l (map is_newline v)) c.in_ok-near.ensures.cases.0 in
    let few = marked_within bytes m _ is h.1 in
    omega (arith, few)
