use Rattle.std.proofs.Common.{◌≡◌, inl, inr, ◌<◌, ◌≤◌, ◌-◌, ◌+◌, length, take, drop, sym, ap, subst, arith}
use Rattle.std.proofs.lemmas.Bool.{cases_lt}
use Rattle.std.proofs.lemmas.Bool.Decides.{nat_tests}
use Rattle.std.proofs.lemmas.List.{length-drop, take_all}
use Rattle.pb_lines.proofs.Unique.{sample_or_fault}
use Rattle.tier_store.proofs.Lines.{counts_more, counts_all, one_later}
use Rattle.etl_mover.proofs.Taking.{none_meant, none_torn}
use Rattle.etl_mover.specs.Lines.{IsSampleStart}
use Rattle.tier_store.proofs.counting.count_lines.Goals as goal

pub returns-then-end-rest-clause-counts : goal.returns-then-end-rest-clause-counts
returns-then-end-rest-clause-counts c =
    let year = c.args.year.now.year in
    let counted = c.loop-counted.counted in
    let rest = take (length c.args.bytes.now - counted.len) (drop counted.len c.args.bytes.now) in
    let same : rest ≡ drop counted.len c.args.bytes.now = take_all (length c.args.bytes.now - counted.len) (drop counted.len c.args.bytes.now) (omega (arith, length-drop counted.len c.args.bytes.now)) in
    counts_all c.args.ty year c.args.bytes.now (c.args.last + 1) counted.len counted.count c.loop-counted.invariant.counting (λ start. none_torn c.args.ty year rest c.line_len-end.result c.line_len-end.ensures.line c.if-end-rest.true (subst (IsSampleStart c.args.ty year) (sym same) start))

pub returns-in-Err-Fault-clause-counts : goal.returns-in-Err-Fault-clause-counts
returns-in-Err-Fault-clause-counts c =
    let year = c.args.year.now.year in
    let counted = c.loop-counted.counted in
    let rest = take (length c.args.bytes.now - counted.len) (drop counted.len c.args.bytes.now) in
    let same : rest ≡ drop counted.len c.args.bytes.now = take_all (length c.args.bytes.now - counted.len) (drop counted.len c.args.bytes.now) (omega (arith, length-drop counted.len c.args.bytes.now)) in
    let within : c.line_len-end.result < length rest = omega (arith, c.line_len-end.ensures.bound, c.if-end-rest.false) in
    let fault = rw c.in-Err-Fault.field-0-is at c.in-Err-Fault.ensures.err in
    counts_all c.args.ty year c.args.bytes.now (c.args.last + 1) counted.len counted.count c.loop-counted.invariant.counting
    (λ start. none_meant c.args.ty year rest c.line_len-end.result within (c.line_len-end.ensures.stop within) c.line_len-end.ensures.line (λ t is. sample_or_fault c.args.ty year (take c.line_len-end.result rest) t c.in-Err-Fault.field-0-0 is fault) (subst (IsSampleStart c.args.ty year) (sym same) start))

pub loop-counted-preserved : goal.loop-counted-preserved
loop-counted-preserved c =
    let year = c.args.year.now.year in
    let counted = c.loop-counted.counted in
    let t = c.in-Ok.t in
    let end = c.line_len-end.result in
    let rest = take (length c.args.bytes.now - counted.len) (drop counted.len c.args.bytes.now) in
    let same : rest ≡ drop counted.len c.args.bytes.now = take_all (length c.args.bytes.now - counted.len) (drop counted.len c.args.bytes.now) (omega (arith, length-drop counted.len c.args.bytes.now)) in
    let within : end < length rest = omega (arith, c.line_len-end.ensures.bound, c.if-end-rest.false) in
    let one = one_later c.args.last t (take end rest) c.from.result (λ lt. grind (arith, nat_tests, c.from.ensures)) (λ le. grind (arith, nat_tests, c.from.ensures)) in
    let few : c.from.result ≤ 1 = elim (cases_lt c.args.last t) [
      | inl lt ↦ grind (arith, nat_tests, c.from.ensures)
      | inr le ↦ grind (arith, nat_tests, c.from.ensures)
    ] in
    record {
      counting = counts_more c.args.ty year c.args.bytes.now rest (c.args.last + 1) counted.len end t counted.count c.from.result c.loop-counted.invariant.counting same within (c.line_len-end.ensures.stop within) c.line_len-end.ensures.line c.in-Ok.ensures.ok one;
      within = let long = ap length same in omega (arith, within, long, length-drop counted.len c.args.bytes.now);
      few = omega (arith, few, c.loop-counted.invariant.few);
    }
