use Rattle.std.proofs.Common.{◌≡◌, ◌<◌, ◌-◌, length, take, drop, sym, ap, subst, arith, true, false}
use Rattle.std.proofs.lemmas.List.{length-drop, take_all}
use Rattle.pb_lines.proofs.Unique.{sample_or_fault}
use Rattle.tier_store.specs.Counting.{behind}
use Rattle.tier_store.specs.Finding.{IsLaterStart}
use Rattle.tier_store.proofs.Lines.{begins_counting, counts_more, none_at_end, later_start, none_earlier, skips}
use Rattle.etl_mover.proofs.Taking.{none_meant, none_torn}
use Rattle.etl_mover.specs.Lines.{IsSampleStart}
use Rattle.tier_store.proofs.finding.skip_lines.Goals as goal

pub loop-len-init : goal.loop-len-init
loop-len-init c = record { counting = begins_counting c.args.ty c.args.year.now.year c.args.bytes.now (behind c.args.last); within = omega arith }

pub returns-then-end-rest-clause-skips : goal.returns-then-end-rest-clause-skips
returns-then-end-rest-clause-skips c =
    let year = c.args.year.now.year in
    let len = c.loop-len.len in
    let rest = take (length c.args.bytes.now - len) (drop len c.args.bytes.now) in
    let same : rest ≡ drop len c.args.bytes.now = take_all (length c.args.bytes.now - len) (drop len c.args.bytes.now) (omega (arith, length-drop len c.args.bytes.now)) in
    skips c.args.ty year c.args.bytes.now (behind c.args.last) len false c.loop-len.invariant.counting (λ start. none_torn c.args.ty year rest c.line_len-end.result c.line_len-end.ensures.line c.if-end-rest.true (subst (IsSampleStart c.args.ty year) (sym same) start))

pub returns-in-Err-Fault-clause-skips : goal.returns-in-Err-Fault-clause-skips
returns-in-Err-Fault-clause-skips c =
    let year = c.args.year.now.year in
    let len = c.loop-len.len in
    let rest = take (length c.args.bytes.now - len) (drop len c.args.bytes.now) in
    let same : rest ≡ drop len c.args.bytes.now = take_all (length c.args.bytes.now - len) (drop len c.args.bytes.now) (omega (arith, length-drop len c.args.bytes.now)) in
    let within : c.line_len-end.result < length rest = omega (arith, c.line_len-end.ensures.bound, c.if-end-rest.false) in
    let fault = rw c.in-Err-Fault.field-0-is at c.in-Err-Fault.ensures.err in
    skips c.args.ty year c.args.bytes.now (behind c.args.last) len false c.loop-len.invariant.counting
    (λ start. none_meant c.args.ty year rest c.line_len-end.result within (c.line_len-end.ensures.stop within) c.line_len-end.ensures.line (λ t is. sample_or_fault c.args.ty year (take c.line_len-end.result rest) t c.in-Err-Fault.field-0-0 is fault) (subst (IsSampleStart c.args.ty year) (sym same) start))

pub returns-then-is_later-clause-skips : goal.returns-then-is_later-clause-skips
returns-then-is_later-clause-skips c =
    let year = c.args.year.now.year in
    let len = c.loop-len.len in
    let end = c.line_len-end.result in
    let rest = take (length c.args.bytes.now - len) (drop len c.args.bytes.now) in
    let same : rest ≡ drop len c.args.bytes.now = take_all (length c.args.bytes.now - len) (drop len c.args.bytes.now) (omega (arith, length-drop len c.args.bytes.now)) in
    let within : end < length rest = omega (arith, c.line_len-end.ensures.bound, c.if-end-rest.false) in
    skips c.args.ty year c.args.bytes.now (behind c.args.last) len true c.loop-len.invariant.counting
    (subst (IsLaterStart c.args.ty year (behind c.args.last)) same (later_start c.args.ty year (behind c.args.last) end c.in-Ok.t rest within (c.line_len-end.ensures.stop within) c.line_len-end.ensures.line c.in-Ok.ensures.ok (c.is_later.ensures.later c.if-is_later.true)))

pub loop-len-preserved : goal.loop-len-preserved
loop-len-preserved c =
    let year = c.args.year.now.year in
    let len = c.loop-len.len in
    let t = c.in-Ok.t in
    let end = c.line_len-end.result in
    let rest = take (length c.args.bytes.now - len) (drop len c.args.bytes.now) in
    let same : rest ≡ drop len c.args.bytes.now = take_all (length c.args.bytes.now - len) (drop len c.args.bytes.now) (omega (arith, length-drop len c.args.bytes.now)) in
    let within : end < length rest = omega (arith, c.line_len-end.ensures.bound, c.if-end-rest.false) in
    record {
      counting = counts_more c.args.ty year c.args.bytes.now rest (behind c.args.last) len end t 0 0 c.loop-len.invariant.counting same within (c.line_len-end.ensures.stop within) c.line_len-end.ensures.line c.in-Ok.ensures.ok (none_earlier (behind c.args.last) t (take end rest) (c.is_later.ensures.earlier c.if-is_later.false));
      within = let long = ap length same in omega (arith, within, long, length-drop len c.args.bytes.now);
    }

pub returns-clause-skips : goal.returns-clause-skips
returns-clause-skips c =
    skips c.args.ty c.args.year.now.year c.args.bytes.now (behind c.args.last) c.loop-len.len false c.loop-len.invariant.counting (λ start. none_at_end c.args.ty c.args.year.now.year c.args.bytes.now c.loop-len.len c.loop-len-test.false start)
