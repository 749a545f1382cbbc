use Rattle.std.proofs.Common.{◌≡◌, ◌<◌, ◌-◌, length, take, drop, sym, ap, subst, arith}
use Rattle.std.proofs.lemmas.List.{length-drop, take_all}
use Rattle.pb_lines.proofs.Unique.{sample_or_fault}
use Rattle.etl_mover.specs.Lines.{IsSampleStart}
use Rattle.etl_mover.proofs.Taking.{takes_more, takes_all, none_torn, none_meant}
use Rattle.etl_mover.proofs.lines.take_lines.Goals as goal

pub returns-then-end-rest-clause-takes : goal.returns-then-end-rest-clause-takes
returns-then-end-rest-clause-takes c =
    let year = c.args.year.now.year in
    let taken = c.loop-taken.taken in
    let rest = take (length c.args.bytes.now - taken.len) (drop taken.len c.args.bytes.now) in
    let same : rest ≡ drop taken.len c.args.bytes.now = take_all (length c.args.bytes.now - taken.len) (drop taken.len c.args.bytes.now) (omega (arith, length-drop taken.len c.args.bytes.now)) in
    takes_all c.args.ty year c.args.bytes.now c.args.entry.now taken.len taken.entry c.loop-taken.invariant.taking (λ start. none_torn c.args.ty year rest c.line_len-end.result c.line_len-end.ensures.line c.if-end-rest.true (subst (IsSampleStart c.args.ty year) (sym same) start))

pub returns-in-Err-Fault-clause-takes : goal.returns-in-Err-Fault-clause-takes
returns-in-Err-Fault-clause-takes c =
    let year = c.args.year.now.year in
    let taken = c.loop-taken.taken in
    let rest = take (length c.args.bytes.now - taken.len) (drop taken.len c.args.bytes.now) in
    let same : rest ≡ drop taken.len c.args.bytes.now = take_all (length c.args.bytes.now - taken.len) (drop taken.len c.args.bytes.now) (omega (arith, length-drop taken.len c.args.bytes.now)) in
    let within : c.line_len-end.result < length rest = omega (arith, c.line_len-end.ensures.bound, c.if-end-rest.false) in
    let fault = rw c.in-Err-Fault.field-0-is at c.in-Err-Fault.ensures.err in
    takes_all c.args.ty year c.args.bytes.now c.args.entry.now taken.len taken.entry c.loop-taken.invariant.taking
    (λ start. none_meant c.args.ty year rest c.line_len-end.result within (c.line_len-end.ensures.stop within) c.line_len-end.ensures.line (λ t is. sample_or_fault c.args.ty year (take c.line_len-end.result rest) t c.in-Err-Fault.field-0-0 is fault) (subst (IsSampleStart c.args.ty year) (sym same) start))

pub loop-taken-preserved : goal.loop-taken-preserved
loop-taken-preserved c =
    let year = c.args.year.now.year in
    let taken = c.loop-taken.taken in
    let rest = take (length c.args.bytes.now - taken.len) (drop taken.len c.args.bytes.now) in
    let same : rest ≡ drop taken.len c.args.bytes.now = take_all (length c.args.bytes.now - taken.len) (drop taken.len c.args.bytes.now) (omega (arith, length-drop taken.len c.args.bytes.now)) in
    let within : c.line_len-end.result < length rest = omega (arith, c.line_len-end.ensures.bound, c.if-end-rest.false) in
    record {
      taking = takes_more c.args.ty year c.args.bytes.now rest c.args.entry.now taken.len c.line_len-end.result c.in-Ok.t taken.entry c.in-Some.entry c.loop-taken.invariant.taking same within (c.line_len-end.ensures.stop within) c.line_len-end.ensures.line c.in-Ok.ensures.ok c.in-Some.ensures;
      within = let long = ap length same in omega (arith, within, long, length-drop taken.len c.args.bytes.now);
    }
