use Rattle.std.proofs.Common.{◌<◌, ◌∙◌, ◌++◌, ◌∷◌, List, ℕ, suc, length, take, Some, sym, ap, subst, arith}
use Rattle.std.proofs.Math.ListN.{drop_of_length-le}
use Rattle.pb_messages.specs.declared.info.PayloadInfo.{PayloadInfo}
use Rattle.pb_lines.specs.Header.{IsHeaderLine}
use Rattle.pb_lines.proofs.Unique.{one_header, header_or_fault}
use Rattle.etl_mover.proofs.Taking.{header_ends, line_at}
use Rattle.etl_mover.proofs.copying.header_of.Goals as goal

pub returns-in-Ok-clause-header : goal.returns-in-Ok-clause-header
returns-in-Ok-clause-header c line info are whole header =
    let head = c.args.head.now in
    let end = c.line_len-end.result in
    let within : end < length head = omega (arith, c.line_len-end.ensures.bound, c.if-not-whole.false) in
    let same = header_ends head line end are whole within (c.line_len-end.ensures.stop within) c.line_len-end.ensures.line in
    ap (λ (i : PayloadInfo). let o = Some i in o) (one_header line c.in-Ok.info info (subst (λ (l : List _). IsHeaderLine l c.in-Ok.info) same c.in-Ok.ensures.ok) header)

pub returns-in-Err-Fault-clause-header : goal.returns-in-Err-Fault-clause-header
returns-in-Err-Fault-clause-header c line info are whole header =
    let head = c.args.head.now in
    let end = c.line_len-end.result in
    let within : end < length head = omega (arith, c.line_len-end.ensures.bound, c.if-not-whole.false) in
    let same = header_ends head line end are whole within (c.line_len-end.ensures.stop within) c.line_len-end.ensures.line in
    let fault = rw c.in-Err-Fault.field-0-is at c.in-Err-Fault.ensures.err in
    absurd (header_or_fault (take end head) info c.in-Err-Fault.field-0-0 (subst (λ (l : List _). IsHeaderLine l info) (sym same) header) fault)

pub returns-in-Ok-clause-line : goal.returns-in-Ok-clause-line
returns-in-Ok-clause-line c =
    let head = c.args.head.now in
    let end = c.line_len-end.result in
    let within : end < length head = omega (arith, c.line_len-end.ensures.bound, c.if-not-whole.false) in
    (take end head, line_at head end within (c.line_len-end.ensures.stop within) ∙ ap (λ (l : List ℕ). take end head ++ 10 ∷ l) (drop_of_length-le head {i = suc end} (omega (arith, c.if-not-whole.false))), c.line_len-end.ensures.line, c.in-Ok.ensures.ok)
