use Rattle.std.proofs.Common.{◌≡◌, ◌++◌, ◌∷◌, sym, ◌∙◌, take, drop}
use Rattle.line_escape.specs.Escaping.{escaped, code_of}
use Rattle.line_escape.proofs.EscapingLemmas.{front_stays, escaped_run, escaped_one}
use Rattle.line_escape.proofs.escaping.escape_runs.Goals as goal

pub loop-rest-preserved : goal.loop-rest-preserved
loop-rest-preserved c =
    let init = c.args.out.now.items in
    let run = escaped_run c.loop-rest.out.items c.loop-rest.rest.now (init ++ escaped c.args.bytes.now) c.kept_len.result c.loop-rest.invariant.done c.kept_len.ensures.kept in
    let more = front_stays init c.loop-rest.out.items c.split_at.result.0.now c.loop-rest.invariant.grows in
    record { done = rw (c.split_at.ensures.back, c.in_ok-extend_from_slice.ensures.items, c.split_at.ensures.front) run; grows = rw c.in_ok-extend_from_slice.ensures.items more }

pub loop-rest-preserved-in-Some : goal.loop-rest-preserved-in-Some
loop-rest-preserved-in-Some c =
    let init = c.args.out.now.items in
    let run = escaped_run c.loop-rest.out.items c.loop-rest.rest.now (init ++ escaped c.args.bytes.now) c.kept_len.result c.loop-rest.invariant.done c.kept_len.ensures.kept in
    let more = front_stays init c.loop-rest.out.items c.split_at.result.0.now c.loop-rest.invariant.grows in
    let longer = front_stays init c.extend_from_slice.new.self.items (code_of c.in-Some.first.now) (rw c.in_ok-extend_from_slice.ensures.items more) in
    let rest : drop c.kept_len.result c.loop-rest.rest.now ≡ c.in-Some.first.now ∷ c.in-Some.others.now = sym c.split_at.ensures.back ∙ c.in-Some.ensures.cases.0 in
    let one = escaped_one (c.loop-rest.out.items ++ take c.kept_len.result c.loop-rest.rest.now) c.in-Some.others.now (init ++ escaped c.args.bytes.now) c.in-Some.first.now (rw rest at run) in
    record { done = rw (c.in_ok-push_code.ensures.ok, c.in_ok-extend_from_slice.ensures.items, c.split_at.ensures.front) one; grows = rw c.in_ok-push_code.ensures.ok longer }
