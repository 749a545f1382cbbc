use Rattle.std.proofs.Common.{◌≡◌, ◌∙◌, ap, List, ℕ, drop, arith}
use Rattle.pb_lines.proofs.Running.{nothing_yet, one_more, looked, few_lines}
use Rattle.pb_lines.proofs.run.run_of.Goals as goal

pub loop-end-init : goal.loop-end-init
loop-end-init c = record {
  running = nothing_yet c.args.ty c.args.year.now.year c.args.after c.args.to c.args.bytes.now c.requires;
  looked = omega arith;
  few = omega arith;
}

pub loop-end-preserved : goal.loop-end-preserved
loop-end-preserved c =
    let year = c.args.year.now.year in
    let bytes = c.args.bytes.now in
    let rest = c.loop-end.rest.now in
    let others = c.split_at-in-Some.result.1.now in
    let run = c.loop-end.run in
    let end = c.in-Some.ensures.end in
    let line = rw c.split_at.ensures.front at c.in-Some-moment_in_run.ensures in
    let behind : others ≡ drop 1 (drop c.in-Some.end rest) = c.split_at-in-Some.ensures.back ∙ ap (λ (l : List ℕ). drop 1 l) c.split_at.ensures.back in
    let more = one_more c.args.ty year c.args.after c.args.to bytes rest others run c.in-Some.end c.in-Some-moment_in_run.t c.loop-end.invariant.running end.within end.newline line c.if-t-run.false c.if-t-to.false behind in
    record {
      running = more;
      looked = looked c.args.ty year c.args.after c.args.to bytes others _ more;
      few = few_lines c.args.ty year c.args.after c.args.to bytes others _ more;
    }
