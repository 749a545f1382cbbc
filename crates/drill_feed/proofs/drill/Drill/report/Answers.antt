use Rattle.std.proofs.Common.{◌≡◌, ◌+◌, ◌++◌, List, ℕ, suc, arith, ap, sym, subst, ◌∙◌}
use Rattle.drill_feed.specs.Report.{AreHeldLines, IsVariableLine}
use Rattle.drill_feed.proofs.drill.Drill.report.Goals as goal

pub loop-variable-preserved : goal.loop-variable-preserved
loop-variable-preserved c =
    let hours = c.args.self.hours in
    let variable = c.loop-variable.variable in
    let text = c.loop-variable.text.items in
    let line = c.in_ok-line.line.items in
    let more : variable + 1 ≡ suc variable = omega arith in
    let named = subst (λ (name : List ℕ). IsVariableLine name c.tally.result line) c.name_of.ensures c.in_ok-line.ensures in
    let whole = c.in_ok-extend_from_slice.ensures.items ∙ ap (λ (l : List ℕ). text ++ l) c.deref.ensures.value in
    subst (λ (n : ℕ). AreHeldLines hours n c.extend_from_slice.new.self.items) (sym more)
    (text, line, c.loop-variable.invariant, record { tally = c.tally.result; held = c.tally.ensures.tally; text = named }, whole)

pub returns : goal.returns
returns c =
    let text = c.loop-variable.text.items in
    let all : c.loop-variable.variable ≡ 4 = omega (arith, c.loop-variable-test.false, c.loop-variable.auto.variable-end) in
    record {
      lines = text;
      tiers = c.tiers.result;
      held = subst (λ (n : ℕ). AreHeldLines c.args.self.hours n text) all c.loop-variable.invariant;
      settled = c.tiers.ensures;
      whole = c.in_ok-extend_from_slice-2.ensures.items ∙ ap (λ (l : List ℕ). text ++ l) (c.deref-2.ensures.value ∙ c.in_ok-tiers_line.ensures);
    }
