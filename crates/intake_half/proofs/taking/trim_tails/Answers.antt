use Rattle.std.proofs.Common.{◌∙◌, inl, inr, arith}
use Rattle.std.proofs.lemmas.Bool.{cases_lt}
use Rattle.intake.specs.Tails.{tail_at}
use Rattle.intake_half.proofs.Telling.{one_trimmed, past_trimmed}
use Rattle.intake_half.proofs.taking.trim_tails.Goals as goal

pub loop-row-preserved : goal.loop-row-preserved
loop-row-preserved c = record {
  trimmed = λ row low. one_trimmed c.args.ends.now c.loop-row.row row c.args.intake.now c.loop-row.intake c.trim_tail.new.intake c.trim_tail.ensures (c.loop-row.invariant.others c.loop-row.row (omega arith)) (c.loop-row.invariant.trimmed row) low;
  others = λ row high. c.trim_tail.ensures.others row (λ same. omega (arith, high, same)) ∙ c.loop-row.invariant.others row (omega (arith, high));
}

pub returns-clause-trimmed : goal.returns-clause-trimmed
returns-clause-trimmed c = λ row low. elim (cases_lt row c.loop-row.row) [
  | inl before ↦ c.loop-row.invariant.trimmed row before
  | inr past ↦ past_trimmed c.args.ends.now row (tail_at c.args.intake.now row).samples (tail_at c.loop-row.intake row).samples (omega (arith, low, past, c.loop-row-test.false, c.min-row-end.ensures)) (c.loop-row.invariant.others row past)
]
