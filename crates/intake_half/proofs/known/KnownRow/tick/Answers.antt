use Rattle.std.proofs.Common.{inl, inr, refl, ◌∙◌}
use Rattle.intake_half.proofs.known.KnownRow.tick.Goals as goal

pub returns : goal.returns
returns c = record {
  memory = c.tick_row.new.memory;
  is = refl;
  none = λ why. c.tick_row.ensures.none (elim why [ inl none ↦ inl none | inr off ↦ inr (c.runs.ensures ∙ off) ]);
  early = λ sampled scan up first. c.tick_row.ensures.early sampled scan (c.runs.ensures ∙ up) first;
  due = λ sampled scan up late. c.tick_row.ensures.due sampled scan (c.runs.ensures ∙ up) late;
}
