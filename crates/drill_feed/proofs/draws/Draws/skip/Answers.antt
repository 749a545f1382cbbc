use Rattle.std.proofs.Common.{sym, ap, ◌∙◌}
use Rattle.drill_feed.specs.Workload.{next_draw}
use Rattle.drill_feed.proofs.Drawing.{drawn_more, drawn_none}
use Rattle.drill_feed.proofs.draws.Draws.skip.Goals as goal

pub loop-made-init : goal.loop-made-init
loop-made-init c = sym (drawn_none c.args.self.now.last)

pub loop-made-preserved : goal.loop-made-preserved
loop-made-preserved c = c.next.ensures.last ∙ c.next.ensures.value ∙ ap next_draw c.loop-made.invariant ∙ sym (drawn_more c.args.self.now.last c.loop-made.made)
