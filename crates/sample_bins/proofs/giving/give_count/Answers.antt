use Rattle.std.proofs.Common.{◌∙◌}
use Rattle.sample_bins.proofs.Handing.{may_count}
use Rattle.sample_bins.proofs.giving.give_count.Goals as goal

pub give_sample-requires : goal.give_sample-requires
give_sample-requires g c = record {
  event = may_count g.O.Out.gave g.O.Out.broke c.args.inner.now c.args.t c.args.count c.deref.result.now c.requires.begun c.requires.from c.requires.before c.requires.small (c.deref.ensures.value ∙ c.in-Ok.ensures);
}
