use Rattle.std.proofs.Common.{ap}
use Rattle.series_model.specs.declared.sample.Sample.{Sample}
use Rattle.sample_bins.specs.Bins.{is_counting}
use Rattle.sample_bins.proofs.Handing.{may_give}
use Rattle.sample_bins.proofs.giving.give_due.Goals as goal

pub give_sample-requires : goal.give_sample-requires
give_sample-requires g c =
    let s : Sample = record { t = c.args.t; line = c.args.line.now } in
    record { event = may_give g.O.Out.gave g.O.Out.broke c.args.op c.args.inner.now s (ap is_counting c.in-FirstSample.is) c.requires.event }

pub give_sample-requires-in-Nth : goal.give_sample-requires-in-Nth
give_sample-requires-in-Nth g c =
    let s : Sample = record { t = c.args.t; line = c.args.line.now } in
    record { event = may_give g.O.Out.gave g.O.Out.broke c.args.op c.args.inner.now s (ap is_counting c.in-Nth.is) c.requires.event }
