use Rattle.series_model.specs.declared.sample.Sample.{Sample}
use Rattle.sample_bins.proofs.Handing.{breaks_one}
use Rattle.sample_bins.proofs.giving.give_sample.Goals as goal

pub returns-clause-broken : goal.returns-clause-broken
returns-clause-broken g c =
    let s : Sample = record { t = c.args.t; line = c.args.line.now } in
    breaks_one g.O.Out.gave g.O.Out.broke c.sample.result c.args.inner.now c.sample.new.self s c.sample.ensures.broken
