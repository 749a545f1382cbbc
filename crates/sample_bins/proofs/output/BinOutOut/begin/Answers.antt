use Rattle.std.proofs.Common.{refl}
use Rattle.act_model.specs.Out.{Subject}
use Rattle.sample_bins.specs.Bins.{bins_of}
use Rattle.sample_bins.specs.Events.{bins_of_events}
use Rattle.sample_bins.proofs.Handing.{on_err, kept_small, kept_early, stands_begun, begins_with}
use Rattle.sample_bins.proofs.output.BinOutOut.begin.Goals as goal

pub returns-in_err-begin_bins-clause-broken : goal.returns-in_err-begin_bins-clause-broken
returns-in_err-begin_bins-clause-broken g c =
    let self = c.args.self.now in
    on_err c.from_residual.result _ (λ all events. c.in_err-begin_bins.ensures.broken (bins_of self.op c.args.query all) (bins_of_events self.op c.args.query c.args.about.now all events))

pub invariant_of-self-2 : goal.invariant_of-self-2
invariant_of-self-2 g c =
    let self = c.args.self.now in
    let subject : Subject = record { name = c.args.name.now; about = c.args.about.now; query = c.args.query } in
    record {
      wide = self.wide;
      narrow = self.narrow;
      small = kept_small c.nothing.result c.nothing.ensures;
      early = kept_early _ c.nothing.result c.nothing.ensures;
      stands = ∣ stands_begun g.O.Out.gave g.O.Out.broke self.op self.inner subject c.begin_bins.new.inner c.nothing.result c.nothing.ensures c.in_ok-begin_bins.ensures.begun ∣₁;
    }

pub returns-clause-begun : goal.returns-clause-begun
returns-clause-begun g c =
    let self = c.args.self.now in
    let subject : Subject = record { name = c.args.name.now; about = c.args.about.now; query = c.args.query } in
    (refl, begins_with g.O.Out.gave g.O.Out.broke self.op self.op c.nothing.result self.inner subject c.begin_bins.new.inner c.nothing.ensures refl self.wide c.in_ok-begin_bins.ensures.begun)
