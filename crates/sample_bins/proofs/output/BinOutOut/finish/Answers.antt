use Rattle.std.proofs.Common.{ap}
use Rattle.sample_bins.specs.declared.beginning.BegunText.{BegunText}
use Rattle.sample_bins.specs.Bins.{bins_of, binned_subject}
use Rattle.sample_bins.proofs.Handing.{on_err, begun_is, all_given, end_breaks}
use Rattle.sample_bins.proofs.output.BinOutOut.finish.Goals as goal

pub returns-in_err-give_at_end-clause-broken : goal.returns-in_err-give_at_end-clause-broken
returns-in_err-give_at_end-clause-broken g c before subject xs h =
    let self = c.args.self.now in
    let from = ap (λ (b : BegunText). b.query.from) (begun_is c.in-Some.begun _ self.begun subject c.in-Some.is h.1.asked) in
    on_err c.from_residual.result _ (end_breaks g.O.Out.gave g.O.Out.broke before.op self.op c.in-Some.begun.query.from self.kept before.inner subject xs self.begun self.inner c.give_at_end.new.inner h.1 h.0 from c.in_err-give_at_end.ensures.broken)

pub returns-clause-finished : goal.returns-clause-finished
returns-clause-finished g c before subject xs h =
    let self = c.args.self.now in
    let from = ap (λ (b : BegunText). b.query.from) (begun_is c.in-Some.begun _ self.begun subject c.in-Some.is h.1.asked) in
    c.finish-2.ensures.finished before.inner (binned_subject before.op subject) (bins_of before.op subject.query xs)
    (all_given g.O.Out.gave g.O.Out.broke before.op self.op c.in-Some.begun.query.from self.kept before.inner subject xs self.begun self.inner c.give_at_end.new.inner h.1 h.0 from c.in_ok-give_at_end.ensures.given)

pub returns-clause-broken : goal.returns-clause-broken
returns-clause-broken g c before subject xs h =
    let self = c.args.self.now in
    let from = ap (λ (b : BegunText). b.query.from) (begun_is c.in-Some.begun _ self.begun subject c.in-Some.is h.1.asked) in
    c.finish-2.ensures.broken before.inner (binned_subject before.op subject) (bins_of before.op subject.query xs)
    (all_given g.O.Out.gave g.O.Out.broke before.op self.op c.in-Some.begun.query.from self.kept before.inner subject xs self.begun self.inner c.give_at_end.new.inner h.1 h.0 from c.in_ok-give_at_end.ensures.given)
