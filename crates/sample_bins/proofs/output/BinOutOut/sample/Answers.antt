use Rattle.std.proofs.Common.{◌≡◌, ◌≤◌, ap, sym, subst, arith}
use Rattle.series_model.specs.declared.sample.Sample.{Sample}
use Rattle.series_model.specs.declared.sample.Query.{Query}
use Rattle.act_model.specs.Event.{IsEvent}
use Rattle.sample_bins.specs.declared.beginning.BegunText.{BegunText}
use Rattle.sample_bins.specs.declared.kept.Kept.{Kept}
use Rattle.sample_bins.specs.declared.op.Op.{Op}
use Rattle.sample_bins.specs.Coming.{due}
use Rattle.sample_bins.specs.Binning.{Breaks, Gives, Stands}
use Rattle.sample_bins.specs.CountEvents.{event_time}
use Rattle.sample_bins.proofs.Handing.{on_err, begun_is, due_breaks, keeping_breaks, event_too, stands_sample, stands_held, stands_on, stands_next}
use Rattle.sample_bins.proofs.output.BinOutOut.sample.Goals as goal

pub returns-in_err-give_due-clause-broken : goal.returns-in_err-give_due-clause-broken
returns-in_err-give_due-clause-broken g c before subject xs more events h =
    let O = g.O.Out in
    let self = c.args.self.now in
    let s : Sample = record { t = c.args.t; line = c.args.line.now } in
    let asked : c.in-Some.begun.query ≡ subject.query = ap (λ (b : BegunText). b.query) (begun_is c.in-Some.begun _ self.begun subject c.in-Some.is h.1.asked) in
    let low : subject.query.from ≤ s.t = omega (arith, ap (λ (q : Query). q.from) asked, c.if-t-begun.false) in
    let high : s.t ≤ subject.query.to = omega (arith, ap (λ (q : Query). q.to) asked, c.if-t-begun-2.false) in
    let mine = c.requires.event in
    let event : IsEvent subject.about.ty s = event_too O.gave O.broke self.begun mine.subject subject s mine.has_begun.1.asked h.1.asked mine.event in
    let breaks = subst (λ (o : Op). Breaks O.gave O.broke self.inner (due o self.kept s) c.give_due.new.inner) h.0 c.in_err-give_due.ensures.broken in
    on_err c.from_residual.result _ (due_breaks O.gave O.broke before.op self.kept before.inner subject xs s event self.begun self.inner c.give_due.new.inner low high h.1 breaks more events)

pub keep-requires-clause-time : goal.keep-requires-clause-time
keep-requires-clause-time g c =
    let s : Sample = record { t = c.args.t; line = c.args.line.now } in
    (event_time c.requires.event.subject.about.ty s c.requires.event.event).1

pub returns-in_default-keep-clause-broken : goal.returns-in_default-keep-clause-broken
returns-in_default-keep-clause-broken g c before subject xs more events h =
    let O = g.O.Out in
    let self = c.args.self.now in
    let s : Sample = record { t = c.args.t; line = c.args.line.now } in
    let asked : c.in-Some.begun.query ≡ subject.query = ap (λ (b : BegunText). b.query) (begun_is c.in-Some.begun _ self.begun subject c.in-Some.is h.1.asked) in
    let low : subject.query.from ≤ s.t = omega (arith, ap (λ (q : Query). q.from) asked, c.if-t-begun.false) in
    let high : s.t ≤ subject.query.to = omega (arith, ap (λ (q : Query). q.to) asked, c.if-t-begun-2.false) in
    let mine = c.requires.event in
    let event : IsEvent subject.about.ty s = event_too O.gave O.broke self.begun mine.subject subject s mine.has_begun.1.asked h.1.asked mine.event in
    let given = subst (λ (o : Op). Gives O.gave self.inner (due o self.kept s) c.give_due.new.inner) h.0 c.in_ok-give_due.ensures.given in
    keeping_breaks O.gave O.broke before.op self.kept before.inner subject xs s event self.begun self.inner c.give_due.new.inner low high h.1 g.met.O.Out.front given more events

pub invariant_of-self-2 : goal.invariant_of-self-2
invariant_of-self-2 g c =
    let O = g.O.Out in
    let self = c.args.self.now in
    let s : Sample = record { t = c.args.t; line = c.args.line.now } in
    let mine = c.requires.event in
    let given = c.in_ok-give_due.ensures.given in
    let held = stands_held O.gave O.broke self.op self.inner self.kept.held c.in-Some.begun self.begun c.in-Some.is c.may_go_on.ensures in
    let one = stands_sample O.gave O.broke mine.before.op self.op self.begun self.kept mine.before.inner mine.subject mine.given self.inner s mine.has_begun.0 mine.has_begun.1 mine.event in
    let new = c.give_due.new.inner in
    let later = stands_next O.gave O.broke self.op new self.kept s (stands_on O.gave O.broke self.op self.inner new self.kept.held (due self.op self.kept s) held given) (stands_on O.gave O.broke self.op self.inner new _ (due self.op self.kept s) one given) in
    record {
      wide = self.wide;
      narrow = self.narrow;
      small = c.keep.ensures.small;
      early = c.keep.ensures.early;
      stands = ∣ subst (λ (k : Kept). Stands O.gave self.op new k.held) (sym c.in-Ok.ensures.next) later ∣₁;
    }
