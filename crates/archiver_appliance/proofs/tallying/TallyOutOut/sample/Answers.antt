use Rattle.archiver_appliance.proofs.Tallies.{event_early}
use Rattle.archiver_appliance.proofs.tallying.TallyOutOut.sample.Goals as goal

pub invariant_of-self : goal.invariant_of-self
invariant_of-self c =
    let event = c.requires.event in
    record { early = c.one_more.ensures.early c.args.self.now.early (event_early event.subject.about.ty _ event.event) }
