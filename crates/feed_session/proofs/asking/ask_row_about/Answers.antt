use Rattle.std.proofs.Common.{◌≡◌, refl}
use Rattle.act_model.specs.declared.acts.Act.TheVariants.{Register}
use Rattle.act_model.specs.declared.acts.Answer.TheVariants as answer
use Rattle.act_model.specs.History.{Done}
use Rattle.feed_session.specs.Asking.{none, tally_of}
use Rattle.feed_session.specs.declared.asking.SessionStop.TheVariants as stopped
use Rattle.feed_session.proofs.Asked.{asked_badly, fails_one}
use Rattle.feed_session.proofs.asking.ask_row_about.Goals as goal
use Rattle.std.proofs.Common.{List, inr}

pub returns-in-Ok-DiskFault-clause-asked : goal.returns-in-Ok-DiskFault-clause-asked
returns-in-Ok-DiskFault-clause-asked g c =
    let made = rw c.in-Ok-DiskFault.field-0-is at c.in-Ok-DiskFault.ensures.asked.done in
    asked_badly g.A.Actor.number g.A.Actor.between {X = Unit {0}} (λ _ (done : List Done). tally_of done ≡ none) c.args.actor.now c.ask_register.new.actor (Register c.args.name c.args.about) answer.DiskFault stopped.DiskFault made refl (fails_one (Register c.args.name c.args.about) answer.DiskFault)

pub returns-in-Ok-Memory-clause-asked : goal.returns-in-Ok-Memory-clause-asked
returns-in-Ok-Memory-clause-asked g c =
    let made = rw c.in-Ok-Memory.field-0-is at c.in-Ok-Memory.ensures.asked.done in
    asked_badly g.A.Actor.number g.A.Actor.between {X = Unit {0}} (λ _ (done : List Done). tally_of done ≡ none) c.args.actor.now c.ask_register.new.actor (Register c.args.name c.args.about) answer.Memory stopped.Memory made refl (inr (fails_one (Register c.args.name c.args.about) answer.Memory))
