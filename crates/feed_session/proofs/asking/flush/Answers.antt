use Rattle.std.proofs.Common.{ap, refl, [], ◌∷◌, ℕ, List, inr}
use Rattle.act_model.specs.declared.acts.Answer.TheVariants as answer
use Rattle.act_model.specs.History.{Done}
use Rattle.feed_session.specs.Asks.{flush_all}
use Rattle.feed_session.specs.Session.{IsFlushed}
use Rattle.feed_session.specs.declared.asking.SessionStop.TheVariants as stopped
use Rattle.feed_session.proofs.Asked.{asked_badly, asked_well, done_as, fails_one}
use Rattle.feed_session.proofs.Flushing.{flushed_left}
use Rattle.feed_session.proofs.asking.flush.Goals as goal

pub returns-in-Ok-Flushed-clause-asked : goal.returns-in-Ok-Flushed-clause-asked
returns-in-Ok-Flushed-clause-asked g c =
    let number = g.A.Actor.number in
    let between = g.A.Actor.between in
    let old = c.args.actor.now in
    let new = c.ask_flush.new.actor in
    let w = c.in-Ok-Flushed in
    let made = rw w.field-0-is at w.ensures.asked.done in
    let none = flushed_left number between g.A.Actor.stands g.met.A.Actor.legal g.met.A.Actor.sound old new w.field-0-0 w.field-0-1 w.field-0-2 c.requires.stands.0 c.requires.stands.1 made in
    asked_well number between {X = Unit {0}} (λ _ (done : List Done). IsFlushed done) old new flush_all (answer.Flushed w.field-0-0 w.field-0-1 w.field-0-2) tt made refl refl
    (record { samples = w.field-0-0; doors = w.field-0-2; is = ap (λ (n : ℕ). done_as flush_all (answer.Flushed w.field-0-0 n w.field-0-2) ∷ []) none })

pub returns-in-Ok-DiskFault-clause-asked : goal.returns-in-Ok-DiskFault-clause-asked
returns-in-Ok-DiskFault-clause-asked g c =
    let made = rw c.in-Ok-DiskFault.field-0-is at c.in-Ok-DiskFault.ensures.asked.done in
    asked_badly g.A.Actor.number g.A.Actor.between {X = Unit {0}} (λ _ (done : List Done). IsFlushed done) c.args.actor.now c.ask_flush.new.actor flush_all answer.DiskFault stopped.DiskFault made refl (fails_one flush_all answer.DiskFault)

pub returns-in-Ok-Memory-clause-asked : goal.returns-in-Ok-Memory-clause-asked
returns-in-Ok-Memory-clause-asked g c =
    let made = rw c.in-Ok-Memory.field-0-is at c.in-Ok-Memory.ensures.asked.done in
    asked_badly g.A.Actor.number g.A.Actor.between {X = Unit {0}} (λ _ (done : List Done). IsFlushed done) c.args.actor.now c.ask_flush.new.actor flush_all answer.Memory stopped.Memory made refl (inr (fails_one flush_all answer.Memory))
