use Rattle.std.proofs.Common.{◌≡◌, ◌∙◌, ap, sym, subst, refl, inl, inr, List, [], ◌∷◌, ℕ, Some, true}
use Rattle.std.specs.Option.{option_copied}
use Rattle.pb_messages.specs.declared.info.PayloadInfo.{PayloadInfo}
use Rattle.act_model.specs.declared.acts.Act.TheVariants.{Register}
use Rattle.act_model.specs.History.{Done}
use Rattle.act_model.proofs.Histories.{made_nothing}
use Rattle.feed_session.specs.Asks.{AsksRow, about_of}
use Rattle.feed_session.specs.Asking.{Registers, none, tally_of}
use Rattle.feed_session.specs.declared.asking.SessionStop.TheVariants as stopped
use Rattle.feed_session.proofs.Asked.{asked_nothing}
use Rattle.feed_session.proofs.Reading.{same_some}
use Rattle.feed_session.proofs.asking.register.Goals as goal

pub returns-in-Ok-Some-clause-asked : goal.returns-in-Ok-Some-clause-asked
returns-in-Ok-Some-clause-asked g c = λ info inside.
    let same : c.in-Some.info.now ≡ info = same_some c.in-Some.info.now info (sym (ap option_copied c.in-Some.is) ∙ (c.info.ensures ∙ inside)) in
    let named = rw c.in-Ok-Some.field-0-is at c.in-Ok-Some.ensures in
    let row : AsksRow true c.in-Some.info.now (Register c.in-Ok-Some.name (about_of c.in-Some.info.now) ∷ []) = inl (named.1, ap (λ (n : List ℕ). Register n (about_of c.in-Some.info.now) ∷ []) named.0) in
    subst (λ (i : PayloadInfo). Registers g.A.Actor.number g.A.Actor.between c.args.actor.now i c.ask_row.result c.ask_row.new.actor) same (inl (record { asked = Register c.in-Ok-Some.name (about_of c.in-Some.info.now) ∷ []; row = row; asking = c.ask_row.ensures.asked }))

pub returns-in-Ok-None-clause-asked : goal.returns-in-Ok-None-clause-asked
returns-in-Ok-None-clause-asked g c = λ info inside.
    let same : c.in-Some.info.now ≡ info = same_some c.in-Some.info.now info (sym (ap option_copied c.in-Some.is) ∙ (c.info.ensures ∙ inside)) in
    let unnamed = rw c.in-Ok-None.field-0-is at c.in-Ok-None.ensures in
    inl (record {
      asked = [];
      row = subst (λ (i : PayloadInfo). AsksRow true i []) same (inr (unnamed, refl));
      asking = asked_nothing g.A.Actor.number g.A.Actor.between {X = Unit {0}} (λ _ (done : List Done). tally_of done ≡ none) c.args.actor.now c.args.actor.now tt (made_nothing g.A.Actor.number g.A.Actor.between g.met.A.Actor.nothing c.args.actor.now) refl;
    })

pub returns-in-Err-clause-asked : goal.returns-in-Err-clause-asked
returns-in-Err-clause-asked g c = λ info inside. inr (refl, made_nothing g.A.Actor.number g.A.Actor.between g.met.A.Actor.nothing c.args.actor.now)
