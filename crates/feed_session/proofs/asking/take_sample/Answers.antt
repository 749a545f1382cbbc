use Rattle.std.proofs.Common.{◌≡◌, ◌∙◌, ap, sym, List, [], ◌∷◌, ℕ, Some}
use Rattle.std.specs.Option.{option_copied}
use Rattle.pb_messages.specs.declared.info.PayloadInfo.{PayloadInfo}
use Rattle.act_model.specs.History.{Done}
use Rattle.feed_session.specs.Asks.{offer_of}
use Rattle.feed_session.specs.Asking.{both, none, one_more, tally_of}
use Rattle.feed_session.specs.declared.tally.OfferOutcome.{OfferOutcome}
use Rattle.feed_session.proofs.Asked.{sample_counted, sample_stopped}
use Rattle.feed_session.proofs.Reading.{event_of, same_some}
use Rattle.feed_session.proofs.asking.take_sample.Goals as goal

pub offer-requires-clause-event : goal.offer-requires-clause-event
offer-requires-clause-event g c = event_of c.args.reader.now c.args.t c.in-Some.info.now c.line.result.now c.requires.sample (sym c.info.ensures ∙ ap option_copied c.in-Some.is) c.line.ensures

same_offer : (i j : PayloadInfo) (l m : List ℕ) (t now : ℕ) → i ≡ j → l ≡ m → offer_of i (record { t = t; line = l }) now ∷ [] ≡ offer_of j (record { t = t; line = m }) now ∷ []
same_offer i j l m t now p q = ap (λ (x : PayloadInfo). offer_of x (record { t = t; line = l }) now ∷ []) p ∙ ap (λ (x : List ℕ). offer_of j (record { t = t; line = x }) now ∷ []) q

pub returns-in-Ok-clause-asked : goal.returns-in-Ok-clause-asked
returns-in-Ok-clause-asked g c = λ info inside.
    let same : c.in-Some.info.now ≡ info = same_some c.in-Some.info.now info (sym (ap option_copied c.in-Some.is) ∙ (c.info.ensures ∙ inside)) in
    sample_counted g.A.Actor.number g.A.Actor.between c.args.actor.now c.offer.new.actor _ _ c.in-Ok.outcome c.args.tally.now c.count.new.self (same_offer c.in-Some.info.now info c.line.result.now c.args.reader.now.lines.line c.args.t c.args.now same c.line.ensures) c.count.ensures c.in-Ok.ensures.asked

pub returns-in-Err-clause-asked : goal.returns-in-Err-clause-asked
returns-in-Err-clause-asked g c = λ info inside.
    let same : c.in-Some.info.now ≡ info = same_some c.in-Some.info.now info (sym (ap option_copied c.in-Some.is) ∙ (c.info.ensures ∙ inside)) in
    sample_stopped g.A.Actor.number g.A.Actor.between {X = OfferOutcome} {Y = Unit {0}} c.args.actor.now c.offer.new.actor _ _ c.in-Err.stopped (λ (x : OfferOutcome) (done : List Done). tally_of done ≡ one_more x none) (λ _ (done : List Done). c.args.tally.now ≡ both c.args.tally.now (tally_of done)) (same_offer c.in-Some.info.now info c.line.result.now c.args.reader.now.lines.line c.args.t c.args.now same c.line.ensures) c.in-Err.ensures.asked
