-- What an actor holds that has made a pin.
use Rattle.std.proofs.Common.{◌≡◌, ℕ, ◌<◌, ◌^◌, List, [], ◌∷◌, Some, sym, ◌∙◌, subst, zero-add}
use Rattle.std.specs.FinMap.{get}
use Rattle.pb_wire.specs.declared.payload.PayloadType.{PayloadType}
use Rattle.pb_messages.specs.declared.about.About.{About}
use Rattle.series_model.specs.declared.sample.Query.{Query}
use Rattle.series_model.specs.declared.sample.Sample.{Sample}
use Rattle.act_model.specs.declared.acts.Act.TheVariants.{Pin}
use Rattle.act_model.specs.declared.acts.Answer.TheVariants.{Pinned}
use Rattle.act_model.specs.Event.{IsEvent, AreEvents}
use Rattle.act_model.specs.History.{Entry, MadeOne, Goes, own}
use Rattle.act_model.specs.Machine.{Machine}
use Rattle.act_model.specs.Pinned.{IsPinMade}
use Rattle.act_model.specs.Sound.{IsSound}
use Rattle.act_model.proofs.Histories.{runs_sound}
use Rattle.act_model.proofs.StepSound.{step_sound}
use Rattle.act_model.proofs.PinLaws.{pin_answers, pin_stands_beside}
use Rattle.stream_merge.specs.Reading.{IsSampleOf, AreSamplesOf}
use Rattle.retrieval_query.specs.Openings.{Holds}
use Rattle.retrieval_query.proofs.Steps.{OneStep, one_step}

-- EVENTS

pub sample_from : (ty : PayloadType) (s : Sample) → IsEvent ty s → IsSampleOf ty s
sample_from ty s e = (
  e.year,
  record {
    whole = e.whole;
    meant = record { secs = e.secs; nano = e.nano; stamp = (e.message, e.means, e.stamp); sample_year = e.sample_year; in_year = e.in_year; at = e.at };
  },
)

pub samples_from : (ty : PayloadType) (xs : List Sample) → AreEvents ty xs → AreSamplesOf ty xs
samples_from ty [] all = tt
samples_from ty (x ∷ xs) all = (sample_from ty x all.0, samples_from ty xs all.1)

module _ {A : Type 0} (number : A → ℕ) (between : A → List Entry → A → Type 0) (stands : A → Machine → Type 0)
    (legal : (a b : A) (entries : List Entry) (m : Machine) → between a entries b → stands a m → Goes (stands b) m entries) (sound : (a : A) (m : Machine) → stands a m → IsSound m)
    (number_stays : (a b : A) (entries : List Entry) → between a entries b → number b ≡ number a)
    (a b : A) (name : List ℕ) (query : Query) (pin : ℕ) (told : List ℕ) (about : About) (count : ℕ) (tail : List Sample) (made : MadeOne number between a (Pin name query) (Pinned pin told about count tail) b) (m : Machine) (is : stands a m) where
  abbrev step : OneStep (stands b) m (number a) (Pin name query) (Pinned pin told about count tail) made.entries
  step = one_step number between stands legal a b (Pin name query) (Pinned pin told about count tail) m is made

  pub pin_made : IsPinMade (number a) name query pin told about count tail step.after
  pin_made = pin_answers (number a) pin count name told query about tail step.at step.after step.step

  pub sound_after : IsSound step.after
  sound_after = step_sound (number a) (Pin name query) step.at step.after (Pinned pin told about count tail) (runs_sound step.before_it m step.at (sound a m is) step.to) tt step.step

  pub pin_there : get step.end.pins pin ≡ Some pin_made.pin
  pin_there = (pin_stands_beside pin pin_made.pin step.after_it step.after step.end sound_after step.from (subst (λ (n : ℕ). own n step.after_it ≡ []) (sym pin_made.owner) step.none_after) pin_made.there).there

  pub pin_held : Holds number stands b pin 0 count
  pin_held = record {
    m = step.end;
    stands_for = step.stands_for;
    state = pin_made.pin;
    there = pin_there;
    owner = pin_made.owner ∙ sym (number_stays a b made.entries made.leads);
    all = sym pin_made.number ∙ sym (zero-add count);
    few = subst (λ (n : ℕ). n < 2 ^ 32) (sym pin_made.number ∙ sym (zero-add count)) pin_made.few;
  }

  pub tail_events : AreSamplesOf about.ty tail
  tail_events =
      let row = pin_made.row in
      let events = (sound_after.lines pin_made.i row pin_made.here).tail in
      samples_from about.ty tail (subst (λ (xs : List Sample). AreEvents about.ty xs) (sym pin_made.tail_is) (subst (λ (k : About). AreEvents k.ty row.tail) (sym pin_made.about_is) events))
