-- A flush of all that an intake can hold leaves nothing in it.
use Rattle.std.proofs.Common.{◌≡◌, ap, refl, subst, ℕ, ◌≤◌, List, [], ◌∷◌, ◌++◌, lit≤}
use Rattle.act_model.specs.declared.acts.Act.{Act}
use Rattle.act_model.specs.declared.acts.Answer.TheVariants.{Flushed}
use Rattle.act_model.specs.Reply.{Reply}
use Rattle.act_model.specs.Machine.{Machine}
use Rattle.act_model.specs.Sound.{IsSound}
use Rattle.act_model.specs.Step.{Step, MayAsk}
use Rattle.act_model.specs.History.{Done, Entry, Goes, Made, Runs, StepsAt, done_of, mine}
use Rattle.act_model.proofs.FlushLeft.{flush_leaves_none}
use Rattle.act_model.proofs.Histories.{cut_at, runs_sound, steps_at}
use Rattle.feed_session.specs.Asks.{flush_all}
use Rattle.feed_session.proofs.Asked.{done_as}

-- One act of one's own in a run: it is a step from a state that others' entries led to.
pub record OwnStep (m : Machine) (act : Act) (reply : Reply) (new : Machine) : Type 0 where
  pub who : ℕ
  pub front : List Entry
  pub back : List Entry
  pub at : Machine
  pub after : Machine
  pub to : Runs m front at
  pub asked : MayAsk act
  pub step : Step who act at reply after
  pub from : Runs after back new

own_of : (m new : Machine) (e : Entry) (act : Act) (reply : Reply) (front back : List Entry) → done_of e ≡ done_as act reply → StepsAt m front e back new → OwnStep m act reply new
own_of m new e act reply front back is s =
    let a : e.act ≡ act = ap (λ (d : Done). d.act) is in
    let r : e.answer ≡ reply = ap (λ (d : Done). d.answer) is in
    record {
      who = e.who;
      front = front;
      back = back;
      at = s.at;
      after = s.after;
      to = s.to;
      asked = subst MayAsk a s.asked;
      step = subst (λ x. Step e.who act s.at x s.after) r (subst (λ x. Step e.who x s.at e.answer s.after) a s.step);
      from = s.from;
    }

-- where one's own acts are cut, there is a step
pub own_step : (who : ℕ) (entries : List Entry) (earlier later : List Done) (act : Act) (reply : Reply) (m new : Machine) → Runs m entries new → mine who entries ≡ earlier ++ done_as act reply ∷ later → OwnStep m act reply new
own_step who entries earlier later act reply m new runs is =
    let cut = cut_at who entries earlier later (done_as act reply) is in
    own_of m new cut.entry act reply cut.front cut.back cut.done (steps_at cut.front cut.back cut.entry m new (subst (λ es. Runs m es new) cut.is runs))

module _ {A : Type 0} (number : A → ℕ) (between : A → List Entry → A → Type 0) (stands : A → Machine → Type 0)
    (legal : (a b : A) (entries : List Entry) (m : Machine) → between a entries b → stands a m → Goes (stands b) m entries)
    (sound : (a : A) (m : Machine) → stands a m → IsSound m) where
  pub flushed_left : (old new : A) (samples left doors : ℕ) (m : Machine) → stands old m → Made number between old (done_as flush_all (Flushed samples left doors) ∷ []) new → left ≡ 0
  flushed_left old new samples left doors m s made =
      let goes = legal old new made.entries m made.leads s in
      let own = own_step (number old) made.entries [] [] flush_all (Flushed samples left doors) m goes.after goes.runs made.just_these in
      flush_leaves_none 67108864 own.at own.after (Flushed samples left doors) samples left doors (runs_sound own.front m own.at (sound old m s) own.to) (lit≤ tt) own.step refl
