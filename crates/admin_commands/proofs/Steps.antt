-- What the archive's own laws say of an answer: a page behind which more names follow ends below the most rows, and a flush leaves nothing.
use Rattle.std.proofs.Common.{◌≡◌, ℕ, ◌+◌, ◌<◌, ◌≤◌, List, [], ◌∷◌, length, Bool, true, refl, ap, arith, subst, inl, inr, lit≤}
use Rattle.std.specs.Prelude.{nat_lt, Result, Ok, Err, IfOk}
use Rattle.std.proofs.lemmas.Bool.Decides.{nat_tests}
use Rattle.act_model.specs.declared.acts.Act.{Act}
use Rattle.act_model.specs.declared.acts.Act.TheVariants.{Flush, Names}
use Rattle.act_model.specs.declared.acts.Answer.TheVariants.{Flushed, NamesAre}
use Rattle.act_model.specs.declared.actor.Spent.{Spent}
use Rattle.act_model.specs.declared.answers.NamesTold.{NamesTold}
use Rattle.act_model.specs.declared.answers.NamesTold.TheVariants as names_told
use Rattle.act_model.specs.declared.answers.Flushed.{Flushed as FlushTold}
use Rattle.act_model.specs.declared.answers.Flushed.TheVariants as flush_told
use Rattle.act_model.specs.Asks.{Asked, names_told_reply, flushed_reply}
use Rattle.act_model.specs.History.{Done, Entry, Goes, Made, Runs}
use Rattle.act_model.specs.Machine.{Machine}
use Rattle.act_model.specs.Names.{NamesStep}
use Rattle.act_model.specs.Reply.{Reply}
use Rattle.act_model.specs.Sound.{IsSound}
use Rattle.act_model.specs.Step.{Step}
use Rattle.act_model.proofs.FlushLeft.{flush_leaves_none}
use Rattle.act_model.proofs.Histories.{cut_at, runs_sound, steps_at}
use Rattle.admin_commands.specs.Next.{page}
use Rattle.admin_commands.specs.Pages.{EndsBelow, LeavesNone}

-- an act of one's own is a step from a sound state
record OwnStep (act : Act) (reply : Reply) : Type 0 where
  who : ℕ
  at : Machine
  after : Machine
  sound : IsSound at
  step : Step who act at reply after

names_below : (from most : ℕ) (at after : Machine) (names : List (List ℕ)) (more : Bool) → NamesStep from most at (NamesAre names more) after → length at.rows ≤ 65536 → more ≡ true → from + most < 65536
names_below from most at after names more step few is =
    elim step as (λ _. from + most < 65536) [
      | inl p ↦
          let same : more ≡ nat_lt (from + most) (length at.rows) = cc in
          grind (arith, nat_tests)
      | inr p ↦ absurd (cc)
    ]

module _ {A : Type 0} (number : A → ℕ) (between : A → List Entry → A → Type 0) (is_spent : A → Type 0) (stands : A → Machine → Type 0)
    (legal : (a b : A) (entries : List Entry) (m : Machine) → between a entries b → stands a m → Goes (stands b) m entries)
    (sound : (a : A) (m : Machine) → stands a m → IsSound m) where
  own_step : (old new : A) (act : Act) (reply : Reply) (m : Machine) → stands old m → Made number between old (record { act = act; answer = reply } ∷ []) new → OwnStep act reply
  own_step old new act reply m s made =
      let goes = legal old new made.entries m made.leads s in
      let d : Done = record { act = act; answer = reply } in
      let cut = cut_at (number old) made.entries [] [] d made.just_these in
      let at = steps_at cut.front cut.back cut.entry m goes.after (subst (λ es. Runs m es goes.after) cut.is goes.runs) in
      let a : cut.entry.act ≡ act = ap (λ (x : Done). x.act) cut.done in
      let r : cut.entry.answer ≡ reply = ap (λ (x : Done). x.answer) cut.done in
      record {
        who = cut.entry.who;
        at = at.at;
        after = at.after;
        sound = runs_sound cut.front m at.at (sound old m s) at.to;
        step = subst (λ x. Step cut.entry.who act at.at x at.after) r (subst (λ x. Step cut.entry.who x at.at cut.entry.answer at.after) a at.step);
      }

  pub ends_below : (old new : A) (from : ℕ) (result : Result NamesTold Spent) (m : Machine) → stands old m → Asked number between is_spent names_told_reply old (Names from page) result new → IfOk result (EndsBelow from)
  ends_below old new from (Ok (names_told.NamesAre names more)) m s asked = λ is.
      let own = own_step old new (Names from page) (NamesAre names more) m s asked.done in
      names_below from page own.at own.after names more own.step own.sound.few is
  ends_below old new from (Ok names_told.Memory) m s asked = tt
  ends_below old new from (Err e) m s asked = tt

  pub leaves_none : (old new : A) (result : Result FlushTold Spent) (m : Machine) → stands old m → Asked number between is_spent flushed_reply old (Flush 67108864) result new → IfOk result LeavesNone
  leaves_none old new (Ok (flush_told.Flushed samples left doors)) m s asked =
      let own = own_step old new (Flush 67108864) (Flushed samples left doors) m s asked.done in
      flush_leaves_none 67108864 own.at own.after (Flushed samples left doors) samples left doors own.sound (lit≤ tt) own.step refl
  leaves_none old new (Ok flush_told.DiskFault) m s asked = tt
  leaves_none old new (Ok flush_told.Memory) m s asked = tt
  leaves_none old new (Err e) m s asked = tt
