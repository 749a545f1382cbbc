-- What an ingest by one who acts alone leaves: a flush ends it, so all that is accepted is durable.
use Rattle.std.proofs.Common.{◌≡◌, ℕ, zero, suc, List, [], ◌∷◌, ◌++◌, Some, refl, sym, ◌∙◌, ap, subst, arith, append-nil, append_assoc}
use Rattle.std.specs.Prelude.{slice_get}
use Rattle.series_model.specs.declared.sample.Sample.{Sample}
use Rattle.series_model.specs.Series.{over}
use Rattle.act_model.specs.declared.acts.Act.{Act}
use Rattle.act_model.specs.declared.acts.Answer.TheVariants as answer
use Rattle.act_model.specs.Flush.{FlushStep}
use Rattle.act_model.specs.History.{Done, Entry, Runs, mine, own}
use Rattle.act_model.specs.Machine.{Machine, held_bytes}
use Rattle.act_model.specs.Outcome.{refused_at_once, refused, runs, faults_first, faults_between, faults_within, faults_removing, wants_memory, wants_memory_settled}
use Rattle.act_model.specs.Reply.{Reply}
use Rattle.act_model.specs.Rows.{RowState, accepted, durable, size_of}
use Rattle.act_model.specs.Step.{Step}
use Rattle.act_model.proofs.Histories.{cut_at, steps_at}
use Rattle.pb_lines.specs.Stream.{Item}
use Rattle.feed_session.specs.Asks.{FailsWith, flush_all}
use Rattle.feed_session.specs.Session.{EndsIn, IsFlushed, TakenItem, acts_of}
use Rattle.feed_session.specs.declared.end.Fed.{Fed}
use Rattle.feed_session.specs.declared.end.Fed.TheVariants as fed
use Rattle.archiver_appliance.specs.Ingesting.{AllIsDurable, LeavesNone}
use Rattle.archiver_appliance.proofs.PinSteps.{first_own}

-- THE LAST ACT

-- all but the first are one's own too
pub rest_own : (who : ℕ) (e : Entry) (es : List Entry) → own who (e ∷ es) ≡ e ∷ es → own who es ≡ es
rest_own who e es all = let is = first_own who e es all in let one : e ∷ own who es ≡ e ∷ es = rw is at all in cc (one)

-- behind the last of one's own acts nothing stands, where all are one's own
none_behind : (who : ℕ) (front back : List Entry) → own who (front ++ back) ≡ front ++ back → mine who back ≡ [] → back ≡ []
none_behind who [] [] all none = refl
none_behind who [] (e ∷ es) all none = let is = first_own who e es all in absurd (cc (rw is at none))
none_behind who (x ∷ xs) back all none = none_behind who xs back (rest_own who x (xs ++ back) all) none

-- the last act of a run is a step to its end
pub last_step : (entries : List Entry) (start end : Machine) (before : List Done) (d : Done) → own 0 entries ≡ entries → mine 0 entries ≡ before ++ d ∷ [] → Runs start entries end → (m : Machine) × (who : ℕ) × Step who d.act m d.answer end
last_step entries start end before d all is run =
    let cut = cut_at 0 entries before [] d is in
    let split : cut.front ++ cut.entry ∷ cut.back ≡ (cut.front ++ cut.entry ∷ []) ++ cut.back = sym (append_assoc cut.front (cut.entry ∷ []) cut.back) in
    let whole : own 0 ((cut.front ++ cut.entry ∷ []) ++ cut.back) ≡ (cut.front ++ cut.entry ∷ []) ++ cut.back = subst (λ (es : List Entry). own 0 es ≡ es) (cut.is ∙ split) all in
    let none : cut.back ≡ [] = none_behind 0 (cut.front ++ cut.entry ∷ []) cut.back whole cut.back_is in
    let at = steps_at cut.front cut.back cut.entry start end (subst (λ (es : List Entry). Runs start es end) cut.is run) in
    let last : end ≡ at.after = subst (λ (es : List Entry). Runs at.after es end) none at.from in
    let act : cut.entry.act ≡ d.act = ap (λ (x : Done). x.act) cut.done in
    let told : cut.entry.answer ≡ d.answer = ap (λ (x : Done). x.answer) cut.done in
    (at.at, cut.entry.who, subst (λ (m : Machine). Step cut.entry.who d.act at.at d.answer m) (sym last) (subst (λ (a : Act). Step cut.entry.who a at.at d.answer at.after) act (subst (λ (r : Reply). Step cut.entry.who cut.entry.act at.at r at.after) told at.step)))

-- A FLUSH

no_bytes : (xs : List Sample) → size_of xs ≡ 0 → xs ≡ []
no_bytes [] none = refl
no_bytes (x ∷ xs) none = absurd (omega arith)

no_tail : (rows : List RowState) (i : ℕ) (row : RowState) → held_bytes rows ≡ 0 → slice_get rows i ≡ Some row → row.tail ≡ []
no_tail [] i row none here = absurd (cc (here))
no_tail (x ∷ rows) zero row none here = let same : x ≡ row = cc (here) in let one : size_of row.tail ≡ 0 = subst (λ (r : RowState). size_of r.tail ≡ 0) same (omega arith) in no_bytes row.tail one
no_tail (x ∷ rows) (suc i) row none here = no_tail rows i row (omega arith) here

tailless : (row : RowState) → row.tail ≡ [] → durable row ≡ accepted row
tailless row none = sym (ap (λ (w : List Sample). over (durable row) w) none ∙ append-nil (durable row))

-- one that leaves nothing in the intake makes all durable
flush_all_durable : (limit samples doors : ℕ) {old new : Machine} {reply : Reply} → FlushStep limit old reply new → reply ≡ answer.Flushed samples 0 doors → AllIsDurable new
flush_all_durable limit samples doors (refused_at_once reply p) is = absurd (cc (p))
flush_all_durable limit samples doors (refused reply p settles q same more) is = absurd (cc (q))
flush_all_durable limit samples doors {new = new} (runs reply p settles q ran more) is = λ i row here.
    let told = sym ran.0.2 ∙ is in
    let none : held_bytes new.rows ≡ 0 = cc (told) in
    tailless row (no_tail new.rows i row none here)
flush_all_durable limit samples doors (faults_first p same rose) is = absurd (cc (is))
flush_all_durable limit samples doors (faults_between p settles same rose) is = absurd (cc (is))
flush_all_durable limit samples doors (faults_within doubted p settles q r same rose) is = absurd (cc (is))
flush_all_durable limit samples doors (faults_removing done gone p settles q ran rose) is = absurd (cc (is))
flush_all_durable limit samples doors (wants_memory same more) is = absurd (cc (is))
flush_all_durable limit samples doors (wants_memory_settled p settles same more) is = absurd (cc (is))

-- A SESSION

module _ (entries : List Entry) (start end : Machine) (taken : List TakenItem) (last done : List Done) (all : own 0 entries ≡ entries) (just : mine 0 entries ≡ done) (are : done ≡ acts_of taken ++ last) (run : Runs start entries end) where
  flushed : IsFlushed last → AllIsDurable end
  flushed is =
      let step = last_step entries start end (acts_of taken) (record { act = flush_all; answer = answer.Flushed is.samples 0 is.doors }) all (just ∙ (are ∙ ap (λ (ds : List Done). acts_of taken ++ ds) is.is)) run in
      flush_all_durable 67108864 is.samples is.doors step.2 refl

  pub leaves_none : (came : Fed) (begun : List Item) → EndsIn came begun last → LeavesNone came end
  leaves_none (fed.Fed kept held dropped) begun ends = flushed ends.1
  leaves_none (fed.Refused line fault) begun ends = flushed ends.1
  leaves_none fed.PeerFault begun ends = tt
  leaves_none fed.DiskFault begun ends = tt
  leaves_none fed.Spent begun ends = tt
  leaves_none fed.Memory begun ends = tt

-- the last act of a session that failed
pub fails_last : (taken : List TakenItem) (last done : List Done) → done ≡ acts_of taken ++ last → (f : FailsWith answer.DiskFault last) → done ≡ (acts_of taken ++ f.before) ++ record { act = f.act; answer = answer.DiskFault } ∷ []
fails_last taken last done are f = are ∙ (ap (λ (ds : List Done). acts_of taken ++ ds) f.is ∙ sym (append_assoc (acts_of taken) f.before (record { act = f.act; answer = answer.DiskFault } ∷ [])))
