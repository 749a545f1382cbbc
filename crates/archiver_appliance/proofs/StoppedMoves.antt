-- Why the moves of one who acts alone stop: by the answer of their last act.
use Rattle.std.proofs.Common.{◌≡◌, inl, inr, ℕ, List, [], ◌∷◌, ◌++◌, true, false, Option, None, Result, Ok, Err, refl, sym, ◌∙◌, ap, subst, append_assoc}
use Rattle.disk_model.specs.Files.{Name}
use Rattle.act_model.specs.declared.acts.Act.{Act}
use Rattle.act_model.specs.declared.acts.Act.TheVariants.{Register, Pause, Resume, Rename, Offer, Tick, Flush, MoveBegin, MoveStep, Sweep, Pin, OpenPiece, Unpin, Names, Details, Doors, DoorDone}
use Rattle.act_model.specs.declared.acts.Answer.TheVariants as answer
use Rattle.act_model.specs.Answers.{is_answer_to}
use Rattle.act_model.specs.History.{Done, Entry, Runs, mine}
use Rattle.act_model.specs.Laws.{AnswersAreOfActs, NoneIsDamaged}
use Rattle.act_model.specs.Machine.{Machine}
use Rattle.act_model.specs.Reply.{Reply}
use Rattle.act_model.specs.Sound.{IsSound}
use Rattle.act_model.specs.Step.{Step}
use Rattle.act_model.proofs.Histories.{cut_at, runs_onward, steps_at}
use Rattle.serving.specs.Rounds.{EndsMoves, IsOfStore, at_its_begin, at_a_step}
use Rattle.serving.specs.Due.{MovesDue, StopsIn, in_short, in_medium, at_sweep}
use Rattle.serving.specs.Moves.{StoppedBy}
use Rattle.serving.specs.declared.due.DueMoved.{DueMoved}
use Rattle.serving.specs.declared.moves.MoveErr.{MoveErr}
use Rattle.serving.specs.declared.moves.MoveErr.TheVariants as err
use Rattle.archiver_appliance.specs.Moving.{TellsMoved}
use Rattle.archiver_appliance.specs.Outside.{IsCausedBy}
use Rattle.command_words.specs.declared.command.StoreCommand.TheVariants as command
use Rattle.command_words.specs.declared.status.Status.{Status}
use Rattle.command_words.specs.declared.status.Status.TheVariants.{SinkFault, DiskFault, Damaged}

-- the last act is answered so
pub record EndsWith (Such : Reply → Type 0) (ds : List Done) : Type 0 where
  pub before : List Done
  pub last : Done
  pub is : ds ≡ before ++ last ∷ []
  pub such : Such last.answer

behind : {Such : Reply → Type 0} (front : List Done) {ds : List Done} → EndsWith Such ds → EndsWith Such (front ++ ds)
behind front e = record { before = front ++ e.before; last = e.last; is = ap (λ (x : List Done). front ++ x) e.is ∙ sym (append_assoc front e.before (e.last ∷ [])); such = e.such }

of_moves : (Such : Reply → Type 0) {store now : ℕ} {ds : List Done} → EndsMoves Such store now ds → EndsWith Such ds
of_moves Such (at_its_begin last act such) = record { before = []; last = last; is = refl; such = such }
of_moves Such (at_a_step first m begins goes) = record { before = first ∷ goes.front; last = goes.last; is = ap (λ (x : List Done). first ∷ x) goes.is; such = goes.such.0 }

of_store : (Such : Reply → Type 0) {store now : ℕ} {ds : List Done} → IsOfStore Such store now ds → EndsWith Such ds
of_store Such o = subst (λ (x : List Done). EndsWith Such x) (sym o.is) (behind o.before (of_moves Such o.ends))

pub stops_with : (Such : Reply → Type 0) {now : ℕ} {ds : List Done} → StopsIn Such now ds → EndsWith Such ds
stops_with Such (in_short o) = of_store Such o
stops_with Such (in_medium {short} first o) = behind short (of_store Such o)
stops_with Such (at_sweep {short} {medium} sweep first second is such) = behind short (record { before = medium; last = sweep; is = refl; such = such })

-- DAMAGE

-- no act but a move's step tells damage, and none does where what is held stands
module _ (answers : AnswersAreOfActs) (undamaged : NoneIsDamaged) where
  pub other_act : (who : ℕ) (act : Act) (name : Name) (at : ℕ) (old new : Machine) → is_answer_to act (answer.Damaged name at) ≡ false → Step who act old (answer.Damaged name at) new → ⊥
  other_act who act name at old new none step = let one : true ≡ false = sym (answers who act old new (answer.Damaged name at) step) ∙ none in cc (one)

  no_damage : (who : ℕ) (act : Act) (name : Name) (at : ℕ) (old new : Machine) → old.told ≡ true → Step who act old (answer.Damaged name at) new → ⊥
  no_damage who (MoveStep n) name at old new told step = undamaged who n at name old new (answer.Damaged name at) told step refl
  no_damage who (Register x about) name at old new told step = other_act who (Register x about) name at old new refl step
  no_damage who (Pause x) name at old new told step = other_act who (Pause x) name at old new refl step
  no_damage who (Resume x) name at old new told step = other_act who (Resume x) name at old new refl step
  no_damage who (Rename x newname) name at old new told step = other_act who (Rename x newname) name at old new refl step
  no_damage who (Offer x ty t line now) name at old new told step = other_act who (Offer x ty t line now) name at old new refl step
  no_damage who (Tick row now) name at old new told step = other_act who (Tick row now) name at old new refl step
  no_damage who (Flush limit) name at old new told step = other_act who (Flush limit) name at old new refl step
  no_damage who (MoveBegin store now) name at old new told step = other_act who (MoveBegin store now) name at old new refl step
  no_damage who Sweep name at old new told step = other_act who Sweep name at old new refl step
  no_damage who (Pin x query) name at old new told step = other_act who (Pin x query) name at old new refl step
  no_damage who (OpenPiece pin i) name at old new told step = other_act who (OpenPiece pin i) name at old new refl step
  no_damage who (Unpin pin) name at old new told step = other_act who (Unpin pin) name at old new refl step
  no_damage who (Names from most) name at old new told step = other_act who (Names from most) name at old new refl step
  no_damage who (Details x) name at old new told step = other_act who (Details x) name at old new refl step
  no_damage who Doors name at old new told step = other_act who Doors name at old new refl step
  no_damage who DoorDone name at old new told step = other_act who DoorDone name at old new refl step

  -- so no run tells it
  pub run_undamaged : (entries : List Entry) (start end : Machine) (before behind : List Done) (act : Act) (name : Name) (at : ℕ) → IsSound start → start.told ≡ true → Runs start entries end → mine 0 entries ≡ before ++ record { act = act; answer = answer.Damaged name at } ∷ behind → ⊥
  run_undamaged entries start end before behind act name at sound told run is =
      let cut = cut_at 0 entries before behind (record { act = act; answer = answer.Damaged name at }) is in
      let s = steps_at cut.front cut.back cut.entry start end (subst (λ (es : List Entry). Runs start es end) cut.is run) in
      let here : s.at.told ≡ true = (runs_onward cut.front start s.at sound s.to).told ∙ told in
      let reply : cut.entry.answer ≡ answer.Damaged name at = ap (λ (d : Done). d.answer) cut.done in
      no_damage cut.entry.who cut.entry.act name at s.at s.after here (subst (λ (r : Reply). Step cut.entry.who cut.entry.act s.at r s.after) reply s.step)

-- STATUSES

pub moved_caused : {R : Type 0} (faults : R → ℕ) (written disk : Type 0) (came : Result DueMoved MoveErr) (a b : Option (List ℕ)) (status : Status) → TellsMoved came a b status → (status ≡ SinkFault → written) → (came ≡ Err err.DiskFault → disk) → IsCausedBy faults ⊥ written disk status None
moved_caused {R} faults written disk came a b status tells sink failed = by came refl tells
  where
    by : (c : Result DueMoved MoveErr) → came ≡ c → TellsMoved c a b status → IsCausedBy faults ⊥ written disk status None
    by (Ok moved) same (inl w) = subst (λ (s : Status). IsCausedBy faults ⊥ written disk s None) (sym w.0) tt
    by (Ok moved) same (inr w) = subst (λ (s : Status). IsCausedBy faults ⊥ written disk s None) (sym w.0) (sink w.0)
    by (Err err.DiskFault) same w = subst (λ (s : Status). IsCausedBy faults ⊥ written disk s None) (sym w.0) (failed same)
    by (Err (err.Damaged name at)) same w = subst (λ (s : Status). IsCausedBy faults ⊥ written disk s None) (sym w.0) tt
    by (Err err.Spent) same w = absurd w
    by (Err err.Memory) same w = subst (λ (s : Status). IsCausedBy faults ⊥ written disk s None) (sym w.0) tt

-- damage is told of the move that found it
pub moved_damaged : (came : Result DueMoved MoveErr) (a b : Option (List ℕ)) (status : Status) (name : Name) (at : ℕ) → TellsMoved came a b status → status ≡ Damaged name at → came ≡ Err (err.Damaged name at)
moved_damaged (Ok moved) a b status name at (inl w) is = absurd (cc (w.0, is))
moved_damaged (Ok moved) a b status name at (inr w) is = absurd (cc (w.0, is))
moved_damaged (Err err.DiskFault) a b status name at w is = absurd (cc (w.0, is))
moved_damaged (Err (err.Damaged other place)) a b status name at w is = let same : Damaged other place ≡ Damaged name at = sym w.0 ∙ is in cc (same)
moved_damaged (Err err.Spent) a b status name at w is = absurd w
moved_damaged (Err err.Memory) a b status name at w is = absurd (cc (w.0, is))

-- the last act of moves that an error ended was answered so
pub moved_last : (now : ℕ) (came : Result DueMoved MoveErr) (ds : List Done) (e : MoveErr) → came ≡ Err e → (e ≡ err.Spent → ⊥) → MovesDue now came ds → EndsWith (StoppedBy e) ds
moved_last now came ds e is not due = by e not (subst (λ (c : Result DueMoved MoveErr). MovesDue now c ds) is due)
  where
    by : (e : MoveErr) → (e ≡ err.Spent → ⊥) → MovesDue now (Err e) ds → EndsWith (StoppedBy e) ds
    by err.DiskFault not due = stops_with (StoppedBy err.DiskFault) due
    by (err.Damaged name at) not due = stops_with (StoppedBy (err.Damaged name at)) due
    by err.Spent not due = absurd (not refl)
    by err.Memory not due = stops_with (StoppedBy err.Memory) due

-- with the answer in its place
pub last_answered : {ds : List Done} (reply : Reply) → EndsWith (λ r. r ≡ reply) ds → (before : List Done) × (act : Act) × (ds ≡ before ++ record { act = act; answer = reply } ∷ [])
last_answered {ds} reply e = (e.before, e.last.act, subst (λ (r : Reply). ds ≡ e.before ++ record { act = e.last.act; answer = r } ∷ []) e.such e.is)
