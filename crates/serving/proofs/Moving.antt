-- Moves, stores and rounds of the mover, put together of what was done in them.
use Rattle.std.specs.Option.{option_or}
use Rattle.std.proofs.Common.{◌≡◌, ◌≢◌, ℕ, ◌+◌, ◌-◌, ◌^◌, List, [], ◌∷◌, ◌++◌, Bool, true, false, Option, Some, None, Ok, Err, IfOk, OnErr, min, refl, ap, sym, ◌∙◌, arith, subst, inl, inr, append_assoc, append-nil}
use Rattle.std.specs.Prelude.{◌⊎◌, Contains}
use Rattle.std.proofs.lemmas.List.Sums.{sum_by-append}
use Rattle.std.proofs.lemmas.List.Elements.{All-push, All-head, All-tail, Contains-push, Contains-append_left, Contains-append_right}
use Rattle.act_model.specs.declared.acts.Act.TheVariants.{Doors, MoveBegin, MoveStep, Sweep}
use Rattle.act_model.specs.declared.acts.Answer.TheVariants.{Nothing, DoorsLeft, Begun, Busy}
use Rattle.act_model.specs.Reply.{Reply}
use Rattle.act_model.specs.declared.actor.Actor.{Ghosts as OfActor}
use Rattle.act_model.specs.History.{Entry, Done}
use Rattle.serving.specs.declared.ends.MoverEnd.{MoverEnd}
use Rattle.serving.specs.declared.ends.MoverEnd.TheVariants.{Rests, MeetsFault, MeetsNoMemory}
use Rattle.serving.specs.Rounds.{IsFault, IsMemory, GoesOn, IsOver, IsMove, BeginsMove, AreMoves, no_move, one_more_move, CutsMove, EndsMoves, at_its_begin, at_a_step, IsOfStore, EndsStore, EndsSo}
use Rattle.serving.specs.declared.moves.BegunMove.TheVariants as begun
use Rattle.serving.specs.declared.moves.MoveErr.{MoveErr}
use Rattle.serving.specs.declared.moves.MoveErr.TheVariants as err
use Rattle.serving.specs.declared.moves.OneMove.TheVariants as one
use Rattle.serving.specs.declared.moves.StoreMoved.{StoreMoved}
use Rattle.serving.specs.Does.{Does, AreNone, AsksDoors}
use Rattle.serving.proofs.Joins.{does_as}
use Rattle.serving.specs.Moves.{parts_in, retired_by, shown, StoppedBy, IsStepOn, AreStepsOn, IsBegun, none_begun, one_begun, BeginsSo, StepsSo, MovesSo, OneMoveSo, StoreMovesSo, IsSwept, end_met, EndsStoreSo, StoreSo, SweptSo, SweepsSo, fault_of, met_in, end_of_round, AreSoFar, MoveRoundAt, IsMoverRoundSo, MovesCutAt, no_doors_asked, short_begun, medium_begun, sweep_ahead}

-- partitions that were retired by acts and then by others
retired-append : (xs ys : List Done) → retired_by (xs ++ ys) ≡ retired_by xs + retired_by ys
retired-append xs ys = sum_by-append (λ (d : Done). parts_in d.answer) xs ys

-- A MOVE

pub step_on : (m : ℕ) (xs ys : List Done) → AreStepsOn m xs → StepsSo m (Ok None) ys → AreStepsOn m (xs ++ ys)
step_on m xs ys p q = subst (λ w. AreStepsOn m (xs ++ w)) (sym q.1) (All-push (IsStepOn m) xs q.0 p (q.2, q.3))

-- such a step retires nothing
on_none : (reply : Reply) → GoesOn reply → parts_in reply ≡ 0
on_none reply (inl is) = ap parts_in is
on_none reply (inr (inl is)) = ap parts_in is
on_none reply (inr (inr is)) = ap parts_in is

steps_none : (m : ℕ) (ds : List Done) → AreStepsOn m ds → retired_by ds ≡ 0
steps_none m [] all = refl
steps_none m (d ∷ ds) all =
    let one = on_none d.answer (All-head (IsStepOn m) d ds all).1 in
    let more = steps_none m ds (All-tail (IsStepOn m) d ds all) in
    let whole = retired-append (d ∷ []) ds in
    omega arith

retired_push : (xs : List Done) (d : Done) → retired_by (xs ++ d ∷ []) ≡ retired_by xs + parts_in d.answer
retired_push xs d = let both = retired-append xs (d ∷ []) in omega arith

step_last : (Such : Reply → Type 0) (m : ℕ) (xs ys : List Done) (d : Done) → AreStepsOn m xs → ys ≡ d ∷ [] → d.act ≡ MoveStep m → Such d.answer → IsMove Such m (xs ++ ys)
step_last Such m xs ys d p is act such = record { front = xs; last = d; is = ap (λ (w : List Done). xs ++ w) is; goes = p; act = act; such = such }

pub step_ends : (m parts : ℕ) (xs ys : List Done) → AreStepsOn m xs → StepsSo m (Ok (Some parts)) ys → MovesSo m (Ok parts) (xs ++ ys)
step_ends m parts xs ys p q = (
  step_last IsOver m xs ys q.0 p q.1 q.2 q.3.0,
  (let none = steps_none m xs p in
      let push = retired_push xs q.0 in
      let same = ap (λ (w : List Done). retired_by (xs ++ w)) q.1 in
      let told = q.3.1 in
      omega arith),
)

pub step_stops : (m : ℕ) (why : MoveErr) (xs ys : List Done) → AreStepsOn m xs → StepsSo m (Err why) ys → MovesSo m (Err why) (xs ++ ys)
step_stops m err.DiskFault xs ys p q = step_last (StoppedBy err.DiskFault) m xs ys q.0 p q.1 q.2 q.3
step_stops m (err.Damaged name at) xs ys p q = step_last (StoppedBy (err.Damaged name at)) m xs ys q.0 p q.1 q.2 q.3
step_stops m err.Spent xs ys p q = subst (λ w. AreStepsOn m (xs ++ w)) (sym q) (subst (λ w. AreStepsOn m w) (sym (append-nil xs)) p)
step_stops m err.Memory xs ys p q = step_last (StoppedBy err.Memory) m xs ys q.0 p q.1 q.2 q.3

-- ONE MOVE OF A STORE

-- a begin retires nothing
begun_none : (store now m : ℕ) (d : Done) → BeginsMove store now m d → parts_in d.answer ≡ 0
begun_none store now m d b = by_answer b.answered
  where
    by_answer : ((row : ℕ) × (parts : ℕ) × (d.answer ≡ Begun m row parts)) ⊎ (d.answer ≡ Busy m) → parts_in d.answer ≡ 0
    by_answer (inl is) = ap parts_in is.2
    by_answer (inr is) = ap parts_in is

begun_first : (first : Done) (xs ys : List Done) → xs ≡ first ∷ [] → xs ++ ys ≡ first ∷ ys
begun_first first xs ys is = ap (λ (w : List Done). w ++ ys) is

pub once_over : (store now m parts : ℕ) (xs ys : List Done) → BeginsSo store now (Ok (begun.Moves m)) xs → MovesSo m (Ok parts) ys → OneMoveSo store now (Ok (one.Over parts)) (xs ++ ys)
once_over store now m parts xs ys p q =
    let is = begun_first p.0 xs ys p.1 in (
      record { first = p.0; m = m; steps = ys; is = is; begins = p.2; goes = q.0 },
      (let none = begun_none store now m p.0 p.2 in
          let same = ap retired_by is in
          let whole = retired-append (p.0 ∷ []) ys in
          let told = q.1 in
          omega arith),
    )

-- what stops a move cuts it short
stops_cut : (why : MoveErr) (reply : Reply) → StoppedBy why reply → CutsMove (StoppedBy why) reply
stops_cut err.DiskFault reply is = (is, inl (inl is))
stops_cut (err.Damaged name at) reply is = (is, inl (inr (name, at, is)))
stops_cut err.Spent reply is = absurd is
stops_cut err.Memory reply is = (is, inr is)

cut_move : (why : MoveErr) (m : ℕ) (ds : List Done) → IsMove (StoppedBy why) m ds → IsMove (CutsMove (StoppedBy why)) m ds
cut_move why m ds r = record { front = r.front; last = r.last; is = r.is; goes = r.goes; act = r.act; such = stops_cut why r.last.answer r.such }

cut_short : (why : MoveErr) (store now m : ℕ) (xs ys : List Done) → BeginsSo store now (Ok (begun.Moves m)) xs → IsMove (StoppedBy why) m ys → EndsMoves (StoppedBy why) store now (xs ++ ys)
cut_short why store now m xs ys p q = subst (λ w. EndsMoves (StoppedBy why) store now w) (sym (begun_first p.0 xs ys p.1)) (at_a_step p.0 m p.2 (cut_move why m ys q))

pub once_stops : (why : MoveErr) (store now m : ℕ) (xs ys : List Done) → BeginsSo store now (Ok (begun.Moves m)) xs → MovesSo m (Err why) ys → OneMoveSo store now (Err why) (xs ++ ys)
once_stops err.DiskFault store now m xs ys p q = cut_short err.DiskFault store now m xs ys p q
once_stops (err.Damaged name at) store now m xs ys p q = cut_short (err.Damaged name at) store now m xs ys p q
once_stops err.Spent store now m xs ys p q = subst (λ w. IsBegun store now w) (sym (begun_first p.0 xs ys p.1)) (one_begun p.0 m p.2 q)
once_stops err.Memory store now m xs ys p q = cut_short err.Memory store now m xs ys p q

pub none_to_make : (store now doors : ℕ) (ds : List Done) → BeginsSo store now (Ok (begun.Nothing doors)) ds → OneMoveSo store now (Ok (one.Nothing doors)) ds
none_to_make store now doors ds p = let same : p.0 ≡ record { act = MoveBegin store now; answer = Nothing doors } = rw (sym p.2.0, sym p.2.1) refl in p.1 ∙ ap (λ (d : Done). d ∷ []) same

at_begin : (Such : Reply → Type 0) (store now : ℕ) (d : Done) (ds : List Done) → ds ≡ d ∷ [] → d.act ≡ MoveBegin store now → Such d.answer → EndsMoves Such store now ds
at_begin Such store now d ds is act said = subst (λ w. EndsMoves Such store now w) (sym is) (at_its_begin d act said)

pub begin_stops : (why : MoveErr) (store now : ℕ) (ds : List Done) → BeginsSo store now (Err why) ds → OneMoveSo store now (Err why) ds
begin_stops err.DiskFault store now ds p = at_begin (StoppedBy err.DiskFault) store now p.0 ds p.1 p.2.0 p.2.1
begin_stops (err.Damaged name at) store now ds p = at_begin (StoppedBy (err.Damaged name at)) store now p.0 ds p.1 p.2.0 p.2.1
begin_stops err.Spent store now ds p = subst (λ w. IsBegun store now w) (sym p) none_begun
begin_stops err.Memory store now ds p = at_begin (StoppedBy err.Memory) store now p.0 ds p.1 p.2.0 p.2.1

-- MOVES OF A STORE

-- moves that retired so many partitions
abbrev pub MovesTo : ℕ → ℕ → ℕ → List Done → Type 0
MovesTo store now retired ds = AreMoves store now ds × (retired ≡ shown (retired_by ds))

pub none_yet : (store now : ℕ) → MovesTo store now 0 []
none_yet store now = (no_move, refl)

shown_more : (a b whole r : ℕ) → r ≡ shown a → whole ≡ a + b → min (r + b) (2 ^ 64 - 1) ≡ shown whole
shown_more a b whole r is sum = omega arith

pub store_more : (store now retired parts : ℕ) (xs ys : List Done) → MovesTo store now retired xs → OneMoveSo store now (Ok (one.Over parts)) ys → MovesTo store now (min (retired + parts) (2 ^ 64 - 1)) (xs ++ ys)
store_more store now retired parts xs ys p q = (
  subst (λ w. AreMoves store now (xs ++ w)) (sym q.0.is) (one_more_move q.0.first q.0.m p.0 q.0.begins q.0.goes),
  shown_more (retired_by xs) parts (retired_by (xs ++ ys)) retired p.1 (let both = retired-append xs ys in let told = q.1 in omega arith),
)

pub store_ends : (store now retired doors : ℕ) (xs ys : List Done) → MovesTo store now retired xs → OneMoveSo store now (Ok (one.Nothing doors)) ys → StoreMovesSo store now (Ok (record { retired = retired; doors = doors })) (xs ++ ys)
store_ends store now retired doors xs ys p q =
    let d : Done = record { act = MoveBegin store now; answer = Nothing doors } in (
      record { before = xs; end = ys; is = refl; moves = p.0; ends = at_begin (λ reply. reply ≡ Nothing doors) store now d ys q refl refl },
      p.1 ∙ ap shown (let push = retired_push xs d in let same = ap (λ (w : List Done). retired_by (xs ++ w)) q in omega arith),
    )

stops_store : (why : MoveErr) (store now retired : ℕ) (xs ys : List Done) → MovesTo store now retired xs → EndsMoves (StoppedBy why) store now ys → IsOfStore (StoppedBy why) store now (xs ++ ys)
stops_store why store now retired xs ys p q = record { before = xs; end = ys; is = refl; moves = p.0; ends = q }

pub store_stops : (why : MoveErr) (store now retired : ℕ) (xs ys : List Done) → MovesTo store now retired xs → OneMoveSo store now (Err why) ys → StoreMovesSo store now (Err why) (xs ++ ys)
store_stops err.DiskFault store now retired xs ys p q = stops_store err.DiskFault store now retired xs ys p q
store_stops (err.Damaged name at) store now retired xs ys p q = stops_store (err.Damaged name at) store now retired xs ys p q
store_stops err.Spent store now retired xs ys p q = record { before = xs; rest = ys; is = refl; moves = p.0; goes = q }
store_stops err.Memory store now retired xs ys p q = stops_store err.Memory store now retired xs ys p q

-- the same moves, where their last answer is said otherwise
module _ (P Q : Reply → Type 0) (go : (reply : Reply) → P reply → Q reply) (store now : ℕ) where
  move_as : (m : ℕ) (ds : List Done) → IsMove (CutsMove P) m ds → IsMove (CutsMove Q) m ds
  move_as m ds r = record { front = r.front; last = r.last; is = r.is; goes = r.goes; act = r.act; such = (go r.last.answer r.such.0, r.such.1) }

  end_as : (ds : List Done) → EndsMoves P store now ds → EndsMoves Q store now ds
  end_as ds (at_its_begin last act such) = at_its_begin last act (go last.answer such)
  end_as ds (at_a_step {steps} first m begins goes) = at_a_step first m begins (move_as m steps goes)

  pub store_as : (ds : List Done) → IsOfStore P store now ds → IsOfStore Q store now ds
  store_as ds r = record { before = r.before; end = r.end; is = r.is; moves = r.moves; ends = end_as r.end r.ends }

-- IN A ROUND

pub rests_so : (store now : ℕ) (moved : StoreMoved) (ds : List Done) → moved.doors ≡ 0 → StoreMovesSo store now (Ok moved) ds → StoreSo store now (Some Rests) ds
rests_so store now moved ds none p = store_as (λ reply. reply ≡ Nothing moved.doors) (EndsStoreSo (Some Rests)) (λ reply is. is ∙ ap Nothing none) store now ds p.0

pub waits_so : (store now : ℕ) (moved : StoreMoved) (ds : List Done) → moved.doors ≢ 0 → StoreMovesSo store now (Ok moved) ds → StoreSo store now None ds
waits_so store now moved ds some p = store_as (λ reply. reply ≡ Nothing moved.doors) (EndsStoreSo None) (λ reply is. (moved.doors, is, some)) store now ds p.0

module _ {A R : Type 0} (actor : OfActor A R) (old new : A) where
  pub store_met : (why : MoveErr) (store now : ℕ) → Does actor old (StoreMovesSo store now (Err why)) new → IfOk (end_met why) (λ end. Does actor old (StoreSo store now end) new)
  store_met err.DiskFault store now p = does_as actor (StoreMovesSo store now (Err err.DiskFault)) (StoreSo store now (Some MeetsFault)) (store_as (StoppedBy err.DiskFault) IsFault (λ reply is. inl is) store now) old new p
  store_met (err.Damaged name at) store now p =
      does_as actor (StoreMovesSo store now (Err (err.Damaged name at))) (StoreSo store now (Some MeetsFault)) (store_as (StoppedBy (err.Damaged name at)) IsFault (λ reply is. inr (name, at, is)) store now) old new p
  store_met err.Spent store now p = tt
  store_met err.Memory store now p = does_as actor (StoreMovesSo store now (Err err.Memory)) (StoreSo store now (Some MeetsNoMemory)) (store_as (StoppedBy err.Memory) IsMemory (λ reply is. is) store now) old new p

  pub sweep_met : (why : MoveErr) → Does actor old (IsSwept (Err why)) new → IfOk (end_met why) (λ end. Does actor old (SweepsSo end) new)
  sweep_met err.DiskFault p = does_as actor (IsSwept (Err err.DiskFault)) (SweepsSo (Some MeetsFault)) (λ ds q. (q.0, q.1, q.2, inl q.3)) old new p
  sweep_met (err.Damaged name at) p = does_as actor (IsSwept (Err (err.Damaged name at))) (SweepsSo (Some MeetsFault)) (λ ds q. (q.0, q.1, q.2, inr (name, at, q.3))) old new p
  sweep_met err.Spent p = tt
  sweep_met err.Memory p = does_as actor (IsSwept (Err err.Memory)) (SweepsSo (Some MeetsNoMemory)) (λ ds q. q) old new p

  pub spent_met : (is_spent : A → Type 0) (P Q : List Done → Type 0) (why : MoveErr) → (why ≡ err.Spent → is_spent new) → (why ≡ err.Spent → (ds : List Done) → P ds → Q ds) → Does actor old P new
      → OnErr (end_met why) (Does actor old Q new × is_spent new)
  spent_met is_spent P Q err.DiskFault spent go p = tt
  spent_met is_spent P Q (err.Damaged name at) spent go p = tt
  spent_met is_spent P Q err.Spent spent go p = (does_as actor P Q (go refl) old new p, spent refl)
  spent_met is_spent P Q err.Memory spent go p = tt

-- ROUNDS

any_store_end : (end : Option MoverEnd) (reply : Reply) → EndsStoreSo end reply → EndsStore reply
any_store_end None reply is = inl (is.0, is.1)
any_store_end (Some Rests) reply is = inl (0, is)
any_store_end (Some MeetsFault) reply is = inr (inl is)
any_store_end (Some MeetsNoMemory) reply is = inr (inr is)

-- however they ended, they are the moves of a store
any_store : (end : Option MoverEnd) (store now : ℕ) (ds : List Done) → StoreSo store now end ds → IsOfStore EndsStore store now ds
any_store end store now ds r = store_as (EndsStoreSo end) EndsStore (any_store_end end) store now ds r

-- some act was answered so
abbrev HasAnswer : (Reply → Type 0) → List Done → Type 0
HasAnswer Such ds = (d : Done) × Contains ds d × Such d.answer

at_end : (steps before : List Done) (first : Done) (x : Done) → Contains steps x → Contains (before ++ first ∷ steps) x
at_end steps before first x there = Contains-append_right before (first ∷ steps) x (Contains-append_right (first ∷ []) steps x there)

-- the last act of a store's moves is among them
last_of : (Such : Reply → Type 0) (store now : ℕ) (before ds : List Done) → EndsMoves Such store now ds → HasAnswer Such (before ++ ds)
last_of Such store now before ds (at_its_begin last act such) = (last, Contains-push before last, such)
last_of Such store now before ds (at_a_step {steps} first m begins goes) =
    (goes.last, at_end steps before first goes.last (subst (λ w. Contains w goes.last) (sym goes.is) (Contains-push goes.front goes.last)), goes.such.0)

pub last_of_store : (Such : Reply → Type 0) (store now : ℕ) (ds : List Done) → IsOfStore Such store now ds → HasAnswer Such ds
last_of_store Such store now ds r = subst (λ w. HasAnswer Such w) (sym r.is) (last_of Such store now r.before r.end r.ends)

-- where nothing was to move, it was a begin that told so
nothing_of : (store now : ℕ) (before ds : List Done) → EndsMoves (EndsStoreSo (Some Rests)) store now ds → Contains (before ++ ds) (record { act = MoveBegin store now; answer = Nothing 0 })
nothing_of store now before ds (at_its_begin last act such) = let same : last ≡ record { act = MoveBegin store now; answer = Nothing 0 } = rw (sym act, sym such) refl in subst (λ d. Contains (before ++ last ∷ []) d) same (Contains-push before last)
nothing_of store now before ds (at_a_step {steps} first m begins goes) = absurd (no_cut goes.last.answer goes.such.0 goes.such.1)
  where
    no_cut : (reply : Reply) → reply ≡ Nothing 0 → IsFault reply ⊎ IsMemory reply → ⊥
    no_cut reply is (inl (inl fault)) = absurd cc
    no_cut reply is (inl (inr damage)) = let said = damage.2 in absurd cc
    no_cut reply is (inr want) = absurd cc

pub nothing_of_store : (store now : ℕ) (ds : List Done) → StoreSo store now (Some Rests) ds → Contains ds (record { act = MoveBegin store now; answer = Nothing 0 })
nothing_of_store store now ds r = subst (λ w. Contains w (record { act = MoveBegin store now; answer = Nothing 0 })) (sym r.is) (nothing_of store now r.before r.end r.ends)

-- WHOLE ROUNDS

-- the doors were asked for, and the short term's moves made
abbrev pub ShortAfter : ℕ → Bool → Option MoverEnd → List Done → Type 0
ShortAfter now shut short ds = (xs : List Done) × (ys : List Done) × (ds ≡ xs ++ ys) × AsksDoors shut xs × StoreSo 1 now short ys

pub short_after : (now : ℕ) (shut : Bool) (short : Option MoverEnd) (xs ys : List Done) → AsksDoors shut xs → StoreSo 1 now short ys → ShortAfter now shut short (xs ++ ys)
short_after now shut short xs ys p q = (xs, ys, refl, p, q)

-- and the medium term's
abbrev pub BothAfter : ℕ → Bool → Option MoverEnd → Option MoverEnd → List Done → Type 0
BothAfter now shut short medium ds = (xs : List Done) × (ys : List Done) × (ds ≡ xs ++ ys) × ShortAfter now shut short xs × StoreSo 2 now medium ys

pub both_after : (now : ℕ) (shut : Bool) (short medium : Option MoverEnd) (xs ys : List Done) → ShortAfter now shut short xs → StoreSo 2 now medium ys → BothAfter now shut short medium (xs ++ ys)
both_after now shut short medium xs ys p q = (xs, ys, refl, p, q)

-- where no act was left within a round

pub cut_at_doors : (now : ℕ) (ds : List Done) → AreNone ds → MovesCutAt now ds
cut_at_doors now ds none = subst (λ w. MovesCutAt now w) (sym none) no_doors_asked

pub cut_in_short : (now : ℕ) (shut : Bool) (xs ys : List Done) → AsksDoors shut xs → AreSoFar 1 now ys → MovesCutAt now (xs ++ ys)
cut_in_short now shut xs ys p q = subst (λ w. MovesCutAt now (w ++ ys)) (sym p.1) (short_begun (record { act = Doors; answer = p.0 }) refl q)

first_and_short : (now : ℕ) (shut : Bool) (short : Option MoverEnd) (ds : List Done) (a : ShortAfter now shut short ds) → ds ≡ record { act = Doors; answer = a.3.0 } ∷ a.1
first_and_short now shut short ds a = a.2 ∙ ap (λ (w : List Done). w ++ a.1) a.3.1

pub cut_in_medium : (now : ℕ) (shut : Bool) (short : Option MoverEnd) (xs ys : List Done) → ShortAfter now shut short xs → AreSoFar 2 now ys → MovesCutAt now (xs ++ ys)
cut_in_medium now shut short xs ys a q =
    subst (λ w. MovesCutAt now (w ++ ys)) (sym (first_and_short now shut short xs a)) (medium_begun (record { act = Doors; answer = a.3.0 }) refl (any_store short 1 now a.1 a.4) q)

pub cut_at_sweep : (now : ℕ) (shut : Bool) (short medium : Option MoverEnd) (ds : List Done) → BothAfter now shut short medium ds → MovesCutAt now ds
cut_at_sweep now shut short medium ds b =
    let a = b.3 in
    subst (λ w. MovesCutAt now w) (sym (b.2 ∙ ap (λ (w : List Done). w ++ b.1) (first_and_short now shut short b.0 a)))
    (sweep_ahead (record { act = Doors; answer = a.3.0 }) refl (any_store short 1 now a.1 a.4) (any_store medium 2 now b.1 b.4))

-- where an end is told, the round ended so
abbrev EndsRoundSo : Option MoverEnd → List Done → Type 0
EndsRoundSo None ds = Unit {0}
EndsRoundSo (Some end) ds = EndsSo end ds

-- the parts of a round
record Parts (now : ℕ) (shut : Bool) (short medium swept : Option MoverEnd) (ds : List Done) : Type 0 where
  first : Done
  one : List Done
  two : List Done
  sweep : Done
  is : ds ≡ first ∷ (one ++ (two ++ sweep ∷ []))
  asks : first.act ≡ Doors
  shut_is : shut ≡ true → first.answer ≡ DoorsLeft 0
  of_short : StoreSo 1 now short one
  of_medium : StoreSo 2 now medium two
  sweeps : sweep.act ≡ Sweep
  swept_is : SweptSo swept sweep.answer

parts_of : (now : ℕ) (shut : Bool) (short medium swept : Option MoverEnd) (xs ys : List Done) → BothAfter now shut short medium xs → SweepsSo swept ys → Parts now shut short medium swept (xs ++ ys)
parts_of now shut short medium swept xs ys b q =
    let a = b.3 in
    let first : Done = record { act = Doors; answer = a.3.0 } in
    let front : a.0 ≡ first ∷ [] = a.3.1 in
    record {
      first = first;
      one = a.1;
      two = b.1;
      sweep = q.0;
      is = ap (λ (w : List Done). w ++ ys) (b.2 ∙ ap (λ (w : List Done). w ++ b.1) (a.2 ∙ ap (λ (w : List Done). w ++ a.1) front)) ∙ (append_assoc (first ∷ a.1) b.1 ys ∙ ap (λ (w : List Done). first ∷ (a.1 ++ (b.1 ++ w))) q.1);
      asks = refl;
      shut_is = a.3.2;
      of_short = a.4;
      of_medium = b.4;
      sweeps = q.2;
      swept_is = q.3;
    }

-- what was met among these acts
abbrev MetIs : Option MoverEnd → List Done → Type 0
MetIs None rest = Unit {0}
MetIs (Some Rests) rest = ⊥
MetIs (Some MeetsFault) rest = HasAnswer IsFault rest
MetIs (Some MeetsNoMemory) rest = HasAnswer IsMemory rest

store_told : (end : Option MoverEnd) (store now : ℕ) (part rest : List Done) → ((x : Done) → Contains part x → Contains rest x) → StoreSo store now end part → MetIs (fault_of end) rest
store_told None store now part rest within so = tt
store_told (Some Rests) store now part rest within so = tt
store_told (Some MeetsFault) store now part rest within so = let h = last_of_store IsFault store now part so in (h.0, within h.0 h.1, h.2)
store_told (Some MeetsNoMemory) store now part rest within so = let h = last_of_store IsMemory store now part so in (h.0, within h.0 h.1, h.2)

sweep_told : (end : Option MoverEnd) (d : Done) (rest : List Done) → Contains rest d → SweptSo end d.answer → MetIs end rest
sweep_told None d rest there so = tt
sweep_told (Some Rests) d rest there so = so
sweep_told (Some MeetsFault) d rest there so = (d, there, so)
sweep_told (Some MeetsNoMemory) d rest there so = (d, there, so)

first_met : (one other : Option MoverEnd) (rest : List Done) → MetIs one rest → MetIs other rest → MetIs (option_or one other) rest
first_met None other rest p q = q
first_met (Some end) other rest p q = p

ends_met : (end : Option MoverEnd) (first : Done) (rest ds : List Done) → ds ≡ first ∷ rest → first.answer ≡ DoorsLeft 0 → MetIs end rest → EndsRoundSo end ds
ends_met None first rest ds is shut m = tt
ends_met (Some Rests) first rest ds is shut m = absurd m
ends_met (Some MeetsFault) first rest ds is shut m = record { first = first; rest = rest; is = is; shut = shut; met = m.0; among = m.1; such = m.2 }
ends_met (Some MeetsNoMemory) first rest ds is shut m = record { first = first; rest = rest; is = is; shut = shut; met = m.0; among = m.1; such = m.2 }

module _ (now : ℕ) (shut : Bool) (short medium swept : Option MoverEnd) (ds : List Done) (p : Parts now shut short medium swept ds) where
  whole_round : MoveRoundAt now ds
  whole_round =
      (record { first = p.first; now = now; short = p.one; medium = p.two; sweep = p.sweep; is = p.is; asks = p.asks; of_short = any_store short 1 now p.one p.of_short; of_medium = any_store medium 2 now p.two p.of_medium; sweeps = p.sweeps }, refl)

  abbrev rest : List Done
  rest = p.one ++ (p.two ++ p.sweep ∷ [])

  in_one : (x : Done) → Contains p.one x → Contains rest x
  in_one x there = Contains-append_left p.one (p.two ++ p.sweep ∷ []) x there

  in_two : (x : Done) → Contains p.two x → Contains rest x
  in_two x there = Contains-append_right p.one (p.two ++ p.sweep ∷ []) x (Contains-append_left p.two (p.sweep ∷ []) x there)

  at_sweep : Contains rest p.sweep
  at_sweep = Contains-append_right p.one (p.two ++ p.sweep ∷ []) p.sweep (Contains-push p.two p.sweep)

  in_round : (x : Done) → Contains rest x → Contains ds x
  in_round x there = subst (λ w. Contains w x) (sym p.is) (Contains-append_right (p.first ∷ []) rest x there)

  -- the first fault or want of memory, where the round began with no doors
  met_ends : (b : Bool) → shut ≡ b → EndsRoundSo (met_in b short medium swept) ds
  met_ends false is = tt
  met_ends true is =
      ends_met (option_or (fault_of short) (option_or (fault_of medium) swept)) p.first rest ds p.is (p.shut_is is)
      (first_met (fault_of short) (option_or (fault_of medium) swept) rest (store_told short 1 now p.one rest in_one p.of_short)
      (first_met (fault_of medium) swept rest (store_told medium 2 now p.two rest in_two p.of_medium) (sweep_told swept p.sweep rest at_sweep p.swept_is)))

  rests : short ≡ Some Rests → medium ≡ Some Rests → EndsRoundSo (Some Rests) ds
  rests one two = (
    (now, in_round (record { act = MoveBegin 1 now; answer = Nothing 0 }) (in_one (record { act = MoveBegin 1 now; answer = Nothing 0 }) (nothing_of_store 1 now p.one (subst (λ e. StoreSo 1 now e p.one) one p.of_short)))),
    (now, in_round (record { act = MoveBegin 2 now; answer = Nothing 0 }) (in_two (record { act = MoveBegin 2 now; answer = Nothing 0 }) (nothing_of_store 2 now p.two (subst (λ e. StoreSo 2 now e p.two) two p.of_medium)))),
  )

ends_so : (now : ℕ) (shut : Bool) (short medium swept : Option MoverEnd) (ds : List Done) → Parts now shut short medium swept ds → EndsRoundSo (end_of_round shut short medium swept) ds
ends_so now shut (Some Rests) (Some Rests) swept ds p = rests now shut (Some Rests) (Some Rests) swept ds p refl refl
ends_so now shut (Some Rests) None swept ds p = met_ends now shut (Some Rests) None swept ds p shut refl
ends_so now shut (Some Rests) (Some MeetsFault) swept ds p = met_ends now shut (Some Rests) (Some MeetsFault) swept ds p shut refl
ends_so now shut (Some Rests) (Some MeetsNoMemory) swept ds p = met_ends now shut (Some Rests) (Some MeetsNoMemory) swept ds p shut refl
ends_so now shut None medium swept ds p = met_ends now shut None medium swept ds p shut refl
ends_so now shut (Some MeetsFault) medium swept ds p = met_ends now shut (Some MeetsFault) medium swept ds p shut refl
ends_so now shut (Some MeetsNoMemory) medium swept ds p = met_ends now shut (Some MeetsNoMemory) medium swept ds p shut refl

so_told : (now : ℕ) (end : Option MoverEnd) (ds : List Done) → MoveRoundAt now ds → EndsRoundSo end ds → IsMoverRoundSo now end ds
so_told now None ds round ends = round
so_told now (Some end) ds round ends = (round, ends)

pub round_so : (now : ℕ) (shut : Bool) (short medium swept : Option MoverEnd) (xs ys : List Done) → BothAfter now shut short medium xs → SweepsSo swept ys → IsMoverRoundSo now (end_of_round shut short medium swept) (xs ++ ys)
round_so now shut short medium swept xs ys b q =
    let p = parts_of now shut short medium swept xs ys b q in
    so_told now (end_of_round shut short medium swept) (xs ++ ys) (whole_round now shut short medium swept (xs ++ ys) p) (ends_so now shut short medium swept (xs ++ ys) p)
