-- How what an actor did in one call goes on from what it did before.
use Rattle.std.proofs.Common.{◌≡◌, ℕ, ◌+◌, List, [], ◌∷◌, ◌++◌, length, Bool, true, false, Option, Some, None, refl, ap, sym, ◌∙◌, arith, subst, inl}
use Rattle.std.proofs.lemmas.List.{append-nil, length-append}
use Rattle.edge_io.specs.Moments.{Moments, Gives}
use Rattle.edge_io.proofs.Clocks.{gives_on}
use Rattle.act_model.specs.declared.acts.Act.TheVariants.{Doors, Tick, Flush}
use Rattle.act_model.specs.declared.actor.Actor.{Ghosts as OfActor}
use Rattle.act_model.specs.History.{Entry, Done}
use Rattle.act_model.proofs.Histories.{made_joined}
use Rattle.serving.specs.declared.ends.FlushEnd.{FlushEnd}
use Rattle.serving.specs.Rounds.{IsTick, AreTicks, IsFlushRound}
use Rattle.serving.proofs.Works.{ticks_more, ticks_end}
use Rattle.serving.specs.Does.{Does, AreNone, AsksDoors}
use Rattle.serving.specs.Flushes.{TicksRow, TicksAll, FlushesAll, FlushRoundAt, FlushCutAt, no_doors_asked, rows_ticked, IsRoundSo}
use Rattle.serving.specs.Timed.{AreRoundsAt, DoesAt, RoundsAt, no_round_at, one_more_at}

module _ {A R : Type 0} (actor : OfActor A R)
    (joined : (a b c : A) (xs ys : List Entry) → actor.between a xs b → actor.between b ys c → actor.between a (xs ++ ys) c)
    (stays : (a b : A) (entries : List Entry) → actor.between a entries b → actor.number b ≡ actor.number a) where
  pub join : (P Q Both : List Done → Type 0) → ((xs ys : List Done) → P xs → Q ys → Both (xs ++ ys)) → (a b c : A) → Does actor a P b → Does actor b Q c → Does actor a Both c
  join P Q Both go a b c p q = (p.0 ++ q.0, made_joined actor.number actor.between joined stays a b c p.0 q.0 p.1 q.1, go p.0 q.0 p.2 q.2)

  -- no act after others
  pub join_none : (P : List Done → Type 0) (a b c : A) → Does actor a P b → Does actor b AreNone c → Does actor a P c
  join_none P a b c p q = join P AreNone P (λ xs ys r none. subst P (sym (ap (λ (w : List Done). xs ++ w) none ∙ append-nil xs)) r) a b c p q

  -- one round more, at the moment that was given for it
  pub round_more : (Round : ℕ → List Done → Type 0) (a b c : A) (clock₁ clock₂ clock₃ : Option Moments) (now : ℕ) → DoesAt actor a clock₁ (AreRoundsAt Round) b clock₂ → Gives clock₂ clock₃ (now ∷ [])
      → Does actor b (Round now) c → DoesAt actor a clock₁ (AreRoundsAt Round) c clock₃
  round_more Round a b c clock₁ clock₂ clock₃ now p gives q = (
    p.0 ++ now ∷ [],
    gives_on clock₁ clock₂ clock₃ p.0 (now ∷ []) p.1 gives,
    join (AreRoundsAt Round p.0) (Round now) (AreRoundsAt Round (p.0 ++ now ∷ [])) (λ xs ys r s. one_more_at now r s) a b c p.2 q,
  )

  -- the last round
  pub round_last : (Round Last : ℕ → List Done → Type 0) (a b c : A) (clock₁ clock₂ clock₃ : Option Moments) (now : ℕ) → DoesAt actor a clock₁ (AreRoundsAt Round) b clock₂ → Gives clock₂ clock₃ (now ∷ [])
      → Does actor b (Last now) c → DoesAt actor a clock₁ (RoundsAt Round Last) c clock₃
  round_last Round Last a b c clock₁ clock₂ clock₃ now p gives q = (
    p.0 ++ now ∷ [],
    gives_on clock₁ clock₂ clock₃ p.0 (now ∷ []) p.1 gives,
    join (AreRoundsAt Round p.0) (Last now) (RoundsAt Round Last (p.0 ++ now ∷ [])) (λ xs ys r s. record { earlier = p.0; now = now; before = xs; last = ys; at = refl; is = refl; rounds = r; ends = s }) a b c p.2 q,
  )

-- the same acts, said otherwise
pub does_as : {A R : Type 0} (actor : OfActor A R) (P Q : List Done → Type 0) → ((ds : List Done) → P ds → Q ds) → (a b : A) → Does actor a P b → Does actor a Q b
does_as actor P Q go a b p = (p.0, p.1, go p.0 p.2)

-- nothing yet
pub does_none : {A R : Type 0} (actor : OfActor A R) → ((a : A) → actor.between a [] a) → (P : List Done → Type 0) → P [] → (a : A) → Does actor a P a
does_none actor nothing P p a = ([], record { entries = []; leads = nothing a; just_these = refl }, p)

pub gives_none : (clock : Option Moments) → Gives clock clock []
gives_none None = tt
gives_none (Some coming) = (tt, λ k. ap coming (omega arith))

-- no round yet, and no moment
pub no_rounds : {A R : Type 0} (actor : OfActor A R) → ((a : A) → actor.between a [] a) → (Round : ℕ → List Done → Type 0) (a : A) (clock : Option Moments) → DoesAt actor a clock (AreRoundsAt Round) a clock
no_rounds actor nothing Round a clock = ([], gives_none clock, does_none actor nothing (AreRoundsAt Round []) no_round_at a)

-- TICKS

-- the rows before this one
abbrev pub TicksTo : ℕ → ℕ → List Done → Type 0
TicksTo now row ds = AreTicks now 0 ds × (length ds ≡ row)

one_tick : (now row : ℕ) (xs : List Done) → length xs ≡ row → IsTick now (0 + length xs) (Tick row now)
one_tick now row xs is = let same : row ≡ 0 + length xs = omega arith in ap (λ n. Tick n now) same

pub tick_goes : (now row : ℕ) (xs ys : List Done) → TicksTo now row xs → TicksRow now row false ys → TicksTo now (row + 1) (xs ++ ys)
tick_goes now row xs ys p q =
    let d : Done = record { act = Tick row now; answer = q.0 } in
    subst (λ w. TicksTo now (row + 1) (xs ++ w)) (sym q.1) (ticks_more now 0 xs d p.0 (one_tick now row xs p.1), (let len = p.1 in let long = length-append xs (d ∷ []) in omega arith))

pub tick_ends : (now row : ℕ) (xs ys : List Done) → TicksTo now row xs → TicksRow now row true ys → TicksAll now (xs ++ ys)
tick_ends now row xs ys p q =
    let d : Done = record { act = Tick row now; answer = q.0 } in
    subst (λ w. TicksAll now (xs ++ w)) (sym q.1) (ticks_more now 0 xs d p.0 (one_tick now row xs p.1), inl (ticks_end xs d (q.2 refl)))

-- ROUNDS OF THE FLUSHER

-- the doors were asked for, and each row ticked
abbrev pub TicksAfter : ℕ → Bool → List Done → Type 0
TicksAfter now shut ds = (xs : List Done) × (ys : List Done) × (ds ≡ xs ++ ys) × AsksDoors shut xs × TicksAll now ys

pub ticks_after : (now : ℕ) (shut : Bool) (xs ys : List Done) → AsksDoors shut xs → TicksAll now ys → TicksAfter now shut (xs ++ ys)
ticks_after now shut xs ys p q = (xs, ys, refl, p, q)

round_is : (now : ℕ) (shut : Bool) (end : Option FlushEnd) (xs ys : List Done) (b : TicksAfter now shut xs) (f : FlushesAll end ys) → xs ++ ys ≡ record { act = Doors; answer = b.3.0 } ∷ (b.1 ++ record { act = Flush 67108864; answer = f.0 } ∷ [])
round_is now shut end xs ys b f =
    let first : Done = record { act = Doors; answer = b.3.0 } in
    let front : xs ≡ first ∷ b.1 = b.2 ∙ ap (λ (w : List Done). w ++ b.1) b.3.1 in
    ap (λ (w : List Done). w ++ ys) front ∙ ap (λ (w : List Done). first ∷ (b.1 ++ w)) f.1

-- it is a round, however it ended
abbrev round_of : (now : ℕ) (shut : Bool) (end : Option FlushEnd) (xs ys : List Done) → TicksAfter now shut xs → FlushesAll end ys → IsFlushRound (xs ++ ys)
round_of now shut end xs ys b f = record {
  first = record { act = Doors; answer = b.3.0 };
  now = now;
  ticks = b.1;
  flush = record { act = Flush 67108864; answer = f.0 };
  is = round_is now shut end xs ys b f;
  asks = refl;
  are = b.4.0;
  all = b.4.1;
  flushes = refl;
}

pub round_goes : (now : ℕ) (shut : Bool) (end : Option FlushEnd) (xs ys : List Done) → TicksAfter now shut xs → FlushesAll end ys → FlushRoundAt now (xs ++ ys)
round_goes now shut end xs ys b f = (round_of now shut end xs ys b f, refl)

pub round_ends : (now : ℕ) (end : Option FlushEnd) (xs ys : List Done) → TicksAfter now true xs → FlushesAll end ys → IsRoundSo now end (xs ++ ys)
round_ends now None xs ys b f = (round_of now true None xs ys b f, refl)
round_ends now (Some end) xs ys b f = (record { round = round_of now true (Some end) xs ys b f; shut = b.3.2 refl; answered = f.2 }, refl)

-- where no act was left within a round

pub cut_at_doors : (now : ℕ) (ds : List Done) → AreNone ds → FlushCutAt now ds
cut_at_doors now ds none = subst (λ w. FlushCutAt now w) (sym none) no_doors_asked

pub cut_at_ticks : (now : ℕ) (shut : Bool) (xs ys : List Done) → AsksDoors shut xs → AreTicks now 0 ys → FlushCutAt now (xs ++ ys)
cut_at_ticks now shut xs ys p q = subst (λ w. FlushCutAt now (w ++ ys)) (sym p.1) (rows_ticked (record { act = Doors; answer = p.0 }) refl q)

pub cut_at_flush : (now : ℕ) (shut : Bool) (ds : List Done) → TicksAfter now shut ds → FlushCutAt now ds
cut_at_flush now shut ds b = subst (λ w. FlushCutAt now w) (sym b.2) (cut_at_ticks now shut b.0 b.1 b.3 b.4.0)
