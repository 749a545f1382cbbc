-- The premises can be met: one worker with nothing to serve, the flusher and the mover, over an empty archive.
use Rattle.std.proofs.Common.{◌≡◌, ◌≢◌, ℕ, List, [], ◌∷◌, None, true, false, refl, sym, ◌∙◌, arith, inl}
use Rattle.std.specs.Prelude.{Contains, ◌==◌}
use Rattle.std.proofs.lemmas.Bool.Decides.{nat_tests}
use Rattle.std.proofs.lemmas.List.Elements.{All-nil, All-cons}
use Rattle.std.specs.Ordering.{nat_cmp}
use Rattle.std.specs.FinMap.{get, empty, get-empty}
use Rattle.act_model.specs.declared.acts.Act.TheVariants.{Doors, DoorDone, Tick, Flush, MoveBegin, Sweep}
use Rattle.act_model.specs.declared.acts.Answer.TheVariants.{DoorsLeft, NoRow, Flushed, Nothing, Swept}
use Rattle.act_model.specs.Machine.{Machine, MoveState, PinState}
use Rattle.act_model.specs.Changes.{no_doubt}
use Rattle.act_model.specs.Outcome.{runs}
use Rattle.act_model.specs.MoveBegin.{none_to_make}
use Rattle.act_model.specs.Sound.{IsSound}
use Rattle.act_model.specs.Step.{Step}
use Rattle.act_model.specs.History.{Entry, Done, Runs, own, mine}
use Rattle.act_model.specs.Roles.{is_of_link}
use Rattle.serving.specs.Rounds.{IsShift, no_round, IsOfStore, EndsStore, no_move, at_its_begin}
use Rattle.serving.specs.declared.ends.FlushEnd.TheVariants.{LeavesNone}
use Rattle.serving.specs.declared.ends.MoverEnd.TheVariants.{Rests}
use Rattle.serving.specs.End.{ServesToEnd, MayEndSo}

abbrev start : ℕ → Machine
start n = record { rule = record { granularity = []; hold = []; gather = []; header = λ message. None }; rows = []; limbo = []; pins = empty; moves = empty; doubt = None; doors = n; faults = 0; told = true }

abbrev entries : List Entry
entries =
    record { who = 3; act = DoorDone; answer = DoorsLeft 0 }
    ∷ record { who = 1; act = Doors; answer = DoorsLeft 0 }
    ∷ record { who = 2; act = Doors; answer = DoorsLeft 0 }
    ∷ record { who = 1; act = Tick 0 9; answer = NoRow }
    ∷ record { who = 1; act = Flush 67108864; answer = Flushed 0 0 0 }
    ∷ record { who = 2; act = MoveBegin 1 9; answer = Nothing 0 }
    ∷ record { who = 2; act = MoveBegin 2 9; answer = Nothing 0 }
    ∷ record { who = 2; act = Sweep; answer = Swept 0 }
    ∷ []

start_sound : (n : ℕ) → IsSound (start n)
start_sound n = record {
  few = omega arith;
  keys = λ i j a b here there same. absurd cc;
  each_row = λ i row here. absurd cc;
  bases = record {
    over = λ i row b here is. absurd cc;
    one = λ i j b row other here there is same. absurd cc;
    end = λ i row here. absurd cc;
    exact = λ told i row here. absurd cc;
  };
  lines = λ i row here. absurd cc;
  intake = omega arith;
  doubted = λ change is. absurd cc;
  each_move = λ n move here. absurd (let none : get {X = MoveState} {R = nat_cmp} empty n ≡ None = grind (arith, get-empty) in let bad = sym none ∙ here in cc);
  one_move = λ n k move other here there same. absurd (let none : get {X = MoveState} {R = nat_cmp} empty n ≡ None = grind (arith, get-empty) in let bad = sym none ∙ here in cc);
  each_file = tt;
  each_unlisted = tt;
  places = λ told. tt;
  pinned = λ told n pin here. absurd (let none : get {X = PinState} {R = nat_cmp} empty n ≡ None = grind (arith, get-empty) in let bad = sym none ∙ here in cc);
}

begins : (store : ℕ) → Step 2 (MoveBegin store 9) (start 0) (Nothing 0) (start 0)
begins store = runs (Nothing 0) refl (no_doubt refl) refl (none_to_make (λ told j row here. absurd cc) refl) (omega arith)

sweeps : Step 2 Sweep (start 0) (Swept 0) (start 0)
sweeps = runs (Swept 0) refl (no_doubt refl) refl (record { stays = λ f. true; just = tt; files = 0; number = λ told. refl; answered = refl; same = refl }) (omega arith)

flushes : Step 1 (Flush 67108864) (start 0) (Flushed 0 0 0) (start 0)
flushes = runs (Flushed 0 0 0) refl (no_doubt refl) refl ((0, (λ told. refl), refl), refl) (omega arith)

run : Runs (start 1) entries (start 0)
run = (
  tt,
  start 0,
  (refl, refl),
  (
    tt,
    start 0,
    (refl, refl),
    (
      tt,
      start 0,
      (refl, refl),
      (
        tt,
        start 0,
        inl (refl, refl),
        (
          omega arith,
          start 0,
          flushes,
          (
            (omega arith, omega arith),
            start 0,
            begins 1,
            (
              (omega arith, omega arith),
              start 0,
              begins 2,
              (tt, start 0, sweeps, refl),
            ),
          ),
        ),
      ),
    ),
  ),
)

of_store : (store : ℕ) → IsOfStore EndsStore store 9 (record { act = MoveBegin store 9; answer = Nothing 0 } ∷ [])
of_store store = record { before = []; end = record { act = MoveBegin store 9; answer = Nothing 0 } ∷ []; is = refl; moves = no_move; ends = at_its_begin (record { act = MoveBegin store 9; answer = Nothing 0 }) refl (inl (0, refl)) }

premises : ServesToEnd (start 1) entries (start 0) (3 ∷ []) 1 2 LeavesNone Rests
premises = record {
  sound = start_sound 1;
  runs = run;
  doors = refl;
  only = λ q none. only_these q none;
  shifts = All-cons (λ (w : ℕ). IsShift (mine w entries)) 3 [] (record { links = []; last = record { act = DoorDone; answer = DoorsLeft 0 }; is = refl; are = All-nil (λ (d : Done). is_of_link d.act ≡ true); done = refl }) (All-nil (λ (w : ℕ). IsShift (mine w entries)));
  flushes = record {
    before = [];
    round = mine 1 entries;
    is = refl;
    rounds = no_round;
    last = record {
      round = record {
        first = record { act = Doors; answer = DoorsLeft 0 };
        now = 9;
        ticks = record { act = Tick 0 9; answer = NoRow } ∷ [];
        flush = record { act = Flush 67108864; answer = Flushed 0 0 0 };
        is = refl;
        asks = refl;
        are = (refl, tt);
        all = inl (record { rows = []; last = record { act = Tick 0 9; answer = NoRow }; is = refl; answered = refl });
        flushes = refl;
      };
      shut = refl;
      answered = (0, 0, refl);
    };
  };
  moves = record {
    before = [];
    round = mine 2 entries;
    is = refl;
    rounds = no_round;
    last = record {
      first = record { act = Doors; answer = DoorsLeft 0 };
      now = 9;
      short = record { act = MoveBegin 1 9; answer = Nothing 0 } ∷ [];
      medium = record { act = MoveBegin 2 9; answer = Nothing 0 } ∷ [];
      sweep = record { act = Sweep; answer = Swept 0 };
      is = refl;
      asks = refl;
      of_short = of_store 1;
      of_medium = of_store 2;
      sweeps = refl;
    };
    ends = ((9, (1, omega arith, refl)), (9, (2, omega arith, refl)));
  };
}
  where
    miss : (q k : ℕ) → q ≢ k → (k == q) ≡ false
    miss q k apart = grind (arith, nat_tests)

    only_these : (q : ℕ) → (Contains (1 ∷ 2 ∷ 3 ∷ []) q → ⊥) → own q entries ≡ []
    only_these q none =
        let one : (1 == q) ≡ false = miss q 1 (λ is. none (0, omega arith, sym is)) in
        let two : (2 == q) ≡ false = miss q 2 (λ is. none (1, omega arith, sym is)) in
        let three : (3 == q) ≡ false = miss q 3 (λ is. none (2, omega arith, sym is)) in
        rw (one, two, three) refl

pub may_end_so : MayEndSo
may_end_so = record { old = start 1; entries = entries; new = start 0; worker = 3; flusher = 1; mover = 2; served = premises }
