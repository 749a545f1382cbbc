-- What a board does is a step of each machine that it stands for.
use Rattle.std.proofs.Common.{◌≡◌, ◌≢◌, ◌∙◌, ap, sym, refl, subst, ℕ, ◌-◌, ◌≤◌, List, [], ◌∷◌, zero, suc, arith, inl, inr, true, false, Option, Some, None}
use Rattle.std.specs.Prelude.{◌==◌, filter, nat_le, slice_get, if◌then◌else◌, Bool}
use Rattle.std.specs.FinMap.{FinMap, empty, get, insert, remove, get-empty, gets}
use Rattle.std.specs.Ordering.{nat_cmp}
use Rattle.std.proofs.lemmas.Bool.Decides.{nat_tests}
use Rattle.pb_messages.specs.declared.about.About.{About}
use Rattle.pb_messages.specs.declared.about.Method.TheVariants.{Monitor}
use Rattle.series_model.specs.declared.sample.Query.{Query}
use Rattle.act_model.specs.declared.acts.Act.{Act}
use Rattle.act_model.specs.declared.acts.Act.TheVariants.{Register, Pause, Resume, Rename, Offer, Tick, Flush, MoveBegin, MoveStep, Sweep, Pin, OpenPiece, Unpin, Names, Details, Doors, DoorDone}
use Rattle.act_model.specs.declared.acts.Answer.TheVariants.{NoRow, TickNone, Flushed, Nothing, Swept, Pinned, NoPin, NotYours, Unpinned, DoorsLeft, Memory}
use Rattle.act_model.specs.Answers.{is_answer_to}
use Rattle.act_model.specs.Changes.{made, no_doubt}
use Rattle.act_model.specs.Details.{details_refused}
use Rattle.act_model.specs.Flush.{FlushStep, batch_from, batch_of}
use Rattle.act_model.specs.Limbo.{RowFile}
use Rattle.act_model.specs.Machine.{Machine, Appends, MoveState, PinState, find_row, held_bytes, same_bytes}
use Rattle.act_model.specs.MoveBegin.{MoveBeginStep, none_to_make}
use Rattle.act_model.specs.OpenPiece.{wants_memory_opening}
use Rattle.act_model.specs.Outcome.{runs, wants_memory}
use Rattle.act_model.specs.Pin.{pins}
use Rattle.act_model.specs.Reply.{Reply}
use Rattle.series_model.specs.Series.{end_of}
use Rattle.act_model.specs.Whole.{whole}
use Rattle.act_model.specs.Rows.{RowState, fresh_row, accepted}
use Rattle.act_model.specs.Sound.{BasesSound, IsSound, LinesSound, RowSound}
use Rattle.act_model.specs.Step.{MayAsk, Step, store_of}
use Rattle.act_model.specs.Unpin.{pin_refused, refused_unpin, unpins}
use Rattle.act_model.proofs.StepSound.{step_sound}
use Rattle.unit_cases.specs.declared.board.Board.{Board}
use Rattle.unit_cases.specs.Boards.{BoardStands, StepsTo, pin_of}
use Rattle.act_model.proofs.RowActs.{same_bytes-refl}

-- THE FIRST STATE

abbrev first_state : RowState → ℕ → Machine
first_state row doors = record { rule = record { granularity = []; hold = []; gather = []; header = λ message. None }; rows = row ∷ []; limbo = []; pins = empty; moves = empty; doubt = None; doors = doors; faults = 0; told = false }

only_row : (row other : RowState) (i : ℕ) → slice_get (row ∷ []) i ≡ Some other → (i ≡ 0) × (row ≡ other)
only_row row other zero here = (refl, cc)
only_row row other (suc i) here = absurd cc

abbrev no_moves : FinMap nat_cmp MoveState
no_moves = empty

no_move : (n : ℕ) (move : MoveState) → get no_moves n ≡ Some move → ⊥
no_move n move here = let none : get no_moves n ≡ None = get-empty nat_cmp n in let bad = sym none ∙ here in absurd cc

-- the one row has no base
first_bases : (name : List ℕ) (about : About) → BasesSound false (fresh_row name about ∷ [])
first_bases name about =
    let own = fresh_row name about in
    record {
      over = λ i row b here is. absurd (let bad : None ≡ Some b = ap (λ (r : RowState). r.base) (only_row own row i here).1 ∙ is in cc);
      one = λ i j b row other here there is is'. (only_row own row i here).0 ∙ sym (only_row own other j there).0;
      end = λ i row here. first_end i row here;
      exact = λ t. absurd cc;
    }
  where
    first_end : (i : ℕ) (row : RowState) → slice_get (fresh_row name about ∷ []) i ≡ Some row → end_of (whole accepted (fresh_row name about ∷ []) i) ≤ row.next
    first_end zero row here = omega arith
    first_end (suc i) row here = absurd cc

first_sound : (name : List ℕ) (about : About) (doors : ℕ) → IsSound (first_state (fresh_row name about) doors)
first_sound name about doors =
    let own = fresh_row name about in
    record {
      few = omega arith;
      keys = λ i j a b here there same. (only_row own a i here).0 ∙ sym (only_row own b j there).0;
      each_row = λ i row here. subst (λ (r : RowState). RowSound false r) (only_row own row i here).1 (record { short = tt; medium = tt; long = tt; later = tt; next = omega arith });
      bases = first_bases name about;
      lines = λ i row here. subst (λ (r : RowState). LinesSound r) (only_row own row i here).1 (record { tail = tt; held = tt });
      intake = omega arith;
      doubted = λ change is. absurd cc;
      each_move = λ n move here. absurd (no_move n move here);
      one_move = λ n k move other here there same. absurd (no_move n move here);
      each_file = tt;
      each_unlisted = tt;
      places = λ t. tt;
      pinned = λ t. absurd cc;
    }

pub first_stands : (board : Board) → board.owner ≡ None → (m : Machine) × BoardStands board m
first_stands board none = (
  first_state (fresh_row board.name board.about) board.doors,
  record { sound = first_sound board.name board.about board.doors; rows = refl; limbo = refl; pins = λ pin. get-empty nat_cmp pin ∙ sym (ap (λ (o : Option ℕ). pin_of o pin) none); untold = refl; doors = refl; certain = refl },
)

-- STEPS

-- an act that may want memory wants it, and nothing changes
memory_step : (who : ℕ) (act : Act) (m : Machine) → is_answer_to act Memory ≡ true → Step who act m Memory m
memory_step who (Register name about) m may = wants_memory refl (omega arith)
memory_step who (Pause name) m may = wants_memory refl (omega arith)
memory_step who (Resume name) m may = wants_memory refl (omega arith)
memory_step who (Rename name newname) m may = (None, wants_memory refl (omega arith))
memory_step who (Offer name ty t line now) m may = inr (refl, refl)
memory_step who (Tick row now) m may = inr (refl, refl)
memory_step who (Flush limit) m may = wants_memory refl (omega arith)
memory_step who (MoveBegin store now) m may = wants_memory refl (omega arith)
memory_step who (MoveStep n) m may = wants_memory refl (omega arith)
memory_step who Sweep m may = wants_memory refl (omega arith)
memory_step who (Pin name query) m may = wants_memory refl (omega arith)
memory_step who (OpenPiece pin i) m may = wants_memory_opening refl (omega arith)
memory_step who (Unpin pin) m may = absurd cc
memory_step who (Names from most) m may = inr (refl, refl)
memory_step who (Details name) m may = wants_memory refl (omega arith)
memory_step who Doors m may = absurd cc
memory_step who DoorDone m may = absurd cc

pub wants : (who : ℕ) (act : Act) (board : Board) → is_answer_to act Memory ≡ true → StepsTo who act board Memory board
wants who act board may m st = (m, memory_step who act m may, st)

pub doors_told : (who : ℕ) (board : Board) → StepsTo who Doors board (DoorsLeft board.doors) board
doors_told who board m st = (m, (ap DoorsLeft (sym st.doors), refl), st)

pub door_done : (who : ℕ) (board : Board) → StepsTo who DoorDone board (DoorsLeft (board.doors - 1)) (record board { doors = board.doors - 1 })
door_done who board m st =
    let less : board.doors - 1 ≡ m.doors - 1 = ap (λ (n : ℕ). n - 1) (sym st.doors) in
    let n = record m { doors = m.doors - 1 } in
    (n, (ap DoorsLeft less, refl), record { sound = st.sound; rows = st.rows; pins = st.pins; limbo = st.limbo; untold = st.untold; doors = sym less; certain = st.certain })

-- THE FLUSHER AND THE MOVER

none_at : (row : RowState) (i : ℕ) → i ≢ 0 → slice_get (row ∷ []) i ≡ None
none_at row zero other = absurd (other refl)
none_at row (suc i) other = refl

either_none : {X : Type 0} (b : Bool) (xs : List X) → xs ≡ [] → (if b then [] else xs) ≡ []
either_none true xs none = refl
either_none false xs none = none

module _ (who : ℕ) (board : Board) where
  abbrev own : RowState
  own = fresh_row board.name board.about

  pub no_row : (row now : ℕ) → row ≢ 0 → StepsTo who (Tick row now) board NoRow board
  no_row row now other m st =
      let none : slice_get m.rows row ≡ None = ap (λ (l : List RowState). slice_get l row) st.rows ∙ none_at own row other in
      (m, inl (rw none refl, rw none refl), st)

  pub tick_none : (now : ℕ) → board.about.method ≡ Monitor → StepsTo who (Tick 0 now) board TickNone board
  tick_none now monitored m st =
      let here : slice_get m.rows 0 ≡ Some own = ap (λ (l : List RowState). slice_get l 0) st.rows in
      (m, inl (rw (here, monitored) refl, rw (here, monitored) refl), st)

  pub flushed_none : (limit : ℕ) → MayAsk (Flush limit) → StepsTo who (Flush limit) board (Flushed 0 0 board.doors) board
  flushed_none limit may m st =
      let n = made [] (Appends (batch_of limit m)) m in
      let batch : batch_of limit m ≡ [] = ap (λ (l : List RowState). batch_from limit l 0 0) st.rows ∙ either_none (nat_le limit 0) [] refl in
      let untold = st.untold in
      let rows : n.rows ≡ own ∷ [] = rw (batch, st.rows, untold) refl in
      let held : held_bytes n.rows ≡ 0 = ap held_bytes rows in
      let first : FlushStep limit m (Flushed 0 (held_bytes n.rows) n.doors) n = runs {mid = m} (Flushed 0 (held_bytes n.rows) n.doors) refl (no_doubt st.certain) refl ((0, (λ tells. absurd (cc)), refl), refl) (omega arith) in
      let step : FlushStep limit m (Flushed 0 0 board.doors) n = subst (λ (d : ℕ). FlushStep limit m (Flushed 0 0 d) n) st.doors (subst (λ (l : ℕ). FlushStep limit m (Flushed 0 l n.doors) n) held first) in
      (n, step, record { sound = step_sound who (Flush limit) m n (Flushed 0 0 board.doors) st.sound may step; rows = rows; pins = st.pins; limbo = rw st.limbo refl; untold = st.untold; doors = st.doors; certain = st.certain })

  pub no_move_begun : (store now : ℕ) → StepsTo who (MoveBegin store now) board (Nothing board.doors) board
  no_move_begun store now m st =
      let untold = st.untold in
      let step : MoveBeginStep (store_of store) now m (Nothing m.doors) m = runs {mid = m} (Nothing m.doors) refl (no_doubt st.certain) refl (none_to_make (λ tells. absurd (cc)) refl) (omega arith) in
      (m, subst (λ (d : ℕ). MoveBeginStep (store_of store) now m (Nothing d) m) st.doors step, st)

  pub swept_none : StepsTo who Sweep board (Swept 0) board
  swept_none m st =
      let untold = st.untold in
      let n = record m { limbo = filter (λ (f : RowFile). true) m.limbo } in
      let step : Step who Sweep m (Swept 0) n = runs {mid = m} (Swept 0) refl (no_doubt st.certain) refl (record { stays = λ f. true; just = rw st.limbo tt; files = 0; number = λ tells. absurd (cc); answered = refl; same = refl }) (omega arith) in
      (n, step, record { sound = step_sound who Sweep m n (Swept 0) st.sound tt step; rows = st.rows; pins = st.pins; limbo = rw st.limbo refl; untold = st.untold; doors = st.doors; certain = st.certain })

module _ (who : ℕ) (board : Board) where
  pub pin_made : (query : Query) → board.owner ≡ None → StepsTo who (Pin board.name query) board (Pinned 0 board.name board.about 0 []) (record board { owner = Some who })
  pin_made query none m st =
      let own = fresh_row board.name board.about in
      let p : PinState = record { owner = who; pieces = [] } in
      let n = record m { pins = insert m.pins 0 p } in
      let free : get m.pins 0 ≡ None = st.pins 0 ∙ ap (λ (o : Option ℕ). pin_of o 0) none in
      let found : find_row m board.name ≡ Some 0 = rw (st.rows, same_bytes-refl board.name) refl in
      let here : slice_get m.rows 0 ≡ Some own = ap (λ (l : List RowState). slice_get l 0) st.rows in
      let may : details_refused board.name m ≡ None = rw found refl in
      let untold = st.untold in
      let step : Step who (Pin board.name query) m (Pinned 0 board.name board.about 0 []) n =
      runs {mid = m} (Pinned 0 board.name board.about 0 []) may (no_doubt st.certain) may
      (pins 0 own 0 [] found here free (λ j low. absurd (omega (arith, low))) (λ tells. absurd (cc)) (λ tells. absurd (cc)) (λ tells. absurd (cc)) (omega arith) refl) (omega arith) in (
        n,
        step,
        record {
          sound = step_sound who (Pin board.name query) m n (Pinned 0 board.name board.about 0 []) st.sound tt step;
          rows = st.rows;
          limbo = st.limbo;
          pins = λ k. at_zero k (st.pins k ∙ ap (λ (o : Option ℕ). pin_of o k) none);
          untold = st.untold;
          doors = st.doors;
          certain = st.certain;
        },
      )
    where
      at_zero : (k : ℕ) → get m.pins k ≡ None → get (insert m.pins 0 (record { owner = who; pieces = [] })) k ≡ pin_of (Some who) k
      at_zero k gone = grind (arith, gets, nat_tests)

  unpin_step : (pin : ℕ) (reply : Reply) (m : Machine) → BoardStands board m → pin_refused who (pin_of board.owner pin) ≡ Some reply → Step who (Unpin pin) m reply m
  unpin_step pin reply m st refuses = refused_unpin reply (ap (λ (o : Option PinState). pin_refused who o) (st.pins pin) ∙ refuses)

  pub none_made : (pin : ℕ) → board.owner ≡ None → StepsTo who (Unpin pin) board NoPin board
  none_made pin none m st = (m, unpin_step pin NoPin m st (ap (λ (o : Option ℕ). pin_refused who (pin_of o pin)) none), st)

  module _ (owner : ℕ) (is : board.owner ≡ Some owner) where
    pub no_other : (pin : ℕ) → pin ≢ 0 → StepsTo who (Unpin pin) board NoPin board
    no_other pin other m st =
        let test : (pin == 0) ≡ false = grind (arith, nat_tests) in
        let gone : pin_of board.owner pin ≡ None = ap (λ (o : Option ℕ). pin_of o pin) is ∙ ap (λ (b : Bool). if b then Some (record { owner = owner; pieces = [] }) else None) test in
        (m, unpin_step pin NoPin m st (ap (λ (o : Option PinState). pin_refused who o) gone), st)

    pub of_another : owner ≢ who → StepsTo who (Unpin 0) board (NotYours owner) board
    of_another other m st =
        let test : (owner == who) ≡ false = grind (arith, nat_tests) in
        (m, unpin_step 0 (NotYours owner) m st (ap (λ (o : Option ℕ). pin_refused who (pin_of o 0)) is ∙ ap (λ (b : Bool). if b then None else Some (NotYours owner)) test), st)

    pub unpinned : owner ≡ who → StepsTo who (Unpin 0) board Unpinned (record board { owner = None })
    unpinned same m st =
        let n = record m { pins = remove m.pins 0 } in
        let test : (owner == who) ≡ true = grind (arith, nat_tests) in
        let here : get m.pins 0 ≡ Some (record { owner = owner; pieces = [] }) = st.pins 0 ∙ ap (λ (o : Option ℕ). pin_of o 0) is in
        let may : pin_refused who (get m.pins 0) ≡ None = ap (λ (o : Option PinState). pin_refused who o) here ∙ ap (λ (b : Bool). if b then None else Some (NotYours owner)) test in
        let step : Step who (Unpin 0) m Unpinned n = unpins may in (
          n,
          step,
          record {
            sound = step_sound who (Unpin 0) m n Unpinned st.sound tt step;
            rows = st.rows;
            limbo = st.limbo;
            pins = λ k. at_zero k (st.pins k ∙ ap (λ (o : Option ℕ). pin_of o k) is);
            untold = st.untold;
            doors = st.doors;
            certain = st.certain;
          },
        )
      where
        at_zero : (k : ℕ) → get m.pins k ≡ pin_of (Some owner) k → get (remove m.pins 0) k ≡ None
        at_zero k was = grind (arith, gets, nat_tests)
