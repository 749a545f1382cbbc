-- How serving ends.
use Rattle.std.proofs.Common.{◌≡◌, ◌≢◌, ℕ, ◌+◌, ◌<◌, ◌≤◌, List, [], ◌∷◌, ◌++◌, length, Bool, true, false, cond, refl, ap, sym, ◌∙◌, arith, subst, inl, inr, append_assoc}
use Rattle.std.specs.Prelude.{◌⊎◌, ◌==◌, map}
use Rattle.std.specs.List.{AllByRecursion}
use Rattle.std.proofs.lemmas.Bool.Decides.{nat_tests}
use Rattle.std.proofs.lemmas.List.{length-append}
use Rattle.std.proofs.lemmas.List.Elements.{recursion_from_All}
use Rattle.act_model.specs.declared.acts.Act.{Act}
use Rattle.act_model.specs.declared.acts.Act.TheVariants.{Tick, Flush, MoveBegin, MoveStep, Doors}
use Rattle.act_model.specs.declared.acts.Answer.TheVariants.{NoRow, DoorsLeft, Nothing}
use Rattle.act_model.specs.Machine.{Machine}
use Rattle.act_model.specs.Reply.{Reply}
use Rattle.act_model.specs.Sound.{IsSound}
use Rattle.act_model.specs.Step.{Step}
use Rattle.act_model.specs.History.{Entry, Done, done_of, Runs, own, mine, CutAt}
use Rattle.act_model.proofs.Histories.{runs_sound, runs_apart, mine-append, cut_at}
use Rattle.serving.specs.Rounds.{IsShift, AreRounds, no_round, one_more, FlushedSo, IsTick, AreTicks, EndsAtNoRow, IsFlushRound, IsFlushing, IsMoveRound, IsFault, GoesOn, IsOver, IsMove, AreMoves, no_move, one_more_move, CutsMove, EndsMoves, at_its_begin, at_a_step, IsOfStore, EndsStore, HasNothing, MeetsShut, EndsSo, IsMoving}
use Rattle.serving.specs.declared.ends.FlushEnd.{FlushEnd}
use Rattle.serving.specs.declared.ends.FlushEnd.TheVariants.{LeavesNone}
use Rattle.serving.specs.declared.ends.MoverEnd.{MoverEnd}
use Rattle.serving.specs.declared.ends.MoverEnd.TheVariants.{Rests, MeetsFault, MeetsNoMemory}
use Rattle.serving.specs.End.{ServesToEnd, MadeIn, FirstShut, FaultsShut, FindsNothing, EndsWell}
use Rattle.serving.proofs.Owns.{drops, dones, dones_in, dones_in-append, among, contains_among, all_done_by, shifts_done, shift_left, mine_fewer}
use Rattle.serving.proofs.Counts.{runs_counts}
use Rattle.serving.proofs.Drained.{IsDrained, drained_durable, IsMovers, asks_doors, begins_move, steps_move, sweeps, runs_drained, flush_drains, tick_no_row}
use Rattle.serving.proofs.Parts.{compare, contains_split, part_at, all_mid, all_both, all_map, all_cuts, deeper, not_empty, among_all, tick_at, made_at, doors_shut, shut_after, first_shut}

-- ROUNDS

mover_drops : (act : Act) → IsMovers act → drops act ≡ 0
mover_drops act asks_doors = refl
mover_drops act (begins_move store now) = refl
mover_drops act (steps_move n) = refl
mover_drops act sweeps = refl

-- what holds of each round holds of all
rounds_all : (P : Done → Type 0) (Round : List Done → Type 0) → ((ds : List Done) → Round ds → AllByRecursion P ds) → (ds : List Done) → AreRounds Round ds → AllByRecursion P ds
rounds_all P Round go ds no_round = tt
rounds_all P Round go ds (one_more {before} {round} some r) = all_both P before round (rounds_all P Round go before some) (go round r)

-- no DoorDone
abbrev DropsNone : Done → Type 0
DropsNone d = drops d.act ≡ 0

ticks_drop : (now row : ℕ) (ds : List Done) → AreTicks now row ds → AllByRecursion DropsNone ds
ticks_drop now row [] are = tt
ticks_drop now row (d ∷ ds) are = (ap drops are.0, ticks_drop now (row + 1) ds are.1)

flush_round_drops : (ds : List Done) → IsFlushRound ds → AllByRecursion DropsNone ds
flush_round_drops ds r = subst (λ w. AllByRecursion DropsNone w) (sym r.is) (ap drops r.asks, all_both DropsNone r.ticks (r.flush ∷ []) (ticks_drop r.now 0 r.ticks r.are) (ap drops r.flushes, tt))

flushing_drops : (end : FlushEnd) (ds : List Done) → IsFlushing end ds → AllByRecursion DropsNone ds
flushing_drops end ds f = subst (λ w. AllByRecursion DropsNone w) (sym f.is) (all_both DropsNone f.before f.round (rounds_all DropsNone IsFlushRound flush_round_drops f.before f.rounds) (flush_round_drops f.round f.last.round))

-- an act of the mover
abbrev OfMover : Done → Type 0
OfMover d = IsMovers d.act

move_all : (Such : Reply → Type 0) (m : ℕ) (ds : List Done) → IsMove Such m ds → AllByRecursion OfMover ds
move_all Such m ds r =
    let Goes : Done → Type 0 = λ (d : Done). (d.act ≡ MoveStep m) × GoesOn d.answer in
    let front = all_map Goes OfMover (λ d is. subst IsMovers (sym is.0) (steps_move m)) r.front (recursion_from_All Goes r.front r.goes) in
    subst (λ w. AllByRecursion OfMover w) (sym r.is) (all_both OfMover r.front (r.last ∷ []) front (subst IsMovers (sym r.act) (steps_move m), tt))

begun_all : (store now : ℕ) (d : Done) → d.act ≡ MoveBegin store now → OfMover d
begun_all store now d is = subst IsMovers (sym is) (begins_move store now)

moves_all : (store now : ℕ) (ds : List Done) → AreMoves store now ds → AllByRecursion OfMover ds
moves_all store now ds no_move = tt
moves_all store now ds (one_more_move {before} {steps} first m some begins goes) = all_both OfMover before (first ∷ steps) (moves_all store now before some) (begun_all store now first begins.act, move_all IsOver m steps goes)

ends_all : (Such : Reply → Type 0) (store now : ℕ) (ds : List Done) → EndsMoves Such store now ds → AllByRecursion OfMover ds
ends_all Such store now ds (at_its_begin last act such) = (begun_all store now last act, tt)
ends_all Such store now ds (at_a_step {steps} first m begins goes) = (begun_all store now first begins.act, move_all (CutsMove Such) m steps goes)

store_all : (Such : Reply → Type 0) (store now : ℕ) (ds : List Done) → IsOfStore Such store now ds → AllByRecursion OfMover ds
store_all Such store now ds r = subst (λ w. AllByRecursion OfMover w) (sym r.is) (all_both OfMover r.before r.end (moves_all store now r.before r.moves) (ends_all Such store now r.end r.ends))

move_round_all : (ds : List Done) → IsMoveRound ds → AllByRecursion OfMover ds
move_round_all ds r =
    let medium = all_both OfMover r.medium (r.sweep ∷ []) (store_all EndsStore 2 r.now r.medium r.of_medium) (subst IsMovers (sym r.sweeps) sweeps, tt) in
    let rest = all_both OfMover r.short (r.medium ++ r.sweep ∷ []) (store_all EndsStore 1 r.now r.short r.of_short) medium in
    subst (λ w. AllByRecursion OfMover w) (sym r.is) (subst IsMovers (sym r.asks) asks_doors, rest)

moving_all : (end : MoverEnd) (ds : List Done) → IsMoving end ds → AllByRecursion OfMover ds
moving_all end ds m = subst (λ w. AllByRecursion OfMover w) (sym m.is) (all_both OfMover m.before m.round (rounds_all OfMover IsMoveRound move_round_all m.before m.rounds) (move_round_all m.round m.last))

-- one's own entry among one's own acts
mine_cut : (who : ℕ) (es front : List Entry) (e : Entry) (back : List Entry) → es ≡ front ++ e ∷ back → (e.who == who) ≡ true → mine who es ≡ mine who front ++ done_of e ∷ mine who back
mine_cut who es front e back is hit = ap (λ (w : List Entry). mine who w) is ∙ (mine-append who front (e ∷ back) ∙ ap (λ (w : List Done). mine who front ++ w) (rw hit refl))

-- TICKS

module _ (flusher : ℕ) (mid new : Machine) (c : List Entry) (d : Entry) (b : List Entry) (sound : IsSound mid) (run : Runs mid (c ++ d ∷ b) new)
    (asks : d.act ≡ Doors) (shut : d.answer ≡ DoorsLeft 0) where
  -- an entry after the Doors was made while no doors were left
  after_doors : (Such : Machine → Entry → Type 0) (x : List Entry) (e : Entry) (y : List Entry) → b ≡ x ++ e ∷ y → ((at : Machine) → Runs mid (c ++ d ∷ x) at → at.doors ≡ 0 → Such at e) → MadeIn mid (c ++ d ∷ b) new Such
  after_doors Such x e y is such =
      let whole = deeper c d b x e y is in
      made_at Such mid new (c ++ d ∷ b) (c ++ d ∷ x) e y whole run (λ at p. such at p (shut_after mid at c d x sound asks shut p))

  module _ (now : ℕ) (ticks : List Done) (flush : Done) (rest : mine flusher b ≡ ticks ++ flush ∷ []) (are : AreTicks now 0 ticks) where
    -- no more rows than ticks
    enough : EndsAtNoRow ticks ⊎ (65536 ≤ length ticks) → length mid.rows ≤ length ticks
    enough (inr most) = let few = sound.few in omega arith
    enough (inl n) =
        let at_last : mine flusher b ≡ n.rows ++ n.last ∷ (flush ∷ []) = rest ∙ (ap (λ (w : List Done). w ++ flush ∷ []) n.is ∙ append_assoc n.rows (n.last ∷ []) (flush ∷ [])) in
        let k = cut_at flusher b n.rows (flush ∷ []) n.last at_last in
        let whole = deeper c d b k.front k.entry k.back k.is in
        let parts = runs_apart (c ++ d ∷ k.front) (k.entry ∷ k.back) mid new (subst (λ w. Runs mid w new) whole run) in
        let tick : IsTick now (0 + length n.rows) n.last.act = tick_at now 0 n.rows n.last [] (subst (λ w. AreTicks now 0 w) n.is are) in
        let act : k.entry.act ≡ Tick (0 + length n.rows) now = ap (λ (y : Done). y.act) k.done ∙ tick in
        let answer : k.entry.answer ≡ NoRow = ap (λ (y : Done). y.answer) k.done ∙ n.answered in
        let step : Step k.entry.who (Tick (0 + length n.rows) now) parts.0 k.entry.answer parts.2.1 = subst (λ a. Step k.entry.who a parts.0 k.entry.answer parts.2.1) act parts.2.2 in
        let none : length parts.0.rows ≤ 0 + length n.rows = tick_no_row (0 + length n.rows) now parts.0 parts.2.1 k.entry.answer step answer in
        let grown = (runs_counts (c ++ d ∷ k.front) mid parts.0 sound parts.1).rows in
        let long = ap length n.is ∙ length-append n.rows (n.last ∷ []) in
        omega arith

    pub ticks_made : EndsAtNoRow ticks ⊎ (65536 ≤ length ticks) → (i : ℕ) → i < length mid.rows → MadeIn mid (c ++ d ∷ b) new (λ m e. ((now : ℕ) × IsTick now i e.act) × (m.doors ≡ 0))
    ticks_made all i low =
        let many = enough all in
        let place = part_at ticks i (omega arith) in
        let at_tick : mine flusher b ≡ place.0 ++ place.1 ∷ (place.2 ++ flush ∷ []) = rest ∙ (ap (λ (w : List Done). w ++ flush ∷ []) place.3 ∙ append_assoc place.0 (place.1 ∷ place.2) (flush ∷ [])) in
        let k = cut_at flusher b place.0 (place.2 ++ flush ∷ []) place.1 at_tick in
        let tick : IsTick now (0 + length place.0) place.1.act = tick_at now 0 place.0 place.1 place.2 (subst (λ w. AreTicks now 0 w) place.3 are) in
        let same : 0 + length place.0 ≡ i = let len = place.4 in omega arith in
        let own_tick : IsTick now i k.entry.act = subst (λ n. IsTick now n k.entry.act) same (subst (λ a. IsTick now (0 + length place.0) a) (sym (ap (λ (y : Done). y.act) k.done)) tick) in
        after_doors (λ m e. ((now : ℕ) × IsTick now i e.act) × (m.doors ≡ 0)) k.front k.entry k.back k.is (λ at p none. ((now, own_tick), none))

-- THE LAW

module _ (old new : Machine) (es : List Entry) (workers : List ℕ) (flusher mover : ℕ) (flushed : FlushEnd) (moved : MoverEnd) (s : ServesToEnd old es new workers flusher mover flushed moved) where
  shifts : AllByRecursion (λ (w : ℕ). IsShift (mine w es)) workers
  shifts = recursion_from_All (λ (w : ℕ). IsShift (mine w es)) workers s.shifts

  -- each entry is one of theirs
  known : (front : List Entry) (e : Entry) (back : List Entry) → es ≡ front ++ e ∷ back → among (flusher ∷ mover ∷ workers) e.who ≡ true
  known front e back is = by_test (among (flusher ∷ mover ∷ workers) e.who) refl
    where
      by_test : (b : Bool) → among (flusher ∷ mover ∷ workers) e.who ≡ b → among (flusher ∷ mover ∷ workers) e.who ≡ true
      by_test true hit = hit
      by_test false miss =
          let nothing : own e.who es ≡ [] = s.only e.who (λ at. let there = contains_among (flusher ∷ mover ∷ workers) e.who at in let bad : true ≡ false = sym there ∙ miss in cc) in
          let self : (e.who == e.who) ≡ true = grind (arith, nat_tests) in
          let some = mine_cut e.who es front e back is self in
          let none : mine e.who front ++ done_of e ∷ mine e.who back ≡ [] = sym some ∙ ap (λ (w : List Entry). map done_of w) nothing in
          absurd (not_empty (mine e.who front) (done_of e) (mine e.who back) none)

  data Whose (q : ℕ) : Type 0 where
    the_flusher : (q == flusher) ≡ true → Whose q
    the_mover : (q == mover) ≡ true → Whose q
    a_worker : among workers q ≡ true → Whose q

  whose : (q : ℕ) → among (flusher ∷ mover ∷ workers) q ≡ true → Whose q
  whose q is = by_flusher (q == flusher) refl is
    where
      by_mover : (b : Bool) → (q == mover) ≡ b → cond b true (among workers q) ≡ true → Whose q
      by_mover true hit is = the_mover hit
      by_mover false miss is = a_worker is

      by_flusher : (b : Bool) → (q == flusher) ≡ b → cond b true (among (mover ∷ workers) q) ≡ true → Whose q
      by_flusher true hit is = the_flusher hit
      by_flusher false miss is = by_mover (q == mover) refl is

  mover_at : (front : List Entry) (e : Entry) (back : List Entry) → es ≡ front ++ e ∷ back → (e.who == mover) ≡ true → IsMovers e.act
  mover_at front e back is hit = all_mid (λ (d : Done). IsMovers d.act) (mine mover front) (done_of e) (mine mover back) (subst (λ w. AllByRecursion (λ (d : Done). IsMovers d.act) w) (mine_cut mover es front e back is hit) (moving_all moved (mine mover es) s.moves))

  -- each DoorDone is a worker's
  own_done : (front : List Entry) (e : Entry) (back : List Entry) → es ≡ front ++ e ∷ back → (drops e.act ≡ 0) ⊎ (among workers e.who ≡ true)
  own_done front e back is = by_whose (whose e.who (known front e back is))
    where
      by_whose : Whose e.who → (drops e.act ≡ 0) ⊎ (among workers e.who ≡ true)
      by_whose (a_worker hit) = inr hit
      by_whose (the_mover hit) = inl (mover_drops e.act (mover_at front e back is hit))
      by_whose (the_flusher hit) = inl (all_mid (λ (d : Done). drops d.act ≡ 0) (mine flusher front) (done_of e) (mine flusher back) (subst (λ w. AllByRecursion (λ (d : Done). drops d.act ≡ 0) w) (mine_cut flusher es front e back is hit) (flushing_drops flushed (mine flusher es) s.flushes)))

  few_done : dones_in es ≤ length workers
  few_done = let all = all_done_by workers es (all_cuts (λ (e : Entry). (drops e.act ≡ 0) ⊎ (among workers e.who ≡ true)) es own_done) in let each = shifts_done workers es shifts in omega arith

  -- where no doors are left, no worker's entry follows
  pub no_worker : (a b : List Entry) (mid : Machine) → es ≡ a ++ b → Runs old a mid → mid.doors ≡ 0 → (x : List Entry) (e : Entry) (y : List Entry) → b ≡ x ++ e ∷ y → among workers e.who ≡ true → ⊥
  no_worker a b mid is run shut x e y cuts hit =
      let count = (runs_counts a old mid s.sound run).doors in
      let sum : dones_in es ≡ dones_in a + dones_in b = ap dones_in is ∙ dones_in-append a b in
      let most = few_done in
      let n = s.doors in
      let none : dones_in b ≡ 0 = omega arith in
      let shift : IsShift (mine e.who a ++ mine e.who b) = subst IsShift (ap (λ (w : List Entry). mine e.who w) is ∙ mine-append e.who a b) (among_all (λ (w : ℕ). IsShift (mine w es)) workers e.who shifts hit) in
      by_left none (shift_left (mine e.who a) (mine e.who b) shift)
    where
      by_left : dones_in b ≡ 0 → (mine e.who b ≡ []) ⊎ (1 ≤ dones (mine e.who b)) → ⊥
      by_left none (inr some) = let fewer = mine_fewer e.who b in absurd (omega arith)
      by_left none (inl empty) =
          let self : (e.who == e.who) ≡ true = grind (arith, nat_tests) in
          not_empty (mine e.who x) (done_of e) (mine e.who y) (sym (mine_cut e.who b x e y cuts self) ∙ empty)

  -- the Doors of the flusher's last round
  abbrev last : IsFlushRound s.flushes.round
  last = s.flushes.last.round

  abbrev rest_of : List Done
  rest_of = last.ticks ++ last.flush ∷ []

  pub doors_cut : CutAt flusher es s.flushes.before last.first rest_of
  doors_cut = cut_at flusher es s.flushes.before rest_of last.first (s.flushes.is ∙ ap (λ (w : List Done). s.flushes.before ++ w) last.is)

  abbrev a : List Entry
  a = doors_cut.front

  abbrev d : Entry
  d = doors_cut.entry

  abbrev b : List Entry
  b = doors_cut.back

  asks : d.act ≡ Doors
  asks = ap (λ (y : Done). y.act) doors_cut.done ∙ last.asks

  shut : d.answer ≡ DoorsLeft 0
  shut = ap (λ (y : Done). y.answer) doors_cut.done ∙ s.flushes.last.shut

  runs_cut : Runs old (a ++ d ∷ b) new
  runs_cut = subst (λ w. Runs old w new) doors_cut.is s.runs

  pub ends_shut : new.doors ≡ 0
  ends_shut = shut_after old new a d b s.sound asks shut runs_cut

  pub ends_first : FirstShut old es new
  ends_first = first_shut es old new s.sound s.runs ends_shut

  pub ends_ticked : (f : FirstShut old es new) (i : ℕ) → i < length f.mid.rows → MadeIn f.mid f.back new (λ m e. ((now : ℕ) × IsTick now i e.act) × (m.doors ≡ 0))
  ends_ticked f i low = by_place (compare f.front f.back a (d ∷ b) (sym f.is ∙ doors_cut.is))
    where
      by_place : ((c : List Entry) × (a ≡ f.front ++ c) × (f.back ≡ c ++ d ∷ b)) ⊎ ((c : List Entry) × (f.front ≡ a ++ c) × (c ≢ [])) → MadeIn f.mid f.back new (λ m e. ((now : ℕ) × IsTick now i e.act) × (m.doors ≡ 0))
      by_place (inl p) =
          let sound : IsSound f.mid = runs_sound f.front old f.mid s.sound f.to in
          subst (λ w. MadeIn f.mid w new (λ m e. ((now : ℕ) × IsTick now i e.act) × (m.doors ≡ 0))) (sym p.2)
          (ticks_made flusher f.mid new p.0 d b sound (subst (λ w. Runs f.mid w new) p.2 f.from) asks shut last.now last.ticks last.flush doors_cut.back_is last.are last.all i low)
      by_place (inr p) =
          let parts = runs_apart a (d ∷ b) old new runs_cut in
          absurd (f.first a p.0 parts.0 p.1 p.2 parts.1 (doors_shut d.who d.act parts.0 parts.2.1 d.answer asks shut parts.2.2).0)

  -- THE FLUSH

  -- what follows the flush is the mover's
  only_mover : (u v : List Entry) (fl : Entry) → b ≡ u ++ fl ∷ v → mine flusher v ≡ [] → AllByRecursion (λ (e : Entry). IsMovers e.act) v
  only_mover u v fl is none = all_cuts (λ (e : Entry). IsMovers e.act) v at_cut
    where
      at_cut : (x : List Entry) (e : Entry) (y : List Entry) → v ≡ x ++ e ∷ y → IsMovers e.act
      at_cut x e y cuts = by_whose (whose e.who (known ((a ++ d ∷ u) ++ fl ∷ x) e y whole))
        where
          within : b ≡ u ++ fl ∷ (x ++ e ∷ y)
          within = is ∙ ap (λ (w : List Entry). u ++ fl ∷ w) cuts

          later : b ≡ (u ++ fl ∷ x) ++ e ∷ y
          later = within ∙ sym (append_assoc u (fl ∷ x) (e ∷ y))

          whole : es ≡ ((a ++ d ∷ u) ++ fl ∷ x) ++ e ∷ y
          whole = doors_cut.is ∙ (deeper a d b u fl (x ++ e ∷ y) within ∙ sym (append_assoc (a ++ d ∷ u) (fl ∷ x) (e ∷ y)))

          by_whose : Whose e.who → IsMovers e.act
          by_whose (the_mover hit) = mover_at ((a ++ d ∷ u) ++ fl ∷ x) e y whole hit
          by_whose (the_flusher hit) = absurd (not_empty (mine flusher x) (done_of e) (mine flusher y) (sym (mine_cut flusher v x e y cuts hit) ∙ none))
          by_whose (a_worker hit) =
              let parts = runs_apart a (d ∷ b) old new runs_cut in
              let none = (doors_shut d.who d.act parts.0 parts.2.1 d.answer asks shut parts.2.2).0 in
              absurd (no_worker a (d ∷ b) parts.0 doors_cut.is parts.1 none (d ∷ (u ++ fl ∷ x)) e y (ap (λ (w : List Entry). d ∷ w) later) hit)

  pub ends_drained : flushed ≡ LeavesNone → IsDrained new
  ends_drained clean =
      let k = cut_at flusher b last.ticks [] last.flush doors_cut.back_is in
      let whole = deeper a d b k.front k.entry k.back k.is in
      let parts = runs_apart (a ++ d ∷ k.front) (k.entry ∷ k.back) old new (subst (λ w. Runs old w new) whole runs_cut) in
      let act : k.entry.act ≡ Flush 67108864 = ap (λ (y : Done). y.act) k.done ∙ last.flushes in
      let step : Step k.entry.who (Flush 67108864) parts.0 k.entry.answer parts.2.1 = subst (λ a. Step k.entry.who a parts.0 k.entry.answer parts.2.1) act parts.2.2 in
      let said : FlushedSo LeavesNone k.entry.answer = subst (λ r. FlushedSo LeavesNone r) (sym (ap (λ (y : Done). y.answer) k.done)) (subst (λ f. FlushedSo f last.flush.answer) clean s.flushes.last.answered) in
      let drained : IsDrained parts.2.1 = flush_drains 67108864 parts.0 parts.2.1 k.entry.answer said.0 said.1 step said.2 in
      runs_drained k.back parts.2.1 new (only_mover k.front k.back k.entry k.is k.back_is) parts.2.3 drained

  -- THE MOVER

  found_nothing : (store : ℕ) → HasNothing store s.moves.round → FindsNothing mover store old es new
  found_nothing store h =
      let reply : Done = record { act = MoveBegin store h.0; answer = Nothing 0 } in
      let place = contains_split s.moves.round reply h.1 in
      let own_acts : mine mover es ≡ (s.moves.before ++ place.0) ++ reply ∷ place.1 = s.moves.is ∙ (ap (λ (w : List Done). s.moves.before ++ w) place.2 ∙ sym (append_assoc s.moves.before place.0 (reply ∷ place.1))) in
      let k = cut_at mover es (s.moves.before ++ place.0) place.1 reply own_acts in
      made_at (λ m e. (e.who ≡ mover) × ((now : ℕ) × (e.act ≡ MoveBegin store now)) × (e.answer ≡ Nothing 0)) old new es k.front k.entry k.back k.is s.runs
      (λ at p. (k.by, (h.0, ap (λ (y : Done). y.act) k.done), ap (λ (y : Done). y.answer) k.done))

  met_fault : MeetsShut IsFault s.moves.round → FaultsShut mover old es new
  met_fault f =
      let round = s.moves.last in
      let same : f.first ≡ round.first = let both : f.first ∷ f.rest ≡ round.first ∷ (round.short ++ (round.medium ++ round.sweep ∷ [])) = sym f.is ∙ round.is in cc in
      let own_acts : mine mover es ≡ s.moves.before ++ f.first ∷ f.rest = s.moves.is ∙ ap (λ (w : List Done). s.moves.before ++ w) f.is in
      let k = cut_at mover es s.moves.before f.rest f.first own_acts in
      let place = contains_split f.rest f.met f.among in
      let j = cut_at mover k.back place.0 place.1 f.met (k.back_is ∙ place.2) in
      let asks : k.entry.act ≡ Doors = ap (λ (y : Done). y.act) k.done ∙ (ap (λ (y : Done). y.act) same ∙ round.asks) in
      let shut : k.entry.answer ≡ DoorsLeft 0 = ap (λ (y : Done). y.answer) k.done ∙ f.shut in
      let fault : IsFault j.entry.answer = subst IsFault (sym (ap (λ (y : Done). y.answer) j.done)) f.such in
      let run : Runs old (k.front ++ k.entry ∷ k.back) new = subst (λ w. Runs old w new) k.is s.runs in
      subst (λ w. FaultsShut mover old w new) (sym k.is)
      (after_doors mover old new k.front k.entry k.back s.sound run asks shut (λ m e. (e.who ≡ mover) × IsFault e.answer × (m.doors ≡ 0)) j.front j.entry j.back j.is (λ at p none. (j.by, fault, none)))

  pub ends_moved : (moved ≡ MeetsNoMemory → ⊥) → (store : ℕ) → 1 ≤ store → store ≤ 2 → FindsNothing mover store old es new ⊎ FaultsShut mover old es new
  ends_moved clean store low high = by_end moved refl s.moves.ends
    where
      by_store : HasNothing 1 s.moves.round → HasNothing 2 s.moves.round → (b : Bool) → (store == 1) ≡ b → HasNothing store s.moves.round
      by_store one two true hit = let same : 1 ≡ store = grind (arith, nat_tests) in subst (λ n. HasNothing n s.moves.round) same one
      by_store one two false miss = let apart : store ≢ 1 = grind (arith, nat_tests) in let same : 2 ≡ store = omega (arith, apart) in subst (λ n. HasNothing n s.moves.round) same two

      by_end : (end : MoverEnd) → moved ≡ end → EndsSo end s.moves.round → FindsNothing mover store old es new ⊎ FaultsShut mover old es new
      by_end Rests is both = inl (found_nothing store (by_store both.0 both.1 (store == 1) refl))
      by_end MeetsFault is f = inr (met_fault f)
      by_end MeetsNoMemory is f = absurd (clean is)

pub serving_ends : (old new : Machine) (entries : List Entry) (workers : List ℕ) (flusher mover : ℕ) (moved : MoverEnd) → ServesToEnd old entries new workers flusher mover LeavesNone moved → (moved ≡ MeetsNoMemory → ⊥) → EndsWell old entries new mover
serving_ends old new entries workers flusher mover moved s clean =
    record {
      shut = ends_shut old new entries workers flusher mover LeavesNone moved s;
      durable_is = λ i row here. drained_durable row (ends_drained old new entries workers flusher mover LeavesNone moved s refl i row here);
      has_first = ends_first old new entries workers flusher mover LeavesNone moved s;
      ticked = ends_ticked old new entries workers flusher mover LeavesNone moved s;
      moved = ends_moved old new entries workers flusher mover LeavesNone moved s clean;
    }
