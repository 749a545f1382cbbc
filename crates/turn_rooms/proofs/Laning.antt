-- Each step on a lane's word keeps the rule of the lane's table, and tells what it should.
use Rattle.std.proofs.Common.{◌≡◌, ◌≢◌, ℕ, zero, suc, ◌+◌, ◌*◌, ◌%◌, ◌<◌, ◌==◌, inl, inr, eqb, Bool, true, false, List, [], ◌∷◌, ◌++◌, map, length, set, refl, ap, sym, ◌∙◌, subst, arith, Option, Some, None, IfSome, if◌then◌else◌}
use Rattle.std.specs.Prelude.{Contains, slice_index}
use mathlib.Core.Option.{some, none, some-injective, some-ne-none}
use mathlib.Core.Option as maybe
use lib.ListN.{get_elem?}
use prog.Atomic.{either}
use Rattle.atomic_table.specs.Table.{State, Me, step, Act, keeps, takes, gives, Valid, carried_after, stepped, Allows}
use Rattle.atomic_table.proofs.Lists.{set_here, at_map, set_again, exchanged}
use Rattle.turn_rooms.specs.declared.room.RoomEntry.{RoomEntry}
use Rattle.turn_rooms.specs.declared.view.RoomSeen.{RoomSeen}
use Rattle.turn_rooms.specs.declared.view.SeatNumbers.{SeatNumbers}
use Rattle.turn_rooms.specs.Histories.{most_acts, end_of, Legal}
use Rattle.turn_rooms.specs.Views.{full_word, sees, looked, learned, took, missed, entry_in, given, settled}
use Rattle.turn_rooms.specs.Numbers.{StandsForMany}
use Rattle.turn_rooms.specs.Rules.{Finds, Recorded, left_by, Told, Whole}
use Rattle.turn_rooms.specs.Lanes.{lifted, Lane, Grows, lane_view, lane_looks, lane_learns, lane_takes, lane_entries, lane_gives}
use Rattle.turn_rooms.proofs.Lists.{at_low, has_many, if_some}
use Rattle.turn_rooms.proofs.Numbering as numbering
use Rattle.turn_rooms.proofs.Recording as recording

module _ {S A B : Type 0} where
  looked_is : (v : RoomSeen S A B) (h : List (RoomEntry S A B)) (word : ℕ) (b : Bool)
      → (reads : Option ℕ) × (taken : List ℕ) × ((if b then sees v h (if word == full_word then None else Some word) false v.taken else sees v h None false (v.taken ++ word ∷ [])) ≡ sees v h reads false taken)
  looked_is v h word true = ((if word == full_word then None else Some word), v.taken, refl)
  looked_is v h word false = (None, v.taken ++ word ∷ [], refl)

-- a seat of the sights is one of the standings
pub standing_at : {X W : Type 0} (sight : W → X) (standing : W → SeatNumbers) (vs : List W) (seat : ℕ) (u : X × SeatNumbers) → get_elem? (map (λ w. (sight w, standing w)) vs) seat ≡ some u → get_elem? (map standing vs) seat ≡ some u.1
standing_at sight standing [] seat u e = absurd (some-ne-none u (sym e))
standing_at {X} sight standing (v ∷ vs) zero u e = ap (λ (x : X × SeatNumbers). some x.1) (some-injective (sight v, standing v) u e)
standing_at sight standing (v ∷ vs) (suc i) u e = standing_at sight standing vs i u e

module _ {S A B K W : Type 0} (steps : S → ℕ → ℕ → A → B → S → Type 0) (begun : S) (sight : W → RoomSeen S A B) (standing : W → SeatNumbers) (with_sight : W → RoomSeen S A B → W) (wrap : Option S → K) (i j : ℕ)
    (R : State K W → Type 0) (Knows : W → List (RoomEntry S A B) → Type 0) (May : W → RoomEntry S A B → Type 0)
    (lane : (s : State K W) → R s → Lane steps begun sight standing wrap i j s)
    (knows : (s : State K W) (r : R s) (id : ℕ) (w : W) → get_elem? s.views id ≡ some w → Knows w (lane s r).history)
    (put : (s : State K W) (r : R s) (id : ℕ) (w : W) (x : RoomSeen S A B) (new : ℕ) (home : maybe.Option (Option S)) (hs : List (maybe.Option K)) (h : List (RoomEntry S A B)) → get_elem? s.views id ≡ some w → hs ≡ set s.homes j (lifted wrap home)
    → Grows May w (lane s r).history h → Recorded steps begun h (lane s r).drawn new home (set (map (λ u. (sight u, standing u)) s.views) id (x, standing w))
    → R record { words = set s.words i new; homes = hs; views = set s.views id (with_sight w x) }) where
  abbrev Sight : Type 0
  Sight = RoomSeen S A B

  abbrev St : Type 0
  St = State K W

  abbrev H : Type 0
  H = List (RoomEntry S A B)

  abbrev M : Type 0
  M = Me K W

  abbrev sights : List W → List (Sight × SeatNumbers)
  sights vs = map (λ w. (sight w, standing w)) vs

  at_sights : (vs : List W) (id : ℕ) (w : W) → get_elem? vs id ≡ some w → get_elem? (sights vs) id ≡ some (sight w, standing w)
  at_sights vs id w at = at_map (λ (x : W). (sight x, standing x)) vs id w at

  at_standings : (vs : List W) (id : ℕ) (w : W) → get_elem? vs id ≡ some w → get_elem? (map standing vs) id ≡ some (standing w)
  at_standings vs id w at = at_map standing vs id w at

  finds_word : (s : St) (r : R s) → Finds (slice_index s.words i) (lane s r).history
  finds_word s r = let l = lane s r in subst (λ (z : ℕ). Finds z l.history) (sym (l.is_word ∙ l.room.is_word)) (recording.finds steps begun l.history l.room.holder l.room.few)

  pub told : (s : St) (r : R s) (id : ℕ) (w : W) → get_elem? s.views id ≡ some w → Told steps (lane_view sight standing w) (lane s r).history
  told s r id w at = let l = lane s r in let f = l.room.each id (sight w, standing w) (at_sights s.views id w at) in record {
    known = f.known;
    also = f.also;
    stands = f.stands;
    joins = f.joins;
    legal = if_some (sight w).begun (λ z. z ≡ begun) (λ z. Legal steps z l.history) (λ x t. subst (λ (z : S). Legal steps z l.history) (sym t) l.room.legal) f.begins;
  }

  same_homes : (s : St) (r : R s) → s.homes ≡ set s.homes j (lifted wrap (lane s r).home)
  same_homes s r = sym (set_again s.homes j (lifted wrap (lane s r).home) (lane s r).is_home)

  abbrev Goal : St → ℕ → M → (ℕ → M → Type 0) → ℕ → Type 0
  Goal s id me tells z = (w : W) × (a : Act K) × Valid s.homes me.1 a × R (stepped s i z id me.1 w a) × tells (slice_index s.words i) (w, carried_after me.1 a)

  -- a seat that does not hold the room sees the whole history
  sees_ruled : (s : St) (r : R s) (id : ℕ) (w : W) → get_elem? s.views id ≡ some w → (sight w).holding ≡ false → (x : Sight) (reads : Option ℕ) (taken : List ℕ) → x ≡ sees (sight w) (lane s r).history reads false taken
      → R record { words = set s.words i (slice_index s.words i); homes = s.homes; views = set s.views id (with_sight w x) }
  sees_ruled s r id w at idle x reads taken is =
      let l = lane s r in let h : H = l.history in
      let at' = at_sights s.views id w at in
      let y : Sight = sees (sight w) h reads false taken in
      let room : Recorded steps begun h l.drawn l.word l.home (set (sights s.views) id (y, standing w)) = recording.rests steps begun h l.drawn l.drawn l.word l.home (sights s.views) l.room id (sight w, standing w) (y, standing w) at' (omega arith) idle
      (recording.sees_all steps begun h l.room.holder l.room.holder id (sight w) (standing w) (standing w) (l.room.each id (sight w, standing w) at') reads false taken (λ e. absurd (cc))) in
      subst (λ (z : Sight). R record { words = set s.words i (slice_index s.words i); homes = s.homes; views = set s.views id (with_sight w z) }) (sym is)
      (put s r id w y (slice_index s.words i) l.home s.homes h at (same_homes s r) (inl refl)
      (subst (λ (z : ℕ). Recorded steps begun h l.drawn z l.home (set (sights s.views) id (y, standing w))) (sym l.is_word) room))

  pub look_allows : (n id : ℕ) (me : M) → (sight me.0).holding ≡ false → Allows R n id me i (λ x. x) (lane_looks steps sight standing with_sight (step n i 0 0 none) me)
  look_allows n id me idle s r wide at low =
      let h : H = (lane s r).history in let word : ℕ = slice_index s.words i in
      let l = looked_is (sight me.0) h word (word % 2 == 0) in (
        with_sight me.0 (looked (sight me.0) h word),
        keeps,
        tt,
        sees_ruled s r id me.0 at idle (looked (sight me.0) h word) l.0 l.1 l.2,
        (h, told s r id me.0 at, finds_word s r, refl),
      )

  -- where no other pass is left, the seat stands for every number drawn
  all_of : (s : St) (r : R s) (id : ℕ) (w : W) → get_elem? s.views id ≡ some w → Contains ((standing w).stands ++ (standing w).joins) 0
      → ((q : ℕ) → Contains (standing w).gave q → Contains ((standing w).stands ++ (standing w).joins) q) → (q : ℕ) → q < (lane s r).drawn → Contains ((standing w).stands ++ (standing w).joins) q
  all_of s r id w at zeroth taken_back q less =
      let l = lane s r in let n : SeatNumbers = standing w in let ns : List SeatNumbers = map standing s.views in let at' = at_standings s.views id w at in
      let set_ns = numbering.settles l.drawn ns l.numbers id n at' in
      numbering.all_numbers l.drawn (set ns id (settled n)) set_ns id (settled n) (set_here ns id (settled n) (at_low ns id n at')) refl zeroth taken_back (q + 1) q (omega arith) less

  -- no other number has acts then
  pub whole_of : (s : St) (r : R s) (id : ℕ) (w : W) → get_elem? s.views id ≡ some w → Whole steps (standing w) (lane s r).history
  whole_of s r id w at zeroth taken_back q out =
      let l = lane s r in
      let fewer : q < l.drawn → ⊥ = λ less. out (all_of s r id w at zeroth taken_back q less) in
      l.room.unborn q (omega (arith, fewer))

  -- and it stands for as many as were drawn
  pub many_of : (s : St) (r : R s) (id : ℕ) (w : W) → get_elem? s.views id ≡ some w → StandsForMany (lane s r).drawn (standing w)
  many_of s r id w at zeroth taken_back = has_many (lane s r).drawn ((standing w).stands ++ (standing w).joins) (all_of s r id w at zeroth taken_back)

  pub learn_allows : (n id : ℕ) (me : M) → (sight me.0).holding ≡ false → Allows R n id me i (λ x. x) (lane_learns steps sight standing with_sight (step n i 0 0 none) me)
  learn_allows n id me idle s r wide at low =
      let h : H = (lane s r).history in (
        with_sight me.0 (learned (sight me.0) h),
        keeps,
        tt,
        sees_ruled s r id me.0 at idle (learned (sight me.0) h) None (sight me.0).taken refl,
        (h, told s r id me.0 at, whole_of s r id me.0 at, refl),
      )

  -- the room goes out to a seat that found it free
  takes_goes : (s : St) (r : R s) (n id : ℕ) (me : M) (b : S) (m new : ℕ) → get_elem? s.views id ≡ some me.0 → (sight me.0).begun ≡ Some b → Contains (standing me.0).stands (standing me.0).number
      → slice_index s.words i ≡ 2 * m → m < most_acts → new ≡ 2 * m + 1 → Goal s id me (lane_takes steps sight standing with_sight wrap j Knows (step n i (2 * m) new none) me) new
  takes_goes s r n id me b m new at begins live hit few more =
      let v : W = me.0 in let l = lane s r in let h : H = l.history in let x : Sight = took (sight v) h in
      let at' = at_sights s.views id v at in
      let even : l.word ≡ 2 * m = sym l.is_word ∙ hit in
      let out = recording.takes_room steps begun h l.drawn l.word l.home (sights s.views) l.room id (sight v) (standing v) m at' live even few in
      let free = recording.is_free steps begun h l.drawn l.word l.home (sights s.views) l.room m even in
      let same : b ≡ begun = subst (λ (y : Option S). IfSome y (λ z. z ≡ begun)) begins (l.room.each id (sight v, standing v) at').begins in
      let k : Option S = left_by (sight v).begun h in
      let is : k ≡ Some (end_of begun h) = ap (λ (y : Option S). left_by y h) begins ∙ ap (λ (z : S). Some (end_of z h)) same in
      let home : get_elem? s.homes j ≡ some (some (wrap k)) = l.is_home ∙ (ap (λ (y : maybe.Option (Option S)). some (lifted wrap y)) out.0 ∙ ap (λ (y : Option S). some (some (wrap y))) (sym is)) in (
        with_sight v x,
        takes j (wrap k),
        home,
        put s r id v x new none (set s.homes j none) h at refl (inl refl) (subst (λ (z : ℕ). Recorded steps begun h l.drawn z none (set (sights s.views) id (x, standing v))) (sym more) out.1),
        (h, told s r id v at, (λ e. (hit ∙ ap (λ (z : ℕ). 2 * z) (sym free.1), refl, knows s r id v at)), (λ ne. absurd (ne hit))),
      )

  pub take_allows : (n id : ℕ) (me : M) (b : S) (m old new : ℕ) → (sight me.0).holding ≡ false → (sight me.0).begun ≡ Some b → Contains (standing me.0).stands (standing me.0).number → old ≡ 2 * m → m < most_acts → new ≡ 2 * m + 1
      → Allows R n id me i (λ x. either (eqb x old) new x) (lane_takes steps sight standing with_sight wrap j Knows (step n i old new none) me)
  take_allows n id me b m old new idle begins live even few more s r wide at low =
      let h : H = (lane s r).history in let word : ℕ = slice_index s.words i in let v : W = me.0 in
      exchanged word old new (Goal s id me (lane_takes steps sight standing with_sight wrap j Knows (step n i old new none) me))
      (λ hit. subst (λ (z : ℕ). Goal s id me (lane_takes steps sight standing with_sight wrap j Knows (step n i z new none) me) new) (sym even) (takes_goes s r n id me b m new at begins live (hit ∙ even) few more))
      (λ ne. (
        with_sight v (missed (sight v) h word),
        keeps,
        tt,
        sees_ruled s r id v at idle (missed (sight v) h word) None ((sight v).taken ++ word ∷ []) refl,
        (h, told s r id v at, (λ e. absurd (ne e)), (λ _. (finds_word s r, refl))),
      ))

  -- the room comes home, and the history has one entry more
  pub give_allows : (unwrap : K → Option S) (said : W → Option (A × B)) (n id : ℕ) (v : W) (b : S) (k : Option S) (e : RoomEntry S A B) (new : ℕ) → (sight v).holding ≡ true → (standing v).joins ≡ [] → (sight v).begun ≡ Some b
      → Contains (standing v).stands (standing v).number → e.who ≡ (standing v).number → entry_in (said v) (standing v).number (unwrap (wrap k)) ≡ e ∷ [] → k ≡ Some e.after
      → steps (end_of b (sight v).known) (standing v).number (length (sight v).known) e.act e.answer e.after → new ≡ 2 * length (sight v).known + 2 → May v e
      → Allows R n id (v, (j, wrap k) ∷ []) i (λ _. new) (λ _. lane_gives steps sight standing with_sight unwrap said (step n i new 0 none) (v, (j, wrap k) ∷ []) new)
  give_allows unwrap said n id v b k e new busy empty begins live who carried room stepping more may s r wide at low =
      let l = lane s r in let h : H = l.history in
      let at' = at_sights s.views id v at in
      let num : ℕ = (standing v).number in
      let same : b ≡ begun = subst (λ (x : Option S). IfSome x (λ z. z ≡ begun)) begins (l.room.each id (sight v, standing v) at').begins in
      let mine = (l.numbers.each id (standing v) (at_standings s.views id v at)).mine num (inl live) in
      let apart : (seat : ℕ) (u : Sight × SeatNumbers) → seat ≢ id → get_elem? (sights s.views) seat ≡ some u → ¬ (Contains u.1.stands num) × ¬ (Contains u.1.joins num)
      = λ seat u ne g. let o = (l.numbers.each seat u.1 (standing_at sight standing s.views seat u g)).mine num in
      ((λ c. ne (sym (o (inl c)).1 ∙ mine.1)), (λ c. ne (sym (o (inr c)).1 ∙ mine.1))) in
      let st = subst (λ (z : S). steps (end_of z (sight v).known) num (length (sight v).known) e.act e.answer e.after) same stepping in
      let back = recording.gives_room steps begun h l.drawn l.word l.home (sights s.views) l.room id (sight v) (standing v) e at' busy empty mine.0 who apart st in
      let x : Sight = given (sight v) (e ∷ []) in
      let homes' : set s.homes j (some (wrap k)) ≡ set s.homes j (some (wrap (Some e.after))) = ap (λ (y : Option S). set s.homes j (some (wrap y))) room in (
        with_sight v (given (sight v) (lane_entries {K = K} steps sight standing with_sight unwrap said (v, (j, wrap k) ∷ []))),
        gives,
        tt,
        subst (λ (es : H). R record { words = set s.words i new; homes = set s.homes j (some (wrap k)); views = set s.views id (with_sight v (given (sight v) es)) }) (sym carried)
            (put s r id v x new (some (Some e.after)) (set s.homes j (some (wrap k))) (h ++ e ∷ []) at homes' (inr (e, refl, may))
            (subst (λ (z : ℕ). Recorded steps begun (h ++ e ∷ []) l.drawn z (some (Some e.after)) (set (sights s.views) id (x, standing v))) (sym more) back.2)),
        refl,
      )
