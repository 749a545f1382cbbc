-- Each step on a twin's table keeps its rule, and tells what it should.
use Rattle.std.proofs.Common.{◌≡◌, ◌≢◌, ℕ, suc, ◌+◌, ◌*◌, ◌<◌, inl, ⊎_elim, eqb, true, false, List, [], ◌∷◌, ◌++◌, length, set, refl, ap, sym, ◌∙◌, subst, arith, Option, Some, None}
use Rattle.std.specs.Prelude.{Contains, slice_index}
use Rattle.std.proofs.lemmas.List.{map-set, map-append}
use Rattle.std.proofs.lemmas.List.Elements.{Contains-append_left, Contains-append_cases}
use mathlib.Core.Option.{some, none}
use mathlib.Core.Option as maybe
use lib.ListN.{get_elem?}
use prog.Atomic.{either}
use Rattle.atomic_table.specs.Table.{State, step, Act, keeps, Valid, carried_after, stepped, Allows, Splits, Joins, opening, Final, Seen as SeenAt}
use Rattle.atomic_table.proofs.Lists.{at_map, set_again, set_else, exchanged}
use Rattle.turn_rooms.specs.declared.room.RoomEntry.{RoomEntry}
use Rattle.turn_rooms.specs.declared.beside.ActBeside.{ActBeside}
use Rattle.turn_rooms.specs.declared.view.RoomSeen.{RoomSeen}
use Rattle.turn_rooms.specs.declared.view.SeatNumbers.{SeatNumbers}
use Rattle.turn_rooms.specs.declared.twin_view.TwinView.{TwinView}
use Rattle.turn_rooms.specs.Histories.{most_acts, most_numbers, by, end_of, Legal}
use Rattle.turn_rooms.specs.Views.{entry_in, learned, counted, drew, settled}
use Rattle.turn_rooms.specs.Numbers.{Numbered, StandsForMany}
use Rattle.turn_rooms.specs.Rules.{Recorded, Follows}
use Rattle.turn_rooms.specs.Lanes.{lifted, Lane, Grows}
use Rattle.turn_rooms.specs.Ties.{knowing, Tied}
use Rattle.turn_rooms.specs.TwinViews.{in_store, in_intake, out_store, out_intake, saying, twin_view, with_store, with_intake, with_standing, opened_twin, spent_twin, left_twin, right_twin, joined_twin}
use Rattle.turn_rooms.specs.TwinRules.{twin_standings, store_sights, intake_sights, TwinRuled, TwinSeated, BesideStore, BesideIntake, MayStore, MayIntake, store_looks, intake_looks, store_takes, intake_takes, store_gives, intake_gives, store_learns, twin_settles, twin_counts, twin_draws}
use Rattle.turn_rooms.proofs.Lists.{if_some, no_element}
use Rattle.turn_rooms.proofs.Tying.{tied_back, give_tied, first_tied}
use Rattle.turn_rooms.proofs.Numbering as numbering
use Rattle.turn_rooms.proofs.Recording as recording
use Rattle.turn_rooms.proofs.Laning as laning

module _ {S A B T C D : Type 0} (steps : S → ℕ → ℕ → A → B → S → Type 0) (steps' : T → ℕ → ℕ → C → D → T → Type 0) (allows : List (RoomEntry T (ActBeside C) D) → A → Type 0) (allows' : List (RoomEntry S (ActBeside A) B) → C → Type 0) (begun : S) (begun' : T) where
  abbrev V : Type 0
  V = TwinView S A B T C D

  abbrev K : Type 0
  K = Option S × Option T

  abbrev St : Type 0
  St = State K V

  abbrev H : Type 0
  H = List (RoomEntry S (ActBeside A) B)

  abbrev G : Type 0
  G = List (RoomEntry T (ActBeside C) D)

  abbrev Sight : Type 0
  Sight = RoomSeen S (ActBeside A) B

  abbrev Sight' : Type 0
  Sight' = RoomSeen T (ActBeside C) D

  abbrev Home : Type 0
  Home = maybe.Option K

  abbrev Rule : St → Type 0
  Rule s = TwinRuled steps steps' allows allows' begun begun' s

  abbrev Sat : Type 0
  Sat = TwinSeated steps steps' allows allows'

  at_store : (vs : List V) (id : ℕ) (v : V) → get_elem? vs id ≡ some v → get_elem? (store_sights vs) id ≡ some (v.store, v.standing)
  at_store vs id v at = at_map (λ (x : V). (x.store, x.standing)) vs id v at

  at_intake : (vs : List V) (id : ℕ) (v : V) → get_elem? vs id ≡ some v → get_elem? (intake_sights vs) id ≡ some (v.intake, v.standing)
  at_intake vs id v at = at_map (λ (x : V). (x.intake, x.standing)) vs id v at

  at_standing : (vs : List V) (id : ℕ) (v : V) → get_elem? vs id ≡ some v → get_elem? (twin_standings vs) id ≡ some v.standing
  at_standing vs id v at = at_map (λ (x : V). x.standing) vs id v at

  -- the rule after one seat changed
  twin_ruled : (h : H) (g : G) (vs : List V) (id : ℕ) (w : V) (ws : List ℕ) (hs : List Home) (a b d : ℕ) (p : maybe.Option (Option S)) (q : maybe.Option (Option T)) → ws ≡ a ∷ b ∷ d ∷ [] → hs ≡ lifted in_store p ∷ lifted in_intake q ∷ []
      → Numbered d (set (twin_standings vs) id w.standing) → Recorded (knowing steps) begun h d a p (set (store_sights vs) id (w.store, w.standing)) → Recorded (knowing steps') begun' g d b q (set (intake_sights vs) id (w.intake, w.standing))
      → Tied allows allows' h g → Rule record { words = ws; homes = hs; views = set vs id w }
  twin_ruled h g vs id w ws hs a b d p q words homes numbers store intake tied = record {
    store_history = h;
    intake_history = g;
    store_word = a;
    intake_word = b;
    drawn = d;
    store_home = p;
    intake_home = q;
    words = words;
    homes = homes;
    numbers = subst (λ (xs : List SeatNumbers). Numbered d xs) (sym (map-set (λ (x : V). x.standing) vs id w)) numbers;
    store = subst (λ (xs : List (Sight × SeatNumbers)). Recorded (knowing steps) begun h d a p xs) (sym (map-set (λ (x : V). (x.store, x.standing)) vs id w)) store;
    intake = subst (λ (xs : List (Sight' × SeatNumbers)). Recorded (knowing steps') begun' g d b q xs) (sym (map-set (λ (x : V). (x.intake, x.standing)) vs id w)) intake;
    tied = tied;
  }

  same_numbers : (vs : List V) (id : ℕ) (v : V) (d : ℕ) → get_elem? vs id ≡ some v → Numbered d (twin_standings vs) → Numbered d (set (twin_standings vs) id v.standing)
  same_numbers vs id v d at r = subst (λ (xs : List SeatNumbers). Numbered d xs) (sym (set_again (twin_standings vs) id v.standing (at_standing vs id v at))) r

  same_store : (h : H) (d a : ℕ) (p : maybe.Option (Option S)) (vs : List V) (id : ℕ) (v : V) → get_elem? vs id ≡ some v → Recorded (knowing steps) begun h d a p (store_sights vs) → Recorded (knowing steps) begun h d a p (set (store_sights vs) id (v.store, v.standing))
  same_store h d a p vs id v at r = subst (λ (xs : List (Sight × SeatNumbers)). Recorded (knowing steps) begun h d a p xs) (sym (set_again (store_sights vs) id (v.store, v.standing) (at_store vs id v at))) r

  same_intake : (g : G) (d b : ℕ) (q : maybe.Option (Option T)) (vs : List V) (id : ℕ) (v : V) → get_elem? vs id ≡ some v → Recorded (knowing steps') begun' g d b q (intake_sights vs)
      → Recorded (knowing steps') begun' g d b q (set (intake_sights vs) id (v.intake, v.standing))
  same_intake g d b q vs id v at r = subst (λ (xs : List (Sight' × SeatNumbers)). Recorded (knowing steps') begun' g d b q xs) (sym (set_again (intake_sights vs) id (v.intake, v.standing) (at_intake vs id v at))) r

  -- The two lanes

  abbrev store_lane : (s : St) → Rule s → Lane (knowing steps) begun (λ (v : V). v.store) (λ (v : V). v.standing) (in_store {S = S} {T = T}) 0 0 s
  store_lane s r = record {
    history = r.store_history;
    drawn = r.drawn;
    word = r.store_word;
    home = r.store_home;
    is_word = ap (λ (ws : List ℕ). slice_index ws 0) r.words;
    is_home = ap (λ (hs : List Home). get_elem? hs 0) r.homes;
    numbers = r.numbers;
    room = r.store;
  }

  abbrev intake_lane : (s : St) → Rule s → Lane (knowing steps') begun' (λ (v : V). v.intake) (λ (v : V). v.standing) (in_intake {S = S} {T = T}) 1 1 s
  intake_lane s r = record {
    history = r.intake_history;
    drawn = r.drawn;
    word = r.intake_word;
    home = r.intake_home;
    is_word = ap (λ (ws : List ℕ). slice_index ws 1) r.words;
    is_home = ap (λ (hs : List Home). get_elem? hs 1) r.homes;
    numbers = r.numbers;
    room = r.intake;
  }

  store_knows : (s : St) (r : Rule s) (id : ℕ) (v : V) → get_elem? s.views id ≡ some v → BesideStore steps steps' allows allows' v r.store_history
  store_knows s r id v at = let f = r.intake.each id (v.intake, v.standing) (at_intake s.views id v at) in (
    r.intake_history,
    if_some v.intake.begun (λ z. z ≡ begun') (λ z. Legal (knowing steps') z r.intake_history) (λ x t. subst (λ (z : T). Legal (knowing steps') z r.intake_history) (sym t) r.intake.legal) f.begins,
    r.tied,
    f.known,
  )

  intake_knows : (s : St) (r : Rule s) (id : ℕ) (v : V) → get_elem? s.views id ≡ some v → BesideIntake steps steps' allows allows' v r.intake_history
  intake_knows s r id v at = let f = r.store.each id (v.store, v.standing) (at_store s.views id v at) in (
    r.store_history,
    if_some v.store.begun (λ z. z ≡ begun) (λ z. Legal (knowing steps) z r.store_history) (λ x t. subst (λ (z : S). Legal (knowing steps) z r.store_history) (sym t) r.store.legal) f.begins,
    r.tied,
    f.known,
  )

  store_put : (s : St) (r : Rule s) (id : ℕ) (w : V) (x : Sight) (new : ℕ) (home : maybe.Option (Option S)) (hs : List Home) (h : H) → get_elem? s.views id ≡ some w → hs ≡ set s.homes 0 (lifted in_store home)
      → Grows (MayStore steps steps' allows allows') w r.store_history h → Recorded (knowing steps) begun h r.drawn new home (set (store_sights s.views) id (x, w.standing))
      → Rule record { words = set s.words 0 new; homes = hs; views = set s.views id (with_store w x) }
  store_put s r id w x new home hs h at homes grows room =
      let g : G = r.intake_history in
      let f = r.intake.each id (w.intake, w.standing) (at_intake s.views id w at) in
      twin_ruled h g s.views id (with_store w x) (set s.words 0 new) hs new r.intake_word r.drawn home r.intake_home
      (ap (λ (ws : List ℕ). set ws 0 new) r.words) (homes ∙ ap (λ (xs : List Home). set xs 0 (lifted in_store home)) r.homes)
      (same_numbers s.views id w r.drawn at r.numbers) room (same_intake g r.drawn r.intake_word r.intake_home s.views id w at r.intake)
      (⊎_elim {C = Tied allows allows' h g} (λ e. subst (λ (z : H). Tied allows allows' z g) (sym e) r.tied)
      (λ t. subst (λ (z : H). Tied allows allows' z g) (sym t.1) (give_tied allows allows' r.store_history g t.0 w.intake.known r.tied f.known t.2.0 t.2.1)) grows)

  intake_put : (s : St) (r : Rule s) (id : ℕ) (w : V) (x : Sight') (new : ℕ) (home : maybe.Option (Option T)) (hs : List Home) (g : G) → get_elem? s.views id ≡ some w → hs ≡ set s.homes 1 (lifted in_intake home)
      → Grows (MayIntake steps steps' allows allows') w r.intake_history g → Recorded (knowing steps') begun' g r.drawn new home (set (intake_sights s.views) id (x, w.standing))
      → Rule record { words = set s.words 1 new; homes = hs; views = set s.views id (with_intake w x) }
  intake_put s r id w x new home hs g at homes grows room =
      let h : H = r.store_history in
      let f = r.store.each id (w.store, w.standing) (at_store s.views id w at) in
      twin_ruled h g s.views id (with_intake w x) (set s.words 1 new) hs r.store_word new r.drawn r.store_home home
      (ap (λ (ws : List ℕ). set ws 1 new) r.words) (homes ∙ ap (λ (xs : List Home). set xs 1 (lifted in_intake home)) r.homes)
      (same_numbers s.views id w r.drawn at r.numbers) (same_store h r.drawn r.store_word r.store_home s.views id w at r.store) room
      (⊎_elim {C = Tied allows allows' h g} (λ e. subst (λ (z : G). Tied allows allows' h z) (sym e) r.tied)
      (λ t. subst (λ (z : G). Tied allows allows' h z) (sym t.1) (tied_back allows' allows (r.intake_history ++ t.0 ∷ []) h (give_tied allows' allows r.intake_history h t.0 w.store.known (tied_back allows allows' h r.intake_history r.tied) f.known t.2.0 t.2.1))) grows)

  -- The steps on the halves' words

  pub store_look_allows : (n id : ℕ) (me : Sat) → me.0.store.holding ≡ false → Allows Rule n id me 0 (λ x. x) (store_looks steps steps' allows allows' (step n 0 0 0 none) me)
  store_look_allows = laning.look_allows (knowing steps) begun (λ (v : V). v.store) (λ (v : V). v.standing) with_store in_store 0 0 Rule (BesideStore steps steps' allows allows') (MayStore steps steps' allows allows') store_lane store_knows store_put

  pub intake_look_allows : (n id : ℕ) (me : Sat) → me.0.intake.holding ≡ false → Allows Rule n id me 1 (λ x. x) (intake_looks steps steps' allows allows' (step n 1 0 0 none) me)
  intake_look_allows = laning.look_allows (knowing steps') begun' (λ (v : V). v.intake) (λ (v : V). v.standing) with_intake in_intake 1 1 Rule (BesideIntake steps steps' allows allows') (MayIntake steps steps' allows allows') intake_lane intake_knows intake_put

  pub store_learn_allows : (n id : ℕ) (me : Sat) → me.0.store.holding ≡ false → Allows Rule n id me 0 (λ x. x) (store_learns steps steps' allows allows' (step n 0 0 0 none) me)
  store_learn_allows = laning.learn_allows (knowing steps) begun (λ (v : V). v.store) (λ (v : V). v.standing) with_store in_store 0 0 Rule (BesideStore steps steps' allows allows') (MayStore steps steps' allows allows') store_lane store_knows store_put

  pub store_take_allows : (n id : ℕ) (me : Sat) (b : S) (m old new : ℕ) → me.0.store.holding ≡ false → me.0.store.begun ≡ Some b → Contains me.0.standing.stands me.0.standing.number → old ≡ 2 * m → m < most_acts → new ≡ 2 * m + 1
      → Allows Rule n id me 0 (λ x. either (eqb x old) new x) (store_takes steps steps' allows allows' (step n 0 old new none) me)
  store_take_allows = laning.take_allows (knowing steps) begun (λ (v : V). v.store) (λ (v : V). v.standing) with_store in_store 0 0 Rule (BesideStore steps steps' allows allows') (MayStore steps steps' allows allows') store_lane store_knows store_put

  pub intake_take_allows : (n id : ℕ) (me : Sat) (b : T) (m old new : ℕ) → me.0.intake.holding ≡ false → me.0.intake.begun ≡ Some b → Contains me.0.standing.stands me.0.standing.number → old ≡ 2 * m → m < most_acts → new ≡ 2 * m + 1
      → Allows Rule n id me 1 (λ x. either (eqb x old) new x) (intake_takes steps steps' allows allows' (step n 1 old new none) me)
  intake_take_allows = laning.take_allows (knowing steps') begun' (λ (v : V). v.intake) (λ (v : V). v.standing) with_intake in_intake 1 1 Rule (BesideIntake steps steps' allows allows') (MayIntake steps steps' allows allows') intake_lane intake_knows intake_put

  pub store_give_allows : (said : Option (A × B)) (n id : ℕ) (v : V) (b : S) (k : Option S) (e : RoomEntry S (ActBeside A) B) (new : ℕ) → v.store.holding ≡ true → v.standing.joins ≡ [] → v.store.begun ≡ Some b
      → Contains v.standing.stands v.standing.number → e.who ≡ v.standing.number → entry_in (saying (length v.intake.known) said) v.standing.number k ≡ e ∷ [] → k ≡ Some e.after
      → steps (end_of b v.store.known) v.standing.number (length v.store.known) e.act.act e.answer e.after → new ≡ 2 * length v.store.known + 2 → MayStore steps steps' allows allows' v e
      → Allows Rule n id (v, (0, (in_store k)) ∷ []) 0 (λ _. new) (λ _. store_gives steps steps' allows allows' said (step n 0 new 0 none) (v, (0, (in_store k)) ∷ []) new)
  store_give_allows said = laning.give_allows (knowing steps) begun (λ (v : V). v.store) (λ (v : V). v.standing) with_store in_store 0 0 Rule (BesideStore steps steps' allows allows') (MayStore steps steps' allows allows') store_lane store_knows store_put out_store
      (λ (v : V). saying (length v.intake.known) said)

  pub intake_give_allows : (said : Option (C × D)) (n id : ℕ) (v : V) (b : T) (k : Option T) (e : RoomEntry T (ActBeside C) D) (new : ℕ) → v.intake.holding ≡ true → v.standing.joins ≡ [] → v.intake.begun ≡ Some b
      → Contains v.standing.stands v.standing.number → e.who ≡ v.standing.number → entry_in (saying (length v.store.known) said) v.standing.number k ≡ e ∷ [] → k ≡ Some e.after
      → steps' (end_of b v.intake.known) v.standing.number (length v.intake.known) e.act.act e.answer e.after → new ≡ 2 * length v.intake.known + 2 → MayIntake steps steps' allows allows' v e
      → Allows Rule n id (v, (1, (in_intake k)) ∷ []) 1 (λ _. new) (λ _. intake_gives steps steps' allows allows' said (step n 1 new 0 none) (v, (1, (in_intake k)) ∷ []) new)
  intake_give_allows said = laning.give_allows (knowing steps') begun' (λ (v : V). v.intake) (λ (v : V). v.standing) with_intake in_intake 1 1 Rule (BesideIntake steps steps' allows allows') (MayIntake steps steps' allows allows') intake_lane intake_knows intake_put out_intake
      (λ (v : V). saying (length v.store.known) said)

  -- The steps on the numbers' word

  abbrev Goal : St → ℕ → ℕ → Sat → (ℕ → Sat → Type 0) → ℕ → Type 0
  Goal s i id me tells z = (w : V) × (a : Act K) × Valid s.homes me.1 a × Rule (stepped s i z id me.1 w a) × tells (slice_index s.words i) (w, carried_after me.1 a)

  drawn_at : (s : St) (r : Rule s) → slice_index s.words 2 ≡ r.drawn
  drawn_at s r = ap (λ (ws : List ℕ). slice_index ws 2) r.words

  -- the numbers' seat knows as much of a half as before
  still : {X Y Z : Type 0} (first : X) (h : List (RoomEntry X Y Z)) (holder : Option ℕ) (id : ℕ) (v : RoomSeen X Y Z) (n m : SeatNumbers) → Follows first h holder id v n → m.stands ≡ n.stands → m.joins ≡ n.joins → m.number ≡ n.number → Follows first h holder id v m
  still first h holder id v n m f stands joins number = record {
    begins = f.begins;
    known = f.known;
    also = f.also;
    stands = λ q c. f.stands q (subst (λ (xs : List ℕ). Contains xs q) stands c);
    joins = λ q c. f.joins q (subst (λ (xs : List ℕ). Contains xs q) joins c);
    holding = λ e. let g = f.holding e in (g.0, g.1, subst (λ (x : List ℕ × ℕ). Contains x.0 x.1) (λ i. (sym stands i, sym number i)) g.2);
  }

  -- where no other pass is left, the seat stands for as many numbers as were drawn
  many_of : (s : St) (r : Rule s) (id : ℕ) (v : V) → get_elem? s.views id ≡ some v → StandsForMany r.drawn v.standing
  many_of = laning.many_of (knowing steps') begun' (λ (u : V). u.intake) (λ (u : V). u.standing) with_intake in_intake 1 1 Rule (BesideIntake steps steps' allows allows') (MayIntake steps steps' allows allows') intake_lane intake_knows intake_put

  pub count_allows : (n id : ℕ) (me : Sat) → Allows Rule n id me 2 (λ x. x) (twin_counts steps steps' allows allows' (step n 2 0 0 none) me)
  count_allows n id me s r wide at low =
      let v : V = me.0 in let d : ℕ = slice_index s.words 2 in let c : SeatNumbers = counted v.standing d in let w : V = with_standing v c in
      let a = at_store s.views id v at in let b = at_intake s.views id v at in
      let h : H = r.store_history in let g : G = r.intake_history in (
        w,
        keeps,
        tt,
        twin_ruled h g s.views id w (set s.words 2 d) s.homes r.store_word r.intake_word r.drawn r.store_home r.intake_home (ap (λ (ws : List ℕ). set ws 2 (slice_index ws 2)) r.words) r.homes
            (subst (λ (z : ℕ). Numbered r.drawn (set (twin_standings s.views) id (counted v.standing z))) (sym (drawn_at s r)) (numbering.counting r.drawn (twin_standings s.views) r.numbers id v.standing (at_standing s.views id v at)))
            (recording.rests (knowing steps) begun h r.drawn r.drawn r.store_word r.store_home (store_sights s.views) r.store id (v.store, v.standing) (v.store, c) a (omega arith) refl
            (still begun h r.store.holder id v.store v.standing c (r.store.each id (v.store, v.standing) a) refl refl refl))
            (recording.rests (knowing steps') begun' g r.drawn r.drawn r.intake_word r.intake_home (intake_sights s.views) r.intake id (v.intake, v.standing) (v.intake, c) b (omega arith) refl
            (still begun' g r.intake.holder id v.intake v.standing c (r.intake.each id (v.intake, v.standing) b) refl refl refl))
            r.tied,
        (refl, subst (λ (z : ℕ). StandsForMany z v.standing) (sym (drawn_at s r)) (many_of s r id v at)),
      )

  draws_goes : (s : St) (r : Rule s) (n id : ℕ) (me : Sat) (p : ℕ) → get_elem? s.views id ≡ some me.0 → Contains me.0.standing.stands me.0.standing.number → slice_index s.words 2 ≡ p → p < most_numbers
      → Goal s 2 id me (twin_draws steps steps' allows allows' (step n 2 p (p + 1) none) me) (p + 1)
  draws_goes s r n id me p at live hit few =
      let v : V = me.0 in let w : V = with_standing v (drew v.standing p) in
      let is : r.drawn ≡ p = sym (drawn_at s r) ∙ hit in
      let h : H = r.store_history in let g : G = r.intake_history in
      let at_number = at_standing s.views id v at in
      let one = recording.draws_one (knowing steps) begun h p r.store_word r.store_home (store_sights s.views) (subst (λ (z : ℕ). Recorded (knowing steps) begun h z r.store_word r.store_home (store_sights s.views)) is r.store) id v.store v.standing (at_store s.views id v at) in
      let two = recording.draws_one (knowing steps') begun' g p r.intake_word r.intake_home (intake_sights s.views) (subst (λ (z : ℕ). Recorded (knowing steps') begun' g z r.intake_word r.intake_home (intake_sights s.views)) is r.intake) id v.intake v.standing (at_intake s.views id v at) in
      let f = r.numbers.each id v.standing at_number in (
        w,
        keeps,
        tt,
        twin_ruled h g s.views id w (set s.words 2 (p + 1)) s.homes r.store_word r.intake_word (p + 1) r.store_home r.intake_home (ap (λ (ws : List ℕ). set ws 2 (p + 1)) r.words) r.homes
            (numbering.drawing p (twin_standings s.views) (subst (λ (z : ℕ). Numbered z (twin_standings s.views)) is r.numbers) id v.standing at_number live few) one.1 two.1 r.tied,
        (
          (λ e. (
            ap (λ (z : ℕ). (with_standing v (drew v.standing z), me.1)) (sym hit),
            (λ q c. let t : q < r.drawn = (f.mine q (inl c)).0 in omega arith),
            (λ q c. let t : q < r.drawn = f.gave q c in omega arith),
            subst (λ (z : ℕ). by z v.store.known ≡ []) (sym hit) one.0,
            subst (λ (z : ℕ). by z v.intake.known ≡ []) (sym hit) two.0,
          )),
          (λ ne. absurd (ne hit)),
        ),
      )

  pub draw_allows : (n id : ℕ) (me : Sat) (p new : ℕ) → Contains me.0.standing.stands me.0.standing.number → p < most_numbers → new ≡ p + 1
      → Allows Rule n id me 2 (λ x. either (eqb x p) new x) (twin_draws steps steps' allows allows' (step n 2 p new none) me)
  draw_allows n id me p new live few more s r wide at low =
      let d : ℕ = slice_index s.words 2 in let v : V = me.0 in
      subst (λ (z : ℕ). Goal s 2 id me (twin_draws steps steps' allows allows' (step n 2 p z none) me) (either (eqb d p) z d)) (sym more)
      (exchanged d p (p + 1) (Goal s 2 id me (twin_draws steps steps' allows allows' (step n 2 p (p + 1) none) me))
      (λ hit. draws_goes s r n id me p at live hit few)
      (λ ne. (
        v,
        keeps,
        tt,
        twin_ruled r.store_history r.intake_history s.views id v (set s.words 2 d) s.homes r.store_word r.intake_word r.drawn r.store_home r.intake_home (ap (λ (ws : List ℕ). set ws 2 (slice_index ws 2)) r.words) r.homes
            (same_numbers s.views id v r.drawn at r.numbers) (same_store r.store_history r.drawn r.store_word r.store_home s.views id v at r.store) (same_intake r.intake_history r.drawn r.intake_word r.intake_home s.views id v at r.intake) r.tied,
        ((λ e. absurd (ne e)), (λ _. refl)),
      )))

  -- The second load after a join. What the first saw of the store holds the other's part too

  settled_follows : {X Y Z : Type 0} (first : X) (h : List (RoomEntry X Y Z)) (holder : Option ℕ) (id : ℕ) (v : RoomSeen X Y Z) (n : SeatNumbers) → Follows first h holder id v n → v.also ≡ v.known → Follows first h holder id v (settled n)
  settled_follows first h holder id v n f same = record {
    begins = f.begins;
    known = f.known;
    also = f.also;
    stands = λ q c. ⊎_elim {C = by q h ≡ by q v.known} (f.stands q) (λ t. f.joins q t ∙ ap (by q) same) (Contains-append_cases n.stands n.joins q c);
    joins = λ q c. absurd (no_element q c);
    holding = λ e. let g = f.holding e in (g.0, g.1, Contains-append_left n.stands n.joins n.number g.2);
  }

  pub settle_allows : (n id : ℕ) (me : Sat) → me.0.intake.holding ≡ false → me.0.store.also ≡ me.0.store.known → Allows Rule n id me 1 (λ x. x) (twin_settles steps steps' allows allows' (step n 1 0 0 none) me)
  settle_allows n id me idle whole s r wide at low =
      let v : V = me.0 in let h : H = r.store_history in let g : G = r.intake_history in
      let m : SeatNumbers = settled v.standing in let y : Sight' = learned v.intake g in let w : V = twin_view v.store y m in
      let a = at_store s.views id v at in let b = at_intake s.views id v at in let at_number = at_standing s.views id v at in (
        w,
        keeps,
        tt,
        twin_ruled h g s.views id w (set s.words 1 (slice_index s.words 1)) s.homes r.store_word r.intake_word r.drawn r.store_home r.intake_home (ap (λ (ws : List ℕ). set ws 1 (slice_index ws 1)) r.words) r.homes
            (numbering.settles r.drawn (twin_standings s.views) r.numbers id v.standing at_number)
            (recording.rests (knowing steps) begun h r.drawn r.drawn r.store_word r.store_home (store_sights s.views) r.store id (v.store, v.standing) (v.store, m) a (omega arith) refl
            (settled_follows begun h r.store.holder id v.store v.standing (r.store.each id (v.store, v.standing) a) whole))
            (recording.rests (knowing steps') begun' g r.drawn r.drawn r.intake_word r.intake_home (intake_sights s.views) r.intake id (v.intake, v.standing) (y, m) b (omega arith) idle
            (recording.sees_all (knowing steps') begun' g r.intake.holder r.intake.holder id v.intake v.standing m (r.intake.each id (v.intake, v.standing) b) None false v.intake.taken (λ e. absurd (cc))))
            r.tied,
        (
          g,
          laning.told (knowing steps') begun' (λ (u : V). u.intake) (λ (u : V). u.standing) with_intake in_intake 1 1 Rule (BesideIntake steps steps' allows allows') (MayIntake steps steps' allows allows') intake_lane intake_knows intake_put s r id v at,
          (r.numbers.each id v.standing at_number).apart,
          laning.whole_of (knowing steps') begun' (λ (u : V). u.intake) (λ (u : V). u.standing) with_intake in_intake 1 1 Rule (BesideIntake steps steps' allows allows') (MayIntake steps steps' allows allows') intake_lane intake_knows intake_put s r id v at,
          refl,
          (λ some. subst (λ (z : ℕ). StandsForMany z v.standing) ((r.numbers.each id v.standing at_number).drained some) (many_of s r id v at)),
        ),
      )

  -- Splits and joins

  pub split_allows : (id : ℕ) (x : Sight) (y : Sight') (n : SeatNumbers) (p : ℕ) → n.joins ≡ [] → Contains n.stands n.number → ((q : ℕ) → Contains n.stands q → q < p)
      → Splits Rule id (twin_view x y (drew n p)) (left_twin (twin_view x y (drew n p))) (right_twin (twin_view x y (drew n p)))
  split_allows id x y n p empty live less_all s r at =
      let vs : List V = s.views in
      let v : V = twin_view x y (drew n p) in let a : V = left_twin v in let b : V = right_twin v in
      let numbers = numbering.cutting r.drawn (twin_standings vs) r.numbers id n p (at_standing vs id v at) empty live less_all in
      let store = recording.cuts (knowing steps) begun r.store_history r.drawn r.store_word r.store_home (store_sights vs) r.store id x n p (at_store vs id v at) live in
      let intake = recording.cuts (knowing steps') begun' r.intake_history r.drawn r.intake_word r.intake_home (intake_sights vs) r.intake id y n p (at_intake vs id v at) live in
      record {
        store_history = r.store_history;
        intake_history = r.intake_history;
        store_word = r.store_word;
        intake_word = r.intake_word;
        drawn = r.drawn;
        store_home = r.store_home;
        intake_home = r.intake_home;
        words = r.words;
        homes = r.homes;
        numbers = subst (λ (xs : List SeatNumbers). Numbered r.drawn xs)
            (ap (λ (xs : List SeatNumbers). xs ++ b.standing ∷ []) (sym (map-set (λ (u : V). u.standing) vs id a)) ∙ sym (map-append (λ (u : V). u.standing) (set vs id a) (b ∷ []))) numbers;
        store = subst (λ (xs : List (Sight × SeatNumbers)). Recorded (knowing steps) begun r.store_history r.drawn r.store_word r.store_home xs)
            (ap (λ (xs : List (Sight × SeatNumbers)). xs ++ (b.store, b.standing) ∷ []) (sym (map-set (λ (u : V). (u.store, u.standing)) vs id a)) ∙ sym (map-append (λ (u : V). (u.store, u.standing)) (set vs id a) (b ∷ []))) store;
        intake = subst (λ (xs : List (Sight' × SeatNumbers)). Recorded (knowing steps') begun' r.intake_history r.drawn r.intake_word r.intake_home xs)
            (ap (λ (xs : List (Sight' × SeatNumbers)). xs ++ (b.intake, b.standing) ∷ []) (sym (map-set (λ (u : V). (u.intake, u.standing)) vs id a)) ∙ sym (map-append (λ (u : V). (u.intake, u.standing)) (set vs id a) (b ∷ []))) intake;
        tied = r.tied;
      }

  pub join_allows : (id : ℕ) (v : V) (other : ℕ) (w : V) → v.standing.joins ≡ [] → w.standing.joins ≡ [] → w.store.holding ≡ false → w.intake.holding ≡ false → Joins Rule id v other w (joined_twin v w) spent_twin
  join_allows id v other w v_empty w_empty idle idle' s r at apart at_other' =
      let vs : List V = s.views in let x : V = joined_twin v w in let z : V = spent_twin {S = S} {A = A} {B = B} {T = T} {C = C} {D = D} in
      let at_other : get_elem? vs other ≡ some w = sym (set_else vs id other x apart) ∙ at_other' in
      let numbers = numbering.joining r.drawn (twin_standings vs) r.numbers id other v.standing w.standing apart (at_standing vs id v at) (at_standing vs other w at_other) v_empty w_empty in
      let store = recording.joins (knowing steps) begun r.store_history r.drawn r.store_word r.store_home (store_sights vs) r.store id other v.store w.store v.standing w.standing apart (at_store vs id v at) (at_store vs other w at_other) idle in
      let intake = recording.joins (knowing steps') begun' r.intake_history r.drawn r.intake_word r.intake_home (intake_sights vs) r.intake id other v.intake w.intake v.standing w.standing apart (at_intake vs id v at) (at_intake vs other w at_other) idle' in
      twin_ruled r.store_history r.intake_history (set vs id x) other z s.words s.homes r.store_word r.intake_word r.drawn r.store_home r.intake_home r.words r.homes
      (subst (λ (xs : List SeatNumbers). Numbered r.drawn (set xs other z.standing)) (sym (map-set (λ (u : V). u.standing) vs id x)) numbers)
      (subst (λ (xs : List (Sight × SeatNumbers)). Recorded (knowing steps) begun r.store_history r.drawn r.store_word r.store_home (set xs other (z.store, z.standing))) (sym (map-set (λ (u : V). (u.store, u.standing)) vs id x)) store)
      (subst (λ (xs : List (Sight' × SeatNumbers)). Recorded (knowing steps') begun' r.intake_history r.drawn r.intake_word r.intake_home (set xs other (z.intake, z.standing))) (sym (map-set (λ (u : V). (u.intake, u.standing)) vs id x)) intake)
      r.tied

  -- The rule at the start, and what it says at the end

  pub opens : (k : K) (l : K) → k ≡ in_store (Some begun) → l ≡ in_intake (Some begun') → Rule (opening (0 ∷ 0 ∷ 1 ∷ []) (k ∷ l ∷ []) (opened_twin begun begun'))
  opens k l room room' = record {
    store_history = [];
    intake_history = [];
    store_word = 0;
    intake_word = 0;
    drawn = 1;
    store_home = some (Some begun);
    intake_home = some (Some begun');
    words = refl;
    homes = λ i. some (room i) ∷ some (room' i) ∷ [];
    numbers = numbering.first_numbers;
    store = recording.first_record (knowing steps) begun;
    intake = recording.first_record (knowing steps') begun';
    tied = first_tied allows allows';
  }

  -- both halves are at home as the two histories leave them, and the pair is closed
  pub closed : (ws : List ℕ) (xs : List K) (id : ℕ) (v : V) → Final (SeenAt Rule id v) ws xs → v.standing.joins ≡ [] → v.store.holding ≡ false → v.intake.holding ≡ false
      → Contains v.standing.stands 0 → ((q : ℕ) → Contains v.standing.gave q → Contains v.standing.stands q)
      → (get_elem? xs 0 ≡ some (in_store (Some (end_of begun v.store.known)))) × (get_elem? xs 1 ≡ some (in_intake (Some (end_of begun' v.intake.known)))) × Tied allows allows' v.store.known v.intake.known
  closed ws xs id v fin empty idle idle' first given =
      let s : St = fin.0 in let r = fin.1.0 in let at = fin.1.1 in
      let at_number = at_standing s.views id v at in
      let all : (q : ℕ) → q < r.drawn → Contains v.standing.stands q = λ q less. numbering.all_numbers r.drawn (twin_standings s.views) r.numbers id v.standing at_number empty first given (suc q) q (omega arith) less in
      let mine = (r.numbers.each id v.standing at_number).mine in
      let alone : (seat : ℕ) (n : SeatNumbers) → seat ≢ id → get_elem? (twin_standings s.views) seat ≡ some n → ¬ (Contains n.stands n.number)
      = λ seat n ne f c. let o = (r.numbers.each seat n f).mine n.number (inl c) in ne (sym o.1 ∙ (mine n.number (inl (all n.number o.0))).1) in
      let store = recording.closes (knowing steps) begun r.store_history r.drawn r.store_word r.store_home (store_sights s.views) r.store id v.store v.standing (at_store s.views id v at) idle all
      (λ seat u ne f. alone seat u.1 ne (laning.standing_at (λ (y : V). y.store) (λ (y : V). y.standing) s.views seat u f)) in
      let intake = recording.closes (knowing steps') begun' r.intake_history r.drawn r.intake_word r.intake_home (intake_sights s.views) r.intake id v.intake v.standing (at_intake s.views id v at) idle' all
      (λ seat u ne f. alone seat u.1 ne (laning.standing_at (λ (y : V). y.intake) (λ (y : V). y.standing) s.views seat u f)) in (
        fin.4 0 (in_store (Some (end_of begun v.store.known))) (ap (λ (hs : List Home). get_elem? hs 0) r.homes ∙ ap (λ (x : maybe.Option (Option S)). some (lifted in_store x)) store.1),
        fin.4 1 (in_intake (Some (end_of begun' v.intake.known))) (ap (λ (hs : List Home). get_elem? hs 1) r.homes ∙ ap (λ (x : maybe.Option (Option T)). some (lifted in_intake x)) intake.1),
        subst (λ (z : H × G). Tied allows allows' z.0 z.1) (λ i. (sym store.0 i, sym intake.0 i)) r.tied,
      )
