-- How passes of a twin are cut in two and joined, over passes.
use Rattle.std.proofs.Common.{◌≡◌, ◌≢◌, ℕ, ◌+◌, ◌<◌, ◌≤◌, ◌==◌, Bool, true, false, List, [], ◌∷◌, ◌++◌, length, append-nil, ◌⊎◌, inl, inr, ⊎_elim, refl, ap, sym, ◌∙◌, subst, arith, zero, suc, set, slice_index_or, Option, Some, IfSome, if◌then◌else◌}
use Rattle.std.specs.Prelude.{Contains}
use Rattle.std.proofs.lemmas.List.Elements.{Contains-append_left, Contains-append_right, Contains-append_cases}
use Rattle.std.proofs.lemmas.Bool.Decides.{nat_tests}
use mathlib.Core.List.{IsPrefix}
use Rattle.turn_rooms.specs.declared.room.RoomEntry.{RoomEntry}
use Rattle.turn_rooms.specs.declared.beside.ActBeside.{ActBeside}
use Rattle.turn_rooms.specs.declared.view.RoomSeen.{RoomSeen}
use Rattle.turn_rooms.specs.declared.view.SeatNumbers.{SeatNumbers}
use Rattle.turn_rooms.specs.declared.twin_view.TwinView.{TwinView}
use Rattle.turn_rooms.specs.declared.twins.Twin.{Twin}
use Rattle.turn_rooms.specs.declared.twins.TwinPass.{TwinPass}
use Rattle.turn_rooms.specs.Histories.{most_numbers, by, Legal}
use Rattle.turn_rooms.specs.Views.{view_of, counted, drew, learned, settled, both_seen, first_standing}
use Rattle.turn_rooms.specs.Numbers.{AreApart, StandsForMany}
use Rattle.turn_rooms.specs.Rules.{Told, Whole}
use Rattle.turn_rooms.specs.Ties.{knowing}
use Rattle.turn_rooms.specs.LaneTurns.{LaneRests, LaneSees}
use Rattle.turn_rooms.specs.TwinViews.{twin_view, with_store, with_standing, opened_twin, left_twin, right_twin, joined_twin}
use Rattle.turn_rooms.specs.TwinRules.{TwinSeated}
use Rattle.turn_rooms.specs.TwinPasses.{IsTwinPassOf, IsLastTwin, TwinOpens, TwinTakesBack, TwinStays, TwinParts, TwinMeets, store_opened, intake_opened, store_seen, intake_seen, store_known, intake_known, pass_standing}
use Rattle.turn_rooms.proofs.Lists.{no_element, has_first, cons_cases}

module _ {S A B : Type 0} (steps : S → ℕ → ℕ → A → B → S → Type 0) (b : S) where
  -- what was seen at a join and the load after it
  join_sees : (n m : SeatNumbers) (x y z : RoomSeen S A B) (h : List (RoomEntry S A B)) → LaneRests steps b x → z ≡ learned (both_seen x y) h → IsPrefix x.known h → IsPrefix y.known h
      → ((q : ℕ) → Contains n.stands q → by q h ≡ by q x.known) → ((q : ℕ) → Contains m.stands q → by q h ≡ by q y.known) → Legal steps b h → LaneSees n x z × LaneSees m y z × LaneRests steps b z
  join_sees n m x y z h is z_is left right mine theirs legal =
      let known_is : z.known ≡ h = ap (λ (s : RoomSeen S A B). s.known) z_is in (
        record { goes_on = subst (λ (k : List (RoomEntry S A B)). IsPrefix x.known k) (sym known_is) left; numbers = λ q c. ap (by q) known_is ∙ mine q c },
        record { goes_on = subst (λ (k : List (RoomEntry S A B)). IsPrefix y.known k) (sym known_is) right; numbers = λ q c. ap (by q) known_is ∙ theirs q c },
        record {
          began = record { begun = ap (λ (s : RoomSeen S A B). s.begun) z_is ∙ is.began.begun; legal = subst (λ (k : List (RoomEntry S A B)). Legal steps b k) (sym known_is) legal };
          idle = ap (λ (s : RoomSeen S A B). s.holding) z_is;
          reads = ap (λ (s : RoomSeen S A B). s.reads) z_is;
        },
      )

module _ {S T A B C D : Type 0} (steps : S → ℕ → ℕ → A → B → S → Type 0) (steps' : T → ℕ → ℕ → C → D → T → Type 0) (together : S → T → Type 0) (allows : List (RoomEntry T (ActBeside C) D) → A → Type 0) (allows' : List (RoomEntry S (ActBeside A) B) → C → Type 0) (r : Twin S T A B C D) where
  abbrev P : Type 0
  P = TwinPass S T A B C D

  abbrev V : Type 0
  V = TwinView S A B T C D

  abbrev M : Type 0
  M = TwinSeated steps steps' allows allows'

  abbrev Is : P → Type 0
  Is p = IsTwinPassOf steps steps' together r p

  pub stays_self : (p : P) → Is p → TwinStays steps steps' together r p p
  stays_self p is = record { rooms = is; same_number = refl; same_store = refl; same_intake = refl; same_stands = refl; same_gave = refl }

  pub stays_trans : (a b c : P) → TwinStays steps steps' together r a b → TwinStays steps steps' together r b c → TwinStays steps steps' together r a c
  stays_trans a b c x y = record {
    rooms = y.rooms;
    same_number = y.same_number ∙ x.same_number;
    same_store = y.same_store ∙ x.same_store;
    same_intake = y.same_intake ∙ x.same_intake;
    same_stands = y.same_stands ∙ x.same_stands;
    same_gave = y.same_gave ∙ x.same_gave;
  }

  pub stays_parts : (a b c note : P) → TwinStays steps steps' together r a b → (pass_standing b).drained ≡ (pass_standing a).drained → TwinParts steps steps' together r b c note → TwinParts steps steps' together r a c note
  stays_parts a b c note x same y = record {
    rooms = y.rooms;
    note_rooms = y.note_rooms;
    same_number = y.same_number ∙ x.same_number;
    same_store = y.same_store ∙ x.same_store;
    same_intake = y.same_intake ∙ x.same_intake;
    same_stands = y.same_stands ∙ x.same_stands;
    same_drained = y.same_drained ∙ same;
    gives = y.gives ∙ ap (λ (xs : List ℕ). note.number ∷ xs) x.same_gave;
    note_knows_store = y.note_knows_store ∙ ap (λ (s : RoomSeen S (ActBeside A) B). s.known) x.same_store;
    note_knows_intake = y.note_knows_intake ∙ ap (λ (s : RoomSeen T (ActBeside C) D). s.known) x.same_intake;
    note_store_acts = y.note_store_acts;
    note_intake_acts = y.note_intake_acts;
    note_store_taken = y.note_store_taken;
    note_intake_taken = y.note_intake_taken;
    note_stands = y.note_stands;
    note_gave = y.note_gave;
    note_drained = y.note_drained ∙ same;
    new_number = λ q c. y.new_number q (⊎_elim {C = Contains (pass_standing b).stands q ⊎ Contains (pass_standing b).gave q}
        (λ t. inl (subst (λ (xs : List ℕ). Contains xs q) (sym x.same_stands) t))
        (λ t. inr (subst (λ (xs : List ℕ). Contains xs q) (sym x.same_gave) t)) c);
    not_last = y.not_last;
  }

  -- a pass at rest whose seat saw the same, and stands for the same numbers
  pub rests_still : (old new : P) (n : SeatNumbers) → Is old → new.seat.me ≡ (with_standing old.seat.me.0 n, old.seat.me.1) → n.number ≡ (pass_standing old).number → n.stands ≡ (pass_standing old).stands → n.joins ≡ (pass_standing old).joins
      → new.seat.table_id ≡ old.seat.table_id → new.number ≡ old.number → Is new
  rests_still old new n is me_is same_number same_stands same_joins table number =
      let b = is.belongs in
      let view_is : new.seat.me.0 ≡ with_standing old.seat.me.0 n = ap (λ (m : M). m.0) me_is in
      let stand : pass_standing new ≡ n = ap (λ (x : V). x.standing) view_is in
      record {
        belongs = record {
          halves = b.halves;
          table = table ∙ b.table;
          number = ap (λ (z : SeatNumbers). z.number) stand ∙ (same_number ∙ (b.number ∙ sym number));
          live = subst (λ (x : List ℕ × ℕ). Contains x.0 x.1) (λ i. (sym (ap (λ (z : SeatNumbers). z.stands) stand ∙ same_stands) i, sym number i)) b.live;
          joins = ap (λ (z : SeatNumbers). z.joins) stand ∙ (same_joins ∙ b.joins);
        };
        hands = ap (λ (m : M). m.1) me_is ∙ is.hands;
        store = subst (λ (x : RoomSeen S (ActBeside A) B). LaneRests (knowing steps) (store_opened r) x) (sym (ap (λ (x : V). x.store) view_is)) is.store;
        intake = subst (λ (x : RoomSeen T (ActBeside C) D). LaneRests (knowing steps') (intake_opened r) x) (sym (ap (λ (x : V). x.intake) view_is)) is.intake;
      }

  pub counts_done : (old new : P) (word : ℕ) → Is old → new.seat.me ≡ (with_standing old.seat.me.0 (counted (pass_standing old) word), old.seat.me.1) → new.seat.table_id ≡ old.seat.table_id → new.number ≡ old.number
      → StandsForMany word (pass_standing old)
      → TwinStays steps steps' together r old new × (word ≡ most_numbers → (pass_standing new).drained ≡ (pass_standing old).drained + 1) × (word ≢ most_numbers → (pass_standing new).drained ≡ (pass_standing old).drained)
      × (IsLastTwin old → word ≤ length (pass_standing old).stands)
  counts_done old new word is me_is table number many =
      let view_is : new.seat.me.0 ≡ with_standing old.seat.me.0 (counted (pass_standing old) word) = ap (λ (m : M). m.0) me_is in
      let had : ℕ = (pass_standing old).drained in
      let rose : (pass_standing new).drained ≡ had + (if word == most_numbers then 1 else 0) = ap (λ (x : V). x.standing.drained) view_is in (
        record {
          rooms = rests_still old new (counted (pass_standing old) word) is me_is refl refl refl table number;
          same_number = number;
          same_store = ap (λ (x : V). x.store) view_is;
          same_intake = ap (λ (x : V). x.intake) view_is;
          same_stands = ap (λ (x : V). x.standing.stands) view_is;
          same_gave = ap (λ (x : V). x.standing.gave) view_is;
        },
        (λ all. let t : (word == most_numbers) ≡ true = grind (arith, nat_tests) in rose ∙ ap (λ (c : Bool). had + (if c then 1 else 0)) t),
        (λ some_left. let t : (word == most_numbers) ≡ false = grind (arith, nat_tests) in
            let e : (pass_standing new).drained ≡ had + 0 = rose ∙ ap (λ (c : Bool). had + (if c then 1 else 0)) t in omega arith),
        (λ last. let mine : List ℕ = (pass_standing old).stands in
            let alone : mine ++ (pass_standing old).joins ≡ mine = ap (λ (xs : List ℕ). mine ++ xs) is.belongs.joins ∙ append-nil mine in
            subst (λ (xs : List ℕ). word ≤ length xs) alone
            (many (subst (λ (xs : List ℕ). Contains xs 0) (sym alone) last.first) (λ q c. subst (λ (xs : List ℕ). Contains xs q) (sym alone) (last.given q c)))),
      )

  pub last_stays : (a b : P) → IsLastTwin a → TwinStays steps steps' together r a b → IsLastTwin b
  last_stays a b last stays = record {
    first = subst (λ (xs : List ℕ). Contains xs 0) (sym stays.same_stands) last.first;
    given = λ q c. subst (λ (xs : List ℕ). Contains xs q) (sym stays.same_stands) (last.given q (subst (λ (xs : List ℕ). Contains xs q) stays.same_gave c));
  }

  pub parts_done : (old new note : P) (mid : M) (p : ℕ) → Is old → mid ≡ (with_standing old.seat.me.0 (drew (pass_standing old) p), old.seat.me.1) → ((q : ℕ) → Contains (pass_standing old).stands q → q < p)
      → ((q : ℕ) → Contains (pass_standing old).gave q → q < p) → by p (store_known old) ≡ [] → by p (intake_known old) ≡ [] → p < most_numbers → new.seat.me ≡ (left_twin mid.0, mid.1) → note.seat.me ≡ (right_twin mid.0, [])
      → new.seat.table_id ≡ old.seat.table_id → note.seat.table_id ≡ old.seat.table_id → new.number ≡ old.number → note.number ≡ p → TwinParts steps steps' together r old new note
  parts_done old new note mid p is mid_is stands_less gave_less none none' few new_is note_is table note_table number note_number =
      let v : V = with_standing old.seat.me.0 (drew (pass_standing old) p) in let b = is.belongs in
      let new_me : new.seat.me ≡ (left_twin v, old.seat.me.1) = new_is ∙ ap (λ (m : M). (left_twin m.0, m.1)) mid_is in
      let note_me : note.seat.me ≡ (right_twin v, []) = note_is ∙ ap (λ (m : M). (right_twin m.0, [])) mid_is in
      let new_view : new.seat.me.0 ≡ left_twin v = ap (λ (m : M). m.0) new_me in
      let note_view : note.seat.me.0 ≡ right_twin v = ap (λ (m : M). m.0) note_me in
      let note_store : store_known note ≡ store_known old = ap (λ (x : V). x.store.known) note_view in
      let note_intake : intake_known note ≡ intake_known old = ap (λ (x : V). x.intake.known) note_view in
      let note_stand : (pass_standing note).stands ≡ p ∷ [] = ap (λ (x : V). x.standing.stands) note_view in
      record {
        rooms = rests_still old new (left_twin v).standing is new_me refl refl refl table number;
        note_rooms = record {
          belongs = record {
            halves = b.halves;
            table = note_table ∙ b.table;
            number = ap (λ (x : V). x.standing.number) note_view ∙ sym note_number;
            live = subst (λ (x : List ℕ × ℕ). Contains x.0 x.1) (λ i. (sym note_stand i, sym note_number i)) (has_first p []);
            joins = ap (λ (x : V). x.standing.joins) note_view;
          };
          hands = ap (λ (m : M). m.1) note_me;
          store = record {
            began = record { begun = ap (λ (x : V). x.store.begun) note_view ∙ is.store.began.begun; legal = subst (λ (x : List (RoomEntry S (ActBeside A) B)). Legal (knowing steps) (store_opened r) x) (sym note_store) is.store.began.legal };
            idle = ap (λ (x : V). x.store.holding) note_view;
            reads = ap (λ (x : V). x.store.reads) note_view;
          };
          intake = record {
            began = record { begun = ap (λ (x : V). x.intake.begun) note_view ∙ is.intake.began.begun; legal = subst (λ (x : List (RoomEntry T (ActBeside C) D)). Legal (knowing steps') (intake_opened r) x) (sym note_intake) is.intake.began.legal };
            idle = ap (λ (x : V). x.intake.holding) note_view;
            reads = ap (λ (x : V). x.intake.reads) note_view;
          };
        };
        same_number = number;
        same_store = ap (λ (x : V). x.store) new_view;
        same_intake = ap (λ (x : V). x.intake) new_view;
        same_stands = ap (λ (x : V). x.standing.stands) new_view;
        same_drained = ap (λ (x : V). x.standing.drained) new_view;
        gives = ap (λ (x : V). x.standing.gave) new_view ∙ ap (λ (z : ℕ). z ∷ (pass_standing old).gave) (sym note_number);
        note_knows_store = note_store;
        note_knows_intake = note_intake;
        note_store_acts = (λ i. by (note_number i) (note_store i)) ∙ none;
        note_intake_acts = (λ i. by (note_number i) (note_intake i)) ∙ none';
        note_store_taken = ap (λ (x : V). x.store.taken) note_view;
        note_intake_taken = ap (λ (x : V). x.intake.taken) note_view;
        note_stands = note_stand ∙ ap (λ (z : ℕ). z ∷ []) (sym note_number);
        note_gave = ap (λ (x : V). x.standing.gave) note_view;
        note_drained = ap (λ (x : V). x.standing.drained) note_view;
        new_number = λ q c. subst (λ (z : ℕ). q < z) (sym note_number) (⊎_elim {C = q < p} (stands_less q) (gave_less q) c);
        not_last = subst (λ (z : ℕ). z < most_numbers) (sym note_number) few;
      }

  -- after the join, the load of the store's word, and that of the intake's
  pub meets_done : (old new note : P) (join load : M) (h : List (RoomEntry S (ActBeside A) B)) (g : List (RoomEntry T (ActBeside C) D)) → Is old → Is note → join ≡ (joined_twin old.seat.me.0 note.seat.me.0, old.seat.me.1)
      → Told (knowing steps) (view_of join.0.store join.0.standing) h → Whole (knowing steps) join.0.standing h → load ≡ (with_store join.0 (learned join.0.store h), join.1)
      → Told (knowing steps') (view_of load.0.intake load.0.standing) g → AreApart load.0.standing → Whole (knowing steps') load.0.standing g → new.seat.me ≡ (twin_view load.0.store (learned load.0.intake g) (settled load.0.standing), load.1)
      → (0 < load.0.standing.drained → StandsForMany most_numbers load.0.standing) → new.seat.table_id ≡ old.seat.table_id → new.number ≡ old.number → TwinMeets steps steps' together r old new note
  meets_done old new note join load h g is note_is join_is told_join whole_join load_is told_load apart_load whole_load new_is many_load table number =
      let v : V = joined_twin old.seat.me.0 note.seat.me.0 in let n : SeatNumbers = v.standing in let b = is.belongs in
      let told : Told (knowing steps) (view_of v.store n) h = subst (λ (m : M). Told (knowing steps) (view_of m.0.store m.0.standing) h) join_is told_join in
      let whole : Whole (knowing steps) n h = subst (λ (m : M). Whole (knowing steps) m.0.standing h) join_is whole_join in
      let load_is' : load ≡ (with_store v (learned v.store h), old.seat.me.1) = load_is ∙ ap (λ (m : M). (with_store m.0 (learned m.0.store h), m.1)) join_is in
      let told' : Told (knowing steps') (view_of v.intake n) g = subst (λ (m : M). Told (knowing steps') (view_of m.0.intake m.0.standing) g) load_is' told_load in
      let apart : AreApart n = subst (λ (m : M). AreApart m.0.standing) load_is' apart_load in
      let whole' : Whole (knowing steps') n g = subst (λ (m : M). Whole (knowing steps') m.0.standing g) load_is' whole_load in
      let me_is : new.seat.me ≡ (twin_view (learned v.store h) (learned v.intake g) (settled n), old.seat.me.1) = new_is ∙ ap (λ (m : M). (twin_view m.0.store (learned m.0.intake g) (settled m.0.standing), m.1)) load_is' in
      let many : 0 < n.drained → StandsForMany most_numbers n = subst (λ (m : M). 0 < m.0.standing.drained → StandsForMany most_numbers m.0.standing) load_is' many_load in
      let view_is = ap (λ (m : M). m.0) me_is in
      let stand : (pass_standing new).stands ≡ (pass_standing old).stands ++ (pass_standing note).stands = ap (λ (x : V). x.standing.stands) view_is in
      let legal : Legal (knowing steps) (store_opened r) h = subst (λ (x : Option S). IfSome x (λ s. Legal (knowing steps) s h)) is.store.began.begun told.legal in
      let legal' : Legal (knowing steps') (intake_opened r) g = subst (λ (x : Option T). IfSome x (λ s. Legal (knowing steps') s g)) is.intake.began.begun told'.legal in
      let store = join_sees (knowing steps) (store_opened r) (pass_standing old) (pass_standing note) (store_seen old) (store_seen note) (store_seen new) h is.store (ap (λ (x : V). x.store) view_is) told.known told.also told.stands told.joins legal in
      let intake = join_sees (knowing steps') (intake_opened r) (pass_standing old) (pass_standing note) (intake_seen old) (intake_seen note) (intake_seen new) g is.intake (ap (λ (x : V). x.intake) view_is) told'.known told'.also told'.stands told'.joins legal' in
      record {
        rooms = record {
          belongs = record {
            halves = b.halves;
            table = table ∙ b.table;
            number = ap (λ (x : V). x.standing.number) view_is ∙ (b.number ∙ sym number);
            live = subst (λ (x : List ℕ × ℕ). Contains x.0 x.1) (λ i. (sym stand i, sym number i)) (Contains-append_left (pass_standing old).stands (pass_standing note).stands old.number b.live);
            joins = ap (λ (x : V). x.standing.joins) view_is;
          };
          hands = ap (λ (m : M). m.1) me_is ∙ is.hands;
          store = store.2;
          intake = intake.2;
        };
        same_number = number;
        stands_for = stand;
        apart = apart;
        gave_all = ap (λ (x : V). x.standing.gave) view_is;
        drained = ap (λ (x : V). x.standing.drained) view_is;
        same_store_taken = ap (λ (x : V). x.store.taken) view_is;
        same_intake_taken = ap (λ (x : V). x.intake.taken) view_is;
        store = store.0;
        intake = intake.0;
        note_store = store.1;
        note_intake = intake.1;
        whole = λ last q no.
            let first = subst (λ (xs : List ℕ). Contains xs 0) stand last.first in
            let given : (k : ℕ) → Contains n.gave k → Contains (n.stands ++ n.joins) k = λ k c. subst (λ (xs : List ℕ). Contains xs k) stand (last.given k (subst (λ (xs : List ℕ). Contains xs k) (sym (ap (λ (x : V). x.standing.gave) view_is)) c)) in
            let out : ¬ (Contains (n.stands ++ n.joins) q) = λ c. no (subst (λ (xs : List ℕ). Contains xs q) (sym stand) c) in
            (ap (λ (x : V). by q x.store.known) view_is ∙ whole first given q out, ap (λ (x : V). by q x.intake.known) view_is ∙ whole' first given q out);
        all_drawn = λ last some. subst (λ (xs : List ℕ). most_numbers ≤ length xs) (sym stand)
            (many (subst (λ (k : ℕ). 0 < k) (ap (λ (x : V). x.standing.drained) view_is) some) (subst (λ (xs : List ℕ). Contains xs 0) stand last.first)
            (λ k c. subst (λ (xs : List ℕ). Contains xs k) stand (last.given k (subst (λ (xs : List ℕ). Contains xs k) (sym (ap (λ (x : V). x.standing.gave) view_is)) c))));
      }

  -- the first pass
  pub opens_done : (p : P) (key : S × T) (store : S) (intake : T) → p.number ≡ 0 → p.seat.me ≡ (opened_twin key.0 key.1, []) → r.table.shared.key.value ≡ key → key ≡ (store, intake) → together store intake → p.seat.table_id ≡ r.table.shared.table_id
      → TwinOpens steps steps' together r store intake p
  opens_done p key store intake number me_is is_key is_both halves table =
      let view_is : p.seat.me.0 ≡ opened_twin key.0 key.1 = ap (λ (m : M). m.0) me_is in
      let stand : pass_standing p ≡ first_standing = ap (λ (x : V). x.standing) view_is in
      let both : r.table.shared.key.value ≡ (store, intake) = is_key ∙ is_both in
      let no_store : store_known p ≡ [] = ap (λ (x : V). x.store.known) view_is in
      let no_intake : intake_known p ≡ [] = ap (λ (x : V). x.intake.known) view_is in
      record {
        rooms = record {
          belongs = record {
            halves = subst (λ (x : S × T). together x.0 x.1) (sym both) halves;
            table = table;
            number = ap (λ (n : SeatNumbers). n.number) stand ∙ sym number;
            live = subst (λ (x : List ℕ × ℕ). Contains x.0 x.1) (λ i. (sym (ap (λ (n : SeatNumbers). n.stands) stand) i, sym number i)) (has_first 0 []);
            joins = ap (λ (n : SeatNumbers). n.joins) stand;
          };
          hands = ap (λ (m : M). m.1) me_is;
          store = record {
            began = record { begun = ap (λ (x : V). x.store.begun) view_is ∙ ap (λ (x : S × T). Some x.0) (sym is_key); legal = subst (λ (h : List (RoomEntry S (ActBeside A) B)). Legal (knowing steps) (store_opened r) h) (sym no_store) tt };
            idle = ap (λ (x : V). x.store.holding) view_is;
            reads = ap (λ (x : V). x.store.reads) view_is;
          };
          intake = record {
            began = record { begun = ap (λ (x : V). x.intake.begun) view_is ∙ ap (λ (x : S × T). Some x.1) (sym is_key); legal = subst (λ (g : List (RoomEntry T (ActBeside C) D)). Legal (knowing steps') (intake_opened r) g) (sym no_intake) tt };
            idle = ap (λ (x : V). x.intake.holding) view_is;
            reads = ap (λ (x : V). x.intake.reads) view_is;
          };
        };
        opens_store = ap (λ (x : S × T). x.0) both;
        opens_intake = ap (λ (x : S × T). x.1) both;
        number = number;
        standing = stand;
        knows_store = no_store;
        knows_intake = no_intake;
        taken_store = ap (λ (x : V). x.store.taken) view_is;
        taken_intake = ap (λ (x : V). x.intake.taken) view_is;
      }

  -- a pass that was made from another, and met it again after both took back what they gave out
  pub meets_back : (a b c d note note' : P) → TwinParts steps steps' together r a b note → TwinTakesBack b c → TwinTakesBack note note' → TwinMeets steps steps' together r c d note' → TwinTakesBack a d
  meets_back a b c d note note' made mine theirs met = record {
    still = λ q s. old_stands q (subst (λ (xs : List ℕ). Contains xs q) (sym made.same_stands) s);
    given = λ q s. ⊎_elim {C = Contains (pass_standing a).gave q ⊎ Contains (pass_standing d).stands q}
        (λ t. ⊎_elim {C = Contains (pass_standing a).gave q ⊎ Contains (pass_standing d).stands q}
        (λ u. ⊎_elim {C = Contains (pass_standing a).gave q ⊎ Contains (pass_standing d).stands q}
        (λ e. inr (note_stands q (theirs.still q (subst (λ (xs : List ℕ). Contains xs q) (sym made.note_stands) (subst (λ (z : ℕ). Contains (note.number ∷ []) z) e (has_first note.number []))))))
        inl
        (cons_cases note.number (pass_standing a).gave q (subst (λ (xs : List ℕ). Contains xs q) made.gives u)))
        (λ u. inr (all_stands q (inl u))) (mine.given q t))
        (λ t. ⊎_elim {C = Contains (pass_standing a).gave q ⊎ Contains (pass_standing d).stands q}
        (λ u. absurd (no_element q (subst (λ (xs : List ℕ). Contains xs q) made.note_gave u)))
        (λ u. inr (note_stands q u)) (theirs.given q t))
        (Contains-append_cases (pass_standing c).gave (pass_standing note').gave q (subst (λ (xs : List ℕ). Contains xs q) met.gave_all s));
  }
    where
      all_stands : (q : ℕ) → Contains (pass_standing c).stands q ⊎ Contains (pass_standing note').stands q → Contains (pass_standing d).stands q
      all_stands q t = subst (λ (xs : List ℕ). Contains xs q) (sym met.stands_for)
          (⊎_elim {C = Contains ((pass_standing c).stands ++ (pass_standing note').stands) q} (Contains-append_left (pass_standing c).stands (pass_standing note').stands q) (Contains-append_right (pass_standing c).stands (pass_standing note').stands q) t)

      old_stands : (q : ℕ) → Contains (pass_standing b).stands q → Contains (pass_standing d).stands q
      old_stands q s = all_stands q (inl (mine.still q s))

      note_stands : (q : ℕ) → Contains (pass_standing note').stands q → Contains (pass_standing d).stands q
      note_stands q s = all_stands q (inr s)

  -- the first pass is the last where it took back all that it gave out
  pub last_back : (store : S) (intake : T) (first last : P) → TwinOpens steps steps' together r store intake first → TwinTakesBack first last → IsLastTwin last
  last_back store intake first last opens back = record {
    first = back.still 0 (subst (λ (n : SeatNumbers). Contains n.stands 0) (sym opens.standing) (has_first 0 []));
    given = λ q c. ⊎_elim {C = Contains (pass_standing last).stands q} (λ t. absurd (no_element q (subst (λ (n : SeatNumbers). Contains n.gave q) opens.standing t))) (λ t. t) (back.given q c);
  }

-- a pass that stands for what it stood for, as after turns
pub same_back : {S T A B C D : Type 0} (old new : TwinPass S T A B C D) → pass_standing new ≡ pass_standing old → TwinTakesBack old new
same_back old new same = record {
  still = λ q c. subst (λ (n : SeatNumbers). Contains n.stands q) (sym same) c;
  given = λ q c. inl (subst (λ (n : SeatNumbers). Contains n.gave q) same c);
}

-- both slots were emptied
pub two_gone : (bs : List Bool) (k : ℕ) → k < 2 → slice_index_or (set (set bs 0 false) 1 false) k false ≡ false
two_gone [] k l = refl
two_gone (x ∷ []) zero l = refl
two_gone (x ∷ []) (suc k) l = refl
two_gone (x ∷ y ∷ ys) zero l = refl
two_gone (x ∷ y ∷ ys) (suc zero) l = refl
two_gone (x ∷ y ∷ ys) (suc (suc k)) l = absurd (omega arith)
