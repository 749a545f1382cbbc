-- The laws of one who is seated: what its pass comes to know is a run of the machine.
use Rattle.std.proofs.Common.{◌≡◌, ℕ, ◌+◌, List, [], ◌∷◌, ◌++◌, refl, sym, ◌∙◌, ap, subst, append_assoc}
use Rattle.std.specs.Prelude.{Contains}
use Rattle.std.proofs.lemmas.List.{append-nil}
use Rattle.turn_rooms.specs.declared.room.RoomEntry.{RoomEntry}
use Rattle.turn_rooms.specs.declared.rooms.Pass.{Pass}
use Rattle.turn_rooms.specs.declared.rooms.Rooms.{Rooms}
use Rattle.turn_rooms.specs.declared.view.SeatNumbers.{SeatNumbers}
use Rattle.turn_rooms.specs.Histories.{LegalFrom, Legal, end_of}
use Rattle.turn_rooms.specs.Passes.{IsPassOf, opened, known, taken}
use Rattle.turn_rooms.specs.Passes.{Goes as RoomGoes}
use Rattle.turn_rooms.proofs.Lists.{prefix_self, prefix_trans}
use Rattle.act_model.specs.declared.acts.Act.{Act}
use Rattle.act_model.specs.History.{Entry, Runs, Goes}
use Rattle.act_model.specs.Machine.{Machine}
use Rattle.act_model.specs.Reply.{Reply}
use Rattle.archive_actors.specs.Steps.{RoomStep, kept, all_kept}
use Rattle.archive_actors.specs.Seats.{StandsFor, HasLearnt}

-- HISTORIES OF ROOMS

module _ {S B : Type 0} where
  end_append : (s : S) (xs ys : List (RoomEntry S Act B)) → end_of s (xs ++ ys) ≡ end_of (end_of s xs) ys
  end_append s [] ys = refl
  end_append s (x ∷ xs) ys = end_append x.after xs ys

  pub kept_append : (reply : B → Reply) (xs ys : List (RoomEntry S Act B)) → all_kept reply (xs ++ ys) ≡ all_kept reply xs ++ all_kept reply ys
  kept_append reply [] ys = refl
  kept_append reply (x ∷ xs) ys = ap (λ (es : List Entry). kept reply x.who x.act x.answer ∷ es) (kept_append reply xs ys)

module _ {S B : Type 0} (steps : S → ℕ → ℕ → Act → B → S → Type 0) where
  -- what comes behind a front of a legal history goes on legally from where the front ends
  legal_rest : (n : ℕ) (s : S) (xs ys : List (RoomEntry S Act B)) → LegalFrom steps n s (xs ++ ys) → (k : ℕ) × LegalFrom steps k (end_of s xs) ys
  legal_rest n s [] ys legal = (n, legal)
  legal_rest n s (x ∷ xs) ys legal = legal_rest (n + 1) x.after xs ys legal.1

module _ {S B : Type 0} (steps : S → ℕ → ℕ → Act → B → S → Type 0) (stands : S → Machine → Type 0) (reply : B → Reply)
    (stepped : (old new : S) (who n : ℕ) (act : Act) (answer : B) → steps old who n act answer new → RoomStep stands reply old who n act answer new) where
  -- a legal history is a run of the machine
  pub legal_runs : (n : ℕ) (s : S) (acts : List (RoomEntry S Act B)) (m : Machine) → LegalFrom steps n s acts → stands s m → Goes (stands (end_of s acts)) m (all_kept reply acts)
  legal_runs n s [] m legal here = record { after = m; runs = refl; stands_for = here }
  legal_runs n s (e ∷ es) m legal here =
      let made = stepped s e.after e.who n e.act e.answer legal.0 in
      let one = made.1 m here in
      let rest = legal_runs (n + 1) e.after es one.0 legal.1 one.2 in
      record { after = rest.after; runs = (made.0, one.0, one.1, rest.runs); stands_for = rest.stands_for }

  -- where one pass knows more than another, what the other stood for runs to what it stands for
  pub known_further : (rooms : Rooms S Act B) (earlier later : Pass S Act B) (acts : List (RoomEntry S Act B)) (m : Machine) → IsPassOf steps rooms later
      → known later ≡ known earlier ++ acts → StandsFor steps stands rooms earlier m → Goes (StandsFor steps stands rooms later) m (all_kept reply acts)
  known_further rooms earlier later acts m pass more here =
      let whole = subst (λ (h : List (RoomEntry S Act B)). Legal steps (opened rooms) h) more pass.belongs.legal in
      let behind = legal_rest steps 0 (opened rooms) (known earlier) acts whole in
      let goes = legal_runs behind.0 (end_of (opened rooms) (known earlier)) acts m behind.1 here.now in
      let ends : end_of (end_of (opened rooms) (known earlier)) acts ≡ end_of (opened rooms) (known later) = sym (end_append (opened rooms) (known earlier) acts) ∙ ap (λ (h : List (RoomEntry S Act B)). end_of (opened rooms) h) (sym more) in
      record {
        after = goes.after;
        runs = goes.runs;
        stands_for = record { is_pass = pass; begun = here.begun; now = subst (λ (s : S). stands s goes.after) ends goes.stands_for };
      }

  pub seat_legal : (rooms : Rooms S Act B) (old : Pass S Act B) (entries : List Entry) (later : Rooms S Act B) (new : Pass S Act B) (m : Machine)
      → HasLearnt steps reply rooms old entries later new → StandsFor steps stands rooms old m → Goes (StandsFor steps stands later new) m entries
  seat_legal rooms old entries later new m learnt here =
      let goes = known_further rooms old new learnt.acts m (learnt.goes here.is_pass).rooms learnt.goes_on here in
      record {
        after = goes.after;
        runs = subst (λ (es : List Entry). Runs m es goes.after) (sym learnt.are) goes.runs;
        stands_for = subst (λ (r : Rooms S Act B). StandsFor steps stands r new goes.after) (sym learnt.same_rooms) goes.stands_for;
      }

-- WHAT IS LEARNT

module _ {S B : Type 0} (steps : S → ℕ → ℕ → Act → B → S → Type 0) (rooms : Rooms S Act B) where
  goes_nowhere : (pass : Pass S Act B) → IsPassOf steps rooms pass → RoomGoes steps rooms pass pass
  goes_nowhere pass is = record {
    rooms = is;
    same_number = refl;
    same_standing = refl;
    goes_on = prefix_self (known pass);
    others = λ q c other. refl;
    more_taken = prefix_self (taken pass);
  }

  goes_both : (a b c : Pass S Act B) → RoomGoes steps rooms a b → RoomGoes steps rooms b c → RoomGoes steps rooms a c
  goes_both a b c p q = record {
    rooms = q.rooms;
    same_number = q.same_number ∙ p.same_number;
    same_standing = q.same_standing ∙ p.same_standing;
    goes_on = prefix_trans (known a) (known b) (known c) p.goes_on q.goes_on;
    others = λ k c other. q.others k (subst (λ (n : SeatNumbers). Contains n.stands k) (sym p.same_standing) c) (λ is. other (is ∙ p.same_number)) ∙ p.others k c other;
    more_taken = prefix_trans (taken a) (taken b) (taken c) p.more_taken q.more_taken;
  }

module _ {S B : Type 0} (steps : S → ℕ → ℕ → Act → B → S → Type 0) (reply : B → Reply) where
  pub seat_nothing : (rooms : Rooms S Act B) (pass : Pass S Act B) → HasLearnt steps reply rooms pass [] rooms pass
  seat_nothing rooms pass = record {
    same_rooms = refl;
    same_number = refl;
    acts = [];
    goes_on = sym (append-nil (known pass));
    are = refl;
    goes = goes_nowhere steps rooms pass;
  }

  pub seat_joined : (rooms : Rooms S Act B) (a : Pass S Act B) (xs : List Entry) (later : Rooms S Act B) (b : Pass S Act B) (ys : List Entry) (last : Rooms S Act B) (c : Pass S Act B)
      → HasLearnt steps reply rooms a xs later b → HasLearnt steps reply later b ys last c → HasLearnt steps reply rooms a (xs ++ ys) last c
  seat_joined rooms a xs later b ys last c p q = record {
    same_rooms = q.same_rooms ∙ p.same_rooms;
    same_number = q.same_number ∙ p.same_number;
    acts = p.acts ++ q.acts;
    goes_on = q.goes_on ∙ (ap (λ (h : List (RoomEntry S Act B)). h ++ q.acts) p.goes_on ∙ append_assoc (known a) p.acts q.acts);
    are = ap (λ (es : List Entry). es ++ ys) p.are ∙ (ap (λ (es : List Entry). all_kept reply p.acts ++ es) q.are ∙ sym (kept_append reply p.acts q.acts));
    goes = λ is.
        let first = p.goes is in
        let then_it = q.goes (subst (λ (r : Rooms S Act B). IsPassOf steps r b) (sym p.same_rooms) first.rooms) in
        goes_both steps rooms a b c first (subst (λ (r : Rooms S Act B). RoomGoes steps r b c) p.same_rooms then_it);
  }
