-- What a pass of a twin knows of another that ended in it, and which word the last load read where a turn on a half is spent.
use Rattle.std.proofs.Common.{◌≡◌, ℕ, List, ◌++◌, ap, sym, ◌∙◌, subst, arith}
use Rattle.std.specs.Prelude.{Contains}
use Rattle.std.proofs.lemmas.List.Elements.{Contains-append_left, Contains-append_right}
use mathlib.Core.Logic.{◌↔◌}
use Rattle.turn_rooms.specs.declared.beside.ActBeside.{ActBeside}
use Rattle.turn_rooms.specs.declared.rooms.Tried.{Tried}
use Rattle.turn_rooms.specs.declared.rooms.Tried.TheVariants as tried
use Rattle.turn_rooms.specs.declared.rooms.Turned.{Turned}
use Rattle.turn_rooms.specs.declared.rooms.Turned.TheVariants as turned
use Rattle.turn_rooms.specs.declared.twins.Twin.{Twin}
use Rattle.turn_rooms.specs.declared.twins.TwinPass.{TwinPass}
use Rattle.turn_rooms.specs.declared.view.RoomSeen.{RoomSeen}
use Rattle.turn_rooms.specs.declared.view.SeatNumbers.{SeatNumbers}
use Rattle.turn_rooms.specs.Histories.{by}
use Rattle.turn_rooms.specs.LaneTurns.{LaneTries, LaneTurns}
use Rattle.turn_rooms.specs.Passes.{IsSpentTry, IsSpentTurn}
use Rattle.turn_rooms.specs.TwinPasses.{IsTwinPassOf, StoreGoes, IntakeGoes, TwinParts, TwinMeets, TwinKnowsAllOf, pass_standing}
use Rattle.turn_rooms.specs.Views.{full_word}

module _ {S T A B C D : Type 0} (steps : S → ℕ → ℕ → A → B → S → Type 0) (steps' : T → ℕ → ℕ → C → D → T → Type 0) (together : S → T → Type 0) (r : Twin S T A B C D) where
  abbrev P : Type 0
  P = TwinPass S T A B C D

  abbrev stands : P → List ℕ
  stands p = (pass_standing p).stands

  has : (q : ℕ) (xs ys : List ℕ) → xs ≡ ys → Contains ys q → Contains xs q
  has q xs ys same c = subst (λ (zs : List ℕ). Contains zs q) (sym same) c

  pub ended_meets : (old new ended : P) → IsTwinPassOf steps steps' together r old → TwinMeets steps steps' together r old new ended → TwinKnowsAllOf ended new
  ended_meets old new ended is met = record {
    stands_for = λ q c. has q (stands new) (stands old ++ stands ended) met.stands_for (Contains-append_right (stands old) (stands ended) q c);
    apart = λ q c same. met.apart q (subst (λ (z : ℕ). Contains (stands old) z) (sym (same ∙ met.same_number)) is.belongs.live) c;
    store_acts = met.note_store.numbers;
    intake_acts = met.note_intake.numbers;
  }

  pub ended_through : (old new ended other : P) → TwinKnowsAllOf ended old → TwinMeets steps steps' together r other new old → IsTwinPassOf steps steps' together r other → TwinKnowsAllOf ended new
  ended_through old new ended other knows met is =
      let all = ended_meets other new old is met in record {
        stands_for = λ q c. all.stands_for q (knows.stands_for q c);
        apart = λ q c. all.apart q (knows.stands_for q c);
        store_acts = λ q c. all.store_acts q (knows.stands_for q c) ∙ knows.store_acts q c;
        intake_acts = λ q c. all.intake_acts q (knows.stands_for q c) ∙ knows.intake_acts q c;
      }

  pub ended_still : (old new ended note : P) → TwinKnowsAllOf ended old → TwinMeets steps steps' together r old new note → TwinKnowsAllOf ended new
  ended_still old new ended note knows met = record {
    stands_for = λ q c. has q (stands new) (stands old ++ stands note) met.stands_for (Contains-append_left (stands old) (stands note) q (knows.stands_for q c));
    apart = λ q c same. knows.apart q c (same ∙ met.same_number);
    store_acts = λ q c. met.store.numbers q (knows.stands_for q c) ∙ knows.store_acts q c;
    intake_acts = λ q c. met.intake.numbers q (knows.stands_for q c) ∙ knows.intake_acts q c;
  }

  pub ended_store : (old new ended : P) → TwinKnowsAllOf ended old → StoreGoes steps steps' together r old new → TwinKnowsAllOf ended new
  ended_store old new ended knows goes = record {
    stands_for = λ q c. has q (stands new) (stands old) (ap (λ (n : SeatNumbers). n.stands) goes.same_standing) (knows.stands_for q c);
    apart = λ q c same. knows.apart q c (same ∙ goes.same_number);
    store_acts = λ q c. goes.goes.others q (knows.stands_for q c) (knows.apart q c) ∙ knows.store_acts q c;
    intake_acts = λ q c. ap (λ (x : RoomSeen T (ActBeside C) D). by q x.known) goes.same_intake ∙ knows.intake_acts q c;
  }

  pub ended_intake : (old new ended : P) → TwinKnowsAllOf ended old → IntakeGoes steps steps' together r old new → TwinKnowsAllOf ended new
  ended_intake old new ended knows goes = record {
    stands_for = λ q c. has q (stands new) (stands old) (ap (λ (n : SeatNumbers). n.stands) goes.same_standing) (knows.stands_for q c);
    apart = λ q c same. knows.apart q c (same ∙ goes.same_number);
    store_acts = λ q c. ap (λ (x : RoomSeen S (ActBeside A) B). by q x.known) goes.same_store ∙ knows.store_acts q c;
    intake_acts = λ q c. goes.goes.others q (knows.stands_for q c) (knows.apart q c) ∙ knows.intake_acts q c;
  }

  pub ended_parts : (old new ended note : P) → TwinKnowsAllOf ended old → TwinParts steps steps' together r old new note → TwinKnowsAllOf ended new
  ended_parts old new ended note knows made = record {
    stands_for = λ q c. has q (stands new) (stands old) made.same_stands (knows.stands_for q c);
    apart = λ q c same. knows.apart q c (same ∙ made.same_number);
    store_acts = λ q c. ap (λ (x : RoomSeen S (ActBeside A) B). by q x.known) made.same_store ∙ knows.store_acts q c;
    intake_acts = λ q c. ap (λ (x : RoomSeen T (ActBeside C) D). by q x.known) made.same_intake ∙ knows.intake_acts q c;
  }

module _ {S A B : Type 0} where
  pub spent_try : (number other loaded : ℕ) (x y : RoomSeen S (ActBeside A) B) (act : A) (answer : Tried S A B) → LaneTries number other x y act loaded answer → IsSpentTry answer ↔ (loaded ≡ full_word)
  spent_try number other loaded x y act (tried.Done answer) t = let few = t.1.few in ((λ e. absurd e), (λ e. absurd (omega arith)))
  spent_try number other loaded x y act (tried.Spent back) t = ((λ _. t.2.is_full), (λ _. tt))
  spent_try number other loaded x y act (tried.Busy word back) t = let few = t.1.few in ((λ e. absurd e), (λ e. absurd (omega arith)))

  pub spent_turn : (number other loaded : ℕ) (x y : RoomSeen S (ActBeside A) B) (act : A) (answer : Turned S A B) → LaneTurns number other x y act loaded answer → IsSpentTurn answer ↔ (loaded ≡ full_word)
  spent_turn number other loaded x y act (turned.Done answer) t = let few = t.few in ((λ e. absurd e), (λ e. absurd (omega arith)))
  spent_turn number other loaded x y act (turned.Spent back) t = ((λ _. t.1.is_full), (λ _. tt))
