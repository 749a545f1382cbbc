-- Pins keep the machine sound.
use Rattle.std.proofs.Common.{◌≡◌, ◌≢◌, ℕ, ◌<◌, List, [], length, Some, Bool, true, false, refl, ap, sym, ◌∙◌, arith, append-nil, subst, inl, inr}
use Rattle.std.specs.Prelude.{◌⊎◌, ◌==◌, slice_get}
use Rattle.std.proofs.lemmas.Bool.Decides.{nat_tests}
use Rattle.std.proofs.lemmas.Option.{slice_get_within}
use Rattle.std.specs.List.{AllByRecursion}
use Rattle.std.specs.Ordering.{nat_cmp}
use Rattle.std.specs.FinMap.{FinMap, get, insert, remove, gets}
use Rattle.series_model.specs.declared.sample.Query.{Query}
use Rattle.series_model.specs.Archive.{IsPrefix}
use Rattle.act_model.specs.Reply.{Reply}
use Rattle.act_model.specs.Rows.{RowState, tier, tier, window, is_empty}
use Rattle.act_model.specs.Rule.{Rule}
use Rattle.act_model.specs.Limbo.{RowFile, tier_at}
use Rattle.act_model.specs.Machine.{Machine, PinState}
use Rattle.act_model.specs.Pin.{IsListedPiece, IsPieceOf, MakesPin, pins}
use Rattle.act_model.specs.OpenPiece.{Opens, refused_open, no_piece, opens, faults_opening, wants_memory_opening}
use Rattle.act_model.specs.Unpin.{Unpins, refused_unpin, unpins}
use Rattle.act_model.specs.Sound.{IsUnlisted, PieceSound, PinsSound, IsSound}
use Rattle.act_model.proofs.Rows.{of_all, of_place}
use Rattle.act_model.proofs.StepLaws.{same_sound}

-- ONE PIN IN THE MAP

pub pin_inserted : (all : FinMap nat_cmp PinState) (n k : ℕ) (pin other : PinState) → get (insert all n pin) k ≡ Some other → ((k ≡ n) × (other ≡ pin)) ⊎ ((k ≢ n) × (get all k ≡ Some other))
pin_inserted all n k pin other here = by_test (k == n) refl
  where
    by_test : (b : Bool) → (k == n) ≡ b → ((k ≡ n) × (other ≡ pin)) ⊎ ((k ≢ n) × (get all k ≡ Some other))
    by_test true is = let same : k ≡ n = grind (arith, nat_tests) in inl (same, grind (arith, gets, nat_tests))
    by_test false is = inr (grind (arith, nat_tests), grind (arith, gets, nat_tests))

pub pin_removed : (all : FinMap nat_cmp PinState) (n k : ℕ) (other : PinState) → get (remove all n) k ≡ Some other → (k ≢ n) × (get all k ≡ Some other)
pin_removed all n k other here = by_test (k == n) refl
  where
    by_test : (b : Bool) → (k == n) ≡ b → (k ≢ n) × (get all k ≡ Some other)
    by_test true is = absurd (grind (arith, gets, nat_tests))
    by_test false is = (grind (arith, nat_tests), grind (arith, gets, nat_tests))

-- PIN

-- no file of limbo is of a listed partition, so each begins with a listed piece
pub listed_sound : (rule : Rule) (rows : List RowState) (limbo : List RowFile) (i : ℕ) (row : RowState) → slice_get rows i ≡ Some row → AllByRecursion (IsUnlisted rows) limbo → (piece : RowFile) → IsListedPiece rule i row piece → PieceSound rule rows limbo piece
listed_sound rule rows limbo i row here all piece l =
    record {
      here = (let low : i < length rows = slice_get_within rows i row here in let own : piece.row ≡ i = l.own in omega arith);
      partition = l.partition;
      extend = of_place (IsUnlisted rows) (λ f. f.part ≡ piece.part → IsPrefix piece.samples f.samples) piece.row piece.store limbo (λ f a b bare same. absurd (listed f a b bare same)) all;
      backed = λ other there. let same : row ≡ other = by_some (sym here ∙ (ap (λ n. slice_get rows n) (sym l.own) ∙ there)) in inl (subst (λ r. IsPrefix piece.samples (window piece.part (tier r piece.store))) same ([], sym (append-nil piece.samples ∙ l.samples)));
    }
  where
    by_some : {a b : RowState} → Some a ≡ Some b → a ≡ b
    by_some is = cc

    listed : (f : RowFile) → f.row ≡ piece.row → f.store ≡ piece.store → IsUnlisted rows f → f.part ≡ piece.part → ⊥
    listed f a b bare same =
        let there : tier_at rows f.row f.store ≡ tier row piece.store = ap (λ n. tier_at rows n f.store) (a ∙ l.own) ∙ (rw here (ap (λ w. tier row w) b)) in
        let files : window f.part (tier_at rows f.row f.store) ≡ piece.samples = ap (λ w. window w (tier_at rows f.row f.store)) same ∙ (ap (λ w. window piece.part w) there ∙ sym l.samples) in
        let none : is_empty piece.samples ≡ true = ap is_empty (sym files) ∙ bare in
        let some : is_empty piece.samples ≡ false = l.some in
        cc

pub other_pins : (m : Machine) (others : FinMap nat_cmp PinState) → IsSound m → (m.told ≡ true → PinsSound m.rule m.rows m.limbo others) → IsSound (record m { pins = others })
other_pins m others s sound = record { few = s.few; keys = s.keys; each_row = s.each_row; bases = s.bases; lines = s.lines; intake = s.intake; doubted = s.doubted; each_move = s.each_move; one_move = s.one_move; each_file = s.each_file; each_unlisted = s.each_unlisted; places = s.places; pinned = sound }

pub pins_sound : {who : ℕ} {name : List ℕ} {query : Query} {mid new : Machine} {reply : Reply} → IsSound mid → MakesPin who name query mid reply new → IsSound new
pins_sound {who} {mid = mid} {new = new} s (pins i row pin pieces found here free least listed order gives few same) =
    same_sound (record mid { pins = insert mid.pins pin (record { owner = who; pieces = pieces }) }) new same (other_pins mid (insert mid.pins pin (record { owner = who; pieces = pieces })) s
    (λ t n other there. by_case t n other (pin_inserted mid.pins pin n (record { owner = who; pieces = pieces }) other there)))
  where
    by_case : mid.told ≡ true → (n : ℕ) (other : PinState) → ((n ≡ pin) × (other ≡ record { owner = who; pieces = pieces })) ⊎ ((n ≢ pin) × (get mid.pins n ≡ Some other)) → AllByRecursion (PieceSound mid.rule mid.rows mid.limbo) other.pieces
    by_case t n other (inl is) = rw is.1 (of_all (IsPieceOf mid.rule mid.rows i row) (PieceSound mid.rule mid.rows mid.limbo) pieces (λ piece p. listed_sound mid.rule mid.rows mid.limbo piece.row p.own p.here s.each_unlisted piece p.listed) (listed t))
    by_case t n other (inr is) = s.pinned t n other is.1

-- OPEN AND UNPIN

pub opens_sound : {who pin i : ℕ} {old new : Machine} {reply : Reply} → IsSound old → Opens who pin i old reply new → IsSound new
opens_sound s (refused_open reply p) = s
opens_sound s (no_piece p a b c) = s
opens_sound {old = old} {new = new} s (opens p piece reader name head_len len a b c d e named enough same f) = same_sound old new same s
opens_sound {old = old} {new = new} s (faults_opening p piece a b c same q) = same_sound old new same s
opens_sound {old = old} {new = new} s (wants_memory_opening same q) = same_sound old new same s

pub unpins_sound : {who pin : ℕ} {old new : Machine} {reply : Reply} → IsSound old → Unpins who pin old reply new → IsSound new
unpins_sound s (refused_unpin reply p) = s
unpins_sound {who} {pin} {old} s (unpins p) = other_pins old (remove old.pins pin) s (λ t n other there. s.pinned t n other (pin_removed old.pins pin n other there).1)
