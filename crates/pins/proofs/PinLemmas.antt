-- The pins of the two tables, by their numbers.
use Rattle.std.proofs.Common.{◌≡◌, ℕ, Bool, true, false, cond, nat_eq, Some, None, Ok, Err, refl, ap, sym, ◌∙◌, arith}
use Rattle.std.proofs.lemmas.Bool.Decides.{nat_tests}
use Rattle.std.proofs.lemmas.Cmp.{nat_cmp_total}
use Rattle.std.proofs.lemmas.Map.Views.{tells_apart}
use Rattle.std.specs.Cmp.{eq_by_cmp_equiv}
use Rattle.std.specs.FinMap as map
use Rattle.std.specs.Ordering.{nat_cmp, eq_by_cmp}
use Rattle.std.specs.Prelude.{Option, Result, ◌≢◌}
use Rattle.pins.specs.Pinned.{PinnedNames, dropped}
use Rattle.pins.specs.declared.table.PinErr.{PinErr}
use Rattle.pins.specs.declared.table.PinErr.TheVariants.{NoPin, NotYours}
use Rattle.pins.specs.Pieces.{PinOf, Agree, named, asked}

-- THE TWO TABLES

pub agree_empty : Agree map.empty map.empty
agree_empty n = map.get-empty nat_cmp n ∙ ap named (sym (map.get-empty nat_cmp n))

pub agree_inserted : (pins : map.FinMap nat_cmp PinnedNames) (all : map.FinMap nat_cmp PinOf) (k : ℕ) (state : PinnedNames) (pin : PinOf) → Agree pins all → Some state ≡ named (Some pin) → Agree (map.insert pins k state) (map.insert all k pin)
agree_inserted pins all k state pin agree same q =
    map.get-insert nat_cmp_total pins k state q
    ∙ (elim (eq_by_cmp nat_cmp q k) as (λ b. cond b (Some state) (map.get pins q) ≡ named (cond b (Some pin) (map.get all q))) [ true ↦ same | false ↦ agree q ]
    ∙ ap named (sym (map.get-insert nat_cmp_total all k pin q)))

pub agree_removed : (pins : map.FinMap nat_cmp PinnedNames) (all : map.FinMap nat_cmp PinOf) (k : ℕ) → Agree pins all → Agree (map.remove pins k) (map.remove all k)
agree_removed pins all k agree q =
    map.get-remove nat_cmp_total pins k q
    ∙ (elim (eq_by_cmp nat_cmp q k) as (λ b. cond b None (map.get pins q) ≡ named (cond b None (map.get all q))) [ true ↦ refl | false ↦ agree q ]
    ∙ ap named (sym (map.get-remove nat_cmp_total all k q)))

-- a pin that is made and dropped leaves the table as it was
pub undone : (pins : map.FinMap nat_cmp PinnedNames) (k : ℕ) (state : PinnedNames) → map.get pins k ≡ None → map.remove (map.insert pins k state) k ≡ pins
undone pins k state free = map.same_map nat_cmp_total map.nat_cmp-IsAntisymmetric _ _ (λ q. map.get-remove nat_cmp_total (map.insert pins k state) k q ∙ (ap (λ (found : Option PinnedNames). cond (eq_by_cmp nat_cmp q k) None found) (map.get-insert nat_cmp_total pins k state q) ∙ there q))
  where
    there : (q : ℕ) → cond (eq_by_cmp nat_cmp q k) None (cond (eq_by_cmp nat_cmp q k) (Some state) (map.get pins q)) ≡ map.get pins q
    there q = by_test (eq_by_cmp nat_cmp q k) refl
      where
        by_test : (b : Bool) → eq_by_cmp nat_cmp q k ≡ b → cond b None (cond b (Some state) (map.get pins q)) ≡ map.get pins q
        by_test true is = let same : q ≡ k = tells_apart map.nat_cmp-IsAntisymmetric q k is in sym (ap (map.get pins) same ∙ free)
        by_test false is = refl

-- ANSWERS

pub asked_none : (owner : ℕ) (found : Option PinOf) → found ≡ None → asked owner found ≡ Err NoPin
asked_none owner found is = rw is refl

pub asked_other : (owner told : ℕ) (found : Option PinOf) (pin : PinOf) → found ≡ Some pin → told ≡ pin.owner → told ≢ owner → asked owner found ≡ Err (NotYours told)
asked_other owner told found pin is same other =
    let test : nat_eq pin.owner owner ≡ false = grind (arith, nat_tests) in
    rw (is, test, same) refl

pub asked_own : (owner : ℕ) (found : Option PinOf) (pin : PinOf) → found ≡ Some pin → pin.owner ≡ owner → asked owner found ≡ Ok pin
asked_own owner found pin is own =
    let test : nat_eq pin.owner owner ≡ true = grind (arith, nat_tests) in
    rw (is, test) refl

pub granted_alike : (owner : ℕ) (found : Option PinOf) → dropped owner (named found) ≡ Ok tt → (pin : PinOf) × (asked owner found ≡ Ok pin)
granted_alike owner None is = absurd cc
granted_alike owner (Some pin) is = by_test (nat_eq pin.owner owner) is
  where
    by_test : (b : Bool) → ◌≡◌ {A = Result (Unit {0}) PinErr} (cond b (Ok tt) (Err (NotYours pin.owner))) (Ok tt) → (p : PinOf) × (cond b (Ok pin) (Err (NotYours pin.owner)) ≡ Ok p)
    by_test true is = (pin, refl)
    by_test false is = absurd cc

-- a pin that was just made is its owner's to drop
pub dropped_made : (pins : map.FinMap nat_cmp PinnedNames) (k : ℕ) (state : PinnedNames) → dropped state.owner (map.get (map.insert pins k state) k) ≡ Ok tt
dropped_made pins k state =
    let here : map.get (map.insert pins k state) k ≡ Some state = map.get-insert nat_cmp_total pins k state k ∙ ap (λ (b : Bool). cond b (Some state) (map.get pins k)) ((eq_by_cmp_equiv nat_cmp_total).refl k) in
    let test : nat_eq state.owner state.owner ≡ true = grind (arith, nat_tests) in
    rw (here, test) refl
