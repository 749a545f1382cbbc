use Rattle.std.proofs.Common.{◌≡◌, ◌==◌, ℕ, true, List, [], ◌∷◌, length, refl, sym, ◌∙◌, subst, arith}
use Rattle.std.proofs.lemmas.Bool.Decides.{nat_tests}
use Rattle.store_manifest.specs.Batches.{OnlySets}
use Rattle.store_manifest.specs.Listing.{entries_of}
use Rattle.store_manifest.proofs.Meaning.{sets_none}
use Rattle.store_manifest.proofs.folding.make_sets.Goals as goal

zero_from_test : (n : ℕ) → (n == 0) ≡ true → n ≡ 0
zero_from_test n test = grind (arith, nat_tests)

none_from_test : (l : List ℕ) → (length l == 0) ≡ true → l ≡ []
none_from_test [] test = refl
none_from_test (x ∷ l) test = absurd (omega (arith, zero_from_test (length (x ∷ l)) test))

pub loop-rest-preserved : goal.loop-rest-preserved
loop-rest-preserved c =
    let made = rw c.in-Some.is at c.in_ok-behind.ensures.made in
    record {
      good = c.make_set.ensures.good;
      says = λ last.
          let before = c.loop-rest.invariant.says last in
          let step = made last in (λ only. before.0 (step.0 only), λ only. step.1 (before.1 only));
    }

pub returns-clause-made : goal.returns-clause-made
returns-clause-made c same =
    let entries = entries_of c.loop-rest.lists.listed.entries in
    let none = none_from_test c.loop-rest.rest.now (sym c.is_empty.ensures ∙ c.loop-rest-test.false) in
    let P : List ℕ → Type 0 = λ l. OnlySets c.args.g entries l entries in
    (c.loop-rest.invariant.says entries).0 (subst P (sym none) (sets_none c.args.g entries))

pub returns-in_default-clause-bad : goal.returns-in_default-clause-bad
returns-in_default-clause-bad c same last is = let none = rw c.in_default.is at c.in_ok-behind.ensures.none in none last ((c.loop-rest.invariant.says last).1 is)
