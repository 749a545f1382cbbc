-- Where lists are cut, and what a run does there.
use Rattle.std.proofs.Common.{◌≡◌, ◌≢◌, ℕ, ◌+◌, ◌-◌, ◌<◌, ◌≤◌, List, [], ◌∷◌, ◌++◌, length, Bool, true, false, cond, zero, suc, refl, ap, sym, ◌∙◌, arith, subst, inl, inr, append_assoc}
use Rattle.std.specs.Prelude.{◌⊎◌, ◌==◌, Contains}
use Rattle.std.specs.List.{AllByRecursion}
use Rattle.std.proofs.lemmas.Bool.Decides.{nat_tests}
use Rattle.act_model.specs.declared.acts.Act.{Act}
use Rattle.act_model.specs.declared.acts.Act.TheVariants.{Doors}
use Rattle.act_model.specs.declared.acts.Answer.TheVariants.{DoorsLeft}
use Rattle.act_model.specs.Reply.{Reply}
use Rattle.act_model.specs.Machine.{Machine}
use Rattle.act_model.specs.Sound.{IsSound}
use Rattle.act_model.specs.Step.{Step}
use Rattle.act_model.specs.History.{Entry, Done, Runs}
use Rattle.act_model.proofs.Histories.{runs_apart, steps_at}
use Rattle.serving.specs.Rounds.{IsTick, AreTicks}
use Rattle.serving.specs.End.{MadeIn, FirstShut}
use Rattle.serving.proofs.Owns.{drops, dones_in, dones_in-append, among}
use Rattle.serving.proofs.Counts.{runs_counts}

module _ {A : Type 0} where
  -- of two cuts of one list one is the earlier
  pub compare : (xs ys vs ws : List A) → xs ++ ys ≡ vs ++ ws → ((c : List A) × (vs ≡ xs ++ c) × (ys ≡ c ++ ws)) ⊎ ((c : List A) × (xs ≡ vs ++ c) × (c ≢ []))
  compare [] ys vs ws is = inl (vs, refl, is)
  compare (x ∷ xs) ys [] ws is = inr (x ∷ xs, refl, λ bad. cc)
  compare (x ∷ xs) ys (v ∷ vs) ws is = by_rest (compare xs ys vs ws cc)
    where
      first : x ≡ v
      first = cc

      by_rest : ((c : List A) × (vs ≡ xs ++ c) × (ys ≡ c ++ ws)) ⊎ ((c : List A) × (xs ≡ vs ++ c) × (c ≢ [])) → ((c : List A) × (v ∷ vs ≡ (x ∷ xs) ++ c) × (ys ≡ c ++ ws)) ⊎ ((c : List A) × (x ∷ xs ≡ (v ∷ vs) ++ c) × (c ≢ []))
      by_rest (inl p) = inl (p.0, (let later = p.1 in cc), p.2)
      by_rest (inr p) = inr (p.0, (let later = p.1 in cc), p.2)

  pub contains_split : (xs : List A) (x : A) → Contains xs x → (front : List A) × (back : List A) × (xs ≡ front ++ x ∷ back)
  contains_split [] x at = let low = at.1 in absurd (omega arith)
  contains_split (y ∷ xs) x (zero, low, is) = ([], xs, ap (λ (z : A). z ∷ xs) is)
  contains_split (y ∷ xs) x (suc k, low, is) = let more = contains_split xs x (k, omega arith, is) in (y ∷ more.0, more.1, ap (λ (w : List A). y ∷ w) more.2)

  pub part_at : (xs : List A) (i : ℕ) → i < length xs → (front : List A) × (x : A) × (back : List A) × (xs ≡ front ++ x ∷ back) × (length front ≡ i)
  part_at [] i low = absurd (omega arith)
  part_at (x ∷ xs) zero low = ([], x, xs, refl, refl)
  part_at (x ∷ xs) (suc i) low = let more = part_at xs i (omega arith) in (x ∷ more.0, more.1, more.2, ap (λ (w : List A). x ∷ w) more.3, (let same = more.4 in omega arith))

  pub all_mid : (P : A → Type 0) (xs : List A) (y : A) (ys : List A) → AllByRecursion P (xs ++ y ∷ ys) → P y
  all_mid P [] y ys all = all.0
  all_mid P (x ∷ xs) y ys all = all_mid P xs y ys all.1

  pub all_both : (P : A → Type 0) (xs ys : List A) → AllByRecursion P xs → AllByRecursion P ys → AllByRecursion P (xs ++ ys)
  all_both P [] ys p q = q
  all_both P (x ∷ xs) ys p q = (p.0, all_both P xs ys p.1 q)

  pub all_map : (P Q : A → Type 0) → ((x : A) → P x → Q x) → (xs : List A) → AllByRecursion P xs → AllByRecursion Q xs
  all_map P Q go [] p = tt
  all_map P Q go (x ∷ xs) p = (go x p.0, all_map P Q go xs p.1)

  -- what holds at each cut holds of all
  pub all_cuts : (P : A → Type 0) (xs : List A) → ((front : List A) (x : A) (back : List A) → xs ≡ front ++ x ∷ back → P x) → AllByRecursion P xs
  all_cuts P [] at = tt
  all_cuts P (x ∷ xs) at = (at [] x xs refl, all_cuts P xs (λ front y back is. at (x ∷ front) y back (ap (λ (w : List A). x ∷ w) is)))

  -- a cut after a cut
  pub deeper : (c : List A) (d : A) (b x : List A) (e : A) (y : List A) → b ≡ x ++ e ∷ y → c ++ d ∷ b ≡ (c ++ d ∷ x) ++ e ∷ y
  deeper c d b x e y is = ap (λ (w : List A). c ++ d ∷ w) is ∙ sym (append_assoc c (d ∷ x) (e ∷ y))

  pub not_empty : (xs : List A) (x : A) (ys : List A) → xs ++ x ∷ ys ≢ []
  not_empty [] x ys bad = cc
  not_empty (z ∷ xs) x ys bad = cc

pub among_all : (P : ℕ → Type 0) (ws : List ℕ) (q : ℕ) → AllByRecursion P ws → among ws q ≡ true → P q
among_all P [] q all is = absurd cc
among_all P (w ∷ ws) q all is = by_test (q == w) refl is (λ there. among_all P ws q all.1 there)
  where
    by_test : (b : Bool) → (q == w) ≡ b → cond b true (among ws q) ≡ true → (among ws q ≡ true → P q) → P q
    by_test true hit is more = let same : q ≡ w = grind (arith, nat_tests) in subst P (sym same) all.0
    by_test false miss is more = more is

pub tick_at : (now row : ℕ) (xs : List Done) (d : Done) (ys : List Done) → AreTicks now row (xs ++ d ∷ ys) → IsTick now (row + length xs) d.act
tick_at now row [] d ys are = let plain : row ≡ row + 0 = omega arith in subst (λ n. IsTick now n d.act) plain are.0
tick_at now row (x ∷ xs) d ys are = let next : (row + 1) + length xs ≡ row + length (x ∷ xs) = omega arith in subst (λ n. IsTick now n d.act) next (tick_at now (row + 1) xs d ys are.1)

-- RUNS

-- an entry in its place of a run
pub made_at : (Such : Machine → Entry → Type 0) (old new : Machine) (es xs : List Entry) (e : Entry) (ys : List Entry) → es ≡ xs ++ e ∷ ys → Runs old es new → ((at : Machine) → Runs old xs at → Such at e) → MadeIn old es new Such
made_at Such old new es xs e ys is p such =
    let stands = steps_at xs ys e old new (subst (λ w. Runs old w new) is p) in
    record { front = xs; entry = e; back = ys; is = is; stands = stands; such = such stands.at stands.to }

-- Doors that answers 0 was asked where no doors are left
pub doors_shut : (who : ℕ) (act : Act) (old new : Machine) (reply : Reply) → act ≡ Doors → reply ≡ DoorsLeft 0 → Step who act old reply new → (old.doors ≡ 0) × (new ≡ old)
doors_shut who act old new reply asks shut step =
    let told : Step who Doors old reply new = subst (λ a. Step who a old reply new) asks step in
    let said : DoorsLeft 0 ≡ DoorsLeft old.doors = sym shut ∙ told.0 in
    (cc, told.1)

-- and so it stays
pub shut_after : (old at : Machine) (c : List Entry) (d : Entry) (u : List Entry) → IsSound old → d.act ≡ Doors → d.answer ≡ DoorsLeft 0 → Runs old (c ++ d ∷ u) at → at.doors ≡ 0
shut_after old at c d u s asks shut p =
    let parts = runs_apart c (d ∷ u) old at p in
    let first = (doors_shut d.who d.act parts.0 parts.2.1 d.answer asks shut parts.2.2).0 in
    let before = (runs_counts c old parts.0 s parts.1).doors in
    let whole = (runs_counts (c ++ d ∷ u) old at s p).doors in
    let sum = dones_in-append c (d ∷ u) in
    omega arith

-- THE FIRST STATE WITH NO DOORS

record Shortest (n : ℕ) (es : List Entry) : Type 0 where
  front : List Entry
  back : List Entry
  is : es ≡ front ++ back
  enough : n ≤ dones_in front
  least : (before after : List Entry) → front ≡ before ++ after → after ≢ [] → dones_in before < n

shortest : (n : ℕ) (es : List Entry) → n ≤ dones_in es → Shortest n es
shortest zero es low = record { front = []; back = es; is = refl; enough = omega arith; least = λ before after is some. absurd (some (no_after before after is)) }
  where
    no_after : (before after : List Entry) → [] ≡ before ++ after → after ≡ []
    no_after [] after is = sym is
    no_after (x ∷ before) after is = absurd cc
shortest (suc n) [] low = absurd (omega arith)
shortest (suc n) (e ∷ es) low =
    let more = shortest (suc n - drops e.act) es (omega arith) in
    record {
      front = e ∷ more.front;
      back = more.back;
      is = ap (λ (w : List Entry). e ∷ w) more.is;
      enough = let rest = more.enough in omega arith;
      least = λ before after is some. by_before more.front before after more.least is some;
    }
  where
    by_before : (front before after : List Entry) → ((before after : List Entry) → front ≡ before ++ after → after ≢ [] → dones_in before < suc n - drops e.act) → e ∷ front ≡ before ++ after → after ≢ [] → dones_in before < suc n
    by_before front [] after least is some = omega arith
    by_before front (x ∷ before) after least is some =
        let same : e ≡ x = cc in
        let rest : front ≡ before ++ after = cc in
        let low = least before after rest some in
        let one = ap (λ (y : Entry). drops y.act) same in
        omega arith

pub first_shut : (es : List Entry) (old new : Machine) → IsSound old → Runs old es new → new.doors ≡ 0 → FirstShut old es new
first_shut es old new s p shut =
    let count = (runs_counts es old new s p).doors in
    let short = shortest old.doors es (omega arith) in
    let parts = runs_apart short.front short.back old new (subst (λ w. Runs old w new) short.is p) in
    record {
      front = short.front;
      back = short.back;
      is = short.is;
      mid = parts.0;
      to = parts.1;
      from = parts.2;
      shut = let there = (runs_counts short.front old parts.0 s parts.1).doors in let enough = short.enough in omega arith;
      first = λ before after m is some run bad.
          let few = short.least before after is some in
          let there = (runs_counts before old m s run).doors in
          absurd (omega arith);
    }
