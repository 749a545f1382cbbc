-- Laws of runs and of what actors promise.
use Rattle.std.proofs.Common.{◌≡◌, ℕ, List, [], ◌∷◌, ◌++◌, Bool, true, false, refl, ap, sym, ◌∙◌, arith, subst}
use Rattle.std.specs.Prelude.{◌==◌, map}
use Rattle.std.proofs.lemmas.List.{map-append}
use Rattle.std.proofs.lemmas.List.Elements.{filter-append}
use Rattle.std.proofs.lemmas.Bool.Decides.{nat_tests}
use Rattle.act_model.specs.declared.acts.Act.{Act}
use Rattle.act_model.specs.Reply.{Reply}
use Rattle.act_model.specs.Machine.{Machine}
use Rattle.act_model.specs.Sound.{IsSound}
use Rattle.act_model.specs.History.{Entry, Done, done_of, Runs, own, mine, StepsAt, CutAt, Made, Acted, Goes, LastStep}
use Rattle.act_model.proofs.StepSound.{step_sound}
use Rattle.act_model.proofs.StepOnward.{step_onward}
use Rattle.act_model.specs.Growth.{Onward}
use Rattle.act_model.proofs.Onward.{onward_refl, onward_trans}

pub runs_append : (xs ys : List Entry) (a b c : Machine) → Runs a xs b → Runs b ys c → Runs a (xs ++ ys) c
runs_append [] ys a b c p q = rw (← p) q
runs_append (e ∷ xs) ys a b c p q = (p.0, p.1, p.2, runs_append xs ys p.1 b c p.3 q)

-- every run keeps the machine sound, and takes nothing from what is accepted or durable
pub runs_sound : (entries : List Entry) (old new : Machine) → IsSound old → Runs old entries new → IsSound new
runs_sound [] old new s p = subst (λ m. IsSound m) (sym p) s
runs_sound (e ∷ rest) old new s p = runs_sound rest p.1 new (step_sound e.who e.act old p.1 e.answer s p.0 p.2) p.3

pub runs_onward : (entries : List Entry) (old new : Machine) → IsSound old → Runs old entries new → Onward old new
runs_onward [] old new s p = subst (λ m. Onward old m) (sym p) (onward_refl old)
runs_onward (e ∷ rest) old new s p =
    onward_trans old p.1 new (step_onward e.who e.act old p.1 e.answer s p.0 p.2) (runs_onward rest p.1 new (step_sound e.who e.act old p.1 e.answer s p.0 p.2) p.3)

-- ENTRIES AS STEPS

pub runs_apart : (xs ys : List Entry) (a c : Machine) → Runs a (xs ++ ys) c → (b : Machine) × Runs a xs b × Runs b ys c
runs_apart [] ys a c p = (a, refl, p)
runs_apart (e ∷ xs) ys a c p = let more = runs_apart xs ys p.1 c p.3 in (more.0, (p.0, p.1, p.2, more.1), more.2)

-- each entry is a step from the state that those before it lead to
pub steps_at : (front back : List Entry) (e : Entry) (old new : Machine) → Runs old (front ++ e ∷ back) new → StepsAt old front e back new
steps_at front back e old new p =
    let cut = runs_apart front (e ∷ back) old new p in
    record { at = cut.0; after = cut.2.1; to = cut.1; asked = cut.2.0; step = cut.2.2; from = cut.2.3 }

-- WHAT WAS DONE UNDER A NUMBER

own_one : (who : ℕ) (e : Entry) → e.who ≡ who → own who (e ∷ []) ≡ e ∷ []
own_one who e is = grind (arith, nat_tests)

pub mine-append : (who : ℕ) (xs ys : List Entry) → mine who (xs ++ ys) ≡ mine who xs ++ mine who ys
mine-append who xs ys = ap (λ (w : List Entry). map done_of w) (filter-append (λ e. e.who == who) xs ys) ∙ map-append done_of (own who xs) (own who ys)

pub mine_other : (who : ℕ) (e : Entry) (es : List Entry) → (e.who == who) ≡ false → mine who (e ∷ es) ≡ mine who es
mine_other who e es is = rw is refl

pub mine_same : (who : ℕ) (e : Entry) (es : List Entry) → (e.who == who) ≡ true → mine who (e ∷ es) ≡ done_of e ∷ mine who es
mine_same who e es is = rw is refl

-- where one's own list is cut, the whole list is cut
pub cut_at : (who : ℕ) (es : List Entry) (xs ys : List Done) (d : Done) → mine who es ≡ xs ++ d ∷ ys → CutAt who es xs d ys
cut_at who [] [] ys d is = absurd cc
cut_at who [] (x ∷ xs) ys d is = absurd cc
cut_at who (e ∷ es) xs ys d is = by_who (e.who == who) refl xs is (λ zs same. cut_at who es zs ys d same)
  where
    later : (xs : List Done) → CutAt who es xs d ys → (zs : List Done) → mine who (e ∷ []) ++ xs ≡ zs → CutAt who (e ∷ es) zs d ys
    later xs c zs same = record {
      front = e ∷ c.front;
      entry = c.entry;
      back = c.back;
      is = ap (λ (w : List Entry). e ∷ w) c.is;
      by = c.by;
      done = c.done;
      front_is = mine-append who (e ∷ []) c.front ∙ (ap (λ (w : List Done). mine who (e ∷ []) ++ w) c.front_is ∙ same);
      back_is = c.back_is;
    }

    by_who : (b : Bool) → (e.who == who) ≡ b → (xs : List Done) → mine who (e ∷ es) ≡ xs ++ d ∷ ys → ((zs : List Done) → mine who es ≡ zs ++ d ∷ ys → CutAt who es zs d ys) → CutAt who (e ∷ es) xs d ys
    by_who false other xs is go = later xs (go xs (sym (mine_other who e es other) ∙ is)) xs (ap (λ (w : List Done). w ++ xs) (mine_other who e [] other))
    by_who true hit [] is go =
        let both : done_of e ∷ mine who es ≡ d ∷ ys = sym (mine_same who e es hit) ∙ is in
        record { front = []; entry = e; back = es; is = refl; by = grind (arith, nat_tests); done = cc; front_is = refl; back_is = cc }
    by_who true hit (x ∷ xs) is go =
        let both : done_of e ∷ mine who es ≡ x ∷ (xs ++ d ∷ ys) = sym (mine_same who e es hit) ∙ is in
        later xs (go xs cc) (x ∷ xs) (ap (λ (w : List Done). w ++ xs) (mine_same who e [] hit) ∙ (let one : done_of e ≡ x = cc in ap (λ (y : Done). y ∷ xs) one))

-- WHAT ACTORS PROMISE

module _ {A : Type 0} (number : A → ℕ) (between : A → List Entry → A → Type 0) where
  -- an act as the one that was made
  pub made_one : (old new : A) (act : Act) (answer : Reply) → Acted number between old act answer new → Made number between old (record { act = act; answer = answer } ∷ []) new
  made_one old new act answer acted =
      let e : Entry = record { who = number old; act = act; answer = answer } in
      record {
        entries = acted.others ++ e ∷ [];
        leads = acted.leads;
        just_these = mine-append (number old) acted.others (e ∷ []) ∙ rw (acted.not_mine, own_one (number old) e refl) refl;
      }

  -- nothing was made yet
  pub made_nothing : ((a : A) → between a [] a) → (a : A) → Made number between a [] a
  made_nothing nothing a = record { entries = []; leads = nothing a; just_these = refl }

  module _ (joined : (a b c : A) (xs ys : List Entry) → between a xs b → between b ys c → between a (xs ++ ys) c)
      (number_stays : (a b : A) (entries : List Entry) → between a entries b → number b ≡ number a) where
    pub made_joined : (a b c : A) (xs ys : List Done) → Made number between a xs b → Made number between b ys c → Made number between a (xs ++ ys) c
    made_joined a b c xs ys p q =
        let same : number b ≡ number a = number_stays a b p.entries p.leads in
        let later : mine (number a) q.entries ≡ ys = ap (λ n. mine n q.entries) (sym same) ∙ q.just_these in
        record {
          entries = p.entries ++ q.entries;
          leads = joined a b c p.entries q.entries p.leads q.leads;
          just_these = mine-append (number a) p.entries q.entries ∙ (ap (λ w. w ++ mine (number a) q.entries) p.just_these ∙ ap (λ w. xs ++ w) later);
        }

  module _ (stands : A → Machine → Type 0) (legal : (a b : A) (entries : List Entry) (m : Machine) → between a entries b → stands a m → Goes (stands b) m entries) where
    -- an act's own step, and that its end is what the actor stands for
    pub last_step : (old new : A) (act : Act) (answer : Reply) (m : Machine) → stands old m → (acted : Acted number between old act answer new) → LastStep (stands new) m acted.others (number old) act answer
    last_step old new act answer m s acted =
        let e : Entry = record { who = number old; act = act; answer = answer } in
        let goes = legal old new (acted.others ++ e ∷ []) m acted.leads s in
        let at = steps_at acted.others [] e m goes.after goes.runs in
        record { at = at.at; after = at.after; to = at.to; asked = at.asked; step = at.step; stands_for = subst (λ w. stands new w) at.from goes.stands_for }
