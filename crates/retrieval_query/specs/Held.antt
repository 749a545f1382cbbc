-- Openings go on from one another, and a pin that an actor holds stays as long as it isn't given up. The pieces of a pin owe this with
-- their definitions.
use Rattle.std.proofs.Common.{◌≡◌, ℕ, ◌+◌, ◌<◌, ◌^◌, List, [], ◌∷◌, ◌++◌, length, map, Bool, true, false, cond, refl, sym, ap, ◌∙◌, subst, add-zero, add_assoc, append_assoc, length-append}
use Rattle.std.specs.Prelude.{◌==◌}
use Rattle.std.specs.List.{AllByRecursion}
use Rattle.std.proofs.lemmas.Bool.{eqb-false}
use Rattle.std.proofs.lemmas.List.{map-append}
use Rattle.act_model.specs.declared.acts.Act.TheVariants.{Unpin}
use Rattle.act_model.specs.History.{Entry, Done, Made, Goes, own, mine, done_of}
use Rattle.act_model.specs.Machine.{Machine}
use Rattle.act_model.specs.Pinned.{AllKeep, Keeps}
use Rattle.act_model.specs.Sound.{IsSound}
use Rattle.act_model.proofs.Histories.{made_joined, made_nothing}
use Rattle.act_model.proofs.PinLaws.{pin_stands}
use Rattle.stream_merge.specs.Pieces.{NamedBytes, Failure, Faulted, OutOfActs, OutOfMemory}
use Rattle.retrieval_query.specs.Openings.{PieceTold, HasOpened, FailsToOpen, Holds, openings, opening, failing, named}

-- NUMBERS

one_on : (p : PieceTold) (told : List PieceTold) (i : ℕ) → i + 1 + length told ≡ i + length (p ∷ told)
one_on p told i = add_assoc i 1 (length told) ∙ ap (λ (n : ℕ). i + n) (sym (length-append (p ∷ []) told))

pub both_on : (told more : List PieceTold) (i : ℕ) → i + length told + length more ≡ i + length (told ++ more)
both_on told more i = add_assoc i (length told) (length more) ∙ ap (λ (n : ℕ). i + n) (sym (length-append told more))

-- some pieces were opened, and then more
pub openings-append : (pin i : ℕ) (told more : List PieceTold) → openings pin i (told ++ more) ≡ openings pin i told ++ openings pin (i + length told) more
openings-append pin i [] more = ap (λ (n : ℕ). openings pin n more) (sym (add-zero i))
openings-append pin i (p ∷ told) more = ap (λ (l : List Done). opening pin i p ∷ l) (openings-append pin (i + 1) told more ∙ ap (λ (n : ℕ). openings pin (i + 1) told ++ openings pin n more) (one_on p told i))

module _ {A : Type 0} (number : A → ℕ) (between : A → List Entry → A → Type 0) where
  pub none_opened : ((a : A) → between a [] a) → (a : A) (pin next left : ℕ) → HasOpened number between a pin next left [] a pin next left
  none_opened nothing a pin next left = record { told = []; pin_is = refl; next_is = sym (add-zero next); all = refl; made = made_nothing number between nothing a; are = refl }

  module _ (joined : (a b c : A) (xs ys : List Entry) → between a xs b → between b ys c → between a (xs ++ ys) c)
      (number_stays : (a b : A) (entries : List Entry) → between a entries b → number b ≡ number a) where
    pub opened_on : (a b c : A) (pin pin₂ pin₃ next next₂ next₃ left left₂ left₃ : ℕ) (xs ys : List NamedBytes) → HasOpened number between a pin next left xs b pin₂ next₂ left₂ → HasOpened number between b pin₂ next₂ left₂ ys c pin₃ next₃ left₃
        → HasOpened number between a pin next left (xs ++ ys) c pin₃ next₃ left₃
    opened_on a b c pin pin₂ pin₃ next next₂ next₃ left left₂ left₃ xs ys one two =
        let later : Made number between b (openings pin (next + length one.told) two.told) c = subst (λ (n : ℕ). Made number between b (openings pin n two.told) c) one.next_is (subst (λ (n : ℕ). Made number between b (openings n next₂ two.told) c) one.pin_is two.made) in
        record {
          told = one.told ++ two.told;
          pin_is = two.pin_is ∙ one.pin_is;
          next_is = two.next_is ∙ (ap (λ (n : ℕ). n + length two.told) one.next_is ∙ both_on one.told two.told next);
          all = two.all ∙ one.all;
          made = subst (λ (l : List Done). Made number between a l c) (sym (openings-append pin next one.told two.told)) (made_joined number between joined number_stays a b c (openings pin next one.told) (openings pin (next + length one.told) two.told) one.made later);
          are = ap (λ (l : List NamedBytes). l ++ ys) one.are ∙ (ap (λ (l : List NamedBytes). map named one.told ++ l) two.are ∙ sym (map-append named one.told two.told));
        }

    module _ (is_spent : A → Type 0) where
      pub failed_on : (a b c : A) (pin pin₂ pin₃ next next₂ left left₂ : ℕ) (xs : List NamedBytes) (why : Failure) → HasOpened number between a pin next left xs b pin₂ next₂ left₂ → FailsToOpen number between is_spent b pin₂ next₂ why c pin₃
          → FailsToOpen number between is_spent a pin next why c pin₃
      failed_on a b c pin pin₂ pin₃ next next₂ left left₂ xs why one two =
          let from : ℕ = next + length one.told in
          let later : Made number between b (openings pin from two.told ++ failing pin (from + length two.told) why) c =
          subst (λ (n : ℕ). Made number between b (openings pin n two.told ++ failing pin (n + length two.told) why) c) one.next_is (subst (λ (n : ℕ). Made number between b (openings n next₂ two.told ++ failing n (next₂ + length two.told) why) c) one.pin_is two.made) in
          let whole = made_joined number between joined number_stays a b c (openings pin next one.told) (openings pin from two.told ++ failing pin (from + length two.told) why) one.made later in
          let is : openings pin next one.told ++ (openings pin from two.told ++ failing pin (from + length two.told) why) ≡ openings pin next (one.told ++ two.told) ++ failing pin (next + length (one.told ++ two.told)) why =
          sym (append_assoc (openings pin next one.told) (openings pin from two.told) (failing pin (from + length two.told) why)) ∙ (ap (λ (l : List Done). l ++ failing pin (from + length two.told) why) (sym (openings-append pin next one.told two.told)) ∙ ap (λ (n : ℕ). openings pin next (one.told ++ two.told) ++ failing pin n why) (both_on one.told two.told next)) in
          record { told = one.told ++ two.told; pin_is = two.pin_is ∙ one.pin_is; made = subst (λ (l : List Done). Made number between a l c) is whole; spent = two.spent }

-- THE PIN STAYS

-- the act isn't this pin's end
abbrev pub IsOther : ℕ → Done → Type 0
IsOther pin d = d.act ≡ Unpin pin → ⊥

pub openings_others : (pin n i : ℕ) (told : List PieceTold) → AllByRecursion (IsOther n) (openings pin i told)
openings_others pin n i [] = tt
openings_others pin n i (p ∷ told) = (λ is. cc, openings_others pin n (i + 1) told)

pub failing_others : (pin n i : ℕ) (why : Failure) → AllByRecursion (IsOther n) (failing pin i why)
failing_others pin n i Faulted = (λ is. cc, tt)
failing_others pin n i OutOfActs = tt
failing_others pin n i OutOfMemory = (λ is. cc, tt)

pub both_others : (n : ℕ) (xs ys : List Done) → AllByRecursion (IsOther n) xs → AllByRecursion (IsOther n) ys → AllByRecursion (IsOther n) (xs ++ ys)
both_others n [] ys a b = b
both_others n (x ∷ xs) ys a b = (a.0, both_others n xs ys a.1 b)

pub keeps : (who n : ℕ) (entries : List Entry) → AllByRecursion (IsOther n) (mine who entries) → AllKeep who n entries
keeps who n [] others = tt
keeps who n (e ∷ rest) others = by_test (e.who == who) refl others (λ l. keeps who n rest l)
  where
    by_test : (b : Bool) → (e.who == who) ≡ b → AllByRecursion (IsOther n) (map done_of (cond b (e ∷ own who rest) (own who rest))) → (AllByRecursion (IsOther n) (mine who rest) → AllKeep who n rest) → Keeps who n e × AllKeep who n rest
    by_test true is all more = (λ owner unpin. all.0 unpin, more all.1)
    by_test false is all more = (λ owner unpin. eqb-false e.who who is owner, more all)

module _ {A : Type 0} (number : A → ℕ) (between : A → List Entry → A → Type 0) (stands : A → Machine → Type 0)
    (legal : (a b : A) (entries : List Entry) (m : Machine) → between a entries b → stands a m → Goes (stands b) m entries) (sound : (a : A) (m : Machine) → stands a m → IsSound m)
    (number_stays : (a b : A) (entries : List Entry) → between a entries b → number b ≡ number a) where
  -- whatever else the actor did
  pub holds_on : (a b : A) (pin next left : ℕ) (acts : List Done) → AllByRecursion (IsOther pin) acts → Holds number stands a pin next left → Made number between a acts b → Holds number stands b pin next left
  holds_on a b pin next left acts others h made =
      let goes = legal a b made.entries h.m made.leads h.stands_for in
      let mine_all : AllByRecursion (IsOther pin) (mine (number a) made.entries) = subst (λ (l : List Done). AllByRecursion (IsOther pin) l) (sym made.just_these) others in
      let keep : AllKeep h.state.owner pin made.entries = subst (λ (n : ℕ). AllKeep n pin made.entries) (sym h.owner) (keeps (number a) pin made.entries mine_all) in
      record {
        m = goes.after;
        stands_for = goes.stands_for;
        state = h.state;
        there = (pin_stands pin h.state made.entries h.m goes.after (sound a h.m h.stands_for) goes.runs keep h.there).there;
        owner = h.owner ∙ sym (number_stays a b made.entries made.leads);
        all = h.all;
        few = h.few;
      }

  -- and so, where pieces were opened
  pub goes_on : (a b : A) (pin pin₂ next next₂ left left₂ : ℕ) (xs : List NamedBytes) → Holds number stands a pin next left → HasOpened number between a pin next left xs b pin₂ next₂ left₂ → Holds number stands b pin₂ next₂ left₂
  goes_on a b pin pin₂ next next₂ left left₂ xs h opens =
      let still = holds_on a b pin next left (openings pin next opens.told) (openings_others pin pin next opens.told) h opens.made in
      subst (λ (n : ℕ). Holds number stands b n next₂ left₂) (sym opens.pin_is) (record {
        m = still.m;
        stands_for = still.stands_for;
        state = still.state;
        there = still.there;
        owner = still.owner;
        all = still.all ∙ sym opens.all;
        few = subst (λ (n : ℕ). n < 2 ^ 32) (sym opens.all) still.few;
      })
