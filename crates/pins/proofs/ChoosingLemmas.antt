-- How the choice goes on with one file more.
use Rattle.std.proofs.Common.{◌≡◌, inl, inr, ◌<◌, ℕ, zero, suc, ◌+◌, List, [], ◌∷◌, ◌++◌, length, get_or, take, drop, Ok, Err, refl, ap, sym, ◌∙◌, subst, append-nil, take-append-drop, arith}
use Rattle.std.proofs.lemmas.List.{append_assoc, map-append, take_more}
use Rattle.std.proofs.lemmas.List.Elements.{All-append, All-head, All-tail}
use Rattle.std.specs.Prelude.{All, ◌↔◌, Option, OnOk, Result}
use Rattle.pins.specs.declared.choosing.Listed.{Listed}
use Rattle.store_manifest.specs.declared.entry.Entry.{Entry}
use Rattle.pins.specs.declared.choosing.Choice.{Choice}
use Rattle.pins.specs.Choosing.{ends_before, Cuts, StartsBehind, NoneCuts, NoOtherCuts, IsRest, IsChosen, IsBelow, IsChoice, StartsPast, EndsWithin, listed}

none_more : (from : ℕ) (before fs : List Listed) (f : Listed) → NoneCuts from before fs → (Cuts from (before ++ fs) f → ⊥) → NoneCuts from before (fs ++ f ∷ [])
none_more from before [] f none never = (subst (λ (l : List Listed). Cuts from l f → ⊥) (append-nil before) never, tt)
none_more from before (x ∷ xs) f none never = (none.0, none_more from (before ++ x ∷ []) xs f none.1 (subst (λ (l : List Listed). Cuts from l f → ⊥) (sym (append_assoc before (x ∷ []) xs)) never))

no_other_more : (from : ℕ) (before fs : List Listed) (f : Listed) → NoOtherCuts from before fs → (Cuts from (before ++ fs) f → ⊥) → NoOtherCuts from before (fs ++ f ∷ [])
no_other_more from before [] f none never = tt
no_other_more from before (x ∷ xs) f none never = none_more from (before ++ x ∷ []) xs f none (subst (λ (l : List Listed). Cuts from l f → ⊥) (sym (append_assoc before (x ∷ []) xs)) never)

behind_more : (from : ℕ) (before fs : List Listed) (f : Listed) → StartsBehind from before fs → StartsBehind from before (fs ++ f ∷ [])
behind_more from before [] f behind = absurd behind
behind_more from before (x ∷ xs) f behind = behind

-- the file cuts: all before it stay closed
pub rest_anew : (from : ℕ) (all : List Listed) (f : Listed) → Cuts from all f → IsRest from (all ++ f ∷ []) (f ∷ [])
rest_anew from all f cuts = record { closed = all; split = refl; first = inr cuts; last = tt }

-- it doesn't
pub rest_more : (from : ℕ) (all rest : List Listed) (f : Listed) → IsRest from all rest → (Cuts from all f → ⊥) → IsRest from (all ++ f ∷ []) (rest ++ f ∷ [])
rest_more from all rest f is never = record {
  closed = is.closed;
  split = ap (λ (l : List Listed). l ++ f ∷ []) is.split ∙ append_assoc is.closed rest (f ∷ []);
  first = elim is.first [ inl none ↦ inl none | inr behind ↦ inr (behind_more from is.closed rest f behind) ];
  last = no_other_more from is.closed rest f is.last (subst (λ (l : List Listed). Cuts from l f → ⊥) is.split never);
}

-- ONE FILE MORE

single : {X : Type 0} (P : X → Type 0) (x : X) → P x → All P (x ∷ [])
single {X} P x is zero d lt = is
single {X} P x is (suc k) d lt = absurd (omega (arith, lt))

all_more : {X : Type 0} (P : X → Type 0) (xs : List X) (x : X) → All P xs → P x → All P (xs ++ x ∷ [])
all_more {X} P xs x all is = All-append P xs (x ∷ []) all (single P x is)

all_less : {X : Type 0} (P : X → Type 0) (xs : List X) (x : X) → All P (xs ++ x ∷ []) → All P xs × P x
all_less {X} P [] x all = (λ k d lt. absurd (omega (arith, lt)), All-head P x [] all)
all_less {X} P (y ∷ ys) x all =
    let rest = all_less P ys x (All-tail P y (ys ++ x ∷ []) all) in
    (All-append P (y ∷ []) ys (single P y (All-head P y (ys ++ x ∷ []) all)) rest.0, rest.1)

greatest_more : (told : List Listed) (f : Listed) (before after : Option ℕ) → ((n : ℕ) → IsBelow before n ↔ All (ends_before n) told) → ((n : ℕ) → IsBelow after n ↔ (IsBelow before n × (f.entry.last < n))) → (n : ℕ) → IsBelow after n ↔ All (ends_before n) (told ++ f ∷ [])
greatest_more told f before after was more n = (
  λ below. let both = (more n).0 below in all_more (ends_before n) told f ((was n).0 both.0) both.1,
  λ all. let both = all_less (ends_before n) told f all in (more n).1 ((was n).1 both.0, both.1),
)

pub choice_anew : (told : List Listed) (c new : Choice) (f : Listed) → IsChoice told c → Cuts c.from told f → new.from ≡ c.from → new.rest.items ≡ [] ++ f ∷ [] → ((n : ℕ) → IsBelow new.greatest n ↔ (IsBelow c.greatest n × (f.entry.last < n))) → IsChoice (told ++ f ∷ []) new
choice_anew told c new f choice cuts from opened more = record {
  rest = subst (λ (n : ℕ). IsRest n (told ++ f ∷ []) new.rest.items) (sym from) (subst (λ (l : List Listed). IsRest c.from (told ++ f ∷ []) l) (sym opened) (rest_anew c.from told f cuts));
  greatest = greatest_more told f c.greatest new.greatest choice.greatest more;
}

pub choice_more : (told : List Listed) (c new : Choice) (f : Listed) → IsChoice told c → (Cuts c.from told f → ⊥) → new.from ≡ c.from → new.rest.items ≡ c.rest.items ++ f ∷ [] → ((n : ℕ) → IsBelow new.greatest n ↔ (IsBelow c.greatest n × (f.entry.last < n))) → IsChoice (told ++ f ∷ []) new
choice_more told c new f choice never from opened more = record {
  rest = subst (λ (n : ℕ). IsRest n (told ++ f ∷ []) new.rest.items) (sym from) (subst (λ (l : List Listed). IsRest c.from (told ++ f ∷ []) l) (sym opened) (rest_more c.from told c.rest.items f choice.rest never));
  greatest = greatest_more told f c.greatest new.greatest choice.greatest more;
}

-- a file cuts where it begins before the moment and behind the greatest
pub cuts_told : (told : List Listed) (c : Choice) (f : Listed) → IsChoice told c → ((f.entry.first < c.from) × IsBelow c.greatest f.entry.first) ↔ Cuts c.from told f
cuts_told told c f choice = (λ cut. (cut.0, (choice.greatest f.entry.first).0 cut.1), λ cut. (cut.0, (choice.greatest f.entry.first).1 cut.1))

-- both parts of what a call promises at Ok
pub on_ok_both : {X E A B C : Type 0} (r : Result X E) → (A → B → C) → OnOk r A → OnOk r B → OnOk r C
on_ok_both {X} {E} {A} {B} {C} (Ok x) f a b = f a b
on_ok_both {X} {E} {A} {B} {C} (Err e) f a b = tt

-- the entries so far, with one more
pub listed_more : (store : ℕ) (entries : List Entry) (i : ℕ) (e : Entry) → i < length entries → e ≡ get_or entries i e → listed store (take (i + 1) entries) ≡ listed store (take i entries) ++ (let f : Listed = record { store = store; entry = e } in f) ∷ []
listed_more store entries i e low is =
    ap (listed store) (take_more entries i e low ∙ ap (λ (x : Entry). take i entries ++ x ∷ []) (sym is))
    ∙ map-append (λ (x : Entry). let f : Listed = record { store = store; entry = x } in f) (take i entries) (e ∷ [])

-- THE END

-- so many of the rest are opened
pub chosen_to : (told : List Listed) (c : Choice) (n : ℕ) → IsChoice told c → All (StartsPast c.from c.to) (drop n c.rest.items) → EndsWithin c.from c.to (take n c.rest.items) → IsChosen c.from c.to told (take n c.rest.items)
chosen_to told c n choice past within = record {
  behind = drop n c.rest.items;
  rest = subst (IsRest c.from told) (sym (take-append-drop n c.rest.items)) choice.rest;
  past = past;
  within = within;
}
