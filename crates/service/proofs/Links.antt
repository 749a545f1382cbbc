-- Links that were served and came back, one after another.
use Rattle.std.proofs.Common.{◌≡◌, ◌⊎◌, inl, inr, ℕ, ◌+◌, ◌<◌, ◌≤◌, List, [], ◌∷◌, ◌++◌, length, Bool, true, false, Option, Some, None, refl, ap, sym, subst, ◌∙◌, arith, append_assoc, append-nil}
use Rattle.std.specs.Prelude.{◌||◌, IfSome, option_map}
use Rattle.std.specs.List.{list_any}
use Rattle.std.proofs.lemmas.List.{length-append}
use Rattle.std.proofs.lemmas.List.Elements.{All-nil, All-push}
use Rattle.edge_io.specs.Doors.{IsFresh, Ledger, one_back, one_given}
use Rattle.edge_io.specs.Moments.{Moments}
use Rattle.edge_io.specs.declared.link.Door.{Ghosts as OfDoor}
use Rattle.edge_io.specs.Stream.{Rose}
use Rattle.service.specs.declared.served.Kind.{Kind}
use Rattle.service.specs.declared.served.Served.{Served}
use Rattle.service.specs.declared.served.Served.TheVariants as served
use Rattle.service.specs.Doors.{InTurn, IsAtEnd, IsServed, Leaves, LeavesTold, ServesNext, is_memory, no_link, one_more_link, with_back}
use Rattle.service.specs.Serving.{HasBegun, HasReply}

-- LEDGERS

abbrev ledger_of : {L : Type 0} → ℕ → List L → Ledger L
ledger_of given back = record { given = given; back = back }

ledger_is : {L : Type 0} (n m : ℕ) (xs ys : List L) → n ≡ m → xs ≡ ys → ledger_of n xs ≡ ledger_of m ys
ledger_is {L} n m xs ys p q = ap (λ (k : ℕ). ledger_of k xs) p ∙ ap (λ (zs : List L). ledger_of m zs) q

back_none : {L : Type 0} (o : Option (Ledger L)) → o ≡ option_map (with_back []) o
back_none None = refl
back_none (Some l) = ap Some (ledger_is l.given (l.given + 0) l.back (l.back ++ []) (omega arith) (sym (append-nil l.back)))

pub back_one : {L : Type 0} (x : L) (o : Option (Ledger L)) → option_map (one_back x) (option_map one_given o) ≡ option_map (with_back (x ∷ [])) o
back_one x None = refl
back_one x (Some l) = ap Some (ledger_is (l.given + 1) (l.given + length (x ∷ [])) (l.back ++ x ∷ []) (l.back ++ x ∷ []) (omega arith) refl)

pub back_both : {L : Type 0} (xs ys : List L) (o : Option (Ledger L)) → option_map (with_back ys) (option_map (with_back xs) o) ≡ option_map (with_back (xs ++ ys)) o
back_both xs ys None = refl
back_both xs ys (Some l) =
    let both = length-append xs ys in
    ap Some (ledger_is (l.given + length xs + length ys) (l.given + length (xs ++ ys)) (l.back ++ xs ++ ys) (l.back ++ (xs ++ ys)) (omega arith) (append_assoc l.back xs ys))

-- a link that was given may come back
pub may_come_back : {L : Type 0} (o : Option (Ledger L)) → IfSome o (λ l. length l.back ≤ l.given) → IfSome (option_map one_given o) (λ l. length l.back < l.given)
may_come_back None fair = tt
may_come_back (Some l) fair = omega arith

-- WANT OF MEMORY

or_last : (a b c : Bool) → (a || (b || c)) ≡ ((a || b) || c)
or_last true b c = refl
or_last false b c = refl

or_none : (b : Bool) → (b || false) ≡ b
or_none true = refl
or_none false = refl

first_none : (a b : Bool) → (a || b) ≡ false → a ≡ false
first_none true b none = absurd cc
first_none false b none = refl

any_push : {X : Type 0} (test : X → Bool) (xs : List X) (x : X) → list_any test (xs ++ x ∷ []) ≡ (list_any test xs || test x)
any_push test [] x = or_none (test x)
any_push test (y ∷ ys) x = ap (λ (b : Bool). test y || b) (any_push test ys x) ∙ or_last (test y) (list_any test ys) (test x)

-- DOORS

module _ {A D L R : Type 0} (door : OfDoor D L) (Fresh : L → Type 0) (Is : L → Type 0) (Serves : A → Option Moments → L → Served R → A → Option Moments → L → Type 0) where
  abbrev Were : A → Option Moments → A → Option Moments → List L → List (Served R) → Type 0
  Were old clock new clock' links results = InTurn Fresh Serves old clock links results new clock'

  abbrev Next : A → Option Moments → A → Option Moments → D → D → Type 0
  Next old clock new clock' a b = ServesNext door Fresh (λ was result l. Serves old clock was result new clock' l) a b

  -- no link was given
  pub leaves_none : (old : A) (clock : Option Moments) (a : D) → LeavesTold door Is (Were old clock old clock) a false a
  leaves_none old clock a = record {
    left = record { links = []; results = []; were = no_link; returned = back_none (door.ledger a); faults_rise = omega arith };
    told = refl;
    are = λ enough. All-nil Is;
  }

  -- links, and then one more
  abbrev pub leaves_more : (old mid new : A) (clock₁ clock₂ clock₃ : Option Moments) (a b c : D) → Leaves door (Were old clock₁ mid clock₂) a b → Next mid clock₂ new clock₃ b c → Leaves door (Were old clock₁ new clock₃) a c
  leaves_more old mid new clock₁ clock₂ clock₃ a b c p n = record {
    links = p.links ++ n.link ∷ [];
    results = p.results ++ n.result ∷ [];
    were = one_more_link n.was n.link n.result new clock₃ p.were n.fresh n.serves;
    returned = n.returned ∙ (ap (λ (o : Option (Ledger L)). option_map (with_back (n.link ∷ [])) o) p.returned ∙ back_both p.links (n.link ∷ []) (door.ledger a));
    faults_rise = (let one = p.faults_rise in let two = n.faults_rise in omega arith);
  }

  -- and it is told whether memory ran out
  pub told_more : (old mid new : A) (clock₁ clock₂ clock₃ : Option Moments) (a b c : D) (before now : Bool) → LeavesTold door Is (Were old clock₁ mid clock₂) a before b
      → (n : Next mid clock₂ new clock₃ b c) → now ≡ (before || is_memory n.result) → (now ≡ false → Is n.link) → LeavesTold door Is (Were old clock₁ new clock₃) a now c
  told_more old mid new clock₁ clock₂ clock₃ a b c before now p n same is = record {
    left = leaves_more old mid new clock₁ clock₂ clock₃ a b c p.left n;
    told = same ∙ (ap (λ (x : Bool). x || is_memory n.result) p.told ∙ sym (any_push is_memory p.left.results n.result));
    are = λ enough. All-push Is p.left.links n.link (p.are (first_none before (is_memory n.result) (sym same ∙ enough))) (is enough);
  }

  -- no link came any more, and nothing was done
  pub told_end : (old mid new : A) (clock₁ clock₂ clock₃ : Option Moments) (a b c : D) (lacked : Bool) → LeavesTold door Is (Were old clock₁ mid clock₂) a lacked b
      → new ≡ mid → clock₃ ≡ clock₂ → door.ledger c ≡ door.ledger b → door.door_faults b ≤ door.door_faults c → LeavesTold door Is (Were old clock₁ new clock₃) a lacked c
  told_end old mid new clock₁ clock₂ clock₃ a b c lacked p same_actor same_clock same rise = record {
    left = record {
      links = p.left.links;
      results = p.left.results;
      were = subst (λ (x : A). Were old clock₁ x clock₃ p.left.links p.left.results) (sym same_actor) (subst (λ (t : Option Moments). Were old clock₁ mid t p.left.links p.left.results) (sym same_clock) p.left.were);
      returned = same ∙ p.left.returned;
      faults_rise = (let one = p.left.faults_rise in omega arith);
    };
    told = p.told;
    are = p.are;
  }

-- the door's end, seen from its beginning
pub end_later : {D : Type 0} (is_closed : D → Bool) (faults : D → ℕ) (a b c : D) (failed : Bool) → faults a ≤ faults b → IsAtEnd is_closed faults b failed c → IsAtEnd is_closed faults a failed c
end_later is_closed faults a b c false rise closed = closed
end_later is_closed faults a b c true rise rose = omega arith

-- A LINK

module _ {L : Type 0} (kind : Kind) (written : L → Option (List ℕ)) (reads writes : L → ℕ) (was l : L) (fresh : IsFresh written reads writes was) where
  replied : HasReply kind (written was) (written l) → IsServed kind written reads writes l
  replied reply = record { was = was; fresh = fresh; end = inr (inr reply) }

  by_peer : Rose (reads was) (reads l) ⊎ Rose (writes was) (writes l) → IsServed kind written reads writes l
  by_peer (inl rose) = record { was = was; fresh = fresh; end = inl (let none = fresh.reads in omega arith) }
  by_peer (inr rose) = record { was = was; fresh = fresh; end = inr (inl (let none = fresh.writes in omega arith)) }

  pub link_served : {R : Type 0} (result : Served R) → (result ≡ served.Spent → ⊥) → (result ≡ served.Memory → ⊥) → HasBegun kind result (written was) (written l)
      → (result ≡ served.PeerFault → Rose (reads was) (reads l) ⊎ Rose (writes was) (writes l)) → IsServed kind written reads writes l
  link_served served.Finished spent memory begun peer = replied begun
  link_served (served.Fed told) spent memory begun peer = replied begun
  link_served (served.Refused why) spent memory begun peer = replied begun
  link_served (served.ReadFault failed) spent memory begun peer = replied begun
  link_served (served.Damaged name at) spent memory begun peer = replied begun
  link_served served.PeerFault spent memory begun peer = by_peer (peer refl)
  link_served served.Spent spent memory begun peer = absurd (spent refl)
  link_served served.Memory spent memory begun peer = absurd (memory refl)

-- such a result tells no want of memory
pub no_memory : {R : Type 0} (result : Served R) → (result ≡ served.Memory → ⊥) → is_memory result ≡ false
no_memory served.Finished other = refl
no_memory (served.Fed told) other = refl
no_memory (served.Refused why) other = refl
no_memory (served.ReadFault failed) other = refl
no_memory (served.Damaged name at) other = refl
no_memory served.PeerFault other = refl
no_memory served.Spent other = refl
no_memory served.Memory other = absurd (other refl)

pub or_true : (b : Bool) → true ≡ (b || true)
or_true true = refl
or_true false = refl

pub or_false : (b c : Bool) → c ≡ false → b ≡ (b || c)
or_false b c none = sym (ap (λ (x : Bool). b || x) none ∙ or_none b)
