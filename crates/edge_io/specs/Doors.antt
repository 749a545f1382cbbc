-- What doors give and take back.
use Rattle.std.specs.Prelude.{◌≡◌, ℕ, ◌+◌, Bool, true, false, length, List, [], ◌∷◌, ◌++◌, Option, Some, IfSome, option_map}
use Rattle.edge_io.specs.Stream.{Rose}
use Rattle.edge_io.specs.Memory.{Input, Output, Calls, after_call, IsNextListed}
use Rattle.edge_io.specs.declared.link.Next.{Next}
use Rattle.edge_io.specs.declared.link.Next.TheVariants as next

-- how many links were given, and those that came back, each as it came
pub record Ledger (L : Type 0) : Type 0 where
  pub given : ℕ
  pub back : List L

abbrev pub one_given : {L : Type 0} → Ledger L → Ledger L
one_given l = record { given = l.given + 1; back = l.back }

abbrev pub one_back : {L : Type 0} → L → Ledger L → Ledger L
one_back x l = record { given = l.given; back = l.back ++ x ∷ [] }

-- a link as a door gives it: nothing is written, and nothing has failed
pub record IsFresh {L : Type 0} (written : L → Option (List ℕ)) (read_faults write_faults : L → ℕ) (l : L) : Type 0 where
  pub nothing : IfSome (written l) (λ xs. xs ≡ [])
  pub reads : read_faults l ≡ 0
  pub writes : write_faults l ≡ 0

module _ {D L : Type 0} (is_closed : D → Bool) (faults : D → ℕ) (ledger : D → Option (Ledger L)) where
  -- What a call of `next` came to. A door that has answered `Closed` answers nothing else.
  abbrev pub Gives : (L → Option (List ℕ)) → (L → ℕ) → (L → ℕ) → D → Next L → D → Type 0
  Gives written read_faults write_faults old (next.Link l) new =
      (is_closed old ≡ false) × (is_closed new ≡ false) × (ledger new ≡ option_map one_given (ledger old)) × IsFresh written read_faults write_faults l
  Gives written read_faults write_faults old next.Closed new = (is_closed new ≡ true) × (ledger new ≡ ledger old)
  Gives written read_faults write_faults old next.Failed new = (is_closed old ≡ false) × (is_closed new ≡ false) × (ledger new ≡ ledger old) × Rose (faults old) (faults new)

  -- The link came back, as it is.
  abbrev pub TakesBack : D → L → D → Type 0
  TakesBack old l new = (is_closed new ≡ is_closed old) × (faults new ≡ faults old) × (ledger new ≡ option_map (one_back l) (ledger old))

-- a link in memory: a source and a sink
pub record Both : Type 0 where
  pub input : Input
  pub output : Output

-- a door over a list: the links that it will give, how many of those given are out, those that came back, whether it has answered `Closed`, and its calls of `next`
pub record ListedLinks (L : Type 0) : Type 0 where
  pub left : List L
  pub out : ℕ
  pub back : List L
  pub closed : Bool
  pub calls : Calls

-- as many were given as are out or came back
abbrev pub ledger_of : {L : Type 0} → ListedLinks L → Ledger L
ledger_of d = record { given = length d.back + d.out; back = d.back }

-- What a call of `next` on a door over a list came to: it fails exactly where its number is listed, and else gives the first link that is left.
pub record ListGives {L : Type 0} (old : ListedLinks L) (result : Next L) (new : ListedLinks L) : Type 0 where
  pub closed : old.closed ≡ true → (result ≡ next.Closed) × (new ≡ old)
  pub failed : old.closed ≡ false → IsNextListed old.calls → (result ≡ next.Failed) × (new ≡ record old { calls = after_call old.calls true })
  pub ended : old.closed ≡ false → (IsNextListed old.calls → ⊥) → old.left ≡ [] → (result ≡ next.Closed) × (new ≡ record old { closed = true; calls = after_call old.calls false })
  pub given : old.closed ≡ false → (IsNextListed old.calls → ⊥) → (l : L) (ls : List L) → old.left ≡ l ∷ ls → (result ≡ next.Link l) × (new ≡ record old { left = ls; out = old.out + 1; calls = after_call old.calls false })

-- a door of a listener: how many connections it will still give, where there is a bound; whether it has answered `Closed`; and how often it failed
pub record Listening : Type 0 where
  pub left : Option ℕ
  pub closed : Bool
  pub faults : ℕ

-- It is closed exactly where all its links were given, and a link that is given is one less.
abbrev pub Counts : {L : Type 0} → Listening → Next L → Listening → Type 0
Counts old (next.Link l) new = old.left ≡ option_map (λ n. n + 1) new.left
Counts old next.Closed new = (old.left ≡ Some 0) × (new.left ≡ Some 0) × (new.faults ≡ old.faults)
Counts old next.Failed new = (old.left ≡ Some 0 → ⊥) × (new.left ≡ old.left)
