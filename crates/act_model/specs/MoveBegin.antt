-- MoveBegin: the least row that has a move to make, and none running, begins one. A move is of the row's oldest partitions in a store:
-- as many as the rule of the stores chooses of those that are over, or as the next store covers already, where that is more.
use Rattle.std.specs.FinMap.{get, insert}
use Rattle.std.specs.Prelude.{◌≡◌, ◌≢◌, ◌⊎◌, ℕ, ◌+◌, ◌<◌, ◌==◌, List, [], ◌∷◌, ◌++◌, length, max, min, Bool, true, if◌then◌else◌, nat_le, Some, None, IsSome, slice_get, slice_index}
use Rattle.partition_names.specs.declared.part.Part.{Part}
use Rattle.series_model.specs.Limits.{most_parts}
use Rattle.series_model.specs.Series.{end_of}
use Rattle.act_model.specs.Machine.{Machine, MoveState, Copies}
use Rattle.act_model.specs.Outcome.{Acts, all_go, Same}
use Rattle.act_model.specs.Parts.{AreParts}
use Rattle.act_model.specs.Reply.{Reply}
use Rattle.act_model.specs.Rows.{RowState, Store, Long, next_store, tier, window}
use Rattle.act_model.specs.Rule.{Rule, index_of}
use Rattle.act_model.specs.declared.acts.Answer.TheVariants.{Begun, Busy, Nothing}

-- how many of the oldest pass
abbrev pub front_length : (Part → Bool) → List Part → ℕ
front_length p [] = 0
front_length p (x ∷ rest) = if p x then front_length p rest + 1 else 0

-- how many the rule chooses of so many that are ripe
abbrev pub chosen : ℕ → ℕ → ℕ → ℕ
chosen hold gather ripe = if hold == 0 then ripe else if nat_le hold ripe then min gather ripe else 0

-- the larger of the chosen and the covered, but at most as many as one move may have
abbrev pub parts_of : Rule → Store → ℕ → RowState → List Part → ℕ
parts_of rule store now row parts =
    min most_parts (max
    (chosen (slice_index rule.hold (index_of store)) (slice_index rule.gather (index_of store)) (front_length (λ p. nat_le p.end now) parts))
    (front_length (λ p. nat_le (end_of (window p (tier row store))) (end_of (tier row (next_store store)))) parts))

-- a row has a move to make: of so many parts, which end at this moment
pub record HasMove (rule : Rule) (store : Store) (now : ℕ) (row : RowState) (n to : ℕ) : Type 0 where
  pub parts : List Part
  pub are : AreParts rule store (tier row store) parts
  pub number : n ≡ parts_of rule store now row parts
  pub last : (before_it after_it : List Part) × (p : Part) × (parts ≡ before_it ++ p ∷ after_it) × (n ≡ length before_it + 1) × (to ≡ p.end)

-- a row has none
pub record HasNoMove (rule : Rule) (store : Store) (now : ℕ) (row : RowState) : Type 0 where
  pub parts : List Part
  pub are : AreParts rule store (tier row store) parts
  pub none : parts_of rule store now row parts ≡ 0

-- the row's move of this number is running
abbrev pub IsMoving : Machine → ℕ → ℕ → Type 0
IsMoving m i n = (move : MoveState) × (get m.moves n ≡ Some move) × (move.row ≡ i)

-- no move of the row is running
abbrev pub IsFree : Machine → ℕ → Type 0
IsFree m i = (n : ℕ) (move : MoveState) → get m.moves n ≡ Some move → move.row ≢ i

-- the row has no move to make, or one is running
abbrev pub IsPassed : Machine → Store → ℕ → ℕ → Type 0
IsPassed m store now i = (row : RowState) → slice_get m.rows i ≡ Some row → HasNoMove m.rule store now row ⊎ ((n : ℕ) × IsMoving m i n)

-- a move that has copied nothing yet
abbrev pub new_move : Store → ℕ → ℕ → ℕ → MoveState
new_move store i parts to = record { store = store; row = i; parts = parts; to = to; stage = Copies; copied = [] }

abbrev pub with_move : ℕ → MoveState → Machine → Machine
with_move n move m = record m { moves = insert m.moves n move }

-- how a move begins, once a doubt is settled
pub data Begins (store : Store) (now : ℕ) : Machine → Reply → Machine → Type 0 where
  -- a move begins under the least number that none has, of a row that has one to make and none running; each row before it has none to
  -- make, or one running
  begins : {mid new : Machine} (n i parts to : ℕ) → store ≢ Long → i < length mid.rows → IsFree mid i → get mid.moves n ≡ None → ((k : ℕ) → k < n → IsSome (get mid.moves k))
      → (mid.told ≡ true → (row : RowState) → slice_get mid.rows i ≡ Some row → HasMove mid.rule store now row parts to)
      → (mid.told ≡ true → (j : ℕ) → j < i → IsPassed mid store now j)
      → Same (with_move n (new_move store i parts to) mid) new → Begins store now mid (Begun n i parts) new
  -- each row that has a move to make has one running; the least of these is told
  all_run : {mid new : Machine} (n i : ℕ) → IsMoving mid i n → (mid.told ≡ true → (row : RowState) → slice_get mid.rows i ≡ Some row → (parts : ℕ) × (to : ℕ) × HasMove mid.rule store now row parts to)
      → (mid.told ≡ true → (j : ℕ) → IsPassed mid store now j)
      → (mid.told ≡ true → (j : ℕ) → j < i → (row : RowState) → slice_get mid.rows j ≡ Some row → HasNoMove mid.rule store now row)
      → Same mid new → Begins store now mid (Busy n) new
  -- no row has a move to make
  none_to_make : {mid new : Machine}
      → (mid.told ≡ true → (j : ℕ) (row : RowState) → slice_get mid.rows j ≡ Some row → HasNoMove mid.rule store now row) → Same mid new
      → Begins store now mid (Nothing mid.doors) new

abbrev pub MoveBeginStep : Store → ℕ → Machine → Reply → Machine → Type 0
MoveBeginStep store now old answer new = Acts (λ m. None) (Begins store now) (λ m. None) all_go old answer new
