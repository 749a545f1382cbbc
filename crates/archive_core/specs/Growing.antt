-- How what a store lists of a row goes on beside a running move that takes it to the next store.
use Rattle.std.specs.FinMap.{FinMap, get}
use Rattle.std.specs.Ordering.{nat_cmp}
use Rattle.std.specs.Prelude.{◌≡◌, ◌⊎◌, ◌≤◌, ℕ, List, [], ◌∷◌, ◌++◌, Bool, IsTrue, Some}
use Rattle.series_model.specs.Series.{RisesFrom}
use Rattle.series_model.specs.declared.sample.Sample.{Sample}
use Rattle.durable_write.specs.Held.{Filed}
use Rattle.act_model.specs.Machine.{MoveState}

-- a file goes on with samples from a moment on
pub record HasMore (end : ℕ) (old new : Filed) : Type 0 where
  pub back : List Sample
  pub samples : new.samples ≡ old.samples ++ back
  pub later : RisesFrom end back

-- A file is listed further, behind a header of the same length. What it gets is said where what is held stands.
pub record GoesFurther (stands : Bool) (end : ℕ) (old new : Filed) : Type 0 where
  pub part : new.entry.part ≡ old.entry.part
  pub head_len : new.entry.head_len ≡ old.entry.head_len
  pub len : old.entry.len ≤ new.entry.len
  pub more : IsTrue stands → HasMore end old new

-- the last of the files goes on, and others may stand behind it
pub record LastGoesOn (stands : Bool) (end : ℕ) (old new : List Filed) : Type 0 where
  pub front : List Filed
  pub last : Filed
  pub grown : Filed
  pub more : List Filed
  pub were : old ≡ front ++ last ∷ []
  pub are : new ≡ front ++ grown ∷ more
  pub further : GoesFurther stands end last grown

-- The files of a row stay, or the last of them goes on, with samples from this moment on. Others may stand behind them.
abbrev pub FilesGoOn : Bool → ℕ → List Filed → List Filed → Type 0
FilesGoOn stands end old new = ((more : List Filed) × (new ≡ old ++ more)) ⊎ LastGoesOn stands end old new

-- a move of the row runs
abbrev pub HasRunning : FinMap nat_cmp MoveState → ℕ → Type 0
HasRunning moves row = (n : ℕ) × (move : MoveState) × (get moves n ≡ Some move) × (move.row ≡ row)
