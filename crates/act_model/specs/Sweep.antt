-- Sweep: files leave limbo for good, just those that no pin names and into whose partition no running move has copied.
use Rattle.std.specs.FinMap.{get}
use Rattle.std.specs.List.{list_any, AllByRecursion}
use Rattle.std.specs.Prelude.{◌≡◌, ◌⊎◌, ◌↔◌, ℕ, ◌==◌, ◌&&◌, List, length, filter, Bool, true, not, Some, None}
use Rattle.series_model.specs.declared.sample.Sample.{Sample}
use Rattle.act_model.specs.Limbo.{RowFile}
use Rattle.act_model.specs.Machine.{Machine, PinState, MoveState}
use Rattle.act_model.specs.Outcome.{Acts, all_go, Same}
use Rattle.act_model.specs.Reply.{Reply}
use Rattle.act_model.specs.Rows.{same_store, next_store, holds}
use Rattle.act_model.specs.declared.acts.Answer.TheVariants.{Swept}

-- the piece has the file's place
abbrev pub is_at : RowFile → RowFile → Bool
is_at f piece = piece.row == f.row && same_store piece.store f.store && piece.part.start == f.part.start

-- a pin names it
pub record IsPinned (m : Machine) (f : RowFile) : Type 0 where
  pub number : ℕ
  pub pin : PinState
  pub here : get m.pins number ≡ Some pin
  pub names : list_any (is_at f) pin.pieces ≡ true

-- a running move has copied into its partition
pub record IsCopiedInto (m : Machine) (f : RowFile) : Type 0 where
  pub number : ℕ
  pub move : MoveState
  pub here : get m.moves number ≡ Some move
  pub place : (move.row ≡ f.row) × (next_store move.store ≡ f.store)
  pub some : list_any (λ (s : Sample). holds f.part s.t) move.copied ≡ true

-- just these files stay
abbrev pub IsSwept : Machine → (RowFile → Bool) → List RowFile → Type 0
IsSwept m stays limbo = AllByRecursion (λ f. (stays f ≡ true) ↔ (IsPinned m f ⊎ IsCopiedInto m f)) limbo

-- the others leave limbo, and their number is told
pub record Sweeps (mid : Machine) (answer : Reply) (new : Machine) : Type 0 where
  pub stays : RowFile → Bool
  pub just : IsSwept mid stays mid.limbo
  pub files : ℕ
  pub number : mid.told ≡ true → files ≡ length (filter (λ f. not (stays f)) mid.limbo)
  pub answered : answer ≡ Swept files
  pub same : Same (record mid { limbo = filter stays mid.limbo }) new

abbrev pub SweepStep : Machine → Reply → Machine → Type 0
SweepStep old answer new = Acts (λ m. None) Sweeps (λ m. None) all_go old answer new
