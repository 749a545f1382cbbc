-- All moves that are due, put together of the moves of both stores and the sweep.
use Rattle.std.proofs.Common.{◌≡◌, ℕ, List, [], ◌∷◌, ◌++◌, Ok, Err, refl, ap, sym, ◌∙◌, subst, append_assoc, append-nil}
use Rattle.act_model.specs.declared.acts.Act.TheVariants.{Sweep}
use Rattle.act_model.specs.declared.acts.Answer.TheVariants.{Nothing}
use Rattle.act_model.specs.Reply.{Reply}
use Rattle.act_model.specs.History.{Done}
use Rattle.serving.specs.Rounds.{IsOfStore}
use Rattle.serving.specs.declared.moves.MoveErr.{MoveErr}
use Rattle.serving.specs.declared.moves.MoveErr.TheVariants as err
use Rattle.serving.specs.declared.moves.StoreMoved.{StoreMoved}
use Rattle.serving.specs.Moves.{StoppedBy, StoreMovesSo, IsSwept}
use Rattle.serving.specs.Due.{IsNothing, StopsIn, in_short, in_medium, at_sweep, AreDueSoFar, within_short, within_medium, before_sweep, MovesDue}
use Rattle.serving.proofs.Moving.{store_as}

-- the moves of both stores, up to where each had none to make
pub record BothMoved (now : ℕ) (short medium : StoreMoved) (ds : List Done) : Type 0 where
  pub one : List Done
  pub two : List Done
  pub is : ds ≡ one ++ two
  pub of_short : StoreMovesSo 1 now (Ok short) one
  pub of_medium : StoreMovesSo 2 now (Ok medium) two

pub both_moved : (now : ℕ) (short medium : StoreMoved) (xs ys : List Done) → StoreMovesSo 1 now (Ok short) xs → StoreMovesSo 2 now (Ok medium) ys → BothMoved now short medium (xs ++ ys)
both_moved now short medium xs ys p q = record { one = xs; two = ys; is = refl; of_short = p; of_medium = q }

nothing_left : (store now : ℕ) (moved : StoreMoved) (ds : List Done) → StoreMovesSo store now (Ok moved) ds → IsOfStore IsNothing store now ds
nothing_left store now moved ds p = store_as (λ reply. reply ≡ Nothing moved.doors) IsNothing (λ reply is. (moved.doors, is)) store now ds p.0

pub short_stops : (why : MoveErr) (now : ℕ) (ds : List Done) → StoreMovesSo 1 now (Err why) ds → MovesDue now (Err why) ds
short_stops err.DiskFault now ds p = in_short p
short_stops (err.Damaged name at) now ds p = in_short p
short_stops err.Spent now ds p = within_short p
short_stops err.Memory now ds p = in_short p

pub medium_stops : (why : MoveErr) (now : ℕ) (short : StoreMoved) (xs ys : List Done) → StoreMovesSo 1 now (Ok short) xs → StoreMovesSo 2 now (Err why) ys → MovesDue now (Err why) (xs ++ ys)
medium_stops err.DiskFault now short xs ys p q = in_medium (nothing_left 1 now short xs p) q
medium_stops (err.Damaged name at) now short xs ys p q = in_medium (nothing_left 1 now short xs p) q
medium_stops err.Spent now short xs ys p q = within_medium (nothing_left 1 now short xs p) q
medium_stops err.Memory now short xs ys p q = in_medium (nothing_left 1 now short xs p) q

-- the three parts, one behind another
parts : (now : ℕ) (short medium : StoreMoved) (xs ys : List Done) (sweep : Done) (b : BothMoved now short medium xs) → ys ≡ sweep ∷ [] → xs ++ ys ≡ b.one ++ (b.two ++ sweep ∷ [])
parts now short medium xs ys sweep b is = ap (λ (w : List Done). w ++ ys) b.is ∙ (append_assoc b.one b.two ys ∙ ap (λ (w : List Done). b.one ++ (b.two ++ w)) is)

sweep_cut : (Such : Reply → Type 0) (now : ℕ) (short medium : StoreMoved) (xs ys : List Done) (sweep : Done) → BothMoved now short medium xs → ys ≡ sweep ∷ [] → sweep.act ≡ Sweep → Such sweep.answer → StopsIn Such now (xs ++ ys)
sweep_cut Such now short medium xs ys sweep b is act such =
    subst (λ w. StopsIn Such now w) (sym (parts now short medium xs ys sweep b is))
    (at_sweep sweep (nothing_left 1 now short b.one b.of_short) (nothing_left 2 now medium b.two b.of_medium) act such)

pub sweep_stops : (why : MoveErr) (now : ℕ) (short medium : StoreMoved) (xs ys : List Done) → BothMoved now short medium xs → IsSwept (Err why) ys → MovesDue now (Err why) (xs ++ ys)
sweep_stops err.DiskFault now short medium xs ys p q = sweep_cut (StoppedBy err.DiskFault) now short medium xs ys q.0 p q.1 q.2 q.3
sweep_stops (err.Damaged name at) now short medium xs ys p q = sweep_cut (StoppedBy (err.Damaged name at)) now short medium xs ys q.0 p q.1 q.2 q.3
sweep_stops err.Spent now short medium xs ys p q =
    let all : xs ++ ys ≡ p.one ++ p.two = ap (λ (w : List Done). xs ++ w) q ∙ (append-nil xs ∙ p.is) in
    subst (λ w. AreDueSoFar now w) (sym all) (before_sweep (nothing_left 1 now short p.one p.of_short) (nothing_left 2 now medium p.two p.of_medium))
sweep_stops err.Memory now short medium xs ys p q = sweep_cut (StoppedBy err.Memory) now short medium xs ys q.0 p q.1 q.2 q.3

pub all_moved : (now : ℕ) (short medium : StoreMoved) (xs ys : List Done) → BothMoved now short medium xs → IsSwept (Ok tt) ys → MovesDue now (Ok (record { short = short.retired; medium = medium.retired })) (xs ++ ys)
all_moved now short medium xs ys b q = record {
  short = b.one;
  medium = b.two;
  sweep = q.0;
  is = parts now short medium xs ys q.0 b q.1;
  of_short = nothing_left 1 now short b.one b.of_short;
  of_medium = nothing_left 2 now medium b.two b.of_medium;
  sweeps = q.2;
  files = q.3.0;
  swept = q.3.1;
  short_is = b.of_short.1;
  medium_is = b.of_medium.1;
}
