-- MoveStep: a move goes on. It copies the lines of its parts that the next store lacks, then lists the copies there, and then takes the
-- parts from their own store; the files of those that a pin names go to limbo. Where a part has grown meanwhile, nothing is taken and
-- the move ends. At no step does a row lose or gain a sample.
use Rattle.std.specs.FinMap.{FinMap, get, remove}
use Rattle.std.specs.List.{AllByRecursion}
use Rattle.std.specs.Ordering.{nat_cmp}
use Rattle.std.specs.Prelude.{◌≡◌, ◌≤◌, ℕ, ◌+◌, ◌<◌, ◌&&◌, List, [], ◌∷◌, ◌++◌, filter, Bool, true, false, if◌then◌else◌, nat_le, Option, Some, None, slice_get}
use Rattle.disk_model.specs.Files.{Name}
use Rattle.partition_names.specs.declared.part.Part.{Part}
use Rattle.series_model.specs.Series.{since, before, end_of, end_from}
use Rattle.series_model.specs.declared.sample.Sample.{Sample}
use Rattle.act_model.specs.Changes.{Retires, made}
use Rattle.act_model.specs.Limbo.{RowFile, files_of}
use Rattle.act_model.specs.Machine.{Machine, MoveState, Stage, Copies, HasCopied, HasPublished, Change, Publishes, Unlists}
use Rattle.act_model.specs.MoveBegin.{with_move}
use Rattle.act_model.specs.Outcome.{Acts, Same}
use Rattle.act_model.specs.Reply.{Reply}
use Rattle.act_model.specs.Rows.{RowState, next_store, tier, window, holds, size_of}
use Rattle.act_model.specs.Rule.{IsPartition}
use Rattle.act_model.specs.Sweep.{IsPinned}
use Rattle.act_model.specs.declared.acts.Answer.TheVariants.{NoMove, Damaged, Copying, Copied, Published, Retired, Again}

-- in the partition of a file of limbo only what is later than the file is copied
abbrev pub is_later : List RowFile → Sample → Bool
is_later [] s = true
is_later (f ∷ limbo) s = (if holds f.part s.t then nat_le (end_from f.part.start f.samples) s.t else true) && is_later limbo s

-- the lines that are left to copy
abbrev pub remaining : Machine → RowState → MoveState → List Sample
remaining m row move =
    filter (is_later (files_of move.row (next_store move.store) m.limbo)) (since (end_from (end_of (tier row (next_store move.store))) move.copied) (before move.to (tier row move.store)))

-- just these remain
abbrev pub RemainingIs : Machine → MoveState → List Sample → Type 0
RemainingIs m move xs = m.told ≡ true → (row : RowState) → slice_get m.rows move.row ≡ Some row → remaining m row move ≡ xs

-- the move at this stage, with these copies
abbrev pub moved : MoveState → Stage → List Sample → MoveState
moved move stage copied = record move { stage = stage; copied = copied }

-- the move is over
abbrev pub ends_move : ℕ → FinMap nat_cmp MoveState → FinMap nat_cmp MoveState
ends_move n moves = remove moves n

abbrev pub without_move : ℕ → Machine → Machine
without_move n m = record m { moves = ends_move n m.moves }

-- the refusal where no such move is running
abbrev pub no_move : Option MoveState → Option Reply
no_move None = Some NoMove
no_move (Some move) = None

-- nothing of the parts is later than what the destination lists
abbrev pub is_covered : Machine → MoveState → Bool
is_covered m move = if m.told then by_row (slice_get m.rows move.row) else true
  where
    by_row : Option RowState → Bool
    by_row None = true
    by_row (Some row) = nat_le (end_of (before move.to (tier row move.store))) (end_of (tier row (next_store move.store)))

-- where a part has grown, the act makes no change
abbrev pub change_at : Machine → Stage → MoveState → Option Change
change_at m Copies move = None
change_at m HasCopied move = Some (Publishes move.row move.store move.copied)
change_at m HasPublished move = if is_covered m move then Some (Unlists move.row move.store move.to) else None

-- the change that the next step of a move may make: the listing of its copies, or the leaving of its parts
abbrev pub change_of : Machine → Option MoveState → Option Change
change_of m None = None
change_of m (Some move) = change_at m move.stage move

-- The oldest of a move's parts that has more than was published, with its listed and its published length: bytes with the header's line
pub record IsGrown (m : Machine) (move : MoveState) (row : RowState) (len copied : ℕ) : Type 0 where
  pub part : Part
  pub head_len : ℕ
  pub partition : IsPartition m.rule move.store part
  pub of_move : part.end ≤ move.to
  pub older : end_of (before part.start (tier row move.store)) ≤ end_of (tier row (next_store move.store))
  pub grew : end_of (tier row (next_store move.store)) < end_of (window part (tier row move.store))
  pub listed : len ≡ head_len + size_of (window part (tier row move.store))
  pub published : copied ≡ head_len + size_of (before (end_of (tier row (next_store move.store))) (window part (tier row move.store)))

-- how a move goes on, once a doubt is settled
pub data GoesOn (n : ℕ) : Machine → Reply → Machine → Type 0 where
  -- some of the lines that remain are copied, and others remain still
  copies : {mid new : Machine} (move : MoveState) (first : Sample) (more : List Sample) (next : Sample) (rest : List Sample)
      → get mid.moves n ≡ Some move → move.stage ≡ Copies → RemainingIs mid move ((first ∷ more) ++ next ∷ rest)
      → Same (with_move n (moved move Copies (move.copied ++ (first ∷ more))) mid) new → GoesOn n mid Copying new
  -- all that remained is copied
  has_copied : {mid new : Machine} (move : MoveState) (xs : List Sample) → get mid.moves n ≡ Some move → move.stage ≡ Copies
      → RemainingIs mid move xs
      → Same (with_move n (moved move HasCopied (move.copied ++ xs)) mid) new → GoesOn n mid Copied new
  -- the copies are listed
  publishes : {mid new : Machine} (move : MoveState) → get mid.moves n ≡ Some move → move.stage ≡ HasCopied
      → Same (with_move n (moved move HasPublished move.copied) (made [] (Publishes move.row move.store move.copied) mid)) new
      → GoesOn n mid Published new
  -- the parts leave their store, and the move has ended; the files that go to limbo are pinned
  retires : {mid new : Machine} (move : MoveState) (into : List RowFile) → get mid.moves n ≡ Some move → move.stage ≡ HasPublished
      → is_covered mid move ≡ true → Retires mid (Unlists move.row move.store move.to) into
      → (mid.told ≡ true → AllByRecursion (IsPinned mid) into)
      → Same (without_move n (made into (Unlists move.row move.store move.to) mid)) new → GoesOn n mid (Retired move.parts) new
  -- a part has grown: nothing leaves, and the move has ended
  again : {mid new : Machine} (move : MoveState) (len copied : ℕ) → get mid.moves n ≡ Some move → move.stage ≡ HasPublished
      → (mid.told ≡ true → is_covered mid move ≡ false) → copied < len
      → (mid.told ≡ true → (row : RowState) → slice_get mid.rows move.row ≡ Some row → IsGrown mid move row len copied)
      → Same (without_move n mid) new → GoesOn n mid (Again len copied) new
  -- a file can't be read as it should; only where the disk doesn't tell its files, or they don't stand
  damaged : {mid new : Machine} (name : Name) (at : ℕ) → (mid.told ≡ true → ⊥) → Same (without_move n mid) new
      → GoesOn n mid (Damaged name at) new

abbrev pub MoveStepStep : ℕ → Machine → Reply → Machine → Type 0
MoveStepStep n old answer new = Acts (λ m. no_move (get m.moves n)) (GoesOn n) (λ m. change_of m (get m.moves n)) (ends_move n) old answer new
