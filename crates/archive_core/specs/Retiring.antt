-- What a retirement brings to limbo, and a retirement that stands in doubt.
--
-- Where it stands in doubt, its files have come to limbo before the commit, and their store may list them still: as long as it does, they
-- count for nothing in limbo. Where the doubt is settled as made, all of them come to the machine's limbo, whether a pin names them or not, and
-- a sweep finds those that none names.
use Rattle.std.specs.FinMap.{FinMap, get}
use Rattle.std.specs.List.{AllByRecursion}
use Rattle.std.specs.Ordering.{nat_cmp}
use Rattle.std.specs.Prelude.{◌≡◌, ◌≢◌, ℕ, List, Bool, true, Contains, Some, length, map, slice_get}
use Rattle.store_manifest.specs.declared.entry.Entry.{Entry}
use Rattle.durable_write.specs.Held.{Filed, entry_of}
use Rattle.tier_store.specs.Pinned.{SeenAll}
use Rattle.tier_store.specs.Retiring.{oldest, without_oldest}
use Rattle.tier_store.specs.Stores.{Stores}
use Rattle.act_model.specs.Changes.{Retires, made}
use Rattle.act_model.specs.Limbo.{RowFile}
use Rattle.act_model.specs.Machine.{Machine, MoveState, Unlists}
use Rattle.act_model.specs.Rows.{RowState, Store}
use Rattle.act_model.specs.Rule.{index_of}
use Rattle.act_model.specs.Sweep.{IsPinned}
use Rattle.archive_core.specs.LimboTies.{HasRetired, IsLimboOf, row_file}
use Rattle.archive_core.specs.MoveTies.{IsCopiedTo, ends_from}

-- THE MOVE

-- as many files are listed as a move has parts, and each of these was copied so far as all that is before n
pub record AreCopiedTo (n : ℕ) (parts : List Entry) (files : List Filed) : Type 0 where
  pub number : length files ≡ length parts
  pub each : (k : ℕ) (part : Entry) (f : Filed) → slice_get parts k ≡ Some part → slice_get files k ≡ Some f → IsCopiedTo n part f

-- the lengths up to which they are published
abbrev pub lengths_of : List Entry → List ℕ
lengths_of parts = map (λ (e : Entry). e.len) parts

-- LIMBO

-- A retirement stands in doubt. After it the store lists what it listed without so many of the row's oldest files, up to this moment. Each of
-- these is in limbo, as a file of the machine.
pub record IsRetiring (tells : Bool) (all : SeenAll) (told : Bool) (rows : List RowState) (before after : Stores) (i : ℕ) (store : Store) (to : ℕ) : Type 0 where
  pub number : ℕ
  pub same : after ≡ without_oldest (index_of store) i number before
  pub ends : told ≡ true → to ≡ ends_from 0 (map entry_of (oldest (index_of store) i number before))
  pub handed : told ≡ true → (h : Filed) → Contains (oldest (index_of store) i number before) h → HasRetired tells all rows (row_file i store h)

-- All moves that run are of other rows. So it is while the retirement stands in doubt: the fault has ended its move, and none begins before that is settled.
abbrev pub AreOfOthers : ℕ → FinMap nat_cmp MoveState → Type 0
AreOfOthers i moves = (n : ℕ) (move : MoveState) → get moves n ≡ Some move → move.row ≢ i

-- The files of the machine that come to its limbo with a retirement, which is then the stores'. Each of them is named by a pin.
pub record LimboRetires (tells : Bool) (all : SeenAll) (m : Machine) (i : ℕ) (store : Store) (to : ℕ) : Type 0 where
  pub into : List RowFile
  pub retires : Retires m (Unlists i store to) into
  pub pinned : m.told ≡ true → AllByRecursion (IsPinned m) into
  pub limbo : IsLimboOf tells all m.told (made into (Unlists i store to) m).rows (made into (Unlists i store to) m).limbo

-- Those that come to it as the doubt is settled as made, and limbo then.
pub record SettlesRetired (tells : Bool) (all : SeenAll) (m : Machine) (i : ℕ) (store : Store) (to : ℕ) : Type 0 where
  pub into : List RowFile
  pub retires : Retires m (Unlists i store to) into
  pub limbo : IsLimboOf tells all m.told (made into (Unlists i store to) m).rows (made into (Unlists i store to) m).limbo
