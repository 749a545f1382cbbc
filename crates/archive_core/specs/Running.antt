-- Acts that are made on an archive one after another, by anyone: they run in the machine, and what a crash at any moment since the first may
-- leave lies between what was durable before them and what is accepted after them, of each row and of the whole of each.
use Rattle.std.specs.Prelude.{◌≡◌, ℕ, List, [], ◌∷◌, ◌++◌, map, Bool, Some, true, IsTrue, slice_get}
use Rattle.disk_model.specs.Files.{Files}
use Rattle.disk_model.specs.Past.{Passes}
use Rattle.partition_names.specs.declared.granularity.Granularity.{Granularity}
use Rattle.series_model.specs.Archive.{IsPrefix}
use Rattle.tier_store.specs.Seen.{granularities}
use Rattle.act_model.specs.declared.acts.Act.{Act}
use Rattle.act_model.specs.Crash.{LeftBetween, LeftWithin, WholesBetween}
use Rattle.act_model.specs.History.{Entry, Runs}
use Rattle.act_model.specs.Machine.{Machine}
use Rattle.act_model.specs.Reply.{Reply}
use Rattle.act_model.specs.Rows.{RowState, accepted, durable}
use Rattle.act_model.specs.Step.{change_by, refuse_by}
use Rattle.archive_core.specs.Ends.{HoldsMachine}
use Rattle.archive_core.specs.Parts.{Parts}
use Rattle.archive_core.specs.Stands.{Stands}

-- what a crash leaves within the first of these acts, or where there is none
abbrev pub LeftIn : Machine → List Entry → Machine → Type 0
LeftIn at [] left = LeftBetween at left
LeftIn at (e ∷ rest) left = LeftWithin (refuse_by e.act) (change_by e.act) at left

-- A crash within one of the acts leaves this, or one behind the last of them: of the state to which those before it led.
pub record LeftAlong (start : Machine) (entries : List Entry) (left : Machine) : Type 0 where
  pub front : List Entry
  pub back : List Entry
  pub split : entries ≡ front ++ back
  pub at : Machine
  pub to : Runs start front at
  pub is : LeftIn at back left

-- The image holds what a crash within one of the acts leaves. So it holds each row of the start over the same base, with no less than was durable
-- of it then; and what it holds of a row, where that is anything, is over the base that the row has at the end, and a front of what is accepted
-- of it there. So it is of the wholes. It stands: it has the bytes of its files.
pub record HoldsBetween (gs : List Granularity) (start : Machine) (entries : List Entry) (end : Machine) (image : Files) : Type 0 where
  pub left : Machine
  pub along : LeftAlong start entries left
  pub told : left.told ≡ true
  pub holds : HoldsMachine gs image left
  pub extends : (i : ℕ) (first : RowState) → slice_get start.rows i ≡ Some first
      → (row : RowState) × (slice_get left.rows i ≡ Some row) × (row.base ≡ first.base) × IsPrefix (durable first) (durable row)
  pub extended : (i : ℕ) (row : RowState) → slice_get left.rows i ≡ Some row → (durable row ≡ [] → ⊥)
      → (last : RowState) × (slice_get end.rows i ≡ Some last) × (last.base ≡ row.base) × IsPrefix (durable row) (accepted last)
  pub wholes : WholesBetween start left end

-- From a state that the archive stood for these entries ran to one that it stands for. Where its samples are told, each image that a crash
-- since then may have left holds what lies between the two.
pub record RunsOn (tells : Bool) (old : Parts) (m : Machine) (entries : List Entry) (new : Parts) : Type 0 where
  pub after : Machine
  pub runs : Runs m entries after
  pub stands : Stands tells new after
  pub any_moment : IsTrue tells → m.told ≡ true → Passes (λ a image. HoldsBetween (granularities old.at.manifests) m entries after image) old.at.past new.at.past

-- what was asked, and under which number
abbrev pub asked : Entry → ℕ × Act
asked e = (e.who, e.act)

-- Just these acts were made, in order, and answered so, and from whatever the archive stood for they ran on.
pub record MakesAll (tells : Bool) (old : Parts) (acts : List (ℕ × Act)) (answers : List Reply) (new : Parts) : Type 0 where
  pub entries : List Entry
  pub acts_are : map asked entries ≡ acts
  pub answers_are : map (λ (e : Entry). e.answer) entries ≡ answers
  pub run : (m : Machine) → Stands tells old m → RunsOn tells old m entries new
