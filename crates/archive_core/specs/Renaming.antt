-- When a variable gets a new name, by what is in memory, and how that is answered.
use Rattle.std.specs.Prelude.{◌≡◌, ◌≢◌, ◌-◌, ℕ, List, [], false, IsTrue, Option, Some, None, IfSome, Result, Ok, Err, slice_get}
use Rattle.intake.specs.Tails.{tail_at}
use Rattle.pb_messages.specs.declared.about.State.TheVariants.{Paused}
use Rattle.pv_catalog.specs.Catalogue.{HasState, Refuses}
use Rattle.pv_catalog.specs.declared.error.RegisterErr.{RegisterErr}
use Rattle.pv_catalog.specs.declared.error.RegisterErr.TheVariants as refusal
use Rattle.pv_catalog.specs.declared.row.Row.{Row}
use Rattle.tier_store.specs.Change.{IsKnown}
use Rattle.tier_store.specs.Stores.{Stores, whole_in}
use Rattle.act_model.specs.Details.{last_time}
use Rattle.act_model.specs.Reply.{Reply}
use Rattle.act_model.specs.Rows.{is_empty}
use Rattle.act_model.specs.declared.acts.Answer.TheVariants as answer
use Rattle.archive_core.specs.declared.renaming.Unnamed.{Unnamed}
use Rattle.archive_core.specs.declared.renaming.Unnamed.TheVariants as unnamed
use Rattle.archive_core.specs.Ends.{disk_reply}
use Rattle.archive_core.specs.Parts.{Parts}
use Rattle.archive_core.specs.Switching.{IsFound}

-- what is answered where a variable got a new name, or none
abbrev pub rename_reply : Result ℕ Unnamed → Reply
rename_reply (Ok row) = answer.Renamed row
rename_reply (Err unnamed.NoSuchVariable) = answer.NoSuchVariable
rename_reply (Err (unnamed.NotPaused state change)) = answer.RenameNotPaused state change 0
rename_reply (Err (unnamed.NameTaken row)) = answer.NameTaken row
rename_reply (Err (unnamed.KeyTaken row)) = answer.KeyTaken row
rename_reply (Err unnamed.CatalogueFull) = answer.CatalogueFull
rename_reply (Err (unnamed.NotDurable last durable)) = answer.NotDurable last durable
rename_reply (Err (unnamed.Disk e)) = disk_reply e

-- why the new name is refused
abbrev pub taken_as : RegisterErr → Unnamed
taken_as (refusal.NameTaken row) = unnamed.NameTaken row
taken_as (refusal.KeyTaken row) = unnamed.KeyTaken row
taken_as refusal.Full = unnamed.CatalogueFull
taken_as (refusal.Disk e) = unnamed.Disk e

-- The row is paused, nothing refuses the new name, and all that was accepted of the row is durable.
pub record CanRename (p : Parts) (newname : List ℕ) (row : ℕ) : Type 0 where
  pub paused : HasState p.at.catalogue.rows row Paused
  pub free : (e : RegisterErr) → Refuses p.at.catalogue.rows newname e → ⊥
  pub none : (tail_at p.tails row).samples ≡ []

-- no row has the name, or the row that has it has this state and isn't paused, which is told with this change number
abbrev pub IsUnpaused : List Row → List ℕ → ℕ → Unnamed → Type 0
IsUnpaused rows name change unnamed.NoSuchVariable = IsFound rows name None
IsUnpaused rows name change (unnamed.NotPaused state number) =
    (row : ℕ) × IsFound rows name (Some row) × HasState rows row state × (state ≢ Paused) × (number ≡ change)
IsUnpaused rows name change _ = ⊥

-- the moment of the last durable sample of the variable of this row, where what is held stands
abbrev pub IsLastDurable : Parts → ℕ → Option ℕ → Type 0
IsLastDurable p row durable = (held : Stores) → IsKnown p.at.catalogue p.at.manifests held → IsTrue held.stands → durable ≡ last_time (whole_in row held)

-- the row has a tail; the last accepted sample is at this moment, and the last durable one at the other
abbrev pub HasTail : Parts → ℕ → Unnamed → Type 0
HasTail p row (unnamed.NotDurable last durable) =
    (is_empty (tail_at p.tails row).samples ≡ false) × IfSome (slice_get p.kept row) (λ memory. last ≡ memory.next - 1) × IsLastDurable p row durable
HasTail p row _ = ⊥

-- Why the variable of this name gets no new one: it isn't paused; or its row is paused and the new name is refused, or not, and the row has a
-- tail.
pub data IsUnnamed (p : Parts) (name newname : List ℕ) (change : ℕ) : Unnamed → Type 0 where
  is_unpaused : {e : Unnamed} → IsUnpaused p.at.catalogue.rows name change e → IsUnnamed p name newname change e
  is_taken : (row : ℕ) (e : RegisterErr) → IsFound p.at.catalogue.rows name (Some row) → HasState p.at.catalogue.rows row Paused
      → Refuses p.at.catalogue.rows newname e → IsUnnamed p name newname change (taken_as e)
  has_tail : {e : Unnamed} (row : ℕ) → IsFound p.at.catalogue.rows name (Some row) → HasState p.at.catalogue.rows row Paused
      → ((other : RegisterErr) → Refuses p.at.catalogue.rows newname other → ⊥) → HasTail p row e → IsUnnamed p name newname change e
