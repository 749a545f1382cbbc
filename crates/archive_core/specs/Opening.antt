-- The archive that is opened on stores: all that they list is accepted, and there is nothing else.
use Rattle.std.specs.Prelude.{◌≡◌, ℕ, ◌+◌, ◌^◌, ◌-◌, ◌==◌, List, [], ◌∷◌, ◌++◌, max, min, filter, Bool, true, ◌&&◌, Option, Some, None, slice_get}
use Rattle.etl_rules.specs.Config.{ConfigState}
use Rattle.pv_catalog.specs.declared.row.Row.{Row}
use Rattle.store_manifest.specs.Manifest.{ManifestState}
use Rattle.store_manifest.specs.declared.entry.Entry.{Entry}
use Rattle.tier_store.specs.Change.{Has}
use Rattle.tier_store.specs.Seen.{Seen, granularities}
use Rattle.tier_store.specs.Stores.{Stores}
use Rattle.act_model.specs.Crash.{kept}
use Rattle.act_model.specs.Machine.{Machine}
use Rattle.act_model.specs.NextLife.{opened}
use Rattle.act_model.specs.Rule.{Rule}
use Rattle.intake_half.specs.declared.memory.RowMemory.{RowMemory}
use Rattle.intake_half.specs.Memory.{sampling_by}
use Rattle.archive_core.specs.Parts.{Parts}
use Rattle.archive_core.specs.Stands.{Rests, TellsHeaders, HoldsDurable}

-- the first moment later than the last that the entries list, or n where they list nothing
abbrev pub listed_from : ℕ → List Entry → ℕ
listed_from n [] = n
listed_from n (e ∷ es) = listed_from (e.last + 1) es

-- the first moment later than the last that the entries list, 0 where they list nothing
abbrev pub listed_end : List Entry → ℕ
listed_end es = listed_from 0 es

-- what the store at a place lists of a row
abbrev pub entries_at : List ManifestState → ℕ → ℕ → List Entry
entries_at manifests place row = of (slice_get manifests place)
  where
    of : Option ManifestState → List Entry
    of None = []
    of (Some m) = filter (λ (e : Entry). e.series == row) m.entries

-- the first moment, as a `u64`, later than all that the store at a place lists of a row
abbrev pub end_at : List ManifestState → ℕ → ℕ → ℕ
end_at manifests place row = min (listed_end (entries_at manifests place row)) (2 ^ 64 - 1)

-- from which moment on the row with this number takes samples, 0 where there is none
abbrev pub next_in : List RowMemory → Option ℕ → ℕ
next_in kept None = 0
next_in kept (Some i) = of (slice_get kept i)
  where
    of : Option RowMemory → ℕ
    of None = 0
    of (Some memory) = memory.next

-- what is kept of a row as it is opened, where this is kept of the rows before it: it takes what is later than all that is listed of it, and
-- than all that its base has
abbrev pub memory_of : List ManifestState → List RowMemory → Row → RowMemory
memory_of manifests before row = record {
  next = max (max (max (end_at manifests 2 row.id) (end_at manifests 1 row.id)) (end_at manifests 0 row.id)) (next_in before row.base);
  scan = sampling_by row.about.method;
}

-- so it is kept of one row after another
abbrev pub memories : List ManifestState → List RowMemory → List Row → List RowMemory
memories manifests before [] = before
memories manifests before (row ∷ rows) = memories manifests (before ++ memory_of manifests before row ∷ []) rows

-- The machine has this rule, and where it is told it is the one that is opened on what is durable: all of that is accepted, and nothing
-- else is there.
pub record IsOpened (rule : Rule) (m : Machine) : Type 0 where
  pub of_rule : m.rule ≡ rule
  pub fresh : m.told ≡ true → m ≡ opened rule true m.doors m.faults (kept m)

-- Whatever the stores had, the archive stands for a machine that is opened on it, with the settings' moves. Samples are told of where the disk
-- tells its files and what the stores had stands.
abbrev pub OpensAs : Bool → Seen → ConfigState → ℕ → Parts → Type 0
OpensAs tells at config doors p =
    (held : Stores) (rule : Rule) → Has tells at held → rule.granularity ≡ granularities at.manifests → TellsHeaders rule → rule.hold ≡ config.hold → rule.gather ≡ config.gather
    → (m : Machine) × IsOpened rule m × HoldsDurable held m × Rests tells p m × (m.doors ≡ doors) × (m.told ≡ (tells && held.stands))
