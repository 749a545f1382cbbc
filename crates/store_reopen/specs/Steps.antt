-- The steps of an adoption, each one commit, and what a front of them makes of stores.
use Rattle.std.specs.Prelude.{◌≡◌, ◌⊎◌, ◌≤◌, ◌<◌, ℕ, suc, Bool, true, false, IsTrue, List, [], ◌∷◌, ◌++◌, length, take}
use Rattle.disk_model.specs.Past.{Passes}
use Rattle.pb_messages.specs.declared.about.About.{About}
use Rattle.pv_catalog.specs.Catalogue.{registered}
use Rattle.durable_write.specs.Flush.{put_all}
use Rattle.durable_write.specs.Held.{Filed}
use Rattle.tier_store.specs.Stores.{Stores, list_at, with_list, with_rows}
use Rattle.tier_store.specs.Seen.{Seen, granularities}
use Rattle.tier_store.specs.Stored.{HoldsAll}
use Rattle.tier_store.specs.Change.{Has, Doubts}

-- a row for a variable, or files that the store at a place lists too
pub data Step : Type 0 where
  NewRow : List ℕ → About → Step
  Lists : ℕ → List Filed → Step

abbrev pub stepped : Step → Stores → Stores
stepped (NewRow name about) s = with_rows s (s.rows ++ registered s.rows name about ∷ [])
stepped (Lists i files) s = with_list i (put_all (list_at i s) files) s

-- what stores hold once all these are made, one after another
abbrev pub made_by : List Step → Stores → Stores
made_by [] s = s
made_by (x ∷ xs) s = made_by xs (stepped x s)

-- once so many of them are
abbrev pub stage : List Step → Stores → ℕ → Stores
stage steps held k = made_by (take k steps) held

-- so many were made, or it isn't known whether the next one was too
abbrev pub StopsWithin : Bool → Seen → List Step → Stores → Type 0
StopsWithin tells at steps held = (k : ℕ) × (Has tells at (stage steps held k) ⊎ ((k < length steps)
    × Doubts tells at (stage steps held k) (stage steps held (suc k))))

abbrev pub EndsSteps : Bool → Bool → Seen → List Step → Stores → Type 0
EndsSteps true tells at steps held = Has tells at (made_by steps held)
EndsSteps false tells at steps held = StopsWithin tells at steps held

-- The steps were made, or a front of them. At each moment a crash leaves what was held with a front of them made.
pub record MakesSteps (done tells : Bool) (steps : List Step) (old new : Seen) : Type 0 where
  pub ends : (held : Stores) → Has tells old held → EndsSteps done tells new steps held
  pub any_moment : IsTrue tells → (held : Stores) → Has tells old held
      → Passes (λ a b. (k : ℕ) × HoldsAll (granularities old.manifests) b (stage steps held k)) old.past new.past
  pub granularity : granularities new.manifests ≡ granularities old.manifests
  pub faults : old.faults ≤ new.faults
