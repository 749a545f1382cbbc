use Rattle.std.proofs.Common.{◌≡◌, ◌≤◌, ◌-◌, List, map, take}
use Rattle.store_manifest.specs.declared.entry.Entry.{Entry}
use Rattle.durable_write.specs.Held.{Filed}
use Rattle.tier_store.specs.Change.{Has}
use Rattle.tier_store.specs.Copying.{CopiesFurther, PassesParts}
use Rattle.tier_store.specs.Pinned.{seen_all}
use Rattle.tier_store.specs.Seen.{seen}
use Rattle.tier_store.specs.Stores.{Stores}
use Rattle.tier_store.proofs.store.TierStore.pass_to.Given as goal

abbrev pub invariant-loop-moving : goal.invariant-loop-moving
invariant-loop-moving g l = record {
  further : (files : List Filed) (held : Stores) → Has g.D.Disk.tells (seen g.D.Disk l.self) held → CopiesFurther l.place g.D.Disk.tells (seen_all g.D.Disk l.self) l.fn.moving files held → CopiesFurther l.place g.D.Disk.tells (seen_all g.D.Disk l.self) l.moving files held;
  passes : PassesParts l.fn.moving l.moving;
  most : l.moving.at ≤ l.n;
  low : l.fn.moving.at ≤ l.moving.at;
  fronts : take l.fn.moving.at l.moving.parts ≡ take l.fn.moving.at l.fn.moving.parts;
  parts : map (λ (e : Entry). e.part) l.moving.parts ≡ map (λ (e : Entry). e.part) l.fn.moving.parts;
}

abbrev pub decreases-loop-moving : goal.decreases-loop-moving
decreases-loop-moving g l = l.n - l.moving.at
