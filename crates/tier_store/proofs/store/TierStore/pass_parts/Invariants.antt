use Rattle.std.proofs.Common.{◌≡◌, ◌-◌, List, Ok, length}
use Rattle.durable_write.specs.Ends.{end_of_disk}
use Rattle.durable_write.specs.Held.{Filed}
use Rattle.tier_store.specs.Change.{Has}
use Rattle.tier_store.specs.Copying.{CopiesBeside, CopiesOrHas, OnlyLooks, PassesParts}
use Rattle.tier_store.specs.Pinned.{seen_all}
use Rattle.tier_store.specs.Seen.{seen}
use Rattle.tier_store.specs.Stores.{Stores}
use Rattle.tier_store.proofs.store.TierStore.pass_parts.Given as goal

abbrev pub invariant-loop-self : goal.invariant-loop-self
invariant-loop-self g l = record {
  finds : (files : List Filed) (held : Stores) → Has g.D.Disk.tells (seen g.D.Disk l.fn.self) held → CopiesBeside l.place g.D.Disk.tells (seen_all g.D.Disk l.fn.self) l.fn.moving files held → CopiesOrHas l.place g.D.Disk.tells (seen_all g.D.Disk l.self) l.moving files held;
  passes : PassesParts l.fn.moving l.moving;
  looks : OnlyLooks g.D.Disk.tells (seen_all g.D.Disk l.fn.self) (seen_all g.D.Disk l.self) (end_of_disk {A = Unit {0}} (Ok tt));
  same : (l.self.pinned ≡ l.fn.self.pinned) × (l.self.limbo ≡ l.fn.self.limbo);
}

abbrev pub decreases-loop-self : goal.decreases-loop-self
decreases-loop-self g l = length l.moving.parts - l.moving.at
