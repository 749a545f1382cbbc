use Rattle.std.proofs.Common.{inr, refl, rules}
use Rattle.std.specs.Prelude.{IsTrue}
use Rattle.gate_journal.specs.DiskShown.{shown_by}
use Rattle.pv_catalog.proofs.Standing.{keeps_same}
use Rattle.durable_write.specs.Ends.{Done}
use Rattle.tier_store.specs.Limbo.{IsListedName, Removes, Stay, StayUnlisted}
use Rattle.tier_store.specs.Retiring.{IsFree, Stays, names_in}
use Rattle.tier_store.specs.Seen.{seen}
use Rattle.tier_store.proofs.Removals.{stay_differ, retained}
use Rattle.tier_store.proofs.Retirements.{all_stay, removes_left, left_stays, name_left, none_more, swept_changes, swept_leaves, still_stands}
use Rattle.tier_store.proofs.Frames.{swept_whole}
use Rattle.tier_store.proofs.RunningMoves.{removal_apart}
use Rattle.tier_store.proofs.store.TierStore.remove_handed.Goals.{After-retain}
use Rattle.tier_store.proofs.store.TierStore.remove_handed.Goals as goal

stay : (g : _) (c : After-retain g) → Stay (λ r. Stays c.args.self.now.pinned c.args.files.now r.name) (λ r. IsFree c.args.self.now.pinned c.args.files.now r.name) c.args.self.now.limbo.items c.retain.new.self.items
stay g c = retained _ (λ r. Stays c.args.self.now.pinned c.args.files.now r.name) (λ r. IsFree c.args.self.now.pinned c.args.files.now r.name) _ (λ r b f k. search rules) _ _ c.retain.ensures.filtered

unlisted : (g : _) (c : After-retain g) → StayUnlisted (seen g.D.Disk c.args.self.now) c.args.self.now.limbo.items c.args.self.now.limbo.items
unlisted g c = all_stay (λ r. IsListedName (seen g.D.Disk c.args.self.now) r.name → ⊥) (λ r. IsListedName (seen g.D.Disk c.args.self.now) r.name) c.args.self.now.limbo.items c.requires.unlisted

removes : (g : _) (c : After-retain g) → IsTrue g.D.Disk.tells → Removes c.args.self.now.pinned (names_in c.retain.new.self.items) c.args.self.now.limbo.items (shown_by g.D.Disk c.args.self.now.disk) (shown_by g.D.Disk c.remove_for_good-removed.new.disk)
removes g c told =
    let self = c.args.self.now in
    let new = c.remove_for_good-removed.new.disk in
    removes_left self.pinned c.args.files.now self.limbo.items c.retain.new.self.items (stay g c) c.requires.among (shown_by g.D.Disk self.disk) (shown_by g.D.Disk new) (c.remove_for_good-removed.ensures.removes told)

pub returns-clause-changes : goal.returns-clause-changes
returns-clause-changes g c =
    let self = c.args.self.now in
    let limbo = self.limbo.items in
    let left = c.retain.new.self.items in
    let new = c.remove_for_good-removed.new.disk in
    let at = (goal.at.returns-clause-changes g c).After-retain in
    swept_changes g.D.Disk.tells (seen g.D.Disk c.args.self.now) self.pinned (names_in left) limbo limbo c.requires.stands (unlisted g at) (shown_by g.D.Disk new) (g.D.Disk.faults new) (removes g at) (Done c.remove_for_good-removed.result) c.remove_for_good-removed.ensures.faults (λ failed. absurd failed)

pub returns-clause-leaves : goal.returns-clause-leaves
returns-clause-leaves g c =
    let self = c.args.self.now in
    let limbo = self.limbo.items in
    let left = c.retain.new.self.items in
    let new = c.remove_for_good-removed.new.disk in
    let at = (goal.at.returns-clause-leaves g c).After-retain in
    let held = c.requires.has in
    swept_leaves g.D.Disk.tells (seen g.D.Disk c.args.self.now) self.pinned (names_in left) limbo limbo c.requires.stands (unlisted g at) (shown_by g.D.Disk new) (g.D.Disk.faults new) (removes g at) held.0 left held.1 (left_stays self.pinned c.args.files.now limbo left (stay g at))

pub returns-clause-stands : goal.returns-clause-stands
returns-clause-stands g c =
    let self = c.args.self.now in
    let limbo = self.limbo.items in
    let left = c.retain.new.self.items in
    let new = c.remove_for_good-removed.new.disk in
    let at = (goal.at.returns-clause-stands g c).After-retain in
    still_stands g.D.Disk.tells (seen g.D.Disk c.args.self.now) self.pinned (names_in left) limbo limbo c.requires.stands (unlisted g at) (shown_by g.D.Disk new) (g.D.Disk.faults new) (removes g at) left (none_more self.pinned c.args.files.now limbo left (stay g at)) (stay_differ (λ r. Stays c.args.self.now.pinned c.args.files.now r.name) (λ r. IsFree c.args.self.now.pinned c.args.files.now r.name) limbo left (stay g at) c.requires.stands.1)

pub returns-clause-left : goal.returns-clause-left
returns-clause-left g c = stay g (goal.at.returns-clause-left g c).After-retain

pub returns-clause-whole : goal.returns-clause-whole
returns-clause-whole g c =
    let self = c.args.self.now in
    let limbo = self.limbo.items in
    let left = c.retain.new.self.items in
    let at = (goal.at.returns-clause-whole g c).After-retain in
    swept_whole g.D.Disk.tells _ _ self.pinned (names_in left) limbo c.requires.stands (unlisted g at) (λ r there. (none_more self.pinned c.args.files.now limbo left (stay g at) r there, inr (name_left left r there))) c.requires.has.1.known.three (keeps_same self.catalogue.rows) refl (removes g at)

pub returns-clause-others : goal.returns-clause-others
returns-clause-others g c names apart =
    let self = c.args.self.now in
    removal_apart names g.D.Disk.tells _ _ self.pinned c.args.files.now (none_more self.pinned c.args.files.now self.limbo.items c.retain.new.self.items (stay g (goal.at.returns-clause-others g c).After-retain)) apart c.remove_for_good-removed.ensures.removes
