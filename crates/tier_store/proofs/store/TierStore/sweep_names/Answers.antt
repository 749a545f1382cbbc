use Rattle.std.proofs.Common.{List, refl, subst}
use Rattle.gate_journal.specs.DiskShown.{shown_by}
use Rattle.pv_catalog.proofs.Standing.{keeps_same}
use Rattle.store_manifest.specs.Entries.{InOrder}
use Rattle.store_manifest.specs.Manifest.{ManifestState}
use Rattle.durable_write.specs.Ends.{Done}
use Rattle.tier_store.specs.Seen.{AtEach, seen}
use Rattle.tier_store.specs.Limbo.{IsListedName, IsNeeded, ListsPlace, Stay, StayUnlisted}
use Rattle.tier_store.proofs.Removals.{stay_from, stay_unlisted, stay_differ, lists_in_order, on_ok, needed_stays, none_came, found_unlisted}
use Rattle.tier_store.proofs.Retirements.{swept_changes, swept_leaves, swept_files, are_gone, still_stands}
use Rattle.tier_store.proofs.RunningMoves.{removal_leaves}
use Rattle.tier_store.proofs.Frames.{swept_whole}
use Rattle.tier_store.proofs.store.TierStore.sweep_names.Goals.{After-leave_listed}
use Rattle.tier_store.proofs.store.TierStore.sweep_names.Goals as goal

stay : (g : _) (c : After-leave_listed g) → Stay (λ r. ListsPlace c.args.self.now.manifests.items r → ⊥) (ListsPlace c.args.self.now.manifests.items) c.args.self.now.limbo.items c.leave_listed.new.limbo.items
stay g c =
    let self = c.args.self.now in
    let held = c.requires.has in
    subst (λ (ms : List ManifestState). AtEach ms (λ i m. InOrder m.entries) → Stay (λ r. ListsPlace ms r → ⊥) (ListsPlace ms) self.limbo.items c.leave_listed.new.limbo.items) c.deref.ensures.value c.leave_listed.ensures (lists_in_order self.catalogue self.manifests.items held.0 held.1.known)

unlisted : (g : _) (c : After-leave_listed g) → StayUnlisted (seen g.D.Disk c.args.self.now) c.args.self.now.limbo.items c.leave_listed.new.limbo.items
unlisted g c = let held = c.requires.has in stay_unlisted (seen g.D.Disk c.args.self.now) held.0 c.args.self.now.limbo.items c.leave_listed.new.limbo.items held.1.known c.requires.stands (stay g c)

pub clear_limbo-requires : goal.clear_limbo-requires
clear_limbo-requires g c tells =
    let self = c.args.self.now in
    found_unlisted self.manifests.items self.pinned c.args.copied.now self.limbo.items c.leave_listed.new.limbo.items (g.D.Disk.files self.disk) c.args.removable.now (stay g (goal.at.clear_limbo-requires g c).After-leave_listed) (c.requires.removable tells)

pub returns-clause-changes : goal.returns-clause-changes
returns-clause-changes g c =
    let self = c.args.self.now in
    let retired = c.leave_listed.new.limbo.items in
    let new = c.clear_limbo.new.disk in
    let at = (goal.at.returns-clause-changes g c).After-leave_listed in
    swept_changes g.D.Disk.tells (seen g.D.Disk c.args.self.now) self.pinned c.args.copied.now self.limbo.items retired c.requires.stands (unlisted g at) (shown_by g.D.Disk new) (g.D.Disk.faults new) c.clear_limbo.ensures.removes (Done c.clear_limbo.result) c.clear_limbo.ensures.faults (λ failed. absurd failed)

pub returns-clause-swept : goal.returns-clause-swept
returns-clause-swept g c =
    let self = c.args.self.now in
    let retired = c.leave_listed.new.limbo.items in
    let new = c.clear_limbo.new.disk in
    let at = (goal.at.returns-clause-swept g c).After-leave_listed in
    swept_files g.D.Disk.tells (seen g.D.Disk c.args.self.now) self.pinned c.args.copied.now self.limbo.items retired c.requires.stands (unlisted g at) (shown_by g.D.Disk new) (g.D.Disk.faults new) c.clear_limbo.ensures.removes c.clear_limbo.new.limbo.items c.clear_limbo.result.files c.clear_limbo.ensures.needed c.clear_limbo.ensures.count

pub returns-clause-gone : goal.returns-clause-gone
returns-clause-gone g c told =
    let self = c.args.self.now in
    let retired = c.leave_listed.new.limbo.items in
    let new = c.clear_limbo.new.disk in
    let at = (goal.at.returns-clause-gone g c).After-leave_listed in
    on_ok c.clear_limbo.result.removed _ _ (are_gone g.D.Disk.tells (seen g.D.Disk c.args.self.now) self.pinned c.args.copied.now self.limbo.items retired c.requires.stands (unlisted g at) (shown_by g.D.Disk new) (g.D.Disk.faults new) c.clear_limbo.ensures.removes) (c.clear_limbo.ensures.gone told)

pub returns-clause-leaves : goal.returns-clause-leaves
returns-clause-leaves g c =
    let self = c.args.self.now in
    let retired = c.leave_listed.new.limbo.items in
    let new = c.clear_limbo.new.disk in
    let at = (goal.at.returns-clause-leaves g c).After-leave_listed in
    let left = c.clear_limbo.new.limbo.items in
    let held = c.requires.has in
    swept_leaves g.D.Disk.tells (seen g.D.Disk c.args.self.now) self.pinned c.args.copied.now self.limbo.items retired c.requires.stands (unlisted g at) (shown_by g.D.Disk new) (g.D.Disk.faults new) c.clear_limbo.ensures.removes held.0 left held.1 (needed_stays self.pinned c.args.copied.now retired left c.clear_limbo.ensures.needed)

pub returns-clause-stands : goal.returns-clause-stands
returns-clause-stands g c =
    let self = c.args.self.now in
    let retired = c.leave_listed.new.limbo.items in
    let new = c.clear_limbo.new.disk in
    let at = (goal.at.returns-clause-stands g c).After-leave_listed in
    let left = c.clear_limbo.new.limbo.items in
    still_stands g.D.Disk.tells (seen g.D.Disk c.args.self.now) self.pinned c.args.copied.now self.limbo.items retired c.requires.stands (unlisted g at) (shown_by g.D.Disk new) (g.D.Disk.faults new) c.clear_limbo.ensures.removes left (none_came self.pinned c.args.copied.now retired left c.clear_limbo.ensures.needed)
    (stay_differ (λ r. IsNeeded self.pinned c.args.copied.now r.name) (λ r. IsNeeded self.pinned c.args.copied.now r.name → ⊥) retired left c.clear_limbo.ensures.needed
    (stay_differ (λ r. IsListedName (seen g.D.Disk c.args.self.now) r.name → ⊥) (λ r. IsListedName (seen g.D.Disk c.args.self.now) r.name) self.limbo.items retired (unlisted g at) c.requires.stands.1))

pub returns-clause-copied : goal.returns-clause-copied
returns-clause-copied g c =
    let self = c.args.self.now in
    let retired = c.leave_listed.new.limbo.items in
    let left = c.clear_limbo.new.limbo.items in
    removal_leaves g.D.Disk.tells _ _ self.pinned c.args.copied.now retired
    (λ r there. (stay_from (λ x. ListsPlace self.manifests.items x → ⊥) (ListsPlace self.manifests.items) self.limbo.items retired r (stay g (goal.at.returns-clause-copied g c).After-leave_listed) (none_came self.pinned c.args.copied.now retired left c.clear_limbo.ensures.needed r there)).0)
    c.clear_limbo.ensures.removes

pub returns-clause-whole : goal.returns-clause-whole
returns-clause-whole g c =
    let self = c.args.self.now in
    let retired = c.leave_listed.new.limbo.items in
    let left = c.clear_limbo.new.limbo.items in
    swept_whole g.D.Disk.tells _ _ self.pinned c.args.copied.now retired c.requires.stands (unlisted g (goal.at.returns-clause-whole g c).After-leave_listed)
    (λ r there. stay_from (λ x. IsNeeded self.pinned c.args.copied.now x.name) (λ x. IsNeeded self.pinned c.args.copied.now x.name → ⊥) retired left r c.clear_limbo.ensures.needed there)
    c.requires.has.1.known.three (keeps_same self.catalogue.rows) refl c.clear_limbo.ensures.removes
