use Rattle.std.proofs.Common.{ℕ, ◌+◌, List, length, refl, ap, subst, arith}
use Rattle.std.specs.BTreeMap.{get}
use Rattle.std.specs.Ordering.{nat_cmp}
use Rattle.std.specs.Prelude.{Option}
use Rattle.gate_journal.specs.DiskShown.{shown_by}
use Rattle.pv_catalog.specs.declared.row.Row.{Row}
use Rattle.tier_store.specs.Beginning.{IsBegun}
use Rattle.tier_store.specs.Seen.{seen_on}
use Rattle.tier_store.proofs.Beginning.{says_held}
use Rattle.tier_store.proofs.store.TierStore.begin_move.Goals as goal

pub begin_chosen-requires : goal.begin_chosen-requires
begin_chosen-requires g c = let few = c.rows-rows.ensures.are.few in let same = ap length c.rows-rows.ensures.value in omega (arith, few, same)

pub manifest-source-requires-clause-last : goal.manifest-source-requires-clause-last
manifest-source-requires-clause-last g c = let three = c.requires.has.1.known.three in omega (arith, three, c.requires.within)

pub manifest-destination-requires-clause-last : goal.manifest-destination-requires-clause-last
manifest-destination-requires-clause-last g c = let three = c.requires.has.1.known.three in omega (arith, three, c.requires.within)

pub returns-clause-says : goal.returns-clause-says
returns-clause-says g c held has =
    let self = c.args.self.now in
    let disk = g.D.Disk in
    let at = seen_on (shown_by disk) disk.faults self.catalogue self.manifests.items self.disk in
    let source = c.manifest-source.result.now in
    let destination = c.manifest-destination.result.now in
    let running : ℕ → Option ℕ = get nat_cmp c.args.running.now in
    says_held disk.tells at held has c.args.place c.requires.within source destination (c.manifest-source.ensures c.args.place refl) (c.manifest-destination.ensures (c.args.place + 1) refl) c.args.rule.now running c.in_ok-begun.begun c.requires.nested
    (subst (λ (rows : List Row). IsBegun c.args.rule.now running rows source destination c.in_ok-begun.begun) c.rows-rows.ensures.value c.in_ok-begun.ensures)
