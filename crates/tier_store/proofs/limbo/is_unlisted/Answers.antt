use Rattle.std.proofs.Common.{◌-◌, ap, arith}
use Rattle.tier_store.specs.declared.limbo.Retired.{Retired}
use Rattle.tier_store.proofs.Places.{manifest_here}
use Rattle.tier_store.proofs.Removals.{lists_there}
use Rattle.tier_store.proofs.limbo.is_unlisted.Goals as goal

pub returns-clause-unlisted : goal.returns-clause-unlisted
returns-clause-unlisted c order =
    let ms = c.args.manifests.now in
    let i = c.from-store.result - 1 in
    let m = c.index-manifests-store.result in
    let here = manifest_here ms i m c.index-manifests-store.is (omega (arith, c.if-store-eq0.false, c.if-store-manifests.false)) in
    (lists_there ms c.args.file.now i m _ _ c.entries-entries.result.now c.begins_at.result order (omega (arith, c.from-store.ensures, ap (λ (r : Retired). r.name.0) c.file.view_is, c.if-store-eq0.false)) here (ap (λ (r : Retired). r.entry.series) c.file.view_is) (ap (λ (r : Retired). r.entry.part.start) c.file.view_is) c.entries-entries.ensures c.begins_at.ensures).0

pub returns-clause-listed : goal.returns-clause-listed
returns-clause-listed c order =
    let ms = c.args.manifests.now in
    let i = c.from-store.result - 1 in
    let m = c.index-manifests-store.result in
    let here = manifest_here ms i m c.index-manifests-store.is (omega (arith, c.if-store-eq0.false, c.if-store-manifests.false)) in
    (lists_there ms c.args.file.now i m _ _ c.entries-entries.result.now c.begins_at.result order (omega (arith, c.from-store.ensures, ap (λ (r : Retired). r.name.0) c.file.view_is, c.if-store-eq0.false)) here (ap (λ (r : Retired). r.entry.series) c.file.view_is) (ap (λ (r : Retired). r.entry.part.start) c.file.view_is) c.entries-entries.ensures c.begins_at.ensures).1
