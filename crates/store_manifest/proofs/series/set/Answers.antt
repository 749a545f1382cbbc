use Rattle.std.proofs.Common.{List, [], ◌∷◌, ◌+◌, ◌∙◌, subst}
use Rattle.store_manifest.specs.declared.entry.Entry.{Entry}
use Rattle.store_manifest.specs.Entries.{place}
use Rattle.store_manifest.specs.Listing.{IsAround}
use Rattle.store_manifest.proofs.Around.{spliced_around}
use Rattle.store_manifest.proofs.series.set.Goals as goal

pub returns-in-Ok-clause-items : goal.returns-in-Ok-clause-items
returns-in-Ok-clause-items c =
    let xs = c.args.list.now.items in
    let at = c.in-Ok.at in
    let e = c.args.entry.now in
    let P : List Entry → Type 0 = λ l. IsAround (place e) l at (at + 1) in
    c.replace.ensures.items
    ∙ spliced_around (place e) xs (e ∷ []) at (at + 1) (subst P c.as_slice.ensures c.in-Ok.ensures.found.1)
