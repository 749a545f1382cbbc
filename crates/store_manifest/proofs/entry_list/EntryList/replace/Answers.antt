use Rattle.std.proofs.Common.{◌≡◌, ◌<◌, ◌+◌, ◌++◌, ◌∷◌, length, take, drop, sym, subst}
use Rattle.std.specs.List.{slice_set}
use Rattle.store_manifest.specs.EntryList.{ListState}
use Rattle.store_manifest.proofs.Fronts.{replaced}
use Rattle.store_manifest.proofs.entry_list.EntryList.replace.Goals as goal

pub returns-clause-items : goal.returns-clause-items
returns-clause-items c =
    let xs = c.self.inside.entries.items in
    let gone = c.self.inside.gone in
    let at = c.args.at in
    let e = c.args.entry.now in
    let Within : ListState → Type 0 = λ s. at < length s.items in
    let Made : ListState → Type 0 = λ s. drop gone (slice_set xs (gone + at) e) ≡ take at s.items ++ e ∷ drop (at + 1) s.items in
    subst Made c.self.view_is (replaced gone at xs e (subst Within (sym c.self.view_is) c.requires))
