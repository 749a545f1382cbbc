use Rattle.std.proofs.Common.{◌≡◌, ◌<◌, ◌+◌, ◌++◌, List, length, take, drop, sym, ◌∙◌, ap, subst, arith}
use Rattle.std.proofs.lemmas.List.{length-drop}
use Rattle.store_manifest.specs.EntryList.{ListState}
use Rattle.store_manifest.specs.declared.entry.Entry.{Entry}
use Rattle.store_manifest.proofs.Fronts.{removed}
use Rattle.store_manifest.proofs.entry_list.EntryList.remove.Goals as goal

pub returns-else-at-eq0-clause-items : goal.returns-else-at-eq0-clause-items
returns-else-at-eq0-clause-items c =
    let xs = c.self.inside.entries.items in
    let gone = c.self.inside.gone in
    let at = c.args.at in
    let Within : ListState → Type 0 = λ s. at < length s.items in
    let within = subst Within (sym c.self.view_is) c.requires in
    let Left : ListState → Type 0 = λ s. drop gone c.remove.new.self.items ≡ take at s.items ++ drop (at + 1) s.items in
    subst Left c.self.view_is (
    ap (λ (l : List Entry). drop gone l) c.remove.ensures.by_index.2
    ∙ removed gone at xs (omega (arith, within, length-drop gone xs)))
