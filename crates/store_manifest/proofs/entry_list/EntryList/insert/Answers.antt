use Rattle.std.proofs.Common.{◌≡◌, ◌≤◌, ◌+◌, ◌++◌, ◌∷◌, Bool, List, length, take, drop, sym, ◌∙◌, ap, subst, if◌then◌else◌, arith}
use Rattle.std.proofs.lemmas.List.{length-drop}
use Rattle.std.specs.List.{insert}
use Rattle.store_manifest.specs.EntryList.{ListState}
use Rattle.store_manifest.specs.declared.entry.Entry.{Entry}
use Rattle.store_manifest.proofs.Fronts.{inserted}
use Rattle.store_manifest.proofs.entry_list.EntryList.insert.Goals as goal

pub returns-clause-items : goal.returns-clause-items
returns-clause-items c =
    let xs = c.self.inside.entries.items in
    let gone = c.self.inside.gone in
    let at = c.args.at in
    let e = c.args.entry.now in
    let Within : ListState → Type 0 = λ s. at ≤ length s.items in
    let within = subst Within (sym c.self.view_is) c.requires.within in
    let Room : ListState → Type 0 = λ s. s.used + 1 ≤ s.capacity in
    let room = subst Room (sym c.self.view_is) c.requires.room in
    let ok = c.insert.ensures.succeeds (omega (arith, room)) in
    let Made : ListState → Type 0 = λ s. drop gone c.insert.new.self.items ≡ take at s.items ++ e ∷ drop at s.items in
    subst Made c.self.view_is (
    ap (λ (l : List Entry). drop gone l) (c.insert.ensures.items ∙ ap (λ (b : Bool). if b then insert xs (gone + at) e else xs) ok)
    ∙ inserted gone at xs e (omega (arith, within, length-drop gone xs, c.self.invariant)))
