use Rattle.std.proofs.Common.{◌≡◌, ap, sym, ◌∙◌, Bool, List, IsTrue, subst}
use Rattle.store_manifest.specs.declared.entry.Entry.{Entry}
use Rattle.store_manifest.specs.Entries.{is_listed}
use Rattle.store_manifest.specs.Listing.{OfSeries, entries_of}
use Rattle.store_manifest.proofs.InMemory.{shown_own}
use Rattle.store_manifest.proofs.Slots.{listed_at}
use Rattle.store_manifest.proofs.lists.SeriesLists.allows.Goals as goal

pub find-requires : goal.find-requires
find-requires c =
    let P : List Entry → Type 0 = λ l. OfSeries c.in-Drop.series l in
    subst P (sym c.entries.ensures) (shown_own c.in-Drop.series c.args.self.now.listed.entries c.requires)

pub returns-in-Drop : goal.returns-in-Drop
returns-in-Drop c =
    let s = c.in-Drop.series in
    let t = c.in-Drop.start in
    let is : c.is_ok.result ≡ is_listed (entries_of c.args.self.now.listed.entries) (s, t) = c.is_ok.ensures.value ∙ c.find.ensures.listed ∙ ap (λ (l : List Entry). is_listed l (s, t)) c.entries.ensures ∙ listed_at s t (entries_of c.args.self.now.listed.entries) in
    let P : Bool → Type 0 = λ b. IsTrue b in
    rw c.in-Drop.is (λ h. subst P is h, λ h. subst P (sym is) h)
