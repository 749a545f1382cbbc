use Rattle.std.proofs.Common.{◌≡◌, List, ◌∷◌, ◌+◌, drop, sym, ◌∙◌, ap, subst}
use Rattle.std.proofs.lemmas.List.{drop_more}
use Rattle.store_manifest.specs.declared.entry.Change.{Change}
use Rattle.store_manifest.specs.declared.entry.Entry.{Entry}
use Rattle.store_manifest.specs.Entries.{all_changed}
use Rattle.store_manifest.specs.Listing.{entries_of, HasRoom}
use Rattle.store_manifest.proofs.InMemory.{rest_room}
use Rattle.store_manifest.proofs.lists.SeriesLists.make_all.Goals as goal

pub loop-change-preserved : goal.loop-change-preserved
loop-change-preserved c =
    let i = c.loop-change.change-index in
    let item = c.change-item.result in
    let rest = drop (i + 1) c.args.changes.now in
    let left : drop i c.args.changes.now ≡ item ∷ rest = drop_more c.args.changes.now i item c.loop-change-test.true ∙ ap (λ (x : Change). x ∷ rest) (sym c.change-item.is) in
    let P : List Change → Type 0 = λ l. HasRoom c.loop-change.self.listed.entries l in
    record {
      good = c.make.ensures.good;
      room = rest_room item rest c.loop-change.self.listed.entries c.make.new.self.listed.entries (subst P left c.loop-change.invariant.room) c.make.ensures.lists;
      entries =
          ap (λ (l : List Entry). all_changed l rest) c.make.ensures.entries
          ∙ ap (λ (l : List Change). all_changed (entries_of c.loop-change.self.listed.entries) l) (sym left)
          ∙ c.loop-change.invariant.entries;
    }
