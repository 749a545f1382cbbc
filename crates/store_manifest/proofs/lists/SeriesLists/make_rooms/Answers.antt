use Rattle.std.proofs.Common.{◌≡◌, inl, inr, ℕ, ◌+◌, ◌≤◌, IsSome, IfSome, cond, Bool, List, [], ◌∷◌, ◌++◌, Option, Some, take, sym, ◌∙◌, ap, subst, arith, nat_cmp}
use Rattle.std.proofs.lemmas.Bool.{cases_eq}
use Rattle.std.proofs.lemmas.List.{take_more, length-take-le}
use Rattle.std.specs.BTreeMap.{get}
use Rattle.std.specs.Option.{unwrap_or}
use Rattle.store_manifest.specs.declared.entry.Change.{Change}
use Rattle.store_manifest.specs.Entries.{place_of}
use Rattle.store_manifest.specs.Listing.{list_of, sets, sets_in, HasRoom}
use Rattle.store_manifest.proofs.InMemory.{more_room, sets_more, sets_same, sets_few, one_set, at_same, at_other}
use Rattle.store_manifest.proofs.lists.SeriesLists.make_rooms.Goals as goal

pub overflow_add-room : goal.overflow_add-room
overflow_add-room c =
    let before = c.unwrap_or-before.ensures ∙ ap (λ (o : Option ℕ). unwrap_or o 0) (c.copied.ensures ∙ c.get.ensures.value) ∙ c.loop-change.invariant.counted c.series-series.result in
    omega (arith, before, sets_few c.series-series.result (take c.loop-change.change-index c.args.changes.now), length-take-le c.loop-change.change-index c.args.changes.now (omega (arith, c.loop-change-test.true)), c.loop-change-test.true, c.loop-change.auto.change-index-end, c.sets.ensures, one_set c.change-item.result)

pub loop-change-preserved : goal.loop-change-preserved
loop-change-preserved c =
    let i = c.loop-change.change-index in
    let s = c.series-series.result in
    let item = c.change-item.result in
    let done = take i c.args.changes.now in
    let before = c.unwrap_or-before.ensures ∙ ap (λ (o : Option ℕ). unwrap_or o 0) (c.copied.ensures ∙ c.get.ensures.value) ∙ c.loop-change.invariant.counted s in
    let more : take (i + 1) c.args.changes.now ≡ done ++ item ∷ [] = take_more c.args.changes.now i item c.loop-change-test.true ∙ ap (λ (x : Change). done ++ x ∷ []) (sym c.change-item.is) in
    let of : s ≡ (place_of item).0 = c.series-series.ensures in
    let room : c.unwrap_or-before.result + c.sets.result ≡ sets_in (place_of item).0 done + sets item = ap (λ (n : ℕ). n + c.sets.result) (before ∙ ap (λ (k : ℕ). sets_in k done) of) ∙ ap (λ (n : ℕ). sets_in (place_of item).0 done + n) c.sets.ensures in
    record {
      good = c.in_ok-make_room.ensures.good;
      entries = c.in_ok-make_room.ensures.entries ∙ c.loop-change.invariant.entries;
      counted = λ q.
          let now = c.in_ok-insert.ensures.updates.0 q in
          let P : List Change → Type 0 = λ l. unwrap_or (get nat_cmp c.insert.new.self q) 0 ≡ sets_in q l in
          subst P (sym more) (elim (cases_eq q (place_of item).0) [
            | inl is ↦
                let R : ℕ → Type 0 = λ k. unwrap_or (get nat_cmp c.insert.new.self q) 0 ≡ sets_in k (done ++ item ∷ []) in
                subst R (sym is) (
                ap (λ (o : Option ℕ). unwrap_or o 0) (now ∙ ap (λ (b : Bool). cond b (Some (c.unwrap_or-before.result + c.sets.result)) (get nat_cmp c.loop-change.sets q)) (at_same s q (of ∙ sym is)))
                ∙ room
                ∙ sym (sets_more item done)
                )
            | inr apart ↦
                ap (λ (o : Option ℕ). unwrap_or o 0) (now ∙ ap (λ (b : Bool). cond b (Some (c.unwrap_or-before.result + c.sets.result)) (get nat_cmp c.loop-change.sets q)) (at_other s q (λ at. apart (at ∙ of))))
                ∙ c.loop-change.invariant.counted q
                ∙ sym (sets_same q item done (λ at. apart (sym at)))
          ]);
      room =
          let P : List Change → Type 0 = λ l. HasRoom c.make_room.new.self.listed.entries l in
          let Q : ℕ → Type 0 = λ k. IfSome (list_of k c.make_room.new.self.listed.entries) (λ list. list.used + (c.unwrap_or-before.result + c.sets.result) ≤ list.capacity) in
          let R : ℕ → Type 0 = λ k. IsSome (list_of k c.make_room.new.self.listed.entries) in
          subst P (sym more) (more_room item c.loop-change.self.listed.entries c.make_room.new.self.listed.entries (λ q apart. c.in_ok-make_room.ensures.others q (λ at. apart (at ∙ of))) (subst R of c.in_ok-make_room.ensures.there) done (c.unwrap_or-before.result + c.sets.result) c.loop-change.invariant.room
          (subst Q of c.in_ok-make_room.ensures.room) room);
    }
