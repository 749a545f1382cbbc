use Rattle.std.proofs.Common.{◌≡◌, ◌∷◌, [], ◌++◌, ◌+◌, ◌∙◌, List, take, sym, ap, subst}
use Rattle.std.proofs.lemmas.List.{take_all, take_more}
use Rattle.tier_store.specs.Revival.{AreUnlistedIn}
use Rattle.tier_store.specs.declared.limbo.Retired.{Retired}
use Rattle.tier_store.proofs.Removals.{unlisted_none, unlisted_with, unlisted_without}
use Rattle.tier_store.proofs.limbo.unlisted_entries.Goals as goal
use Rattle.tier_store.proofs.limbo.unlisted_entries.Goals.{then-unlisted+in_ok-push, else-unlisted}

pub loop-file-init : goal.loop-file-init
loop-file-init c order = subst (AreUnlistedIn c.args.manifests.now c.args.store []) (sym c.new-entries.ensures.items) (unlisted_none c.args.manifests.now c.args.store)

pub loop-file-preserved : goal.loop-file-preserved
loop-file-preserved c order =
    let ms = c.args.manifests.now in
    let limbo = c.args.limbo.now in
    let i = c.loop-file.file-index in
    let r = c.file-item.result in
    let more : take (i + 1) limbo ≡ take i limbo ++ r ∷ [] = take_more limbo i r c.loop-file-test.true ∙ ap (λ (x : Retired). take i limbo ++ x ∷ []) (sym c.file-item.is) in
    let store = c.args.store in
    let es = c.loop-file.entries.items in
    let so_far = c.loop-file.invariant order in
    elim c.if-unlisted.branch [
      | then-unlisted+in_ok-push w ↦
          let grown : c.if-unlisted.entries.items ≡ es ++ r.entry ∷ [] = ap (λ v. v.items) w.entries-is ∙ w.in_ok-push.ensures.items in
          subst (λ (l : List Retired). AreUnlistedIn ms store l c.if-unlisted.entries.items) (sym more) (subst (AreUnlistedIn ms store (take i limbo ++ r ∷ [])) (sym grown) (unlisted_with ms store (take i limbo) es r so_far (c.is_unlisted_of-unlisted.ensures.unlisted order w.if-unlisted.true)))
      | else-unlisted w ↦
          let same : c.if-unlisted.entries.items ≡ es = ap (λ v. v.items) w.entries-is in
          subst (λ (l : List Retired). AreUnlistedIn ms store l c.if-unlisted.entries.items) (sym more) (subst (AreUnlistedIn ms store (take i limbo ++ r ∷ [])) (sym same) (unlisted_without ms store (take i limbo) es r so_far (c.is_unlisted_of-unlisted.ensures.other order w.if-unlisted.false)))
    ]

pub returns : goal.returns
returns c order = subst (λ (l : List Retired). AreUnlistedIn c.args.manifests.now c.args.store l c.loop-file.entries.items) (take_all c.loop-file.file-index c.args.limbo.now c.loop-file-test.false) (c.loop-file.invariant order)
