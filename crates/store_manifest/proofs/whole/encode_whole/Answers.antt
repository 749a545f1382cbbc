use Rattle.std.proofs.Common.{◌≡◌, ℕ, List, [], ◌∷◌, ◌++◌, length, take, sym, ◌∙◌, ap, subst, arith}
use Rattle.std.proofs.lemmas.Iterator.Consumers.{YieldsList-from_first, YieldsList-turn, YieldsList-end}
use Rattle.std.proofs.lemmas.List.{length_push, take_all}
use denote.Ref.{Bor}
use Rattle.store_manifest.specs.declared.entry.Entry.{Entry}
use Rattle.store_manifest.specs.Batches.{whole}
use Rattle.store_manifest.proofs.WholeBatch.{whole_next}
use Rattle.store_manifest.proofs.whole.encode_whole.Goals as goal

pub entries-init : goal.entries-init
entries-init c =
    c.in_ok-push-2.ensures.items
    ∙ ap (λ (l : List ℕ). l ++ c.number.result ∷ []) (c.in_ok-push.ensures.items ∙ ap (λ (l : List ℕ). l ++ 1 ∷ []) c.clear.ensures.items)
    ∙ ap (λ (n : ℕ). 1 ∷ n ∷ []) c.number.ensures

pub entries-preserved : goal.entries-preserved
entries-preserved c =
    let turn =
    YieldsList-turn (YieldsList-from_first (λ (e : Bor Entry). e.now) (λ (left : List Entry). left) c.args.entries c.into_iter-entry-iterator.ensures.into_iter_gives) c.entries.yielded _ c.entries.yielded_by _ _ c.in-Some.entry c.in-Some.is c.next.ensures.steps in
    let P : ℕ → Type 0 = λ n. c.put_set.new.out.items ≡ whole c.args.g (take n c.args.entries) in
    subst P (sym (length_push c.entries.yielded c.in-Some.entry)) (whole_next c.args.g c.args.entries (length c.entries.yielded) c.in-Some.entry.now c.entries.out.items c.put_set.new.out.items turn.0 turn.1 c.entries.invariant c.in_ok-put_set.ensures.bytes)

pub returns : goal.returns
returns c =
    let end =
    YieldsList-end (YieldsList-from_first (λ (e : Bor Entry). e.now) (λ (left : List Entry). left) c.args.entries c.into_iter-entry-iterator.ensures.into_iter_gives) c.entries.yielded _ c.entries.yielded_by _ _ c.in-None.is c.next.ensures.steps in
    let long = end.1 in
    c.entries.invariant ∙ ap (λ (l : List Entry). whole c.args.g l) (take_all (length c.entries.yielded) c.args.entries (omega (arith, long)))
