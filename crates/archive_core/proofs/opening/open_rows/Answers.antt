use Rattle.std.proofs.Common.{◌≡◌, ◌+◌, List, [], ◌∷◌, ◌++◌, take, sym, ◌∙◌, ap}
use Rattle.std.proofs.lemmas.List.{take_more}
use Rattle.pv_catalog.specs.declared.row.Row.{Row}
use Rattle.archive_core.specs.Opening.{memories, memory_of}
use Rattle.intake_half.specs.declared.memory.RowMemory.{RowMemory}
use Rattle.archive_core.proofs.Opened.{memories_push}
use Rattle.archive_core.proofs.opening.open_rows.Goals as goal

pub loop-row-preserved : goal.loop-row-preserved
loop-row-preserved g c =
    let ms = c.args.store.now.manifests.items in
    let rows = c.rows-row-items.result.now in
    let i = c.loop-row.row-index in
    let row = c.row-item.result in
    let before : c.deref.result.now ≡ memories ms [] (take i rows) = c.deref.ensures.value ∙ c.loop-row.invariant in
    let more : take (i + 1) rows ≡ take i rows ++ row ∷ [] = take_more rows i row c.loop-row-test.true ∙ ap (λ (x : Row). take i rows ++ x ∷ []) (sym c.row-item.is) in
    let new : c.open_row.result ≡ memory_of ms (memories ms [] (take i rows)) row = c.open_row.ensures ∙ ap (λ (ks : List RowMemory). memory_of ms ks row) before in
    c.in_ok-push.ensures.items
    ∙ (ap (λ (ks : List RowMemory). ks ++ c.open_row.result ∷ []) c.loop-row.invariant
    ∙ (ap (λ (w : RowMemory). memories ms [] (take i rows) ++ w ∷ []) new ∙ (sym (memories_push ms (take i rows) [] row) ∙ ap (memories ms []) (sym more))))
