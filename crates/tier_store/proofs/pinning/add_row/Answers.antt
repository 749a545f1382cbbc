use Rattle.std.proofs.Common.{◌≡◌, ◌++◌, ◌∙◌, List, ap, append_assoc, arith, subst}
use Rattle.std.specs.Prelude.{OnOk}
use Rattle.pins.specs.Choosing.{IsChoice, listed}
use Rattle.pins.specs.declared.choosing.Listed.{Listed}
use Rattle.tier_store.specs.Pinning.{listed_in}
use Rattle.tier_store.proofs.PinnedFiles.{entries_at}
use Rattle.tier_store.proofs.pinning.add_row.Goals as goal

pub returns-clause-chosen : goal.returns-clause-chosen
returns-clause-chosen c told choice =
    let ms = c.args.manifests.now in
    let row = c.args.row in
    let three = c.requires.three in
    let long = entries_at ms 2 row c.index-manifests-2.result c.entries.result.now (omega (arith, three)) c.index-manifests-2.is c.entries.ensures in
    let medium = entries_at ms 1 row c.index-manifests-1.result c.entries-2.result.now (omega (arith, three)) c.index-manifests-1.is c.entries-2.ensures in
    let short = entries_at ms 0 row c.index-manifests-0.result c.entries-3.result.now (omega (arith, three)) c.index-manifests-0.is c.entries-3.ensures in
    let first = listed 3 c.entries.result.now in
    let second = listed 2 c.entries-2.result.now in
    let third = listed 1 c.entries-3.result.now in
    let own : (first ++ second) ++ third ≡ listed_in row ms = λ i. (listed 3 (long i) ++ listed 2 (medium i)) ++ listed 1 (short i) in
    let all : ((told ++ first) ++ second) ++ third ≡ told ++ listed_in row ms =
    ap (λ (l : List Listed). l ++ third) (append_assoc told first second) ∙ append_assoc told (first ++ second) third ∙ ap (λ (l : List Listed). told ++ l) own in
    subst (λ (l : List Listed). OnOk c.add-3.result (IsChoice l c.add-3.new.self)) all (c.add-3.ensures.chosen ((told ++ first) ++ second) (c.in_ok-add-2.ensures.chosen (told ++ first) (c.in_ok-add.ensures.chosen told choice)))
