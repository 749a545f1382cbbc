use Rattle.std.proofs.Common.{◌∙◌, arith}
use Rattle.std.specs.List.{flat_map}
use Rattle.tier_store.proofs.PinnedFiles.{chosen_for, opened_rows, pinned_row}
use Rattle.tier_store.specs.Pinning.{listed_in}
use Rattle.tier_store.proofs.store.TierStore.pin_row.Goals as goal

pub pieces_of-requires : goal.pieces_of-requires
pieces_of-requires g c =
    let choice = c.in_ok-choice.choice in
    let ms = c.deref.result.now in
    let ids = c.deref-2.result.now in
    record {
      rows = opened_rows c.args.self.now.catalogue.rows c.rows-rows.result.now ms c.args.row choice.from choice.to ids c.opened-opened.result.now c.rows-rows.ensures.value (c.deref-2.ensures.value ∙ c.in_ok-line.ensures)
          (c.opened-opened.ensures (flat_map (λ k. listed_in k ms) ids) c.in_ok-choice.ensures.told);
    }

pub returns-clause-pinned : goal.returns-clause-pinned
returns-clause-pinned g c name named =
    let self = c.args.self.now in
    let choice = c.in_ok-choice.choice in
    let ms = c.deref.result.now in
    let ids = c.deref-2.result.now in
    let all = flat_map (λ k. listed_in k ms) ids in
    let opened = c.opened-opened.result.now in
    let chosen = chosen_for c.args.query c.args.tail c.items.result.now choice.from choice.to all opened c.in_ok-choice.ensures.from c.in_ok-choice.ensures.to c.items.ensures (c.opened-opened.ensures all c.in_ok-choice.ensures.told) in
    pinned_row self.catalogue.rows c.rows-rows.result.now self.manifests.items ms c.args.who c.args.row name c.args.query c.args.tail self.pinned c.pin.new.self c.index-rows-row.result c.in_ok-pin.pin c.len-count.result c.in_ok-name.name c.in_ok-about.about ids opened c.in_ok-pieces.pieces.items
    c.rows-rows.ensures.value c.deref.ensures.value c.requires.row c.index-rows-row.is c.in_ok-name.ensures.cases c.in_ok-about.ensures chosen (c.deref-2.ensures.value ∙ c.in_ok-line.ensures) (omega (arith, c.if-opened.false)) c.in_ok-pieces.ensures
    (omega (arith, c.len-count.ensures, c.in_ok-pieces.pieces.ok.0)) c.in_ok-pin.ensures.free c.in_ok-pin.ensures.least c.in_ok-pin.ensures.pinned named
