use Rattle.std.proofs.Common.{◌≡◌, List, length, slice_get, ◌-◌, sym, ◌∙◌, ap}
use Rattle.store_manifest.specs.declared.entry.Entry.{Entry}
use Rattle.etl_mover.specs.Move.{Moving}
use Rattle.etl_mover.proofs.Taking.{last_is}
use Rattle.etl_mover.proofs.moving.Move.last.Goals as goal

pub returns-in-Some : goal.returns-in-Some
returns-in-Some c =
    let pending : c.deref.result.now ≡ c.args.self.now.pending = c.deref.ensures.value ∙ ap (λ (m : Moving). m.pending) c.self.view_is in
    sym (last_is c.args.self.now.pending c.args.self.now.listed c.in-Some.entry.now (ap (λ (l : List Entry). slice_get l (length l - 1)) (sym pending) ∙ sym c.in-Some.ensures.value))
