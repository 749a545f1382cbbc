use Rattle.std.proofs.Common.{sym, ◌∙◌}
use Rattle.pins.proofs.EntryLemmas.{pinned_iff}
use Rattle.pins.proofs.table.Pins.is_pinned.Goals as goal

pub returns : goal.returns
returns c =
    let some = pinned_iff c.self.inside.pins c.args.file.now c.any_names.ensures.ordered in
    rw (← c.self.view_is) (λ yes. some.0 (sym c.any_names.ensures.value ∙ yes), λ is. c.any_names.ensures.value ∙ some.1 is)
