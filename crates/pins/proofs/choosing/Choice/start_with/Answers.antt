use Rattle.std.proofs.Common.{◌∷◌, [], ◌++◌, List, ◌∙◌, ap}
use Rattle.pins.specs.declared.choosing.Listed.{Listed}
use Rattle.pins.proofs.ChoosingLemmas.{on_ok_both, choice_anew}
use Rattle.pins.proofs.choosing.Choice.start_with.Goals as goal

pub returns-clause-chosen : goal.returns-clause-chosen
returns-clause-chosen c told choice cuts =
    on_ok_both c.go_on_with.result
    (λ rest more. choice_anew told c.args.self.now c.go_on_with.new.self c.args.file choice cuts c.go_on_with.ensures.from (rest ∙ ap (λ (l : List Listed). l ++ c.args.file ∷ []) c.clear.ensures.items) more)
    c.go_on_with.ensures.rest c.go_on_with.ensures.greatest
