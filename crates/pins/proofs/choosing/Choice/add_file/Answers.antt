use Rattle.std.specs.Prelude.{IsTrue}
use Rattle.pins.proofs.ChoosingLemmas.{on_ok_both, choice_more, cuts_told}
use Rattle.pins.proofs.choosing.Choice.add_file.Goals as goal

pub returns-clause-chosen : goal.returns-clause-chosen
returns-clause-chosen c told choice =
    on_ok_both c.go_on_with.result
    (λ rest more. choice_more told c.args.self.now c.go_on_with.new.self c.args.file choice
    (λ cut. let yes : IsTrue c.cuts.result = c.cuts.ensures.1 ((cuts_told told c.args.self.now c.args.file choice).1 cut) in absurd (cc (yes, c.if-cuts.false))) c.go_on_with.ensures.from rest more)
    c.go_on_with.ensures.rest c.go_on_with.ensures.greatest
