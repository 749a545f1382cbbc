use Rattle.std.proofs.Common.{List, sym, subst, take}
use Rattle.pins.specs.Choosing.{IsChosen}
use Rattle.pins.specs.declared.choosing.Listed.{Listed}
use Rattle.pins.proofs.ChoosingLemmas.{chosen_to}
use Rattle.pins.proofs.choosing.Choice.opened.Goals as goal

pub returns : goal.returns
returns c told choice =
    let self = c.args.self.now in
    subst (λ (l : List Listed). IsChosen self.from self.to told (take c.needed.result l)) (sym c.deref.ensures.value)
    (chosen_to told self c.needed.result choice c.needed.ensures.past c.needed.ensures.within)
