use Rattle.pv_catalog.proofs.Refusing.{no_reason}
use Rattle.pv_catalog.proofs.catalogue.Catalogue.refusal.Goals as goal

pub returns-clause-refuses : goal.returns-clause-refuses
returns-clause-refuses c = rw (← c.self.view_is) (c.refusal.ensures.refuses)

pub returns-clause-none : goal.returns-clause-none
returns-clause-none c = rw (← c.self.view_is) (λ none e refuses.
    let free = c.refusal.ensures.none none in
    no_reason c.self.inside.table.rows c.args.name.now free.0 free.1 e refuses)
