use Rattle.std.proofs.Common.{refl, ◌∷◌, []}
use Rattle.format_cases.proofs.Results.{both_on_ok}
use Rattle.format_cases.proofs.journal.begun.Goals as goal

pub returns-clause-ok : goal.returns-clause-ok
returns-clause-ok c = both_on_ok c.checkpoint.result _ _ _ (λ sound settled. (sound, (c.args.batch.now ∷ [], settled))) c.checkpoint.ensures.sound (c.checkpoint.ensures.commits refl c.requires.rests.1.0 c.requires.rests.1.1).made

pub returns-clause-fault : goal.returns-clause-fault
returns-clause-fault c = λ failed.
    let batches = c.requires.rests.1.0 in
    ((c.checkpoint.ensures.fault failed).0, (batches, c.args.batch.now ∷ [], (c.checkpoint.ensures.commits refl batches c.requires.rests.1.1).doubt failed))
