use Rattle.std.proofs.Common.{refl, ◌++◌, ◌∷◌, []}
use Rattle.format_cases.proofs.Results.{both_on_ok}
use Rattle.format_cases.proofs.journal.committed.Goals as goal

pub returns-clause-ok : goal.returns-clause-ok
returns-clause-ok c =
    let batches = c.requires.rests.1.0 in
    both_on_ok c.commit.result _ _ _ (λ sound settled. (sound, (batches ++ c.args.batch.now ∷ [], settled))) c.commit.ensures.sound (c.commit.ensures.commits refl batches c.requires.rests.1.1).made

pub returns-clause-fault : goal.returns-clause-fault
returns-clause-fault c = λ failed.
    let batches = c.requires.rests.1.0 in
    ((c.commit.ensures.fault failed).0, (batches, batches ++ c.args.batch.now ∷ [], (c.commit.ensures.commits refl batches c.requires.rests.1.1).doubt failed))
