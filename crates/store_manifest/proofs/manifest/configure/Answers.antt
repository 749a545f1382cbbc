use Rattle.std.proofs.Common.{◌∷◌, [], ℕ, List, ◌∙◌, ap, subst}
use Rattle.disk_model.specs.Past.{Passes}
use Rattle.gate_journal.specs.Generations.{AtOwn, HasOneOf}
use Rattle.store_manifest.proofs.Meaning.{begun_empty}
use Rattle.store_manifest.proofs.manifest.configure.Goals as goal

pub returns-clause-kept : goal.returns-clause-kept
returns-clause-kept g c tells = rw c.of-2.ensures (record {
  batches = (1 ∷ c.number.result ∷ []) ∷ [];
  settled = (c.in_ok-commit.ensures.commits tells [] (c.requires.settled tells)).made;
  means = ([], begun_empty c.args.g (1 ∷ c.number.result ∷ []) (ap (λ (n : ℕ). 1 ∷ n ∷ []) c.number.ensures), c.of.ensures.entries ∙ c.new.ensures.entries);
})

pub returns-in_err-commit-clause-any_moment : goal.returns-in_err-commit-clause-any_moment
returns-in_err-commit-clause-any_moment g c tells =
    let P : List ℕ → Type 0 = λ batch. Passes (AtOwn c.args.journal.name (HasOneOf c.args.journal.name [] (batch ∷ []))) (g.D.Disk.past c.args.disk.now) (g.D.Disk.past c.commit.new.disk) in
    subst P (ap (λ (n : ℕ). 1 ∷ n ∷ []) c.number.ensures) (c.commit.ensures.commits tells [] (c.requires.settled tells)).any_moment

pub returns-clause-any_moment : goal.returns-clause-any_moment
returns-clause-any_moment g c tells =
    let P : List ℕ → Type 0 = λ batch. Passes (AtOwn c.args.journal.name (HasOneOf c.args.journal.name [] (batch ∷ []))) (g.D.Disk.past c.args.disk.now) (g.D.Disk.past c.commit.new.disk) in
    subst P (ap (λ (n : ℕ). 1 ∷ n ∷ []) c.number.ensures) (c.commit.ensures.commits tells [] (c.requires.settled tells)).any_moment

pub returns-in_err-commit-clause-elsewhere : goal.returns-in_err-commit-clause-elsewhere
returns-in_err-commit-clause-elsewhere g c tells = (c.commit.ensures.commits tells [] (c.requires.settled tells)).elsewhere

pub returns-in_err-commit-clause-opened : goal.returns-in_err-commit-clause-opened
returns-in_err-commit-clause-opened g c tells = (c.commit.ensures.one_file tells).opened

pub returns-clause-elsewhere : goal.returns-clause-elsewhere
returns-clause-elsewhere g c tells = (c.commit.ensures.commits tells [] (c.requires.settled tells)).elsewhere

pub returns-clause-opened : goal.returns-clause-opened
returns-clause-opened g c tells = (c.commit.ensures.one_file tells).opened
