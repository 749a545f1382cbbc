use Rattle.std.proofs.Common.{◌≡◌, ◌++◌, ℕ, sym, ◌∙◌, ap, arith}
use Rattle.std.proofs.lemmas.Result.{IfOk-weaker}
use Rattle.gate_journal.specs.Generations.{generation_name}
use Rattle.gate_journal.proofs.FileNames.{first_generation, named_so}
use Rattle.gate_journal.proofs.names.generation_name.Goals as goal

pub returns-then-generation-eq0-clause-named : goal.returns-then-generation-eq0-clause-named
returns-then-generation-eq0-clause-named c =
    let name = c.args.name.now in
    IfOk-weaker c.copy.result (λ n. n ≡ name) (λ n. n ≡ generation_name name c.args.generation) (λ n e. e ∙ sym (ap (λ (k : ℕ). generation_name name k) c.if-generation-eq0.true ∙ first_generation name)) c.copy.ensures

pub returns-clause-named : goal.returns-clause-named
returns-clause-named c =
    let name = c.args.name.now in
    let more = c.as_bytes.result.now in
    IfOk-weaker c.longer.result (λ n. n ≡ (name.0, name.1 ++ more)) (λ n. n ≡ generation_name name c.args.generation)
    (λ n e. e ∙ named_so name c.args.generation more (omega arith) (c.as_bytes.ensures.value ∙ c.in_ok-text.ensures.ok)) c.longer.ensures
