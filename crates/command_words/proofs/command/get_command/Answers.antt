use Rattle.std.proofs.Common.{◌≡◌, List, ℕ, [], ◌∷◌, rules, ap}
use Rattle.std.specs.Prelude.{codes}
use Rattle.command_words.proofs.Words.{not_get}
use Rattle.command_words.proofs.command.get_command.Goals as goal

pub returns-in_err-query-clause-none : goal.returns-in_err-query-clause-none
returns-in_err-query-clause-none c = rw c.from_residual.ensures (not_get c.args.word.now c.args.name.now c.args.from.now c.args.to.now c.in_err-query.ensures.none)

pub returns-clause-found : goal.returns-clause-found
returns-clause-found c =
    let is : c.args.word.now ≡ codes "get" = search rules in
    (c.args.from.now, c.args.to.now, ap (λ (w : List ℕ). w ∷ c.args.name.now ∷ c.args.from.now ∷ c.args.to.now ∷ []) is, c.in_ok-query.ensures.found)
