use Rattle.std.proofs.Common.{◌≡◌, ℕ, List, length, sym, subst, arith}
use Rattle.std.specs.Prelude.{IfNone}
use Rattle.std.proofs.lemmas.List.{length-map}
use Rattle.command_words.specs.Command.{AsksFor}
use Rattle.command_words.specs.declared.command.Command.{Command}
use Rattle.command_words.proofs.Words.{drill_none, four_texts, other_none, texts}
use Rattle.command_words.proofs.command.asked_for.Goals.{in_default-via-then-words-lt1, in_default-via-else-words-lt1+else-words-lt2+else-words-lt3+else-words-lt4+else-words-lt5}
use Rattle.command_words.proofs.command.asked_for.Goals as goal

pub returns-in-len2-clause-none : goal.returns-in-len2-clause-none
returns-in-len2-clause-none c =
    let words = c.args.words.now in
    let long : length (texts words) ≡ length words = length-map words (λ word. word.now) in
    drill_none (texts words) (grind (arith, long, c.in-len2.len_at_least, c.in-len2.len_below)) c.drill_command.result c.drill_command.ensures.none

pub returns-in-len4-clause-none : goal.returns-in-len4-clause-none
returns-in-len4-clause-none c =
    let words = c.args.words.now in
    subst (λ (ws : List (List ℕ)). IfNone c.get_command.result ((asked : Command) → AsksFor asked ws → ⊥)) (sym (four_texts words _ c.in-len4.len_at_least c.in-len4.len_below)) c.get_command.ensures.none

pub returns-in_default-clause-none : goal.returns-in_default-clause-none
returns-in_default-clause-none c =
    let words = c.args.words.now in
    let long : length (texts words) ≡ length words = length-map words (λ word. word.now) in
    elim c.in_default.branch [
      | in_default-via-then-words-lt1 w ↦ other_none (texts words) (λ is. grind (arith, is, long)) (λ is. grind (arith, is, long)) (λ is. grind (arith, is, long)) (λ is. grind (arith, is, long)) _ c.serve_command.ensures.none
      | in_default-via-else-words-lt1+else-words-lt2+else-words-lt3+else-words-lt4+else-words-lt5 w ↦ other_none (texts words) (λ is. grind (arith, is, long)) (λ is. grind (arith, is, long)) (λ is. grind (arith, is, long)) (λ is. grind (arith, is, long)) _ c.serve_command.ensures.none
    ]
