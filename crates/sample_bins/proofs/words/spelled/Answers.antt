use Rattle.std.proofs.Common.{◌≡◌, ◌∙◌, sym, length, rules}
use Rattle.std.proofs.lemmas.Bool.{eqb-true}
use Rattle.std.proofs.lemmas.List.{nil_from_length}
use Rattle.std.specs.Prelude.{codes}
use Rattle.sample_bins.proofs.Asking.{on_none, no_first, no_last, no_count, no_nth}
use Rattle.sample_bins.proofs.words.spelled.Goals as goal

pub returns-in_err-bin_width-clause-none : goal.returns-in_err-bin_width-clause-none
returns-in_err-bin_width-clause-none c =
    let word : c.args.word.now ≡ codes "firstSample" = search rules in
    on_none c.from_residual.result (no_first c.args.word.now c.args.rest.now word c.in_err-bin_width.ensures.none)

pub returns-in_err-bin_width-2-clause-none : goal.returns-in_err-bin_width-2-clause-none
returns-in_err-bin_width-2-clause-none c =
    let word : c.args.word.now ≡ codes "lastSample" = search rules in
    on_none c.from_residual-in_err-bin_width-2.result (no_last c.args.word.now c.args.rest.now word c.in_err-bin_width-2.ensures.none)

pub returns-in_err-bin_width-3-clause-none : goal.returns-in_err-bin_width-3-clause-none
returns-in_err-bin_width-3-clause-none c =
    let word : c.args.word.now ≡ codes "count" = search rules in
    on_none c.from_residual-in_err-bin_width-3.result (no_count c.args.word.now c.args.rest.now word c.in_err-bin_width-3.ensures.none)

pub returns-in_err-suffix-clause-none : goal.returns-in_err-suffix-clause-none
returns-in_err-suffix-clause-none c =
    let word : c.args.word.now ≡ codes "nth" = search rules in
    on_none c.from_residual-in_err-suffix.result (no_nth c.args.word.now c.args.rest.now word c.in_err-suffix.ensures.none)

pub returns-then-is_empty-clause-found : goal.returns-then-is_empty-clause-found
returns-then-is_empty-clause-found c =
    let rest = c.args.rest.now in
    (search rules, nil_from_length rest (eqb-true (length rest) 0 (sym c.is_empty.ensures ∙ c.if-is_empty.true)))
