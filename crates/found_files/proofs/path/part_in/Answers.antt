use Rattle.std.proofs.Common.{◌≡◌, Some, length, sym, ◌∙◌, arith}
use Rattle.std.proofs.lemmas.Option.{same_Some}
use Rattle.pv_name.specs.Key.{key_of}
use Rattle.found_files.proofs.Paths.{colon_at, no_colon_none, part_at, path_is_long}
use Rattle.found_files.proofs.path.part_in.Goals as goal

pub returns-in_err-end-clause-only : goal.returns-in_err-end-clause-only
returns-in_err-end-clause-only c name part is named = absurd (no_colon_none name part.name c.args.path.now named (sym c.in_err-end.was ∙ c.first_colon.ensures))

pub returns-then-path-end-clause-only : goal.returns-then-path-end-clause-only
returns-then-path-end-clause-only c name part is named =
    let end = colon_at name part.name c.args.path.now c.in_ok-end.end named (sym c.in_ok-end.was ∙ c.first_colon.ensures) in
    let long = path_is_long name part.name c.args.path.now c.in_ok-end.end named end in absurd (omega (arith, long, c.if-path-end.true))

pub returns-in_err-part-clause-only : goal.returns-in_err-part-clause-only
returns-in_err-part-clause-only c name part is named =
    let end = colon_at name part.name c.args.path.now c.in_ok-end.end named (sym c.in_ok-end.was ∙ c.first_colon.ensures) in
    let found = (c.parse.ensures.exact part).1 (is, sym (part_at name part.name c.args.path.now c.in_ok-end.end named end)) in
    absurd (cc (sym c.in_err-part.was ∙ found))

pub returns-clause-within : goal.returns-clause-within
returns-clause-within c = (omega (arith, c.if-path-end.false), ((c.parse.ensures.exact c.in_ok-part.part).0 c.in_ok-part.was).0)

pub returns-clause-only : goal.returns-clause-only
returns-clause-only c name part is named =
    let end : c.in_ok-end.end ≡ length (key_of name) = colon_at name part.name c.args.path.now c.in_ok-end.end named (sym c.in_ok-end.was ∙ c.first_colon.ensures) in
    let found = (c.parse.ensures.exact part).1 (is, sym (part_at name part.name c.args.path.now c.in_ok-end.end named end)) in
    let same : c.in_ok-part.part ≡ part = same_Some c.in_ok-part.part part (sym c.in_ok-part.was ∙ found) in
    λ i. Some (end i, same i)
