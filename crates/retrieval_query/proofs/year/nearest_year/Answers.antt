use Rattle.std.proofs.Common.{ℤ, sym, subst}
use Rattle.retrieval_query.specs.Raw.{IsNearestYear}
use Rattle.retrieval_query.proofs.Years.{nearest_of, sample_year_back}
use Rattle.retrieval_query.proofs.year.nearest_year.Goals as goal

pub returns-in-Some : goal.returns-in-Some
returns-in-Some c =
    let at = c.in-Some.at in
    let is = nearest_of at.year at.secs at.nano c.args.t c.in-Some.ensures.parts.0 c.in-Some.ensures.parts.1 c.in-Some.ensures.value c.if-t-lt-START.false in
    let P : ℤ → Type 0 = λ y. IsNearestYear y c.args.t in
    subst P (sym (sample_year_back at.year is.sample_year)) is
