use Rattle.std.proofs.Common.{◌≡◌}
use Rattle.http_front.specs.declared.reading.Due.TheVariants.{End}
use Rattle.http_front.proofs.ReadLemmas.{head_judged, unfailed, maybe_judged, maybe_unfailed, maybe_wanting, maybe_on, begins_so}
use Rattle.http_front.proofs.reading.judge.Goals as goal

pub returns-in-Head-clause-some : goal.returns-in-Head-clause-some
returns-in-Head-clause-some c =
    let method = c.of.result.now in
    let target = c.of-in-Head.result.now in
    let begins = begins_so c.args.taken.now _ _ method target c.in-Head.minor c.of.ensures c.of-in-Head.ensures c.in-Head.ensures.looked.2 in
    head_judged c.args.taken.now method target c.in-Head.minor (c.args.due ≡ End) c.answer_of.result begins c.answer_of.ensures

pub returns-in-Head-clause-unfailed : goal.returns-in-Head-clause-unfailed
returns-in-Head-clause-unfailed c = unfailed c.of.result.now c.of-in-Head.result.now c.in-Head.minor c.answer_of.result c.answer_of.ensures

pub returns-in-More-clause-some : goal.returns-in-More-clause-some
returns-in-More-clause-some c = maybe_judged c.args.taken.now c.args.due c.more_or_none.result c.in-More.ensures.looked c.requires.limit c.more_or_none.ensures.some

pub returns-in-More-clause-unfailed : goal.returns-in-More-clause-unfailed
returns-in-More-clause-unfailed c = maybe_unfailed c.args.due c.more_or_none.result c.more_or_none.ensures.some

pub returns-in-Head-clause-memory : goal.returns-in-Head-clause-memory
returns-in-Head-clause-memory c =
    let method = c.of.result.now in
    let target = c.of-in-Head.result.now in
    λ e. record {
      method = method;
      target = target;
      minor = c.in-Head.minor;
      begins = begins_so c.args.taken.now _ _ method target c.in-Head.minor c.of.ensures c.of-in-Head.ensures c.in-Head.ensures.looked.2;
      answers = c.answer_of.ensures;
    }

pub returns-in-More-clause-memory : goal.returns-in-More-clause-memory
returns-in-More-clause-memory c = maybe_wanting c.args.taken.now c.args.due c.more_or_none.result c.more_or_none.ensures.some

pub returns-in-More-clause-none : goal.returns-in-More-clause-none
returns-in-More-clause-none c = maybe_on c.args.taken.now c.args.due c.more_or_none.result c.in-More.ensures.looked c.more_or_none.ensures.none
