use Rattle.std.proofs.Common.{◌≡◌}
use Rattle.form_urlencoded.specs.Form.{raw_pairs}
use Rattle.form_urlencoded.specs.Parse.{raw_pairs_left}
use Rattle.http_front.specs.Query.{first_of}
use Rattle.http_front.proofs.query.value_of.Given as goal

-- no pair before has the name
abbrev pub invariant-loop-key : goal.invariant-loop-key
invariant-loop-key l = record {
  next : (goal.iterator-loop-key).can_next l.key-iterator;
  finite : (goal.iterator-loop-key).is_finite l.key-iterator;
  rest : first_of l.name (raw_pairs_left l.key-iterator) ≡ first_of l.name (raw_pairs l.query);
}
