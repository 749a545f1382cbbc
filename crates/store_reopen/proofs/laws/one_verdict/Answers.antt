use Rattle.store_reopen.proofs.Verdicts.{whole_undamaged, whole_same, damaged_same, one_damage, one_other}
use Rattle.store_reopen.proofs.laws.one_verdict.Goals as goal

pub returns-clause-whole : goal.returns-clause-whole
returns-clause-whole c = whole_undamaged c.one_bad_place.ensures.place c.one_bad_place.ensures.excluded

pub returns-clause-same : goal.returns-clause-same
returns-clause-same c = whole_same

pub returns-clause-undamaged : goal.returns-clause-undamaged
returns-clause-undamaged c = damaged_same c.one_bad_place.ensures.place c.one_bad_place.ensures.excluded

pub returns-clause-place : goal.returns-clause-place
returns-clause-place c = one_damage c.one_bad_place.ensures.place c.one_bad_place.ensures.excluded

pub returns-clause-granularity : goal.returns-clause-granularity
returns-clause-granularity c = one_other
