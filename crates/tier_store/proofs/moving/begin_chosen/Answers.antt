use Rattle.tier_store.proofs.Beginning.{can_begin, chosen_is, row_here}
use Rattle.std.specs.BTreeMap.{get}
use Rattle.std.specs.Ordering.{nat_cmp}
use Rattle.tier_store.proofs.moving.begin_chosen.Goals as goal

pub bounds-rows-series : goal.bounds-rows-series
bounds-rows-series c = (can_begin c.args.rule.now c.args.source.now.entries c.args.destination.now.entries (get nat_cmp c.args.running.now) _ c.in_ok-choice.choice c.in-Begin.series c.in-Begin.parts c.in-Begin.is c.in_ok-choice.ensures).within

pub begin-requires-clause-some : goal.begin-requires-clause-some
begin-requires-clause-some c = (can_begin c.args.rule.now c.args.source.now.entries c.args.destination.now.entries (get nat_cmp c.args.running.now) _ c.in_ok-choice.choice c.in-Begin.series c.in-Begin.parts c.in-Begin.is c.in_ok-choice.ensures).some

pub begin-requires-clause-most : goal.begin-requires-clause-most
begin-requires-clause-most c = (can_begin c.args.rule.now c.args.source.now.entries c.args.destination.now.entries (get nat_cmp c.args.running.now) _ c.in_ok-choice.choice c.in-Begin.series c.in-Begin.parts c.in-Begin.is c.in_ok-choice.ensures).few

pub begin-requires-clause-listed : goal.begin-requires-clause-listed
begin-requires-clause-listed c = (can_begin c.args.rule.now c.args.source.now.entries c.args.destination.now.entries (get nat_cmp c.args.running.now) _ c.in_ok-choice.choice c.in-Begin.series c.in-Begin.parts c.in-Begin.is c.in_ok-choice.ensures).listed

pub returns-in_ok-moving-in-Begin : goal.returns-in_ok-moving-in-Begin
returns-in_ok-moving-in-Begin c = (
  chosen_is _ _ _ _ _ c.in-Begin.is c.in_ok-choice.ensures,
  record {
    own = c.index-rows-series.result;
    here = row_here c.args.rows.now c.in-Begin.series c.index-rows-series.result c.index-rows-series.is (can_begin c.args.rule.now c.args.source.now.entries c.args.destination.now.entries (get nat_cmp c.args.running.now) _ c.in_ok-choice.choice c.in-Begin.series c.in-Begin.parts c.in-Begin.is c.in_ok-choice.ensures).within;
    begun = c.in_ok-moving-in-Begin.ensures.begun;
    goes_on = c.in_ok-moving-in-Begin.ensures.running;
    lists = c.in_ok-moving-in-Begin.ensures.lists;
  },
)

pub returns-in-Running : goal.returns-in-Running
returns-in-Running c = chosen_is _ _ _ _ _ c.in-Running.is c.in_ok-choice.ensures

pub returns-in-Nothing : goal.returns-in-Nothing
returns-in-Nothing c = chosen_is _ _ _ _ _ c.in-Nothing.is c.in_ok-choice.ensures
