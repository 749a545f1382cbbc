use Rattle.std.proofs.Common.{◌≡◌, take, map, refl, ◌∙◌, ap}
use Rattle.etl_mover.specs.Move.{part_file}
use Rattle.etl_mover.proofs.Beginning.{begun_is, begun_lists}
use Rattle.etl_mover.proofs.moving.Move.begin.Goals as goal

pub returns-clause-begun : goal.returns-clause-begun
returns-clause-begun c = record {
  from = c.store-from.ensures;
  to = c.store-to.ensures;
  granularity = c.granularity.ensures;
  series = refl;
  name = c.in_ok-clone.ensures.cases;
  listed = c.last_listed.ensures;
  parts = let h : c.in_ok-parts.parts.items ≡ take c.args.parts c.entries.result.now = c.in_ok-parts.ensures.items in h ∙ ap (take c.args.parts) c.entries.ensures;
  at = refl;
  pending = c.new.ensures.items;
  stage = refl;
  files = c.in_ok-files.ensures ∙ ap (map (part_file c.store-from.result c.args.name.now)) c.deref.ensures.value;
}

pub returns-clause-running : goal.returns-clause-running
returns-clause-running c nested from to = begun_is c.args.source.now c.args.dest.now c.args.series c.args.name.now c.args.parts _ (returns-clause-begun c) c.requires.most nested from to

pub returns-clause-lists : goal.returns-clause-lists
returns-clause-lists c = begun_lists c.args.source.now c.args.dest.now c.args.series c.args.name.now c.args.parts _ (returns-clause-begun c)
