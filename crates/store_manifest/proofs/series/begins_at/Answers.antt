use Rattle.std.proofs.Common.{arith}
use Rattle.store_manifest.proofs.Around.{listed_at, none_at}
use Rattle.store_manifest.proofs.series.begins_at.Goals as goal

pub returns-then-at-entries : goal.returns-then-at-entries
returns-then-at-entries c series of = none_at series c.args.start c.args.entries.now c.front-at.result of c.front-at.ensures.within (c.front-at.ensures.point series of) (omega (arith, c.if-at-entries.true))

pub returns : goal.returns
returns c series of =
    listed_at series c.args.start c.args.entries.now c.front-at.result c.index-entries-at.result of c.front-at.ensures.within (c.front-at.ensures.point series of) (omega (arith, c.if-at-entries.false))
