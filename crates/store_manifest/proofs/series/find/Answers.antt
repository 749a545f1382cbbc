use Rattle.std.proofs.Common.{◌<◌, length, sym, ◌∙◌, ap, arith}
use Rattle.std.proofs.lemmas.List.{get_or_default}
use Rattle.store_manifest.specs.declared.entry.Entry.{Entry}
use Rattle.store_manifest.proofs.Around.{around_none, around_one, not_listed, is_there}
use Rattle.store_manifest.proofs.series.find.Goals as goal
use Rattle.store_manifest.proofs.series.find.Goals.{then-at-entries-via-then-at-entries, then-at-entries-via-else-at-entries+then-entries-at}

pub returns-then-at-entries-clause-absent : goal.returns-then-at-entries-clause-absent
returns-then-at-entries-clause-absent c =
    let point = c.front-at.ensures.point c.args.series c.requires in
    let xs = c.args.entries.now in
    let at = c.front-at.result in (
      c.front-at.ensures.within,
      around_none c.args.series c.args.start xs at c.requires c.front-at.ensures.within point.0 point.1 (λ d within is. elim c.then-at-entries.branch [
        | then-at-entries-via-then-at-entries w ↦ absurd (omega (arith, within, w.if-at-entries.true))
        | then-at-entries-via-else-at-entries+then-entries-at w ↦ w.if-entries-at.true (ap (λ (e : Entry). e.part.start) (get_or_default xs at w.index-entries-at.result d within) ∙ is)
      ]),
    )

pub returns-then-at-entries-clause-listed : goal.returns-then-at-entries-clause-listed
returns-then-at-entries-clause-listed c =
    let point = c.front-at.ensures.point c.args.series c.requires in
    let xs = c.args.entries.now in
    let at = c.front-at.result in
    sym (not_listed c.args.series c.args.start xs at c.requires c.front-at.ensures.within point.0 point.1 (λ d within is. elim c.then-at-entries.branch [
      | then-at-entries-via-then-at-entries w ↦ absurd (omega (arith, within, w.if-at-entries.true))
      | then-at-entries-via-else-at-entries+then-entries-at w ↦ w.if-entries-at.true (ap (λ (e : Entry). e.part.start) (get_or_default xs at w.index-entries-at.result d within) ∙ is)
    ]))

pub returns-clause-found : goal.returns-clause-found
returns-clause-found c =
    let point = c.front-at.ensures.point c.args.series c.requires in
    let within : c.front-at.result < length c.args.entries.now = omega (arith, c.if-at-entries.false) in
    (within, around_one c.args.series c.args.start c.args.entries.now c.front-at.result c.requires c.front-at.ensures.within point.0 point.1 c.index-entries-at.result within c.index-entries-at.is (ap (λ (e : Entry). e.part.start) c.index-entries-at.is ∙ c.if-entries-at.false))

pub returns-clause-listed : goal.returns-clause-listed
returns-clause-listed c =
    let point = c.front-at.ensures.point c.args.series c.requires in
    let within : c.front-at.result < length c.args.entries.now = omega (arith, c.if-at-entries.false) in
    sym (is_there c.args.series c.args.start c.args.entries.now c.front-at.result c.requires c.front-at.ensures.within point.0 point.1 c.index-entries-at.result within c.index-entries-at.is (ap (λ (e : Entry). e.part.start) c.index-entries-at.is ∙ c.if-entries-at.false))
