use Rattle.std.proofs.Common.{◌≡◌, List, take, subst, arith}
use Rattle.std.proofs.lemmas.List.{take_all}
use Rattle.store_manifest.specs.declared.entry.Entry.{Entry}
use Rattle.tier_store.specs.Counting.{behind}
use Rattle.tier_store.specs.Tallying.{end_of_files}
use Rattle.tier_store.proofs.Tallies.{ends_more}
use Rattle.tier_store.proofs.tallying.last_listed.Goals as goal

pub loop-entry-preserved : goal.loop-entry-preserved
loop-entry-preserved c = ends_more (behind c.args.before) c.args.entries.now c.loop-entry.entry-index c.entry-item.result (behind c.loop-entry.last) (behind c.later-last.result) c.loop-entry-test.true c.entry-item.is c.loop-entry.invariant c.later-last.ensures

pub returns : goal.returns
returns c =
    let all : take c.loop-entry.entry-index c.args.entries.now ≡ c.args.entries.now = take_all c.loop-entry.entry-index c.args.entries.now (omega (arith, c.loop-entry-test.false)) in
    subst (λ (l : List Entry). behind c.loop-entry.last ≡ end_of_files (behind c.args.before) l) all c.loop-entry.invariant
