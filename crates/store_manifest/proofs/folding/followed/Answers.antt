use Rattle.store_manifest.specs.Listing.{entries_of}
use Rattle.store_manifest.proofs.Committing.{nothing_folded, good_folded, bad_folded}
use Rattle.store_manifest.proofs.Meaning.{goes_bad, goes_on_bad, configured_more}
use Rattle.store_manifest.proofs.folding.followed.Goals as goal

pub returns-then-branch : goal.returns-then-branch
returns-then-branch c batches folded counted =
    let good = good_folded batches c.args.folded c.in-Good.g c.in-Good.lists c.in-Good.is folded in
    (c.make_batch.ensures.good, configured_more c.in-Good.g batches (entries_of c.in-Good.lists.listed.entries) (entries_of c.make_batch.new.lists.listed.entries) c.args.batch.now good.1 (c.in_ok-make_batch-in-Good.ensures.made c.if-branch.true))

pub returns-in-Nothing : goal.returns-in-Nothing
returns-in-Nothing c batches folded counted = c.begun.ensures batches (nothing_folded batches c.args.folded c.in-Nothing.is folded) counted

pub returns-else-branch : goal.returns-else-branch
returns-else-branch c batches folded counted =
    let good = good_folded batches c.args.folded c.in-Good.g c.in-Good.lists c.in-Good.is folded in
    goes_bad c.in-Good.g batches c.args.batch.now (entries_of c.in-Good.lists.listed.entries) c.args.number counted good.1 (λ next is. c.in_ok-make_batch-in-Good.ensures.bad c.if-branch.false next is)

pub returns-in-Bad : goal.returns-in-Bad
returns-in-Bad c batches folded counted = goes_on_bad batches c.args.batch.now c.in-Bad.first (bad_folded batches c.args.folded c.in-Bad.first c.in-Bad.is folded)
