use Rattle.std.proofs.Common.{List, sym, subst}
use Rattle.store_manifest.specs.declared.entry.Entry.{Entry}
use Rattle.store_manifest.specs.Batches.{Begins, OnlySets}
use Rattle.store_manifest.specs.Listing.{entries_of}
use Rattle.store_manifest.proofs.Meaning.{begins_bad, begins_good, begun_rest}
use Rattle.store_manifest.proofs.folding.begun.Goals as goal

pub returns-in_default : goal.returns-in_default
returns-in_default c batches none counted = begins_bad batches c.args.batch.now c.args.number none counted (λ h first begins. c.in_default.ensures.none h begins.0 begins.1)

pub returns-then-branch : goal.returns-then-branch
returns-then-branch c batches none counted =
    let made = entries_of c.make_sets.new.lists.listed.entries in
    let P : List Entry → Type 0 = λ l. OnlySets c.in-Some.g l c.in-Some.rest.now made in
    let begins : Begins c.in-Some.g c.args.batch.now made = (c.in-Some.rest.now, c.in-Some.ensures.some, subst P c.new-lists.ensures.entries (c.in_ok-make_sets.ensures.made c.if-branch.true)) in
    (c.make_sets.ensures.good, begins_good c.in-Some.g batches c.args.batch.now made none begins)

pub returns : goal.returns
returns c batches none counted =
    begins_bad batches c.args.batch.now c.args.number none counted (λ h first begins.
    let P : List Entry → Type 0 = λ l. OnlySets c.in-Some.g l c.in-Some.rest.now first in
    c.in_ok-make_sets.ensures.bad c.if-branch.false first (subst P (sym c.new-lists.ensures.entries) (begun_rest c.in-Some.g h c.args.batch.now c.in-Some.rest.now first c.in-Some.ensures.some begins)))
