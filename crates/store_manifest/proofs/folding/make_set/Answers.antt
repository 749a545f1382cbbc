use Rattle.std.proofs.Common.{sym, List, subst}
use Rattle.store_manifest.specs.declared.entry.Entry.{Entry}
use Rattle.store_manifest.specs.Batches.{OnlySets, IsSet}
use Rattle.store_manifest.specs.Listing.{entries_of}
use Rattle.store_manifest.proofs.Meaning.{sets_begins, sets_rest, sets_first, no_set}
use Rattle.store_manifest.proofs.folding.make_set.Goals as goal

pub returns-in_default-clause-none : goal.returns-in_default-clause-none
returns-in_default-clause-none c last only =
    let begun = sets_begins c.args.g (entries_of c.args.lists.now.listed.entries) c.args.bytes.now last c.requires.some only in
    c.in_default.ensures.none begun.0 begun.1 begun.2

pub returns-in_default-change-clause-none : goal.returns-in_default-change-clause-none
returns-in_default-change-clause-none c last only =
    let rest = sets_rest c.args.g (entries_of c.args.lists.now.listed.entries) c.args.bytes.now c.in-Some.rest.now c.in-Some.change last c.requires.some c.in-Some.ensures.found only in
    no_set c.in-Some.change c.in_default-change.not-Set rest.0

pub returns-clause-made : goal.returns-clause-made
returns-clause-made c last =
    let front = c.in-Some.ensures.found in
    let set : IsSet c.in-Some.change = subst IsSet (sym c.in-Set.is) tt in
    let P : List Entry → Type 0 = λ l. OnlySets c.args.g l c.in-Some.rest.now last in (
      λ only. sets_first c.args.g (entries_of c.args.lists.now.listed.entries) c.args.bytes.now c.in-Some.rest.now c.in-Some.change last front set (subst P c.in_ok-change.ensures.entries only),
      λ only. subst P (sym c.in_ok-change.ensures.entries) (sets_rest c.args.g (entries_of c.args.lists.now.listed.entries) c.args.bytes.now c.in-Some.rest.now c.in-Some.change last c.requires.some front only).1,
    )
