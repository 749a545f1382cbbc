use Rattle.std.proofs.Common.{◌≡◌, sym, true, false, List, subst}
use Rattle.store_manifest.specs.declared.entry.Entry.{Entry}
use Rattle.store_manifest.specs.Batches.{Makes}
use Rattle.store_manifest.specs.Listing.{entries_of}
use Rattle.store_manifest.proofs.Meaning.{made_begins, made_rest, made_first}
use Rattle.store_manifest.proofs.folding.make_change.Goals as goal

pub returns-in_default-clause-none : goal.returns-in_default-clause-none
returns-in_default-clause-none c last made =
    let begun = made_begins c.args.g (entries_of c.args.lists.now.listed.entries) c.args.bytes.now last c.requires.some made in
    c.in_default.ensures.none begun.0 begun.1 begun.2

pub returns-then-not-allows-clause-none : goal.returns-then-not-allows-clause-none
returns-then-not-allows-clause-none c last made =
    let front = c.in-Some.ensures.found in
    let rest = made_rest c.args.g (entries_of c.args.lists.now.listed.entries) c.args.bytes.now c.in-Some.rest.now c.in-Some.change last c.requires.some front made in
    let yes : c.allows.result ≡ true = c.allows.ensures.1 rest.0 in
    let no : c.allows.result ≡ false = c.if-not-allows.true in
    cc

pub returns-clause-made : goal.returns-clause-made
returns-clause-made c last =
    let front = c.in-Some.ensures.found in
    let P : List Entry → Type 0 = λ l. Makes c.args.g l c.in-Some.rest.now last in (
      λ made. made_first c.args.g (entries_of c.args.lists.now.listed.entries) c.args.bytes.now c.in-Some.rest.now c.in-Some.change last front (c.allows.ensures.0 c.if-not-allows.false) (subst P c.in_ok-change.ensures.entries made),
      λ made. subst P (sym c.in_ok-change.ensures.entries) (made_rest c.args.g (entries_of c.args.lists.now.listed.entries) c.args.bytes.now c.in-Some.rest.now c.in-Some.change last c.requires.some front made).1,
    )
