use Rattle.std.proofs.Common.{◌≡◌, Option, subst}
use Rattle.std.specs.Prelude.{IfSome}
use Rattle.partition_names.specs.Part.{IsPart}
use Rattle.store_manifest.specs.declared.entry.Entry.{Entry}
use Rattle.durable_write.proofs.Planning.{goes_by_last, goes_by_listed}
use Rattle.durable_write.proofs.plan.find_destination.Goals as goal

pub returns-in-Some : goal.returns-in-Some
returns-in-Some c =
    rw c.side_of.ensures (goes_by_last c.args.target.now c.args.writes.now c.args.t c.in-Some.write.now c.requires.draft c.in-Some.ensures.some)

pub returns-in-Some-listed : goal.returns-in-Some-listed
returns-in-Some-listed c =
    let target = c.args.target.now in
    let P : Option Entry → Type 0 = λ o. IfSome o (λ (e : Entry). IsPart target.granularity e.part × (e.series ≡ target.series)) in
    rw c.side_of-in-Some-listed.ensures (goes_by_listed target c.args.writes.now c.args.t c.in-Some-listed.entry c.requires.draft (c.last_of_row.ensures.none c.in_default.is) c.in-Some-listed.is (subst P c.in-Some-listed.is c.requires.target).0)
