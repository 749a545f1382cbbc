use Rattle.std.proofs.Common.{List, subst}
use Rattle.pv_catalog.specs.Rows.{HasName}
use Rattle.pv_catalog.specs.declared.row.Row.{Row}
use Rattle.tier_store.specs.Details.{is_described, none_has}
use Rattle.tier_store.specs.Pinning.{HasNoName}
use Rattle.tier_store.proofs.PinnedFiles.{no_name, row_within}
use Rattle.tier_store.proofs.store.TierStore.describe_named.Goals as goal

pub returns-in_default-clause-says : goal.returns-in_default-clause-says
returns-in_default-clause-says g c held has =
    let rows = c.args.self.now.catalogue.rows in
    let name = c.args.name.now in
    none_has (subst (λ (rs : List Row). HasNoName rs name) has.known.rows (λ i named. no_name rows name i c.find.result c.in_default.is c.find.ensures.only named))

pub describe-requires-clause-row : goal.describe-requires-clause-row
describe-requires-clause-row g c = row_within c.args.self.now.catalogue.rows c.in-Some.row c.args.name.now c.in-Some.ensures.found

pub returns-clause-says : goal.returns-clause-says
returns-clause-says g c held has =
    is_described c.in-Some.row c.in_ok-details.details (subst (λ (rs : List Row). HasName rs c.in-Some.row c.args.name.now) has.known.rows c.in-Some.ensures.found) (c.in_ok-details.ensures.described held has)
