use Rattle.std.proofs.Common.{◌≡◌, ℕ, List, [], true, false, Option, Some, None, Err, sym, ◌∙◌, ap}
use Rattle.std.specs.Prelude.{is_some}
use Rattle.gate_journal.specs.FirstBad.{IsTakenIn}
use Rattle.gate_journal.proofs.FirstBad.{taken_good, taken_bad}
use Rattle.pv_catalog.specs.declared.error.BatchErr.{BatchErr}
use Rattle.pv_catalog.specs.declared.row.Row.{Row}
use Rattle.pv_catalog.specs.Rows.{IsCatalogue}
use Rattle.pv_catalog.proofs.Meaning.{more, goes_bad}
use Rattle.pv_catalog.proofs.folding.FoldingBatchFold.take.Goals as goal

none_bad : (bs : List (List ℕ)) (rows : List Row) (bad : Option ℕ) → is_some bad ≡ false → IsCatalogue bs rows → IsTakenIn IsCatalogue bs rows bad
none_bad bs rows None is good = good
none_bad bs rows (Some n) is good = let wrong : true ≡ false = is in absurd (cc wrong)

pub returns-then-is_some : goal.returns-then-is_some
returns-then-is_some c bs taken counted = taken_bad IsCatalogue bs c.args.batch.now c.args.self.now.table.rows c.args.self.now.bad (sym c.is_some.ensures ∙ c.if-is_some.true) taken

pub returns-in-Ok : goal.returns-in-Ok
returns-in-Ok c bs taken counted =
    let good = sym c.is_some.ensures ∙ c.if-is_some.false in
    none_bad _ _ c.args.self.now.bad good (more [] bs c.args.batch.now _ _ (taken_good IsCatalogue bs c.args.self.now.table.rows c.args.self.now.bad good taken) c.in-Ok.ensures.ok)

pub returns-in-Err-Bad : goal.returns-in-Err-Bad
returns-in-Err-Bad c bs taken counted =
    goes_bad bs c.args.batch.now c.args.self.now.table.rows c.args.number counted (taken_good IsCatalogue bs c.args.self.now.table.rows c.args.self.now.bad (sym c.is_some.ensures ∙ c.if-is_some.false) taken) (c.in-Err-Bad.ensures.bad (ap (λ (e : BatchErr). Err e) c.in-Err-Bad.field-0-is))
