use Rattle.std.proofs.Common.{◌≡◌, ◌^◌, ◌<◌, ◌++◌, ◌∷◌, [], List, ℕ, Err, length, get_or, sym, ◌∙◌, ap, subst, arith}
use Rattle.pb_messages.specs.declared.about.State.TheVariants.{Retired}
use Rattle.pv_catalog.specs.declared.error.RenameErr.{RenameErr}
use Rattle.pv_catalog.specs.declared.row.Row.{Row}
use Rattle.pv_catalog.specs.Rows.{IsBatch, switched}
use Rattle.pv_catalog.specs.Table.{TableState}
use Rattle.pv_catalog.proofs.Refusing.{one_name_reason, no_name_reason, new_row, new_follows, new_over, new_next, new_batch}
use Rattle.pv_catalog.proofs.table.Table.propose_name.Goals as goal

pub returns-in-Some-clause-exactly : goal.returns-in-Some-clause-exactly
returns-in-Some-clause-exactly c e refuses =
    ap (λ (x : RenameErr). Err x) (one_name_reason c.args.self.now.rows c.args.old c.args.name.now c.rows.ensures.are c.in-Some.e e c.in-Some.ensures.refuses refuses)

pub returns-in_err-row-clause-exactly : goal.returns-in_err-row-clause-exactly
returns-in_err-row-clause-exactly c e refuses =
    let free = c.name_refusal.ensures.free c.in-None.is in
    absurd (no_name_reason c.args.self.now.rows c.args.old c.args.name.now (c.name_refusal.ensures.paused c.in-None.is) free.0 free.1 e refuses)

pub returns-in_err-batch-clause-exactly : goal.returns-in_err-batch-clause-exactly
returns-in_err-batch-clause-exactly c e refuses =
    let free = c.name_refusal.ensures.free c.in-None.is in
    absurd (no_name_reason c.args.self.now.rows c.args.old c.args.name.now (c.name_refusal.ensures.paused c.in-None.is) free.0 free.1 e refuses)

pub returns-in_err-key_path-clause-exactly : goal.returns-in_err-key_path-clause-exactly
returns-in_err-key_path-clause-exactly c e refuses =
    let free = c.name_refusal.ensures.free c.in-None.is in
    absurd (no_name_reason c.args.self.now.rows c.args.old c.args.name.now (c.name_refusal.ensures.paused c.in-None.is) free.0 free.1 e refuses)

pub propose_renamed_row-requires-clause-follows : goal.propose_renamed_row-requires-clause-follows
propose_renamed_row-requires-clause-follows c =
    let rows = c.args.self.now.rows in
    let free = c.name_refusal.ensures.free c.in-None.is in
    let at = subst (λ (l : List Row). c.index-rows-old.result ≡ get_or l c.args.old c.index-rows-old.result) c.rows-2.ensures.value c.index-rows-old.is in
    let new = new_row rows c.args.old _ c.args.name.now c.index-rows-old.result c.in_ok-row.row (c.name_refusal.ensures.paused c.in-None.is) c.requires at (ap length c.rows.ensures.value) c.in_ok-row.ensures.row in
    new_follows rows c.args.old c.args.name.now c.in_ok-row.row new c.make_renamed_row.ensures.name free.0 free.1

pub propose_renamed_row-requires-clause-base : goal.propose_renamed_row-requires-clause-base
propose_renamed_row-requires-clause-base c =
    let rows = c.args.self.now.rows in
    let at = subst (λ (l : List Row). c.index-rows-old.result ≡ get_or l c.args.old c.index-rows-old.result) c.rows-2.ensures.value c.index-rows-old.is in
    let new = new_row rows c.args.old _ c.args.name.now c.index-rows-old.result c.in_ok-row.row (c.name_refusal.ensures.paused c.in-None.is) c.requires at (ap length c.rows.ensures.value) c.in_ok-row.ensures.row in
    new_over rows c.args.old c.args.name.now c.in_ok-row.row new

pub returns-in_err-propose_renamed_row-clause-exactly : goal.returns-in_err-propose_renamed_row-clause-exactly
returns-in_err-propose_renamed_row-clause-exactly c e refuses =
    let free = c.name_refusal.ensures.free c.in-None.is in
    absurd (no_name_reason c.args.self.now.rows c.args.old c.args.name.now (c.name_refusal.ensures.paused c.in-None.is) free.0 free.1 e refuses)

pub returns-clause-batch : goal.returns-clause-batch
returns-clause-batch c =
    let rows = c.args.self.now.rows in
    let free = c.name_refusal.ensures.free c.in-None.is in
    let at = subst (λ (l : List Row). c.index-rows-old.result ≡ get_or l c.args.old c.index-rows-old.result) c.rows-2.ensures.value c.index-rows-old.is in
    let new = new_row rows c.args.old _ c.args.name.now c.index-rows-old.result c.in_ok-row.row (c.name_refusal.ensures.paused c.in-None.is) c.requires at (ap length c.rows.ensures.value) c.in_ok-row.ensures.row in
    let may = new_follows rows c.args.old c.args.name.now c.in_ok-row.row new c.make_renamed_row.ensures.name free.0 free.1 in
    let fits : length c.rows.result.now < 2 ^ 32 = omega (arith, ap length c.rows.ensures.value, free.1) in
    let made = new_batch rows c.args.old (length c.rows.result.now) c.args.name.now c.in_ok-row.row new may (ap length c.rows.ensures.value) (omega arith) fits c.in_ok-batch.ensures.fit in
    subst (λ (next : List Row). IsBatch rows c.in_ok-batch.batch.items next) (sym (ap (λ (t : TableState). t.next) c.in_ok-propose_renamed_row.ensures.ok))
    (subst (λ (b : List ℕ). IsBatch rows b (switched c.args.old Retired rows ++ c.in_ok-row.row ∷ [])) (sym c.in_ok-batch.ensures.bytes) made)

pub returns-clause-next : goal.returns-clause-next
returns-clause-next c =
    let rows = c.args.self.now.rows in
    let at = subst (λ (l : List Row). c.index-rows-old.result ≡ get_or l c.args.old c.index-rows-old.result) c.rows-2.ensures.value c.index-rows-old.is in
    let new = new_row rows c.args.old _ c.args.name.now c.index-rows-old.result c.in_ok-row.row (c.name_refusal.ensures.paused c.in-None.is) c.requires at (ap length c.rows.ensures.value) c.in_ok-row.ensures.row in
    ap (λ (t : TableState). t.next) c.in_ok-propose_renamed_row.ensures.ok ∙ new_next rows c.args.old c.args.name.now c.in_ok-row.row new

pub returns-clause-exactly : goal.returns-clause-exactly
returns-clause-exactly c e refuses =
    let free = c.name_refusal.ensures.free c.in-None.is in
    absurd (no_name_reason c.args.self.now.rows c.args.old c.args.name.now (c.name_refusal.ensures.paused c.in-None.is) free.0 free.1 e refuses)
