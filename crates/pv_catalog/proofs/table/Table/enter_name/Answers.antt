use Rattle.std.proofs.Common.{◌≡◌, ◌<◌, ◌++◌, ◌∷◌, [], ℕ, List, length, get_or, sym, ◌∙◌, ap, subst, arith}
use Rattle.series_model.specs.Limits.{most_rows}
use Rattle.pb_messages.specs.declared.about.State.TheVariants.{Retired}
use Rattle.pv_name.specs.Key.{key_of}
use Rattle.pv_catalog.specs.declared.row.Row.{Row}
use Rattle.pv_catalog.specs.Rows.{MayFollow, switched, renamed_row}
use Rattle.pv_catalog.specs.Table.{TableState}
use Rattle.pv_catalog.proofs.Listing.{some_then, none_then}
use Rattle.pv_catalog.proofs.Refusing.{new_row, new_follows, new_over}
use Rattle.pv_catalog.proofs.table.Table.enter_name.Goals as goal

pub returns-then-is_some-clause-bad : goal.returns-then-is_some-clause-bad
returns-then-is_some-clause-bad c told new enters =
    let named : c.in_ok-name.name ≡ c.args.name.now = c.in_ok-name.ensures.ok.0 ∙ c.bytes.ensures in
    let taken = some_then c.holder.result _ (sym c.is_some.ensures ∙ c.if-is_some.true) c.holder.ensures.found in
    enters.3.free taken.0.now.id (record { row = taken.0.now; here = taken.2.0; is = taken.2.1 ∙ ap key_of named })

pub propose_renamed_row-requires-clause-follows : goal.propose_renamed_row-requires-clause-follows
propose_renamed_row-requires-clause-follows c =
    let rows = c.args.self.now.rows in
    let place : c.args.id ≡ length rows = omega (arith, ap length c.rows-count.ensures.value, c.if-id-count.false) in
    let room : length rows < most_rows = omega (arith, ap length c.rows-count.ensures.value, c.if-count-ge-MOST_ROWS.false) in
    let low : c.args.old < length rows = omega (arith, place, c.if-old-id.false) in
    let at = subst (λ (l : List Row). c.index-rows-old.result ≡ get_or l c.args.old c.index-rows-old.result) c.rows.ensures.value c.index-rows-old.is in
    let new = new_row rows c.args.old c.args.id c.in_ok-name.name c.index-rows-old.result c.in_ok-row.row (c.is_paused.ensures.0 c.if-not-is_paused.false) low at place c.in_ok-row.ensures.row in
    new_follows rows c.args.old c.in_ok-name.name c.in_ok-row.row new c.make_renamed_row.ensures.name (c.holder.ensures.none (none_then c.holder.result (sym c.is_some.ensures ∙ c.if-is_some.false))) room

pub propose_renamed_row-requires-clause-base : goal.propose_renamed_row-requires-clause-base
propose_renamed_row-requires-clause-base c =
    let rows = c.args.self.now.rows in
    let place : c.args.id ≡ length rows = omega (arith, ap length c.rows-count.ensures.value, c.if-id-count.false) in
    let low : c.args.old < length rows = omega (arith, place, c.if-old-id.false) in
    let at = subst (λ (l : List Row). c.index-rows-old.result ≡ get_or l c.args.old c.index-rows-old.result) c.rows.ensures.value c.index-rows-old.is in
    let new = new_row rows c.args.old c.args.id c.in_ok-name.name c.index-rows-old.result c.in_ok-row.row (c.is_paused.ensures.0 c.if-not-is_paused.false) low at place c.in_ok-row.ensures.row in
    new_over rows c.args.old c.in_ok-name.name c.in_ok-row.row new

pub returns-clause-ok : goal.returns-clause-ok
returns-clause-ok c =
    let rows = c.args.self.now.rows in
    let named : c.in_ok-name.name ≡ c.args.name.now = c.in_ok-name.ensures.ok.0 ∙ c.bytes.ensures in
    let place : c.args.id ≡ length rows = omega (arith, ap length c.rows-count.ensures.value, c.if-id-count.false) in
    let room : length rows < most_rows = omega (arith, ap length c.rows-count.ensures.value, c.if-count-ge-MOST_ROWS.false) in
    let low : c.args.old < length rows = omega (arith, place, c.if-old-id.false) in
    let at = subst (λ (l : List Row). c.index-rows-old.result ≡ get_or l c.args.old c.index-rows-old.result) c.rows.ensures.value c.index-rows-old.is in
    let new = new_row rows c.args.old c.args.id c.in_ok-name.name c.index-rows-old.result c.in_ok-row.row (c.is_paused.ensures.0 c.if-not-is_paused.false) low at place c.in_ok-row.ensures.row in
    let may = new_follows rows c.args.old c.in_ok-name.name c.in_ok-row.row new c.make_renamed_row.ensures.name (c.holder.ensures.none (none_then c.holder.result (sym c.is_some.ensures ∙ c.if-is_some.false))) room in
    let is : c.in_ok-row.row ≡ renamed_row c.args.old c.args.id c.args.name.now new.was =
    new.is ∙ (ap (λ (n : ℕ). renamed_row c.args.old n c.in_ok-name.name new.was) (sym place) ∙ ap (λ (l : List ℕ). renamed_row c.args.old c.args.id l new.was) named) in (
      new.was,
      new.here,
      new.paused,
      subst (MayFollow rows) is may,
      ap (λ (t : TableState). t.rows) c.take_in.ensures.value ∙ (ap (λ (t : TableState). t.next) c.in_ok-propose_renamed_row.ensures.ok ∙ ap (λ (r : Row). switched c.args.old Retired rows ++ r ∷ []) is),
    )
