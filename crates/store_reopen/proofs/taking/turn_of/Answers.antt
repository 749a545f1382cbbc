use Rattle.std.proofs.Common.{◌≡◌, ℕ, ◌<◌, ◌+◌, ◌*◌, ◌-◌, List, Option, length, get_or, Some, None, ap, refl, sym, ◌∙◌, subst, arith}
use Rattle.std.specs.Prelude.{slice_get}
use Rattle.std.proofs.lemmas.Bool.{false≢true}
use Rattle.std.proofs.lemmas.Option.{same_Some, slice_get_read, slice_get_within}
use Rattle.found_files.specs.declared.finding.Candidate.{Candidate}
use Rattle.pv_catalog.specs.declared.row.Row.{Row}
use Rattle.pv_catalog.specs.Rows.{HasName}
use Rattle.store_manifest.specs.Manifest.{ManifestState}
use Rattle.store_reopen.specs.Adoption.{IsSingle, row_of}
use Rattle.store_reopen.specs.Turns.{IsOfTurn, ListNone}
use Rattle.store_reopen.proofs.Stages.{same_turn, turn_place, turn_row}
use Rattle.store_reopen.proofs.taking.turn_of.Goals as goal

has_name : (ms : List ManifestState) (rows : List Row) (turn place : ℕ) (c : Candidate) (bytes : List ℕ) → bytes ≡ c.name → IsOfTurn ms rows turn place c → HasName rows (row_of turn) bytes
has_name ms rows turn place c bytes named is = record { row = is.row; here = is.stands; is = sym is.name ∙ sym named }

none_some : (n : ℕ) → ◌≡◌ {A = Option ℕ} None (Some n) → ⊥
none_some n is = cc

row_read : (rows listed : List Row) (i : ℕ) (r : Row) → listed ≡ rows → i < length rows → r ≡ get_or listed i r → slice_get rows i ≡ Some r
row_read rows listed i r are low is = slice_get_read rows (length rows) i r refl low (subst (λ (l : List Row). r ≡ get_or l i r) are is)

-- the row that has the name is the turn's
same_row : (rows listed : List Row) (row turn : ℕ) (x of : Row) → listed ≡ rows → row < length rows → x ≡ get_or listed row x → row ≡ row_of turn → slice_get rows (row_of turn) ≡ Some of → x ≡ of
same_row rows listed row turn x of are low is same there = same_Some x of (sym (row_read rows listed row x are low is) ∙ ap (slice_get rows) same ∙ there)

pub bounds-rows-row : goal.bounds-rows-row
bounds-rows-row c =
    let low = slice_get_within c.args.catalogue.now.rows c.in_ok-row.row c.in_ok-row.ensures.found.row c.in_ok-row.ensures.found.here in
    omega (arith, low, ap (λ (l : List Row). length l) c.rows.ensures.value)

pub returns-in_err-row-clause-only : goal.returns-in_err-row-clause-only
returns-in_err-row-clause-only c turn is =
    absurd (none_some (row_of turn) (c.in_err-row.ensures.only (row_of turn) (has_name c.args.manifests.now c.args.catalogue.now.rows turn c.args.place c.args.candidate.now c.bytes.result.now c.bytes.ensures.value is)))

pub returns-then-not-is_type-clause-only : goal.returns-then-not-is_type-clause-only
returns-then-not-is_type-clause-only c turn is =
    let rows = c.args.catalogue.now.rows in
    let x = c.index-rows-row.result in
    let same : c.in_ok-row.row ≡ row_of turn = same_Some c.in_ok-row.row (row_of turn) (c.in_ok-row.ensures.only (row_of turn) (has_name c.args.manifests.now rows turn c.args.place c.args.candidate.now c.bytes.result.now c.bytes.ensures.value is)) in
    let low = slice_get_within rows c.in_ok-row.row c.in_ok-row.ensures.found.row c.in_ok-row.ensures.found.here in
    let row = same_row rows c.rows.result.now c.in_ok-row.row turn x is.row c.rows.ensures.value low c.index-rows-row.is same is.stands in
    let so = c.is_type.ensures.1 (is.type ∙ ap (λ (r : Row). r.about.ty) (sym row)) in
    absurd (false≢true (sym c.if-not-is_type.true ∙ so))

pub returns-then-not-is_single-clause-only : goal.returns-then-not-is_single-clause-only
returns-then-not-is_single-clause-only c turn is =
    let rows = c.args.catalogue.now.rows in
    let x = c.index-rows-row.result in
    let same : c.in_ok-row.row ≡ row_of turn = same_Some c.in_ok-row.row (row_of turn) (c.in_ok-row.ensures.only (row_of turn) (has_name c.args.manifests.now rows turn c.args.place c.args.candidate.now c.bytes.result.now c.bytes.ensures.value is)) in
    let low = slice_get_within rows c.in_ok-row.row c.in_ok-row.ensures.found.row c.in_ok-row.ensures.found.here in
    let row = same_row rows c.rows.result.now c.in_ok-row.row turn x is.row c.rows.ensures.value low c.index-rows-row.is same is.stands in
    let so = c.is_single.ensures.1 (subst IsSingle (sym row) is.single) in
    absurd (false≢true (sym c.if-not-is_single.true ∙ so))

pub returns-then-not-list_none-clause-only : goal.returns-then-not-list_none-clause-only
returns-then-not-list_none-clause-only c turn is =
    let rows = c.args.catalogue.now.rows in
    let same : c.in_ok-row.row ≡ row_of turn = same_Some c.in_ok-row.row (row_of turn) (c.in_ok-row.ensures.only (row_of turn) (has_name c.args.manifests.now rows turn c.args.place c.args.candidate.now c.bytes.result.now c.bytes.ensures.value is)) in
    let so = c.list_none.ensures.1 (subst (λ (r : ℕ). ListNone c.args.place r c.args.manifests.now) (sym same) is.none) in
    absurd (false≢true (sym c.if-not-list_none.true ∙ so))

pub returns-clause-takes : goal.returns-clause-takes
returns-clause-takes c =
    let rows = c.args.catalogue.now.rows in
    let x = c.index-rows-row.result in
    let row = c.in_ok-row.row in
    let place = c.args.place in
    let found = c.in_ok-row.ensures.found in
    let three : place < 3 = omega (arith, c.requires.place, c.requires.three) in
    let low = slice_get_within rows row found.row found.here in
    let there = row_read rows c.rows.result.now row x c.rows.ensures.value low c.index-rows-row.is in
    let named : x ≡ found.row = same_Some x found.row (sym there ∙ found.here) in
    let is : IsOfTurn c.args.manifests.now rows (3 * row + (2 - place)) place c.args.candidate.now = record {
      here = turn_place row place three;
      row = x;
      stands = ap (slice_get rows) (turn_row row place three) ∙ there;
      name = sym c.bytes.ensures.value ∙ sym found.is ∙ ap (λ (r : Row). r.name) (sym named);
      type = c.is_type.ensures.0 c.if-not-is_type.false;
      single = c.is_single.ensures.0 c.if-not-is_single.false;
      none = subst (λ (r : ℕ). ListNone place r c.args.manifests.now) (sym (turn_row row place three)) (c.list_none.ensures.0 c.if-not-list_none.false);
    } in
    (omega (arith, low, c.from.ensures, three), subst (λ (d : ℕ). IsOfTurn c.args.manifests.now rows (3 * row + d) place c.args.candidate.now) (sym c.from.ensures) is)

pub returns-clause-only : goal.returns-clause-only
returns-clause-only c turn is =
    let same : c.in_ok-row.row ≡ row_of turn = same_Some c.in_ok-row.row (row_of turn) (c.in_ok-row.ensures.only (row_of turn) (has_name c.args.manifests.now c.args.catalogue.now.rows turn c.args.place c.args.candidate.now c.bytes.result.now c.bytes.ensures.value is)) in
    let three : c.args.place < 3 = omega (arith, c.requires.place, c.requires.three) in
    ap (λ (d : ℕ). Some (3 * c.in_ok-row.row + d)) c.from.ensures ∙ ap (λ (n : ℕ). Some n) (same_turn c.in_ok-row.row c.args.place turn three same is.here)
