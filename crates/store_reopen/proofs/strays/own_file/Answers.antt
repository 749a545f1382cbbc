use Rattle.std.proofs.Common.{◌≡◌, ◌<◌, ℕ, List, Option, Some, length, get_or, take, true, sym, ◌∙◌, ap, subst}
use Rattle.std.specs.Prelude.{IfSome, slice_get}
use Rattle.std.proofs.lemmas.Option.{same_Some}
use Rattle.partition_names.specs.declared.part.Part.{Part}
use Rattle.partition_names.specs.Path.{path_of}
use Rattle.pv_name.specs.Key.{key_of}
use Rattle.pv_catalog.specs.declared.row.Row.{Row}
use Rattle.found_files.proofs.Paths.{key_at}
use Rattle.store_reopen.proofs.AdoptedDisk.{row_here, row_there}
use Rattle.store_reopen.proofs.strays.own_file.Goals as goal

pub returns-then-branch-clause-only : goal.returns-then-branch-clause-only
returns-then-branch-clause-only c series part file =
    let only = c.part_in.ensures.only file.row.name part file.unit file.named in
    let pair = same_Some {A = ℕ × Part} (c.in-Some.end, c.in-Some.part) (length (key_of file.row.name), part) (sym c.in-Some.is ∙ only) in
    let end : c.in-Some.end ≡ length (key_of file.row.name) = ap (λ (p : ℕ × Part). p.0) pair in
    let unit : c.in-Some.part ≡ part = ap (λ (p : ℕ × Part). p.1) pair in
    let key : key_of file.row.name ≡ take c.in-Some.end c.args.path.now = key_at file.row.name part.name c.args.path.now c.in-Some.end file.named end in
    let found = c.in_ok-row.ensures.only series file.row file.stands key in
    let row : c.in-Some-2.row ≡ series = same_Some c.in-Some-2.row series (sym c.in-Some-2.is ∙ found) in
    λ i. Some (row i, unit i)

pub returns-else-branch-clause-only : goal.returns-else-branch-clause-only
returns-else-branch-clause-only c series part file =
    let rows = c.rows.result.now in
    let only = c.part_in.ensures.only file.row.name part file.unit file.named in
    let pair = same_Some {A = ℕ × Part} (c.in-Some.end, c.in-Some.part) (length (key_of file.row.name), part) (sym c.in-Some.is ∙ only) in
    let end : c.in-Some.end ≡ length (key_of file.row.name) = ap (λ (p : ℕ × Part). p.0) pair in
    let unit : c.in-Some.part ≡ part = ap (λ (p : ℕ × Part). p.1) pair in
    let key : key_of file.row.name ≡ take c.in-Some.end c.args.path.now = key_at file.row.name part.name c.args.path.now c.in-Some.end file.named end in
    let found = c.in_ok-row.ensures.only series file.row file.stands key in
    let row : c.in-Some-2.row ≡ series = same_Some c.in-Some-2.row series (sym c.in-Some-2.is ∙ found) in
    let here : slice_get rows c.in-Some-2.row ≡ Some file.row = (λ i. slice_get (c.rows.ensures.value i) (row i)) ∙ file.stands in
    let r : Row = get_or rows c.in-Some-2.row c.index-rows-row.result in
    let is : r ≡ file.row = sym c.index-rows-row.is ∙ row_there rows c.in-Some-2.row c.index-rows-row.result file.row c.index-rows-row.is here in
    let named : path_of r.name c.in-Some.part.name ≡ c.args.path.now = (λ i. path_of (is i).name (unit i).name) ∙ file.named in
    let yes : c.in_ok-has_path.field-0 ≡ true = c.in_ok-has_path.ensures.1 named in
    absurd (cc (yes, c.if-branch.false))

pub returns-in-None-clause-only : goal.returns-in-None-clause-only
returns-in-None-clause-only c series part file =
    let only = c.part_in.ensures.only file.row.name part file.unit file.named in
    let pair = same_Some {A = ℕ × Part} (c.in-Some.end, c.in-Some.part) (length (key_of file.row.name), part) (sym c.in-Some.is ∙ only) in
    let key : key_of file.row.name ≡ take c.in-Some.end c.args.path.now = key_at file.row.name part.name c.args.path.now c.in-Some.end file.named (ap (λ (p : ℕ × Part). p.0) pair) in
    absurd (cc (sym c.in-None.is ∙ c.in_ok-row.ensures.only series file.row file.stands key))

pub returns-then-branch-clause-found : goal.returns-then-branch-clause-found
returns-then-branch-clause-found c =
    let rows = c.rows.result.now in
    let k = c.in-Some-2.row in
    let low : k < length c.args.catalogue.now.rows = subst (λ (o : Option ℕ). IfSome o (λ i. i < length c.args.catalogue.now.rows)) c.in-Some-2.is c.in_ok-row.ensures.within in
    let low_here : k < length rows = subst (λ (rs : List Row). k < length rs) (sym c.rows.ensures.value) low in
    record {
      row = get_or rows k c.index-rows-row.result;
      stands = ap (λ (rs : List Row). slice_get rs k) (sym c.rows.ensures.value) ∙ row_here rows k c.index-rows-row.result low_here;
      unit = c.in-Some.ensures.within.1;
      named = c.in_ok-has_path.ensures.0 c.if-branch.true;
    }
