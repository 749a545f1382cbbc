use Rattle.std.proofs.Common.{◌≡◌, ◌<◌, ℕ, List, length, Some, refl, sym, ◌∙◌, ap, subst}
use Rattle.std.specs.Prelude.{slice_get}
use Rattle.std.proofs.lemmas.Option.{slice_get-get_or}
use Rattle.pv_catalog.specs.Catalogue.{CatalogueState}
use Rattle.pv_catalog.specs.declared.row.Row.{Row}
use Rattle.tier_store.specs.Seen.{seen}
use Rattle.store_reports.specs.Status.{files_of, row_line}
use Rattle.store_reports.proofs.Summing.{number_there}
use Rattle.store_reports.proofs.summary.fill_row.Goals as goal

pub returns-clause-line : goal.returns-clause-line
returns-clause-line g c =
    let old = c.args.store.now in
    let mid = c.tally.new.self in
    let i = c.args.row in
    let at = seen g.D.Disk old in
    let same = c.tally.ensures.same in
    let lists = ap (λ m. m.items) same.1 in
    let rows : c.rows.result.now ≡ old.catalogue.rows = c.rows.ensures.value ∙ ap (λ (s : CatalogueState). s.rows) (c.catalogue.ensures ∙ same.0) in
    let found = c.index-rows-row.result in
    let low : i < length c.rows.result.now = subst (λ (rs : List Row). i < length rs) (sym rows) c.requires.row in
    let here : slice_get c.rows.result.now i ≡ Some found = slice_get-get_or c.rows.result.now i found low ∙ ap (λ (r : Row). Some r) (sym c.index-rows-row.is) in
    let n = c.in_ok-tally.tally.count in
    let one = length c.entries-short.result.now in
    let two = length c.entries-medium.result.now in
    let three = length c.entries-long.result.now in
    let short : one ≡ files_of 0 i at = number_there old.manifests.items mid.manifests.items 0 i c.manifest.result.now c.entries-short.result.now lists (c.manifest.ensures 0 refl) c.entries-short.ensures in
    let medium : two ≡ files_of 1 i at = number_there old.manifests.items mid.manifests.items 1 i c.manifest-2.result.now c.entries-medium.result.now lists (c.manifest-2.ensures 1 refl) c.entries-medium.ensures in
    let long : three ≡ files_of 2 i at = number_there old.manifests.items mid.manifests.items 2 i c.manifest-3.result.now c.entries-long.result.now lists (c.manifest-3.ensures 2 refl) c.entries-long.ensures in
    record {
      row = found;
      here = ap (λ (rs : List Row). slice_get rs i) (sym rows) ∙ here;
      count = n;
      is = record { held = λ told held has stands. (c.in_ok-tally.ensures.tally told held has stands).count; listed = c.in_ok-tally.ensures.listed };
      text =
          c.in_ok-fill_line.ensures
          ∙ (ap (λ (k : ℕ). row_line found n k two three) short ∙ (ap (λ (k : ℕ). row_line found n (files_of 0 i at) k three) medium ∙ ap (λ (k : ℕ). row_line found n (files_of 0 i at) (files_of 1 i at) k) long));
    }
