use Rattle.std.proofs.Common.{◌≡◌, ◌≢◌, ◌==◌, ℕ, ◌<◌, ◌≤◌, ◌+◌, length, filter, List, Some, inl, inr, ap, refl, sym, ◌∙◌, subst, arith}
use Rattle.std.specs.Prelude.{All, slice_get}
use Rattle.std.proofs.lemmas.Bool.{cases_lt, false≢true}
use Rattle.std.proofs.lemmas.Option.{same_Some, slice_get_read}
use Rattle.store_manifest.specs.Manifest.{ManifestState}
use Rattle.store_manifest.specs.declared.entry.Entry.{Entry}
use Rattle.store_reopen.proofs.Stages.{in_none, is_none, none_in}
use Rattle.store_reopen.proofs.taking.list_none.Goals as goal

at_place : (at place : ℕ) → at < place + 1 → at ≤ place
at_place at place low = omega (arith, low)

pub returns-then-not-is_empty : goal.returns-then-not-is_empty
returns-then-not-is_empty c =
    let ms = c.args.manifests.now in
    let m = c.index-manifests-at.result in (
      λ so. absurd (false≢true so),
      λ none.
          let here : slice_get ms c.loop-at.at ≡ Some m = slice_get_read ms (length ms) c.loop-at.at m refl (omega arith) c.index-manifests-at.is in
          let size : length c.entries.result.now ≡ 0 = ap (λ (l : List Entry). length l) c.entries.ensures ∙ in_none m.entries c.args.row (none c.loop-at.at m (omega arith) here) in
          absurd (false≢true (sym c.if-not-is_empty.true ∙ (is_none (length c.entries.result.now) c.is_empty.result c.is_empty.ensures).1 size)),
    )

pub loop-at-preserved : goal.loop-at-preserved
loop-at-preserved c k m low here = elim (cases_lt k c.loop-at.at) [
  | inl before ↦ c.loop-at.invariant k m before here
  | inr now ↦
      let ms = c.args.manifests.now in
      let x = c.index-manifests-at.result in
      let at : k ≡ c.loop-at.at = omega (arith, low, now) in
      let there : slice_get ms c.loop-at.at ≡ Some x = slice_get_read ms (length ms) c.loop-at.at x refl (omega arith) c.index-manifests-at.is in
      let same : x ≡ m = same_Some x m (sym there ∙ ap (slice_get ms) (sym at) ∙ here) in
      let size : length (filter (λ (e : Entry). e.series == c.args.row) x.entries) ≡ 0 = ap (λ (l : List Entry). length l) (sym c.entries.ensures) ∙ (is_none (length c.entries.result.now) c.is_empty.result c.is_empty.ensures).0 c.if-not-is_empty.false in
      subst (λ (y : ManifestState). All (λ (e : Entry). e.series ≢ c.args.row) y.entries) same (none_in x.entries c.args.row size)
]
