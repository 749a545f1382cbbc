use Rattle.std.proofs.Common.{◌++◌, List, ◌∙◌, ap}
use Rattle.std.specs.Prelude.{slice_get}
use Rattle.store_manifest.specs.Manifest.{ManifestState}
use Rattle.tier_store.specs.Counting.{behind}
use Rattle.tier_store.specs.Pinning.{entries_of}
use Rattle.tier_store.specs.Tallying.{end_of_files}
use Rattle.tier_store.proofs.Tallies.{ends_both}
use Rattle.tier_store.proofs.store.TierStore.last_own.Goals as goal

pub returns : goal.returns
returns g c =
    let ms = c.args.self.now.manifests.items in
    let row = c.args.row in
    let a = entries_of row (slice_get ms 2) in
    let b = entries_of row (slice_get ms 1) in
    let d = entries_of row (slice_get ms 0) in
    let n = behind c.args.before in
    let one = behind c.last_listed-last.result in
    let two = behind c.last_listed-last-2.result in
    let long = c.own_entries.ensures ∙ ap (λ (l : List ManifestState). entries_of row (slice_get l 2)) c.deref.ensures.value in
    let medium = c.own_entries-2.ensures ∙ ap (λ (l : List ManifestState). entries_of row (slice_get l 1)) c.deref-2.ensures.value in
    let short = c.own_entries-3.ensures ∙ ap (λ (l : List ManifestState). entries_of row (slice_get l 0)) c.deref-3.ensures.value in
    ends_both n two (behind c.last_listed.result) (a ++ b) d
    (ends_both n one two a b (c.last_listed-last.ensures ∙ ap (end_of_files n) long) (c.last_listed-last-2.ensures ∙ ap (end_of_files one) medium))
    (c.last_listed.ensures ∙ ap (end_of_files two) short)
