use Rattle.std.proofs.Common.{◌≡◌, ◌+◌, ◌++◌, [], List, sym, ◌∙◌, ap, subst, arith}
use Rattle.std.specs.Prelude.{All}
use Rattle.std.proofs.lemmas.Option.{slice_get_read}
use Rattle.disk_model.specs.Files.{Files}
use Rattle.store_reopen.specs.Adoption.{AreUnlisted}
use Rattle.store_reopen.specs.Finding.{IsOfPlace}
use Rattle.store_reopen.specs.declared.finding.Unlisted.{Unlisted}
use Rattle.store_reopen.proofs.TakenFiles.{all_unlisted}
use Rattle.store_reopen.proofs.finding.find_unlisted.Goals as goal

joined : (v w x y a b c : List Unlisted) → v ≡ [] → w ≡ v ++ a → x ≡ w ++ b → y ≡ x ++ c → y ≡ a ++ b ++ c
joined v w x y a b c none one two more = more ∙ ap (λ (l : List Unlisted). l ++ c) (two ∙ ap (λ (l : List Unlisted). l ++ b) (one ∙ ap (λ (l : List Unlisted). l ++ a) none))

none_yet : (P : Unlisted → Type 0) (v : List Unlisted) → v ≡ [] → All P v
none_yet P v is = subst (All P) (sym is) (λ k d low. absurd (omega (arith, low)))

pub returns-clause-found : goal.returns-clause-found
returns-clause-found g c told =
    let image = g.D.Disk.files c.args.disk.now in
    let rows = c.args.catalogue.now.rows in
    let ms = c.args.manifests.now in
    let three = c.requires.three in
    let a = c.index-manifests-0.result in
    let b = c.index-manifests-1.result in
    let m = c.index-manifests-2.result in
    let one = c.in_ok-find_in.ensures.found told in
    let two = c.in_ok-find_in-2.ensures.found told in
    let more = c.in_ok-find_in-3.ensures.found told in
    let same : g.D.Disk.files c.find_in.new.disk ≡ image = c.find_in.ensures.read.files told in
    let later : g.D.Disk.files c.find_in-2.new.disk ≡ image = c.find_in-2.ensures.read.files told ∙ same in
    all_unlisted image rows ms three a b m (slice_get_read ms 3 0 a (sym three) (omega arith) c.index-manifests-0.is) (slice_get_read ms 3 1 b (sym three) (omega arith) c.index-manifests-1.is) (slice_get_read ms 3 2 m (sym three) (omega arith) c.index-manifests-2.is)
    more.0 two.0 one.0 c.find_in-3.new.unlisted.items
    (subst (λ (f : Files). AreUnlisted a.granularity f ((0 + 1, rows), a.entries) 0 more.0) later more.2) (subst (λ (f : Files). AreUnlisted b.granularity f ((1 + 1, rows), b.entries) 1 two.0) same two.2) one.2
    (joined c.new-unlisted.result.items c.find_in.new.unlisted.items c.find_in-2.new.unlisted.items c.find_in-3.new.unlisted.items one.0 two.0 more.0 c.new-unlisted.ensures.items one.1 two.1 more.1)

pub returns-clause-shape : goal.returns-clause-shape
returns-clause-shape g c =
    let ms = c.args.manifests.now in
    let three = c.requires.three in
    let one = c.in_ok-find_in.ensures.shape ms (slice_get_read ms 3 2 c.index-manifests-2.result (sym three) (omega arith) c.index-manifests-2.is) (none_yet (IsOfPlace ms) c.new-unlisted.result.items c.new-unlisted.ensures.items) in
    let two = c.in_ok-find_in-2.ensures.shape ms (slice_get_read ms 3 1 c.index-manifests-1.result (sym three) (omega arith) c.index-manifests-1.is) one in
    c.in_ok-find_in-3.ensures.shape ms (slice_get_read ms 3 0 c.index-manifests-0.result (sym three) (omega arith) c.index-manifests-0.is) two
