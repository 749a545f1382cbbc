use Rattle.std.proofs.Common.{◌≡◌, ◌∙◌, None, ℕ, sym, ap, subst, take}
use Rattle.pb_lines.specs.File.{IsBadAt}
use Rattle.pb_file.specs.Walk.{Walk}
use Rattle.pb_file.proofs.Walking.{bad_at}
use Rattle.pb_file.proofs.Reading.{bare}
use Rattle.pb_file.proofs.search.read_header.Goals as goal

pub returns-in-Header-clause-begun : goal.returns-in-Header-clause-begun
returns-in-Header-clause-begun g c tells h =
    let read = c.in-Header.ensures.walked tells None h in
    (bare c.next.new.line.items read.0, read.1)

pub returns-in-Damaged-clause-refused : goal.returns-in-Damaged-clause-refused
returns-in-Damaged-clause-refused g c tells h at is =
    let bytes = g.H.ReadAt.bytes c.args.file.now in
    let gives = rw c.requires.fresh.0 at c.in-Damaged.ensures.gives in
    let bad = bad_at None bytes c.next.new.line.items c.in-Damaged.at c.next.new.self (c.in-Damaged.ensures.walked tells None h) in
    let same : c.in-Damaged.at ≡ at = cc in
    let L : ℕ → Type 0 = λ n. IsBadAt (take n bytes) c.in-Damaged.at in
    let P : ℕ → Type 0 = λ n. IsBadAt (take c.args.walk.now.len bytes) n in
    (subst P same (subst L (ap (λ (w : Walk). w.len) gives.1) bad), sym same ∙ gives.0)
