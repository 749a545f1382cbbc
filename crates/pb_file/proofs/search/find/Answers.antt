use Rattle.std.proofs.Common.{◌≡◌, ◌∙◌, Err, List, ℕ, sym, ap, subst, arith, take, drop}
use Rattle.std.proofs.lemmas.Result.{err_from_is_err_and}
use Rattle.pb_file.specs.declared.search.SearchErr.{SearchErr}
use Rattle.pb_file.specs.declared.search.SearchErr.TheVariants as search_err
use Rattle.pb_lines.specs.File.{HasNoSample}
use Rattle.pb_file.specs.Walk.{Walk}
use Rattle.pb_file.specs.Skip.{HasHeader}
use Rattle.pb_file.specs.Parting.{BeginsFrom, IsLineAt}
use Rattle.pb_file.proofs.Reading.{same_err, keeps_header}
use Rattle.pb_file.proofs.search.find.Goals as goal

pub returns-in_err-found-clause-refused : goal.returns-in_err-found-clause-refused
returns-in_err-found-clause-refused g c tells head info h at is =
    let bytes = g.H.ReadAt.bytes c.args.file.now in
    let w = c.start_from.new.walk in
    let e = c.in_ok-at.ensures in
    let p = err_from_is_err_and c.from_residual-in_err-found.result c.from_residual-in_err-found.ensures.1 in
    let st : c.in_err-found.field-0.0 ≡ search_err.Damaged at = sym p.2 ∙ same_err c.from_residual-in_err-found.result p.0 (search_err.Damaged at) p.1 is in
    let R : List ℕ → Type 0 = λ b. HasHeader w b head info in
    let now = subst R (sym (e.same tells)) (keeps_header c.args.walk.now w bytes head info e.walk (e.window tells) h) in
    let bad = c.in_err-found.ensures.refused tells head info now at (ap (λ (x : SearchErr). Err x) st) in
    let F : ℕ → Type 0 = λ n. BeginsFrom (take c.args.walk.now.len bytes) c.args.low c.args.middle n in
    let A : ℕ → Type 0 = λ n. HasNoSample info (λ t. Unit {0}) (drop n (take w.len (g.H.ReadAt.bytes c.start_from.new.file))) in
    let L : ℕ → Type 0 = λ n. HasNoSample info (λ t. Unit {0}) (drop at (take n (g.H.ReadAt.bytes c.start_from.new.file))) in
    let B : List ℕ → Type 0 = λ b. HasNoSample info (λ t. Unit {0}) (drop at (take c.args.walk.now.len b)) in
    (subst F (sym bad.0) (e.first tells h.window), subst B (e.same tells) (subst L (ap (λ (v : Walk). v.len) e.walk) (subst A (sym bad.0) bad.1)))

pub returns-clause-found : goal.returns-clause-found
returns-clause-found g c tells head info h =
    let bytes = g.H.ReadAt.bytes c.args.file.now in
    let w = c.start_from.new.walk in
    let e = c.in_ok-at.ensures in
    let f = c.in_ok-found.found in
    let r = c.in_ok-found.ensures in
    let R : List ℕ → Type 0 = λ b. HasHeader w b head info in
    let now = subst R (sym (e.same tells)) (keeps_header c.args.walk.now w bytes head info e.walk (e.window tells) h) in
    let F : ℕ → Type 0 = λ n. BeginsFrom (take c.args.walk.now.len bytes) c.args.low c.args.middle n in
    let L : ℕ → Type 0 = λ n. IsLineAt info (take n (g.H.ReadAt.bytes c.start_from.new.file)) f in
    let B : List ℕ → Type 0 = λ b. IsLineAt info (take c.args.walk.now.len b) f in
    (subst F (sym r.place.0) (e.first tells h.window), omega (arith, r.place.0, c.if-at-next.false), subst B (e.same tells) (subst L (ap (λ (v : Walk). v.len) e.walk) (r.line tells head info now)))

pub returns-clause-headed : goal.returns-clause-headed
returns-clause-headed g c tells head info h =
    let bytes = g.H.ReadAt.bytes c.args.file.now in
    let w = c.start_from.new.walk in
    let e = c.in_ok-at.ensures in
    let R : List ℕ → Type 0 = λ b. HasHeader w b head info in
    let S : List ℕ → Type 0 = λ b. HasHeader c.read_at.new.walk b head info in
    let now = subst R (sym (e.same tells)) (keeps_header c.args.walk.now w bytes head info e.walk (e.window tells) h) in
    subst S (e.same tells) (c.in_ok-found.ensures.headed tells head info now)
