use Rattle.std.proofs.Common.{◌≡◌, ◌∙◌, Err, List, ℕ, sym, ap, subst, take}
use Rattle.std.specs.Prelude.{IfOk}
use Rattle.std.proofs.lemmas.Result.{err_from_is_err_and}
use Rattle.pb_file.specs.declared.search.SearchErr.{SearchErr}
use Rattle.pb_file.specs.declared.search.SearchErr.TheVariants as search_err
use Rattle.pb_lines.specs.File.{IsFile, HasNoHeader}
use Rattle.pb_file.specs.Walk.{Walk}
use Rattle.pb_file.specs.Skip.{HasHeader}
use Rattle.pb_file.specs.Parting.{AreBegins, AreLineStarts}
use Rattle.pb_file.proofs.Skipping.{walked_header}
use Rattle.pb_file.proofs.Starts.{header_at, header_of, no_header_there}
use Rattle.pb_file.proofs.Reading.{same_err}
use Rattle.pb_file.proofs.search.part.Goals as goal

pub returns-in_err-read_header-clause-refused : goal.returns-in_err-read_header-clause-refused
returns-in_err-read_header-clause-refused g c tells at is =
    let bytes = g.H.ReadAt.bytes c.args.file.now in
    let start = c.new-walk.ensures.start in
    let p = err_from_is_err_and c.from_residual.result c.from_residual.ensures.1 in
    let st : c.in_err-read_header.field-0.0 ≡ search_err.Damaged at = sym p.2 ∙ same_err c.from_residual.result p.0 (search_err.Damaged at) p.1 is in
    let bad = c.in_err-read_header.ensures.refused tells (c.new-walk.ensures.walked bytes) at (ap (λ (x : SearchErr). Err x) st) in
    let zero : at ≡ 0 = bad.1 ∙ ap (λ (w : Walk). w.place) start in
    let L : ℕ → Type 0 = λ n. HasNoHeader (take n bytes) in
    (zero, subst L (ap (λ (w : Walk). w.len) start) (no_header_there (take c.new-walk.result.len bytes) at zero bad.0))

pub returns-clause-parted : goal.returns-clause-parted
returns-clause-parted g c tells head info samples file first =
    let bytes = g.H.ReadAt.bytes c.args.file.now in
    let later = g.H.ReadAt.bytes c.read_header.new.file in
    let e = c.in_ok-read_header.ensures in
    let w = c.read_header.new.walk in
    let size : w.len ≡ c.args.len = e.len ∙ ap (λ (v : Walk). v.len) c.new-walk.ensures.start in
    let begun = e.begun tells (c.new-walk.ensures.walked bytes) in
    let same = e.same tells in
    let H : List ℕ → Type 0 = λ b. HasHeader w b head info in
    let F : List ℕ → Type 0 = λ b. IsFile (take w.len b) head info samples in
    let L : ℕ → Type 0 = λ n. IsFile (take n bytes) head info samples in
    c.halve.ensures.parted tells head info samples (subst H (sym same) (header_of w bytes c.args.len begun.0 head info samples size begun.1 file)) (subst F (sym same) (subst L (sym size) file)) first

pub returns-clause-start : goal.returns-clause-start
returns-clause-start g c tells =
    let bytes = g.H.ReadAt.bytes c.args.file.now in
    let e = c.in_ok-read_header.ensures in
    let w = c.read_header.new.walk in
    let size : w.len ≡ c.args.len = e.len ∙ ap (λ (v : Walk). v.len) c.new-walk.ensures.start in
    let begun = e.begun tells (c.new-walk.ensures.walked bytes) in
    let same = e.same tells in
    let H : List ℕ → Type 0 = λ b. HasHeader w b begun.0.head begun.0.info in
    let starts = c.halve.ensures.start tells begun.0.head begun.0.info (subst H (sym same) (walked_header w bytes begun.0 begun.1)) in
    let B : List ℕ → Type 0 = λ b. IfOk c.halve.result (λ p. AreLineStarts (take w.len b) c.args.head_len p) in
    let L : ℕ → Type 0 = λ n. IfOk c.halve.result (λ p. AreLineStarts (take n bytes) c.args.head_len p) in
    subst L size (subst B same starts)

pub returns-clause-begins : goal.returns-clause-begins
returns-clause-begins g c tells head info b =
    let bytes = g.H.ReadAt.bytes c.args.file.now in
    let e = c.in_ok-read_header.ensures in
    let w = c.read_header.new.walk in
    let size : w.len ≡ c.args.len = e.len ∙ ap (λ (v : Walk). v.len) c.new-walk.ensures.start in
    let begun = e.begun tells (c.new-walk.ensures.walked bytes) in
    let same = e.same tells in
    let H : List ℕ → Type 0 = λ b. HasHeader w b head info in
    let B : List ℕ → Type 0 = λ b. IfOk c.halve.result (λ p. AreBegins info (take w.len b) c.args.head_len p) in
    let L : ℕ → Type 0 = λ n. IfOk c.halve.result (λ p. AreBegins info (take n bytes) c.args.head_len p) in
    subst L size (subst B same (c.halve.ensures.begins tells head info (subst H (sym same) (header_at w bytes c.args.len begun.0 head info size begun.1 b))))

pub returns-clause-refused : goal.returns-clause-refused
returns-clause-refused g c tells at is = absurd (c.halve.ensures.never at is)
