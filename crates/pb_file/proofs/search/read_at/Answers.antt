use Rattle.std.proofs.Common.{◌≡◌, ◌∙◌, ◌+◌, None, ℕ, sym, ap, subst, take, drop, length}
use Rattle.pb_lines.specs.File.{HasNoSample}
use Rattle.pb_file.specs.Walk.{Walk, with_sample}
use Rattle.pb_file.specs.Parting.{IsLineAt}
use Rattle.pb_file.proofs.Skipping.{headed}
use Rattle.pb_file.proofs.Reading.{bare, line_there, none_there}
use Rattle.pb_file.proofs.search.read_at.Goals as goal

pub returns-in-Sample-clause-line : goal.returns-in-Sample-clause-line
returns-in-Sample-clause-line g c tells head info h =
    let bytes = g.H.ReadAt.bytes c.args.file.now in
    let len = c.args.walk.now.len in
    let new = c.next.new.self in
    let line = c.next.new.line.items in
    let going : c.seek.new.self.stop ≡ None = ap (λ (w : Walk). w.stop) c.seek.ensures.moved in
    let gives = rw going at c.in-Sample.ensures.gives in
    let size : new.len ≡ len = ap (λ (w : Walk). w.len) gives.4 ∙ ap (λ (w : Walk). w.len) c.seek.ensures.moved in
    let place : new.place ≡ c.args.at + length line + 1 = ap (λ (w : Walk). w.place) gives.4 ∙ ap (λ (w : Walk). w.place + length line + 1) c.seek.ensures.moved in
    let E : ℕ → Type 0 = λ n. IsLineAt info (take len bytes) (record { at = c.args.at; t = c.in-Sample.t; end = n }) in
    subst E (sym c.place.ensures.place) (line_there new bytes line head info len c.args.at c.in-Sample.t (c.requires.file tells) size place (c.in-Sample.ensures.skipped tells c.args.at (bare head info) (c.seek.ensures.skipped bytes head info h)))

pub returns-in-Sample-clause-headed : goal.returns-in-Sample-clause-headed
returns-in-Sample-clause-headed g c tells head info h =
    let bytes = g.H.ReadAt.bytes c.args.file.now in
    headed c.next.new.self bytes c.args.at (with_sample (bare head info) c.in-Sample.t c.next.new.line.items) (c.in-Sample.ensures.skipped tells c.args.at (bare head info) (c.seek.ensures.skipped bytes head info h))

pub returns-in-Damaged-clause-refused : goal.returns-in-Damaged-clause-refused
returns-in-Damaged-clause-refused g c tells head info h bad is =
    let bytes = g.H.ReadAt.bytes c.args.file.now in
    let new = c.next.new.self in
    let going : c.seek.new.self.stop ≡ None = ap (λ (w : Walk). w.stop) c.seek.ensures.moved in
    let gives = rw going at c.in-Damaged.ensures.gives in
    let size : new.len ≡ c.args.walk.now.len = ap (λ (w : Walk). w.len) gives.1 ∙ ap (λ (w : Walk). w.len) c.seek.ensures.moved in
    let here : c.in-Damaged.at ≡ c.args.at = gives.0 ∙ ap (λ (w : Walk). w.place) c.seek.ensures.moved in
    let same : c.in-Damaged.at ≡ bad = cc in
    let none = c.in-Damaged.ensures.skipped tells c.args.at (bare head info) (c.seek.ensures.skipped bytes head info h) in
    let A : ℕ → Type 0 = λ n. HasNoSample info (λ t. Unit {0}) (drop n (take new.len bytes)) in
    let L : ℕ → Type 0 = λ n. HasNoSample info (λ t. Unit {0}) (drop c.args.at (take n bytes)) in
    (sym same ∙ here, subst L size (subst A here (none_there info (drop c.in-Damaged.at (take new.len bytes)) none)))
