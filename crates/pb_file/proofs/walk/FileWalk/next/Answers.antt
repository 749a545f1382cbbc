use Rattle.std.proofs.Common.{◌≡◌, ◌∙◌, refl, sym, ap, subst, List, ℕ, arith, take}
use Rattle.std.specs.Prelude.{IsSome}
use Rattle.std.specs.Option.{option_map}
use Rattle.pb_file.specs.declared.walk.Walked.{Walked}
use Rattle.pb_file.specs.Block.{window_of, IsWindowOf}
use Rattle.pb_file.specs.Walk.{Walk, Walks, Takes, behind}
use Rattle.pb_file.specs.Skip.{GoesOnFrom}
use Rattle.pb_file.proofs.Walking.{read_on, line_walks, torn_walks}
use Rattle.pb_file.proofs.Skipping.{skip_read_on, skip_line, skip_torn}
use Rattle.pb_file.proofs.walk.FileWalk.next.Goals as goal

pub returns-in-Line-clause-walked : goal.returns-in-Line-clause-walked
returns-in-Line-clause-walked g c tells front h =
    let file = g.H.ReadAt.bytes c.args.file.now in
    let block = c.read_line.new.self in
    let inside = c.self.inside in
    let line = c.read_line.new.line.items in
    let w : Walk = record { len = block.len; place = inside.place; info = option_map (λ x. x.info) inside.header; earliest = behind inside.last; stop = inside.stop; window = window_of block } in
    let same : w ≡ record c.args.self.now { window = window_of block } =
    ap (λ (n : ℕ). record w { len = n }) c.in-Line.ensures.len ∙ ap (λ (v : Walk). record v { window = window_of block }) c.self.view_is in
    let P : Walk → Type 0 = λ v. IsWindowOf v.window file in
    let T : List ℕ → Type 0 = λ l. Takes w l c.take.result c.take.new.self in
    let now = read_on c.args.self.now w file front same h (λ window. c.in-Line.ensures.window tells (subst P (sym c.self.view_is) window)) in
    line_walks w c.take.new.self file line front c.take.result c.in-Line.ensures.whole
    (record { long = omega (arith, ap (λ (v : Walk). v.len) same, c.requires.file tells); room = omega (arith, c.in-Line.ensures.room refl, c.in-Line.ensures.len); text = c.in-Line.ensures.line tells (subst P (sym c.self.view_is) h.window); window = now.window }) now (subst T c.deref.ensures.value c.take.ensures)

pub returns-in-Torn-clause-walked : goal.returns-in-Torn-clause-walked
returns-in-Torn-clause-walked g c tells front h =
    let file = g.H.ReadAt.bytes c.args.file.now in
    let block = c.read_line.new.self in
    let inside = c.self.inside in
    let line = c.read_line.new.line.items in
    let w : Walk = record { len = block.len; place = inside.place; info = option_map (λ x. x.info) inside.header; earliest = behind inside.last; stop = inside.stop; window = window_of block } in
    let same : w ≡ record c.args.self.now { window = window_of block } =
    ap (λ (n : ℕ). record w { len = n }) c.in-Torn.ensures.len ∙ ap (λ (v : Walk). record v { window = window_of block }) c.self.view_is in
    let P : Walk → Type 0 = λ v. IsWindowOf v.window file in
    let E : Walk → Type 0 = λ v. IsSome v.info × (v.place ≡ v.len) in
    let R : Walked → Type 0 = λ r. Walks front file line r c.refuse.new.self in
    let now = read_on c.args.self.now w file front same h (λ window. c.in-Torn.ensures.window tells (subst P (sym c.self.view_is) window)) in
    subst R (sym c.refuse.ensures.result) (torn_walks w c.refuse.new.self file line front (omega (arith, ap (λ (v : Walk). v.len) same, c.requires.file tells)) now (ap (λ (n : ℕ). take n file) c.in-Torn.ensures.len ∙ c.in-Torn.ensures.line tells (subst P (sym c.self.view_is) h.window)) c.in-Torn.ensures.whole
    (λ end.
    let is = c.is_at_end.ensures.1 (subst E same end) in
    let not = c.if-is_at_end.false in cc)
    (ap (λ (v : Walk). v.len) c.refuse.ensures.after))

pub returns-in-Line-clause-skipped : goal.returns-in-Line-clause-skipped
returns-in-Line-clause-skipped g c tells at front h =
    let file = g.H.ReadAt.bytes c.args.file.now in
    let block = c.read_line.new.self in
    let inside = c.self.inside in
    let line = c.read_line.new.line.items in
    let w : Walk = record { len = block.len; place = inside.place; info = option_map (λ x. x.info) inside.header; earliest = behind inside.last; stop = inside.stop; window = window_of block } in
    let same : w ≡ record c.args.self.now { window = window_of block } =
    ap (λ (n : ℕ). record w { len = n }) c.in-Line.ensures.len ∙ ap (λ (v : Walk). record v { window = window_of block }) c.self.view_is in
    let P : Walk → Type 0 = λ v. IsWindowOf v.window file in
    let T : List ℕ → Type 0 = λ l. Takes w l c.take.result c.take.new.self in
    let now = skip_read_on c.args.self.now w file at front same h (λ window. c.in-Line.ensures.window tells (subst P (sym c.self.view_is) window)) in
    skip_line w c.take.new.self file line at front c.take.result c.in-Line.ensures.whole
    (record { long = omega (arith, ap (λ (v : Walk). v.len) same, c.requires.file tells); room = omega (arith, c.in-Line.ensures.room refl, c.in-Line.ensures.len); text = c.in-Line.ensures.line tells (subst P (sym c.self.view_is) h.window); window = now.window }) now (subst T c.deref.ensures.value c.take.ensures)

pub returns-in-Torn-clause-skipped : goal.returns-in-Torn-clause-skipped
returns-in-Torn-clause-skipped g c tells at front h =
    let file = g.H.ReadAt.bytes c.args.file.now in
    let block = c.read_line.new.self in
    let inside = c.self.inside in
    let line = c.read_line.new.line.items in
    let w : Walk = record { len = block.len; place = inside.place; info = option_map (λ x. x.info) inside.header; earliest = behind inside.last; stop = inside.stop; window = window_of block } in
    let same : w ≡ record c.args.self.now { window = window_of block } =
    ap (λ (n : ℕ). record w { len = n }) c.in-Torn.ensures.len ∙ ap (λ (v : Walk). record v { window = window_of block }) c.self.view_is in
    let P : Walk → Type 0 = λ v. IsWindowOf v.window file in
    let E : Walk → Type 0 = λ v. IsSome v.info × (v.place ≡ v.len) in
    let R : Walked → Type 0 = λ r. GoesOnFrom at front file line r c.refuse.new.self in
    let now = skip_read_on c.args.self.now w file at front same h (λ window. c.in-Torn.ensures.window tells (subst P (sym c.self.view_is) window)) in
    subst R (sym c.refuse.ensures.result) (skip_torn w c.refuse.new.self file line at front (omega (arith, ap (λ (v : Walk). v.len) same, c.requires.file tells)) now (ap (λ (n : ℕ). take n file) c.in-Torn.ensures.len ∙ c.in-Torn.ensures.line tells (subst P (sym c.self.view_is) h.window)) c.in-Torn.ensures.whole
    (λ end.
    let is = c.is_at_end.ensures.1 (subst E same end) in
    let not = c.if-is_at_end.false in cc)
    (ap (λ (v : Walk). v.len) c.refuse.ensures.after))
