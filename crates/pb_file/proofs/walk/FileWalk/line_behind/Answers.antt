use Rattle.std.proofs.Common.{◌≡◌, arith, refl, sym, ap, subst, ◌∙◌, take, ℕ}
use Rattle.pb_file.specs.Block.{IsWindowOf}
use Rattle.pb_file.specs.Walk.{Walk}
use Rattle.pb_file.proofs.Skipping.{behind_line, behind_end}
use Rattle.pb_file.proofs.walk.FileWalk.line_behind.Goals as goal

pub returns-in-Line-clause-line : goal.returns-in-Line-clause-line
returns-in-Line-clause-line g c tells window =
    let file = g.H.ReadAt.bytes c.args.file.now in
    let len = ap (λ (w : Walk). w.len) c.self.view_is in
    let P : Walk → Type 0 = λ v. IsWindowOf v.window file in
    behind_line file c.read_line.new.line.items c.args.place c.args.self.now.len c.len.result c.in-Line.ensures.whole (omega (arith, len, c.in-Line.ensures.room refl)) (c.requires.file tells) (c.in-Line.ensures.line tells (subst P (sym c.self.view_is) window)) (omega (arith, c.len.ensures))

pub returns-in-Torn-clause-line : goal.returns-in-Torn-clause-line
returns-in-Torn-clause-line g c tells window =
    let file = g.H.ReadAt.bytes c.args.file.now in
    let len = ap (λ (w : Walk). w.len) c.self.view_is in
    let P : Walk → Type 0 = λ v. IsWindowOf v.window file in
    let same : c.self.inside.block.len ≡ c.args.self.now.len = len in
    behind_end file c.read_line.new.line.items c.args.place c.args.self.now.len c.read_line.new.self.len c.in-Torn.ensures.whole (omega (arith, c.requires.within)) (c.requires.file tells) (ap (λ (n : ℕ). take n file) (sym same) ∙ c.in-Torn.ensures.line tells (subst P (sym c.self.view_is) window)) (c.in-Torn.ensures.len ∙ same)
