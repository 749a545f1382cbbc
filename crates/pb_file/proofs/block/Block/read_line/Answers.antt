use Rattle.std.proofs.Common.{◌≡◌, ◌∙◌, refl, sym, arith, ap, subst, List, ℕ, length, take, ◌+◌}
use Rattle.std.proofs.lemmas.List.{length-append}
use Rattle.pb_file.specs.Block.{window_of, IsWindowOf}
use Rattle.pb_file.proofs.Blocks.{line_ends, window_ends, both_whole}
use Rattle.pb_file.proofs.block.Block.read_line.Goals as goal

pub returns-in-Whole-clause-line : goal.returns-in-Whole-clause-line
returns-in-Whole-clause-line g c tells window =
    let file = g.H.ReadAt.bytes c.args.file.now in
    let told = c.pieces.invariant.told tells window in
    let same = c.pieces.invariant.same tells in
    let P : List ℕ → Type 0 = λ b. IsWindowOf (window_of c.pieces.self) b in
    let Q : List ℕ → Type 0 = λ b. IsWindowOf (window_of c.have.new.self) b in
    let held = subst Q same (c.in-More.ensures.window tells (subst P (sym same) told.1)) in
    let w = c.in-Whole.ensures in
    line_ends (window_of c.have.new.self) file c.pieces.line.items w.0 w.1 c.take_line.new.line.items c.from.result.now c.args.at c.pieces.place held (c.in-More.ensures.start refl) (omega (arith, c.in-More.ensures.end refl)) c.pieces.invariant.place told.0 c.from.ensures.bytes w.2 w.4

pub returns-in-Whole-clause-whole : goal.returns-in-Whole-clause-whole
returns-in-Whole-clause-whole g c =
    let w = c.in-Whole.ensures in
    both_whole c.pieces.line.items w.0 c.take_line.new.line.items c.pieces.invariant.whole w.3 w.4

pub pieces-preserved : goal.pieces-preserved
pieces-preserved g c =
    let file = g.H.ReadAt.bytes c.args.file.now in
    let w = c.in-Part.ensures in
    let P : List ℕ → Type 0 = λ b. IsWindowOf (window_of c.pieces.self) b in
    let Q : List ℕ → Type 0 = λ b. IsWindowOf (window_of c.have.new.self) b in
    record {
      place = omega (arith, c.from.ensures.count, c.len.ensures, c.pieces.invariant.place, ap length w.1 ∙ length-append c.pieces.line.items c.from.result.now);
      within = omega (arith, c.len.ensures, c.have.new.self.within);
      whole = both_whole c.pieces.line.items c.from.result.now c.take_line.new.line.items c.pieces.invariant.whole w.0 w.1;
      told = λ tells window.
          let told = c.pieces.invariant.told tells window in
          let same = c.pieces.invariant.same tells in
          let held = subst Q same (c.in-More.ensures.window tells (subst P (sym same) told.1)) in
          let ends = window_ends (window_of c.have.new.self) file c.pieces.line.items c.take_line.new.line.items c.from.result.now c.args.at c.pieces.place held (c.in-More.ensures.start refl) (omega (arith, c.in-More.ensures.end refl)) told.0 c.from.ensures.bytes w.1 in
          let all : c.have.new.self.start + c.len.result ≡ c.have.new.self.start + length c.have.new.self.bytes.items = omega (arith, c.len.ensures) in
          (ap (λ (n : ℕ). take n file) all ∙ ends, held);
      same = λ tells. c.in-More.ensures.same tells ∙ c.pieces.invariant.same tells;
      leaves = g.met.H.ReadAt.leaves_then c.args.file.now c.pieces.file c.have.new.file c.pieces.invariant.leaves c.in-More.ensures.leaves;
      faults = omega (arith, c.in-More.ensures.faults, c.pieces.invariant.faults);
      len = c.in-More.ensures.len ∙ c.pieces.invariant.len;
    }
