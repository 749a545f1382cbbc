use Rattle.std.proofs.Common.{◌≡◌, ap, ◌∙◌, sym, subst, refl, map, arith}
use Rattle.pb_lines.specs.Stream.{sample}
use Rattle.pb_lines.specs.Reader.{Chunks, Passes, to_come}
use Rattle.pb_lines.specs.Run.{samples_of}
use Rattle.pb_lines.proofs.Running.{last_line, taken, taken_within, passes_run}
use Rattle.pb_lines.proofs.reader.ChunkReader.take_run.Goals as goal

pub pass_lines-requires : goal.pass_lines-requires
pass_lines-requires c =
    let lines : c.self.inside.lines ≡ c.args.self.now.lines = ap (λ (v : Chunks). v.lines) c.self.view_is in
    let h = c.requires.2 in
    let l = last_line h.info.ty h.info.year c.requires.0 c.requires.1 c.args.self.now.lines.held c.args.run h.is in
    rw lines (record { within = h.is.within; last = l.last; newline = l.newline; count = l.count })

pub returns-clause-takes : goal.returns-clause-takes
returns-clause-takes c =
    let view = c.self.view_is in
    let h = c.requires.2 in
    let lines : c.self.inside.lines ≡ c.args.self.now.lines = ap (λ (v : Chunks). v.lines) view in
    let l = c.pass_lines.new.self in
    let some = (last_line h.info.ty h.info.year c.requires.0 c.requires.1 c.args.self.now.lines.held c.args.run h.is).last in
    taken c.args.self.now _ l c.args.run (ap (λ (v : Chunks). record v { lines = l }) view) h.idle (rw lines at c.pass_lines.ensures.held) (rw lines at c.pass_lines.ensures.number) (rw lines at c.pass_lines.ensures.passed) c.pass_lines.ensures.bound (omega (arith, some))

pub returns-clause-passes : goal.returns-clause-passes
returns-clause-passes c after to h left =
    let view = c.self.view_is in
    let lines : c.self.inside.lines ≡ c.args.self.now.lines = ap (λ (v : Chunks). v.lines) view in
    let l = c.pass_lines.new.self in
    let some = (last_line h.info.ty h.info.year after to c.args.self.now.lines.held c.args.run h.is).last in
    let new : Chunks = record c.args.self.now { lines = l } in
    let t = taken c.args.self.now new l c.args.run refl h.idle (rw lines at c.pass_lines.ensures.held) (rw lines at c.pass_lines.ensures.number) (rw lines at c.pass_lines.ensures.passed) c.pass_lines.ensures.bound (omega (arith, some)) in
    let passes = passes_run c.args.self.now new after to c.args.run h t h.idle (taken_within new h.idle c.pass_lines.ensures.bound) left in
    let P : Chunks → Type 0 = λ n. Passes c.args.self.now n (to_come c.args.self.now left) (to_come n left) (map sample (samples_of h.is)) in
    subst P (sym (ap (λ (v : Chunks). record v { lines = l }) view)) passes

pub returns-clause-line : goal.returns-clause-line
returns-clause-line c after to h =
    let lines : c.self.inside.lines ≡ c.args.self.now.lines = ap (λ (v : Chunks). v.lines) c.self.view_is in
    (rw lines at c.pass_lines.ensures.line) ∙ (last_line h.info.ty h.info.year after to c.args.self.now.lines.held c.args.run h.is).line
