use Rattle.std.proofs.Common.{ap, ◌∙◌, sym, Option}
use Rattle.std.specs.Option.{option_map}
use Rattle.pb_lines.specs.declared.reader.Chunk.{Chunk}
use Rattle.pb_lines.specs.Reader.{Chunks}
use Rattle.pb_lines.proofs.Running.{holds_run, none_of}
use Rattle.pb_lines.proofs.reader.ChunkReader.find_run.Goals as goal

pub returns-clause-run : goal.returns-clause-run
returns-clause-run c =
    let view = c.self.view_is in
    let chunk = c.in-Some.chunk in
    let inside = sym (ap (λ (v : Chunks). v.section.chunk) view) ∙ ap (λ (o : Option Chunk). option_map (λ k. k.info) o) c.in-Some.is in
    let idle = ap (λ (v : Chunks). v.pending) (sym view) ∙ c.if-self.false in
    let going = ap (λ (v : Chunks). v.refused) (sym view) ∙ none_of c.self.inside.refused (sym c.is_some.ensures ∙ c.if-is_some.false) in
    holds_run c.args.self.now chunk.info chunk.year.year c.args.after c.args.to c.held.result.now c.run_of.result idle going inside chunk.same_year (c.held.ensures ∙ ap (λ (v : Chunks). v.lines.held) view) c.run_of.ensures
