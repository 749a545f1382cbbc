use Rattle.std.proofs.Common.{Some, ap, ◌∙◌, sym, Option, false}
use Rattle.std.specs.Option.{option_map}
use Rattle.pb_lines.specs.declared.reader.Chunk.{Chunk}
use Rattle.pb_lines.specs.declared.fault.ChunkFault.TheVariants.{BadLine}
use Rattle.pb_lines.specs.Reader.{Chunks}
use Rattle.pb_lines.proofs.reader.ChunkReader.take_sample.Goals as goal

pub returns-in-Err-Fault : goal.returns-in-Err-Fault
returns-in-Err-Fault c =
    let view = c.self.view_is in
    let chunk = c.in-Some.chunk in
    let line = c.line.ensures ∙ ap (λ (v : Chunks). v.lines.line) view in
    let inside = sym (ap (λ (v : Chunks). v.section.chunk) view) ∙ ap (λ (o : Option Chunk). option_map (λ k. k.info) o) c.in-Some.is in
    let fault = rw (chunk.same_year, line) at (rw c.in-Err-Fault.field-0-is at c.in-Err-Fault.ensures.err) in
    ((chunk.info, inside, c.requires.some, fault), ap (λ (v : Chunks). record { lines = v.lines; pending = false; section = v.section; refused = Some (BadLine c.in-Err-Fault.fault) }) view)
