use Rattle.std.proofs.Common.{◌≡◌, List, [], ◌∷◌, ◌++◌, ℕ, None, append_assoc, ap, sym, subst, ◌∙◌}
use Rattle.line_escape.specs.Escaping.{escaped}
use Rattle.pb_messages.specs.declared.info.PayloadInfo.{PayloadInfo}
use Rattle.pb_messages.specs.InfoSpelling.{info_text}
use Rattle.pb_lines.specs.File.{lines_of}
use Rattle.pb_lines.specs.Stream.{IsWholeStream}
use Rattle.drill_feed.specs.Workload.{chunk_text, head_of, items_of, samples}
use Rattle.drill_feed.proofs.Chunks.{chunk_streams}
use Rattle.drill_feed.proofs.drill.Drill.chunk.Goals as goal

pub returns-clause-stream : goal.returns-clause-stream
returns-clause-stream c =
    let hours = c.args.self.hours in
    let variable = c.args.variable in
    let lines = lines_of (samples hours variable) in
    let head : c.header_line.new.out.items ≡ head_of variable ++ 10 ∷ [] =
    c.in_ok-header_line.ensures.ok ∙ ap (λ (b : List ℕ). b ++ (escaped (info_text c.in_ok-header_of.field-0) ++ 10 ∷ [])) c.new-bytes.ensures.items
    ∙ ap (λ (info : PayloadInfo). escaped (info_text info) ++ 10 ∷ []) c.in_ok-header_of.ensures in
    let bytes : c.put_samples.new.out.items ≡ chunk_text hours variable =
    c.in_ok-put_samples.ensures ∙ ap (λ (b : List ℕ). b ++ lines) head ∙ append_assoc (head_of variable) (10 ∷ []) lines in
    subst (λ (b : List ℕ). IsWholeStream b (items_of hours variable) None) (sym bytes) (chunk_streams hours variable c.args.self.hours_in c.requires)
