use Rattle.std.proofs.Common.{◌≡◌, ◌+◌, ◌*◌, List, [], ◌∷◌, ◌++◌, ℕ, map, append-nil, append_assoc, arith, ap, sym, subst, ◌∙◌}
use Rattle.std.specs.List.{range_with_len}
use Rattle.line_escape.specs.Escaping.{escaped}
use Rattle.pb_messages.specs.Spelling.{event_text}
use Rattle.pb_lines.specs.File.{lines_of}
use Rattle.drill_feed.specs.Workload.{drawn, event, minutes, next_draw, sample_at, value_at}
use Rattle.drill_feed.proofs.Drawing.{drawn_more, drawn_on}
use Rattle.drill_feed.proofs.Ranges.{lines_more}
use Rattle.drill_feed.proofs.drill.Drill.put_samples.Goals as goal

pub loop-minute-init : goal.loop-minute-init
loop-minute-init c =
    let first : 4 * 0 + c.args.variable ≡ c.args.variable = omega arith in
    record { draws = rw first c.skip.ensures; written = sym (append-nil c.args.out.now.items) }

pub loop-minute-preserved : goal.loop-minute-preserved
loop-minute-preserved c =
    let hours = c.args.self.hours in
    let variable = c.args.variable in
    let minute = c.loop-minute.minute in
    let was = c.loop-minute.invariant in
    let out = c.loop-minute.out.items in
    let begun = c.args.out.now.items in
    let sent = lines_of (map (sample_at hours variable) (range_with_len 0 minute)) in
    let line = (sample_at hours variable minute).line ++ 10 ∷ [] in
    let value : c.next-value.result ≡ value_at hours variable minute =
    c.next-value.ensures.value ∙ ap next_draw was.draws ∙ sym (drawn_more hours (4 * minute + variable)) in
    record {
      draws = c.skip-in-loop-minute.ensures ∙ ap (λ (n : ℕ). drawn n 3) (c.next-value.ensures.last ∙ value) ∙ sym (drawn_on hours (4 * minute + variable + 1) 3) ∙ ap (λ (n : ℕ). drawn hours n) (omega arith);
      written = c.in_ok-put_sample.ensures ∙ ap (λ (n : ℕ). out ++ (escaped (event_text (event (60 * minute + variable) n)) ++ 10 ∷ [])) value
          ∙ ap (λ (b : List ℕ). b ++ line) was.written ∙ append_assoc begun sent line ∙ ap (λ (b : List ℕ). begun ++ b) (sym (lines_more (sample_at hours variable) minute));
    }

pub returns : goal.returns
returns c =
    let hours = c.args.self.hours in
    let end : c.loop-minute.minute ≡ minutes hours = omega (arith, c.loop-minute-test.false, c.loop-minute.auto.minute-end, c.minutes-minute-end.ensures) in
    subst (λ (n : ℕ). c.loop-minute.out.items ≡ c.args.out.now.items ++ lines_of (map (sample_at hours c.args.variable) (range_with_len 0 n))) end c.loop-minute.invariant.written
