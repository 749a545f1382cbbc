use Rattle.std.proofs.Common.{◌≡◌, ◌⊎◌, inl, inr, ◌<◌, ℕ, List, length, take, drop, get_or, Some, sym, ◌∙◌, ap, subst, arith}
use Rattle.line_escape.specs.Unescaping.{HasNoNewline}
use Rattle.disk_model.specs.Files.{Files}
use Rattle.etl_mover.proofs.Taking.{is_chunk}
use Rattle.etl_mover.proofs.reading.read_lines.Goals as goal
use Rattle.etl_mover.proofs.reading.read_lines.Goals.{then-end-len-via-then-end-len, then-end-len-via-else-end-len+then-want-rest}

pub returns-then-end-len-clause-chunk : goal.returns-then-end-len-clause-chunk
returns-then-end-len-clause-chunk g c tells b is =
    let bytes = c.in_ok-bytes.bytes.items in
    let end = c.line_len-end.result in
    let now : g.D.Disk.files c.loop-bytes.disk c.args.name.now ≡ Some b = ap (λ (f : Files). f c.args.name.now) (c.loop-bytes.invariant.reads tells).same ∙ is in
    let seen : c.deref.result.now ≡ bytes = c.deref.ensures.value in
    let long : c.len.result ≡ length bytes = c.len.ensures ∙ c.in_ok-bytes.bytes.ok.0 in
    let enough : (end < length bytes) ⊎ (c.loop-bytes.want ≡ c.args.rest) = elim c.then-end-len.branch [
      | then-end-len-via-then-end-len w ↦ inl (omega (arith, w.if-end-len.true, long))
      | then-end-len-via-else-end-len+then-want-rest w ↦ inr w.if-want-rest.true
    ] in
    is_chunk (drop c.args.from b) c.loop-bytes.want c.args.rest 1_048_576 end bytes c.cut_to_line.new.bytes.items c.loop-bytes.invariant.within (c.in_ok-bytes.ensures.bytes tells b now)
    (subst (λ (l : List ℕ). HasNoNewline (take end l)) seen c.line_len-end.ensures.line)
    (λ lt. ap (λ (l : List ℕ). get_or l end 0) (sym seen) ∙ c.line_len-end.ensures.stop (subst (λ (l : List ℕ). end < length l) (sym seen) lt))
    enough c.cut_to_line.ensures
