use Rattle.std.proofs.Common.{drop, ◌-◌, ◌∙◌, ap, take}
use Rattle.disk_model.specs.Files.{Files}
use Rattle.etl_mover.proofs.Taking.{chunk_takes}
use Rattle.etl_mover.proofs.stepping.read_part.Goals as goal

pub returns-clause-takes : goal.returns-clause-takes
returns-clause-takes g c tells b is =
    let head = take c.args.part.now.head_len b in
    let bytes = c.in_ok-head.ensures.bytes tells b is in
    let now = ap (λ (f : Files). f c.args.name.now) (c.in_ok-head.ensures.reads tells).same ∙ is in
    let chunk = c.in_ok-lines.lines.items in
    let lines = c.take_part.new.lines.items in (
      bytes,
      chunk_takes head (drop c.args.from b) (c.args.len - c.args.from) 1_048_576 chunk lines c.args.entry.now c.in_ok-entry.entry (c.in_ok-lines.ensures.chunk tells b now) c.in_ok-entry.ensures.front c.in_ok-entry.ensures.some
          (λ line info are whole header. c.in_ok-entry.ensures.takes line info (c.deref.ensures.value ∙ (bytes ∙ are)) whole header) c.in_ok-entry.ensures.longer,
    )
