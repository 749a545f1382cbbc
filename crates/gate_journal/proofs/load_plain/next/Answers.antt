use Rattle.std.proofs.Common.{◌≡◌, inl, inr, ℕ, ◌+◌, ◌<◌, ◌≤◌, List, length, take, drop, ◌∙◌, ap, sym, arith}
use Rattle.std.specs.Int.{to_le_bytes, w32}
use Rattle.disk_model.specs.Files.{Files}
use Rattle.gate_journal.specs.Window.{IsPiece}
use Rattle.gate_journal.proofs.Loading.{gate_shut, gate_open, length_is, cut_off, whole_batch, size_is}
use Rattle.gate_journal.proofs.load_plain.next.Goals as goal
use Rattle.gate_journal.proofs.load_plain.next.Goals.{then-left-lt5-via-then-left-lt5, then-left-lt5-via-else-left-lt5+then-left-len}

pub returns-then-head-ne-OPEN-clause-shut : goal.returns-then-head-ne-OPEN-clause-shut
returns-then-head-ne-OPEN-clause-shut g c tells b is nothing =
    let file = size_is (g.D.Disk.files c.args.disk.now) c.args.name.now (λ (b : List ℕ). (length b ≡ c.args.window.now.size) × IsPiece c.args.window.now b) b (c.requires.file tells) is in
    gate_shut b c.read.new.buf c.args.place c.in_ok-read.field-0 (omega (arith, file.0, c.requires.within)) (c.in_ok-read.ensures.count tells b is) (c.in_ok-read.ensures.front tells b is) c.if-head-ne-OPEN.true

pub returns-then-left-lt5-clause-bad : goal.returns-then-left-lt5-clause-bad
returns-then-left-lt5-clause-bad g c tells b is at failed =
    let file = size_is (g.D.Disk.files c.args.disk.now) c.args.name.now (λ (b : List ℕ). (length b ≡ c.args.window.now.size) × IsPiece c.args.window.now b) b (c.requires.file tells) is in
    let same_at : at ≡ c.args.place = cc failed in (
      same_at,
      cut_off b c.read.new.buf c.args.place c.in_ok-read.field-0 c.length_of-len.result (omega (arith, file.0, c.requires.within)) (c.in_ok-read.ensures.count tells b is) (c.in_ok-read.ensures.front tells b is) c.if-head-ne-OPEN.false c.length_of-len.ensures.value
          (elim c.then-left-lt5.branch [
            | then-left-lt5-via-then-left-lt5 w ↦ inl (omega (arith, file.0, w.if-left-lt5.true))
            | then-left-lt5-via-else-left-lt5+then-left-len w ↦ inr (omega (arith, file.0, w.if-left-len.true))
          ]),
    )

pub returns-clause-whole : goal.returns-clause-whole
returns-clause-whole g c tells b is =
    let file = size_is (g.D.Disk.files c.args.disk.now) c.args.name.now (λ (b : List ℕ). (length b ≡ c.args.window.now.size) × IsPiece c.args.window.now b) b (c.requires.file tells) is in
    let there = ap (λ (f : Files). f c.args.name.now) (c.read.ensures.reads tells).same ∙ is in
    let within : c.args.place < length b = omega (arith, file.0, c.requires.within) in
    let count = c.in_ok-read.ensures.count tells b is in
    let front = c.in_ok-read.ensures.front tells b is in
    let enough : c.args.place + 5 ≤ length b = omega (arith, file.0, c.if-left-lt5.false) in
    let long = c.in_ok-batch.ensures.long in
    whole_batch b (take 4 (drop 1 c.read.new.buf)) c.in_ok-batch.batch.items c.args.place
    (gate_open b c.read.new.buf c.args.place c.in_ok-read.field-0 within count front c.if-head-ne-OPEN.false)
    (length_is b c.read.new.buf c.args.place c.in_ok-read.field-0 enough count front)
    (ap (λ (n : ℕ). to_le_bytes w32 n) long ∙ c.length_of-len.ensures.bytes)
    (c.in_ok-batch.ensures.bytes tells b there ∙ ap (λ (n : ℕ). take n (drop (c.args.place + 5) b)) (sym long))
