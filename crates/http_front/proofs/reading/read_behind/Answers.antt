use Rattle.std.proofs.Common.{arith, ℕ}
use Rattle.std.proofs.lemmas.List.{length-take, length-drop}
use Rattle.http_front.proofs.ReadLemmas.{reads_behind}
use Rattle.http_front.proofs.reading.read_behind.Goals as goal

pub returns-clause-read : goal.returns-clause-read
returns-clause-read g c =
    let left = g.S.Source.left in
    reads_behind c.args.bytes.now c.read.new.buf c.args.len (left c.args.source.now) (left c.read.new.self) c.read.result c.requires.room (omega (arith, c.read.auto.buf, length-take {A = ℕ}, length-drop {A = ℕ})) c.read.ensures.bound c.read.ensures.bytes
