-- Why a text as far as some samples is a front of the whole text, whatever events follow. An output owes this with its definitions.
use Rattle.std.proofs.Common.{ℕ, List, ◌++◌, Option, sym, append_assoc}
use Rattle.edge_io.proofs.Sending.{front_kept}
use Rattle.pb_lines.proofs.FileLines.{all_rest}
use Rattle.series_model.specs.declared.sample.Sample.{Sample}
use Rattle.act_model.specs.Event.{IsEvent, AreEvents}
use Rattle.act_model.specs.Out.{Subject}
use Rattle.retrieval_query.specs.declared.head.HeaderLines.{HeaderLines}
use Rattle.retrieval_query.specs.Writing.{Gives, Breaks}
use Rattle.retrieval_query.specs.Texts.{raw_front}

pub gives_breaks : (a b : Option (List ℕ)) (old new : List ℕ) (head : Option HeaderLines) (subject : Subject) (xs more : List Sample)
    → AreEvents subject.about.ty (xs ++ more) → Gives a b old new head subject xs → Breaks a b old subject (xs ++ more)
gives_breaks a b old new head subject xs more events gives =
    let ty = subject.about.ty in
    let raw = raw_front ty subject gives.has_head.here.info.year xs more gives.last gives.bytes gives.text (all_rest (IsEvent ty) xs more events) gives.has_head.nearest in
    record {
      text = gives.bytes ++ raw.0;
      raw = raw.1;
      front = rw (sym (append_assoc old gives.bytes raw.0)) (front_kept a b (old ++ gives.bytes) new raw.0 gives.sent);
    }
