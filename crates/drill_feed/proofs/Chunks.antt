-- The bytes of a feed are a stream and a file.
use Rattle.std.proofs.Common.{ℕ, ◌<◌, None, arith, refl}
use Rattle.std.specs.Int.{IsInRange}
use Rattle.line_escape.proofs.EscapingLemmas.{escaped-HasNoNewline}
use Rattle.pb_messages.specs.InfoSpelling.{info_text}
use Rattle.pb_lines.specs.File.{IsFile}
use Rattle.pb_lines.specs.Stream.{IsWholeStream}
use Rattle.drill_feed.specs.Workload.{chunk_text, head_of, header_of, items_of, samples}
use Rattle.drill_feed.proofs.Lines.{head_short, head_some, is_header_line}
use Rattle.drill_feed.proofs.Moments.{samples_many, samples_rising, samples_short}
use Rattle.drill_feed.proofs.Streams.{are_samples, is_stream}

pub chunk_streams : (hours variable : ℕ) → IsInRange 1 200 hours → variable < 4 → IsWholeStream (chunk_text hours variable) (items_of hours variable) None
chunk_streams hours variable range few =
    is_stream (header_of variable) (head_of variable) (samples hours variable) (escaped-HasNoNewline (info_text (header_of variable))) (is_header_line variable) (head_some variable) (head_short variable)
    (samples_short hours variable range few) (omega (arith, samples_many hours variable, range.1))

pub chunk_file : (hours variable : ℕ) → IsInRange 1 200 hours → variable < 4 → IsFile (chunk_text hours variable) (head_of variable) (header_of variable) (samples hours variable)
chunk_file hours variable range few = record {
  whole = escaped-HasNoNewline (info_text (header_of variable));
  header = is_header_line variable;
  lines = are_samples (header_of variable) (samples hours variable) (samples_short hours variable range few);
  rising = samples_rising hours variable;
  text = refl;
}
