use Rattle.line_escape.specs.Escaping.{escaped}
use Rattle.line_escape.proofs.EscapingLemmas.{escaped-HasNoNewline, escaped-Means}
use Rattle.pb_messages.specs.InfoSpelling.{info_text}
use Rattle.pb_messages.proofs.InfoRoundTrip.{info_back}
use Rattle.pb_lines.proofs.FileMeaning as meaning
use Rattle.pb_file.proofs.laws.a_file_begins.Goals as goal

pub returns : goal.returns
returns c = record {
  any = meaning.begins;
  written = λ info fits. meaning.begins (escaped (info_text info)) info (escaped-HasNoNewline (info_text info)) (info_text info, escaped-Means (info_text info), info_back info fits);
}
