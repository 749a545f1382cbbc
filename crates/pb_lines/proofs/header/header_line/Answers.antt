use Rattle.std.proofs.Common.{◌≡◌, Ok}
use Rattle.std.proofs.lemmas.Result.{on_ok_weaker}
use Rattle.arch_time.specs.YearTime.{IsSampleYear}
use Rattle.line_escape.proofs.EscapingLemmas.{escaped-Means}
use Rattle.pb_messages.specs.Info.{info_of}
use Rattle.pb_messages.specs.InfoSpelling.{info_text}
use Rattle.pb_lines.proofs.header.header_line.Goals as goal

pub returns-else-is_err-clause-back : goal.returns-else-is_err-clause-back
returns-else-is_err-clause-back c = let info = c.args.info.now in on_ok_weaker c.add_header_line-done.result (λ (back : IsSampleYear info.year → info_of (info_text info) ≡ Ok info) (year : IsSampleYear info.year). (info_text info, escaped-Means (info_text info), back year)) c.add_header_line-done.ensures.back
