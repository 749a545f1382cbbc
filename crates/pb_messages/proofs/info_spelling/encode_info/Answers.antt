use Rattle.std.proofs.lemmas.Result.{on_ok_weaker}
use Rattle.arch_time.specs.YearTime.{IsSampleYear}
use Rattle.pb_messages.specs.InfoSpelling.{FitsInfo}
use Rattle.pb_messages.proofs.InfoRoundTrip.{info_back}
use Rattle.pb_messages.proofs.info_spelling.encode_info.Goals as goal

pub returns-else-is_err-clause-back : goal.returns-else-is_err-clause-back
returns-else-is_err-clause-back c = let info = c.args.info.now in on_ok_weaker c.put_info-done.result (λ (fits : IsSampleYear info.year → FitsInfo info) (year : IsSampleYear info.year). info_back info (fits year)) c.put_info-done.ensures.fits
