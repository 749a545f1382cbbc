use Rattle.std.proofs.Common.{◌≢◌, [], rules}
use Rattle.sample_bins.proofs.Asking.{if_none, no_bin_width}
use Rattle.sample_bins.proofs.words.bin_width.Goals as goal

pub returns-clause-none : goal.returns-clause-none
returns-clause-none c =
    let some : c.args.rest.now ≢ [] = search rules in
    if_none c.suffix.result (no_bin_width c.args.rest.now some) c.suffix.ensures.none
