use Rattle.store_reopen.proofs.Verdicts.{held_whole}
use Rattle.store_reopen.proofs.laws.an_image_that_stands_is_whole.Goals as goal

pub returns : goal.returns
returns c = held_whole
