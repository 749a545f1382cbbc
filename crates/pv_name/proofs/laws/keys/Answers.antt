use Rattle.pv_name.proofs.Keys.{differ_in_separators, same_key}
use Rattle.pv_name.proofs.KeyNames.{keys_are_names, no_colon}
use Rattle.pv_name.proofs.laws.keys.Goals as goal

pub returns : goal.returns
returns c = record { one_key = λ a b. (differ_in_separators a b, same_key a b); names = keys_are_names; no_colon = no_colon }
