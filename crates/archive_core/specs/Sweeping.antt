-- How a sweep is answered.
use Rattle.std.specs.Prelude.{ℕ, Result, Ok, Err}
use Rattle.disk_model.specs.declared.disk.DiskErr.{DiskErr}
use Rattle.act_model.specs.Reply.{Reply}
use Rattle.act_model.specs.declared.acts.Answer.TheVariants as answer
use Rattle.tier_store.specs.declared.removing.StoreSwept.{StoreSwept}
use Rattle.archive_core.specs.Ends.{disk_reply}

-- what is answered where so many files left limbo, and are removed from the disk or not
abbrev pub removal_reply : ℕ → Result (Unit {0}) DiskErr → Reply
removal_reply files (Ok done) = answer.Swept files
removal_reply files (Err e) = answer.DiskFault

-- what is answered then, or where the sweep failed
abbrev pub sweep_reply : Result StoreSwept DiskErr → Reply
sweep_reply (Ok swept) = removal_reply swept.files swept.removed
sweep_reply (Err e) = disk_reply e
