use Rattle.std.proofs.Common.{ℕ, List, sym, subst}
use Rattle.pv_name.specs.Name.{IsRefusal}
use Rattle.pv_name.specs.Key.{key_of}
use Rattle.pv_catalog.specs.Rows.{HasKey}
use Rattle.store_reopen.proofs.AdoptedDisk.{has_key, no_key}
use Rattle.store_reopen.proofs.strays.row_of_key.Goals as goal

pub returns-in-Ok-clause-only : goal.returns-in-Ok-clause-only
returns-in-Ok-clause-only c i row here is = c.row_of.ensures.only i (subst (λ (n : List ℕ). HasKey c.args.catalogue.now.rows i (key_of n)) (sym c.in-Ok.ensures.ok.0) (has_key c.args.catalogue.now.rows i row c.args.key.now here is))

pub returns-in-Err-BadName-clause-only : goal.returns-in-Err-BadName-clause-only
returns-in-Err-BadName-clause-only c i row here is = absurd (no_key c.args.catalogue.now.rows c.args.key.now c.in-Err-BadName.field-0-0 c.requires.rows (subst (IsRefusal c.args.key.now) c.in-Err-BadName.field-0-is c.in-Err-BadName.ensures.err) i row here is)
